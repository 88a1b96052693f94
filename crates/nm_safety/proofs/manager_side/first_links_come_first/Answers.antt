use Rattle.nm_safety.proofs.Orders.{first_is_current, awaited_is_asked, told_lock_held}
use Rattle.nm_safety.proofs.manager_side.first_links_come_first.Goals as goal

pub returns-clause-current : goal.returns-clause-current
returns-clause-current g c = λ change seat side r link before pair here. first_is_current change seat side r before pair link here

pub returns-clause-order : goal.returns-clause-order
returns-clause-order g c = λ change seat side r link before pair here. awaited_is_asked change seat side r before pair link here

pub returns-clause-locked : goal.returns-clause-locked
returns-clause-locked g c = told_lock_held
