use Rattle.nm_safety.proofs.Slots.{lost_holds, restarted_holds}
use Rattle.nm_safety.proofs.change_sets.closed_links_keep_all.Goals as goal

pub returns-clause-lost : goal.returns-clause-lost
returns-clause-lost g c = λ change members decided entries slot devices device link in_step of_journal all.
    lost_holds change decided devices slot all members entries in_step of_journal device link

pub returns-clause-restarted : goal.returns-clause-restarted
returns-clause-restarted g c = λ change members decided entries slot devices device in_step of_journal all.
    restarted_holds change decided devices slot all members entries in_step of_journal device
