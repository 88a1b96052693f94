use Rattle.nm_resync.proofs.Known.{leads_on}
use Rattle.nm_resync.proofs.laws.fitting_replies_end_it.Goals as goal

pub returns : goal.returns
returns c commit stage told n h = leads_on commit stage told n h
