use Rattle.nm_resync.proofs.Known.{not_kept}
use Rattle.nm_resync.proofs.laws.what_is_aborted_is_not_kept.Goals as goal

pub returns : goal.returns
returns c kept replies h = not_kept kept replies h
