use Rattle.std.proofs.Common.{◌≡◌, length}
use Rattle.nm_access.specs.Covers.{covers}
use Rattle.nm_access.proofs.covers.covers_steps.Given as goal

abbrev pub invariant-steps : goal.invariant-steps
invariant-steps l = covers l.steps l.others ≡ covers l.path l.row

abbrev pub decreases-steps : goal.decreases-steps
decreases-steps l = length l.steps
