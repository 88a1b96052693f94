use Rattle.std.proofs.Common.{◌≡◌, ◌+◌, ◌≤◌, length}
use Rattle.nm_validate.specs.Places.{shared_places}
use Rattle.nm_validate.proofs.places.shared_places.Given as goal

abbrev pub invariant-steps : goal.invariant-steps
invariant-steps l = (l.count + shared_places l.ours l.theirs ≡ shared_places l.one l.other) × (l.count + length l.ours ≤ length l.one)

abbrev pub decreases-steps : goal.decreases-steps
decreases-steps l = length l.ours
