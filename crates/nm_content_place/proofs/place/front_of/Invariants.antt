use Rattle.std.proofs.Common.{◌≡◌, ◌++◌, length}
use Rattle.nm_validate_rules.specs.Guards.{front}
use Rattle.nm_content_place.proofs.place.front_of.Given as goal

-- the steps so far and the front of those that are left make the front of all
abbrev pub invariant-steps : goal.invariant-steps
invariant-steps l = l.steps.items ++ front l.rest ≡ front l.path

abbrev pub decreases-steps : goal.decreases-steps
decreases-steps l = length l.rest
