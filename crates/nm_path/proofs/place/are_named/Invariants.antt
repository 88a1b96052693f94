use Rattle.std.proofs.Common.{◌≡◌, length}
use Rattle.nm_path.specs.declared.place.Place.TheVariants.{Top}
use Rattle.nm_path.specs.Spelling.{are_named}
use Rattle.nm_path.proofs.place.are_named.Given as goal

abbrev pub invariant-steps : goal.invariant-steps
invariant-steps l = are_named l.schema.nodes l.place l.rest ≡ are_named l.schema.nodes Top l.steps

abbrev pub decreases-steps : goal.decreases-steps
decreases-steps l = length l.rest
