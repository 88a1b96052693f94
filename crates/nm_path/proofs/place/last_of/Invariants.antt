use Rattle.std.proofs.Common.{◌≡◌, length, None}
use Rattle.nm_path.specs.declared.place.Place.TheVariants.{Top}
use Rattle.nm_path.specs.Spelling.{node_from}
use Rattle.nm_path.proofs.place.last_of.Given as goal

abbrev pub invariant-steps : goal.invariant-steps
invariant-steps l = node_from l.schema.nodes l.place l.last l.rest ≡ node_from l.schema.nodes Top None l.path

abbrev pub decreases-steps : goal.decreases-steps
decreases-steps l = length l.rest
