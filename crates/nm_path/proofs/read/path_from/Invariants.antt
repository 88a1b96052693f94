use Rattle.std.proofs.Common.{◌≡◌, length}
use Rattle.nm_path.specs.declared.place.Place.TheVariants.{Top}
use Rattle.nm_path.specs.Reading.{all_with_front, path_from}
use Rattle.nm_path.proofs.read.path_from.Given as goal

abbrev pub invariant-steps : goal.invariant-steps
invariant-steps l = all_with_front l.all.items (path_from l.schema.nodes l.place l.rest) ≡ path_from l.schema.nodes Top l.steps

abbrev pub decreases-steps : goal.decreases-steps
decreases-steps l = length l.rest
