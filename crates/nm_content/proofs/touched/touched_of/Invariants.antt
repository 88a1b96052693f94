use Rattle.std.proofs.Common.{◌≡◌, ◌++◌, List, Option, map, drop}
use Rattle.nm_types.specs.Path.{PathStep}
use Rattle.nm_types.specs.declared.value.Value.{Value}
use Rattle.nm_content.proofs.touched.touched_of.Given as goal

abbrev pub path_in : List PathStep × Option Value → List PathStep
path_in pair = pair.0

abbrev pub invariant-loop-path : goal.invariant-loop-path
invariant-loop-path l = l.touched.items ++ map path_in (drop l.path-index l.pairs) ≡ map path_in l.pairs
