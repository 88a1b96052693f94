use Rattle.std.proofs.Common.{◌≡◌, ◌++◌, map, drop}
use Rattle.nm_validate_places.specs.Groups.{in_group}
use Rattle.nm_validate_places.proofs.areas.copies.Given as goal

abbrev pub invariant-loop-path : goal.invariant-loop-path
invariant-loop-path l = l.paths.items ++ map (λ path. path.now) (drop l.path-index l.path-items) ≡ in_group l.groups l.at
