use Rattle.std.proofs.Common.{◌≡◌, ◌++◌, ◌==◌, not, drop}
use Rattle.std.specs.Prelude.{filter}
use Rattle.nm_validate_places.proofs.cases.others_in.Given as goal

abbrev pub invariant-loop-other : goal.invariant-loop-other
invariant-loop-other l = l.all.items ++ filter (λ other. not (other == l.at)) (drop l.other-index l.nodes) ≡ filter (λ other. not (other == l.at)) l.nodes
