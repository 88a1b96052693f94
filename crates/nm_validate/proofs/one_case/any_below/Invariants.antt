use Rattle.std.proofs.Common.{◌≡◌, drop}
use Rattle.nm_validate.specs.Others.{any_in}
use Rattle.nm_validate.proofs.one_case.any_below.Given as goal

abbrev pub invariant-loop-at : goal.invariant-loop-at
invariant-loop-at l = any_in l.schema (drop l.at-index l.nodes) l.within ≡ any_in l.schema l.nodes l.within
