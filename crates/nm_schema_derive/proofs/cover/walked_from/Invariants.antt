use Rattle.std.proofs.Common.{◌≡◌, drop}
use Rattle.nm_schema_derive.specs.Cover.{rest_from}
use Rattle.nm_schema_derive.proofs.cover.walked_from.Given as goal

-- the parts so far have the numbers below `low`
abbrev pub invariant-loop-place : goal.invariant-loop-place
invariant-loop-place l = rest_from (drop l.place l.base) l.low l.part.1 ≡ rest_from l.base l.part.0 l.part.1
