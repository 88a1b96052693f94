use Rattle.std.proofs.Common.{◌≡◌, Some, drop, fold}
use Rattle.nm_schema.specs.Kind.{further}
use Rattle.nm_schema.proofs.list.reached.Given as goal

-- what is left goes on from where the names so far lead
abbrev pub invariant-loop-row : goal.invariant-loop-row
invariant-loop-row l = fold (further l.grounds.rows l.grounds.facts) l.spot (drop l.row-index l.row-items) ≡ fold (further l.grounds.rows l.grounds.facts) (Some l.number) l.row-items
