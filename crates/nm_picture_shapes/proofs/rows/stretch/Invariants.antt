use Rattle.std.proofs.Common.{◌≡◌, ◌+◌, drop}
use Rattle.nm_picture_shapes.specs.Rows.{stretch}
use Rattle.nm_picture_shapes.proofs.rows.stretch.Given as goal

-- as many so far as were passed
abbrev pub invariant-loop-one : goal.invariant-loop-one
invariant-loop-one l = record {
  passed : l.count ≡ l.one-index;
  left : l.count + stretch (drop l.one-index l.kept) ≡ stretch l.kept;
}
