use Rattle.std.proofs.Common.{◌≡◌, ◌++◌, drop, true}
use Rattle.nm_picture_shapes.specs.Rows.{rows_from}
use Rattle.nm_picture_shapes.proofs.rows.rows_by.Given as goal

-- the rows so far and those that are left make all
abbrev pub invariant-loop-place : goal.invariant-loop-place
invariant-loop-place l = l.rows.items ++ rows_from l.before l.next (drop l.place l.kept) ≡ rows_from true 0 l.kept
