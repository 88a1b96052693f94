use Rattle.std.proofs.Common.{◌≡◌, drop}
use Rattle.nm_picture_shapes.specs.Rows.{line_from}
use Rattle.nm_picture_shapes.proofs.rows.line_from.Given as goal

-- none so far
abbrev pub invariant-loop-row : goal.invariant-loop-row
invariant-loop-row l = line_from (drop l.row-index l.rows) l.place ≡ line_from l.rows l.place
