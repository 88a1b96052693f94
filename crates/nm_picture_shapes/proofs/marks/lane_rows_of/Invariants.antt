use Rattle.std.proofs.Common.{◌≡◌, ◌++◌, drop}
use Rattle.std.specs.List.{flat_map}
use Rattle.nm_picture_shapes.specs.Marks.{lane_row}
use Rattle.nm_picture_shapes.proofs.marks.lane_rows_of.Given as goal

-- the rows so far and those that are left make all
abbrev pub invariant-loop-row : goal.invariant-loop-row
invariant-loop-row l = l.lane.items ++ flat_map (lane_row l.device l.trail) (drop l.row-index l.rows) ≡ flat_map (lane_row l.device l.trail) l.rows
