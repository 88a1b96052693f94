use Rattle.std.proofs.Common.{◌≡◌, ◌++◌, ◌+◌, drop}
use Rattle.nm_picture_shapes.specs.Marks.{lane_marks}
use Rattle.nm_picture_shapes.proofs.marks.lane_marks_of.Given as goal

-- the devices so far and those that are left make all
abbrev pub invariant-loop-place : goal.invariant-loop-place
invariant-loop-place g l = l.all.items ++ lane_marks l.trail l.rows (l.place + 1) (drop l.place l.devices) ≡ lane_marks l.trail l.rows 1 l.devices
