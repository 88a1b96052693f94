use Rattle.std.proofs.Common.{◌≡◌, ◌++◌, drop}
use Rattle.nm_picture_shapes.specs.Marks.{marks_from, nothing}
use Rattle.nm_picture_shapes.proofs.marks.marks_by.Given as goal

-- what was shown so far and what is left to be shown make all
abbrev pub invariant-loop-place : goal.invariant-loop-place
invariant-loop-place l = l.marks.items ++ marks_from l.history l.place l.lane (drop l.place l.rows) ≡ marks_from l.history 0 nothing l.rows
