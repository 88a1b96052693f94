use Rattle.std.proofs.Common.{◌≡◌, ◌++◌, drop, map}
use Rattle.nm_picture_shapes.specs.Marks.{at_device}
use Rattle.nm_picture_shapes.proofs.marks.push_all.Given as goal

-- the marks so far and those that are left make all
abbrev pub invariant-loop-mark : goal.invariant-loop-mark
invariant-loop-mark l = l.all.items ++ map (at_device l.device) (drop l.mark-index l.marks) ≡ l.initial.all.items ++ map (at_device l.initial.device) l.initial.marks
