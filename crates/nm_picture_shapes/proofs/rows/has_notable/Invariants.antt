use Rattle.std.proofs.Common.{◌≡◌, drop}
use Rattle.nm_picture_shapes.specs.Rows.{has_notable}
use Rattle.nm_picture_shapes.proofs.rows.has_notable.Given as goal

-- none so far
abbrev pub invariant-loop-active : goal.invariant-loop-active
invariant-loop-active l = has_notable (drop l.active-index l.actives) ≡ has_notable l.actives
