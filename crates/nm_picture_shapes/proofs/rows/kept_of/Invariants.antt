use Rattle.std.proofs.Common.{◌≡◌, ◌++◌, drop}
use Rattle.nm_picture_shapes.specs.Rows.{kept_from}
use Rattle.nm_picture_shapes.proofs.rows.kept_of.Given as goal

-- the events so far and those that are left make all
abbrev pub invariant-loop-place : goal.invariant-loop-place
invariant-loop-place l = l.kept.items ++ kept_from l.actives l.place (drop l.place l.actives) ≡ kept_from l.actives 0 l.actives
