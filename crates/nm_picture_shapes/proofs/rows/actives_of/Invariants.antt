use Rattle.std.proofs.Common.{◌≡◌, ◌++◌, drop}
use Rattle.nm_picture_shapes.specs.Rows.{actives_from}
use Rattle.nm_picture_shapes.proofs.rows.actives_of.Given as goal

-- the events so far and those that are left make all
abbrev pub invariant-loop-place : goal.invariant-loop-place
invariant-loop-place l = l.actives.items ++ actives_from l.place (drop l.place l.trail) ≡ actives_from 0 l.trail
