use Rattle.std.proofs.Common.{◌≡◌, ◌++◌, drop}
use Rattle.std.specs.List.{flat_map}
use Rattle.nm_picture_svg.specs.Svg.{shape_text}
use Rattle.nm_picture_svg.proofs.svg.put_shapes.Given as goal

-- what is written so far and what is left make all
abbrev pub invariant-loop-shape : goal.invariant-loop-shape
invariant-loop-shape l = l.out.items ++ flat_map shape_text (drop l.shape-index l.shapes) ≡ l.initial.out.items ++ flat_map shape_text l.initial.shapes
