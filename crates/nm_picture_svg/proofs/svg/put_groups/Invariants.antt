use Rattle.std.proofs.Common.{◌≡◌, ◌++◌, drop}
use Rattle.std.specs.List.{flat_map}
use Rattle.nm_picture_svg.specs.Svg.{group_text}
use Rattle.nm_picture_svg.proofs.svg.put_groups.Given as goal

-- what is written so far and what is left make all
abbrev pub invariant-loop-group : goal.invariant-loop-group
invariant-loop-group l = l.out.items ++ flat_map group_text (drop l.group-index l.groups) ≡ l.initial.out.items ++ flat_map group_text l.initial.groups
