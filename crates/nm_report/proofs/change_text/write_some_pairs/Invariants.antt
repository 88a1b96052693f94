use Rattle.std.proofs.Common.{◌≡◌, ◌++◌, drop}
use Rattle.std.specs.List.{flat_map}
use Rattle.nm_report.specs.Text.{pair_line}
use Rattle.nm_report.proofs.change_text.write_some_pairs.Given as goal

-- the lines so far and those that are left make all
abbrev pub invariant-loop-pair : goal.invariant-loop-pair
invariant-loop-pair l = l.out.items ++ flat_map (pair_line l.word) (drop l.pair-index l.pairs) ≡ l.initial.out.items ++ flat_map (pair_line l.initial.word) l.initial.pairs
