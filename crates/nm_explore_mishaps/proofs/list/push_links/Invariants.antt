use Rattle.std.proofs.Common.{◌≡◌, ◌++◌, drop}
use Rattle.nm_explore_mishaps.specs.Mishaps.{each_link}
use Rattle.nm_explore_mishaps.proofs.list.push_links.Given as goal

-- what is listed and what is left make all
abbrev pub invariant-loop-edit : goal.invariant-loop-edit
invariant-loop-edit l = l.all ++ each_link l.change (drop l.edit-index l.edits) ≡ l.fn.all ++ each_link l.change l.edits
