use Rattle.std.proofs.Common.{◌≡◌, ◌++◌, ◌+◌, drop}
use Rattle.nm_report.specs.Text.{change_texts}
use Rattle.nm_report.proofs.change_text.write_each_change.Given as goal

-- the lines so far and those that are left make all
abbrev pub invariant-loop-place : goal.invariant-loop-place
invariant-loop-place g l = l.out.items ++ change_texts l.devices l.entries (l.place + 1) (drop l.place l.plans)
    ≡ l.initial.out.items ++ change_texts l.initial.devices l.initial.entries 1 l.initial.plans
