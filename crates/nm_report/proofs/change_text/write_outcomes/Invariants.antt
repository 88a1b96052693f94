use Rattle.std.proofs.Common.{◌≡◌, ◌++◌, ◌+◌, drop}
use Rattle.nm_report.specs.Text.{outcome_texts}
use Rattle.nm_report.proofs.change_text.write_outcomes.Given as goal

-- the lines so far and those that are left make all
abbrev pub invariant-loop-place : goal.invariant-loop-place
invariant-loop-place g l = l.out.items ++ outcome_texts l.change l.members.0 (l.place + 1) (drop l.place l.devices)
    ≡ l.initial.out.items ++ outcome_texts l.change l.members.0 1 l.initial.devices
