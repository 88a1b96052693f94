use Rattle.std.proofs.Common.{◌≡◌, take}
use Rattle.nm_slots.specs.Course.{reached}
use Rattle.nm_slots.proofs.course.progress.Given as goal

-- so far the pass has come with the entries up to here
abbrev pub invariant-loop-place : goal.invariant-loop-place
invariant-loop-place l = l.at ≡ reached l.plan l.change l.device (take l.place l.entries)
