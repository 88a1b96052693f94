use Rattle.std.proofs.Common.{◌≡◌, ◌++◌, map, take, drop}
use Rattle.nm_partial.specs.Partial.{without_absent}
use Rattle.nm_partial.proofs.locks.forget_absent.Given as goal

-- the locks so far have lost what is absent, and the others are as they were
abbrev pub invariant-loop-lock : goal.invariant-loop-lock
invariant-loop-lock g l =
    l.lock-items ≡ map (without_absent (g.C.Content.meaning l.content) l.running) (take l.lock-index l.initial.lock-items) ++ drop l.lock-index l.initial.lock-items
