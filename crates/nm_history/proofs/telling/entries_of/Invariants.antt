use Rattle.std.proofs.Common.{◌≡◌, ◌++◌, drop, map}
use Rattle.std.specs.Prelude.{filter}
use Rattle.nm_history.specs.Effect.{tells}
use Rattle.nm_history.proofs.telling.entries_of.Given as goal

-- the entries so far and those of what is left are those of all
abbrev pub invariant-loop-entry : goal.invariant-loop-entry
invariant-loop-entry l = map (λ entry. entry.now) l.entries.items ++ filter tells (drop l.entry-index l.history) ≡ filter tells l.fn.history
