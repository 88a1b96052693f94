use Rattle.std.proofs.Common.{◌≡◌, ◌≤◌, ◌++◌, [], true, false, length, take, drop}
use Rattle.nm_yang.specs.Quote.{meaning}
use Rattle.nm_yang.proofs.quote.put_meaning.Given as goal

abbrev pub invariant-loop-rest : goal.invariant-loop-rest
invariant-loop-rest l = (take l.solid l.out.items ++ meaning l.room l.left l.after_backslash (drop l.solid l.out.items) l.rest ≡ l.initial.out.items ++ meaning l.room 0 false [] l.fn.bytes) × (l.solid ≤ length l.out.items) × (l.after_backslash ≡ true → l.solid ≡ length l.out.items)

abbrev pub decreases-loop-rest : goal.decreases-loop-rest
decreases-loop-rest l = length l.rest
