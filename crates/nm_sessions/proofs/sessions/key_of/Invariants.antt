use Rattle.std.proofs.Common.{◌≡◌, ℕ, List, Some, Contains}
use Rattle.slab.specs.Slab.{get}
use Rattle.nm_sessions.proofs.sessions.key_of.Given as goal

-- a slot with the session is among those left, and each that is left is the table's
abbrev pub invariant-loop-key : goal.invariant-loop-key
invariant-loop-key l =
    (goal.iterator-loop-key).can_next l.key-iterator ×
    (goal.iterator-loop-key).is_finite l.key-iterator ×
    ((key : ℕ) (user : List ℕ) → get l.table key ≡ Some (l.session, user) → Contains l.key-iterator (key, (l.session, user))) ×
    ((key : ℕ) (stored : ℕ × List ℕ) → Contains l.key-iterator (key, stored) → get l.table key ≡ Some stored)
