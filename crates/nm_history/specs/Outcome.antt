-- What has become of a change set at a device, read from the device's history alone (this project's own, over
-- RFC 6241 section 8.4).
use Rattle.std.specs.Prelude.{ℕ, List, [], ◌∷◌, Bool, true, false, Option, Some, None, if◌then◌else◌}
use Rattle.std.specs.Str.{bytes_eq}
use Rattle.nm_history.specs.declared.event.Noted.{Noted}
use Rattle.nm_history.specs.declared.outcome.Outcome.{Outcome}
use Rattle.nm_history.specs.declared.outcome.Outcome.TheVariants.{Never, Pending, Confirmed, Undone}
use Rattle.nm_history.specs.Effect.{Effect, noted_effect}
use Rattle.nm_history.specs.Effect.Effect.{Begins, Ends, Undoes, Neither}

-- where the reading of a history stands: the outcome so far, and whether another commit is pending
pub record Standing : Type 0 where
  pub outcome : Outcome
  pub other : Bool

-- a commit gives this token
abbrev pub is_token : List ℕ → Option (List ℕ) → Bool
is_token token None = false
is_token token (Some persist) = bytes_eq token persist

-- the first confirmed commit with the token, done with nothing pending before it, begins; a commit that isn't
-- confirmed ends what is pending, and an undoing does too
abbrev pub standing_after : List ℕ → Outcome → Bool → Effect → Standing
standing_after token Never false (Begins persist) = if is_token token persist then record { outcome = Pending; other = false }
    else record { outcome = Never; other = true }
standing_after token Never true (Begins persist) = record { outcome = Never; other = true }
standing_after token Never other Ends = record { outcome = Never; other = false }
standing_after token Never other (Undoes by) = record { outcome = Never; other = false }
standing_after token Never other Neither = record { outcome = Never; other = other }
standing_after token Pending other Ends = record { outcome = Confirmed; other = false }
standing_after token Pending other (Undoes by) = record { outcome = Undone by; other = false }
standing_after token Pending other (Begins persist) = record { outcome = Pending; other = other }
standing_after token Pending other Neither = record { outcome = Pending; other = other }
standing_after token Confirmed other effect = record { outcome = Confirmed; other = other }
standing_after token (Undone by) other effect = record { outcome = Undone by; other = other }

-- where the change set stands after a history, from where it stood
abbrev pub standing_from : List ℕ → Standing → List Noted → Standing
standing_from token standing [] = standing
standing_from token standing (entry ∷ history) = standing_from token (standing_after token standing.outcome standing.other (noted_effect entry)) history

-- the outcome of the change set with this token at the device with this history
abbrev pub outcome_of : List ℕ → List Noted → Outcome
outcome_of token history = (standing_from token (record { outcome = Never; other = false }) history).outcome

-- the commit waits to be confirmed
abbrev pub is_pending : Outcome → Bool
is_pending Never = false
is_pending Pending = true
is_pending Confirmed = false
is_pending (Undone by) = false

-- the commit was undone, by whatever
abbrev pub is_undone : Outcome → Bool
is_undone Never = false
is_undone Pending = false
is_undone Confirmed = false
is_undone (Undone by) = true

-- nothing that comes later changes the outcome
abbrev pub is_final : Outcome → Bool
is_final Never = false
is_final Pending = false
is_final Confirmed = true
is_final (Undone by) = true
