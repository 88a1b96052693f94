-- A change set waits to be confirmed from the commit on that brings it (RFC 6241 section 8.4.1): it finds nothing pending and is the first
-- with its token, so what the history tells of the token is its own.
use Rattle.std.specs.Prelude.{◌≡◌, ℕ, ◌<◌, ◌^◌, List, [], ◌∷◌, ◌++◌, true}
use Rattle.nm_base.specs.Token.{token_of}
use Rattle.nm_history.specs.declared.event.Noted.{Noted}
use Rattle.nm_history.specs.declared.outcome.Outcome.TheVariants.{Pending}
use Rattle.nm_history.specs.Outcome.{outcome_of}
use Rattle.nm_device_laws.specs.Token.{is_commit_done}
use Rattle.nm_safety.specs.Along.{Along}

-- what has happened, with one more entry
abbrev pub then_noted : List Noted → Noted → List Noted
then_noted past entry = past ++ entry ∷ []

-- an entry after others: where it is a commit that is done and gives the token of a change set, that is pending from now on. Numbers of
-- change sets have 32 bits
abbrev pub Waits : List Noted → Noted → Type 0
Waits past entry = (change : ℕ) → change < 2 ^ 32 → is_commit_done (token_of change) entry ≡ true
    → outcome_of (token_of change) (past ++ entry ∷ []) ≡ Pending

-- each entry of a history, after others
abbrev pub EachWaits : List Noted → List Noted → Type 0
EachWaits past history = Along then_noted Waits past history
