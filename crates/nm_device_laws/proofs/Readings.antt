-- What one more entry of a history changes of what the history tells of a token.
use Rattle.std.proofs.Common.{◌≡◌, ℕ, ◌+◌, List, [], ◌∷◌, ◌++◌, Bool, true, false, cond, refl, ap, ◌∙◌, arith, if◌then◌else◌}
use Rattle.std.specs.List.{sum_by}
use Rattle.std.proofs.lemmas.List.Sums.{sum_by-append}
use Rattle.nm_history.specs.declared.event.Noted.{Noted}
use Rattle.nm_history.specs.declared.outcome.Undoing.{Undoing}
use Rattle.nm_history.specs.declared.outcome.Outcome.{Outcome}
use Rattle.nm_history.specs.declared.outcome.Outcome.TheVariants.{Never, Pending, Confirmed, Undone}
use Rattle.nm_history.specs.Effect.{Effect, effect_if, noted_effect}
use Rattle.nm_history.specs.Effect.Effect.{Begins, Ends, Undoes, Neither}
use Rattle.nm_history.specs.Outcome.{Standing, is_token, is_pending, standing_after, standing_from, outcome_of}
use Rattle.nm_device_laws.specs.Token.{is_commit_done, commits_done}
use Rattle.nm_device_laws.specs.Telling.{standing_of}

-- a confirmed commit that gives the token
abbrev pub begins_token : List ℕ → Effect → Bool
begins_token token (Begins persist) = is_token token persist
begins_token token Ends = false
begins_token token (Undoes by) = false
begins_token token Neither = false

pub begins_if : (token : List ℕ) (b : Bool) (by : Undoing) → begins_token token (effect_if b (Undoes by)) ≡ false
begins_if token true by = refl
begins_if token false by = refl

read_push : (token : List ℕ) (from : Standing) (history : List Noted) (entry : Noted)
    → standing_from token from (history ++ entry ∷ []) ≡ (let last = standing_from token from history in standing_after token last.outcome last.other (noted_effect entry))
read_push token from [] entry = refl
read_push token from (first ∷ history) entry = read_push token (standing_after token from.outcome from.other (noted_effect first)) history entry

-- the reading of a history goes on with an entry of this effect
pub standing_push : (token : List ℕ) (history : List Noted) (entry : Noted) (effect : Effect) → noted_effect entry ≡ effect
    → standing_of token (history ++ entry ∷ []) ≡ standing_after token (standing_of token history).outcome (standing_of token history).other effect
standing_push token history entry effect e = read_push token (record { outcome = Never; other = false }) history entry
    ∙ ap (standing_after token (standing_of token history).outcome (standing_of token history).other) e

-- an outcome that isn't Pending stays where nothing begins under the token
pub settled_after : (token : List ℕ) (outcome : Outcome) (other : Bool) (effect : Effect) → begins_token token effect ≡ false → is_pending outcome ≡ false
    → (standing_after token outcome other effect).outcome ≡ outcome
settled_after token Never false (Begins persist) none e =
    let waits : Standing = record { outcome = Pending; other = false } in
    let another : Standing = record { outcome = Never; other = true } in
    ap (λ (b : Bool). (if b then waits else another).outcome) none
settled_after token Never true (Begins persist) none e = refl
settled_after token Never other Ends none e = refl
settled_after token Never other (Undoes by) none e = refl
settled_after token Never other Neither none e = refl
settled_after token Pending other effect none e = cc
settled_after token Confirmed other effect none e = refl
settled_after token (Undone by) other effect none e = refl

pub settled_push : (token : List ℕ) (history : List Noted) (entry : Noted) (effect : Effect) → noted_effect entry ≡ effect → begins_token token effect ≡ false
    → is_pending (outcome_of token history) ≡ false → outcome_of token (history ++ entry ∷ []) ≡ outcome_of token history
settled_push token history entry effect e none settled = ap (λ (st : Standing). st.outcome) (standing_push token history entry effect e)
    ∙ settled_after token (standing_of token history).outcome (standing_of token history).other effect none settled

-- an outcome that is Pending becomes what the effect makes of it
pub pending_push : (token : List ℕ) (history : List Noted) (entry : Noted) (effect : Effect) → noted_effect entry ≡ effect
    → outcome_of token history ≡ Pending → outcome_of token (history ++ entry ∷ []) ≡ (standing_after token Pending (standing_of token history).other effect).outcome
pending_push token history entry effect e waits = ap (λ (st : Standing). st.outcome) (standing_push token history entry effect e)
    ∙ ap (λ (outcome : Outcome). (standing_after token outcome (standing_of token history).other effect).outcome) waits

pub from_none : (n : ℕ) → 0 + n ≡ n
from_none n = omega arith

pub count_push : (token : List ℕ) (history : List Noted) (entry : Noted) (more : Bool) → is_commit_done token entry ≡ more
    → commits_done token (history ++ entry ∷ []) ≡ commits_done token history + cond more 1 0
count_push token history entry more e =
    let weight : Noted → ℕ = λ one. cond (is_commit_done token one) 1 0 in
    let single : sum_by weight (entry ∷ []) ≡ cond more 1 0 = from_none (weight entry) ∙ ap (λ (b : Bool). cond b 1 0) e in
    sum_by-append weight history (entry ∷ []) ∙ ap (λ (n : ℕ). sum_by weight history + n) single
