-- What a session's own requests make of the outcome under a token.
use Rattle.std.proofs.Common.{◌≡◌, ℕ, ◌+◌, List, [], ◌∷◌, Bool, true, false, cond, ◌&&◌, is_some, Option, Some, None, refl, sym, ap, ◌∙◌, arith, if◌then◌else◌}
use Rattle.std.specs.List.{sum_by}
use Rattle.std.proofs.lemmas.List.Sums.{sum_by-append}
use Rattle.nm_proto.specs.declared.message.Request.{Request}
use Rattle.nm_proto.specs.declared.message.Request.TheVariants.{OpenSession, Lock, Unlock, PartialLock, PartialUnlock, Edit, Validate, Commit, CancelCommit, Discard, HasMark, GetConfig, Kill, CloseSession}
use Rattle.nm_proto.specs.Content.{Meaning, TablesState}
use Rattle.nm_history.specs.declared.event.DeviceEvent.{DeviceEvent}
use Rattle.nm_history.specs.declared.event.DeviceEvent.TheVariants.{Entered, Asked, Lost, Advanced, Restarted}
use Rattle.nm_history.specs.declared.event.Noted.{Noted}
use Rattle.nm_history.specs.declared.outcome.Outcome.{Outcome}
use Rattle.nm_history.specs.declared.outcome.Outcome.TheVariants.{Never, Pending, Confirmed, Undone}
use Rattle.nm_history.specs.declared.outcome.Undoing.TheVariants.{Cancel, End, Timer, Restart}
use Rattle.nm_history.specs.History.{Happened, RecordedState, noted, recorded_with}
use Rattle.nm_history.specs.Effect.{is_done_reply, effect_if, effect_of_commit, effect_of_event, noted_effect}
use Rattle.nm_history.specs.Effect.Effect.{Begins, Ends, Undoes}
use Rattle.nm_history.specs.Outcome.{Standing, is_token, standing_after, standing_from, outcome_of}
use Rattle.nm_device_laws.specs.Token.{gives_token, commits_in, is_commit_done, commits_done}
use Rattle.nm_device_laws.specs.Telling.{standing_of, TellsPending}
use Rattle.nm_device_laws.proofs.Events.{IsDone}
use Rattle.nm_device_laws.proofs.Named.{token_same}
use Rattle.nm_device_laws.proofs.Readings.{begins_token, begins_if, from_none, settled_after, pending_push, standing_push, count_push}

and_true : (b : Bool) → (b && true) ≡ b
and_true true = refl
and_true false = refl

module _ {Config TheEdit Node : Type 0} (m : Meaning Config TheEdit Node) (tables : TablesState TheEdit) (r : RecordedState Config Node) (session : ℕ) (h : Happened Config Node) where
  -- a commit that was done has the effect of its form
  effect_so : (confirmed : Bool) (timeout : Option ℕ) (persist persist_id : Option (List ℕ)) → is_done_reply h.reply ≡ true
      → noted_effect (noted (Asked session (Commit confirmed timeout persist persist_id)) h) ≡ effect_of_commit confirmed persist
  effect_so confirmed timeout persist persist_id done = ap (λ (b : Bool). effect_if b (effect_of_commit confirmed persist)) done

  pub begun_told : (token : List ℕ) (timeout : Option ℕ) → IsDone m tables r.device session (Commit true timeout (Some token) None) h → r.device.pending ≡ None → TellsPending token r
      → outcome_of token r.history ≡ Never → outcome_of token (recorded_with r (Asked session (Commit true timeout (Some token) None)) h).history ≡ Pending
  begun_told token timeout d none t never =
      let st = standing_of token r.history in
      let entry = noted (Asked session (Commit true timeout (Some token) None)) h in
      let waits : Standing = record { outcome = Pending; other = false } in
      let another : Standing = record { outcome = Never; other = true } in
      let other : st.other ≡ false = t.never never ∙ ap is_some none in
      ap (λ (one : Standing). one.outcome) (standing_push token r.history entry (Begins (Some token)) (effect_so true timeout (Some token) None d.done))
      ∙ ap (λ (outcome : Outcome). (standing_after token outcome st.other (Begins (Some token))).outcome) never
      ∙ ap (λ (b : Bool). (standing_after token Never b (Begins (Some token))).outcome) other
      ∙ ap (λ (b : Bool). (if b then waits else another).outcome) (token_same token)

  begun_without : (token : List ℕ) (outcome : Outcome) (other : Bool) → (standing_after token outcome other (Begins None)).outcome ≡ outcome
  begun_without token Never false = refl
  begun_without token Never true = refl
  begun_without token Pending other = refl
  begun_without token Confirmed other = refl
  begun_without token (Undone by) other = refl

  pub renewed_told : (token other : List ℕ) (timeout : Option ℕ) → IsDone m tables r.device session (Commit true timeout None (Some other)) h
      → outcome_of token (recorded_with r (Asked session (Commit true timeout None (Some other))) h).history ≡ outcome_of token r.history
  renewed_told token other timeout d =
      let st = standing_of token r.history in
      let entry = noted (Asked session (Commit true timeout None (Some other))) h in
      ap (λ (one : Standing). one.outcome) (standing_push token r.history entry (Begins None) (effect_so true timeout None (Some other) d.done)) ∙ begun_without token st.outcome st.other

  pub confirmed_told : (token : List ℕ) (timeout : Option ℕ) → IsDone m tables r.device session (Commit false timeout None (Some token)) h → outcome_of token r.history ≡ Pending
      → outcome_of token (recorded_with r (Asked session (Commit false timeout None (Some token))) h).history ≡ Confirmed
  confirmed_told token timeout d waits =
      pending_push token r.history (noted (Asked session (Commit false timeout None (Some token))) h) Ends (effect_so false timeout None (Some token) d.done) waits

  pub cancelled_told : (token : List ℕ) → IsDone m tables r.device session (CancelCommit (Some token)) h → outcome_of token r.history ≡ Pending
      → outcome_of token (recorded_with r (Asked session (CancelCommit (Some token))) h).history ≡ Undone Cancel
  cancelled_told token d waits =
      pending_push token r.history (noted (Asked session (CancelCommit (Some token))) h) (Undoes Cancel) (ap (λ (b : Bool). effect_if b (Undoes Cancel)) d.done) waits

  pub done_counted : (token : List ℕ) (request : Request) → IsDone m tables r.device session request h
      → commits_done token (recorded_with r (Asked session request) h).history ≡ commits_done token r.history + cond (gives_token token request) 1 0
  done_counted token request d = count_push token r.history (noted (Asked session request) h) (gives_token token request)
      (ap (λ (b : Bool). gives_token token request && b) d.done ∙ and_true (gives_token token request))

-- ---- histories in which no commit gave the token

abbrev weighed : Bool → ℕ
weighed b = cond b 1 0

sum_first : (token : List ℕ) (first : Noted) (history : List Noted) → commits_done token (first ∷ history) ≡ 0 → (is_commit_done token first ≡ false) × (commits_done token history ≡ 0)
sum_first token first history e =
    let weight : Noted → ℕ = λ one. weighed (is_commit_done token one) in
    let split : commits_done token (first ∷ history) ≡ sum_by weight (first ∷ []) + commits_done token history = sum_by-append weight (first ∷ []) history in
    let single : sum_by weight (first ∷ []) ≡ weight first = from_none (weight first) in
    (light (is_commit_done token first) (omega arith), omega arith)
  where
    light : (b : Bool) → weighed b ≡ 0 → b ≡ false
    light true e = absurd (omega arith)
    light false e = refl

-- what begins under the token is a commit that gives it
begins_counted : (token : List ℕ) (event : DeviceEvent) (done undone : Bool) → (commits_in token event && done) ≡ false → begins_token token (effect_of_event event done undone) ≡ false
begins_counted token (Asked session (Commit true timeout persist persist_id)) true undone e = sym (and_true (is_token token persist)) ∙ e
begins_counted token (Asked session (Commit true timeout persist persist_id)) false undone e = refl
begins_counted token (Asked session (Commit false timeout persist persist_id)) true undone e = refl
begins_counted token (Asked session (Commit false timeout persist persist_id)) false undone e = refl
begins_counted token (Asked session (CancelCommit persist_id)) done undone e = begins_if token done Cancel
begins_counted token (Asked session (Kill other)) done undone e = begins_if token undone End
begins_counted token (Asked session CloseSession) done undone e = begins_if token undone End
begins_counted token (Asked session (OpenSession user)) done undone e = refl
begins_counted token (Asked session (Lock store)) done undone e = refl
begins_counted token (Asked session (Unlock store)) done undone e = refl
begins_counted token (Asked session (PartialLock select)) done undone e = refl
begins_counted token (Asked session (PartialUnlock id)) done undone e = refl
begins_counted token (Asked session (Edit edit operation marks)) done undone e = refl
begins_counted token (Asked session Validate) done undone e = refl
begins_counted token (Asked session Discard) done undone e = refl
begins_counted token (Asked session (HasMark change)) done undone e = refl
begins_counted token (Asked session GetConfig) done undone e = refl
begins_counted token (Entered user) done undone e = refl
begins_counted token (Lost session) done undone e = begins_if token undone End
begins_counted token (Advanced seconds) done undone e = begins_if token undone Timer
begins_counted token Restarted done undone e = begins_if token undone Restart

never_from : (token : List ℕ) (other : Bool) (history : List Noted) → commits_done token history ≡ 0 → (standing_from token (record { outcome = Never; other = other }) history).outcome ≡ Never
never_from token other [] e = refl
never_from token other (first ∷ history) e =
    let none = sum_first token first history e in
    let next = standing_after token Never other (noted_effect first) in
    let stays : next.outcome ≡ Never = settled_after token Never other (noted_effect first) (begins_counted token first.event (is_done_reply first.reply) first.undone none.0) refl in
    ap (λ (outcome : Outcome). (standing_from token (record { outcome = outcome; other = next.other }) history).outcome) stays ∙ never_from token next.other history none.1

pub never_without : (token : List ℕ) (history : List Noted) → commits_done token history ≡ 0 → outcome_of token history ≡ Never
never_without token history e = never_from token false history e
