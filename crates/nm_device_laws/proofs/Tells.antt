-- What a history tells of the commit that is pending, entry by entry.
use Rattle.std.proofs.Common.{◌≡◌, ℕ, List, Bool, true, false, not, ◌&&◌, is_some, Option, Some, None, refl, sym, ap, ◌∙◌, subst, if◌then◌else◌}
use Rattle.nm_proto.specs.declared.message.Request.TheVariants.{Commit, CancelCommit}
use Rattle.nm_proto.specs.Content.{Meaning, Laws, TablesState}
use Rattle.nm_pending.specs.Pending.{PendingState}
use Rattle.nm_device.specs.Device.{DeviceState, is_dropped}
use Rattle.nm_history.specs.declared.event.DeviceEvent.{DeviceEvent}
use Rattle.nm_history.specs.declared.event.DeviceEvent.TheVariants.{Asked}
use Rattle.nm_history.specs.declared.outcome.Outcome.{Outcome}
use Rattle.nm_history.specs.declared.outcome.Outcome.TheVariants.{Never, Pending, Confirmed, Undone}
use Rattle.nm_history.specs.declared.outcome.Undoing.TheVariants.{Cancel}
use Rattle.nm_history.specs.Effect.{Effect, noted_effect}
use Rattle.nm_history.specs.Effect.Effect.{Begins, Ends, Undoes, Neither}
use Rattle.nm_history.specs.Whole.{began_of, began_after}
use Rattle.nm_history.specs.History.{Happened, RecordedState, noted, recorded, recorded_with}
use Rattle.nm_history.specs.Outcome.{Standing, is_token, is_pending, standing_after, outcome_of}
use Rattle.nm_history.proofs.Keeping.{event_keeps}
use Rattle.nm_device_laws.specs.Moment.{Happens}
use Rattle.nm_device_laws.specs.Token.{undoing_by, waits_under, leaves_token, KeepsToken}
use Rattle.nm_device_laws.specs.Telling.{standing_of, TellsPending, TellsToken}
use Rattle.nm_device_laws.proofs.Readings.{standing_push}
use Rattle.nm_device_laws.proofs.Events.{IsDone}
use Rattle.nm_device_laws.proofs.Named.{token_same}
use Rattle.nm_device_laws.proofs.Owns.{begins, renews, confirms, cancels}
use Rattle.nm_device_laws.proofs.Outcomes.{begun_told, renewed_told, confirmed_told, cancelled_told}
use Rattle.nm_device_laws.proofs.Tokens.{token_kept}

-- whether something is pending after what has this effect
abbrev pends_after : Bool → Effect → Bool
pends_after was (Begins persist) = true
pends_after was Ends = false
pends_after was (Undoes by) = false
pends_after was Neither = was

-- what a reading tells of what is pending
record Tells (st : Standing) (pends : Bool) : Type 0 where
  never : st.outcome ≡ Never → st.other ≡ pends
  waits : st.outcome ≡ Pending → pends ≡ true

tells_on : (token : List ℕ) (outcome : Outcome) (other was now : Bool) (effect : Effect) → Tells (record { outcome = outcome; other = other }) was → now ≡ pends_after was effect
    → Tells (standing_after token outcome other effect) now
tells_on token Never false was now (Begins persist) t e = begun (is_token token persist)
  where
    begun : (b : Bool) → Tells (if b then record { outcome = Pending; other = false } else record { outcome = Never; other = true }) now
    begun true = record { never = λ impossible. absurd (cc); waits = λ _. e }
    begun false = record { never = λ _. sym e; waits = λ impossible. absurd (cc) }
tells_on token Never true was now (Begins persist) t e = record { never = λ _. sym e; waits = λ impossible. absurd (cc) }
tells_on token Never other was now Ends t e = record { never = λ _. sym e; waits = λ impossible. absurd (cc) }
tells_on token Never other was now (Undoes by) t e = record { never = λ _. sym e; waits = λ impossible. absurd (cc) }
tells_on token Never other was now Neither t e = record { never = λ is. t.never is ∙ sym e; waits = λ impossible. absurd (cc) }
tells_on token Pending other was now Ends t e = record { never = λ impossible. absurd (cc); waits = λ impossible. absurd (cc) }
tells_on token Pending other was now (Undoes by) t e = record { never = λ impossible. absurd (cc); waits = λ impossible. absurd (cc) }
tells_on token Pending other was now (Begins persist) t e = record { never = λ impossible. absurd (cc); waits = λ _. e }
tells_on token Pending other was now Neither t e = record { never = λ impossible. absurd (cc); waits = λ is. e ∙ t.waits is }
tells_on token Confirmed other was now effect t e = record { never = λ impossible. absurd (cc); waits = λ impossible. absurd (cc) }
tells_on token (Undone by) other was now effect t e = record { never = λ impossible. absurd (cc); waits = λ impossible. absurd (cc) }

module _ {Config : Type 0} where
  some_began : (pending : Option (PendingState Config)) → is_some (began_of pending) ≡ is_some pending
  some_began None = refl
  some_began (Some p) = refl

  began_pends : (running : Config) (began : Option Config) (effect : Effect) → is_some (began_after running began effect) ≡ pends_after (is_some began) effect
  began_pends running began (Begins persist) = refl
  began_pends running began Ends = refl
  began_pends running began (Undoes by) = refl
  began_pends running began Neither = refl

module _ {Config TheEdit Node : Type 0} (m : Meaning Config TheEdit Node) (laws : Laws m) (tables : TablesState TheEdit) where
  -- what is pending after an event is as the effect of its entry says
  pending_so : (s : DeviceState Config Node) (event : DeviceEvent) (h : Happened Config Node) → Happens m tables s event h
      → is_some h.after.pending ≡ pends_after (is_some s.pending) (noted_effect (noted event h))
  pending_so s event h e = sym (some_began h.after.pending) ∙ ap is_some (event_keeps m laws tables s event h e).moved.began
      ∙ began_pends s.stores.running (began_of s.pending) (noted_effect (noted event h))
      ∙ ap (λ (b : Bool). pends_after b (noted_effect (noted event h))) (some_began s.pending)

  pub pending_told : (token : List ℕ) (r : RecordedState Config Node) (event : DeviceEvent) (h : Happened Config Node) → Happens m tables r.device event h
      → TellsPending token r → TellsPending token (recorded_with r event h)
  pending_told token r event h e t =
      let st = standing_of token r.history in
      let entry = noted event h in
      let now = tells_on token st.outcome st.other (is_some r.device.pending) (is_some h.after.pending) (noted_effect entry) (record { never = t.never; waits = t.waits }) (pending_so r.device event h e) in
      let next = subst (λ (one : Standing). Tells one (is_some h.after.pending)) (sym (standing_push token r.history entry (noted_effect entry) refl)) now in
      record { never = next.never; waits = next.waits }

pub pending_told_first : {Config Node : Type 0} (token : List ℕ) (r : RecordedState Config Node) (running : Config) → r ≡ recorded running → TellsPending token r
pending_told_first {Config = Config} {Node = Node} token r running e = subst (TellsPending token) (sym e) first
  where
    first : TellsPending token (recorded {Config = Config} {Node = Node} running)
    first = record { never = λ _. refl; waits = λ impossible. absurd (cc) }

-- ---- tokens

pub token_told_first : {Config Node : Type 0} (token : List ℕ) (r : RecordedState Config Node) (running : Config) → r ≡ recorded running → TellsToken token r
token_told_first token r running e = subst (TellsToken token) (sym e) refl

pub pending_outcome : (outcome : Outcome) → is_pending outcome ≡ true → outcome ≡ Pending
pending_outcome Never e = absurd (cc)
pending_outcome Pending e = refl
pending_outcome Confirmed e = absurd (cc)
pending_outcome (Undone by) e = absurd (cc)

module _ {Config TheEdit Node : Type 0} (m : Meaning Config TheEdit Node) (tables : TablesState TheEdit) (token : List ℕ) (r : RecordedState Config Node) (event : DeviceEvent) (h : Happened Config Node) where
  gone : (old new : Option (PendingState Config)) → (is_some old && not (is_some new)) ≡ true → waits_under token new ≡ false
  gone None new e = absurd (cc)
  gone (Some p) None e = refl
  gone (Some p) (Some q) e = absurd (cc)

  abbrev after : RecordedState Config Node
  after = recorded_with r event h

  told_kept : KeepsToken token r.device (noted event h) h.after → (waited : Bool) → waits_under token r.device.pending ≡ waited → is_pending (outcome_of token r.history) ≡ waited
      → waits_under token h.after.pending ≡ is_pending (outcome_of token after.history)
  told_kept k false waits is = k.none waits ∙ sym (ap is_pending (k.settled r.history is) ∙ is)
  told_kept k true waits is = by_test (is_dropped r.device h.after) refl
    where
      told : (b : Bool) → is_dropped r.device h.after ≡ b → outcome_of token after.history ≡ (if b then Undone (undoing_by event) else Pending)
      told b e = k.waiting r.history waits (pending_outcome (outcome_of token r.history) is) ∙ ap (λ (b : Bool). if b then Undone (undoing_by event) else Pending) e

      by_test : (b : Bool) → is_dropped r.device h.after ≡ b → waits_under token h.after.pending ≡ is_pending (outcome_of token after.history)
      by_test true e = gone r.device.pending h.after.pending e ∙ sym (ap is_pending (told true e))
      by_test false e = ap (waits_under token) (k.stays waits e) ∙ waits ∙ sym (ap is_pending (told false e))

  pub token_told : Happens m tables r.device event h → leaves_token token r.device event ≡ true → TellsToken token r → TellsToken token after
  token_told e leaves t = told_kept (token_kept m tables token r.device event h e leaves) (waits_under token r.device.pending) refl (sym t)

-- ---- a session's own requests under the token

module _ {Config TheEdit Node : Type 0} (m : Meaning Config TheEdit Node) (laws : Laws m) (tables : TablesState TheEdit) (token : List ℕ) (r : RecordedState Config Node) (session : ℕ) (h : Happened Config Node) where
  -- what the request leaves pending, and the outcome that is told after it
  told_as : (event : DeviceEvent) (pending : Option (PendingState Config)) (outcome : Outcome) → h.after.pending ≡ pending → outcome_of token (recorded_with r event h).history ≡ outcome
      → waits_under token pending ≡ is_pending outcome → TellsToken token (recorded_with r event h)
  told_as event pending outcome is told so = ap (waits_under token) is ∙ so ∙ sym (ap is_pending told)

  -- what waits under the token has the outcome Pending
  waited : (p : PendingState Config) → r.device.pending ≡ Some p → p.token ≡ Some token → TellsToken token r → outcome_of token r.history ≡ Pending
  waited p is named t = pending_outcome (outcome_of token r.history) (sym t ∙ ap (waits_under token) is ∙ ap (is_token token) named ∙ token_same token)

  pub begun_tells : (timeout : Option ℕ) → IsDone m tables r.device session (Commit true timeout (Some token) None) h → r.device.pending ≡ None → TellsPending token r
      → outcome_of token r.history ≡ Never → TellsToken token (recorded_with r (Asked session (Commit true timeout (Some token) None)) h)
  begun_tells timeout d none t never = told_as (Asked session (Commit true timeout (Some token) None)) _ Pending
      (ap (λ (one : DeviceState Config Node). one.pending) (begins m laws tables r.device session timeout token h none d).after)
      (begun_told m tables r session h token timeout d none t never) (token_same token)

  pub renewed_tells : (timeout : Option ℕ) → IsDone m tables r.device session (Commit true timeout None (Some token)) h → TellsToken token r
      → TellsToken token (recorded_with r (Asked session (Commit true timeout None (Some token))) h)
  renewed_tells timeout d t =
      let so = renews m laws tables r.device session timeout token h d in
      told_as (Asked session (Commit true timeout None (Some token))) _ Pending (ap (λ (one : DeviceState Config Node). one.pending) so.commits.after)
      (renewed_told m tables r session h token token timeout d ∙ waited so.p so.waits so.named t) (ap (is_token token) so.named ∙ token_same token)

  pub confirmed_tells : (timeout : Option ℕ) → IsDone m tables r.device session (Commit false timeout None (Some token)) h → TellsToken token r
      → TellsToken token (recorded_with r (Asked session (Commit false timeout None (Some token))) h)
  confirmed_tells timeout d t =
      let so = confirms m laws tables r.device session timeout token h d in
      told_as (Asked session (Commit false timeout None (Some token))) None Confirmed (ap (λ (one : DeviceState Config Node). one.pending) so.commits.after)
      (confirmed_told m tables r session h token timeout d (waited so.p so.waits so.named t)) refl

  pub cancelled_tells : IsDone m tables r.device session (CancelCommit (Some token)) h → TellsToken token r → TellsToken token (recorded_with r (Asked session (CancelCommit (Some token))) h)
  cancelled_tells d t =
      let so = cancels m laws tables r.device session token h d in
      told_as (Asked session (CancelCommit (Some token))) None (Undone Cancel) (ap (λ (one : DeviceState Config Node). one.pending) so.after)
      (cancelled_told m tables r session h token d (waited so.p so.waits so.named t)) refl
