-- What waits under a token outlives sessions: no end of one undoes it.
use Rattle.std.proofs.Common.{◌≡◌, ◌≢◌, ℕ, ◌==◌, List, [], ◌∷◌, Bool, true, false, not, ◌&&◌, ◌||◌, is_some, slice_get, Option, Some, None, refl, sym, ap, ◌∙◌, subst, if◌then◌else◌}
use Rattle.std.proofs.lemmas.Bool.{cond_both}
use Rattle.std.proofs.lemmas.Option.{same_Some}
use Rattle.nm_base.specs.declared.tag.Tag.{Tag}
use Rattle.nm_base.specs.declared.tag.Tag.TheVariants.{InvalidValue}
use Rattle.nm_proto.specs.declared.message.Request.{Request}
use Rattle.nm_proto.specs.declared.message.Request.TheVariants.{OpenSession, Lock, Unlock, PartialLock, PartialUnlock, Edit, Validate, Commit, CancelCommit, Discard, HasMark, GetConfig, Kill, CloseSession}
use Rattle.nm_proto.specs.Content.{Meaning, Refusal, TablesState}
use Rattle.nm_sessions.specs.Sessions.{is_open}
use Rattle.nm_stores.specs.Stores.{candidate_of}
use Rattle.nm_pending.specs.Pending.{PendingState, ends_with, deadline_of}
use Rattle.nm_device.specs.Device.{DeviceState, Stepped, done, refuse, is_dropped, fresh_device}
use Rattle.nm_device.specs.Commit.{commit_tag, commit_unless, commit_from, violation_of, pending_after}
use Rattle.nm_device.specs.Undoing.{undone_if, left_by, ended, advanced, restarted}
use Rattle.nm_device.specs.Cancel.{cancel_tag, cancel_from, kill_by}
use Rattle.nm_device.specs.Table.{opened, device_step}
use Rattle.nm_device.proofs.Rows.{StaysAt, StaysOrUndoes, opened_stays, locked_stays, unlocked_stays, part_unlocked_stays, validated_stays, discarded_stays, edit_by_stays, part_locked_stays, advanced_moves, restarted_moves}
use Rattle.nm_device.proofs.Rows.StaysOrUndoes.{still, back}
use Rattle.nm_history.specs.declared.event.DeviceEvent.{DeviceEvent}
use Rattle.nm_history.specs.declared.event.DeviceEvent.TheVariants.{Entered, Asked, Lost, Advanced, Restarted}
use Rattle.nm_history.specs.declared.event.Noted.{Noted}
use Rattle.nm_history.specs.declared.outcome.Outcome.{Outcome}
use Rattle.nm_history.specs.declared.outcome.Outcome.TheVariants.{Never, Pending, Confirmed, Undone}
use Rattle.nm_history.specs.declared.outcome.Undoing.{Undoing}
use Rattle.nm_history.specs.declared.outcome.Undoing.TheVariants.{Cancel, End, Timer, Restart}
use Rattle.nm_history.specs.History.{Happened, noted, entering, answered, advancing, restarting, after_or, device_event, replayed, Fits, IsLegal}
use Rattle.nm_history.specs.Effect.{Effect, effect_if, effect_of_commit, noted_effect}
use Rattle.nm_history.specs.Effect.Effect.{Begins, Ends, Undoes, Neither}
use Rattle.nm_history.specs.Outcome.{Standing, is_token, standing_after, standing_from, outcome_of}
use Rattle.nm_device_laws.specs.Moment.{Happens}
use Rattle.nm_device_laws.proofs.Events.{is_asked, lost_does}

-- ---- what an effect asks of what is pending

-- what is pending has a token
abbrev pub has_token : {Config : Type 0} → Option (PendingState Config) → Bool
has_token None = false
has_token (Some p) = is_some p.token

-- a commit that gives a token leaves one, what has one keeps it while it waits, and no end of a session undoes it
abbrev pub Lasts : {Config : Type 0} → Option (PendingState Config) → Effect → Option (PendingState Config) → Type 0
Lasts was (Begins persist) now = (is_some persist || has_token was) ≡ true → has_token now ≡ true
Lasts was Ends now = Unit {0}
Lasts was (Undoes by) now = has_token was ≡ true → by ≢ End
Lasts was Neither now = has_token was ≡ true → has_token now ≡ true

-- ---- the reading of a history

-- what waits under the token has one, and no end of a session has undone it
pub record IsLasting {Config : Type 0} (outcome : Outcome) (pending : Option (PendingState Config)) : Type 0 where
  pub waits : outcome ≡ Pending → has_token pending ≡ true
  pub lasts : outcome ≢ Undone End

abbrev undoing_in : Outcome → Undoing
undoing_in Never = Cancel
undoing_in Pending = Cancel
undoing_in Confirmed = Cancel
undoing_in (Undone by) = by

named_some : (token : List ℕ) (persist : Option (List ℕ)) (b : Bool) → is_token token persist ≡ true → (is_some persist || b) ≡ true
named_some token None b e = absurd (let never : false ≡ true = e in cc)
named_some token (Some given) b e = refl

or_true : (a b : Bool) → b ≡ true → (a || b) ≡ true
or_true true b e = refl
or_true false b e = e

abbrev waiting : Standing
waiting = record { outcome = Pending; other = false }

abbrev another : Standing
another = record { outcome = Never; other = true }

module _ {Config : Type 0} (token : List ℕ) (was now : Option (PendingState Config)) where
  still_never : IsLasting Never now
  still_never = record { waits = λ impossible. absurd (cc); lasts = λ impossible. absurd (cc) }

  lasting_on : (outcome : Outcome) (other : Bool) (effect : Effect) → Lasts was effect now → IsLasting outcome was → IsLasting (standing_after token outcome other effect).outcome now
  lasting_on Never false (Begins persist) l t = begun (is_token token persist) refl
    where
      begun : (b : Bool) → is_token token persist ≡ b → IsLasting (if b then waiting else another).outcome now
      begun true e = record { waits = λ _. l (named_some token persist (has_token was) e); lasts = λ impossible. absurd (cc) }
      begun false e = still_never
  lasting_on Never true (Begins persist) l t = still_never
  lasting_on Never other Ends l t = still_never
  lasting_on Never other (Undoes by) l t = still_never
  lasting_on Never other Neither l t = still_never
  lasting_on Pending other Ends l t = record { waits = λ impossible. absurd (cc); lasts = λ impossible. absurd (cc) }
  lasting_on Pending other (Undoes by) l t = record { waits = λ impossible. absurd (cc); lasts = λ e. l (t.waits refl) (ap undoing_in e) }
  lasting_on Pending other (Begins persist) l t = record { waits = λ _. l (or_true (is_some persist) (has_token was) (t.waits refl)); lasts = λ impossible. absurd (cc) }
  lasting_on Pending other Neither l t = record { waits = λ _. l (t.waits refl); lasts = λ impossible. absurd (cc) }
  lasting_on Confirmed other effect l t = record { waits = λ impossible. absurd (cc); lasts = λ impossible. absurd (cc) }
  lasting_on (Undone by) other effect l t = record { waits = λ impossible. absurd (cc); lasts = t.lasts }

-- ---- what events do

or_false : (a : Bool) → (a || false) ≡ a
or_false true = refl
or_false false = refl

not_dropped : {Config : Type 0} (old new : Option (PendingState Config)) → new ≡ old → (is_some old && not (is_some new)) ≡ false
not_dropped None new e = refl
not_dropped (Some p) None e = cc
not_dropped (Some p) (Some q) e = refl

untied : {Config : Type 0} (pending : Option (PendingState Config)) (session : ℕ) → has_token pending ≡ true → ends_with pending session ≡ false
untied None session has = refl
untied (Some p) session has = ap (λ (b : Bool). not b && p.issuer == session) has

module _ {Config TheEdit Node : Type 0} (m : Meaning Config TheEdit Node) (s : DeviceState Config Node) where
  abbrev After : Effect → DeviceState Config Node → Type 0
  After effect now = Lasts s.pending effect now.pending

  quiet : (now : DeviceState Config Node) → StaysAt s now → After Neither now
  quiet now same has = ap has_token same.pending ∙ has

  ended_same : (other : ℕ) → has_token s.pending ≡ true → (ended m s other).pending ≡ s.pending
  ended_same other has = ap (λ (b : Bool). (undone_if m (left_by s other) b).pending) (untied s.pending other has)

  ended_kept : (other : ℕ) → has_token s.pending ≡ true → is_dropped s (ended m s other) ≡ false
  ended_kept other has = not_dropped s.pending (ended m s other).pending (ended_same other has)

  ended_by : (b : Bool) (now : DeviceState Config Node) → (has_token s.pending ≡ true → b ≡ false) → (has_token s.pending ≡ true → has_token now.pending ≡ true) → After (effect_if b (Undoes End)) now
  ended_by true now kept same = λ has e. absurd (let never : true ≡ false = kept has in cc)
  ended_by false now kept same = same

  ending : (other : ℕ) (told : Bool) → After (effect_if (is_dropped s (ended m s other) && told) (Undoes End)) (ended m s other)
  ending other told = ended_by (is_dropped s (ended m s other) && told) (ended m s other) (λ has. ap (λ (b : Bool). b && told) (ended_kept other has)) (λ has. ap has_token (ended_same other has) ∙ has)

  losing_lasts : (other : ℕ) → After (effect_if (is_dropped s (ended m s other)) (Undoes End)) (ended m s other)
  losing_lasts other = ended_by (is_dropped s (ended m s other)) (ended m s other) (ended_kept other) (λ has. ap has_token (ended_same other has) ∙ has)

  -- what nobody asks for: a timer or a restart
  timed_by : (by : Undoing) (b : Bool) (now : DeviceState Config Node) → by ≢ End → is_dropped s now ≡ b → StaysOrUndoes m s now → After (effect_if b (Undoes by)) now
  timed_by by true now differs e moves = λ has. differs
  timed_by by false now differs e (still same) = quiet now same
  timed_by by false now differs e (back p there runs ends) = absurd (let gone : is_dropped s now ≡ true = ap (λ (o : Option (PendingState Config)). is_some o && not (is_some now.pending)) there
      ∙ ap (λ (o : Option (PendingState Config)). not (is_some o)) ends in let never : true ≡ false = sym gone ∙ e in cc)

  -- ---- requests

  abbrev Asks : ℕ → Request → Stepped Config Node → Type 0
  Asks session request stepped = After (noted_effect (noted (Asked session request) (answered s request stepped))) stepped.after

  committed : (session : ℕ) (confirmed : Bool) (persist : Option (List ℕ)) (deadline : ℕ) (pending : Option (PendingState Config))
      → Lasts pending (effect_of_commit confirmed persist) (pending_after s session confirmed persist deadline pending)
  committed session false persist deadline pending = tt
  committed session true persist deadline None = λ named. sym (or_false (is_some persist)) ∙ named
  committed session true None deadline (Some p) = λ named. named
  committed session true (Some given) deadline (Some p) = λ named. refl

  module _ (session : ℕ) (confirmed : Bool) (timeout : Option ℕ) (persist persist_id : Option (List ℕ)) where
    checked_commit : (violation : Option Refusal) → Asks session (Commit confirmed timeout persist persist_id) (commit_unless m s session violation confirmed persist (deadline_of s.clock timeout))
    checked_commit (Some refusal) = λ has. has
    checked_commit None = committed session confirmed persist (deadline_of s.clock timeout) s.pending

    tested_commit : (refusal : Option Tag) → Asks session (Commit confirmed timeout persist persist_id) (commit_from m s session refusal confirmed persist (deadline_of s.clock timeout))
    tested_commit (Some tag) = λ has. has
    tested_commit None = checked_commit (violation_of m s.stores.candidate)

  tested_cancel : (session : ℕ) (named : Option (List ℕ)) (refusal : Option Tag) → Asks session (CancelCommit named) (cancel_from m s refusal)
  tested_cancel session named (Some tag) = λ has. has
  tested_cancel session named None = λ has impossible. absurd (cc)

  killed : (session other : ℕ) → Asks session (Kill other) (kill_by m s session other)
  killed session other = cond_both (other == session) (refuse s InvalidValue)
      (if is_open s.sessions other then done (ended m s other) else refuse s InvalidValue) (Asks session (Kill other))
      (λ _. refused)
      (λ _. cond_both (is_open s.sessions other) (done (ended m s other)) (refuse s InvalidValue) (Asks session (Kill other)) (λ _. ending other true) (λ _. refused))
    where
      refused : Asks session (Kill other) (refuse s InvalidValue)
      refused = ended_by (is_dropped s s && true) s (λ has. ap (λ (b : Bool). b && true) (not_dropped s.pending s.pending refl)) (λ has. has)

  asked_lasts : (tables : TablesState TheEdit) (session : ℕ) (request : Request) → Asks session request (device_step m tables s session request)
  asked_lasts tables session (Commit confirmed timeout persist persist_id) = tested_commit session confirmed timeout persist persist_id
      (commit_tag m s session (record { confirmed = confirmed; timeout = timeout; persist = persist; persist_id = persist_id }))
  asked_lasts tables session (CancelCommit persist_id) = tested_cancel session persist_id (cancel_tag m s session persist_id)
  asked_lasts tables session (Kill other) = killed session other
  asked_lasts tables session CloseSession = ending session true
  asked_lasts tables session (OpenSession user) = λ has. has
  asked_lasts tables session (Lock store) = quiet _ (locked_stays s session store)
  asked_lasts tables session (Unlock store) = quiet _ (unlocked_stays s session store)
  asked_lasts tables session (PartialLock select) = quiet _ (part_locked_stays m tables s session (slice_get tables.selects select.0))
  asked_lasts tables session (PartialUnlock id) = quiet _ (part_unlocked_stays s session id)
  asked_lasts tables session (Edit edit operation marks) = quiet _ (edit_by_stays m tables s session edit.0 operation marks)
  asked_lasts tables session Validate = quiet _ (validated_stays s (m.violation (candidate_of s.stores)))
  asked_lasts tables session Discard = quiet _ (discarded_stays s session)
  asked_lasts tables session (HasMark change) = λ has. has
  asked_lasts tables session GetConfig = λ has. has

  event_lasts : (tables : TablesState TheEdit) (event : DeviceEvent) (h : Happened Config Node) → Happens m tables s event h → After (noted_effect (noted event h)) h.after
  event_lasts tables (Entered user) h e = subst (λ (one : Happened Config Node). After (noted_effect (noted (Entered user) one)) one.after) (same_Some (entering s user) h e) (quiet (opened s user).after (opened_stays s user))
  event_lasts tables (Asked session request) h e =
      subst (λ (one : Happened Config Node). After (noted_effect (noted (Asked session request) one)) one.after) (is_asked m tables s session request h e).does (asked_lasts tables session request)
  event_lasts tables (Lost session) h e = subst (λ (one : Happened Config Node). After (noted_effect (noted (Lost session) one)) one.after) (lost_does m tables s session h e) (losing_lasts session)
  event_lasts tables (Advanced seconds) h e = subst (λ (one : Happened Config Node). After (noted_effect (noted (Advanced seconds) one)) one.after) (same_Some (advancing m s seconds) h e)
      (timed_by Timer (is_dropped s (advanced m s seconds)) (advanced m s seconds) (λ impossible. absurd (cc)) refl (advanced_moves m s seconds))
  event_lasts tables Restarted h e = subst (λ (one : Happened Config Node). After (noted_effect (noted Restarted one)) one.after) (same_Some (restarting m s) h e)
      (timed_by Restart (is_dropped s (restarted m s)) (restarted m s) (λ impossible. absurd (cc)) refl (restarted_moves m s))

-- ---- whole histories

module _ {Config TheEdit Node : Type 0} (m : Meaning Config TheEdit Node) (tables : TablesState TheEdit) (token : List ℕ) where
  entry_lasts : (s : DeviceState Config Node) (entry : Noted) (happened : Option (Happened Config Node)) → device_event m tables s entry.event ≡ happened → Fits entry happened
      → Lasts s.pending (noted_effect entry) (after_or s happened).pending
  entry_lasts s entry None e fits = absurd fits
  entry_lasts s entry (Some h) e fits = subst (λ (one : Noted). Lasts s.pending (noted_effect one) h.after.pending) (sym fits) (event_lasts m s tables entry.event h e)

  lasting_from : (s : DeviceState Config Node) (standing : Standing) (history : List Noted) → IsLasting standing.outcome s.pending → IsLegal m tables s history → (standing_from token standing history).outcome ≢ Undone End
  lasting_from s standing [] t legal = t.lasts
  lasting_from s standing (entry ∷ history) t legal =
      lasting_from (replayed m tables s entry) (standing_after token standing.outcome standing.other (noted_effect entry)) history
      (lasting_on token s.pending (replayed m tables s entry).pending standing.outcome standing.other (noted_effect entry) (entry_lasts s entry (device_event m tables s entry.event) refl legal.0) t) legal.1

  pub tokens_last : (running : Config) (history : List Noted) → IsLegal m tables (fresh_device running) history → outcome_of token history ≢ Undone End
  tokens_last running history legal = lasting_from (fresh_device running) (record { outcome = Never; other = false }) history
      (record { waits = λ impossible. absurd (cc); lasts = λ impossible. absurd (cc) }) legal
