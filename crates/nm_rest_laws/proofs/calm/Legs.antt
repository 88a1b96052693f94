-- A device of a calm run, request by request: what is asked, what is answered, and what it leaves.
use Rattle.std.proofs.Common.{◌≡◌, ◌∙◌, ℕ, ◌≤◌, ◌==◌, List, [], ◌∷◌, ◌++◌, true, false}
use Rattle.std.proofs.Common.{bytes_eq, Option, Some, None, slice_get, Ok, refl, ap, arith, if◌then◌else◌}
use Rattle.std.proofs.lemmas.Bool.Decides.{nat_tests}
use Rattle.nm_base.specs.Token.{is_reserved}
use Rattle.nm_base.specs.Words.{manager}
use Rattle.nm_proto.specs.declared.message.Store.TheVariants.{Running, Candidate}
use Rattle.nm_proto.specs.declared.message.Request.{Request}
use Rattle.nm_proto.specs.declared.message.Request.TheVariants.{OpenSession, Lock, Edit, Validate, Commit, CloseSession}
use Rattle.nm_proto.specs.declared.message.Reply.{Reply}
use Rattle.nm_proto.specs.declared.message.Reply.TheVariants.{Done, Opened}
use Rattle.nm_proto.specs.declared.plan.PlannedEdit.{PlannedEdit}
use Rattle.nm_proto.specs.Content.{Meaning, TablesState}
use Rattle.nm_sessions.specs.Sessions.{entered}
use Rattle.nm_stores.specs.Stores.{with_candidate, committed, candidate_of}
use Rattle.nm_partial.specs.Partial.{forgotten}
use Rattle.nm_pending.specs.Pending.{begun, deadline_of}
use Rattle.nm_device.specs.Device.{DeviceState, Stepped, fresh_device, with_stores}
use Rattle.nm_device.specs.Commit.{CommitForm, commit_tag, commit_from, commit_unless}
use Rattle.nm_device.specs.Undoing.{left_by}
use Rattle.nm_device.specs.Table.{with_lock, edit_at, edit_gives, validated}
use Rattle.nm_history.specs.declared.event.DeviceEvent.{DeviceEvent}
use Rattle.nm_history.specs.declared.event.DeviceEvent.TheVariants.{Entered, Asked}
use Rattle.nm_history.specs.declared.outcome.Outcome.TheVariants.{Never, Pending, Confirmed}
use Rattle.nm_history.specs.declared.event.Noted.{Noted}
use Rattle.nm_history.specs.Outcome.{outcome_of, standing_from}
use Rattle.nm_history.specs.History.{RecordedState, Served, recorded, answered, served_as, served}
use Rattle.nm_rest_laws.specs.Calm.{first_marks}

-- the requests that bring the change set to a device and confirm it, in their order
pub data Leg : Type 0 where
  Opens : Leg
  TakesRunning : Leg
  TakesCandidate : Leg
  Edits : Leg
  Validates : Leg
  Commits : Leg
  Confirms : Leg
  Closes : Leg

-- where a device stands between them
pub data Stop : Type 0 where
  First : Stop
  After : (leg : Leg) → Stop

abbrev pub before : Leg → Stop
before Opens = First
before TakesRunning = After Opens
before TakesCandidate = After TakesRunning
before Edits = After TakesCandidate
before Validates = After Edits
before Commits = After Validates
before Confirms = After Commits
before Closes = After Confirms

abbrev pub reply_to : Leg → Reply
reply_to Opens = Opened 1
reply_to _ = Done

-- the session that asks
abbrev pub asker : Leg → Option ℕ
asker Opens = None
asker _ = Some 1

module _ {Config Node : Type 0} where
  -- a request that was answered so
  abbrev noted_as : RecordedState Config Node → DeviceEvent → Reply → DeviceState Config Node → RecordedState Config Node
  noted_as r event reply s = record { device = s; history = r.history ++ record { event = event; reply = Some reply; undone = false } ∷ [] }

-- a change set's requests to a device, by its token, its timeout and the edit of the device
module _ (token : List ℕ) (timeout : ℕ) (planned : PlannedEdit) where
  abbrev pub request_of : Leg → Request
  request_of Opens = OpenSession manager
  request_of TakesRunning = Lock Running
  request_of TakesCandidate = Lock Candidate
  request_of Edits = Edit planned.edit planned.default_operation (Some first_marks)
  request_of Validates = Validate
  request_of Commits = Commit true (Some timeout) (Some token) None
  request_of Confirms = Commit false None None (Some token)
  request_of Closes = CloseSession

module _ {Config TheEdit Node : Type 0} (m : Meaning Config TheEdit Node) (tables : TablesState TheEdit)
    (token : List ℕ) (timeout : ℕ) (planned : PlannedEdit) (first made : Config) where
  abbrev asks : Leg → Request
  asks = request_of token timeout planned

  -- ---- the device

  abbrev s0 : DeviceState Config Node
  s0 = fresh_device first

  abbrev s1 : DeviceState Config Node
  s1 = record s0 { sessions = entered s0.sessions manager }

  abbrev s2 : DeviceState Config Node
  s2 = with_lock s1 Running 1

  abbrev s3 : DeviceState Config Node
  s3 = with_lock s2 Candidate 1

  abbrev s4 : DeviceState Config Node
  s4 = with_stores s3 (with_candidate s3.stores made)

  abbrev s6 : DeviceState Config Node
  s6 = record s4 {
    stores = committed s4.stores;
    partials = forgotten m (candidate_of s4.stores) s4.partials;
    pending = Some (begun first 1 (Some token) (deadline_of 0 (Some timeout)));
  }

  abbrev s7 : DeviceState Config Node
  s7 = record s6 { stores = committed s6.stores; partials = forgotten m (candidate_of s6.stores) s6.partials; pending = None }

  abbrev s8 : DeviceState Config Node
  s8 = left_by s7 1

  -- ---- and its history

  abbrev r0 : RecordedState Config Node
  r0 = recorded first

  abbrev r1 : RecordedState Config Node
  r1 = noted_as r0 (Entered manager) (Opened 1) s1

  abbrev r2 : RecordedState Config Node
  r2 = noted_as r1 (Asked 1 (asks TakesRunning)) Done s2

  abbrev r3 : RecordedState Config Node
  r3 = noted_as r2 (Asked 1 (asks TakesCandidate)) Done s3

  abbrev r4 : RecordedState Config Node
  r4 = noted_as r3 (Asked 1 (asks Edits)) Done s4

  abbrev r5 : RecordedState Config Node
  r5 = noted_as r4 (Asked 1 (asks Validates)) Done s4

  abbrev r6 : RecordedState Config Node
  r6 = noted_as r5 (Asked 1 (asks Commits)) Done s6

  abbrev r7 : RecordedState Config Node
  r7 = noted_as r6 (Asked 1 (asks Confirms)) Done s7

  abbrev r8 : RecordedState Config Node
  r8 = noted_as r7 (Asked 1 (asks Closes)) Done s8

  abbrev pub at : Stop → RecordedState Config Node
  at First = r0
  at (After Opens) = r1
  at (After TakesRunning) = r2
  at (After TakesCandidate) = r3
  at (After Edits) = r4
  at (After Validates) = r5
  at (After Commits) = r6
  at (After Confirms) = r7
  at (After Closes) = r8

  abbrev pub done_at : Leg → Served Config Node
  done_at leg = record { reply = reply_to leg; undone = false; after = at (After leg) }

  -- ---- each is done

  abbrev serves : RecordedState Config Node → Request → Stepped Config Node → Option (Served Config Node)
  serves r request stepped = served_as r (Asked 1 request) (Some (answered r.device request stepped))

  abbrev form : CommitForm
  form = record { confirmed = true; timeout = Some timeout; persist = Some token; persist_id = None }

  abbrev last : CommitForm
  last = record { confirmed = false; timeout = None; persist = None; persist_id = Some token }

  module _ (edit : TheEdit) (found : slice_get tables.edits planned.edit.0 ≡ Some edit)
      (applied : m.edited first edit planned.default_operation (Some first_marks) ≡ Ok made) (valid : m.violation made ≡ None) (waits : 1 ≤ timeout)
      (reserved : is_reserved token ≡ true) (same : bytes_eq token token ≡ true) where
    not_zero : (timeout == 0) ≡ false
    not_zero = number timeout waits
      where
        number : (n : ℕ) → 1 ≤ n → (n == 0) ≡ false
        number n h = grind (arith, nat_tests)

    no_tag : commit_tag m s4 1 form ≡ None
    no_tag = rw not_zero (rw reserved refl)

    none_then : commit_tag m s6 1 last ≡ None
    none_then = rw reserved (rw same refl)

    pub does : (leg : Leg) → served m tables (at (before leg)) (asker leg) (asks leg) ≡ Some (done_at leg)
    does Opens = refl
    does TakesRunning = refl
    does TakesCandidate = refl
    does Edits =
        ap (λ o. serves r3 (asks Edits) (edit_at m tables s3 o planned.default_operation (Some first_marks))) found
        ∙ ap (λ o. serves r3 (asks Edits) (edit_gives s3 o)) applied
    does Validates = ap (λ o. serves r4 (asks Validates) (validated s4 o)) valid
    does Commits =
        ap (λ o. serves r5 (asks Commits) (commit_from m s4 1 o true (Some token) (deadline_of 0 (Some timeout)))) no_tag
        ∙ ap (λ o. serves r5 (asks Commits) (commit_unless m s4 1 o true (Some token) (deadline_of 0 (Some timeout)))) valid
    does Confirms = ap (λ o. serves r6 (asks Confirms) (commit_from m s6 1 o false None (deadline_of 0 None))) none_then
    does Closes = refl

  -- its last two entries
  abbrev ending : List Noted
  ending =
      record { event = Asked 1 (asks Confirms); reply = Some Done; undone = false }
      ∷ record { event = Asked 1 (asks Closes); reply = Some Done; undone = false } ∷ []

  pub confirmed : bytes_eq token token ≡ true → outcome_of token (at (After Closes)).history ≡ Confirmed
  confirmed same =
      ap (λ b. (standing_from token (if b then record { outcome = Pending; other = false } else record { outcome = Never; other = true }) ending).outcome) same
