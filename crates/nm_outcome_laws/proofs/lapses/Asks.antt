-- What the manager asks next renews nothing, and a renewal that may go out goes to where the change set was committed.
use Rattle.std.proofs.Common.{◌≡◌, ◌∙◌, ℕ, ◌-◌, ◌==◌, Bool, true, false, ◌&&◌, List, Option, Some, None, IfSome, is_none, option_map, slice_get, refl, sym, ap, subst, arith}
use Rattle.std.proofs.lemmas.Bool.{cond_both}
use Rattle.std.proofs.lemmas.Bool.Decides.{nat_tests}
use Rattle.nm_base.specs.Token.{token_of}
use Rattle.nm_proto.specs.declared.ask.Ask.{Ask}
use Rattle.nm_proto.specs.declared.ask.Ask.TheVariants as ask
use Rattle.nm_proto.specs.declared.journal.Entry.{Entry}
use Rattle.nm_proto.specs.declared.journal.Verdict.{Verdict}
use Rattle.nm_proto.specs.declared.journal.Verdict.TheVariants as verdict
use Rattle.nm_proto.specs.declared.plan.ChangePlan.{ChangePlan}
use Rattle.nm_proto.specs.declared.message.Request.{Request}
use Rattle.nm_history.specs.Outcome.{outcome_of}
use Rattle.nm_history.specs.History.{RecordedState}
use Rattle.nm_decider_stage.specs.declared.stage.Stage.{Stage}
use Rattle.nm_decider_stage.specs.declared.stage.Stage.TheVariants.{Live, Refused, Failed, NeedMark, Resync, Leaving, Settled}
use Rattle.nm_decider_stage.specs.Stages.{first_ask, is_acknowledged, next_ask}
use Rattle.nm_decider.specs.declared.seat.Seat.{Seat}
use Rattle.nm_decider.specs.Course.{may_renew, may_renew_seat}
use Rattle.nm_decider.proofs.Actions.{both}
use Rattle.nm_resync.specs.declared.resync.ResyncStage.{ResyncStage}
use Rattle.nm_resync.specs.declared.resync.ResyncStage.TheVariants as resync
use Rattle.nm_resync.specs.Resync.{ResyncState, held_ask, resync_ask}
use Rattle.nm_wire.specs.Asks.{ask_of}
use Rattle.nm_manager.specs.Requests.{request_for}
use Rattle.nm_manager.specs.Slot.{SideState, SlotState, asked_in_fact}
use Rattle.nm_manager.proofs.Kept.{asks_fit}
use Rattle.nm_safety.specs.Slots.{AllHold, HoldsAt}
use Rattle.nm_safety.proofs.Basics.{never}
use Rattle.nm_outcome_laws.specs.RecordsSupport.{outcomes_at}
use Rattle.nm_outcome_laws.specs.Causes.{is_renewing}
use Rattle.nm_outcome_laws.specs.LapsesSupport.{WasCommitted}

-- ---- what is asked next

abbrev renews_next : Option Ask → Bool
renews_next None = false
renews_next (Some what) = is_renewing what

first_plain : (done : ℕ) → renews_next (first_ask done) ≡ false
first_plain done = grind (arith, nat_tests)

next_plain : (decided : Option Verdict) (at : Stage) → renews_next (next_ask decided at) ≡ false
next_plain None (Live done) = first_plain done
next_plain (Some verdict.Commit) (Live done) = cond_both (done == 0) None (Some ask.Confirm) (λ o. renews_next o ≡ false) (λ _. refl) (λ _. refl)
next_plain (Some (verdict.Abort why)) (Live done) = cond_both (done == 0) None (Some ask.Cancel) (λ o. renews_next o ≡ false) (λ _. refl) (λ _. refl)
next_plain decided Refused = refl
next_plain None Failed = refl
next_plain (Some verdict.Commit) Failed = refl
next_plain (Some (verdict.Abort why)) Failed = refl
next_plain None NeedMark = refl
next_plain (Some verdict.Commit) NeedMark = refl
next_plain (Some (verdict.Abort why)) NeedMark = refl
next_plain None Resync = refl
next_plain (Some decided) Resync = refl
next_plain None (Leaving kept) = refl
next_plain (Some decided) (Leaving kept) = refl
next_plain decided (Settled kept) = refl

held_plain : (commit : Bool) → is_renewing (held_ask commit) ≡ false
held_plain true = refl
held_plain false = refl

resync_plain : (commit : Bool) (at : ResyncStage) → is_renewing (resync_ask commit at) ≡ false
resync_plain commit resync.Opening = refl
resync_plain commit resync.Discarding = refl
resync_plain commit resync.Locking = refl
resync_plain commit resync.Holding = held_plain commit
resync_plain commit resync.Confirming = refl
resync_plain commit resync.Checking = refl
resync_plain commit (resync.Closing kept) = refl
resync_plain commit (resync.Done kept) = refl

in_fact_plain : (now : ResyncState) (what : Ask) → is_renewing what ≡ false → is_renewing (asked_in_fact now what) ≡ false
in_fact_plain now ask.OpenSession p = refl
in_fact_plain now ask.LockRunning p = refl
in_fact_plain now ask.LockCandidate p = refl
in_fact_plain now ask.Edit p = refl
in_fact_plain now ask.Validate p = refl
in_fact_plain now ask.CommitConfirmed p = refl
in_fact_plain now ask.Renew p = absurd (let g : true ≡ false = p in cc)
in_fact_plain now ask.Confirm p = refl
in_fact_plain now ask.Cancel p = refl
in_fact_plain now ask.HasMark p = refl
in_fact_plain now ask.Discard p = refl
in_fact_plain now ask.CloseSession p = refl
in_fact_plain now ask.Resync p = resync_plain now.commit now.stage

-- what is asked next, and what is asked in fact
pub next_renews_none : (decided : Option Verdict) (at : Stage) (now : ResyncState) (what : Ask) → next_ask decided at ≡ Some what
    → is_renewing (asked_in_fact now what) ≡ false
next_renews_none decided at now what next = in_fact_plain now what (sym (ap renews_next next) ∙ next_plain decided at)

-- ---- the requests that ask it

fit_plain : (what : Ask) → is_renewing what ≡ false → (found : Option Request) → IfSome found (λ q. ask_of q ≡ what)
    → IfSome found (λ q. is_renewing (ask_of q) ≡ false)
fit_plain what plain None fit = tt
fit_plain what plain (Some request) fit = ap is_renewing fit ∙ plain

pub request_plain : (plan : ChangePlan) (entries : List Entry) (change device : ℕ) (what : Ask) → is_renewing what ≡ false
    → IfSome (request_for plan entries change device what) (λ q. is_renewing (ask_of q) ≡ false)
request_plain plan entries change device what plain =
    fit_plain what plain (request_for plan entries change device what) (asks_fit plan entries change device what)

-- ---- a renewal

none_is : (decided : Option Verdict) → is_none decided ≡ true → decided ≡ None
none_is None h = refl
none_is (Some v) h = never h

module _ {Config Node : Type 0} (change : ℕ) (decided : Option Verdict) (slot : SlotState) (devices : List (RecordedState Config Node))
    (holds : AllHold change decided slot devices) (same : decided ≡ slot.course.verdict) (place : ℕ) (side : SideState)
    (there : slice_get slot.sides place ≡ Some side) where
  committed_at : (seat : Seat) → slice_get slot.course.seats place ≡ Some seat → decided ≡ None → is_acknowledged seat.stage ≡ true
      → (r : Option (RecordedState Config Node)) → HoldsAt change decided (Some seat) (Some side) r
      → WasCommitted (option_map (λ one. outcome_of (token_of change) one.history) r)
  committed_at seat here none acked None h = tt
  committed_at seat here none acked (Some r) h = (h.undecided none).acked acked

  by_seat : (seat : Option Seat) → slice_get slot.course.seats place ≡ seat
      → (is_none slot.course.verdict && (is_none slot.course.trouble && may_renew_seat seat)) ≡ true
      → WasCommitted (outcomes_at change devices place)
  by_seat None here may =
      let parts = both (is_none slot.course.verdict) (is_none slot.course.trouble && false) may in
      never ((both (is_none slot.course.trouble) false parts.1).1)
  by_seat (Some seat) here may =
      let undecided = both (is_none slot.course.verdict) (is_none slot.course.trouble && may_renew_seat (Some seat)) may in
      let calm = both (is_none slot.course.trouble) (may_renew_seat (Some seat)) undecided.1 in
      let member = both seat.is_member (is_none seat.awaited && is_acknowledged seat.stage) calm.1 in
      let quiet = both (is_none seat.awaited) (is_acknowledged seat.stage) member.1 in
      committed_at seat here (same ∙ none_is slot.course.verdict undecided.0) quiet.1 (slice_get devices place)
      (subst (λ o. HoldsAt change decided (Some seat) o (slice_get devices place)) there
      (subst (λ o. HoldsAt change decided o (slice_get slot.sides place) (slice_get devices place)) here (holds place)))

-- what may be renewed was committed
pub renewed_committed : {Config Node : Type 0} (change : ℕ) (decided : Option Verdict) (slot : SlotState)
    (devices : List (RecordedState Config Node)) → AllHold change decided slot devices → decided ≡ slot.course.verdict → (device : ℕ)
    (side : SideState) → slice_get slot.sides (device - 1) ≡ Some side → may_renew slot.course device ≡ true
    → WasCommitted (outcomes_at change devices (device - 1))
renewed_committed change decided slot devices holds same device side there may =
    by_seat change decided slot devices holds same (device - 1) side there (slice_get slot.course.seats (device - 1)) refl may
