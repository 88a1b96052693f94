-- The device moves, and no session of the change set asks for it.
use Rattle.std.proofs.Common.{◌≡◌, ◌≤◌, ◌∙◌, ℕ, ◌+◌, Bool, true, false, cond, List, [], ◌∷◌, ◌++◌, Option, Some, is_some, refl, sym, ap, subst, arith}
use Rattle.std.proofs.lemmas.Bool.Decides.{nat_tests}
use Rattle.nm_base.specs.Token.{token_of}
use Rattle.nm_proto.specs.declared.message.Store.TheVariants.{Running}
use Rattle.nm_proto.specs.declared.journal.Verdict.{Verdict}
use Rattle.nm_sessions.specs.Sessions.{is_open}
use Rattle.nm_device.specs.Device.{is_dropped}
use Rattle.nm_history.specs.declared.event.DeviceEvent.{DeviceEvent}
use Rattle.nm_history.specs.declared.event.DeviceEvent.TheVariants.{Entered, Asked, Lost, Advanced, Restarted}
use Rattle.nm_history.specs.declared.event.Noted.{Noted}
use Rattle.nm_history.specs.declared.outcome.Outcome.{Outcome}
use Rattle.nm_history.specs.declared.outcome.Outcome.TheVariants.{Pending, Undone}
use Rattle.nm_history.specs.Outcome.{outcome_of, is_pending}
use Rattle.nm_history.specs.History.{RecordedState}
use Rattle.nm_device_laws.specs.Keeps.{KeepsOpen}
use Rattle.nm_device_laws.specs.Token.{KeepsToken, commits_done, waits_under, undoing_by}
use Rattle.nm_decider.specs.declared.seat.Seat.{Seat}
use Rattle.nm_wire.specs.Link.{session_of}
use Rattle.nm_wire.specs.Words.{commits_sent}
use Rattle.nm_wire.specs.Wire.{WireState}
use Rattle.nm_safety.specs.Pair.{FirstLink, HoldsRunning, Undecided, PairHolds, first_link, undelivered, is_never, is_confirmed, is_cancelled, is_ended}
use Rattle.nm_safety.specs.Moves.{Moves}

-- ---- the outcome

-- an outcome stays, or what was pending is undone by nobody
pub record KeepsOutcome (before after : Outcome) : Type 0 where
  pub never : is_never before ≡ false → is_never after ≡ false
  pub confirmed : is_confirmed after ≡ true → is_confirmed before ≡ true
  pub cancelled : is_cancelled after ≡ true → is_cancelled before ≡ true
  pub ended : is_ended before ≡ false → is_ended after ≡ false

same_outcome : (before after : Outcome) → after ≡ before → KeepsOutcome before after
same_outcome before after e = record {
  never = λ h. ap is_never e ∙ h;
  confirmed = λ h. sym (ap is_confirmed e) ∙ h;
  cancelled = λ h. sym (ap is_cancelled e) ∙ h;
  ended = λ h. ap is_ended e ∙ h;
}

not_cancelled : (event : DeviceEvent) → is_cancelled (Undone (undoing_by event)) ≡ false
not_cancelled (Entered user) = refl
not_cancelled (Asked session request) = refl
not_cancelled (Lost session) = refl
not_cancelled (Advanced seconds) = refl
not_cancelled Restarted = refl

not_ended : (event : DeviceEvent) → is_ended (Undone (undoing_by event)) ≡ false
not_ended (Entered user) = refl
not_ended (Asked session request) = refl
not_ended (Lost session) = refl
not_ended (Advanced seconds) = refl
not_ended Restarted = refl

undone_outcome : (before after : Outcome) (event : DeviceEvent) → after ≡ Undone (undoing_by event) → KeepsOutcome before after
undone_outcome before after event e = record {
  never = λ h. ap is_never e;
  confirmed = λ h. absurd (let g : false ≡ true = sym (ap is_confirmed e) ∙ h in cc);
  cancelled = λ h. absurd (let g : false ≡ true = sym (not_cancelled event) ∙ sym (ap is_cancelled e) ∙ h in cc);
  ended = λ h. ap is_ended e ∙ not_ended event;
}

pending_is : (outcome : Outcome) → is_pending outcome ≡ true → outcome ≡ Pending
pending_is outcome h = grind (arith, nat_tests)

-- what is known of it
pub record OutcomeMoves {Config Node : Type 0} (change : ℕ) (before after : RecordedState Config Node) : Type 0 where
  pub keeps : KeepsOutcome (outcome_of (token_of change) before.history) (outcome_of (token_of change) after.history)
  pub pending : is_pending (outcome_of (token_of change) after.history) ≡ true → waits_under (token_of change) after.device.pending ≡ true

module _ {Config Node : Type 0} (change : ℕ) (entry : Noted) (before after : RecordedState Config Node) (history : after.history ≡ before.history ++ entry ∷ [])
    (kept : KeepsToken (token_of change) before.device entry after.device) where
  abbrev token : List ℕ
  token = token_of change

  abbrev was : Outcome
  was = outcome_of token before.history

  abbrev is_now : Outcome
  is_now = outcome_of token after.history

  now_is : is_now ≡ outcome_of token (before.history ++ entry ∷ [])
  now_is = ap (outcome_of token) history

  waiting_moves : waits_under token before.device.pending ≡ true → was ≡ Pending → (b : Bool) → is_dropped before.device after.device ≡ b → is_now ≡ cond b (Undone (undoing_by entry.event)) Pending
      → OutcomeMoves change before after
  waiting_moves waits pending true d e = record {
    keeps = undone_outcome was is_now entry.event e;
    pending = λ h. absurd (let g : false ≡ true = sym (ap is_pending e) ∙ h in cc);
  }
  waiting_moves waits pending false d e = record {
    keeps = same_outcome was is_now (e ∙ sym pending);
    pending = λ h. ap (waits_under token) (kept.stays waits d) ∙ waits;
  }

  outcome_by : (is_pending was ≡ true → waits_under token before.device.pending ≡ true) → (b : Bool) → is_pending was ≡ b → OutcomeMoves change before after
  outcome_by waits true e =
      waiting_moves (waits e) (pending_is was e) (is_dropped before.device after.device) refl (now_is ∙ kept.waiting before.history (waits e) (pending_is was e))
  outcome_by waits false e =
      let same : is_now ≡ was = now_is ∙ kept.settled before.history e in
      record {
        keeps = same_outcome was is_now same;
        pending = λ h. absurd (let g : false ≡ true = sym e ∙ sym (ap is_pending same) ∙ h in cc);
      }

  pub outcome_by_token : (is_pending was ≡ true → waits_under token before.device.pending ≡ true) → OutcomeMoves change before after
  outcome_by_token waits = outcome_by waits (is_pending was) refl

module _ {Config Node : Type 0} (change : ℕ) (wire : WireState) (entry : Noted) (before after : RecordedState Config Node) (moves : Moves change wire entry before after) where
  -- ---- the first link

  still_holds : (session : ℕ) → session_of (first_link wire) ≡ Some session → is_open after.device.sessions session ≡ true
      → (is_open before.device.sessions session ≡ true → HoldsRunning session before.device) → HoldsRunning session after.device
  still_holds session e now holds =
      let kept : KeepsOpen session before.device after.device = (moves.session session e).kept now in
      let held : HoldsRunning session before.device = holds (sym (ap is_some (kept.user (moves.opened session e))) ∙ now) in
      record { owner = kept.owner Running held.owner; free = kept.free held.owner held.free; whole = kept.whole held.owner held.whole }

  first_moved : OutcomeMoves change before after → FirstLink (token_of change) (first_link wire) before → FirstLink (token_of change) (first_link wire) after
  first_moved outcome first = record {
    count =
        let same : commits_done (token_of change) after.history ≡ commits_done (token_of change) before.history = ap (commits_done (token_of change)) moves.history ∙ moves.token.count before.history in
        subst (λ n. n + undelivered (first_link wire) ≤ commits_sent (first_link wire)) (sym same) first.count;
    once = first.once;
    told = λ h. outcome.keeps.never (first.told h);
    held = λ h session e now. still_holds session e now (first.held h session e);
    unheld = first.unheld;
    asked = first.asked;
    author = λ session e h. first.author session e ((moves.session session e).author h);
    locking = first.locking;
  }

  pub moved_pair : (decided : Option Verdict) (seat : Seat) → PairHolds change decided seat wire before → PairHolds change decided seat wire after
  moved_pair decided seat pair =
      let outcome : OutcomeMoves change before after = outcome_by_token change entry before after moves.history moves.token pair.outcome.pending in
      record {
        first = first_moved outcome pair.first;
        each = pair.each;
        outcome = record {
          confirmed = λ h. pair.outcome.confirmed (outcome.keeps.confirmed h);
          cancelled = λ h. pair.outcome.cancelled (outcome.keeps.cancelled h);
          ended = outcome.keeps.ended pair.outcome.ended;
          committed = λ c m. outcome.keeps.never (pair.outcome.committed c m);
          pending = outcome.pending;
        };
        undecided = λ e.
            let u : Undecided (outcome_of (token_of change) before.history) seat wire = pair.undecided e in
            record { unsent = u.unsent; acked = λ a. outcome.keeps.never (u.acked a); ready = u.ready; only = u.only; unmade = u.unmade };
      }
