-- A request of a link is answered by the device.
use Rattle.std.proofs.Common.{◌≡◌, ◌≤◌, ◌∙◌, ℕ, zero, suc, ◌+◌, true, false, List, Option, Some, None, refl, sym, ap, subst, arith}
use Rattle.nm_base.specs.Token.{token_of}
use Rattle.nm_proto.specs.declared.journal.Verdict.{Verdict}
use Rattle.nm_sessions.specs.Sessions.{is_open}
use Rattle.nm_history.specs.declared.event.Noted.{Noted}
use Rattle.nm_history.specs.declared.outcome.Outcome.{Outcome}
use Rattle.nm_history.specs.declared.outcome.Outcome.TheVariants.{Never, Pending}
use Rattle.nm_history.specs.Outcome.{outcome_of, is_pending}
use Rattle.nm_history.specs.History.{RecordedState}
use Rattle.nm_device_laws.specs.Numbered.{has_author}
use Rattle.nm_device_laws.specs.Token.{commits_done, waits_under}
use Rattle.nm_device_laws.proofs.Outcomes.{never_without}
use Rattle.nm_decider.specs.declared.seat.Seat.{Seat}
use Rattle.nm_wire.specs.Link.{LinkState, session_of}
use Rattle.nm_wire.specs.Words.{commits_sent, holds}
use Rattle.nm_wire.specs.Wire.{WireState}
use Rattle.nm_manager.specs.Slot.{to_commit}
use Rattle.nm_safety.specs.Pair.{HoldsRunning, Undecided, PairHolds, first_link, undelivered, is_never, is_confirmed, is_cancelled, is_ended, to_abort}
use Rattle.nm_safety.specs.Told.{AnswersPlainly, FollowsUp, RenewsOurs, ConfirmsOurs, CancelsOurs}
use Rattle.nm_safety.proofs.Moved.{OutcomeMoves, outcome_by_token}

-- ---- the device moves, and no link does

pub record DeviceMoves {Config Node : Type 0} (token : List ℕ) (decided : Option Verdict) (first : LinkState) (before after : RecordedState Config Node) : Type 0 where
  pub count : commits_done token after.history ≡ commits_done token before.history
  pub never : is_never (outcome_of token before.history) ≡ false → is_never (outcome_of token after.history) ≡ false
  pub confirmed : is_confirmed (outcome_of token after.history) ≡ true → to_commit decided ≡ true
  pub cancelled : is_cancelled (outcome_of token after.history) ≡ true → to_abort decided ≡ true
  pub ended : is_ended (outcome_of token after.history) ≡ false
  pub pending : is_pending (outcome_of token after.history) ≡ true → waits_under token after.device.pending ≡ true
  pub held : holds first ≡ true → (session : ℕ) → session_of first ≡ Some session → is_open after.device.sessions session ≡ true → HoldsRunning session after.device
  pub author : (session : ℕ) → session_of first ≡ Some session → has_author after.device.pending session ≡ true → 1 ≤ commits_sent first

module _ {Config Node : Type 0} (change : ℕ) (decided : Option Verdict) (seat : Seat) (wire : WireState) (before after : RecordedState Config Node) where
  abbrev token : List ℕ
  token = token_of change

  moves_by : DeviceMoves token decided (first_link wire) before after → PairHolds change decided seat wire before → PairHolds change decided seat wire after
  moves_by moves pair = record {
    first = record {
      count = subst (λ n. n + undelivered (first_link wire) ≤ commits_sent (first_link wire)) (sym moves.count) pair.first.count;
      once = pair.first.once;
      told = λ h. moves.never (pair.first.told h);
      held = moves.held;
      unheld = pair.first.unheld;
      asked = pair.first.asked;
      author = moves.author;
      locking = pair.first.locking;
    };
    each = pair.each;
    outcome = record {
      confirmed = moves.confirmed;
      cancelled = moves.cancelled;
      ended = moves.ended;
      committed = λ c m. moves.never (pair.outcome.committed c m);
      pending = moves.pending;
    };
    undecided = λ e.
        let u : Undecided (outcome_of token before.history) seat wire = pair.undecided e in
        record { unsent = u.unsent; acked = λ a. moves.never (u.acked a); ready = u.ready; only = u.only; unmade = u.unmade };
  }

  -- ---- one that says nothing of the token

  plain_moves : (entry : Noted) → AnswersPlainly change wire entry before after → PairHolds change decided seat wire before → DeviceMoves token decided (first_link wire) before after
  plain_moves entry answers pair =
      let outcome : OutcomeMoves change before after = outcome_by_token change entry before after answers.history answers.token pair.outcome.pending in
      record {
        count = ap (commits_done token) answers.history ∙ answers.token.count before.history;
        never = outcome.keeps.never;
        confirmed = λ h. pair.outcome.confirmed (outcome.keeps.confirmed h);
        cancelled = λ h. pair.outcome.cancelled (outcome.keeps.cancelled h);
        ended = outcome.keeps.ended pair.outcome.ended;
        pending = outcome.pending;
        held = λ h session e now. (answers.session session e).holds now (pair.first.held h session e ((answers.session session e).was_open now));
        author = λ session e h. pair.first.author session e ((answers.session session e).author h);
      }

  pub plain_pair : (entry : Noted) → AnswersPlainly change wire entry before after → PairHolds change decided seat wire before → PairHolds change decided seat wire after
  plain_pair entry answers pair = moves_by (plain_moves entry answers pair) pair

  -- ---- one that names it

  pending_never : (outcome : Outcome) → outcome ≡ Pending → is_never outcome ≡ false
  pending_never outcome e = ap is_never e

  none_waits : (follows : FollowsUp token before after) → PairHolds change decided seat wire before → before.device.pending ≡ None → ⊥
  none_waits follows pair none =
      let waits : waits_under token before.device.pending ≡ true = pair.outcome.pending (ap is_pending follows.waited) in
      absurd (let g : false ≡ true = sym (ap (waits_under token) none) ∙ waits in cc)

  -- nobody has running to itself while a commit is pending
  nobody_holds : (follows : FollowsUp token before after) → PairHolds change decided seat wire before → holds (first_link wire) ≡ true → (session : ℕ) → session_of (first_link wire) ≡ Some session
      → is_open after.device.sessions session ≡ true → HoldsRunning session after.device
  nobody_holds follows pair h session e now =
      absurd (none_waits follows pair (pair.first.held h session e (ap (λ sessions. is_open sessions session) (sym follows.sessions) ∙ now)).free)

  was_sent_once : (follows : FollowsUp token before after) → PairHolds change decided seat wire before → 1 ≤ commits_sent (first_link wire)
  was_sent_once follows pair = by_done (commits_done token before.history) refl
    where
      by_done : (n : ℕ) → commits_done token before.history ≡ n → 1 ≤ commits_sent (first_link wire)
      by_done zero e = absurd (let never : outcome_of token before.history ≡ Never = never_without token before.history e in let g : Pending ≡ Never = sym follows.waited ∙ never in cc)
      by_done (suc n) e = let c = pair.first.count in omega (arith, e, c)

  renewed_moves : RenewsOurs token before after → PairHolds change decided seat wire before → DeviceMoves token decided (first_link wire) before after
  renewed_moves renews pair = record {
    count = renews.follows.count;
    never = λ h. pending_never (outcome_of token after.history) renews.outcome;
    confirmed = λ h. absurd (let g : false ≡ true = sym (ap is_confirmed renews.outcome) ∙ h in cc);
    cancelled = λ h. absurd (let g : false ≡ true = sym (ap is_cancelled renews.outcome) ∙ h in cc);
    ended = ap is_ended renews.outcome;
    pending = λ h. renews.waits;
    held = nobody_holds renews.follows pair;
    author = λ session e h. was_sent_once renews.follows pair;
  }

  pub renewal_pair : RenewsOurs token before after → PairHolds change decided seat wire before → PairHolds change decided seat wire after
  renewal_pair renews pair = moves_by (renewed_moves renews pair) pair

  no_author : (session : ℕ) → after.device.pending ≡ None → has_author after.device.pending session ≡ true → ⊥
  no_author session none h = absurd (let g : false ≡ true = sym (ap (λ p. has_author p session) none) ∙ h in cc)

  confirmed_moves : ConfirmsOurs token before after → to_commit decided ≡ true → PairHolds change decided seat wire before → DeviceMoves token decided (first_link wire) before after
  confirmed_moves confirms commit pair = record {
    count = confirms.follows.count;
    never = λ h. ap is_never confirms.outcome;
    confirmed = λ h. commit;
    cancelled = λ h. absurd (let g : false ≡ true = sym (ap is_cancelled confirms.outcome) ∙ h in cc);
    ended = ap is_ended confirms.outcome;
    pending = λ h. absurd (let g : false ≡ true = sym (ap is_pending confirms.outcome) ∙ h in cc);
    held = nobody_holds confirms.follows pair;
    author = λ session e h. absurd (no_author session confirms.ended h);
  }

  pub confirm_pair : ConfirmsOurs token before after → to_commit decided ≡ true → PairHolds change decided seat wire before → PairHolds change decided seat wire after
  confirm_pair confirms commit pair = moves_by (confirmed_moves confirms commit pair) pair

  cancelled_moves : CancelsOurs token before after → to_abort decided ≡ true → PairHolds change decided seat wire before → DeviceMoves token decided (first_link wire) before after
  cancelled_moves cancels abort pair = record {
    count = cancels.follows.count;
    never = λ h. ap is_never cancels.outcome;
    confirmed = λ h. absurd (let g : false ≡ true = sym (ap is_confirmed cancels.outcome) ∙ h in cc);
    cancelled = λ h. abort;
    ended = ap is_ended cancels.outcome;
    pending = λ h. absurd (let g : false ≡ true = sym (ap is_pending cancels.outcome) ∙ h in cc);
    held = nobody_holds cancels.follows pair;
    author = λ session e h. absurd (no_author session cancels.ended h);
  }

  pub cancel_pair : CancelsOurs token before after → to_abort decided ≡ true → PairHolds change decided seat wire before → PairHolds change decided seat wire after
  cancel_pair cancels abort pair = moves_by (cancelled_moves cancels abort pair) pair
