-- A reply of a device is handled.
use Rattle.std.proofs.Common.{◌≡◌, ◌≤◌, ◌∙◌, ℕ, Bool, true, false, ◌||◌, ◌&&◌, cond, fold, Option, Some, None, IfSome, is_some, slice_get, refl, sym, ap, subst, arith}
use Rattle.std.proofs.lemmas.Bool.Decides.{nat_tests}
use Rattle.nm_base.specs.Token.{token_of}
use Rattle.nm_proto.specs.declared.ask.Ask.{Ask}
use Rattle.nm_proto.specs.declared.ask.Ask.TheVariants as ask
use Rattle.nm_proto.specs.declared.message.Reply.{Reply}
use Rattle.nm_proto.specs.declared.journal.Verdict.{Verdict}
use Rattle.nm_history.specs.Outcome.{outcome_of}
use Rattle.nm_history.specs.History.{RecordedState}
use Rattle.nm_decider_stage.specs.declared.stage.Stage.{Stage}
use Rattle.nm_decider_stage.specs.Stages.{learnt, is_acknowledged, fits}
use Rattle.nm_decider.specs.declared.seat.Seat.{Seat}
use Rattle.nm_wire.specs.declared.link.Exchange.{Exchange}
use Rattle.nm_wire.specs.Asks.{ask_of, same_ask}
use Rattle.nm_wire.specs.Link.{LinkState, handled_on, over_way, ends}
use Rattle.nm_wire.specs.Words.{commits_sent, holds, was_done, done_again, holds_after, holds_by, is_done}
use Rattle.nm_wire.specs.Wire.{WireState, current_link, handled_at}
use Rattle.nm_manager.specs.Slot.{SideState, is_resync}
use Rattle.nm_safety.proofs.Basics.{either}
use Rattle.nm_safety.specs.Step.{GoesWith, may_await}
use Rattle.nm_safety.specs.Pair.{FirstLink, EachLink, Undecided, PairHolds, first_link, may_be_sent, is_locked, is_never}
use Rattle.nm_safety.proofs.Wires.{IsDue}
use Rattle.nm_safety.proofs.Pairs.{asked_is, may_now, heard_goes}
use Rattle.nm_safety.proofs.Links.{DidAsMuch, SentAsMuch, did_handled, sent_handled_on}
use Rattle.nm_safety.proofs.Firsts.{first_handled}
use Rattle.nm_safety.proofs.Gone.{first_heard, each_heard, held_first}
use Rattle.nm_safety.proofs.Asking.{undecided_plain, unsent_learnt, acked_learnt, locked_learnt, live_learnt}

each_handled : (decided : Option Verdict) (place : ℕ) (link : LinkState) → EachLink decided place link → EachLink decided place (handled_on link)
each_handled decided place link each =
    let same : SentAsMuch link (handled_on link) = sent_handled_on link in
    record { later = λ p. same.commits ∙ each.later p; confirm = λ h. each.confirm (sym same.confirms ∙ h); cancel = λ h. each.cancel (sym same.cancels ∙ h) }

-- the commit that is told done was done, and the lock is held
commit_done : (found : Bool) (what : Ask) (reply : Reply) → (same_ask what ask.CommitConfirmed && fits what reply) ≡ true → (found || (same_ask what ask.CommitConfirmed && is_done reply)) ≡ true
commit_done found what reply h = grind (arith, nat_tests)

lock_held : (held : Bool) (what : Ask) (reply : Reply) → (same_ask what ask.LockRunning && fits what reply) ≡ true → holds_by held what reply ≡ true
lock_held held what reply h = grind (arith, nat_tests)

not_some : {A : Type 0} (o : Option A) → is_some o ≡ true → o ≡ None → ⊥
not_some None h e = absurd (let g : false ≡ true = h in cc)
not_some (Some x) h e = absurd (let g : Some x ≡ None = e in cc)

was_some : (b : Bool) (current : Option ℕ) (number : ℕ) → cond b None current ≡ Some number → current ≡ Some number
was_some true current number h = absurd (let e : None ≡ Some number = h in cc)
was_some false current number h = h

module _ {Config Node : Type 0} (change : ℕ) (seat : Seat) (side : SideState) (r : RecordedState Config Node) (link : ℕ) (exchange : Exchange) (due_now : IsDue side.wire link exchange) where
  abbrev pub after : WireState
  after = handled_at side.wire link (Some exchange)

  -- what reads links alone
  handled_first : (decided : Option Verdict) → PairHolds change decided seat side.wire r → FirstLink (token_of change) (first_link after) r
  handled_first decided pair =
      first_heard side.wire link exchange due_now (λ l. FirstLink (token_of change) l r) (λ e f. first_handled (token_of change) r due_now.held exchange due_now.way f) pair.first

  handled_each : (decided : Option Verdict) → PairHolds change decided seat side.wire r → (place : ℕ) → IfSome (slice_get after.links place) (EachLink decided place)
  handled_each decided pair = each_heard side.wire link exchange due_now (EachLink decided) (λ place each. each_handled decided place due_now.held each) pair.each

  -- before the verdict
  module _ (before : GoesWith None seat side) (undecided : Undecided (outcome_of (token_of change) r.history) seat side.wire) (first : FirstLink (token_of change) (first_link side.wire) r)
      (what : Ask) (awaited : seat.awaited ≡ Some what) where
    may : may_await None seat.stage what ≡ true
    may = may_now None seat side before link exchange due_now what awaited

    asked : ask_of exchange.request ≡ what
    asked = sym (asked_is None seat side before link exchange due_now what awaited) ∙ undecided_plain seat.stage side.resync what may

    -- it is the first link on which it was told
    on_first : first_link side.wire ≡ due_now.held
    on_first = held_first side.wire link exchange due_now (undecided.only link due_now.current)

    first_after : (DidAsMuch (first_link side.wire) (first_link after)) × SentAsMuch (first_link side.wire) (first_link after)
    first_after =
        first_heard side.wire link exchange due_now (λ l. DidAsMuch (first_link side.wire) l × SentAsMuch (first_link side.wire) l)
        (λ e same. (subst (λ l. DidAsMuch l (handled_on due_now.held)) (sym e) (did_handled due_now.held), subst (λ l. SentAsMuch l (handled_on due_now.held)) (sym e) (sent_handled_on due_now.held)))
        (record { session = refl; held = refl; done = refl }, record { commits = refl; confirms = refl; cancels = refl })

    commit_told : (same_ask what ask.CommitConfirmed && fits what exchange.reply) ≡ true → was_done ask.CommitConfirmed (first_link side.wire) ≡ true
    commit_told h =
        ap (was_done ask.CommitConfirmed) on_first
        ∙ ap (over_way (done_again ask.CommitConfirmed) (fold (done_again ask.CommitConfirmed) false due_now.held.past)) due_now.way
        ∙ ap (λ a. fold (done_again ask.CommitConfirmed) false due_now.held.past || (same_ask a ask.CommitConfirmed && is_done exchange.reply)) asked
        ∙ commit_done (fold (done_again ask.CommitConfirmed) false due_now.held.past) what exchange.reply h

    lock_told : (same_ask what ask.LockRunning && fits what exchange.reply) ≡ true → holds (first_link side.wire) ≡ true
    lock_told h =
        ap holds on_first ∙ ap (over_way holds_after (fold holds_after false due_now.held.past)) due_now.way
        ∙ ap (λ a. holds_by (fold holds_after false due_now.held.past) a exchange.reply) asked ∙ lock_held (fold holds_after false due_now.held.past) what exchange.reply h

    undecided_handled : GoesWith None (record seat { stage = learnt None seat.stage what exchange.reply; awaited = None }) (record { wire = after; resync = side.resync })
        → Undecided (outcome_of (token_of change) r.history) (record seat { stage = learnt None seat.stage what exchange.reply; awaited = None }) after
    undecided_handled goes = record {
      unsent =
          subst (λ n. n ≤ may_be_sent (learnt None seat.stage what exchange.reply) None) (sym first_after.1.commits)
          (unsent_learnt seat.stage what exchange.reply (commits_sent (first_link side.wire)) may first.once (subst (λ a. commits_sent (first_link side.wire) ≤ may_be_sent seat.stage a) awaited undecided.unsent));
      acked = λ a.
          either (is_acknowledged seat.stage) (same_ask what ask.CommitConfirmed && fits what exchange.reply) (is_never (outcome_of (token_of change) r.history) ≡ false)
          undecided.acked (λ h. first.told (commit_told h)) (acked_learnt seat.stage what exchange.reply may a);
      ready = λ l z.
          let none : commits_sent (first_link side.wire) ≡ 0 = sym first_after.1.commits ∙ z in
          first_after.0.held ∙ either (is_locked seat.stage) (same_ask what ask.LockRunning && fits what exchange.reply) (holds (first_link side.wire) ≡ true)
          (λ k. undecided.ready k none) lock_told (locked_learnt seat.stage what exchange.reply may l);
      only = λ number e. undecided.only number (was_some (ends exchange.request exchange.reply) side.wire.current number e);
      unmade = λ l none.
          absurd (not_some (current_link after) (goes.linked refl ∙ live_learnt seat.stage what exchange.reply side.resync.stage may l) none);
    }

  -- ---- a reply to what is asked in the course

  module _ (what : Ask) (awaited : seat.awaited ≡ Some what) where
    pub handled_pair : (decided : Option Verdict) → GoesWith decided seat side → is_resync (Some what) ≡ false → PairHolds change decided seat side.wire r
        → PairHolds change decided (record seat { stage = learnt decided seat.stage what exchange.reply; awaited = None }) after
        r
    handled_pair decided before plain pair = record {
      first = handled_first decided pair;
      each = handled_each decided pair;
      outcome = record { confirmed = pair.outcome.confirmed; cancelled = pair.outcome.cancelled; ended = pair.outcome.ended; committed = pair.outcome.committed; pending = pair.outcome.pending };
      undecided = λ e. by_verdict decided e before plain pair;
    }
      where
        by_verdict : (decided : Option Verdict) → decided ≡ None → GoesWith decided seat side → is_resync (Some what) ≡ false → PairHolds change decided seat side.wire r
            → Undecided (outcome_of (token_of change) r.history) (record seat { stage = learnt decided seat.stage what exchange.reply; awaited = None }) after
        by_verdict (Some v) e before plain pair = absurd (let g : Some v ≡ None = e in cc)
        by_verdict None e before plain pair =
            undecided_handled before (pair.undecided refl) pair.first what awaited (heard_goes None seat side before link exchange due_now what awaited plain)

  -- ---- and to what a resynchronisation asks

  pub resynced_pair : (v : Verdict) (stage : Stage) → PairHolds change (Some v) seat side.wire r → PairHolds change (Some v) (record seat { stage = stage; awaited = None }) after r
  resynced_pair v stage pair = record {
    first = handled_first (Some v) pair;
    each = handled_each (Some v) pair;
    outcome = record { confirmed = pair.outcome.confirmed; cancelled = pair.outcome.cancelled; ended = pair.outcome.ended; committed = pair.outcome.committed; pending = pair.outcome.pending };
    undecided = λ e. absurd (let g : Some v ≡ None = e in cc);
  }
