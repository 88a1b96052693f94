-- A request goes out to a device.
use Rattle.std.proofs.Common.{◌≡◌, ◌≤◌, ◌∙◌, ℕ, ◌+◌, Bool, true, false, ◌||◌, List, [], length, Option, Some, None, IfSome, is_some, slice_get, slice_set, unwrap_or, option_and_then, refl, sym, ap, subst, arith}
use Rattle.std.proofs.lemmas.Bool.Decides.{nat_tests}
use Rattle.nm_base.specs.Token.{token_of}
use Rattle.nm_proto.specs.declared.ask.Ask.{Ask}
use Rattle.nm_proto.specs.declared.ask.Ask.TheVariants as ask
use Rattle.nm_proto.specs.declared.message.Request.{Request}
use Rattle.nm_proto.specs.declared.journal.Verdict.{Verdict}
use Rattle.nm_history.specs.declared.outcome.Outcome.{Outcome}
use Rattle.nm_history.specs.Outcome.{outcome_of}
use Rattle.nm_history.specs.History.{RecordedState}
use Rattle.nm_decider_stage.specs.Stages.{next_ask, is_acknowledged}
use Rattle.nm_decider.specs.declared.seat.Seat.{Seat}
use Rattle.nm_resync.specs.declared.resync.ResyncStage.TheVariants.{Opening}
use Rattle.nm_base.specs.Count.{raised}
use Rattle.nm_decider.specs.Course.{asked_next, renewed}
use Rattle.nm_wire.specs.Asks.{ask_of, same_ask}
use Rattle.nm_wire.specs.Link.{LinkState, fresh_link, is_quiet_way, sent_on}
use Rattle.nm_wire.specs.Words.{commits_sent, commit_count, holds, was_sent}
use Rattle.nm_wire.specs.Wire.{WireState, current_link, begun}
use Rattle.nm_manager.specs.Slot.{SideState, asked_in_fact, opens, may_go, gone, to_commit}
use Rattle.nm_safety.proofs.Basics.{either}
use Rattle.nm_safety.specs.Step.{GoesWith, way_ask, may_await, has_link}
use Rattle.nm_safety.specs.Pair.{FirstLink, EachLink, Undecided, PairHolds, first_link, may_be_sent, is_live, to_abort}
use Rattle.nm_safety.proofs.Wires.{set_there}
use Rattle.nm_safety.proofs.Tables.{both, next_awaited, renews_stage}
use Rattle.nm_safety.proofs.Pairs.{gone_ask, next_goes, goes_now}
use Rattle.nm_safety.proofs.Links.{DidAsMuch, did_sent_on, commits_after, sent_after}
use Rattle.nm_safety.proofs.Firsts.{first_sent}
use Rattle.nm_safety.proofs.Gone.{GoesOnOne, sent_one, first_gone, each_gone}
use Rattle.nm_safety.proofs.Asking.{unsent_after, commit_unsent, commit_locked, lock_unsent, undecided_plain, opens_at_first, never_confirms, asks_rightly, decided_rightly, rightly_first, rightly_confirms, rightly_cancels}

-- what is asked may be asked then, and of this link
pub record GoesRightly (decided : Option Verdict) (what : Ask) (new : Bool) (wire : WireState) : Type 0 where
  -- the confirmed commit where none was sent and running is locked, and the lock where none was sent
  pub unsent : what ≡ ask.CommitConfirmed → commits_sent (first_link wire) ≡ 0
  pub locked : what ≡ ask.CommitConfirmed → holds (first_link wire) ≡ true
  pub locking : what ≡ ask.LockRunning → commits_sent (first_link wire) ≡ 0
  -- no commit goes out on a later link
  pub later : (place : ℕ) → 1 ≤ place → (new ≡ false → wire.current ≡ Some (place + 1)) → commit_count what ≡ 0
  pub confirms : same_ask what ask.Confirm ≡ true → to_commit decided ≡ true
  pub cancels : same_ask what ask.Cancel ≡ true → to_abort decided ≡ true

fresh_each : (decided : Option Verdict) (place : ℕ) → EachLink decided place fresh_link
fresh_each decided place = record {
  later = λ p. refl;
  confirm = λ h. absurd (let e : false ≡ true = h in cc);
  cancel = λ h. absurd (let e : false ≡ true = h in cc);
}

module _ (decided : Option Verdict) (request : Request) (new : Bool) (wire : WireState) (goes : may_go new wire ≡ true) (rightly : GoesRightly decided (ask_of request) new wire) where
  each_sent : (place : ℕ) (link : LinkState) → (new ≡ false → wire.current ≡ Some (place + 1)) → is_quiet_way link.way ≡ true → EachLink decided place link → EachLink decided place (sent_on request link)
  each_sent place link at quiet each = record {
    later = λ p.
        let sent : commits_sent (sent_on request link) ≡ commits_sent link + commit_count (ask_of request) = commits_after request link quiet in
        let none : commits_sent link ≡ 0 = each.later p in
        let more : commit_count (ask_of request) ≡ 0 = rightly.later place p at in
        omega (arith, sent, none, more);
    confirm = λ h. either (was_sent ask.Confirm link) (same_ask (ask_of request) ask.Confirm) (to_commit decided ≡ true) each.confirm rightly.confirms (sym (sent_after ask.Confirm request link quiet) ∙ h);
    cancel = λ h. either (was_sent ask.Cancel link) (same_ask (ask_of request) ask.Cancel) (to_abort decided ≡ true) each.cancel rightly.cancels (sym (sent_after ask.Cancel request link quiet) ∙ h);
  }

  each_turned : ((place : ℕ) → IfSome (slice_get wire.links place) (EachLink decided place)) → (place : ℕ) → IfSome (slice_get (gone new wire request).links place) (EachLink decided place)
  each_turned all = each_gone (EachLink decided) new wire request goes (fresh_each decided) (λ place link on. each_sent place link (λ e. (on e).0)) all

  first_turned : {Config Node : Type 0} (token : List ℕ) (r : RecordedState Config Node) → FirstLink token (first_link wire) r → FirstLink token (first_link (gone new wire request)) r
  first_turned token r first =
      first_gone (λ link. FirstLink token link r) new wire request goes
      (λ link e quiet f. first_sent token r link request quiet (λ a. ap commits_sent (sym e) ∙ rightly.unsent a) (λ a. ap holds (sym e) ∙ rightly.locked a) (λ a. ap commits_sent (sym e) ∙ rightly.locking a) f) first

-- ---- before the verdict

not_some : {A : Type 0} (o : Option A) → is_some o ≡ false → o ≡ None
not_some None h = refl
not_some (Some x) h = absurd (let e : true ≡ false = h in cc)

is_first : (number place : ℕ) → number ≡ 1 → number ≡ place + 1 → 1 ≤ place → ⊥
is_first number place one at p = omega (arith, one, at, p)

module _ (outcome : Outcome) (seat : Seat) (side : SideState) (before : GoesWith None seat side) (undecided : Undecided outcome seat side.wire) (quiet : seat.awaited ≡ None)
    (what : Ask) (may : may_await None seat.stage what ≡ true) (request : Request) (is : ask_of request ≡ what) where
  unsent_now : commits_sent (first_link side.wire) ≤ may_be_sent seat.stage None
  unsent_now = subst (λ a. commits_sent (first_link side.wire) ≤ may_be_sent seat.stage a) quiet undecided.unsent

  may_ask : (other : Ask) → ask_of request ≡ other → may_await None seat.stage other ≡ true
  may_ask other e = ap (may_await None seat.stage) (sym e ∙ is) ∙ may

  -- a session is asked for on the first link, which is new
  none_made : opens what ≡ true → side.wire.links ≡ []
  none_made opening =
      let at : (is_live seat.stage ≡ true) × (has_link seat.stage side.resync.stage ≡ false) = opens_at_first seat.stage what side.resync.stage may opening in
      undecided.unmade at.0 (not_some (current_link side.wire) (before.linked quiet ∙ at.1))

  later_none : (place : ℕ) → 1 ≤ place → (opens what ≡ false → side.wire.current ≡ Some (place + 1)) → commit_count (ask_of request) ≡ 0
  later_none place p at = by_opening (opens what) refl
    where
      opening_none : (what : Ask) → opens what ≡ true → commit_count what ≡ 0
      opening_none what o = grind (arith, nat_tests)

      by_opening : (b : Bool) → opens what ≡ b → commit_count (ask_of request) ≡ 0
      by_opening true o = ap commit_count is ∙ opening_none what o
      by_opening false o = absurd (is_first (place + 1) place (undecided.only (place + 1) (at o)) refl p)

  pub undecided_rightly : GoesRightly None (ask_of request) (opens what) side.wire
  undecided_rightly = record {
    unsent = λ e. commit_unsent seat.stage (commits_sent (first_link side.wire)) (may_ask ask.CommitConfirmed e) unsent_now;
    locked = λ e. undecided.ready (commit_locked seat.stage (may_ask ask.CommitConfirmed e)) (commit_unsent seat.stage (commits_sent (first_link side.wire)) (may_ask ask.CommitConfirmed e) unsent_now);
    locking = λ e. lock_unsent seat.stage (commits_sent (first_link side.wire)) (may_ask ask.LockRunning e) unsent_now;
    later = later_none;
    confirms = λ h. absurd (no_confirm (ask_of request) (never_confirms seat.stage (ask_of request) (may_ask (ask_of request) refl)) h);
    cancels = λ h. absurd (no_cancel (ask_of request) (never_confirms seat.stage (ask_of request) (may_ask (ask_of request) refl)) h);
  }
    where
      no_confirm : (other : Ask) → (same_ask other ask.Confirm || same_ask other ask.Cancel) ≡ false → same_ask other ask.Confirm ≡ true → ⊥
      no_confirm other n h = grind (arith, nat_tests)

      no_cancel : (other : Ask) → (same_ask other ask.Confirm || same_ask other ask.Cancel) ≡ false → same_ask other ask.Cancel ≡ true → ⊥
      no_cancel other n h = grind (arith, nat_tests)

  module _ (goes : may_go (opens what) side.wire ≡ true) (count : ℕ) where
    -- the first link is the one that it goes out on
    on_first : (b : Bool) → opens what ≡ b → may_go b side.wire ≡ true
        → (first_link (gone b side.wire request) ≡ sent_on request (first_link side.wire)) × (is_quiet_way (first_link side.wire).way ≡ true) × ((number : ℕ) → (gone b side.wire request).current ≡ Some number → number ≡ 1)
    on_first true o g =
        let none : side.wire.links ≡ [] = none_made o in (
          ap (λ links. first_link (begun (record { links = links; current = side.wire.current }) request)) none ∙ ap (λ links. sent_on request (first_link (record { links = links; current = side.wire.current }))) (sym none),
          ap (λ links. is_quiet_way (first_link (record { links = links; current = side.wire.current })).way) none,
          λ number e. let l : length side.wire.links ≡ 0 = ap length none in let n : length side.wire.links + 1 ≡ number = cc in omega (arith, l, n),
        )
    on_first false o g =
        let one : GoesOnOne side.wire request (gone false side.wire request) = sent_one side.wire request g in
        let at : one.place + 1 ≡ 1 = undecided.only (one.place + 1) one.current in
        let zero_at : one.place ≡ 0 = omega (arith, at) in
        first_at side.wire.links one.place one.link one.here zero_at one.quiet one.after_is
      where
        first_at : (links : List LinkState) (place : ℕ) (link : LinkState) → slice_get side.wire.links place ≡ Some link → place ≡ 0 → is_quiet_way link.way ≡ true
            → gone false side.wire request ≡ record side.wire { links = slice_set side.wire.links place (sent_on request link) }
            → (first_link (gone false side.wire request) ≡ sent_on request (first_link side.wire)) × (is_quiet_way (first_link side.wire).way ≡ true) × ((number : ℕ) → (gone false side.wire request).current ≡ Some number → number ≡ 1)
        first_at links place link here z q after =
            let here0 : slice_get side.wire.links 0 ≡ Some link = subst (λ p. slice_get side.wire.links p ≡ Some link) z here in
            let first : first_link side.wire ≡ link = ap (λ found. unwrap_or found fresh_link) here0 in (
              ap first_link after ∙ ap (λ p. first_link (record side.wire { links = slice_set side.wire.links p (sent_on request link) })) z
                  ∙ ap (λ found. unwrap_or found fresh_link) (set_there side.wire.links 0 link (sent_on request link) here0) ∙ ap (sent_on request) (sym first),
              ap (λ l. is_quiet_way l.way) first ∙ q,
              λ number e. undecided.only number (sym (ap (λ w. w.current) after) ∙ e),
            )

    pub undecided_turned : Undecided outcome (record seat { awaited = Some what; sent = count }) (gone (opens what) side.wire request)
    undecided_turned =
        let on = on_first (opens what) refl goes in
        let sent : commits_sent (first_link (gone (opens what) side.wire request)) ≡ commits_sent (first_link side.wire) + commit_count what =
        ap commits_sent on.0 ∙ commits_after request (first_link side.wire) on.1 ∙ ap (λ a. commits_sent (first_link side.wire) + commit_count a) is in
        let did : DidAsMuch (first_link side.wire) (sent_on request (first_link side.wire)) = did_sent_on request (first_link side.wire) on.1 in
        record {
          unsent = subst (λ n. n ≤ may_be_sent seat.stage (Some what)) (sym sent) (unsent_after seat.stage what (commits_sent (first_link side.wire)) may unsent_now);
          acked = undecided.acked;
          ready = λ l z. ap holds on.0 ∙ did.held ∙ undecided.ready l (less (commits_sent (first_link side.wire)) (commit_count what) (sym sent ∙ z));
          only = on.2;
          unmade = λ l none. absurd (let e : None ≡ Some (ask_of request) = sym (ap (option_and_then way_ask) none) ∙ gone_ask (opens what) side.wire request goes in cc);
        }
      where
        less : (a b : ℕ) → a + b ≡ 0 → a ≡ 0
        less a b h = omega (arith, h)

-- ---- after it

lock_is : (what : Ask) → what ≡ ask.LockRunning → same_ask what ask.LockRunning ≡ true
lock_is what e = ap (λ a. same_ask a ask.LockRunning) e

commit_is : (what : Ask) → what ≡ ask.CommitConfirmed → commit_count what ≡ 0 → ⊥
commit_is what e n = let g : 1 ≡ 0 = sym (ap commit_count e) ∙ n in absurd (omega (arith, g))

pub decided_goes_rightly : (v : Option Verdict) (what : Ask) (new : Bool) (wire : WireState) → asks_rightly v what ≡ true → GoesRightly v what new wire
decided_goes_rightly v what new wire a =
    let none : (commit_count what ≡ 0) × (same_ask what ask.LockRunning ≡ false) = rightly_first v what a in
    record {
      unsent = λ e. absurd (commit_is what e none.0);
      locked = λ e. absurd (commit_is what e none.0);
      locking = λ e. absurd (let g : false ≡ true = sym none.1 ∙ lock_is what e in cc);
      later = λ place p at. none.0;
      confirms = rightly_confirms v what a;
      cancels = rightly_cancels v what a;
    }

-- ---- either

module _ {Config Node : Type 0} (change : ℕ) (seat : Seat) (side : SideState) (r : RecordedState Config Node) (quiet : seat.awaited ≡ None) (what : Ask) (request : Request) (count : ℕ) where
  -- before the verdict
  pub asked_undecided : GoesWith None seat side → may_await None seat.stage what ≡ true → ask_of request ≡ what → may_go (opens what) side.wire ≡ true
      → PairHolds change None seat side.wire r → PairHolds change None (record seat { awaited = Some what; sent = count }) (gone (opens what) side.wire request) r
  asked_undecided before may is goes pair =
      let undecided : Undecided (outcome_of (token_of change) r.history) seat side.wire = pair.undecided refl in
      let rightly : GoesRightly None (ask_of request) (opens what) side.wire = undecided_rightly (outcome_of (token_of change) r.history) seat side before undecided quiet what may request is in
      record {
        first = first_turned None request (opens what) side.wire goes rightly (token_of change) r pair.first;
        each = each_turned None request (opens what) side.wire goes rightly pair.each;
        outcome = pair.outcome;
        undecided = λ e. undecided_turned (outcome_of (token_of change) r.history) seat side before undecided quiet what may request is goes count;
      }

  -- after it
  pub asked_decided : (v : Verdict) (new : Bool) → asks_rightly (Some v) (ask_of request) ≡ true → may_go new side.wire ≡ true
      → PairHolds change (Some v) seat side.wire r → PairHolds change (Some v) (record seat { awaited = Some what; sent = count }) (gone new side.wire request) r
  asked_decided v new a goes pair =
      let rightly : GoesRightly (Some v) (ask_of request) new side.wire = decided_goes_rightly (Some v) (ask_of request) new side.wire a in
      record {
        first = first_turned (Some v) request new side.wire goes rightly (token_of change) r pair.first;
        each = each_turned (Some v) request new side.wire goes rightly pair.each;
        outcome = record { confirmed = pair.outcome.confirmed; cancelled = pair.outcome.cancelled; ended = pair.outcome.ended; committed = pair.outcome.committed; pending = pair.outcome.pending };
        undecided = λ e. absurd (let g : Some v ≡ None = e in cc);
      }

-- what is asked next, of a device that awaits nothing
module _ {Config Node : Type 0} (change : ℕ) (seat : Seat) (side : SideState) (r : RecordedState Config Node) (what : Ask) (request : Request) where
  next_by : (decided : Option Verdict) → GoesWith decided seat side → seat.awaited ≡ None → next_ask decided seat.stage ≡ Some what → ask_of request ≡ asked_in_fact side.resync what
      → PairHolds change decided seat side.wire r → PairHolds change decided (record seat { awaited = Some what; sent = raised seat.sent }) (gone (opens (asked_in_fact side.resync what)) side.wire request) r
  next_by None before quiet next is pair =
      let may : may_await None seat.stage what ≡ true = next_awaited (next_ask None seat.stage) seat.stage what next in
      let plain : asked_in_fact side.resync what ≡ what = undecided_plain seat.stage side.resync what may in
      subst (λ in_fact. PairHolds change None (record seat { awaited = Some what; sent = raised seat.sent }) (gone (opens in_fact) side.wire request) r) (sym plain)
      (asked_undecided change seat side r quiet what request (raised seat.sent) before may (is ∙ plain)
      (subst (λ in_fact. may_go (opens in_fact) side.wire ≡ true) plain (next_goes None seat side before what quiet next)) pair)
  next_by (Some v) before quiet next is pair =
      asked_decided change seat side r quiet what request (raised seat.sent) v (opens (asked_in_fact side.resync what))
      (ap (asks_rightly (Some v)) is ∙ decided_rightly v seat.stage side.resync what before.resyncs next) (next_goes (Some v) seat side before what quiet next) pair

  pub turned_pair : (decided : Option Verdict) → GoesWith decided seat side → seat.awaited ≡ None → next_ask decided seat.stage ≡ Some what → ask_of request ≡ asked_in_fact side.resync what
      → PairHolds change decided seat side.wire r → PairHolds change decided (asked_next decided seat) (gone (opens (asked_in_fact side.resync what)) side.wire request) r
  turned_pair decided before quiet next is pair =
      subst (λ awaited. PairHolds change decided (record seat { awaited = awaited; sent = raised seat.sent }) (gone (opens (asked_in_fact side.resync what)) side.wire request) r) (sym next)
      (next_by decided before quiet next is pair)

-- the timer is set anew
pub renewed_pair : {Config Node : Type 0} (change : ℕ) (seat : Seat) (side : SideState) (r : RecordedState Config Node) (request : Request) → GoesWith None seat side → seat.awaited ≡ None
    → is_acknowledged seat.stage ≡ true → ask_of request ≡ ask.Renew → PairHolds change None seat side.wire r → PairHolds change None (renewed seat) (gone false side.wire request) r
renewed_pair change seat side r request before quiet acked is pair =
    asked_undecided change seat side r quiet ask.Renew request (raised seat.sent) before (both (may_await None seat.stage ask.Renew) _ (renews_stage None seat.stage Opening refl acked)).0 is
    (goes_now None seat side before quiet (λ resync. (both (may_await None seat.stage ask.Renew) _ (renews_stage None seat.stage resync refl acked)).1)) pair
