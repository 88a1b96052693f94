-- One change set and one device stay on the course at each event.
use Rattle.std.proofs.Common.{◌≡◌, ◌∙◌, ℕ, ◌+◌, ◌-◌, ◌≤◌, ◌==◌, Bool, true, false, cond, fold, Option, Some, None, is_some, option_map, option_and_then, slice_get, slice_set, unwrap_or, refl, sym, ap, subst, arith}
use Rattle.std.proofs.lemmas.Bool.Decides.{nat_tests}
use Rattle.nm_proto.specs.declared.ask.Ask.{Ask}
use Rattle.nm_proto.specs.declared.ask.Ask.TheVariants as ask
use Rattle.nm_proto.specs.declared.message.Request.{Request}
use Rattle.nm_proto.specs.declared.message.Reply.{Reply}
use Rattle.nm_proto.specs.declared.journal.Verdict.{Verdict}
use Rattle.nm_history.specs.History.{RecordedState}
use Rattle.nm_decider_stage.specs.declared.stage.Stage.{Stage}
use Rattle.nm_decider_stage.specs.declared.stage.Stage.TheVariants.{Live, Refused, Failed, NeedMark, Resync, Leaving, Settled}
use Rattle.nm_decider_stage.specs.Stages.{learnt, next_ask}
use Rattle.nm_decider.specs.declared.seat.Seat.{Seat}
use Rattle.nm_decider.specs.Course.{renewed}
use Rattle.nm_resync.specs.declared.resync.ResyncStage.{ResyncStage}
use Rattle.nm_wire.specs.declared.link.Exchange.{Exchange}
use Rattle.nm_wire.specs.declared.link.Way.{Way}
use Rattle.nm_wire.specs.declared.link.Way.TheVariants.{Asked, Told}
use Rattle.nm_wire.specs.Asks.{ask_of}
use Rattle.nm_wire.specs.Link.{LinkState, fresh_link, over_way, sent_on, told_on, handled_on, closed_link}
use Rattle.nm_wire.specs.Words.{ask_on, commit_count, commits_sent}
use Rattle.nm_wire.specs.Wire.{WireState, broken, changed, current_link, handled_at, link_at, lost, outstanding_at, restarted, told}
use Rattle.nm_manager.specs.Slot.{SideState, asked_in_fact, gone, may_go, opens}
use Rattle.nm_safety.specs.Pair.{PairHolds, asked_ask, first_link, is_live, may_be_sent}
use Rattle.nm_safety.specs.Step.{GoesWith, awaits_rightly, has_link, may_await, way_ask}
use Rattle.nm_safety.proofs.Answered.{out_way, sent_told, told_link}
use Rattle.nm_safety.proofs.Asking.{asks_rightly, commit_unsent, decided_rightly, undecided_plain}
use Rattle.nm_safety.proofs.Gone.{first_changed, first_gone, first_heard, first_of, first_restarted, held_first}
use Rattle.nm_safety.proofs.Links.{commits_after, none_asked, none_left, sent_handled_on}
use Rattle.nm_safety.proofs.Orders.{awaited_is_asked, first_is_current}
use Rattle.nm_safety.proofs.Pairs.{asked_is, may_now}
use Rattle.nm_safety.proofs.Tables.{next_awaited}
use Rattle.nm_safety.proofs.Wires.{IsDue, set_there}
use Rattle.nm_safety.proofs.Own.{first_is}
use Rattle.nm_commit_laws.specs.Course.{steps_after, steps_by, steps_known, steps_of, steps_past}
use Rattle.nm_commit_laws.specs.BringsSupport.{IsOnCourse}
use Rattle.nm_commit_laws.proofs.brings.Words.{known_commit, known_learnt, known_most, known_told, past_asked, past_handled, past_told, steps_handled, steps_sent, steps_told}

-- what is said of the first link: a commit that is asked for, and how far it has come
abbrev pub AsksOn : LinkState → Type 0
AsksOn link = asked_ask link ≡ Some ask.CommitConfirmed → 3 ≤ steps_of link

abbrev KnowsOf : Stage → LinkState → Type 0
KnowsOf stage link = commits_sent link ≡ 0 → steps_known stage ≤ steps_of link

-- as far as its replies are handled, it has come no further than that
abbrev LeastOf : Stage → LinkState → Type 0
LeastOf stage link = commits_sent link ≡ 0 → steps_past link ≤ steps_known stage

none_of : {A : Type 0} (x : A) → Some x ≡ None → ⊥
none_of x e = absurd (let g : Some x ≡ None = e in cc)

-- once it is decided
once_decided : (decided : Option Verdict) (seat : Seat) (wire : WireState) → (decided ≡ None → ⊥) → AsksOn (first_link wire)
    → IsOnCourse decided seat wire
once_decided decided seat wire some asked = record {
  asked = asked;
  known = λ none. absurd (some none);
  most = λ none. absurd (some none);
}

first_less : (a b : ℕ) → a + b ≡ 0 → a ≡ 0
first_less a b h = omega (arith, h)

asks_as : (n k : ℕ) → k ≡ n → 3 ≤ n → 3 ≤ k
asks_as n k e h = omega (arith, e, h)

knows_as : (low n k : ℕ) → k ≡ n → low ≤ n → low ≤ k
knows_as low n k e h = omega (arith, e, h)

-- ---- a request goes out

module _ (new : Bool) (wire : WireState) (request : Request) (goes : may_go new wire ≡ true) where
  pub course_sent : (decided : Option Verdict) (seat now : Seat) → now.stage ≡ seat.stage
      → (ask_of request ≡ ask.CommitConfirmed → 3 ≤ steps_of (first_link wire)) → IsOnCourse decided seat wire
      → IsOnCourse decided now (gone new wire request)
  course_sent decided seat now same commits c = record {
    asked = first_gone AsksOn new wire request goes
        (λ link e quiet p h.
        asks_as (steps_of link) (steps_of (sent_on request link)) (steps_sent request link quiet)
        (subst (λ l. 3 ≤ steps_of l) e (commits (let g : Some (ask_of request) ≡ Some ask.CommitConfirmed = h in cc)))) c.asked;
    known = λ none.
        subst (λ stage. KnowsOf stage (first_link (gone new wire request))) (sym same)
        (first_gone (KnowsOf seat.stage) new wire request goes
        (λ link e quiet p h.
        knows_as (steps_known seat.stage) (steps_of link) (steps_of (sent_on request link)) (steps_sent request link quiet)
        (p (first_less (commits_sent link) (commit_count (ask_of request)) (sym (commits_after request link quiet) ∙ h)))) (c.known none));
    most = λ none live.
        subst (λ stage. LeastOf stage (first_link (gone new wire request))) (sym same)
        (first_gone (LeastOf seat.stage) new wire request goes
        (λ link e quiet p h. p (first_less (commits_sent link) (commit_count (ask_of request))
        (sym (commits_after request link quiet) ∙ h)))
        (c.most none (sym (ap is_live same) ∙ live)));
  }

module _ {Config Node : Type 0} (change : ℕ) (seat : Seat) (side : SideState) (r : RecordedState Config Node) where
  -- the confirmed commit goes out after the edit
  commit_goes : (what : Ask) (request : Request) (decided : Option Verdict) → GoesWith decided seat side → seat.awaited ≡ None
      → next_ask decided seat.stage ≡ Some what → ask_of request ≡ asked_in_fact side.resync what
      → PairHolds change decided seat side.wire r → IsOnCourse decided seat side.wire → ask_of request ≡ ask.CommitConfirmed
      → 3 ≤ steps_of (first_link side.wire)
  commit_goes what request None before quiet next is pair c e =
      let may : may_await None seat.stage what ≡ true = next_awaited (next_ask None seat.stage) seat.stage what next in
      let what_is : ask.CommitConfirmed ≡ what = sym e ∙ is ∙ undecided_plain seat.stage side.resync what may in
      let may_commit : may_await None seat.stage ask.CommitConfirmed ≡ true = ap (may_await None seat.stage) what_is ∙ may in
      let unsent : commits_sent (first_link side.wire) ≡ 0 = commit_unsent seat.stage (commits_sent (first_link side.wire)) may_commit
      (subst (λ a. commits_sent (first_link side.wire) ≤ may_be_sent seat.stage a) quiet (pair.undecided refl).unsent) in
      let low : steps_known seat.stage ≤ steps_of (first_link side.wire) = c.known refl unsent in
      let third : steps_known seat.stage ≡ 3 = known_commit seat.stage may_commit in
      omega (arith, low, third)
  commit_goes what request (Some v) before quiet next is pair c e =
      absurd (let g : false ≡ true = sym (ap (asks_rightly (Some v)) e) ∙ ap (asks_rightly (Some v)) is
      ∙ decided_rightly v seat.stage side.resync what before.resyncs next in cc)

  pub turned_course : (what : Ask) (request : Request) (decided : Option Verdict) → GoesWith decided seat side → seat.awaited ≡ None
      → next_ask decided seat.stage ≡ Some what → ask_of request ≡ asked_in_fact side.resync what
      → may_go (opens (asked_in_fact side.resync what)) side.wire ≡ true → PairHolds change decided seat side.wire r
      → IsOnCourse decided seat side.wire → (now : Seat) → now.stage ≡ seat.stage
      → IsOnCourse decided now (gone (opens (asked_in_fact side.resync what)) side.wire request)
  turned_course what request decided before quiet next is goes pair c now same =
      course_sent (opens (asked_in_fact side.resync what)) side.wire request goes decided seat now same
      (commit_goes what request decided before quiet next is pair c) c

-- a timer is set anew
pub renewed_course : (decided : Option Verdict) (seat : Seat) (wire : WireState) (request : Request) → ask_of request ≡ ask.Renew
    → may_go false wire ≡ true → IsOnCourse decided seat wire → IsOnCourse decided (renewed seat) (gone false wire request)
renewed_course decided seat wire request is goes c =
    course_sent false wire request goes decided seat (renewed seat) refl
    (λ e. absurd (let g : ask.Renew ≡ ask.CommitConfirmed = sym is ∙ e in cc)) c

-- ---- a reply is handled

told_steps : (link : LinkState) (exchange : Exchange) → link.way ≡ Told exchange
    → steps_of link ≡ steps_by (fold steps_after 0 link.past) (ask_of exchange.request) exchange.reply
told_steps link exchange way = ap (over_way steps_after (fold steps_after 0 link.past)) way

told_commits_by : (past : _) (way : Way) (is_open : Bool) (exchange : Exchange) → way ≡ Told exchange
    → commit_count (ask_of exchange.request) ≤ commits_sent (record { past = past; way = way; is_open = is_open })
told_commits_by past way is_open exchange e =
    subst (λ w. commit_count (ask_of exchange.request) ≤ commits_sent (record { past = past; way = w; is_open = is_open })) (sym e)
    (omega arith)

told_commits : (link : LinkState) (exchange : Exchange) → link.way ≡ Told exchange
    → commit_count (ask_of exchange.request) ≤ commits_sent link
told_commits link exchange e = told_commits_by link.past link.way link.is_open exchange e

not_commit : (what : Ask) (n : ℕ) → commit_count what ≤ n → n ≡ 0 → what ≡ ask.CommitConfirmed → ⊥
not_commit what n l z e = let one : commit_count what ≡ 1 = ap commit_count e in absurd (omega (arith, l, z, one))

-- how far the first link has come, and what was sent on it
record IsAsFar (before after : LinkState) : Type 0 where
  steps : steps_of after ≡ steps_of before
  commits : commits_sent after ≡ commits_sent before

module _ (side : SideState) (link : ℕ) (exchange : Exchange) (due_now : IsDue side.wire link exchange) where
  abbrev after : WireState
  after = handled_at side.wire link (Some exchange)

  heard_asks : AsksOn (first_link side.wire) → AsksOn (first_link after)
  heard_asks a =
      first_heard side.wire link exchange due_now AsksOn
      (λ e p h. absurd (let g : None ≡ Some ask.CommitConfirmed = none_asked (handled_on due_now.held) ask.CommitConfirmed
      (none_left due_now.held exchange due_now.way) h in cc)) a

  -- where it is link 1, the first has gone on
  heard_first : link ≡ 1 → first_link after ≡ handled_on due_now.held
  heard_first one =
      let here : slice_get side.wire.links 0 ≡ Some due_now.held = subst
      (λ n. cond (n == 0) None (slice_get side.wire.links (n - 1)) ≡ Some due_now.held) one due_now.here in
      ap (λ found. first_of (changed handled_on side.wire link found).links) due_now.here
      ∙ ap (λ n. first_of (slice_set side.wire.links (n - 1) (handled_on due_now.held))) one
      ∙ ap (λ found. unwrap_or found fresh_link) (set_there side.wire.links 0 due_now.held (handled_on due_now.held) here)

  heard_past : link ≡ 1 → steps_past (first_link after) ≡ steps_of due_now.held
  heard_past one = ap steps_past (heard_first one) ∙ past_handled due_now.held

  heard_far : IsAsFar (first_link side.wire) (first_link after)
  heard_far =
      first_heard side.wire link exchange due_now (IsAsFar (first_link side.wire))
      (λ e p. record {
        steps = steps_handled due_now.held ∙ ap steps_of (sym e);
        commits = (sent_handled_on due_now.held).commits
            ∙ ap commits_sent (sym e);
      })
      (record { steps = refl; commits = refl })

  pub resynced_course : (decided : Option Verdict) (seat now : Seat) → (decided ≡ None → ⊥) → IsOnCourse decided seat side.wire
      → IsOnCourse decided now after
  resynced_course decided seat now some c = once_decided decided now after some (heard_asks c.asked)

  module _ {Config Node : Type 0} (change : ℕ) (seat : Seat) (r : RecordedState Config Node) (what : Ask) (awaited : seat.awaited ≡ Some what) where
    -- before the verdict, where no commit was sent
    module _ (before : GoesWith None seat side) (pair : PairHolds change None seat side.wire r) (c : IsOnCourse None seat side.wire)
        (none_sent : commits_sent (first_link after) ≡ 0) where
      may_hear : may_await None seat.stage what ≡ true
      may_hear = may_now None seat side before link exchange due_now what awaited

      hears_it : ask_of exchange.request ≡ what
      hears_it =
          sym (asked_is None seat side before link exchange due_now what awaited) ∙ undecided_plain seat.stage side.resync what may_hear

      on_one : link ≡ 1
      on_one = (pair.undecided refl).only link due_now.current

      on_first : first_link side.wire ≡ due_now.held
      on_first = held_first side.wire link exchange due_now on_one

      unsent : commits_sent (first_link side.wire) ≡ 0
      unsent = sym heard_far.commits ∙ none_sent

      plain : what ≡ ask.CommitConfirmed → ⊥
      plain e =
          not_commit (ask_of exchange.request) (commits_sent due_now.held) (told_commits due_now.held exchange due_now.way)
          (ap commits_sent (sym on_first) ∙ unsent) (hears_it ∙ e)

      held_steps : steps_of due_now.held ≡ steps_by (steps_past due_now.held) what exchange.reply
      held_steps =
          told_steps due_now.held exchange due_now.way ∙ ap (λ a. steps_by (steps_past due_now.held) a exchange.reply) hears_it

      heard_knows : steps_known (learnt None seat.stage what exchange.reply) ≤ steps_of (first_link after)
      heard_knows =
          let steps : steps_of (first_link side.wire) ≡ steps_by (steps_past due_now.held) what exchange.reply =
          ap steps_of on_first ∙ held_steps in
          subst (λ n. steps_known (learnt None seat.stage what exchange.reply) ≤ n) (sym (heard_far.steps ∙ steps))
          (known_learnt seat.stage what exchange.reply (steps_past due_now.held) may_hear plain
          (subst (λ n. steps_known seat.stage ≤ n) steps (c.known refl unsent)))

      heard_most : is_live (learnt None seat.stage what exchange.reply) ≡ true
          → steps_past (first_link after) ≤ steps_known (learnt None seat.stage what exchange.reply)
      heard_most live =
          subst (λ n. n ≤ steps_known (learnt None seat.stage what exchange.reply)) (sym (heard_past on_one ∙ held_steps))
          (known_most seat.stage what exchange.reply (steps_past due_now.held) may_hear plain
          (λ l. subst (λ k. steps_past k ≤ steps_known seat.stage) on_first (c.most refl l unsent)) live)

    -- the course has no verdict where the journal has none
    pub handled_course : (decided of_course : Option Verdict) → (decided ≡ None → of_course ≡ None) → GoesWith of_course seat side
        → PairHolds change decided seat side.wire r → IsOnCourse decided seat side.wire
        → IsOnCourse decided (record seat { stage = learnt of_course seat.stage what exchange.reply; awaited = None }) after
    handled_course (Some v) of_course none_now before pair c =
        once_decided (Some v) (record seat { stage = learnt of_course seat.stage what exchange.reply; awaited = None }) after (none_of v)
        (heard_asks c.asked)
    handled_course None (Some v) none_now before pair c = absurd (none_of v (none_now refl))
    handled_course None None none_now before pair c = record {
      asked = heard_asks c.asked;
      known = λ none. heard_knows before pair c;
      most = λ none live z. heard_most before pair c z live;
    }

-- ---- a verdict falls, links break, and sides of links end

pub decided_course : (decided : Option Verdict) (v : Verdict) (seat now : Seat) (wire : WireState) → IsOnCourse decided seat wire
    → IsOnCourse (Some v) now wire
decided_course decided v seat now wire c = once_decided (Some v) now wire (none_of v) c.asked

-- no link is current
pub broken_course : (decided : Option Verdict) (now : Seat) (wire : WireState) → steps_known now.stage ≡ 0
    → (decided ≡ None → is_live now.stage ≡ true → steps_past (first_link wire) ≡ 0) → AsksOn (first_link wire)
    → IsOnCourse decided now (broken wire)
broken_course decided now wire zero none_past asked = record {
  asked = asked;
  known = λ none h. least (steps_known now.stage) (steps_of (first_link wire)) zero;
  most = λ none live h. least (steps_past (first_link wire)) (steps_known now.stage) (none_past none live);
}
  where
    least : (a b : ℕ) → a ≡ 0 → a ≤ b
    least a b e = omega (arith, e)

pub closed_course : (decided : Option Verdict) (seat : Seat) (wire : WireState) (number : ℕ) → IsOnCourse decided seat wire
    → IsOnCourse decided seat (lost wire number)
closed_course decided seat wire number c = record {
  asked = first_changed closed_link wire number AsksOn (λ link one at p. p) (link_at wire number) refl c.asked;
  known = λ none. first_changed closed_link wire number (KnowsOf seat.stage) (λ link one at p. p) (link_at wire number) refl (c.known none);
  most =
      λ none live. first_changed closed_link wire number (LeastOf seat.stage) (λ link one at p. p) (link_at wire number) refl
      (c.most none live);
}

pub restarted_course : (decided : Option Verdict) (seat : Seat) (wire : WireState) → IsOnCourse decided seat wire
    → IsOnCourse decided seat (restarted wire)
restarted_course decided seat wire c = record {
  asked = first_restarted AsksOn (λ link p. p) wire c.asked;
  known = λ none. first_restarted (KnowsOf seat.stage) (λ link p. p) wire (c.known none);
  most = λ none live. first_restarted (LeastOf seat.stage) (λ link p. p) wire (c.most none live);
}

-- ---- a link is told

unlinked : (stage : Stage) (resync : ResyncStage) → has_link stage resync ≡ false → steps_known stage ≡ 0
unlinked (Live done) resync h = grind (arith, nat_tests)
unlinked Refused resync h = refl
unlinked Failed resync h = refl
unlinked NeedMark resync h = refl
unlinked Resync resync h = refl
unlinked (Leaving kept) resync h = refl
unlinked (Settled kept) resync h = refl

module _ {Config Node : Type 0} (change : ℕ) (seat : Seat) (side : SideState) (r : RecordedState Config Node) (number : ℕ)
    (request : Request) (reply : Reply) (out : outstanding_at side.wire number ≡ Some request) where
  -- what is asked of the first link is awaited, where the course knows of a step
  told_low : GoesWith None seat side → PairHolds change None seat side.wire r → (link : LinkState) → number ≡ 1
      → link_at side.wire number ≡ Some link → commits_sent link ≡ 0 → steps_known seat.stage ≤ steps_of link
      → (is_live seat.stage ≡ true → steps_past link ≤ steps_known seat.stage)
      → steps_known seat.stage ≤ steps_by (steps_of link) (ask_of request) reply
  told_low before pair link one at unsent low high = by_current (current_link side.wire) refl
    where
      way : link.way ≡ Asked request
      way = out_way (link_at side.wire number) link request at out

      other : ask_of request ≡ ask.CommitConfirmed → ⊥
      other e = not_commit (ask_of request) (commits_sent link) (told_link link request reply way).sent unsent e

      least : (a b : ℕ) → a ≡ 0 → a ≤ b
      least a b e = omega (arith, e)

      by_awaited : (awaited : Option Ask) → seat.awaited ≡ awaited → current_link side.wire ≡ None → steps_known seat.stage ≡ 0
      by_awaited (Some what) e none =
          absurd (let g : Some (asked_in_fact side.resync what) ≡ None = sym (ap (option_map (asked_in_fact side.resync)) e) ∙ before.asked
          ∙ ap (option_and_then way_ask) none in cc)
      by_awaited None e none = unlinked seat.stage side.resync.stage (sym (before.linked e) ∙ ap is_some none)

      by_current : (current : Option LinkState) → current_link side.wire ≡ current
          → steps_known seat.stage ≤ steps_by (steps_of link) (ask_of request) reply
      by_current None none =
          least (steps_known seat.stage) (steps_by (steps_of link) (ask_of request) reply) (by_awaited seat.awaited refl none)
      by_current (Some l) e =
          let same : l ≡ link = sym (first_is_current change seat side r before pair l e) ∙ first_is side.wire number link at one in
          let awaited : seat.awaited ≡ Some (ask_of request) = sym (awaited_is_asked change seat side r before pair l e)
          ∙ ap (λ k. ask_on k.way) same ∙ ap ask_on way in
          known_told seat.stage (ask_of request) reply (steps_of link)
          (sym (ap (awaits_rightly None seat.stage) awaited) ∙ before.awaits) other low
          (λ live. subst (λ n. n ≤ steps_known seat.stage) (sym (past_asked link request way)) (high live))

  pub told_course : (decided : Option Verdict) → (decided ≡ None → GoesWith None seat side) → PairHolds change decided seat side.wire r
      → IsOnCourse decided seat side.wire → IsOnCourse decided seat (told side.wire number reply)
  told_course decided before pair c = record {
    asked = first_changed (told_on reply) side.wire number AsksOn
        (λ link one at p h.
        absurd (let g : None ≡ Some ask.CommitConfirmed = none_asked (told_on reply link) ask.CommitConfirmed
        (told_link link request reply (out_way (link_at side.wire number) link request at out)).none h in cc))
        (link_at side.wire number) refl c.asked;
    known = λ none.
        first_changed (told_on reply) side.wire number (KnowsOf seat.stage)
        (λ link one at p h.
        let unsent : commits_sent link ≡ 0 = sym (sent_told link reply).commits ∙ h in
        subst (λ n. steps_known seat.stage ≤ n)
        (sym (steps_told link request reply (out_way (link_at side.wire number) link request at out)))
        (told_low (before none) (subst (λ v. PairHolds change v seat side.wire r) none pair) link one at unsent (p unsent)
        (λ live. subst (λ l. steps_past l ≤ steps_known seat.stage) (first_is side.wire number link at one)
        (c.most none live (ap commits_sent (first_is side.wire number link at one) ∙ unsent)))))
        (link_at side.wire number) refl (c.known none);
    most = λ none live.
        first_changed (told_on reply) side.wire number (LeastOf seat.stage)
        (λ link one at p h. subst (λ n. n ≤ steps_known seat.stage) (sym (past_told link reply))
        (p (sym (sent_told link reply).commits ∙ h))) (link_at side.wire number) refl (c.most none live);
  }
