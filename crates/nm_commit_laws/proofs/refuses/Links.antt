-- What is kept of the links of a change set, at each step of the manager.
use Rattle.std.proofs.Common.{◌≡◌, ◌∙◌, ◌⊎◌, inl, inr, ℕ, zero, suc, ◌+◌, ◌-◌, ◌≤◌, Bool, true, false, is_some, List, Option, Some, None, IfSome, option_map, slice_get, refl, sym, ap, subst, arith}
use Rattle.std.proofs.lemmas.Bool.Decides.{nat_tests}
use Rattle.std.proofs.lemmas.Option.{none-some}
use Rattle.nm_proto.specs.declared.ask.Ask.{Ask}
use Rattle.nm_proto.specs.declared.ask.Ask.TheVariants as ask
use Rattle.nm_proto.specs.declared.message.Request.{Request}
use Rattle.nm_proto.specs.declared.journal.Entry.{Entry}
use Rattle.nm_proto.specs.declared.plan.ChangePlan.{ChangePlan}
use Rattle.nm_proto.specs.declared.plan.PlannedEdit.{PlannedEdit}
use Rattle.nm_history.specs.History.{RecordedState}
use Rattle.nm_decider.specs.declared.course.NextAction.TheVariants.{Send}
use Rattle.nm_decider.specs.Course as course
use Rattle.nm_decider.specs.Course.{CourseState, next_action}
use Rattle.nm_decider.specs.Rightly.{IsAsked}
use Rattle.nm_decider.proofs.Actions.{asked}
use Rattle.nm_wire.specs.declared.link.Exchange.{Exchange}
use Rattle.nm_wire.specs.declared.link.Way.{Way}
use Rattle.nm_wire.specs.declared.link.Way.TheVariants.{Quiet, Asked, Told}
use Rattle.nm_wire.specs.Asks.{ask_of, same_ask}
use Rattle.nm_wire.specs.Link.{LinkState, asked_on, closed_link, fresh_link, handled_by, handled_on, is_quiet_way, sent_on, session_of}
use Rattle.nm_wire.specs.Words.{commit_count, commits_sent, owns}
use Rattle.nm_wire.specs.Wire.{WireState, current_link}
use Rattle.nm_manager.specs.Requests.{edit_for, edit_request, request_for}
use Rattle.nm_manager.specs.Slot.{SideState, SlotState, asked_in_fact, gone, may_go, opens, renews, renews_if, sends, sends_if, sends_request, with_pair, with_wire, on_side, sends_pair, renews_pair}
use Rattle.nm_manager.proofs.Kept.{asks_fit}
use Rattle.nm_safety.specs.Step.{IsInStep}
use Rattle.nm_safety.proofs.EachPair as each_pair
use Rattle.nm_safety.proofs.Gone.{each_gone}
use Rattle.nm_safety.proofs.Links.{commits_after, did_handled, did_sent_on, sent_handled_on}
use Rattle.nm_safety.specs.Support.{AllLinks}
use Rattle.nm_safety.proofs.Lists.{some_is, to_some}
use Rattle.nm_safety.proofs.SlotLinks.{links_at, same_links, set_links}
use Rattle.nm_commit_laws.specs.Standing.{stands_at, standing}
use Rattle.nm_commit_laws.proofs.leaves.Course.{Stands}
use Rattle.nm_commit_laws.proofs.leaves.Slots.{Known, known_at}
use Rattle.nm_commit_laws.specs.RefusesSupport.{AllFirst, AsksFitly, FirstPair, IsFit, IsTimely, OwnsOn, is_at_first}
use Rattle.nm_commit_laws.proofs.refuses.First.{cancels_stand, commits_stand}
use Rattle.nm_commit_laws.proofs.refuses.Words.{owns_handled, owns_sent, standing_owns}

-- ---- one link

handled_asked : (plan : ChangePlan) (has : Bool) (place : ℕ) (past : List Exchange) (way : Way) (is_open : Bool)
    → IfSome (asked_on way) (AsksFitly plan has place (record { past = past; way = way; is_open = is_open }))
    → IfSome (asked_on (handled_by (record { past = past; way = way; is_open = is_open }) way).way)
    (AsksFitly plan has place (handled_by (record { past = past; way = way; is_open = is_open }) way))
handled_asked plan has place past Quiet is_open asks = asks
handled_asked plan has place past (Asked request) is_open asks = asks
handled_asked plan has place past (Told exchange) is_open asks = tt

closed_asked : (plan : ChangePlan) (has : Bool) (place : ℕ) (link : LinkState) (found : Option Request)
    → IfSome found (AsksFitly plan has place link) → IfSome found (AsksFitly plan has place (closed_link link))
closed_asked plan has place link None asks = tt
closed_asked plan has place link (Some request) asks = record { timely = asks.timely; cancels = asks.cancels }

none_sent : 1 ≤ 0 → owns fresh_link ≡ true
none_sent l = absurd (omega (arith, l))

more_sent : (before count after : ℕ) (held : Bool) → after ≡ before + count → (1 ≤ before → held ≡ true) → (count ≡ 1 → held ≡ true)
    → count ≤ 1 → 1 ≤ after → held ≡ true
more_sent before zero after held e old new most l = old (omega (arith, e, l))
more_sent before (suc zero) after held e old new most l = new refl
more_sent before (suc (suc n)) after held e old new most l = absurd (omega (arith, most))

count_most : (what : Ask) → commit_count what ≤ 1
count_most what = grind (arith, nat_tests)

count_is : (what : Ask) → commit_count what ≡ 1 → same_ask what ask.CommitConfirmed ≡ true
count_is what e = grind (arith, nat_tests)

below_both : (a b c : ℕ) → a ≤ b → b ≤ c → a ≤ c
below_both a b c l h = omega (arith, l, h)

stands_more : (n k : ℕ) (found : Option LinkState) → k ≤ n → Stands n found → Stands k found
stands_more n k None l s = tt
stands_more n k (Some link) l s = below_both k n (standing link) l s

module _ {Config Node : Type 0} (plan : ChangePlan) where
  -- candidate is the same session's
  owns_as : (before after : LinkState) (r : Option (RecordedState Config Node)) → session_of after ≡ session_of before
      → owns after ≡ owns before → IfSome r (OwnsOn before) → IfSome r (OwnsOn after)
  owns_as before after None same own h = tt
  owns_as before after (Some r) same own h = λ session held at opened. h session (sym own ∙ held) (sym same ∙ at) opened

  pub fresh_fit : (r : Option (RecordedState Config Node)) (place : ℕ) → IsFit plan r place fresh_link
  fresh_fit r place = record {
    asked = tt;
    sent = none_sent;
    held = to_some (OwnsOn fresh_link) r (λ one is session held at opened. absurd (none-some session at));
    unheld = λ e. refl;
  }

  pub sent_fit : (r : Option (RecordedState Config Node)) (place : ℕ) (request : Request) (link : LinkState) → IsTimely plan request
      → (same_ask (ask_of request) ask.CommitConfirmed ≡ true → owns link ≡ true)
      → (is_some r ≡ true → same_ask (ask_of request) ask.Cancel ≡ true → (place ≡ 0) ⊎ (owns link ≡ true))
      → is_quiet_way link.way ≡ true → IsFit plan r place link → IsFit plan r place (sent_on request link)
  sent_fit r place request link timely commits cancels quiet f = record {
    asked = record {
      timely = timely;
      cancels = λ has e.
          subst (λ b. (place ≡ 0) ⊎ (b ≡ true)) (sym (owns_sent request link quiet)) (cancels has e);
    };
    sent = λ l.
        owns_sent request link quiet
        ∙ more_sent (commits_sent link) (commit_count (ask_of request)) (commits_sent (sent_on request link)) (owns link)
        (commits_after request link quiet) f.sent (λ e. commits (count_is (ask_of request) e)) (count_most (ask_of request)) l;
    held = owns_as link (sent_on request link) r (did_sent_on request link quiet).session (owns_sent request link quiet) f.held;
    unheld = λ e. owns_sent request link quiet ∙ f.unheld (sym (did_sent_on request link quiet).session ∙ e);
  }

  pub handled_fit : (r : Option (RecordedState Config Node)) (place : ℕ) (link : LinkState) → IsFit plan r place link
      → IsFit plan r place (handled_on link)
  handled_fit r place link f = record {
    asked = handled_asked plan (is_some r) place link.past link.way link.is_open f.asked;
    sent = λ l. owns_handled link ∙ f.sent (subst (λ n. 1 ≤ n) (sent_handled_on link).commits l);
    held = owns_as link (handled_on link) r (did_handled link).session (owns_handled link) f.held;
    unheld = λ e. owns_handled link ∙ f.unheld (sym (did_handled link).session ∙ e);
  }

  pub closed_fit : (r : Option (RecordedState Config Node)) (place : ℕ) (link : LinkState) → IsFit plan r place link
      → IsFit plan r place (closed_link link)
  closed_fit r place link f = record {
    asked = closed_asked plan (is_some r) place link (asked_on link.way) f.asked;
    sent = f.sent;
    held = owns_as link (closed_link link) r refl refl f.held;
    unheld = f.unheld;
  }

-- ---- a request goes out

edit_timely : (plan : ChangePlan) (entries : List Entry) (change : ℕ) (found : Option PlannedEdit)
    → IfSome (option_map (edit_request entries change) found) (IsTimely plan)
edit_timely plan entries change None = tt
edit_timely plan entries change (Some planned) = tt

made_timely : (plan : ChangePlan) (entries : List Entry) (change device : ℕ) (what : Ask)
    → IfSome (request_for plan entries change device what) (IsTimely plan)
made_timely plan entries change device ask.OpenSession = tt
made_timely plan entries change device ask.LockRunning = tt
made_timely plan entries change device ask.LockCandidate = tt
made_timely plan entries change device ask.Edit = edit_timely plan entries change (edit_for plan device)
made_timely plan entries change device ask.Validate = tt
made_timely plan entries change device ask.CommitConfirmed = refl
made_timely plan entries change device ask.Renew = refl
made_timely plan entries change device ask.Confirm = tt
made_timely plan entries change device ask.Cancel = tt
made_timely plan entries change device ask.HasMark = tt
made_timely plan entries change device ask.Discard = tt
made_timely plan entries change device ask.CloseSession = tt
made_timely plan entries change device ask.Resync = tt

opens_alone : (what : Ask) → opens what ≡ true → (same_ask what ask.CommitConfirmed ≡ false) × (same_ask what ask.Cancel ≡ false)
opens_alone what o = (one what o, other what o)
  where
    one : (what : Ask) → opens what ≡ true → same_ask what ask.CommitConfirmed ≡ false
    one what o = grind (arith, nat_tests)

    other : (what : Ask) → opens what ≡ true → same_ask what ask.Cancel ≡ false
    other what o = grind (arith, nat_tests)

one_more : (place : ℕ) → place + 1 ≡ 1 → place ≡ 0
one_more place e = omega (arith, e)

never : {T : Type 0} (b : Bool) → b ≡ false → b ≡ true → T
never b e f = absurd (let g : false ≡ true = sym e ∙ f in cc)

module _ {Config Node : Type 0} (plan : ChangePlan) (devices : List (RecordedState Config Node)) (slot : SlotState) where
  abbrev pub P : ℕ → ℕ → LinkState → Type 0
  P d = IsFit plan (slice_get devices d)

  -- a request may go out: where it brings the change set or cancels it candidate is the session's own, but on the first link
  record GoesFitly (device : ℕ) (new : Bool) (wire : WireState) (request : Request) : Type 0 where
    timely : IsTimely plan request
    fresh : new ≡ true → (same_ask (ask_of request) ask.CommitConfirmed ≡ false) × (same_ask (ask_of request) ask.Cancel ≡ false)
    commits : same_ask (ask_of request) ask.CommitConfirmed ≡ true → Stands 1 (current_link wire)
    cancels : is_some (slice_get devices (device - 1)) ≡ true → same_ask (ask_of request) ask.Cancel ≡ true
        → ((number : ℕ) → wire.current ≡ Some number → number ≡ 1) ⊎ Stands 1 (current_link wire)

  module _ (all : AllLinks P slot.sides) (device : ℕ) (side : SideState) (there : slice_get slot.sides (device - 1) ≡ Some side) where
    module _ (request : Request) (new : Bool) (fitly : GoesFitly device new side.wire request) where
      commits_so : (b : Bool) → new ≡ b → (link : LinkState) → (new ≡ false → current_link side.wire ≡ Some link)
          → same_ask (ask_of request) ask.CommitConfirmed ≡ true → owns link ≡ true
      commits_so true n link at e = never (same_ask (ask_of request) ask.CommitConfirmed) (fitly.fresh n).0 e
      commits_so false n link at e = standing_owns link (subst (Stands 1) (at n) (fitly.commits e))

      first_or : (place : ℕ) (link : LinkState) → side.wire.current ≡ Some (place + 1) → current_link side.wire ≡ Some link
          → ((number : ℕ) → side.wire.current ≡ Some number → number ≡ 1) ⊎ Stands 1 (current_link side.wire)
          → (place ≡ 0) ⊎ (owns link ≡ true)
      first_or place link current here (inl first) = inl (one_more place (first (place + 1) current))
      first_or place link current here (inr stands) = inr (standing_owns link (subst (Stands 1) here stands))

      cancels_so : (b : Bool) → new ≡ b → (place : ℕ) (link : LinkState)
          → (new ≡ false → (side.wire.current ≡ Some (place + 1)) × (current_link side.wire ≡ Some link))
          → is_some (slice_get devices (device - 1)) ≡ true → same_ask (ask_of request) ask.Cancel ≡ true → (place ≡ 0) ⊎ (owns link ≡ true)
      cancels_so true n place link on has e = never (same_ask (ask_of request) ask.Cancel) (fitly.fresh n).1 e
      cancels_so false n place link on has e = first_or place link (on n).0 (on n).1 (fitly.cancels has e)

      gone_fit : may_go new side.wire ≡ true → (place : ℕ)
          → IfSome (slice_get (gone new side.wire request).links place) (P (device - 1) place)
      gone_fit goes =
          each_gone (P (device - 1)) new side.wire request goes (λ place. fresh_fit plan (slice_get devices (device - 1)) place)
          (λ place link on quiet f.
          sent_fit plan (slice_get devices (device - 1)) place request link fitly.timely (commits_so new refl link (λ e. (on e).1))
          (cancels_so new refl place link on) quiet f) (links_at P slot all (device - 1) side there)

    out_if : (request : Request) (before now : CourseState) (new : Bool) → GoesFitly device new side.wire request → (b : Bool)
        → may_go new side.wire ≡ b
        → AllLinks P (with_pair slot device (sends_if b new device before now side request)).slot.sides
    out_if request before now new fitly false e = same_links P slot all (device - 1) side there
    out_if request before now new fitly true e =
        set_links P slot all (device - 1) side (with_wire side (gone new side.wire request)) there (gone_fit request new fitly e)

    out_by : (before now : CourseState) (new : Bool) (found : Option Request) → IfSome found (GoesFitly device new side.wire)
        → AllLinks P (with_pair slot device (sends_request new device before now side found)).slot.sides
    out_by before now new None fitly = same_links P slot all (device - 1) side there
    out_by before now new (Some request) fitly = out_if request before now new fitly (may_go new side.wire) refl

  module _ (change members : ℕ) (entries : List Entry) (in_step : IsInStep change members entries slot) (known : Known slot)
      (first : AllFirst devices slot) (all : AllLinks P slot.sides) (device : ℕ) where
    abbrev made : Ask → Option Request
    made what = request_for plan entries slot.course.change device what

    fits : (what : Ask) (request : Request) → made what ≡ Some request → ask_of request ≡ what
    fits what request is =
        some_is request (λ one. ask_of one ≡ what) (made what) is (asks_fit plan entries slot.course.change device what)

    timely_made : (what : Ask) (request : Request) → made what ≡ Some request → IsTimely plan request
    timely_made what request is =
        some_is request (IsTimely plan) (made what) is (made_timely plan entries slot.course.change device what)

    sent_fitly : (what : Ask) → (a : IsAsked slot.course device what) → (side : SideState) → slice_get slot.sides (device - 1) ≡ Some side
        → (request : Request) → made (asked_in_fact side.resync what) ≡ Some request
        → GoesFitly device (opens (asked_in_fact side.resync what)) side.wire request
    sent_fitly what a side there request is =
        let in_fact : Ask = asked_in_fact side.resync what in
        let same : ask_of request ≡ in_fact = fits in_fact request is in
        let low : Stands (stands_at a.seat.stage side.resync.stage) (current_link side.wire) =
        (known_at change members entries slot in_step known (device - 1) a.seat side a.here there).current in
        record {
          timely = timely_made in_fact request is;
          fresh = λ o.
              let alone = opens_alone in_fact o in
              (ap (λ w. same_ask w ask.CommitConfirmed) same ∙ alone.0, ap (λ w. same_ask w ask.Cancel) same ∙ alone.1);
          commits = λ e.
              stands_more (stands_at a.seat.stage side.resync.stage) 1 (current_link side.wire)
              (commits_stand slot.course.verdict a.seat.stage side.resync what a.next
              (sym (ap (λ w. same_ask w ask.CommitConfirmed) same) ∙ e)) low;
          cancels = λ has e.
              by_stage a side there has (sym (ap (λ w. same_ask w ask.Cancel) same) ∙ e) low (is_at_first a.seat.stage) refl;
        }
      where
        by_stage : (a : IsAsked slot.course device what) (side : SideState) → slice_get slot.sides (device - 1) ≡ Some side
            → is_some (slice_get devices (device - 1)) ≡ true → same_ask (asked_in_fact side.resync what) ask.Cancel ≡ true
            → Stands (stands_at a.seat.stage side.resync.stage) (current_link side.wire) → (b : Bool) → is_at_first a.seat.stage ≡ b
            → ((number : ℕ) → side.wire.current ≡ Some number → number ≡ 1) ⊎ Stands 1 (current_link side.wire)
        by_stage a side there has cancel low true e =
            inl (λ number current.
            each_pair.known_at (FirstPair devices) change members entries slot in_step first (device - 1) a.seat side a.here there has e number current)
        by_stage a side there has cancel low false e =
            inr (stands_more (stands_at a.seat.stage side.resync.stage) 1 (current_link side.wire)
            (cancels_stand slot.course.verdict a.seat.stage side.resync what a.next cancel e) low)

    sent_on_fit : (what : Ask) → IsAsked slot.course device what → (found : Option SideState)
        → slice_get slot.sides (device - 1) ≡ found → AllLinks P (on_side (sends_pair plan entries device what) slot device found).slot.sides
    sent_on_fit what a None there = all
    sent_on_fit what a (Some side) there =
        let in_fact : Ask = asked_in_fact side.resync what in
        out_by all device side there slot.course (course.with_sent slot.course device) (opens in_fact) (made in_fact)
        (to_some (GoesFitly device (opens in_fact) side.wire) (made in_fact) (λ request is. sent_fitly what a side there request is))

    pub sent_all : (what : Ask) → next_action slot.course ≡ Send device what
        → AllLinks P (sends plan entries slot device what).slot.sides
    sent_all what next = sent_on_fit what (asked slot.course device what next) (slice_get slot.sides (device - 1)) refl

    -- a timer is set anew
    renew_fitly : (side : SideState) → (request : Request) → made ask.Renew ≡ Some request → GoesFitly device false side.wire request
    renew_fitly side request is =
        let same : ask_of request ≡ ask.Renew = fits ask.Renew request is in
        record {
          timely = timely_made ask.Renew request is;
          fresh = λ o. absurd (let g : false ≡ true = o in cc);
          commits = λ e. never (same_ask (ask_of request) ask.CommitConfirmed) (ap (λ w. same_ask w ask.CommitConfirmed) same) e;
          cancels = λ has e. never (same_ask (ask_of request) ask.Cancel) (ap (λ w. same_ask w ask.Cancel) same) e;
        }

    renewed_if : (side : SideState) → slice_get slot.sides (device - 1) ≡ Some side → (b : Bool)
        → AllLinks P (with_pair slot device (renews_if b plan entries slot.course side device)).slot.sides
    renewed_if side there false = same_links P slot all (device - 1) side there
    renewed_if side there true =
        out_by all device side there slot.course (course.with_renewed slot.course device) false (made ask.Renew)
        (to_some (GoesFitly device false side.wire) (made ask.Renew) (λ request is. renew_fitly side request is))

    renewed_on_fit : (found : Option SideState) → slice_get slot.sides (device - 1) ≡ found
        → AllLinks P (on_side (renews_pair plan entries device) slot device found).slot.sides
    renewed_on_fit None there = all
    renewed_on_fit (Some side) there = renewed_if side there (course.may_renew slot.course device)

    pub renewed_all : AllLinks P (renews plan entries slot device).slot.sides
    renewed_all = renewed_on_fit (slice_get slot.sides (device - 1)) refl
