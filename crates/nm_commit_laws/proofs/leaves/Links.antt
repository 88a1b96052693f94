-- What is kept of the links of a change set, at each step of the manager.
use Rattle.std.proofs.Common.{◌≡◌, ◌∙◌, ℕ, ◌-◌, ◌≤◌, Bool, true, false, is_none, List, Option, Some, None, IfSome, slice_get, refl, sym, ap, subst, arith}
use Rattle.std.proofs.lemmas.Bool.Decides.{nat_tests}
use Rattle.std.proofs.lemmas.Option.{none-some}
use Rattle.nm_proto.specs.declared.ask.Ask.{Ask}
use Rattle.nm_proto.specs.declared.ask.Ask.TheVariants as ask
use Rattle.nm_proto.specs.declared.message.Request.{Request}
use Rattle.nm_proto.specs.declared.journal.Entry.{Entry}
use Rattle.nm_proto.specs.declared.plan.ChangePlan.{ChangePlan}
use Rattle.nm_history.specs.History.{RecordedState}
use Rattle.nm_decider_stage.specs.Stages.{is_acknowledged}
use Rattle.nm_decider.specs.declared.course.NextAction.TheVariants.{Send}
use Rattle.nm_decider.specs.declared.seat.Seat.{Seat}
use Rattle.nm_decider.specs.Course as course
use Rattle.nm_decider.specs.Course.{CourseState, may_renew_seat, next_action}
use Rattle.nm_decider.specs.Rightly.{IsAsked}
use Rattle.nm_decider.proofs.Actions.{asked}
use Rattle.nm_wire.specs.declared.link.Exchange.{Exchange}
use Rattle.nm_wire.specs.declared.link.Way.{Way}
use Rattle.nm_wire.specs.declared.link.Way.TheVariants.{Quiet, Asked, Told}
use Rattle.nm_wire.specs.Asks.{ask_of}
use Rattle.nm_wire.specs.Link.{LinkState, asked_on, closed_link, fresh_link, handled_by, handled_on, is_quiet_way, sent_on, session_of}
use Rattle.nm_wire.specs.Wire.{current_link}
use Rattle.nm_manager.specs.Requests.{request_for}
use Rattle.nm_manager.specs.Slot.{SideState, SlotState, asked_in_fact, gone, may_go, opens, renews, renews_if, sends, sends_if, sends_request, with_pair, with_wire, on_side, sends_pair, renews_pair}
use Rattle.nm_manager.proofs.Kept.{asks_fit}
use Rattle.nm_safety.specs.Step.{IsInStep}
use Rattle.nm_safety.proofs.Gone.{each_gone}
use Rattle.nm_safety.proofs.Links.{did_handled, did_sent_on}
use Rattle.nm_safety.proofs.Tables.{both}
use Rattle.nm_safety.specs.Support.{AllLinks}
use Rattle.nm_safety.proofs.Lists.{some_is, to_some}
use Rattle.nm_safety.proofs.SlotLinks.{links_at, same_links, set_links}
use Rattle.nm_commit_laws.specs.Standing.{is_other, standing}
use Rattle.nm_commit_laws.specs.LeavesSupport.{AsksClean, HoldsCandidate, HoldsOn, IsHolding}
use Rattle.nm_commit_laws.proofs.leaves.Course.{Stands, asks_clean, renews_clean}
use Rattle.nm_commit_laws.proofs.leaves.Slots.{Known, known_at}
use Rattle.nm_commit_laws.proofs.leaves.Words.{standing_handled, standing_sent}

-- ---- one link

handled_asked : (past : List Exchange) (way : Way) (is_open : Bool)
    → IfSome (asked_on way) (AsksClean (record { past = past; way = way; is_open = is_open }))
    → IfSome (asked_on (handled_by (record { past = past; way = way; is_open = is_open }) way).way)
    (AsksClean (handled_by (record { past = past; way = way; is_open = is_open }) way))
handled_asked past Quiet is_open asks = asks
handled_asked past (Asked request) is_open asks = asks
handled_asked past (Told exchange) is_open asks = tt

handled_clean : (link : LinkState) → IfSome (asked_on link.way) (AsksClean link)
    → IfSome (asked_on (handled_on link).way) (AsksClean (handled_on link))
handled_clean link asks = handled_asked link.past link.way link.is_open asks

module _ {Config Node : Type 0} where
  -- candidate stands so on the same session
  holds_as : (before after : LinkState) (r : Option (RecordedState Config Node)) → session_of after ≡ session_of before
      → standing after ≡ standing before → IfSome r (HoldsOn before) → IfSome r (HoldsOn after)
  holds_as before after None same stands h = tt
  holds_as before after (Some r) same stands h =
      λ session at opened. subst (λ n. HoldsCandidate n session r.device) (sym stands) (h session (sym same ∙ at) opened)

  pub fresh_holds : (r : Option (RecordedState Config Node)) → IsHolding r fresh_link
  fresh_holds r = record {
    asked = tt;
    holds = to_some (HoldsOn fresh_link) r (λ one is session at opened. absurd (none-some session at));
  }

  pub sent_holds : (r : Option (RecordedState Config Node)) (request : Request) (link : LinkState)
      → (is_other (ask_of request) ≡ true → 2 ≤ standing link) → is_quiet_way link.way ≡ true → IsHolding r link
      → IsHolding r (sent_on request link)
  sent_holds r request link clean quiet h = record {
    asked = λ other. subst (λ n. 2 ≤ n) (sym (standing_sent request link quiet)) (clean other);
    holds = holds_as link (sent_on request link) r (did_sent_on request link quiet).session (standing_sent request link quiet) h.holds;
  }

  pub handled_holds : (r : Option (RecordedState Config Node)) (link : LinkState) → IsHolding r link → IsHolding r (handled_on link)
  handled_holds r link h = record {
    asked = handled_clean link h.asked;
    holds = holds_as link (handled_on link) r (did_handled link).session (standing_handled link) h.holds;
  }

  pub closed_holds : (r : Option (RecordedState Config Node)) (link : LinkState) → IsHolding r link → IsHolding r (closed_link link)
  closed_holds r link h = record { asked = h.asked; holds = holds_as link (closed_link link) r refl refl h.holds }

-- ---- a request goes out

not_opens : (what : Ask) → opens what ≡ true → is_other what ≡ false
not_opens what o = grind (arith, nat_tests)

module _ {Config Node : Type 0} (devices : List (RecordedState Config Node)) (slot : SlotState) where
  abbrev pub P : ℕ → ℕ → LinkState → Type 0
  P d place = IsHolding (slice_get devices d)

  module _ (all : AllLinks P slot.sides) (device : ℕ) (side : SideState) (there : slice_get slot.sides (device - 1) ≡ Some side)
      (request : Request) where
    stands_there : (new : Bool) → (new ≡ true → is_other (ask_of request) ≡ false)
        → (is_other (ask_of request) ≡ true → Stands 2 (current_link side.wire)) → (link : LinkState)
        → (new ≡ false → current_link side.wire ≡ Some link) → is_other (ask_of request) ≡ true → 2 ≤ standing link
    stands_there true none clean link at other = absurd (let g : false ≡ true = sym (none refl) ∙ other in cc)
    stands_there false none clean link at other = subst (Stands 2) (at refl) (clean other)

    -- a commit that brings no change set goes out where candidate is unmodified
    gone_holds : (new : Bool) → may_go new side.wire ≡ true → (new ≡ true → is_other (ask_of request) ≡ false)
        → (is_other (ask_of request) ≡ true → Stands 2 (current_link side.wire)) → (place : ℕ)
        → IfSome (slice_get (gone new side.wire request).links place) (P (device - 1) place)
    gone_holds new goes none clean =
        each_gone (P (device - 1)) new side.wire request goes (λ place. fresh_holds (slice_get devices (device - 1)))
        (λ place link on quiet h.
        sent_holds (slice_get devices (device - 1)) request link (stands_there new none clean link (λ e. (on e).1)) quiet h)
        (links_at P slot all (device - 1) side there)

    out_if : (before now : CourseState) (new : Bool) → (new ≡ true → is_other (ask_of request) ≡ false)
        → (is_other (ask_of request) ≡ true → Stands 2 (current_link side.wire)) → (b : Bool) → may_go new side.wire ≡ b
        → AllLinks P (with_pair slot device (sends_if b new device before now side request)).slot.sides
    out_if before now new none clean false e = same_links P slot all (device - 1) side there
    out_if before now new none clean true e =
        set_links P slot all (device - 1) side (with_wire side (gone new side.wire request)) there (gone_holds new e none clean)

  module _ (all : AllLinks P slot.sides) (device : ℕ) (side : SideState) (there : slice_get slot.sides (device - 1) ≡ Some side) where
    out_by : (before now : CourseState) (new : Bool) (found : Option Request)
        → IfSome found (λ request. new ≡ true → is_other (ask_of request) ≡ false)
        → IfSome found (λ request. is_other (ask_of request) ≡ true → Stands 2 (current_link side.wire))
        → AllLinks P (with_pair slot device (sends_request new device before now side found)).slot.sides
    out_by before now new None none clean = same_links P slot all (device - 1) side there
    out_by before now new (Some request) none clean =
        out_if all device side there request before now new none clean (may_go new side.wire) refl

  module _ (change members : ℕ) (entries : List Entry) (in_step : IsInStep change members entries slot) (known : Known slot)
      (all : AllLinks P slot.sides) (plan : ChangePlan) (device : ℕ) where
    abbrev made : Ask → Option Request
    made what = request_for plan entries slot.course.change device what

    fits : (what : Ask) (request : Request) → made what ≡ Some request → ask_of request ≡ what
    fits what request is =
        some_is request (λ one. ask_of one ≡ what) (made what) is (asks_fit plan entries slot.course.change device what)

    sent_on_holds : (what : Ask) → IsAsked slot.course device what → (found : Option SideState)
        → slice_get slot.sides (device - 1) ≡ found → AllLinks P (on_side (sends_pair plan entries device what) slot device found).slot.sides
    sent_on_holds what a None there = all
    sent_on_holds what a (Some side) there =
        let in_fact : Ask = asked_in_fact side.resync what in
        out_by all device side there slot.course (course.with_sent slot.course device) (opens in_fact) (made in_fact)
        (to_some (λ request. opens in_fact ≡ true → is_other (ask_of request) ≡ false) (made in_fact)
        (λ request is new. ap is_other (fits in_fact request is) ∙ not_opens in_fact new))
        (to_some (λ request. is_other (ask_of request) ≡ true → Stands 2 (current_link side.wire)) (made in_fact)
        (λ request is other.
        asks_clean slot.course.verdict a.seat side
        (known_at change members entries slot in_step known (device - 1) a.seat side a.here there) what (ask_of request)
        (fits in_fact request is) a.next a.member other))

    pub sent_all : (what : Ask) → next_action slot.course ≡ Send device what
        → AllLinks P (sends plan entries slot device what).slot.sides
    sent_all what next = sent_on_holds what (asked slot.course device what next) (slice_get slot.sides (device - 1)) refl

    -- a timer is set anew where the device has acknowledged
    renewed_seat : (side : SideState) → slice_get slot.sides (device - 1) ≡ Some side → (seat : Option Seat)
        → slice_get slot.course.seats (device - 1) ≡ seat → may_renew_seat seat ≡ true → Stands 2 (current_link side.wire)
    renewed_seat side there None here may = absurd (let g : false ≡ true = may in cc)
    renewed_seat side there (Some seat) here may =
        let member = both seat.is_member _ may in
        let quiet = both (is_none seat.awaited) (is_acknowledged seat.stage) member.1 in
        renews_clean slot.course.verdict seat side (known_at change members entries slot in_step known (device - 1) seat side here there)
        quiet.1

    renewed_if : (side : SideState) → slice_get slot.sides (device - 1) ≡ Some side → (b : Bool)
        → course.may_renew slot.course device ≡ b
        → AllLinks P (with_pair slot device (renews_if b plan entries slot.course side device)).slot.sides
    renewed_if side there false e = same_links P slot all (device - 1) side there
    renewed_if side there true e =
        let undecided = both (is_none slot.course.verdict) _ e in
        let calm = both (is_none slot.course.trouble) _ undecided.1 in
        out_by all device side there slot.course (course.with_renewed slot.course device) false (made ask.Renew)
        (to_some (λ request. false ≡ true → is_other (ask_of request) ≡ false) (made ask.Renew)
        (λ request is new. absurd (let g : false ≡ true = new in cc)))
        (to_some (λ request. is_other (ask_of request) ≡ true → Stands 2 (current_link side.wire)) (made ask.Renew)
        (λ request is other. renewed_seat side there (slice_get slot.course.seats (device - 1)) refl calm.1))

    renewed_on_holds : (found : Option SideState) → slice_get slot.sides (device - 1) ≡ found
        → AllLinks P (on_side (renews_pair plan entries device) slot device found).slot.sides
    renewed_on_holds None there = all
    renewed_on_holds (Some side) there = renewed_if side there (course.may_renew slot.course device) refl

    pub renewed_all : AllLinks P (renews plan entries slot device).slot.sides
    renewed_all = renewed_on_holds (slice_get slot.sides (device - 1)) refl
