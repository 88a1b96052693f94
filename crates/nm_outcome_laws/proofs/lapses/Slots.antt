-- The links of a change set, at each step of the manager: only what was committed is renewed.
use Rattle.std.proofs.Common.{◌≡◌, ◌∙◌, ℕ, zero, suc, ◌-◌, Bool, true, false, List, Option, Some, None, IfSome, replicate, slice_get, slice_set, refl, sym, subst}
use Rattle.nm_proto.specs.declared.ask.Ask.{Ask}
use Rattle.nm_proto.specs.declared.ask.Ask.TheVariants as ask
use Rattle.nm_proto.specs.declared.journal.Entry.{Entry}
use Rattle.nm_proto.specs.declared.message.Request.{Request}
use Rattle.nm_proto.specs.declared.plan.ChangePlan.{ChangePlan}
use Rattle.nm_history.specs.declared.outcome.Outcome.{Outcome}
use Rattle.nm_decider.specs.declared.course.NextAction.TheVariants.{Send}
use Rattle.nm_decider.specs.Course as course
use Rattle.nm_decider.specs.Course.{CourseState, next_action, seat_count}
use Rattle.nm_decider.specs.Rightly.{IsAsked}
use Rattle.nm_decider.proofs.Actions.{asked}
use Rattle.nm_wire.specs.Asks.{ask_of}
use Rattle.nm_wire.specs.Link.{LinkState}
use Rattle.nm_manager.specs.Requests.{request_for}
use Rattle.nm_manager.specs.Slot.{SideState, SlotState, asked_in_fact, fresh_side, fresh_slot, gone, lost_wire, may_go, opens, receives, renews, renews_if, restarted_slot, sends, sends_if, sends_request, with_pair, with_wire, wires_on, on_side, sends_pair, renews_pair}
use Rattle.nm_safety.proofs.Gone.{each_gone}
use Rattle.nm_safety.proofs.Places.{set_same}
use Rattle.nm_safety.specs.Support.{AllLinks}
use Rattle.nm_safety.proofs.SlotLinks.{closed_links, links_at, received_links, restarted_links, set_links}
use Rattle.nm_outcome_laws.specs.Causes.{is_renewing}
use Rattle.nm_outcome_laws.specs.LapsesSupport.{AllRenew, RenewsCommitted, RenewsOn, WasCommitted}
use Rattle.nm_outcome_laws.proofs.lapses.Asks.{next_renews_none, request_plain}
use Rattle.nm_outcome_laws.proofs.lapses.Links.{closed_renews, fresh_renews, handled_renews, sent_renews}

module _ (outs : ℕ → Option Outcome) where
  abbrev pub P : ℕ → ℕ → LinkState → Type 0
  P d place = RenewsOn (outs d)

module _ (outs : ℕ → Option Outcome) (slot : SlotState) (all : AllRenew outs slot) where
  unmoved : (d : ℕ) (side : SideState) → slice_get slot.sides d ≡ Some side
      → AllRenew outs (record { course = slot.course; sides = slice_set slot.sides d side })
  unmoved d side there = subst (AllLinks (P outs)) (sym (set_same slot.sides d side there)) all

  -- ---- a request goes out

  gone_if : (device : ℕ) (side : SideState) → slice_get slot.sides (device - 1) ≡ Some side → (before now : CourseState) (new : Bool)
      (request : Request) → RenewsCommitted (outs (device - 1)) request → (b : Bool) → may_go new side.wire ≡ b
      → AllRenew outs (with_pair slot device (sends_if b new device before now side request)).slot
  gone_if device side there before now new request committed false e = unmoved (device - 1) side there
  gone_if device side there before now new request committed true e =
      set_links (P outs) slot all (device - 1) side (with_wire side (gone new side.wire request)) there
      (each_gone (P outs (device - 1)) new side.wire request e (λ place. fresh_renews (outs (device - 1)))
      (λ place link current quiet p. sent_renews (outs (device - 1)) request link committed quiet p)
      (links_at (P outs) slot all (device - 1) side there))

  gone_by : (device : ℕ) (side : SideState) → slice_get slot.sides (device - 1) ≡ Some side → (before now : CourseState) (new : Bool)
      (found : Option Request) → IfSome found (RenewsCommitted (outs (device - 1)))
      → AllRenew outs (with_pair slot device (sends_request new device before now side found)).slot
  gone_by device side there before now new None committed = unmoved (device - 1) side there
  gone_by device side there before now new (Some request) committed =
      gone_if device side there before now new request committed (may_go new side.wire) refl

  -- what renews nothing goes anywhere
  plain_committed : (outcome : Option Outcome) (found : Option Request) → IfSome found (λ q. is_renewing (ask_of q) ≡ false)
      → IfSome found (RenewsCommitted outcome)
  plain_committed outcome None plain = tt
  plain_committed outcome (Some request) plain = λ renewing. absurd (let g : true ≡ false = sym renewing ∙ plain in cc)

  sent_on_renews : (plan : ChangePlan) (entries : List Entry) (device : ℕ) (what : Ask) → IsAsked slot.course device what
      → (found : Option SideState) → slice_get slot.sides (device - 1) ≡ found → AllRenew outs (on_side (sends_pair plan entries device what) slot device found).slot
  sent_on_renews plan entries device what a None there = all
  sent_on_renews plan entries device what a (Some side) there =
      let in_fact : Ask = asked_in_fact side.resync what in
      let found : Option Request = request_for plan entries slot.course.change device in_fact in
      gone_by device side there slot.course (course.with_sent slot.course device) (opens in_fact) found
      (plain_committed (outs (device - 1)) found
      (request_plain plan entries slot.course.change device in_fact
      (next_renews_none slot.course.verdict a.seat.stage side.resync what a.next)))

  pub sent_all : (plan : ChangePlan) (entries : List Entry) (device : ℕ) (what : Ask) → next_action slot.course ≡ Send device what
      → AllRenew outs (sends plan entries slot device what).slot
  sent_all plan entries device what acts_so =
      sent_on_renews plan entries device what (asked slot.course device what acts_so) (slice_get slot.sides (device - 1)) refl

  -- ---- a timer is set anew

  module _ (plan : ChangePlan) (entries : List Entry) (device : ℕ)
      (committed : (side : SideState) → slice_get slot.sides (device - 1) ≡ Some side → course.may_renew slot.course device ≡ true
      → WasCommitted (outs (device - 1))) where
    renewed_if : (side : SideState) → slice_get slot.sides (device - 1) ≡ Some side → (b : Bool) → course.may_renew slot.course device ≡ b
        → AllRenew outs (with_pair slot device (renews_if b plan entries slot.course side device)).slot
    renewed_if side there false may = unmoved (device - 1) side there
    renewed_if side there true may =
        gone_by device side there slot.course (course.with_renewed slot.course device) false
        (request_for plan entries slot.course.change device ask.Renew) (λ renewing. committed side there may)

    renewed_on : (found : Option SideState) → slice_get slot.sides (device - 1) ≡ found → AllRenew outs (on_side (renews_pair plan entries device) slot device found).slot
    renewed_on None there = all
    renewed_on (Some side) there = renewed_if side there (course.may_renew slot.course device) refl

    pub renewed_all : AllRenew outs (renews plan entries slot device).slot
    renewed_all = renewed_on (slice_get slot.sides (device - 1)) refl

  -- ---- a reply is handled, sides of links end

  pub received_all : (device link number : ℕ) → AllRenew outs (receives slot device link number).slot
  received_all = received_links (P outs) slot all (λ d place link p. handled_renews (outs d) link p)

  pub lost_all : (device link : ℕ) → AllRenew outs (wires_on (lost_wire link) slot device (slice_get slot.sides (device - 1)))
  lost_all device link = closed_links (P outs) slot all device link (λ d place one p. closed_renews (outs d) one p)

  pub restarted_all : (device : ℕ) → AllRenew outs (restarted_slot device slot)
  restarted_all device = restarted_links (P outs) slot all device (λ d place one p. closed_renews (outs d) one p)

-- ---- the beginning

each_same : {A : Type 0} (Q : ℕ → A → Type 0) (n : ℕ) (x : A) → ((j : ℕ) → Q j x) → (j : ℕ) → IfSome (slice_get (replicate n x) j) (Q j)
each_same Q zero x all j = tt
each_same Q (suc n) x all zero = all 0
each_same Q (suc n) x all (suc j) = each_same (λ i. Q (suc i)) n x (λ i. all (suc i)) j

pub fresh_all : (outs : ℕ → Option Outcome) (number members : ℕ) → AllRenew outs (fresh_slot number members)
fresh_all outs number members =
    each_same (λ d side. (j : ℕ) → IfSome (slice_get side.wire.links j) (RenewsOn (outs d))) seat_count fresh_side (λ d j. tt)
