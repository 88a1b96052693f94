-- What is kept of each link of a change set where a request goes out on one of them: that is to a device of the change set.
use Rattle.std.proofs.Common.{ℕ, ◌≡◌, ◌∙◌, ◌+◌, ◌-◌, ◌≤◌, true, false, List, Option, Some, None, IfSome, slice_get, refl, sym}
use Rattle.nm_base.specs.Mask.{mask_contains}
use Rattle.nm_proto.specs.declared.ask.Ask.{Ask}
use Rattle.nm_proto.specs.declared.ask.Ask.TheVariants as ask
use Rattle.nm_proto.specs.declared.message.Request.{Request}
use Rattle.nm_proto.specs.declared.journal.Verdict.{Verdict}
use Rattle.nm_proto.specs.declared.journal.Entry.{Entry}
use Rattle.nm_proto.specs.declared.plan.ChangePlan.{ChangePlan}
use Rattle.nm_decider.specs.declared.course.NextAction.TheVariants.{Send}
use Rattle.nm_decider.specs.declared.seat.Seat.{Seat}
use Rattle.nm_decider.specs.Course.{next_action}
use Rattle.nm_wire.specs.Asks.{ask_of}
use Rattle.nm_wire.specs.Link.{LinkState}
use Rattle.nm_manager.specs.Slot.{SideState, SlotState, asked_in_fact, gone, may_go, opens, renews, sends}
use Rattle.nm_safety.specs.Step.{IsInStep}
use Rattle.nm_safety.specs.Support.{AllLinks}
use Rattle.nm_safety.specs.Pairs.{AllPairs, OfPair, PairAt}
use Rattle.nm_safety.proofs.PairSteps.{pair_at}
use Rattle.nm_safety.proofs.SlotLinks.{Links}
use Rattle.nm_safety.proofs.Courses.{renewed_in_step, sent_in_step}
use Rattle.nm_safety.proofs.EachPair.{renewed_pairs, sent_pairs}

module _ (P : ℕ → ℕ → LinkState → Type 0) where
  -- the links of a device, as a part of its pair
  abbrev pub OfLinks : OfPair
  OfLinks place decided seat side = Links (P place) side.wire

  to_pair : (place : ℕ) (decided : Option Verdict) (seat : Option Seat) (side : Option SideState) → IfSome side (λ one. Links (P place) one.wire)
      → PairAt OfLinks place decided seat side
  to_pair place decided None side links = tt
  to_pair place decided (Some seat) None links = tt
  to_pair place decided (Some seat) (Some side) links = links

  module _ (change members : ℕ) (entries : List Entry) (slot : SlotState) (in_step : IsInStep change members entries slot)
      (all : AllPairs OfLinks slot.course.verdict slot) where
    from_pair : (place : ℕ) (seat : Option Seat) → slice_get slot.course.seats place ≡ seat → (side : Option SideState) → slice_get slot.sides place ≡ side
        → PairAt OfLinks place slot.course.verdict seat side → IfSome side (λ one. Links (P place) one.wire)
    from_pair place seat here None there links = tt
    from_pair place None here (Some side) there links = absurd (pair_at change members entries slot in_step place None (Some side) here there)
    from_pair place (Some seat) here (Some side) there links = links

    from_pairs : AllLinks P slot.sides
    from_pairs place = from_pair place (slice_get slot.course.seats place) refl (slice_get slot.sides place) refl (all place)

  module _ (change members : ℕ) (entries : List Entry) (slot : SlotState) (in_step : IsInStep change members entries slot) (all : AllLinks P slot.sides) where
    to_pairs : AllPairs OfLinks slot.course.verdict slot
    to_pairs place = to_pair place slot.course.verdict (slice_get slot.course.seats place) (slice_get slot.sides place) (all place)

    -- the next request goes out
    pub sent_to_own : (device : ℕ) (what : Ask)
        → ((side : SideState) → mask_contains members (device - 1 + 1) ≡ true → (request : Request) → ask_of request ≡ asked_in_fact side.resync what
        → may_go (opens (asked_in_fact side.resync what)) side.wire ≡ true → Links (P (device - 1)) side.wire
        → Links (P (device - 1)) (gone (opens (asked_in_fact side.resync what)) side.wire request))
        → (plan : ChangePlan) → next_action slot.course ≡ Send device what → AllLinks P (sends plan entries slot device what).slot.sides
    sent_to_own device what next plan acts =
        from_pairs change members entries (sends plan entries slot device what).slot (sent_in_step change members entries slot in_step plan device what acts)
        (sent_pairs OfLinks change members entries slot in_step to_pairs device what
        (λ a side pair request is goes links. next side (sym pair.seated.member ∙ a.member) request is goes links) plan acts)

    -- a timer is set anew
    pub renewed_to_own : (device : ℕ) → 1 ≤ device
        → ((side : SideState) → (request : Request) → ask_of request ≡ ask.Renew → may_go false side.wire ≡ true → Links (P (device - 1)) side.wire
        → Links (P (device - 1)) (gone false side.wire request))
        → (plan : ChangePlan) → AllLinks P (renews plan entries slot device).slot.sides
    renewed_to_own device numbered again plan =
        from_pairs change members entries (renews plan entries slot device).slot (renewed_in_step change members entries slot in_step plan device numbered)
        (renewed_pairs OfLinks change members entries slot in_step to_pairs device (λ seat side pair request is goes links. again side request is goes links) plan)
