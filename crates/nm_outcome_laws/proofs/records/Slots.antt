-- What is known of all devices of a change set, at each step of the manager.
use Rattle.std.proofs.Common.{◌≡◌, ℕ, ◌-◌, Bool, true, false, List, Option, Some, None, slice_get, sym, ap, subst, ◌∙◌}
use Rattle.nm_proto.specs.declared.ask.Ask.{Ask}
use Rattle.nm_proto.specs.declared.journal.Verdict.{Verdict}
use Rattle.nm_proto.specs.declared.journal.Entry.{Entry}
use Rattle.nm_proto.specs.declared.plan.ChangePlan.{ChangePlan}
use Rattle.nm_history.specs.declared.outcome.Outcome.{Outcome}
use Rattle.nm_recovery.specs.Recovery.{verdict_in}
use Rattle.nm_decider_stage.specs.declared.stage.Stage.TheVariants.{Resync}
use Rattle.nm_decider.specs.declared.course.NextAction.TheVariants.{Decide, Send}
use Rattle.nm_decider.specs.declared.seat.Seat.{Seat}
use Rattle.nm_decider.specs.Course.{next_action}
use Rattle.nm_decider.specs.Rightly.{IsReady}
use Rattle.nm_resync.specs.declared.resync.ResyncStage.TheVariants.{Opening}
use Rattle.nm_wire.specs.Wire.{restarted}
use Rattle.nm_manager.specs.Manager.{starts_anew}
use Rattle.nm_manager.specs.Slot.{SideState, SlotState, asked_in_fact, breaks, cut_off, decided, lost_memory, lost_wire, opens, receives, renews, sends, to_commit, wires_on}
use Rattle.nm_safety.specs.Pair.{is_live}
use Rattle.nm_safety.specs.Step.{GoesWith, IsInStep}
use Rattle.nm_safety.proofs.PairSteps.{pair_at}
use Rattle.nm_safety.proofs.EachPair as each_pair
use Rattle.nm_safety.proofs.EachPair.{anew_pairs, broken_pairs, decided_pairs, forgotten_pairs, received_pairs, renewed_pairs, sent_pairs, wires_pairs}
use Rattle.nm_safety.proofs.Seats.{ready, undecided}
use Rattle.nm_outcome_laws.specs.RecordsSupport.{AllKnown, IsKnown, KnownPair, knows_at, wants_mark}
use Rattle.nm_outcome_laws.proofs.records.Course.{broken_known, closed_known, decided_known, handled_known, renewed_known, restarted_known, resynced_known, turned_known}

module _ (outs : ℕ → Option Outcome) (change members : ℕ) (entries : List Entry) (slot : SlotState)
    (in_step : IsInStep change members entries slot) (all : AllKnown outs slot) where
  abbrev v : Option Verdict
  v = slot.course.verdict

  pub known_at : (place : ℕ) (seat : Seat) (side : SideState) → slice_get slot.course.seats place ≡ Some seat
      → slice_get slot.sides place ≡ Some side → IsKnown v seat side (outs place)
  known_at place seat side here there = each_pair.known_at (KnownPair outs) change members entries slot in_step all place seat side here there

  pub sent_knows : (plan : ChangePlan) (device : ℕ) (what : Ask) → next_action slot.course ≡ Send device what
      → AllKnown outs (sends plan entries slot device what).slot
  sent_knows plan device what acts =
      sent_pairs (KnownPair outs) change members entries slot in_step all device what
      (λ a side pair request is goes known.
      turned_known v a.seat side (outs (device - 1)) known (opens (asked_in_fact side.resync what)) request goes) plan acts

  pub renewed_knows : (plan : ChangePlan) (device : ℕ) → AllKnown outs (renews plan entries slot device).slot
  renewed_knows plan device =
      renewed_pairs (KnownPair outs) change members entries slot in_step all device
      (λ seat side pair request is goes known. renewed_known v seat side (outs (device - 1)) known request goes) plan

  pub broken_knows : (device : ℕ) → AllKnown outs (breaks slot device).slot
  broken_knows device =
      broken_pairs (KnownPair outs) change members entries slot in_step all device
      (λ seat side pair known. broken_known v seat side (outs (device - 1)) known (to_commit v))

  pub received_knows : (device link number : ℕ) → AllKnown outs (receives slot device link number).slot
  received_knows device link number =
      received_pairs (KnownPair outs) change members entries slot in_step all device link number
      (λ seat side pair exchange due what awaited plain known.
      handled_known v seat side (outs (device - 1)) known pair.goes link exchange due what awaited plain)
      (λ seat side pair exchange due awaited known.
      resynced_known v seat side (outs (device - 1)) known pair.goes link exchange due awaited)

  -- ---- the verdict falls

  module _ (now : Verdict) (next : next_action slot.course ≡ Decide now) where
    goes_undecided : (place : ℕ) (seat : Seat) (side : SideState) → slice_get slot.course.seats place ≡ Some seat
        → slice_get slot.sides place ≡ Some side → GoesWith None seat side
    goes_undecided place seat side here there =
        subst (λ decided. GoesWith decided seat side) (undecided change members entries slot in_step now next)
        (pair_at change members entries slot in_step place (Some seat) (Some side) here there).1

    pub decided_knows : AllKnown outs (decided slot now)
    decided_knows =
        decided_pairs (KnownPair outs) slot now v
        (λ place seat side here there known.
        decided_known now seat side (outs place) (goes_undecided place seat side here there)
        (λ commit member.
        let is : IsReady seat = ready change members entries slot in_step now next place seat here commit member in
        (is.acknowledged, is.quiet))) all

-- ---- sides of links end

module _ (outs : ℕ → Option Outcome) (slot : SlotState) (all : AllKnown outs slot) where
  pub lost_knows : (device link : ℕ) → AllKnown outs (wires_on (lost_wire link) slot device (slice_get slot.sides (device - 1)))
  lost_knows device link =
      wires_pairs (KnownPair outs) slot all (lost_wire link) device
      (λ seat side known. closed_known slot.course.verdict seat side (outs (device - 1)) known link)

  pub restarted_knows : (device : ℕ) → AllKnown outs (wires_on restarted slot device (slice_get slot.sides (device - 1)))
  restarted_knows device =
      wires_pairs (KnownPair outs) slot all restarted device
      (λ seat side known. restarted_known slot.course.verdict seat side (outs (device - 1)) known)

-- ---- memory is lost

cut_known : (decided : Option Verdict) (commit : Bool) (seat : Seat) (side : SideState) (o : Option Outcome)
    → (to_commit decided ≡ true → seat.stage ≡ Resync) → IsKnown decided seat (cut_off commit side) o
cut_known decided commit seat side None dead = tt
cut_known decided commit seat side (Some outcome) dead = λ c member. record {
  acked = λ live. absurd (let g : false ≡ true = ap is_live (sym (dead c)) ∙ live in cc);
  known = λ kept knows. absurd (let g : None ≡ Some kept = ap (λ s. knows_at s Opening) (sym (dead c)) ∙ knows in cc);
  gone = λ wants. absurd (let g : false ≡ true = ap (λ s. wants_mark s Opening) (sym (dead c)) ∙ wants in cc);
  told = tt;
}

pub forgotten_knows : (outs : ℕ → Option Outcome) (slot : SlotState) (members : ℕ) (found : Option Verdict)
    → AllKnown outs (lost_memory slot members found)
forgotten_knows outs slot members found =
    forgotten_pairs (KnownPair outs) slot members found
    (λ place seat side stage there. cut_known found (to_commit found) seat side (outs place) (λ c. stage))

pub anew_knows : (outs : ℕ → Option Outcome) (slot : SlotState) (entries : List Entry) (change members : ℕ)
    → AllKnown outs (starts_anew entries change members slot)
anew_knows outs slot entries change members =
    anew_pairs (KnownPair outs) slot entries change members
    (λ place seat side stage there.
    cut_known (verdict_in change entries) (to_commit (verdict_in change entries)) seat side (outs place) (λ c. stage))
    (λ place seat side stage there.
    cut_known None (to_commit (verdict_in change entries)) seat side (outs place) (λ c. absurd (let g : false ≡ true = c in cc)))
