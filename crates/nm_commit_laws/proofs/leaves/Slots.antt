-- What is known of candidate at all devices of a change set, at each step of the manager.
use Rattle.std.proofs.Common.{ℕ, ◌≡◌, ◌-◌, true, false, List, Option, Some, None, slice_get, ap, sym, ◌∙◌}
use Rattle.nm_proto.specs.declared.ask.Ask.{Ask}
use Rattle.nm_proto.specs.declared.journal.Verdict.{Verdict}
use Rattle.nm_proto.specs.declared.journal.Entry.{Entry}
use Rattle.nm_proto.specs.declared.plan.ChangePlan.{ChangePlan}
use Rattle.nm_recovery.specs.Recovery.{verdict_in}
use Rattle.nm_decider_stage.specs.Stages.{is_acknowledged, broken_stage}
use Rattle.nm_decider.specs.declared.course.NextAction.TheVariants.{Send}
use Rattle.nm_decider.specs.declared.seat.Seat.{Seat}
use Rattle.nm_decider.specs.Course.{next_action}
use Rattle.nm_resync.specs.Resync.{settled_in, resync_learnt}
use Rattle.nm_wire.specs.Wire.{restarted}
use Rattle.nm_manager.specs.Manager.{starts_anew}
use Rattle.nm_manager.specs.Slot.{SideState, SlotState, breaks, cut_off, decided, lost_memory, lost_wire, receives, renews, sends, to_commit, wires_on}
use Rattle.nm_safety.specs.Pair.{is_live}
use Rattle.nm_safety.specs.Step.{GoesWith, IsInStep}
use Rattle.nm_safety.proofs.PairSteps.{pair_at}
use Rattle.nm_safety.proofs.EachPair.{anew_pairs, broken_pairs, decided_pairs, forgotten_pairs, received_pairs, renewed_pairs, sent_pairs, wires_pairs}
use Rattle.nm_safety.proofs.EachPair as each_pair
use Rattle.nm_commit_laws.specs.LeavesSupport.{AllKnown, IsKnown, KnownPair}
use Rattle.nm_commit_laws.proofs.leaves.Course.{broken_known, closed_known, decided_known, handled_known, renewed_known, restarted_known, resynced_known, turned_known}
use Rattle.nm_commit_laws.proofs.leaves.Tables.{broken_gone}

-- under the verdict of the course
abbrev pub Known : SlotState → Type 0
Known slot = AllKnown slot.course.verdict slot

-- no link is current
cut_known : (decided : Option Verdict) (commit : _) (seat : Seat) (side : SideState)
    → (to_commit decided ≡ true → is_live seat.stage ≡ false) → IsKnown decided seat (cut_off commit side)
cut_known decided commit seat side dead = record {
  current = tt;
  acked = λ c member live. absurd (let g : false ≡ true = sym (dead c) ∙ live in cc);
}

module _ (change members : ℕ) (entries : List Entry) (slot : SlotState) (in_step : IsInStep change members entries slot)
    (all : Known slot) where
  abbrev v : Option Verdict
  v = slot.course.verdict

  pub known_at : (place : ℕ) (seat : Seat) (side : SideState) → slice_get slot.course.seats place ≡ Some seat
      → slice_get slot.sides place ≡ Some side → IsKnown v seat side
  known_at place seat side here there = each_pair.known_at KnownPair change members entries slot in_step all place seat side here there

  pub goes_at : (place : ℕ) (seat : Seat) (side : SideState) → slice_get slot.course.seats place ≡ Some seat
      → slice_get slot.sides place ≡ Some side → GoesWith v seat side
  goes_at place seat side here there = (pair_at change members entries slot in_step place (Some seat) (Some side) here there).1

  pub sent_knows : (plan : ChangePlan) (device : ℕ) (what : Ask) → next_action slot.course ≡ Send device what
      → Known (sends plan entries slot device what).slot
  sent_knows plan device what acts =
      sent_pairs KnownPair change members entries slot in_step all device what
      (λ a side pair request is goes known. turned_known v a.seat side known what request a.next goes) plan acts

  pub renewed_knows : (plan : ChangePlan) (device : ℕ) → Known (renews plan entries slot device).slot
  renewed_knows plan device =
      renewed_pairs KnownPair change members entries slot in_step all device
      (λ seat side pair request is goes known. renewed_known v seat side known request goes) plan

  pub broken_knows : (device : ℕ) → Known (breaks slot device).slot
  broken_knows device =
      broken_pairs KnownPair change members entries slot in_step all device
      (λ seat side pair known.
      broken_known v seat side known (record seat { stage = broken_stage seat.stage; awaited = None }) (cut_off (to_commit v) side).resync
      (broken_gone seat.stage))

  pub received_knows : (device link number : ℕ) → Known (receives slot device link number).slot
  received_knows device link number =
      received_pairs KnownPair change members entries slot in_step all device link number
      (λ seat side pair exchange due what awaited plain known. handled_known v seat side known pair.goes link exchange due what awaited plain)
      (λ seat side pair exchange due awaited known.
      resynced_known v seat side known pair.goes link exchange due awaited
      (settled_in (resync_learnt side.resync.commit side.resync.stage exchange.reply)))

-- sides of links end
module _ (slot : SlotState) (all : Known slot) where
  pub lost_knows : (device link : ℕ) → Known (wires_on (lost_wire link) slot device (slice_get slot.sides (device - 1)))
  lost_knows device link =
      wires_pairs KnownPair slot all (lost_wire link) device (λ seat side known. closed_known slot.course.verdict seat side known link)

  pub restarted_knows : (device : ℕ) → Known (wires_on restarted slot device (slice_get slot.sides (device - 1)))
  restarted_knows device =
      wires_pairs KnownPair slot all restarted device (λ seat side known. restarted_known slot.course.verdict seat side known)

-- the verdict falls
pub decided_knows : (slot : SlotState) (v : Verdict) → ((place : ℕ) (seat : Seat) → slice_get slot.course.seats place ≡ Some seat
    → to_commit (Some v) ≡ true → seat.is_member ≡ true → is_acknowledged seat.stage ≡ true)
    → AllKnown None slot → Known (decided slot v)
decided_knows slot v acked all =
    decided_pairs KnownPair slot v None (λ place seat side here there known. decided_known v seat side (acked place seat here) known) all

-- memory is lost
pub forgotten_knows : (slot : SlotState) (members : ℕ) (found : Option Verdict) → Known (lost_memory slot members found)
forgotten_knows slot members found =
    forgotten_pairs KnownPair slot members found (λ place seat side stage there. cut_known found (to_commit found) seat side (λ c. ap is_live stage))

pub anew_knows : (slot : SlotState) (entries : List Entry) (change members : ℕ) → Known (starts_anew entries change members slot)
anew_knows slot entries change members =
    anew_pairs KnownPair slot entries change members
    (λ place seat side stage there. cut_known (verdict_in change entries) (to_commit (verdict_in change entries)) seat side (λ c. ap is_live stage))
    (λ place seat side stage there. cut_known None (to_commit (verdict_in change entries)) seat side (λ c. absurd (let g : false ≡ true = c in cc)))
