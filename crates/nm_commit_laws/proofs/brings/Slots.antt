-- All devices of a change set stay on the course, at each step of the manager.
use Rattle.std.proofs.Common.{◌≡◌, ◌∙◌, ℕ, ◌-◌, Bool, true, false, not, ◌&&◌, List, map, Option, Some, None, is_some, slice_get, slice_set, refl, sym, ap, subst, if◌then◌else◌}
use Rattle.nm_proto.specs.declared.ask.Ask.{Ask}
use Rattle.nm_proto.specs.declared.message.Request.{Request}
use Rattle.nm_proto.specs.declared.journal.Entry.{Entry}
use Rattle.nm_proto.specs.declared.journal.Verdict.{Verdict}
use Rattle.nm_proto.specs.declared.plan.ChangePlan.{ChangePlan}
use Rattle.nm_history.specs.History.{RecordedState}
use Rattle.nm_recovery.specs.Recovery.{is_started, is_ended_in, verdict_in}
use Rattle.nm_decider_stage.specs.declared.stage.Stage.TheVariants.{Live, Resync}
use Rattle.nm_decider_stage.specs.Stages.{broken_stage, learnt, next_ask}
use Rattle.nm_decider.specs.declared.course.NextAction.TheVariants.{Send}
use Rattle.nm_decider.specs.declared.seat.Seat.{Seat}
use Rattle.nm_decider.specs.Course as course
use Rattle.nm_decider.specs.Course.{asked_next, decided_seat, next_action}
use Rattle.nm_decider.specs.Rightly.{IsAsked}
use Rattle.nm_resync.specs.Resync.{settled_in, resync_learnt}
use Rattle.nm_wire.specs.Asks.{ask_of}
use Rattle.nm_wire.specs.Wire.{handled_at, restarted}
use Rattle.nm_manager.specs.Manager.{starts_anew}
use Rattle.nm_manager.specs.Slot.{SideState, SlotState, asked_in_fact, breaks, cut_off, decided, gone, lost_memory, lost_wire, may_go, opens, receives, renews, sends, to_commit, with_wire, wires_on}
use Rattle.nm_safety.specs.Pair.{PairHolds, first_link, is_live}
use Rattle.nm_safety.specs.Pairs.{IsPair}
use Rattle.nm_safety.specs.Slots.{HoldsAt}
use Rattle.nm_safety.specs.Step.{GoesWith}
use Rattle.nm_safety.specs.Support.{IsKept, IsOrdered, Owners}
use Rattle.nm_safety.proofs.Anew.{none_made}
use Rattle.nm_safety.proofs.EachPair.{begun_pairs, broken_pairs, decided_pairs, forgotten_pairs, known_at, pairs_map, received_pairs, renewed_pairs, sent_pairs, wires_pairs}
use Rattle.nm_safety.proofs.Gone.{first_of}
use Rattle.nm_safety.proofs.Pairs.{has_verdict}
use Rattle.nm_safety.proofs.PairSteps.{pair_at}
use Rattle.nm_safety.proofs.Tables.{found_stage}
use Rattle.nm_safety.proofs.Wires.{at_set}
use Rattle.nm_commit_laws.specs.Course.{steps_known, steps_past}
use Rattle.nm_commit_laws.specs.BringsSupport.{AllOnCourse, CoursePair, IsOnCourse}
use Rattle.nm_commit_laws.proofs.brings.Course.{AsksOn, broken_course, closed_course, decided_course, handled_course, renewed_course, restarted_course, resynced_course, turned_course}
use Rattle.nm_commit_laws.proofs.brings.Words.{known_broken, not_live}

-- where somebody is, it is somebody
some_there : {A : Type 0} (T : Type 0) (found : Option A) → is_some found ≡ true → ((x : A) → found ≡ Some x → T) → T
some_there T None some step = absurd (let g : false ≡ true = some in cc)
some_there T (Some x) some step = step x refl

module _ {Config Node : Type 0} (change members : ℕ) (entries : List Entry) (owners : ℕ → Owners) (devices : List (RecordedState Config Node))
    (slot : SlotState) (k : IsKept change members entries owners devices slot) where
  abbrev found : Option Verdict
  found = verdict_in change entries

  -- what holds of a seat and its side
  pub holds_at : (place : ℕ) (seat : Seat) (side : SideState) (r : RecordedState Config Node) → slice_get slot.course.seats place ≡ Some seat
      → slice_get slot.sides place ≡ Some side → slice_get devices place ≡ Some r → PairHolds change found seat side.wire r
  holds_at place seat side r here there is =
      subst (λ o. HoldsAt change found (Some seat) (Some side) o) is
      (subst (λ o. HoldsAt change found (Some seat) o (slice_get devices place)) there
      (subst (λ o. HoldsAt change found o (slice_get slot.sides place) (slice_get devices place)) here (k.holds place)))

  on_device : (T : Type 0) (place : ℕ) (seat : Seat) (side : SideState) → IsPair members slot place seat side
      → is_some (slice_get devices place) ≡ true → ((r : RecordedState Config Node) → PairHolds change found seat side.wire r → T) → T
  on_device T place seat side pair some step =
      some_there T (slice_get devices place) some (λ r is. step r (holds_at place seat side r pair.here pair.there is))

  -- before the verdict the course has none
  pub none_now : IsOrdered change entries → found ≡ None → slot.course.verdict ≡ None
  none_now ordered none = by_end (is_ended_in change entries) refl
    where
      by_end : (ended : Bool) → is_ended_in change entries ≡ ended → slot.course.verdict ≡ None
      by_end false e = k.in_step.decided e ∙ none
      by_end true e = absurd (let g : false ≡ true = sym (ap is_some none) ∙ ordered.ended e in cc)

  module _ (all : AllOnCourse found devices slot) where
    abbrev v : Option Verdict
    v = slot.course.verdict

    -- a request goes out

    next_goes : (device : ℕ) (what : Ask) → is_ended_in change entries ≡ false → (a : IsAsked slot.course device what) (side : SideState)
        → IsPair members slot (device - 1) a.seat side → (request : Request) → ask_of request ≡ asked_in_fact side.resync what
        → may_go (opens (asked_in_fact side.resync what)) side.wire ≡ true → CoursePair found devices (device - 1) v a.seat side
        → CoursePair found devices (device - 1) v (asked_next v a.seat)
        (with_wire side (gone (opens (asked_in_fact side.resync what)) side.wire request))
    next_goes device what open_now a side pair request is goes known some =
        let same : v ≡ found = k.in_step.decided open_now in
        on_device (IsOnCourse found (asked_next v a.seat) (gone (opens (asked_in_fact side.resync what)) side.wire request))
        (device - 1) a.seat side pair some
        (λ r holds.
        turned_course change a.seat side r what request found (subst (λ d. GoesWith d a.seat side) same pair.goes) a.quiet
        (ap (λ d. next_ask d a.seat.stage) (sym same) ∙ a.next) is goes holds (known some) (asked_next v a.seat) refl)

    pub sent_on_course : (plan : ChangePlan) (device : ℕ) (what : Ask) → is_ended_in change entries ≡ false
        → next_action slot.course ≡ Send device what → AllOnCourse found devices (sends plan entries slot device what).slot
    sent_on_course plan device what open_now acts =
        sent_pairs (CoursePair found devices) change members entries slot k.in_step all device what (next_goes device what open_now) plan acts

    pub renewed_on_course : (plan : ChangePlan) (device : ℕ) → AllOnCourse found devices (renews plan entries slot device).slot
    renewed_on_course plan device =
        renewed_pairs (CoursePair found devices) change members entries slot k.in_step all device
        (λ seat side pair request is goes known some. renewed_course found seat side.wire request is goes (known some)) plan

    -- a reply is handled, a link breaks

    pub received_on_course : IsOrdered change entries → (device link number : ℕ)
        → AllOnCourse found devices (receives slot device link number).slot
    received_on_course ordered device link number =
        received_pairs (CoursePair found devices) change members entries slot k.in_step all device link number
        (λ seat side pair exchange due what awaited plain known some.
        on_device (IsOnCourse found (record seat { stage = learnt v seat.stage what exchange.reply; awaited = None })
        (handled_at side.wire link (Some exchange))) (device - 1) seat side pair some
        (λ r holds. handled_course side link exchange due change seat r what awaited found v (none_now ordered) pair.goes holds (known some)))
        (λ seat side pair exchange due awaited known some.
        resynced_course side link exchange due found seat
        (record seat { stage = found_stage (settled_in (resync_learnt side.resync.commit side.resync.stage exchange.reply)); awaited = None })
        (λ none.
        absurd (let g : false ≡ true = sym (ap is_some (none_now ordered none)) ∙ has_verdict v seat side pair.goes link exchange due awaited in cc))
        (known some))

    pub broken_on_course : (device : ℕ) → AllOnCourse found devices (breaks slot device).slot
    broken_on_course device =
        broken_pairs (CoursePair found devices) change members entries slot k.in_step all device
        (λ seat side pair known some.
        broken_course found (record seat { stage = broken_stage seat.stage; awaited = None }) side.wire (known_broken seat.stage)
        (λ none live. absurd (let g : false ≡ true = sym (not_live seat.stage) ∙ live in cc)) (known some).asked)

    -- ---- memory is lost

    -- what is asked on the first link
    asked_at : (place : ℕ) (side : SideState) → slice_get slot.sides place ≡ Some side → is_some (slice_get devices place) ≡ true
        → AsksOn (first_link side.wire)
    asked_at place side there some = by_seat (slice_get slot.course.seats place) refl
      where
        by_seat : (seat : Option Seat) → slice_get slot.course.seats place ≡ seat → AsksOn (first_link side.wire)
        by_seat None here = absurd (pair_at change members entries slot k.in_step place None (Some side) here there)
        by_seat (Some seat) here =
            (known_at (CoursePair found devices) change members entries slot k.in_step all place seat side here there some).asked

    lost_goes : (of_course : Option Verdict) (place : ℕ) (seat : Seat) (side : SideState) → seat.stage ≡ Resync
        → slice_get slot.sides place ≡ Some side → CoursePair found devices place of_course seat (cut_off (to_commit found) side)
    lost_goes of_course place seat side stage there some =
        broken_course found seat side.wire (ap steps_known stage)
        (λ none live. absurd (let g : false ≡ true = sym (ap is_live stage) ∙ live in cc)) (asked_at place side there some)

    pub forgotten_on_course : AllOnCourse found devices (lost_memory slot members found)
    forgotten_on_course = forgotten_pairs (CoursePair found devices) slot members found (lost_goes found)

    -- the manager starts anew, with what wasn't submitted from its beginning
    pub anew_on_course : IsOrdered change entries → AllOnCourse found devices (starts_anew entries change members slot)
    anew_on_course ordered = by_going (is_started change entries && not (is_ended_in change entries)) refl
      where
        by_going : (goes_on : Bool) → (is_started change entries && not (is_ended_in change entries)) ≡ goes_on → AllOnCourse found devices (record {
          course = if goes_on then course.recovered_course change members found else course.new_course change members;
          sides = map (cut_off (to_commit found)) slot.sides;
        })
        by_going true goes =
            begun_pairs (CoursePair found devices) members slot.sides (to_commit found) Resync found (lost_goes found)
            (course.recovered_course change members found) refl refl
        by_going false goes =
            begun_pairs (CoursePair found devices) members slot.sides (to_commit found) (Live 0) None
            (λ place seat side stage there some.
            broken_course found seat side.wire (ap steps_known stage)
            (λ none live.
            ap (λ links. steps_past (first_of links)) (none_made change members owners devices entries ordered slot k place side there goes none))
            (asked_at place side there some))
            (course.new_course change members) refl refl

-- ---- sides of links end, a verdict falls, a device changes

module _ {Config Node : Type 0} (found : Option Verdict) (devices : List (RecordedState Config Node)) (slot : SlotState)
    (all : AllOnCourse found devices slot) where
  pub lost_on_course : (device link : ℕ) → AllOnCourse found devices (wires_on (lost_wire link) slot device (slice_get slot.sides (device - 1)))
  lost_on_course device link =
      wires_pairs (CoursePair found devices) slot all (lost_wire link) device
      (λ seat side known some. closed_course found seat side.wire link (known some))

  pub restarted_on_course : (device : ℕ) → AllOnCourse found devices (wires_on restarted slot device (slice_get slot.sides (device - 1)))
  restarted_on_course device =
      wires_pairs (CoursePair found devices) slot all restarted device (λ seat side known some. restarted_course found seat side.wire (known some))

  pub decided_on_course : (v : Verdict) → AllOnCourse (Some v) devices (decided slot v)
  decided_on_course v =
      decided_pairs (CoursePair (Some v) devices) slot v slot.course.verdict
      (λ place seat side here there known some. decided_course (Some v) v seat (decided_seat v seat) side.wire (known some))
      (pairs_map (CoursePair found devices) (CoursePair (Some v) devices) slot.course.verdict slot.course.verdict slot
      (λ place seat side here there known some. decided_course found v seat seat side.wire (known some)) all)

  -- there are as many devices
  pub same_on_course : (d : ℕ) (r after : RecordedState Config Node) → slice_get devices d ≡ Some r
      → AllOnCourse found (slice_set devices d after) slot
  same_on_course d r after is =
      pairs_map (CoursePair found devices) (CoursePair found (slice_set devices d after)) slot.course.verdict slot.course.verdict slot
      (λ place seat side here there known some.
      let still : is_some (slice_get (slice_set devices d after) place) ≡ is_some (slice_get devices place) =
      at_set (λ one other. is_some other ≡ is_some one) (λ o. refl) devices d place r after is refl in
      known (sym still ∙ some)) all
