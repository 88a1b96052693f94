-- What is kept of all devices of a change set that is to be aborted, at each step of the manager and of a device.
use Rattle.std.proofs.Common.{◌≡◌, ◌∙◌, ℕ, ◌+◌, ◌-◌, Bool, true, false, List, Option, Some, None, IfSome, slice_get, slice_set, refl, sym, ap, subst}
use Rattle.nm_base.specs.Mask.{mask_contains}
use Rattle.nm_base.specs.Token.{token_of}
use Rattle.nm_base.specs.declared.mask.DeviceMask.{DeviceMask}
use Rattle.nm_proto.specs.declared.ask.Ask.{Ask}
use Rattle.nm_proto.specs.declared.ask.Ask.TheVariants as ask
use Rattle.nm_proto.specs.declared.journal.Verdict.{Verdict}
use Rattle.nm_proto.specs.declared.journal.Entry.{Entry}
use Rattle.nm_proto.specs.declared.plan.ChangePlan.{ChangePlan}
use Rattle.nm_history.specs.History.{RecordedState}
use Rattle.nm_history.specs.Outcome.{outcome_of}
use Rattle.nm_recovery.specs.Recovery.{verdict_in}
use Rattle.nm_decider_stage.specs.declared.stage.Stage.{Stage}
use Rattle.nm_decider_stage.specs.declared.stage.Stage.TheVariants.{Live, Refused, Failed, NeedMark, Resync, Leaving, Settled}
use Rattle.nm_decider_stage.specs.Stages.{broken_stage, is_settled, learnt, next_ask}
use Rattle.nm_decider.specs.declared.course.NextAction.TheVariants.{Finish, Send}
use Rattle.nm_decider.specs.declared.seat.Seat.{Seat}
use Rattle.nm_decider.specs.Course.{asked_next, decided_seat, next_action, renewed}
use Rattle.nm_resync.specs.declared.resync.ResyncStage.{ResyncStage}
use Rattle.nm_resync.specs.Resync.{resync_learnt, settled_in}
use Rattle.nm_resync.specs.Resync as resync
use Rattle.nm_wire.specs.Asks.{same_ask}
use Rattle.nm_wire.specs.Wire.{WireState, handled_at, restarted}
use Rattle.nm_manager.specs.Manager.{starts_anew}
use Rattle.nm_manager.specs.Slot.{SideState, SlotState, anew, asked_in_fact, breaks, cut_off, decided, gone, is_commit, lost_memory, lost_wire, opens, receives, renews, sends, to_commit, with_wire, wires_on}
use Rattle.nm_safety.specs.Pair.{PairHolds, first_link, to_abort}
use Rattle.nm_safety.specs.Pairs.{OfPair, PairAt}
use Rattle.nm_safety.specs.Step.{GoesWith, IsSeated}
use Rattle.nm_safety.specs.Support.{IsKept, Owners}
use Rattle.nm_safety.proofs.EachPair as each_pair
use Rattle.nm_safety.proofs.EachPair.{anew_pairs, broken_pairs, decided_pairs, forgotten_pairs, pairs_map, received_pairs, renewed_pairs, sent_pairs, wires_pairs}
use Rattle.nm_safety.proofs.Lists.{set_other, some_is, to_some}
use Rattle.nm_safety.proofs.Managed.{others_stay}
use Rattle.nm_safety.proofs.PairSteps.{pair_at}
use Rattle.nm_safety.proofs.Seats.{acts, listed}
use Rattle.nm_safety.proofs.Tables.{found_stage}
use Rattle.nm_safety.proofs.Wires.{set_there}
use Rattle.nm_commit_laws.proofs.refuses.Slots.{holds_there}
use Rattle.nm_outcome_laws.specs.AbortsSupport.{AbortedPair, AllAborted, IsAborted, IsGone, IsSpent, is_known}
use Rattle.nm_outcome_laws.proofs.aborts.Course.{Passes, aborted_passes, broken_aborted, closed_aborted, cut_aborted, decided_aborted, handled_aborted, moved_passes, plainly_out, restarted_aborted, resynced_aborted, turned_aborted}
use Rattle.nm_outcome_laws.proofs.aborts.Links.{unsent_gone}
use Rattle.nm_outcome_laws.proofs.aborts.Tables.{decided_brings}

if_there : {A : Type 0} (P Q : A → Type 0) (found : Option A) → ((a : A) → found ≡ Some a → P a → Q a) → IfSome found P → IfSome found Q
if_there P Q None step k = tt
if_there P Q (Some a) step k = step a refl k

settled_known : (stage : Stage) (r : ResyncStage) → is_settled stage ≡ true → is_known stage r ≡ true
settled_known (Settled kept) r s = refl
settled_known (Leaving kept) r s = refl
settled_known (Live done) r s = absurd (let g : false ≡ true = s in cc)
settled_known Refused r s = absurd (let g : false ≡ true = s in cc)
settled_known Failed r s = absurd (let g : false ≡ true = s in cc)
settled_known NeedMark r s = absurd (let g : false ≡ true = s in cc)
settled_known Resync r s = absurd (let g : false ≡ true = s in cc)

-- one device, where there is one
module _ {Config Node : Type 0} (members : ℕ) (over : Bool) (token : List ℕ) (devices : List (RecordedState Config Node)) (place : ℕ) where
  abbrev One : Option Verdict → Seat → SideState → RecordedState Config Node → Type 0
  One decided seat side r = IsAborted (mask_contains members (place + 1)) over decided token seat side r

  lift : (before after : Option Verdict) (seat now : Seat) (side new : SideState)
      → ((r : RecordedState Config Node) → slice_get devices place ≡ Some r → One before seat side r → One after now new r)
      → AbortedPair members over token devices place before seat side → AbortedPair members over token devices place after now new
  lift before after seat now side new step = if_there (One before seat side) (One after now new) (slice_get devices place) step

-- ---- the manager acts for it

module _ {Config Node : Type 0} (change members : ℕ) (over : Bool) (owners : ℕ → Owners) (devices : List (RecordedState Config Node))
    (entries : List Entry) (slot : SlotState) (k : IsKept change members entries owners devices slot)
    (all : AllAborted members over (token_of change) devices slot) where
  abbrev token : List ℕ
  token = token_of change

  abbrev Pair : OfPair
  Pair = AbortedPair members over token devices

  abbrev v : Option Verdict
  v = slot.course.verdict

  abbrev Known : SlotState → Type 0
  Known now = AllAborted members over token devices now

  pub pair_there : (place : ℕ) (seat : Seat) (side : SideState) (r : RecordedState Config Node) → slice_get slot.course.seats place ≡ Some seat
      → slice_get slot.sides place ≡ Some side → slice_get devices place ≡ Some r
      → PairHolds change (verdict_in change entries) seat side.wire r
  pair_there place seat side r here there is = holds_there change members owners devices entries slot k place seat side r here there is

  goes_at : (place : ℕ) (seat : Seat) (side : SideState) → slice_get slot.course.seats place ≡ Some seat
      → slice_get slot.sides place ≡ Some side → IsSeated members (place + 1) seat × GoesWith v seat side
  goes_at place seat side here there = pair_at change members entries slot k.in_step place (Some seat) (Some side) here there

  -- what was sent to a device, whatever stands of its seat
  pub spent_at : (place : ℕ) (side : SideState) (r : RecordedState Config Node) → slice_get slot.sides place ≡ Some side
      → slice_get devices place ≡ Some r → IsSpent (mask_contains members (place + 1)) over token side.wire r
  spent_at place side r there here = by_seat (slice_get slot.course.seats place) refl
    where
      by_seat : (seat : Option Seat) → slice_get slot.course.seats place ≡ seat
          → IsSpent (mask_contains members (place + 1)) over token side.wire r
      by_seat None seated = absurd (pair_at change members entries slot k.in_step place None (Some side) seated there)
      by_seat (Some seat) seated =
          (some_is r (IsAborted (mask_contains members (place + 1)) over v token seat side) (slice_get devices place) here
          (each_pair.known_at Pair change members entries slot k.in_step all place seat side seated there)).spent

  -- the confirmed commit is sent only to a device of the change set, and before the verdict
  pub sent_aborts : over ≡ false → (plan : ChangePlan) (device : ℕ) (what : Ask) → next_action slot.course ≡ Send device what
      → Known (sends plan entries slot device what).slot
  sent_aborts unended plan device what next =
      sent_pairs Pair change members entries slot k.in_step all device what
      (λ a side pair request is goes.
      lift members over token devices (device - 1) v v a.seat (asked_next v a.seat) side
      (with_wire side (gone (opens (asked_in_fact side.resync what)) side.wire request))
      (λ r found one.
      turned_aborted (mask_contains members (device - 1 + 1)) over v token a.seat side r one (asked_next v a.seat) refl
      (opens (asked_in_fact side.resync what)) request goes (sym pair.seated.member ∙ a.member) (λ none. unended)
      (λ verdict_now e.
      ap (λ q. same_ask q ask.CommitConfirmed) is
      ∙ decided_brings verdict_now a.seat.stage what side.resync (subst (λ d. next_ask d a.seat.stage ≡ Some what) e a.next)))) plan next

  pub renewed_aborts : (plan : ChangePlan) (device : ℕ) → Known (renews plan entries slot device).slot
  renewed_aborts plan device =
      renewed_pairs Pair change members entries slot k.in_step all device
      (λ seat side pair request is goes.
      lift members over token devices (device - 1) v v seat (renewed seat) side (with_wire side (gone false side.wire request))
      (λ r found one.
      plainly_out (mask_contains members (device - 1 + 1)) over v token seat side r one (renewed seat) refl false request goes
      (ap (λ q. same_ask q ask.CommitConfirmed) is))) plan

  pub broken_aborts : (device : ℕ) → Known (breaks slot device).slot
  broken_aborts device =
      broken_pairs Pair change members entries slot k.in_step all device
      (λ seat side pair.
      lift members over token devices (device - 1) v v seat (record seat { stage = broken_stage seat.stage; awaited = None }) side
      (cut_off (to_commit v) side)
      (λ r found one. broken_aborted (mask_contains members (device - 1 + 1)) over v token seat side r one (to_commit v)))

  pub received_aborts : (device link number : ℕ) → Known (receives slot device link number).slot
  received_aborts device link number =
      received_pairs Pair change members entries slot k.in_step all device link number
      (λ seat side pair exchange due what awaited plain.
      lift members over token devices (device - 1) v v seat (record seat { stage = learnt v seat.stage what exchange.reply; awaited = None }) side
      (record { wire = handled_at side.wire link (Some exchange); resync = side.resync })
      (λ r found one.
      handled_aborted (mask_contains members (device - 1 + 1)) over v token seat side r one pair.goes
      (pair_there (device - 1) seat side r pair.here pair.there found).first link exchange due what awaited plain))
      (λ seat side pair exchange due awaited.
      lift members over token devices (device - 1) v v seat
      (record seat { stage = found_stage (settled_in (resync_learnt side.resync.commit side.resync.stage exchange.reply)); awaited = None }) side
      (record { wire = handled_at side.wire link (Some exchange); resync = resync.with_reply side.resync exchange.reply })
      (λ r found one.
      resynced_aborted (mask_contains members (device - 1 + 1)) over v token seat side r one pair.goes
      (pair_there (device - 1) seat side r pair.here pair.there found).first link exchange due awaited))

  -- ---- the verdict falls

  pub decided_aborts : v ≡ None → verdict_in change entries ≡ None → (now : Verdict) → Known (decided slot now)
  decided_aborts undecided none now =
      decided_pairs Pair slot now v
      (λ place seat side seated there.
      lift members over token devices place v (Some now) seat (decided_seat now seat) side (anew (is_commit now) side)
      (λ r here one.
      let pair : PairHolds change (verdict_in change entries) seat side.wire r = pair_there place seat side r seated there here in
      decided_aborted (mask_contains members (place + 1)) over token seat side r
      (subst (λ d. GoesWith d seat side) undecided (goes_at place seat side seated there).1) pair.first (outcome_of token r.history)
      (pair.undecided none) one.spent now)) all

  -- ---- memory is lost

  cut_pair : (place : ℕ) (found : Option Verdict) (commit : Bool) (seat : Seat) (side : SideState) → slice_get slot.sides place ≡ Some side
      → (to_abort found ≡ true → seat.stage ≡ Resync) → AbortedPair members over token devices place found seat (cut_off commit side)
  cut_pair place found commit seat side there dead =
      to_some (IsAborted (mask_contains members (place + 1)) over found token seat (cut_off commit side)) (slice_get devices place)
      (λ r here. cut_aborted (mask_contains members (place + 1)) over found token seat commit side r dead (spent_at place side r there here))

  pub forgotten_aborts : (found : Option Verdict) → Known (lost_memory slot members found)
  forgotten_aborts found =
      forgotten_pairs Pair slot members found (λ place seat side stage there. cut_pair place found (to_commit found) seat side there (λ aborts. stage))

  pub anew_aborts : Known (starts_anew entries change members slot)
  anew_aborts =
      anew_pairs Pair slot entries change members
      (λ place seat side stage there.
      cut_pair place (verdict_in change entries) (to_commit (verdict_in change entries)) seat side there (λ aborts. stage))
      (λ place seat side stage there.
      cut_pair place None (to_commit (verdict_in change entries)) seat side there (λ aborts. absurd (let g : false ≡ true = aborts in cc)))

  -- ---- it ends

  module _ (kept : DeviceMask) (ends : next_action slot.course ≡ Finish kept) (aborts : to_abort v ≡ true) where
    -- all devices of the change set are settled, and to others nothing was sent
    gone_at : (place : ℕ) (seat : Seat) (side : SideState) (r : RecordedState Config Node) → slice_get slot.course.seats place ≡ Some seat
        → slice_get slot.sides place ≡ Some side → slice_get devices place ≡ Some r
        → IsAborted (mask_contains members (place + 1)) over v token seat side r → IsGone token (first_link side.wire) r
    gone_at place seat side r seated there here a = by_member (mask_contains members (place + 1)) refl
      where
        by_member : (b : Bool) → mask_contains members (place + 1) ≡ b → IsGone token (first_link side.wire) r
        by_member true e =
            (a.told aborts).known
            (settled_known seat.stage side.resync.stage
            (listed (λ one. one.is_member ≡ true → is_settled one.stage ≡ true) slot.course.seats
            ((acts change members entries slot k.in_step).finishes kept ends).settled place seat seated
            ((goes_at place seat side seated there).0.member ∙ e)))
        by_member false e = unsent_gone token r (first_link side.wire) (pair_there place seat side r seated there here).first (a.spent.stranger e)

    pub ended_aborts : (now : Bool) → AllAborted members now token devices slot
    ended_aborts now =
        pairs_map Pair (AbortedPair members now token devices) v v slot
        (λ place seat side seated there.
        if_there (IsAborted (mask_contains members (place + 1)) over v token seat side)
        (IsAborted (mask_contains members (place + 1)) now v token seat side) (slice_get devices place)
        (λ r here a.
        let spent : IsSpent (mask_contains members (place + 1)) now token side.wire r =
        record { stranger = a.spent.stranger; ended = λ e. gone_at place seat side r seated there here a } in
        record { spent = spent; told = a.told })) all

-- ---- nothing but the end of the change set, sides of links end, and devices go on

module _ {Config Node : Type 0} (members : ℕ) (over : Bool) (token : List ℕ) (devices : List (RecordedState Config Node)) (slot : SlotState)
    (all : AllAborted members over token devices slot) where
  abbrev verdict_now : Option Verdict
  verdict_now = slot.course.verdict

  pub less_aborts : (now : Bool) → (now ≡ true → over ≡ true) → AllAborted members now token devices slot
  less_aborts now less =
      pairs_map (AbortedPair members over token devices) (AbortedPair members now token devices) verdict_now verdict_now slot
      (λ place seat side seated there.
      if_there (IsAborted (mask_contains members (place + 1)) over verdict_now token seat side)
      (IsAborted (mask_contains members (place + 1)) now verdict_now token seat side) (slice_get devices place)
      (λ r here a.
      let spent : IsSpent (mask_contains members (place + 1)) now token side.wire r =
      record { stranger = a.spent.stranger; ended = λ e. a.spent.ended (less e) } in
      record { spent = spent; told = a.told })) all

  pub lost_aborts : (device link : ℕ) → AllAborted members over token devices (wires_on (lost_wire link) slot device (slice_get slot.sides (device - 1)))
  lost_aborts device link =
      wires_pairs (AbortedPair members over token devices) slot all (lost_wire link) device
      (λ seat side.
      lift members over token devices (device - 1) verdict_now verdict_now seat seat side (with_wire side (lost_wire link side.wire))
      (λ r found one. closed_aborted (mask_contains members (device - 1 + 1)) over verdict_now token seat side r one link))

  pub restarted_aborts : (device : ℕ) → AllAborted members over token devices (wires_on restarted slot device (slice_get slot.sides (device - 1)))
  restarted_aborts device =
      wires_pairs (AbortedPair members over token devices) slot all restarted device
      (λ seat side.
      lift members over token devices (device - 1) verdict_now verdict_now seat seat side (with_wire side (restarted side.wire))
      (λ r found one. restarted_aborted (mask_contains members (device - 1 + 1)) over verdict_now token seat side r one))

  module _ (d : ℕ) (r now : RecordedState Config Node) (here : slice_get devices d ≡ Some r) where
    abbrev new_devices : List (RecordedState Config Node)
    new_devices = slice_set devices d now

    abbrev Here : ℕ → Seat → SideState → RecordedState Config Node → Type 0
    Here place seat side one = IsAborted (mask_contains members (place + 1)) over verdict_now token seat side one

    -- what is so of the device, where it is there, and of any other
    abbrev StaysAt : ℕ → Option (RecordedState Config Node) → Type 0
    StaysAt place o = (seat : Seat) (side : SideState) → slice_get slot.sides place ≡ Some side
        → IfSome (slice_get devices place) (Here place seat side) → IfSome o (Here place seat side)

    -- the links are as they were
    pub moved_aborts : ((side : SideState) → slice_get slot.sides d ≡ Some side → IsGone token (first_link side.wire) r
        → IsGone token (first_link side.wire) now) → AllAborted members over token new_devices slot
    moved_aborts step =
        pairs_map (AbortedPair members over token devices) (AbortedPair members over token new_devices) verdict_now verdict_now slot
        (λ place seat side seated there.
        others_stay StaysAt devices d r now here
        (λ seat side there known.
        aborted_passes (mask_contains members (d + 1)) over token verdict_now seat seat refl side side.wire r now
        (moved_passes token r side.wire now (step side there)) (some_is r (Here d seat side) (slice_get devices d) here known))
        (λ j ne seat side there known. known) place seat side there) all

    module _ (side : SideState) (there : slice_get slot.sides d ≡ Some side) (after : WireState) (passes : Passes token side.wire after r now) where
      told_at : (seat : Option Seat) → PairAt (AbortedPair members over token devices) d verdict_now seat (Some side)
          → PairAt (AbortedPair members over token new_devices) d verdict_now seat (Some (with_wire side after))
      told_at None known = tt
      told_at (Some seat) known =
          subst (λ o. IfSome o (Here d seat (with_wire side after))) (sym (set_there devices d r now here))
          (aborted_passes (mask_contains members (d + 1)) over token verdict_now seat seat refl side after r now passes
          (some_is r (Here d seat side) (slice_get devices d) here known))

      other_at : (j : ℕ) → (j ≡ d → ⊥) → (seat : Option Seat) (one : Option SideState)
          → PairAt (AbortedPair members over token devices) j verdict_now seat one → PairAt (AbortedPair members over token new_devices) j verdict_now seat one
      other_at j ne None one known = tt
      other_at j ne (Some seat) None known = tt
      other_at j ne (Some seat) (Some one) known = subst (λ o. IfSome o (Here j seat one)) (sym (set_other devices d j now ne)) known

      -- one of them is told
      pub told_aborts : AllAborted members over token new_devices (record { course = slot.course; sides = slice_set slot.sides d (with_wire side after) })
      told_aborts =
          others_stay (λ j o. PairAt (AbortedPair members over token new_devices) j verdict_now (slice_get slot.course.seats j) o) slot.sides d side
          (with_wire side after) there
          (told_at (slice_get slot.course.seats d)
          (subst (PairAt (AbortedPair members over token devices) d verdict_now (slice_get slot.course.seats d)) there (all d)))
          (λ j ne. other_at j ne (slice_get slot.course.seats j) (slice_get slot.sides j) (all j))
