-- What is known of all devices of a change set, where a device does what one of its links asks.
use Rattle.std.proofs.Common.{◌≡◌, ◌∙◌, ℕ, suc, ◌+◌, ◌-◌, Bool, true, false, List, Option, Some, None, IfSome, is_some, option_and_then, slice_get, refl, sym, ap, subst, arith}
use Rattle.nm_base.specs.Mask.{mask_contains}
use Rattle.nm_base.specs.Token.{token_of}
use Rattle.nm_proto.specs.declared.message.Request.{Request}
use Rattle.nm_proto.specs.declared.message.Request.TheVariants.{OpenSession}
use Rattle.nm_proto.specs.declared.message.Reply.{Reply}
use Rattle.nm_proto.specs.declared.journal.Verdict.TheVariants as verdict
use Rattle.nm_proto.specs.Content.{Meaning, Laws}
use Rattle.nm_proto.specs.Plan.{devices_in}
use Rattle.nm_history.specs.declared.event.DeviceEvent.{DeviceEvent}
use Rattle.nm_history.specs.declared.event.DeviceEvent.TheVariants.{Entered, Asked}
use Rattle.nm_history.specs.declared.outcome.Outcome.{Outcome}
use Rattle.nm_history.specs.Outcome.{is_final, outcome_of}
use Rattle.nm_history.specs.History.{RecordedState}
use Rattle.nm_recovery.specs.Recovery.{is_ended_in, verdict_in}
use Rattle.nm_decider.specs.declared.seat.Seat.{Seat}
use Rattle.nm_wire.specs.declared.link.Exchange.{Exchange}
use Rattle.nm_wire.specs.declared.link.Way.TheVariants as way
use Rattle.nm_wire.specs.Asks.{ask_of}
use Rattle.nm_wire.specs.Link.{LinkState, asked_on, session_of, told_by, told_on, told_on_way}
use Rattle.nm_wire.specs.Wire.{WireState, link_at, outstanding_at, told}
use Rattle.nm_manager.specs.Slot.{SideState, to_commit, with_wire}
use Rattle.nm_safety.specs.Keeping.{Delivery, IsDone, device_then, devices_then, slot_then, world_then}
use Rattle.nm_safety.specs.Pairs.{AllPairs, PairAt}
use Rattle.nm_safety.specs.Step.{current_told, way_told}
use Rattle.nm_safety.proofs.Answered.{out_way}
use Rattle.nm_safety.proofs.Current.{CurrentPair, OfCurrent, side_current}
use Rattle.nm_safety.proofs.Entries.{ready_is_open}
use Rattle.nm_safety.proofs.Lists.{some_is, to_some}
use Rattle.nm_safety.proofs.Managed.{others_stay}
use Rattle.nm_safety.proofs.PairSteps.{pair_at}
use Rattle.nm_safety.proofs.SlotLinks.{links_at}
use Rattle.nm_safety.proofs.Wires.{changed_current, current_changed, set_there}
use Rattle.nm_world.specs.World.{Setting, WorldState}
use Rattle.nm_commit_laws.specs.Marks.{ArePlain, AreUnmarked}
use Rattle.nm_outcome_laws.specs.RecordsSupport.{AllKnown, AsksOwn, IsKnown, IsOwnMark, IsRecorded, IsTold, KnownPair, OwnLink, outcome_in, outcomes_at, reply_tells, wants_mark}
use Rattle.nm_outcome_laws.proofs.records.Course.{is_to_commit}
use Rattle.nm_outcome_laws.proofs.records.Later.{all_later, outcomes_later}
use Rattle.nm_outcome_laws.proofs.records.Marks.{told_links_own}
use Rattle.nm_outcome_laws.proofs.records.Passing.{HasRun}
use Rattle.nm_outcome_laws.proofs.records.Said.{current, managed, said_now, same_number}
use Rattle.nm_outcome_laws.proofs.records.Slots.{known_at}
use Rattle.nm_outcome_laws.proofs.records.Telling.{IsSaidAt, asked_tells}

-- ---- what is told on the current link

way_now : (reply : Reply) (link : LinkState) (request : Request) → link.way ≡ way.Asked request
    → told_on_way (told_on reply link).way ≡ Some (record { request = request; reply = reply })
way_now reply link request e = ap (λ w. told_on_way (told_by reply link w).way) e

module _ (T : Exchange → Type 0) where
  abbrev Stays : Option LinkState → Option LinkState → Type 0
  Stays before now = IfSome (option_and_then way_told before) T → IfSome (option_and_then way_told now) T

  -- it is what was told before, or the reply that comes now
  told_there : (wire : WireState) (number : ℕ) (request : Request) (reply : Reply) → outstanding_at wire number ≡ Some request
      → T (record { request = request; reply = reply }) → IfSome (current_told wire) T → IfSome (current_told (told wire number reply)) T
  told_there wire number request reply out new =
      current_changed Stays (λ o h. h) (told_on reply) wire number (link_at wire number) refl
      (to_some (λ link. Stays (Some link) (Some (told_on reply link))) (link_at wire number)
      (λ link here h.
      subst (λ found. IfSome found T) (sym (way_now reply link request (out_way (link_at wire number) link request here out))) new))

  -- where no link is current nothing is
  none_current : (wire : WireState) (number : ℕ) (reply : Reply) → wire.current ≡ None → IfSome (current_told (told wire number reply)) T
  none_current wire number reply none =
      subst (λ current. IfSome (option_and_then way_told (option_and_then (link_at (told wire number reply)) current)) T)
      (sym (changed_current (told_on reply) wire number (link_at wire number) ∙ none)) tt

module _ {Config TheEdit Node : Type 0} (m : Meaning Config TheEdit Node) (laws : Laws m) (setting : Setting TheEdit) (running : List Config)
    (plain : ArePlain m setting) (unmarked : AreUnmarked m running) where
  abbrev Ran : WorldState Config Node → Type 0
  Ran = HasRun m setting running

  module _ (x : Delivery m setting Ran) (c : IsRecorded x.change x.w.devices x.slot) where
    abbrev d : ℕ
    d = x.device - 1

    abbrev members : ℕ
    members = devices_in x.plan.edits

    currents : AllPairs (CurrentPair x.change x.w.entries) x.slot.course.verdict x.slot
    currents =
        subst (λ number. AllPairs (CurrentPair number x.w.entries) x.slot.course.verdict x.slot) (same_number x.change x.numbered)
        (some_is x.slot (OfCurrent (suc (x.change - 1)) x.plan x.w.entries x.w.devices) (slice_get x.w.slots (x.change - 1)) x.there
        ((current m laws setting running x.w x.before).slots (x.change - 1) x.plan x.planned))

    -- a link that is current is of a change set that isn't ended
    not_ended : (number : ℕ) → x.side.wire.current ≡ Some number → is_ended_in x.change x.w.entries ≡ false
    not_ended number at =
        ready_is_open x.w.entries x.change
        (side_current x.change members x.w.entries x.slot x.kept.in_step currents d x.side x.at_side (ap is_some at)).1

    -- ---- a device does it

    module _ {event : DeviceEvent} (done : IsDone m setting Ran x event)
        (later : Ran (world_then m setting Ran x done)) where
      abbrev after : RecordedState Config Node
      after = device_then m setting Ran x done

      abbrev told_side : SideState
      told_side = with_wire x.side (told x.side.wire x.link done.reply)

      abbrev o : Outcome
      o = outcome_of (token_of x.change) after.history

      abbrev O : ℕ → Option Outcome
      O = outcomes_at x.change (devices_then m setting Ran x done)

      outcome_there : O d ≡ Some o
      outcome_there = ap (outcome_in x.change) (set_there x.w.devices d x.r after x.here)

      known_later : AllKnown O x.slot
      known_later =
          all_later (outcomes_at x.change x.w.devices) O (outcomes_later x.change x.w.devices d x.r x.here event done.h) x.slot c.known

      -- its reply tells what is so, where the change set is to be committed
      module _ (tells : (wants : Bool) → (wants ≡ true → is_final o ≡ true) → IsSaidAt m x.change x.r after
          → reply_tells wants (ask_of x.request) done.reply o ≡ true) where
        module _ (seat : Seat) (seated : slice_get x.slot.course.seats d ≡ Some seat) (commits : to_commit x.slot.course.verdict ≡ true)
            (member : seat.is_member ≡ true) (k : IsTold seat x.side o) where
          abbrev wants : Bool
          wants = wants_mark seat.stage x.side.resync.stage

          abbrev T : Exchange → Type 0
          T exchange = reply_tells wants (ask_of exchange.request) exchange.reply o ≡ true

          in_mask : mask_contains members (suc d) ≡ true
          in_mask =
              let next : d + 1 ≡ suc d = omega arith in
              sym (ap (mask_contains members) next)
              ∙ sym (pair_at x.change members x.w.entries x.slot x.kept.in_step d (Some seat) (Some x.side) seated x.at_side).0.member ∙ member

          told_by_current : (current : Option ℕ) → x.side.wire.current ≡ current → IfSome (current_told (told x.side.wire x.link done.reply)) T
          told_by_current None e = none_current T x.side.wire x.link done.reply e
          told_by_current (Some number) e =
              let unended : is_ended_in x.change x.w.entries ≡ false = not_ended number e in
              let decided : verdict_in x.change x.w.entries ≡ Some verdict.Commit =
              sym (x.kept.in_step.decided unended) ∙ is_to_commit x.slot.course.verdict commits in
              told_there T x.side.wire x.link x.request done.reply x.out
              (tells wants k.gone (said_now m laws setting running x done later plain unmarked unended decided in_mask)) k.told

          told_now : IsTold seat told_side o
          told_now = record { acked = k.acked; known = k.known; gone = k.gone; told = told_by_current x.side.wire.current refl }

        at_seat : (seat : Option Seat) → slice_get x.slot.course.seats d ≡ seat → PairAt (KnownPair O) d x.slot.course.verdict seat (Some told_side)
        at_seat None seated = tt
        at_seat (Some seat) seated =
            let before : IsKnown x.slot.course.verdict seat x.side (Some o) =
            subst (IsKnown x.slot.course.verdict seat x.side) outcome_there
            (known_at O x.change members x.w.entries x.slot x.kept.in_step known_later d seat x.side seated x.at_side) in
            subst (IsKnown x.slot.course.verdict seat told_side) (sym outcome_there)
            (λ commits member. told_now seat seated commits member (before commits member))

        told_recorded : IsRecorded x.change (devices_then m setting Ran x done) (slot_then m setting Ran x done)
        told_recorded = record {
          own = told_links_own x.change x.slot c.own x.device x.link done.reply x.side x.at_side;
          known =
              others_stay (λ j one. PairAt (KnownPair O) j x.slot.course.verdict (slice_get x.slot.course.seats j) one) x.slot.sides d x.side
              told_side x.at_side (at_seat (slice_get x.slot.course.seats d) refl) (λ j ne. known_later j);
        }

    -- ---- a session asks

    module _ (u : ℕ) (session : session_of x.one ≡ Some u) (done : IsDone m setting Ran x (Asked u x.request))
        (later : Ran (world_then m setting Ran x done)) where
      own_mark : IsOwnMark x.change x.request
      own_mark =
          subst (λ found. IfSome found (IsOwnMark x.change)) (ap asked_on x.way)
          (some_is x.one (AsksOwn x.change) (slice_get x.side.wire.links (x.link - 1)) x.at_place
          (links_at (OwnLink x.change) x.slot c.own d x.side x.at_side (x.link - 1)))

      pub asked_recorded : IsRecorded x.change (devices_then m setting Ran x done) (slot_then m setting Ran x done)
      asked_recorded =
          told_recorded done later
          (λ wants over says.
          asked_tells m laws setting x.change u x.r x.request done.h done.happens done.reply done.replies done.answer
          (managed m laws setting running x u session done) x.ours wants says over own_mark)

    -- ---- a session is asked for, and nothing is told of the change set

    module _ (user : List ℕ) (opening : x.request ≡ OpenSession user) (done : IsDone m setting Ran x (Entered user))
        (later : Ran (world_then m setting Ran x done)) where
      pub opened_recorded : IsRecorded x.change (devices_then m setting Ran x done) (slot_then m setting Ran x done)
      opened_recorded =
          told_recorded done later
          (λ wants over says.
          ap (λ q. reply_tells wants (ask_of q) done.reply (outcome_of (token_of x.change) (device_then m setting Ran x done).history))
          opening)
