-- What is owed of change sets that are able to go on at each kind of step.
use Rattle.std.proofs.Common.{◌≡◌, ◌∙◌, ℕ, suc, ◌-◌, ◌≤◌, length, true, false, List, Some, IfSome, is_some, slice_get, refl, sym, subst, arith}
use Rattle.nm_proto.specs.declared.plan.ChangePlan.{ChangePlan}
use Rattle.nm_proto.specs.Content.{Meaning, Laws}
use Rattle.nm_proto.specs.Plan.{devices_in}
use Rattle.nm_history.specs.declared.event.DeviceEvent.{DeviceEvent}
use Rattle.nm_recovery.specs.Recovery.{verdict_in}
use Rattle.nm_wire.specs.Link.{session_of}
use Rattle.nm_wire.specs.Wire.{restarted}
use Rattle.nm_manager.specs.Slot.{SlotState, lost_wire, side_at, told_wire, wires_on, restarted_slot}
use Rattle.nm_manager.specs.Manager.{ManagerState}
use Rattle.nm_world.specs.World.{Setting, CoreState, WorldState, core_of, world_step}
use Rattle.nm_safety.specs.Keeping.{AreKept, Delivery, IsComing, IsDone, KeepsBy, OfSlot, Site, device_then, slot_then}
use Rattle.nm_safety.specs.Support.{IsSupported}
use Rattle.nm_safety.proofs.Facts.{SupportedIn}
use Rattle.nm_safety.proofs.Keeping.{slot_there, In, cases}
use Rattle.nm_safety.proofs.Lists.{to_some, down, some_is}
use Rattle.nm_safety.proofs.Tickets.{AreTickets}
use Rattle.nm_rest_laws.specs.Steady.{IsAble, IsSteady}
use Rattle.nm_rest_laws.proofs.rest.Able.{sent_able, renewed_able, received_able, broken_able, decided_able, lost_able, anew_able, GoesOn}
use Rattle.nm_rest_laws.proofs.rest.Holding.{wires_able}
use Rattle.nm_rest_laws.proofs.rest.Serving.{IsReplied, asked_so, entered_so}
use Rattle.nm_rest_laws.proofs.rest.Wires.{told_steady, lost_steady, restarted_steady}
use Rattle.std.specs.List.{All}
use Rattle.nm_device.specs.Device.{is_manager}
use Rattle.nm_proto.specs.declared.plan.Event.{Event}
use Rattle.nm_manager.specs.Queues.{is_ready_in}
use Rattle.nm_safety.specs.Safe.{IsGiven}
use Rattle.nm_safety.proofs.Cases.{comes}
use Rattle.nm_safety.proofs.Current.{OfCurrent, OfNone, side_current}
use Rattle.nm_safety.proofs.Managed.{kept_here}

-- what every run keeps of the manager
pub record IsGoing (plans : List ChangePlan) (state : ManagerState) : Type 0 where
  pub slots : (place : ℕ) → IfSome (slice_get state.slots place) (IsAble (suc place) state.entries)
  pub tickets : AreTickets plans state.entries

-- of a change set; of a device by itself nothing is said
abbrev pub OfGoing : {Config Node : Type 0} → OfSlot Config Node
OfGoing change plan entries devices slot = GoesOn slot

module _ {Config TheEdit Node : Type 0} (m : Meaning Config TheEdit Node) (setting : Setting TheEdit) where
  abbrev Known : WorldState Config Node → Type 0
  Known w = SupportedIn m setting w

  abbrev members : Site m setting Known → ℕ
  members x = devices_in x.plan.edits

  -- ---- a device's side

  closed_able : (slot : SlotState) (device link : ℕ) → GoesOn slot → GoesOn (wires_on (lost_wire link) slot device (slice_get slot.sides (device - 1)))
  closed_able slot device link a =
      wires_able (lost_wire link) device slot a (slice_get slot.sides (device - 1)) refl
      (to_some (λ side. IsSteady side.wire → IsSteady (lost_wire link side.wire)) (slice_get slot.sides (device - 1)) (λ side at. lost_steady side.wire link))

  restarted_able : (slot : SlotState) (device : ℕ) → GoesOn slot → GoesOn (restarted_slot device slot)
  restarted_able slot device a =
      wires_able restarted device slot a (side_at slot device) refl
      (to_some (λ side. IsSteady side.wire → IsSteady (restarted side.wire)) (side_at slot device) (λ side at. restarted_steady side.wire))

  told_able : (x : Delivery m setting Known) {event : DeviceEvent} (done : IsDone m setting Known x event)
      → IsReplied x.r (session_of x.one) x.request done.reply (device_then m setting Known x done) → GoesOn x.slot → GoesOn (slot_then m setting Known x done)
  told_able x done replied a =
      wires_able (told_wire x.link done.reply) x.device x.slot a (Some x.side) x.at_side
      (told_steady x.request done.reply replied.given replied.shuts x.side.wire x.link x.out)

  -- ---- each kind of step

  going_keeps : KeepsBy m setting Known OfGoing OfNone (IsComing m setting Known)
  going_keeps = record {
    entered = λ x entry plain coming a. a;
    decides_on = λ x v ready acts may a. decided_able x.change (members x) x.w.entries x.slot a x.kept.in_step v acts;
    sent = λ x device what ready acts a. sent_able x.change (members x) x.w.entries x.slot a x.kept.in_step x.plan device what acts;
    renewed = λ x device known ready a. renewed_able x.change (members x) x.w.entries x.slot a x.kept.in_step x.plan device;
    heard = λ x device link number known a. received_able x.change (members x) x.w.entries x.slot a x.kept.in_step device link number;
    broken = λ x device known a. broken_able x.change (members x) x.w.entries x.slot a x.kept.in_step device;
    forgotten = λ x begun going a.
        lost_able x.change (members x) x.w.entries x.slot a x.kept.in_step (members x) (verdict_in x.change x.w.entries);
    anew = λ x a. anew_able x.change (members x) x.w.entries x.slot a x.kept.in_step (members x);
    closed = λ change plan entries devices slot device link a. closed_able slot device link a;
    restarted = λ change plan entries devices slot device a. restarted_able slot device a;
    aside = λ x d r here known event h happens others a. a;
    told = λ x plain session is done later a k.
        told_able x done
        (asked_so m setting.tables x.r x.known.numbered (session_of x.one) done.h done.reply done.replies session is x.request plain done.happens) a;
    told_opened = λ x user opening done later a k.
        told_able x done
        (subst (λ request. IsReplied x.r (session_of x.one) request done.reply (device_then m setting Known x done)) (sym opening)
        (entered_so m setting.tables x.r x.known.numbered (session_of x.one) done.h done.reply done.replies user done.happens)) a;
    entered_beside = λ w b entry may place r here k. k;
    asked_by_link = λ x plain session is done later a k. k;
    opened_by_link = λ x user opening done later a k. k;
    asked_by_operator = λ w b place r here session opened stranger request h happens k. k;
    opened_by_operator = λ w b place r here user stranger h happens k. k;
    silent = λ w b place r here event silent h happens k. k;
  }

  -- ---- to the world, and from it

  module _ (w : CoreState Config Node) (s : IsSupported m setting w) where
    going_of : ((place : ℕ) → IfSome (slice_get w.slots place) (IsAble (suc place) w.entries)) → AreKept setting OfGoing OfNone w
    going_of able = record {
      slots = λ place plan planned.
          to_some GoesOn (slice_get w.slots place)
          (λ slot there.
          let a : IsAble (suc place) w.entries slot = some_is slot (IsAble (suc place) w.entries) (slice_get w.slots place) there (able place) in
          record { course = a.course; wires = a.wires });
      devices = λ place. to_some (OfNone w.entries place) (slice_get w.devices place) (λ r here. tt);
    }

    module _ (place : ℕ) (slot : SlotState) (there : slice_get w.slots place ≡ Some slot) (current : AreKept setting OfCurrent OfNone w) where
      able_there : (plan : ChangePlan) → slice_get setting.plans place ≡ Some plan → GoesOn slot → IsAble (suc place) w.entries slot
      able_there plan planned a =
          let kept = kept_here m setting w s (suc place) (omega arith) plan slot (down setting.plans place ∙ planned) (down w.slots place ∙ there) in
          let all = some_is slot (OfCurrent (suc place) plan w.entries w.devices) (slice_get w.slots place) there (current.slots place plan planned) in
          record {
            course = a.course;
            wires = a.wires;
            ready = λ j.
                to_some (λ side. is_some side.wire.current ≡ true → is_ready_in w.entries (suc place) ≡ true) (slice_get slot.sides j)
                (λ side at is. (side_current (suc place) (devices_in plan.edits) w.entries slot kept.in_step all j side at is).1);
          }

    able_of : AreKept setting OfCurrent OfNone w → AreKept setting OfGoing OfNone w → (place : ℕ) → IfSome (slice_get w.slots place) (IsAble (suc place) w.entries)
    able_of current going place =
        to_some (IsAble (suc place) w.entries) (slice_get w.slots place)
        (λ slot there.
        slot_there m setting OfGoing OfNone w s going place slot there (IsAble (suc place) w.entries slot) (λ plan planned a. able_there place slot there current plan planned a))

  -- ---- each event

  module _ (laws : Laws m) (edits : All m.edit_belongs setting.tables.edits) (few : length setting.plans ≤ 64)
      (strangers : (number : ℕ) → IfSome (slice_get setting.users number) (λ user. is_manager (Some user) ≡ false)) where
    -- each change set stays able to go on
    pub one_able : (w : WorldState Config Node) (event : Event) → IsGiven setting event → IsSupported m setting (core_of w)
        → IsSupported m setting (core_of (world_step m setting w event)) → AreKept setting OfCurrent OfNone (core_of (world_step m setting w event))
        → ((place : ℕ) → IfSome (slice_get w.slots place) (IsAble (suc place) w.entries))
        → (place : ℕ) → IfSome (slice_get (world_step m setting w event).slots place) (IsAble (suc place) (world_step m setting w event).entries)
    one_able w event given s later current able =
        able_of (core_of (world_step m setting w event)) later current
        (comes m setting (core_of w)
        (In m laws setting edits few strangers Known (λ v b. b) OfGoing OfNone (IsComing m setting Known) (λ x entry is. is) going_keeps w s (going_of (core_of w) s able))
        (cases m laws setting edits few strangers Known (λ v b. b) OfGoing OfNone (IsComing m setting Known) (λ x entry is. is) going_keeps w s (going_of (core_of w) s able))
        event given later)
