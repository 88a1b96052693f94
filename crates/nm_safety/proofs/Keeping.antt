-- What is owed at each kind of step for each change set and each device is owed at every event for all of them.
use Rattle.std.proofs.Common.{ℕ, ◌≡◌, ◌∙◌, zero, suc, ◌+◌, ◌-◌, ◌≤◌, Bool, true, false, List, [], ◌∷◌, ◌++◌, length, Option, Some, None, IfSome, option_map, slice_get, slice_set, refl, sym, ap, subst, arith}
use Rattle.std.specs.List.{All}
use Rattle.std.proofs.lemmas.Option.{none-some, same_Some, slice_get-map}
use Rattle.nm_base.specs.declared.mask.DeviceMask.{DeviceMask}
use Rattle.nm_proto.specs.declared.message.Request.{Request}
use Rattle.nm_proto.specs.declared.message.Request.TheVariants.{OpenSession}
use Rattle.nm_proto.specs.declared.journal.Entry.{Entry}
use Rattle.nm_proto.specs.declared.journal.Entry.TheVariants.{Decided, Ended}
use Rattle.nm_proto.specs.declared.plan.ChangePlan.{ChangePlan}
use Rattle.nm_proto.specs.declared.plan.Event.{Event}
use Rattle.nm_proto.specs.Content.{Meaning, Laws}
use Rattle.nm_proto.specs.Plan.{devices_in}
use Rattle.nm_journal.specs.Entries.{decides, may_follow}
use Rattle.nm_device.specs.Device.{is_manager}
use Rattle.nm_history.specs.declared.event.DeviceEvent.{DeviceEvent}
use Rattle.nm_history.specs.declared.event.DeviceEvent.TheVariants.{Entered, Asked, Lost, Advanced, Restarted}
use Rattle.nm_history.specs.History.{Happened, RecordedState, advancing, recorded_with, restarting}
use Rattle.nm_device_laws.specs.Moment.{Happens}
use Rattle.nm_decider.specs.declared.course.NextAction.TheVariants.{Finish}
use Rattle.nm_decider.specs.Course.{next_action}
use Rattle.nm_wire.specs.Wire.{outstanding_at}
use Rattle.nm_manager.specs.Queues.{is_ready_in}
use Rattle.nm_manager.specs.Slot.{SlotState, breaks, decided, lost_memory, lost_wire, receives, renews, restarted_slot, sends, wires_on}
use Rattle.nm_manager.specs.Manager.{start_anew, start_of, starts_anew}
use Rattle.nm_world.specs.World.{Setting, CoreState, WorldState, Came, passed, run, core_of, world_step}
use Rattle.nm_world.proofs.Passing.{is_round}
use Rattle.nm_safety.specs.Safe.{IsGiven, AreGiven}
use Rattle.nm_safety.specs.Support.{IsDevice, IsSupported, KeptAt}
use Rattle.nm_safety.specs.Cases.{Cases, IsLink, IsSlot}
use Rattle.nm_safety.specs.Keeping.{AreKept, Both, Delivery, IsComing, IsDone, IsOthers, Keeps, KeepsBy, MayCome, OfDevice, OfSlot, Site}
use Rattle.nm_safety.proofs.Steps.{run_keeps_each}
use Rattle.nm_safety.proofs.Cases.{comes}
use Rattle.nm_safety.proofs.Lists.{at_set, some_is, to_some}
use Rattle.nm_safety.proofs.Managed.{not_same, others_stay, planned_by}
use Rattle.nm_safety.proofs.Facts.{asked_done, asked_others, delivery, entered_done, entered_others, not_managed, silent_others, site}

some_map : {A : Type 0} (f : A → A) (P : A → Type 0) (found : Option A) → ((x : A) → found ≡ Some x → P (f x)) → IfSome (option_map f found) P
some_map f P None step = tt
some_map f P (Some x) step = step x refl

-- the manager starts anew with each change set
anew_at : (entries : List Entry) (base : ℕ) (plans : List ChangePlan) (slots : List SlotState) (place : ℕ) (plan : ChangePlan) → slice_get plans place ≡ Some plan
    → slice_get (start_anew entries base plans slots) place ≡ option_map (starts_anew entries (base + place) (devices_in plan.edits)) (slice_get slots place)
anew_at entries base [] slots place plan planned = absurd (none-some plan planned)
anew_at entries base (one ∷ plans) [] place plan planned = refl
anew_at entries base (one ∷ plans) (slot ∷ slots) zero plan planned =
    let same : one ≡ plan = same_Some one plan planned in
    let number : base ≡ base + 0 = omega arith in
    ap (λ q. Some (starts_anew entries base (devices_in q.edits) slot)) same ∙ ap (λ n. Some (starts_anew entries n (devices_in plan.edits) slot)) number
anew_at entries base (one ∷ plans) (slot ∷ slots) (suc place) plan planned =
    let number : suc base + place ≡ base + suc place = omega arith in
    anew_at entries (suc base) plans slots place plan planned ∙ ap (λ n. option_map (starts_anew entries n (devices_in plan.edits)) (slice_get slots place)) number

-- the entry ends a change set
abbrev is_end : Entry → Bool
is_end (Ended change kept) = true
is_end _ = false

no_end : {A : Type 0} → false ≡ true → A
no_end e = absurd (let g : false ≡ true = e in cc)

module _ {Config TheEdit Node : Type 0} (m : Meaning Config TheEdit Node) (laws : Laws m) (setting : Setting TheEdit) (edits : All m.edit_belongs setting.tables.edits)
    (few : length setting.plans ≤ 64) (strangers : (number : ℕ) → IfSome (slice_get setting.users number) (λ user. is_manager (Some user) ≡ false))
    (B : WorldState Config Node → Type 0) (supported : (w : WorldState Config Node) → B w → IsSupported m setting (core_of w))
    (S : OfSlot Config Node) (D : OfDevice Config Node) (Comes : Site m setting B → Entry → Type 0)
    (coming : (x : Site m setting B) (entry : Entry) → IsComing m setting B x entry → Comes x entry) (keeps : KeepsBy m setting B S D Comes)
    (w : WorldState Config Node) (b : B w) (k : AreKept setting S D (core_of w)) where
  s : IsSupported m setting (core_of w)
  s = supported w b

  -- where it is known of the world after too
  abbrev pub In : Event → Came Config Node → Type 0
  In event c = B (passed w event c) → AreKept setting S D c.after

  -- ---- change sets

  abbrev SlotsAre : List Entry → List (RecordedState Config Node) → List SlotState → Type 0
  SlotsAre entries devices slots =
      (place : ℕ) (plan : ChangePlan) → slice_get setting.plans place ≡ Some plan → IfSome (slice_get slots place) (S (suc place) plan entries devices)

  slot_here : (place : ℕ) (plan : ChangePlan) → slice_get setting.plans place ≡ Some plan → (slot : SlotState) → slice_get w.slots place ≡ Some slot
      → S (suc place) plan w.entries w.devices slot
  slot_here place plan planned slot there = some_is slot (S (suc place) plan w.entries w.devices) (slice_get w.slots place) there (k.slots place plan planned)

  same_number : (change : ℕ) → 1 ≤ change → suc (change - 1) ≡ change
  same_number change numbered = omega (arith, numbered)

  same_place : (place : ℕ) → place ≡ suc place - 1
  same_place place = omega arith

  one_up : (place : ℕ) → 1 ≤ suc place
  one_up place = omega arith

  abbrev site_at : (place : ℕ) (plan : ChangePlan) → slice_get setting.plans place ≡ Some plan → (slot : SlotState) → slice_get w.slots place ≡ Some slot → Site m setting B
  site_at place plan planned slot there =
      site m setting B w b s (suc place)
      (record { numbered = one_up place; slot = slot; there = subst (λ p. slice_get w.slots p ≡ Some slot) (same_place place) there })
      plan (subst (λ p. slice_get setting.plans p ≡ Some plan) (same_place place) planned)

  -- one of them, by its number
  module _ (change : ℕ) (a : IsSlot (core_of w) change) where
    slot_now : (plan : ChangePlan) → slice_get setting.plans (change - 1) ≡ Some plan → S change plan w.entries w.devices a.slot
    slot_now plan planned = subst (λ c. S c plan w.entries w.devices a.slot) (same_number change a.numbered) (slot_here (change - 1) plan planned a.slot a.there)

    -- it stands otherwise
    slots_with : (entries : List Entry) (devices : List (RecordedState Config Node)) (plan : ChangePlan) → slice_get setting.plans (change - 1) ≡ Some plan
        → (new : SlotState) → S change plan entries devices new
        → ((j : ℕ) → (j ≡ change - 1 → ⊥) → (q : ChangePlan) → slice_get setting.plans j ≡ Some q → IfSome (slice_get w.slots j) (S (suc j) q entries devices))
        → SlotsAre entries devices (slice_set w.slots (change - 1) new)
    slots_with entries devices plan planned new now others =
        others_stay (λ j o. (q : ChangePlan) → slice_get setting.plans j ≡ Some q → IfSome o (S (suc j) q entries devices)) w.slots (change - 1) a.slot new a.there
        (λ q found.
        subst (λ one. S (suc (change - 1)) one entries devices new) (same_Some plan q (sym planned ∙ found))
        (subst (λ c. S c plan entries devices new) (sym (same_number change a.numbered)) now)) others

    one_slot : (plan : ChangePlan) → slice_get setting.plans (change - 1) ≡ Some plan → (new : SlotState) → S change plan w.entries w.devices new
        → SlotsAre w.entries w.devices (slice_set w.slots (change - 1) new)
    one_slot plan planned new now = slots_with w.entries w.devices plan planned new now (λ j ne q found. k.slots j q found)

    -- it has a plan
    with_plan : (T : Type 0) → ((plan : ChangePlan) → slice_get setting.plans (change - 1) ≡ Some plan → T) → T
    with_plan T step = planned_by m setting (core_of w) s change a.numbered a.slot T a.there step (slice_get setting.plans (change - 1)) refl

    abbrev site_of : (plan : ChangePlan) → slice_get setting.plans (change - 1) ≡ Some plan → Site m setting B
    site_of plan planned = site m setting B w b s change a plan planned

  -- an entry comes

  module _ (entry : Entry) (may : may_follow w.entries entry ≡ true) where
    -- where it ends a change set only at the end of its course
    module _ (ends : (j : ℕ) (slot : SlotState) → slice_get w.slots j ≡ Some slot → (kept : DeviceMask) → entry ≡ Ended (suc j) kept
        → (is_ready_in w.entries (suc j) ≡ true) × (next_action slot.course ≡ Finish kept)) where
      slots_entered : (j : ℕ) → decides (suc j) entry ≡ false → (q : ChangePlan) → slice_get setting.plans j ≡ Some q
          → IfSome (slice_get w.slots j) (S (suc j) q (w.entries ++ entry ∷ []) w.devices)
      slots_entered j plain q planned =
          to_some (S (suc j) q (w.entries ++ entry ∷ []) w.devices) (slice_get w.slots j)
          (λ slot there.
          let may_come : IsComing m setting B (site_at j q planned slot there) entry = record { may = may; ends = ends j slot there } in
          keeps.entered (site_at j q planned slot there) entry plain (coming (site_at j q planned slot there) entry may_come) (slot_here j q planned slot there))

    devices_entered : (place : ℕ) → IfSome (slice_get w.devices place) (D (w.entries ++ entry ∷ []) place)
    devices_entered place =
        to_some (D (w.entries ++ entry ∷ []) place) (slice_get w.devices place)
        (λ r here. keeps.entered_beside w b entry may place r here (some_is r (D w.entries place) (slice_get w.devices place) here (k.devices place)))

  -- the change set that an entry ends is at the end of its course
  ends_by : (change : ℕ) (a : IsSlot (core_of w) change) → is_ready_in w.entries change ≡ true → (kept : DeviceMask) → next_action a.slot.course ≡ Finish kept
      → (j : ℕ) (slot : SlotState) → slice_get w.slots j ≡ Some slot → (mask : DeviceMask) → Ended change kept ≡ Ended (suc j) mask
      → (is_ready_in w.entries (suc j) ≡ true) × (next_action slot.course ≡ Finish mask)
  ends_by change a ready kept acts j slot there mask e =
      let number : change ≡ suc j = cc in
      let same : kept ≡ mask = cc in
      let one : a.slot ≡ slot = same_Some a.slot slot (sym a.there ∙ ap (slice_get w.slots) (sym (place_of change j number)) ∙ there) in
      (subst (λ n. is_ready_in w.entries n ≡ true) number ready, ap (λ (x : SlotState). next_action x.course) (sym one) ∙ acts ∙ ap Finish same)
    where
      place_of : (change j : ℕ) → change ≡ suc j → j ≡ change - 1
      place_of change j e = omega (arith, e)

  -- ---- something happens at a device

  module _ (d : ℕ) (r : RecordedState Config Node) (here : slice_get w.devices d ≡ Some r) where
    device_now : D w.entries d r
    device_now = some_is r (D w.entries d) (slice_get w.devices d) here (k.devices d)

    device_known : IsDevice m (s.owners d) r
    device_known = some_is r (IsDevice m (s.owners d)) (slice_get w.devices d) here (s.devices d)

    module _ (event : DeviceEvent) (h : Happened Config Node) (happens : Happens m setting.tables r.device event h) where
      abbrev devices_after : List (RecordedState Config Node)
      devices_after = slice_set w.devices d (recorded_with r event h)

      devices_with : D w.entries d (recorded_with r event h) → (place : ℕ) → IfSome (slice_get devices_after place) (D w.entries place)
      devices_with now = at_set (D w.entries) w.devices d r (recorded_with r event h) here now k.devices

      slot_aside : (j : ℕ) (q : ChangePlan) → slice_get setting.plans j ≡ Some q → IsOthers (suc j) (s.owners d) r event
          → (slot : SlotState) → slice_get w.slots j ≡ Some slot → S (suc j) q w.entries devices_after slot
      slot_aside j q planned others slot there =
          keeps.aside (site_at j q planned slot there) d r here device_known event h happens others (slot_here j q planned slot there)

      slots_aside : (j : ℕ) (q : ChangePlan) → slice_get setting.plans j ≡ Some q → IsOthers (suc j) (s.owners d) r event
          → IfSome (slice_get w.slots j) (S (suc j) q w.entries devices_after)
      slots_aside j q planned others = to_some (S (suc j) q w.entries devices_after) (slice_get w.slots j) (slot_aside j q planned others)

  -- ---- a link

  module _ (change device link : ℕ) (l : IsLink (core_of w) change device link) where
    abbrev on : IsSlot (core_of w) change
    on = record { numbered = l.numbered; slot = l.slot; there = l.there }

    other_number : (j : ℕ) → (j ≡ change - 1 → ⊥) → suc j ≡ change → ⊥
    other_number j ne e = ne (omega (arith, e))

    -- its side ends at the device
    slot_closed : (plan : ChangePlan) (devices : List (RecordedState Config Node)) → S change plan w.entries devices l.slot
        → S change plan w.entries devices (wires_on (lost_wire link) l.slot device (Some l.side))
    slot_closed plan devices p =
        subst (λ found. S change plan w.entries devices (wires_on (lost_wire link) l.slot device found)) l.at_side
        (keeps.closed change plan w.entries devices l.slot device link p)

    -- its request is done
    module _ (request : Request) (out : outstanding_at l.side.wire link ≡ Some request) (plan : ChangePlan) (planned : slice_get setting.plans (change - 1) ≡ Some plan) where
      abbrev x : Delivery m setting B
      x = delivery m setting B w b s few change device link l plan planned request out

      slots_told : (event : DeviceEvent) (done : IsDone m setting B x event) → (new : SlotState)
          → S change plan w.entries (slice_set w.devices (device - 1) (recorded_with l.r event done.h)) new
          → SlotsAre w.entries (slice_set w.devices (device - 1) (recorded_with l.r event done.h)) (slice_set w.slots (change - 1) new)
      slots_told event done new now =
          slots_with change on w.entries (slice_set w.devices (device - 1) (recorded_with l.r event done.h)) plan planned new now
          (λ j ne q found. slots_aside (device - 1) l.r l.here event done.h done.happens j q found (done.others j q found (other_number j ne)))

  -- ---- all of them

  pub cases : Cases m setting (core_of w) In
  cases = record {
    nothing = λ event later. k;
    starts = λ change numbered plan planned may later. record {
      slots = λ j q found. slots_entered (start_of change plan) may (λ i slot there kept e. no_end (ap is_end e)) j refl q found;
      devices = devices_entered (start_of change plan) may;
    };
    decides = λ change a ready v acts may later. record {
      slots = with_plan change a (SlotsAre (w.entries ++ Decided change v ∷ []) w.devices (slice_set w.slots (change - 1) (decided a.slot v)))
          (λ plan planned.
          slots_with change a (w.entries ++ Decided change v ∷ []) w.devices plan planned (decided a.slot v)
          (keeps.decides_on (site_of change a plan planned) v ready acts may (slot_now change a plan planned))
          (λ j ne q found. slots_entered (Decided change v) may (λ i slot there kept e. no_end (ap is_end e)) j (not_same j change (λ e. ne (before change j e)) (decides (suc j) (Decided change v)) refl) q found));
      devices = devices_entered (Decided change v) may;
    };
    finishes = λ change a ready kept acts may later. record {
      slots = λ j q found. slots_entered (Ended change kept) may (ends_by change a ready kept acts) j refl q found;
      devices = devices_entered (Ended change kept) may;
    };
    sends_out = λ change a ready device what acts later.
        let at : IsSlot (core_of w) change = record { numbered = a.numbered; slot = a.slot; there = a.there } in
        record {
          slots = one_slot change at a.plan a.planned (sends a.plan w.entries a.slot device what).slot
              (keeps.sent (site_of change at a.plan a.planned) device what ready acts (slot_now change at a.plan a.planned));
          devices = k.devices;
        };
    renews_timer = λ change device a known ready later.
        let at : IsSlot (core_of w) change = record { numbered = a.numbered; slot = a.slot; there = a.there } in
        record {
          slots = one_slot change at a.plan a.planned (renews a.plan w.entries a.slot device).slot
              (keeps.renewed (site_of change at a.plan a.planned) device known ready (slot_now change at a.plan a.planned));
          devices = k.devices;
        };
    hears = λ change device link number a known later. record {
      slots = with_plan change a (SlotsAre w.entries w.devices (slice_set w.slots (change - 1) (receives a.slot device link number).slot))
          (λ plan planned.
          one_slot change a plan planned (receives a.slot device link number).slot
          (keeps.heard (site_of change a plan planned) device link number known (slot_now change a plan planned)));
      devices = k.devices;
    };
    breaks_off = λ change device a known later. record {
      slots = with_plan change a (SlotsAre w.entries w.devices (slice_set w.slots (change - 1) (breaks a.slot device).slot))
          (λ plan planned.
          one_slot change a plan planned (breaks a.slot device).slot (keeps.broken (site_of change a plan planned) device known (slot_now change a plan planned)));
      devices = k.devices;
    };
    forgets = λ change a begun going later.
        let at : IsSlot (core_of w) change = record { numbered = a.numbered; slot = a.slot; there = a.there } in
        record {
          slots = one_slot change at a.plan a.planned (lost_memory a.slot _ _)
              (keeps.forgotten (site_of change at a.plan a.planned) begun going (slot_now change at a.plan a.planned));
          devices = k.devices;
        };
    crashes = λ later. record {
      slots = λ place plan planned.
          subst (λ o. IfSome o (S (suc place) plan w.entries w.devices)) (sym (anew_at w.entries 1 setting.plans w.slots place plan planned ∙ ap (λ n. option_map (starts_anew w.entries n (devices_in plan.edits)) (slice_get w.slots place)) (next_of place)))
          (some_map (starts_anew w.entries (suc place) (devices_in plan.edits)) (S (suc place) plan w.entries w.devices) (slice_get w.slots place)
          (λ slot there. keeps.anew (site_at place plan planned slot there) (slot_here place plan planned slot there)));
      devices = k.devices;
    };
    tells = λ change device link l request out plain session is d later. record {
      slots = with_plan change (on change device link l) (SlotsAre w.entries (slice_set w.devices (device - 1) (recorded_with l.r (Asked session request) d.h)) (slice_set w.slots (change - 1) _))
          (λ plan planned.
          let done = asked_done m laws setting edits few B (x change device link l request out plan planned) session is d in
          slots_told change device link l request out plan planned (Asked session request) done _
          (keeps.told (x change device link l request out plan planned) plain session is done later (slot_now change (on change device link l) plan planned)
          (device_now (device - 1) l.r l.here)));
      devices = with_plan change (on change device link l) ((place : ℕ) → IfSome (slice_get (slice_set w.devices (device - 1) (recorded_with l.r (Asked session request) d.h)) place) (D w.entries place))
          (λ plan planned.
          let done = asked_done m laws setting edits few B (x change device link l request out plan planned) session is d in
          devices_with (device - 1) l.r l.here (Asked session request) d.h d.happens
          (keeps.asked_by_link (x change device link l request out plan planned) plain session is done later (slot_now change (on change device link l) plan planned)
          (device_now (device - 1) l.r l.here)));
    };
    opens = λ change device link l user out d later. record {
      slots = with_plan change (on change device link l) (SlotsAre w.entries (slice_set w.devices (device - 1) (recorded_with l.r (Entered user) d.h)) (slice_set w.slots (change - 1) _))
          (λ plan planned.
          let done = entered_done m laws setting edits few B (x change device link l (OpenSession user) out plan planned) user refl d in
          slots_told change device link l (OpenSession user) out plan planned (Entered user) done _
          (keeps.told_opened (x change device link l (OpenSession user) out plan planned) user refl done later (slot_now change (on change device link l) plan planned)
          (device_now (device - 1) l.r l.here)));
      devices = with_plan change (on change device link l) ((place : ℕ) → IfSome (slice_get (slice_set w.devices (device - 1) (recorded_with l.r (Entered user) d.h)) place) (D w.entries place))
          (λ plan planned.
          let done = entered_done m laws setting edits few B (x change device link l (OpenSession user) out plan planned) user refl d in
          devices_with (device - 1) l.r l.here (Entered user) d.h d.happens
          (keeps.opened_by_link (x change device link l (OpenSession user) out plan planned) user refl done later (slot_now change (on change device link l) plan planned)
          (device_now (device - 1) l.r l.here)));
    };
    loses_session = λ change device link l opened session is h happens later. record {
      slots = with_plan change (on change device link l) (SlotsAre w.entries (slice_set w.devices (device - 1) (recorded_with l.r (Lost session) h)) (slice_set w.slots (change - 1) _))
          (λ plan planned.
          slots_with change (on change device link l) w.entries (slice_set w.devices (device - 1) (recorded_with l.r (Lost session) h)) plan planned _
          (slot_closed change device link l plan (slice_set w.devices (device - 1) (recorded_with l.r (Lost session) h))
          (subst (λ c. S c plan w.entries (slice_set w.devices (device - 1) (recorded_with l.r (Lost session) h)) l.slot) (same_number change l.numbered)
          (slot_aside (device - 1) l.r l.here (Lost session) h happens (change - 1) plan planned (silent_others (s.owners (device - 1)) l.r (Lost session) refl (suc (change - 1))) l.slot l.there)))
          (λ j ne q found. slots_aside (device - 1) l.r l.here (Lost session) h happens j q found (silent_others (s.owners (device - 1)) l.r (Lost session) refl (suc j))));
      devices = devices_with (device - 1) l.r l.here (Lost session) h happens
          (keeps.silent w b (device - 1) l.r l.here (Lost session) refl h happens (device_now (device - 1) l.r l.here));
    };
    closes = λ change device link l opened is later. record {
      slots = with_plan change (on change device link l) (SlotsAre w.entries w.devices (slice_set w.slots (change - 1) _))
          (λ plan planned. one_slot change (on change device link l) plan planned _ (slot_closed change device link l plan w.devices (slot_now change (on change device link l) plan planned)));
      devices = k.devices;
    };
    restarts = λ device r here later. record {
      slots = λ place plan planned.
          subst (λ o. IfSome o (S (suc place) plan w.entries (slice_set w.devices (device - 1) (recorded_with r Restarted (restarting m r.device)))))
          (sym (slice_get-map (restarted_slot device) w.slots place))
          (some_map (restarted_slot device) (S (suc place) plan w.entries (slice_set w.devices (device - 1) (recorded_with r Restarted (restarting m r.device)))) (slice_get w.slots place)
          (λ slot there.
          keeps.restarted (suc place) plan w.entries (slice_set w.devices (device - 1) (recorded_with r Restarted (restarting m r.device))) slot device
          (slot_aside (device - 1) r here Restarted (restarting m r.device) refl place plan planned (silent_others (s.owners (device - 1)) r Restarted refl (suc place)) slot there)));
      devices = devices_with (device - 1) r here Restarted (restarting m r.device) refl
          (keeps.silent w b (device - 1) r here Restarted refl (restarting m r.device) refl (device_now (device - 1) r here));
    };
    passes = λ device seconds r here later. record {
      slots = λ place plan planned.
          slots_aside (device - 1) r here (Advanced seconds) (advancing m r.device seconds) refl place plan planned (silent_others (s.owners (device - 1)) r (Advanced seconds) refl (suc place));
      devices = devices_with (device - 1) r here (Advanced seconds) (advancing m r.device seconds) refl
          (keeps.silent w b (device - 1) r here (Advanced seconds) refl (advancing m r.device seconds) refl (device_now (device - 1) r here));
    };
    asks = λ number device a request plain session given opened d later. record {
      slots = λ place plan planned.
          slots_aside (device - 1) a.r a.here (Asked session request) d.h d.happens place plan planned (asked_others m setting (core_of w) s a session given opened request (suc place));
      devices = devices_with (device - 1) a.r a.here (Asked session request) d.h d.happens
          (keeps.asked_by_operator w b (device - 1) a.r a.here session opened (not_managed m setting (core_of w) s a session given opened) request d.h d.happens
          (device_now (device - 1) a.r a.here));
    };
    enters = λ number device a user own free d later. record {
      slots = λ place plan planned.
          slots_aside (device - 1) a.r a.here (Entered user) d.h d.happens place plan planned (entered_others (s.owners (device - 1)) a.r user (suc place));
      devices = devices_with (device - 1) a.r a.here (Entered user) d.h d.happens
          (keeps.opened_by_operator w b (device - 1) a.r a.here user
          (some_is user (λ one. is_manager (Some one) ≡ false) (slice_get setting.users (number - 1)) own (strangers (number - 1))) d.h d.happens
          (device_now (device - 1) a.r a.here));
    };
    leaves = λ number device a session given opened h happens later. record {
      slots = λ place plan planned.
          slots_aside (device - 1) a.r a.here (Lost session) h happens place plan planned (silent_others (s.owners (device - 1)) a.r (Lost session) refl (suc place));
      devices = devices_with (device - 1) a.r a.here (Lost session) h happens
          (keeps.silent w b (device - 1) a.r a.here (Lost session) refl h happens (device_now (device - 1) a.r a.here));
    };
  }
    where
      before : (change j : ℕ) → suc j ≡ change → j ≡ change - 1
      before change j e = omega (arith, e)

      next_of : (place : ℕ) → 1 + place ≡ suc place
      next_of place = omega arith

-- what is kept of a change set that is there
module _ {Config TheEdit Node : Type 0} (m : Meaning Config TheEdit Node) (setting : Setting TheEdit) (S : OfSlot Config Node) (D : OfDevice Config Node)
    (w : CoreState Config Node) (s : IsSupported m setting w) (k : AreKept setting S D w) where
  pub slot_there : (place : ℕ) (slot : SlotState) → slice_get w.slots place ≡ Some slot → (T : Type 0)
      → ((plan : ChangePlan) → slice_get setting.plans place ≡ Some plan → S (suc place) plan w.entries w.devices slot → T) → T
  slot_there place slot there T step = by_plan (slice_get setting.plans place) refl (s.slots place)
    where
      by_plan : (plan : Option ChangePlan) → slice_get setting.plans place ≡ plan
          → KeptAt (suc place) w.entries s.owners w.devices plan (slice_get w.slots place) → T
      by_plan None planned kept_now = absurd (subst (KeptAt (suc place) w.entries s.owners w.devices None) there kept_now)
      by_plan (Some plan) planned kept_now =
          step plan planned (some_is slot (S (suc place) plan w.entries w.devices) (slice_get w.slots place) there (k.slots place plan planned))

-- ---- whole runs

module _ {Config TheEdit Node : Type 0} (m : Meaning Config TheEdit Node) (laws : Laws m) (setting : Setting TheEdit) (edits : All m.edit_belongs setting.tables.edits)
    (few : length setting.plans ≤ 64) (strangers : (number : ℕ) → IfSome (slice_get setting.users number) (λ user. is_manager (Some user) ≡ false))
    (B : WorldState Config Node → Type 0) (supported : (w : WorldState Config Node) → B w → IsSupported m setting (core_of w))
    (known : (w : WorldState Config Node) (event : Event) → IsGiven setting event → is_round event ≡ false → B w → B (world_step m setting w event))
    (S : OfSlot Config Node) (D : OfDevice Config Node) where
  module _ (Comes : Site m setting B → Entry → Type 0) (coming : (x : Site m setting B) (entry : Entry) → IsComing m setting B x entry → Comes x entry)
      (keeps : KeepsBy m setting B S D Comes) where
    pub one_kept_by : (w : WorldState Config Node) (event : Event) → IsGiven setting event → is_round event ≡ false → Both setting B S D w
        → Both setting B S D (world_step m setting w event)
    one_kept_by w event given single k =
        let b : B (world_step m setting w event) = known w event given single k.before in
        record {
          before = b;
          own = comes m setting (core_of w) (In m laws setting edits few strangers B supported S D Comes coming keeps w k.before k.own)
              (cases m laws setting edits few strangers B supported S D Comes coming keeps w k.before k.own) event given b;
        }

    pub run_kept_by : (w : WorldState Config Node) (events : List Event) → AreGiven setting events → Both setting B S D w
        → Both setting B S D (run m setting w events)
    run_kept_by w events given k = run_keeps_each m setting (Both setting B S D) one_kept_by w events given k

  module _ (keeps : Keeps m setting B S D) where
    pub one_kept : (w : WorldState Config Node) (event : Event) → IsGiven setting event → is_round event ≡ false → Both setting B S D w
        → Both setting B S D (world_step m setting w event)
    one_kept w event given single k = one_kept_by (MayCome m setting B) (λ x entry is. is.may) keeps w event given single k

    pub run_kept : (w : WorldState Config Node) (events : List Event) → AreGiven setting events → Both setting B S D w
        → Both setting B S D (run m setting w events)
    run_kept w events given k = run_keeps_each m setting (Both setting B S D) one_kept w events given k
