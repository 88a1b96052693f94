-- A step of a drain that is idle changes nothing.
use Rattle.std.proofs.Common.{◌≡◌, ◌∙◌, ℕ, ◌-◌, Bool, true, false, Option, Some, None, slice_get, refl, ap}
use Rattle.nm_proto.specs.declared.plan.Event.{Event}
use Rattle.nm_proto.specs.Content.{Meaning}
use Rattle.nm_wire.specs.declared.link.Exchange.{Exchange}
use Rattle.nm_wire.specs.Wire.{WireState, handled_at, due}
use Rattle.nm_decider.specs.Course.{CourseState}
use Rattle.nm_manager.specs.Slot.{SideState, SlotState, PairStep, SlotStep, with_pair, nothing, side_at, awaits_resync, receives_due, breaks_current, on_side, receives_pair, breaks_pair}
use Rattle.nm_manager.specs.Manager.{ManagerState, with_slot, with_step}
use Rattle.nm_manager.proofs.Reach.{side_reached}
use Rattle.nm_world.specs.declared.happened.Happened.TheVariants as happened
use Rattle.nm_world.specs.World.{Setting, CoreState, Came, manager_in, with_manager, by_manager, elementary}
use Rattle.nm_world.proofs.ToRest.{IsStep}
use Rattle.nm_safety.specs.Cases.{Cases}
use Rattle.nm_safety.proofs.Cases.{comes}
use Rattle.nm_safety.proofs.Drained.{step_given}
use Rattle.nm_safety.proofs.Places.{set_same}
use Rattle.nm_rest_laws.proofs.rest.Plain.{is_turn}

module _ {Config Node : Type 0} (w : CoreState Config Node) where
  -- where what came is idle, nothing has changed
  abbrev Stays : Came Config Node → Type 0
  Stays c = c.happened ≡ happened.Idle → c.after ≡ w

  -- ---- at the manager

  slot_same : (change : ℕ) (slot new : SlotState) → slice_get w.slots (change - 1) ≡ Some slot → new ≡ slot → with_manager w (with_slot (manager_in w) change new) ≡ w
  slot_same change slot new there same =
      ap (λ one. with_manager w (with_slot (manager_in w) change one)) same ∙ ap (λ slots. let s : ManagerState = record { entries = w.entries; slots = slots } in with_manager w s) (set_same w.slots (change - 1) slot there)

  nothing_same : (slot : SlotState) (device : ℕ) (side : SideState) → slice_get slot.sides (device - 1) ≡ Some side → (with_pair slot device (nothing slot.course side)).slot ≡ slot
  nothing_same slot device side at = ap (λ sides. let s : SlotState = record { course = slot.course; sides = sides } in s) (set_same slot.sides (device - 1) side at)

  module _ (change : ℕ) (slot : SlotState) (there : slice_get w.slots (change - 1) ≡ Some slot) where
    abbrev By : SlotStep → Came Config Node
    By step = by_manager w (with_step (manager_in w) change step)

    breaks_by : (device : ℕ) (side : SideState) → slice_get slot.sides (device - 1) ≡ Some side → (current : Option ℕ) → Stays (By (with_pair slot device (breaks_current slot.course side device current)))
    breaks_by device side at None idle_now = slot_same change slot (with_pair slot device (nothing slot.course side)).slot there (nothing_same slot device side at)
    breaks_by device side at (Some number) idle_now = absurd (let f : happened.Broken ≡ happened.Idle = idle_now in cc)

    -- a step for a device, where it has a side
    on_stays : (step : CourseState → SideState → PairStep) (device : ℕ)
        → ((side : SideState) → slice_get slot.sides (device - 1) ≡ Some side → Stays (By (with_pair slot device (step slot.course side))))
        → Stays (By (on_side step slot device (side_at slot device)))
    on_stays step device = side_reached step slot device (λ (done : SlotStep). Stays (By done)) (λ idle_now. slot_same change slot slot there refl)

    hears_by : (device : ℕ) (side : SideState) → slice_get slot.sides (device - 1) ≡ Some side → (resyncs : Bool) (links : WireState) (told : Option Exchange) → Stays (By (with_pair slot device (receives_due resyncs slot.course side device links told)))
    hears_by device side at resyncs links None idle_now = slot_same change slot (with_pair slot device (nothing slot.course side)).slot there (nothing_same slot device side at)
    hears_by device side at resyncs links (Some exchange) idle_now = absurd (let f : happened.Handled ≡ happened.Idle = idle_now in cc)

module _ {Config TheEdit Node : Type 0} (m : Meaning Config TheEdit Node) (setting : Setting TheEdit) (w : CoreState Config Node) where
  -- so of a step that is no turn
  abbrev Idles : Event → Came Config Node → Type 0
  Idles event c = IsStep event → is_turn event ≡ false → Stays w c

  no_turn : {A : Type 0} → true ≡ false → A
  no_turn e = absurd (let f : true ≡ false = e in cc)

  idles : Cases m setting w Idles
  idles = record {
    nothing = λ event step plain idle_now. refl;
    starts = λ change numbered plan planned may step. absurd step;
    decides = λ change a ready v acts may step plain. no_turn plain;
    finishes = λ change a ready kept acts may step plain. no_turn plain;
    sends_out = λ change a ready device what acts step plain. no_turn plain;
    renews_timer = λ change device a known ready step. absurd step;
    hears = λ change device link number a known step plain.
        on_stays w change a.slot a.there (receives_pair device link number) device
        (λ side at.
        hears_by w change a.slot a.there device side at (awaits_resync (slice_get a.slot.course.seats (device - 1)))
        (handled_at side.wire link (due side.wire link number)) (due side.wire link number));
    breaks_off = λ change device a known step plain.
        on_stays w change a.slot a.there (breaks_pair device) device (λ side at. breaks_by w change a.slot a.there device side at side.wire.current);
    forgets = λ change a begun going step. absurd step;
    crashes = λ step. absurd step;
    tells = λ change device link a request out asks session is d step plain idle_now.
        absurd (let f : happened.Replied d.reply d.h.undone ≡ happened.Idle = idle_now in cc);
    opens = λ change device link a user out d step plain idle_now.
        absurd (let f : happened.Replied d.reply d.h.undone ≡ happened.Idle = idle_now in cc);
    loses_session = λ change device link a opened session is h happens step plain idle_now.
        absurd (let f : happened.Lost h.undone ≡ happened.Idle = idle_now in cc);
    closes = λ change device link a opened is step plain idle_now. absurd (let f : happened.Lost false ≡ happened.Idle = idle_now in cc);
    restarts = λ device r here step. absurd step;
    passes = λ device seconds r here step. absurd step;
    asks = λ number device a request asks session given opened d step. absurd step;
    enters = λ number device a user own free d step. absurd step;
    leaves = λ number device a session given opened h happens step plain idle_now.
        absurd (let f : happened.Left h.undone ≡ happened.Idle = idle_now in cc);
  }

  pub idle_stays : (x : Event) → IsStep x → is_turn x ≡ false → (elementary m setting w x).happened ≡ happened.Idle → (elementary m setting w x).after ≡ w
  idle_stays x step = comes m setting w Idles idles x (step_given setting x step) step
