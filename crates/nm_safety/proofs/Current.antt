-- Links are current only while their change set is ready.
use Rattle.std.proofs.Common.{◌≡◌, ◌∙◌, ℕ, zero, suc, ◌-◌, ◌+◌, ◌≤◌, Bool, true, false, cond, nat_eq, List, [], ◌∷◌, ◌++◌, length, replicate, Option, Some, None, IfSome, is_some, option_and_then, slice_get, refl, sym, ap, subst, arith}
use Rattle.std.specs.List.{All}
use Rattle.std.proofs.lemmas.Option.{none-some}
use Rattle.nm_base.specs.declared.mask.DeviceMask.{DeviceMask}
use Rattle.nm_proto.specs.declared.ask.Ask.{Ask}
use Rattle.nm_proto.specs.declared.message.Request.{Request}
use Rattle.nm_proto.specs.declared.journal.Entry.{Entry}
use Rattle.nm_proto.specs.declared.journal.Entry.TheVariants.{Started, Decided, Ended}
use Rattle.nm_proto.specs.declared.journal.Verdict.{Verdict}
use Rattle.nm_proto.specs.declared.plan.ChangePlan.{ChangePlan}
use Rattle.nm_proto.specs.declared.plan.Event.{Event}
use Rattle.nm_proto.specs.Content.{Meaning, Laws}
use Rattle.nm_proto.specs.Plan.{devices_in}
use Rattle.nm_journal.specs.Entries.{ends}
use Rattle.nm_device.specs.Device.{is_manager}
use Rattle.nm_recovery.specs.Recovery.{verdict_in}
use Rattle.nm_decider_stage.specs.declared.stage.Stage.{Stage}
use Rattle.nm_decider_stage.specs.declared.stage.Stage.TheVariants.{Live, Refused, Failed, NeedMark, Resync, Leaving, Settled}
use Rattle.nm_decider_stage.specs.Stages.{is_settled}
use Rattle.nm_decider.specs.declared.seat.Seat.{Seat}
use Rattle.nm_decider.specs.declared.course.NextAction.TheVariants.{Send, Finish}
use Rattle.nm_decider.specs.Course.{next_action, seat_count, seats_from}
use Rattle.nm_resync.specs.declared.resync.ResyncStage.{ResyncStage}
use Rattle.nm_wire.specs.declared.link.Exchange.{Exchange}
use Rattle.nm_wire.specs.Asks.{ask_of}
use Rattle.nm_wire.specs.Link.{LinkState, closed_link, ends as ends_session, handled_on, told_on}
use Rattle.nm_wire.specs.Wire.{WireState, changed, current_link, handled_at, link_at, restarted}
use Rattle.nm_manager.specs.Queues.{is_ready_in}
use Rattle.nm_manager.specs.Slot.{SideState, SlotState, asked_in_fact, breaks, decided, fresh_side, fresh_slot, gone, lost_memory, lost_wire, may_go, opens, receives, renews, sends, told_wire, wires_on}
use Rattle.nm_manager.specs.Manager.{slots_from, starts_anew}
use Rattle.nm_world.specs.World.{Setting, WorldState, begin, core_of, run, start, world_step}
use Rattle.nm_safety.specs.Keeping.{AreKept, Delivery, IsComing, IsDone, KeepsBy, OfDevice, OfSlot, Site, slot_then}
use Rattle.nm_safety.specs.Pairs.{AllPairs, OfPair, PairAt}
use Rattle.nm_safety.specs.Safe.{IsGiven, IsProper}
use Rattle.nm_safety.specs.Step.{GoesWith, IsInStep, awaits_rightly, has_link, way_ask}
use Rattle.nm_safety.specs.Support.{IsSupported}
use Rattle.nm_safety.proofs.Cases.{comes}
use Rattle.nm_safety.proofs.EachPair.{anew_pairs, broken_pairs, decided_pairs, forgotten_pairs, known_at, pairs_map, received_pairs, renewed_pairs, sent_pairs, wires_pairs}
use Rattle.nm_safety.proofs.Entries.{nat_same, ready_is_open}
use Rattle.nm_safety.proofs.Facts.{SupportedIn}
use Rattle.nm_safety.proofs.Keeping.{In, cases}
use Rattle.nm_safety.proofs.Lists.{all_equal, to_some}
use Rattle.nm_safety.proofs.Pairs.{gone_ask}
use Rattle.nm_safety.proofs.PairSteps.{pair_at}
use Rattle.nm_safety.proofs.Ready.{ready_next}
use Rattle.nm_safety.proofs.Runs.{one_supported}
use Rattle.nm_safety.proofs.Seats.{acts, listed}
use Rattle.nm_safety.proofs.Start.{begin_supported}
use Rattle.nm_safety.proofs.Steps.{run_keeps}
use Rattle.nm_safety.proofs.Wires.{IsDue, changed_current, current_changed, current_handled, current_restarted}

-- where a link is current it is there, and the change set is ready
abbrev pub IsCurrent : ℕ → List Entry → WireState → Type 0
IsCurrent change entries wire = is_some wire.current ≡ true → (is_some (current_link wire) ≡ true) × (is_ready_in entries change ≡ true)

-- of the links to a device
abbrev pub CurrentPair : ℕ → List Entry → OfPair
CurrentPair change entries place decided seat side = IsCurrent change entries side.wire

module _ {Config Node : Type 0} where
  -- of a change set; of a device by itself nothing is said
  abbrev pub OfCurrent : OfSlot Config Node
  OfCurrent change plan entries devices slot = AllPairs (CurrentPair change entries) slot.course.verdict slot

  abbrev pub OfNone : OfDevice Config Node
  OfNone entries place r = Unit {0}

-- ---- one wire

none_current : {T : Type 0} → false ≡ true → T
none_current is = absurd (let f : false ≡ true = is in cc)

link_some : (found : Option LinkState) (what : Ask) → option_and_then way_ask found ≡ Some what → is_some found ≡ true
link_some None what e = absurd (none-some what e)
link_some (Some link) what e = refl

module _ (change : ℕ) (entries : List Entry) where
  gone_current : (new : Bool) (wire : WireState) (request : Request) → may_go new wire ≡ true → is_ready_in entries change ≡ true
      → IsCurrent change entries (gone new wire request)
  gone_current new wire request goes ready is = (link_some (current_link (gone new wire request)) (ask_of request) (gone_ask new wire request goes), ready)

  module _ (wire : WireState) (k : IsCurrent change entries wire) where
    heard_current : (link : ℕ) (exchange : Exchange) → IsDue wire link exchange → IsCurrent change entries (handled_at wire link (Some exchange))
    heard_current link exchange due is =
        let now = by_end (ends_session exchange.request exchange.reply) is in
        (subst (λ found. is_some found ≡ true) (sym (current_handled wire link exchange due)) now.0, now.1)
      where
        by_end : (b : Bool) → is_some (cond b None wire.current) ≡ true
            → (is_some (cond b None (Some (handled_on due.held))) ≡ true) × (is_ready_in entries change ≡ true)
        by_end true is = none_current is
        by_end false is = (refl, (k is).1)

    -- something happens on a link
    changed_still : (happens : LinkState → LinkState) (number : ℕ) → IsCurrent change entries (changed happens wire number (link_at wire number))
    changed_still happens number is =
        let before = k (sym (ap is_some (changed_current happens wire number (link_at wire number))) ∙ is) in (
          current_changed (λ old new. is_some old ≡ true → is_some new ≡ true) (λ old h. h) happens wire number (link_at wire number) refl
              (to_some (λ link. is_some (Some link) ≡ true → is_some (Some (happens link)) ≡ true) (link_at wire number) (λ link at h. refl)) before.0,
          before.1,
        )

    restarted_still : IsCurrent change entries (restarted wire)
    restarted_still is =
        (current_restarted (λ old new. is_some old ≡ true → is_some new ≡ true) (λ old h. h) (λ link h. refl) wire (k is).0, (k is).1)

-- ---- who is settled has no current link

settled_quiet : (decided : Option Verdict) (stage : Stage) (awaited : Option Ask) → is_settled stage ≡ true → awaits_rightly decided stage awaited ≡ true
    → awaited ≡ None
settled_quiet decided stage None h k = refl
settled_quiet decided (Settled kept) (Some what) h k = absurd (let f : false ≡ true = k in cc)
settled_quiet decided (Live done) (Some what) h k = absurd (let f : false ≡ true = h in cc)
settled_quiet decided Refused (Some what) h k = absurd (let f : false ≡ true = h in cc)
settled_quiet decided Failed (Some what) h k = absurd (let f : false ≡ true = h in cc)
settled_quiet decided NeedMark (Some what) h k = absurd (let f : false ≡ true = h in cc)
settled_quiet decided Resync (Some what) h k = absurd (let f : false ≡ true = h in cc)
settled_quiet decided (Leaving kept) (Some what) h k = absurd (let f : false ≡ true = h in cc)

has_none : (stage : Stage) (at : ResyncStage) → is_settled stage ≡ true → has_link stage at ≡ false
has_none stage at h = grind arith

settled_none : (decided : Option Verdict) (seat : Seat) (side : SideState) → GoesWith decided seat side → is_settled seat.stage ≡ true
    → is_some (current_link side.wire) ≡ true → ⊥
settled_none decided seat side goes settled link =
    let quiet = settled_quiet decided seat.stage seat.awaited settled goes.awaits in
    absurd (let f : false ≡ true = sym (has_none seat.stage side.resync.stage settled) ∙ sym (goes.linked quiet) ∙ link in cc)

-- ---- a change set

module _ (change members : ℕ) (entries : List Entry) (slot : SlotState) (in_step : IsInStep change members entries slot)
    (all : AllPairs (CurrentPair change entries) slot.course.verdict slot) where
  abbrev Q : OfPair
  Q = CurrentPair change entries

  abbrev v : Option Verdict
  v = slot.course.verdict

  abbrev Now : SlotState → Type 0
  Now new = AllPairs Q new.course.verdict new

  pub side_current : (place : ℕ) (side : SideState) → slice_get slot.sides place ≡ Some side → IsCurrent change entries side.wire
  side_current place side there = by_seat (slice_get slot.course.seats place) refl
    where
      by_seat : (seat : Option Seat) → slice_get slot.course.seats place ≡ seat → IsCurrent change entries side.wire
      by_seat None here = absurd (pair_at change members entries slot in_step place None (Some side) here there)
      by_seat (Some seat) here = known_at Q change members entries slot in_step all place seat side here there

  -- an entry that doesn't end it
  plain_entry : (entry : Entry) → ends change entry ≡ false → AllPairs (CurrentPair change (entries ++ entry ∷ [])) v slot
  plain_entry entry other =
      pairs_map Q (CurrentPair change (entries ++ entry ∷ [])) v v slot
      (λ place seat side here there k is.
      ((k is).0, ready_next change entries entry (k is).1 (ready_is_open entries change (k is).1) other)) all

  -- its end
  own_end : (kept : DeviceMask) → next_action slot.course ≡ Finish kept → (entry : Entry) → AllPairs (CurrentPair change (entries ++ entry ∷ [])) v slot
  own_end kept next entry =
      pairs_map Q (CurrentPair change (entries ++ entry ∷ [])) v v slot
      (λ place seat side here there k is.
      let goes : GoesWith v seat side = (pair_at change members entries slot in_step place (Some seat) (Some side) here there).1 in
      let settled : is_settled seat.stage ≡ true = listed (λ one. one.is_member ≡ true → is_settled one.stage ≡ true) slot.course.seats
      ((acts change members entries slot in_step).finishes kept next).settled place seat here (goes.member is) in
      absurd (settled_none v seat side goes settled (k is).0)) all

  verdict_falls : (now : Verdict) → AllPairs (CurrentPair change (entries ++ Decided change now ∷ [])) (Some now) (decided slot now)
  verdict_falls now =
      decided_pairs (CurrentPair change (entries ++ Decided change now ∷ [])) slot now v (λ place seat side here there k. k)
      (plain_entry (Decided change now) refl)

  module _ (plan : ChangePlan) (device : ℕ) where
    sent_current : is_ready_in entries change ≡ true → (what : Ask) → next_action slot.course ≡ Send device what → Now (sends plan entries slot device what).slot
    sent_current ready what next =
        sent_pairs Q change members entries slot in_step all device what
        (λ a side pair request is goes k. gone_current change entries (opens (asked_in_fact side.resync what)) side.wire request goes ready) plan next

    renewed_current : is_ready_in entries change ≡ true → Now (renews plan entries slot device).slot
    renewed_current ready =
        renewed_pairs Q change members entries slot in_step all device
        (λ seat side pair request is goes k. gone_current change entries false side.wire request goes ready) plan

    received_current : (link number : ℕ) → Now (receives slot device link number).slot
    received_current link number =
        received_pairs Q change members entries slot in_step all device link number
        (λ seat side pair exchange due what awaited plain k. heard_current change entries side.wire k link exchange due)
        (λ seat side pair exchange due awaited k. heard_current change entries side.wire k link exchange due)

    broken_current : Now (breaks slot device).slot
    broken_current = broken_pairs Q change members entries slot in_step all device (λ seat side pair k is. none_current is)

module _ (change : ℕ) (entries : List Entry) (slot : SlotState) where
  forgotten_current : (members : ℕ) (found : Option Verdict) → AllPairs (CurrentPair change entries) found (lost_memory slot members found)
  forgotten_current members found =
      forgotten_pairs (CurrentPair change entries) slot members found (λ place seat side stage there is. none_current is)

  anew_current : (members : ℕ)
      → AllPairs (CurrentPair change entries) (starts_anew entries change members slot).course.verdict (starts_anew entries change members slot)
  anew_current members =
      anew_pairs (CurrentPair change entries) slot entries change members (λ place seat side stage there is. none_current is)
      (λ place seat side stage there is. none_current is)

  -- something happens on a link at a device
  wires_current : (happens : WireState → WireState) → ((wire : WireState) → IsCurrent change entries wire → IsCurrent change entries (happens wire))
      → (device : ℕ) (found : Option SideState) → slice_get slot.sides (device - 1) ≡ found
      → AllPairs (CurrentPair change entries) slot.course.verdict slot
      → AllPairs (CurrentPair change entries) (wires_on happens slot device found).course.verdict (wires_on happens slot device found)
  wires_current happens step device found at all =
      subst (λ side. AllPairs (CurrentPair change entries) (wires_on happens slot device side).course.verdict (wires_on happens slot device side)) at
      (wires_pairs (CurrentPair change entries) slot all happens device (λ seat side k. step side.wire k))

-- ---- each kind of step

module _ {Config TheEdit Node : Type 0} (m : Meaning Config TheEdit Node) (setting : Setting TheEdit) where
  abbrev Known : WorldState Config Node → Type 0
  Known w = SupportedIn m setting w

  abbrev members_of : Site m setting Known → ℕ
  members_of x = devices_in x.plan.edits

  entered_current : (x : Site m setting Known) (entry : Entry) → IsComing m setting Known x entry → OfCurrent x.change x.plan x.w.entries x.w.devices x.slot
      → OfCurrent x.change x.plan (x.w.entries ++ entry ∷ []) x.w.devices x.slot
  entered_current x (Started other devices timeout) coming k =
      plain_entry x.change (members_of x) x.w.entries x.slot x.kept.in_step k (Started other devices timeout) refl
  entered_current x (Decided other v) coming k = plain_entry x.change (members_of x) x.w.entries x.slot x.kept.in_step k (Decided other v) refl
  entered_current x (Ended other kept) coming k = by_change (nat_eq x.change other) refl
    where
      by_change : (b : Bool) → nat_eq x.change other ≡ b → OfCurrent x.change x.plan (x.w.entries ++ Ended other kept ∷ []) x.w.devices x.slot
      by_change true e =
          let own : Ended other kept ≡ Ended x.change kept = ap (λ c. Ended c kept) (sym (nat_same x.change other e)) in
          own_end x.change (members_of x) x.w.entries x.slot x.kept.in_step k kept (coming.ends kept own).1 (Ended other kept)
      by_change false e = plain_entry x.change (members_of x) x.w.entries x.slot x.kept.in_step k (Ended other kept) e

  told_current : (x : Delivery m setting Known) {event : _} (done : IsDone m setting Known x event) → OfCurrent x.change x.plan x.w.entries x.w.devices x.slot
      → OfCurrent x.change x.plan x.w.entries x.w.devices (slot_then m setting Known x done)
  told_current x done k =
      wires_current x.change x.w.entries x.slot (told_wire x.link done.reply)
      (λ wire at. changed_still x.change x.w.entries wire at (told_on done.reply) x.link) x.device (Some x.side) x.at_side k

  current_keeps : KeepsBy m setting Known OfCurrent OfNone (IsComing m setting Known)
  current_keeps = record {
    entered = λ x entry plain coming k. entered_current x entry coming k;
    decides_on = λ x v ready acts may k. verdict_falls x.change (members_of x) x.w.entries x.slot x.kept.in_step k v;
    sent = λ x device what ready acts k. sent_current x.change (members_of x) x.w.entries x.slot x.kept.in_step k x.plan device ready what acts;
    renewed = λ x device known ready k. renewed_current x.change (members_of x) x.w.entries x.slot x.kept.in_step k x.plan device ready;
    heard = λ x device link number known k. received_current x.change (members_of x) x.w.entries x.slot x.kept.in_step k x.plan device link number;
    broken = λ x device known k. broken_current x.change (members_of x) x.w.entries x.slot x.kept.in_step k x.plan device;
    forgotten = λ x begun going k. forgotten_current x.change x.w.entries x.slot (members_of x) (verdict_in x.change x.w.entries);
    anew = λ x k. anew_current x.change x.w.entries x.slot (members_of x);
    closed = λ change plan entries devices slot device link k.
        wires_current change entries slot (lost_wire link) (λ wire at. changed_still change entries wire at closed_link link) device
        (slice_get slot.sides (device - 1)) refl k;
    restarted = λ change plan entries devices slot device k.
        wires_current change entries slot restarted (restarted_still change entries) device (slice_get slot.sides (device - 1)) refl k;
    aside = λ x d r here known event h happens others k. k;
    told = λ x plain session is done later k own. told_current x done k;
    told_opened = λ x user opening done later k own. told_current x done k;
    entered_beside = λ w b entry may place r here own. own;
    asked_by_link = λ x plain session is done later k own. own;
    opened_by_link = λ x user opening done later k own. own;
    asked_by_operator = λ w b place r here session opened stranger request h happens own. own;
    opened_by_operator = λ w b place r here user stranger h happens own. own;
    silent = λ w b place r here event silent h happens own. own;
  }

  -- ---- the beginning

  fresh_current : (change : ℕ) (entries : List Entry) (own members : ℕ) → AllPairs (CurrentPair change entries) None (fresh_slot own members)
  fresh_current change entries own members j =
      fresh_at (slice_get (seats_from members (Live 0) 1 seat_count) j) (slice_get (replicate seat_count fresh_side) j)
      (all_equal (λ side. IsCurrent change entries side.wire) seat_count fresh_side (λ is. none_current is) j)
    where
      fresh_at : (seat : Option Seat) (side : Option SideState) → IfSome side (λ one. IsCurrent change entries one.wire)
          → PairAt (CurrentPair change entries) j None seat side
      fresh_at None side k = tt
      fresh_at (Some seat) None k = tt
      fresh_at (Some seat) (Some side) k = k

  slots_current : (change : ℕ) (plans : List ChangePlan) (base place : ℕ)
      → IfSome (slice_get (slots_from base plans) place) (λ slot. AllPairs (CurrentPair change []) slot.course.verdict slot)
  slots_current change [] base place = tt
  slots_current change (plan ∷ plans) base zero = fresh_current change [] base (devices_in plan.edits)
  slots_current change (plan ∷ plans) base (suc place) = slots_current change plans (suc base) place

  pub begin_current : (running : List Config) → AreKept {Config = Config} {Node = Node} setting OfCurrent OfNone (begin setting running)
  begin_current running = record {
    slots = λ place plan planned. slots_current (suc place) setting.plans 1 place;
    devices = λ place. to_some (OfNone [] place) (slice_get (begin {Node = Node} setting running).devices place) (λ r here. tt);
  }

  module _ (laws : Laws m) (edits : All m.edit_belongs setting.tables.edits) (few : length setting.plans ≤ 64)
      (strangers : (number : ℕ) → IfSome (slice_get setting.users number) (λ user. is_manager (Some user) ≡ false)) where
    -- each event keeps it
    pub one_current : (w : WorldState Config Node) (event : Event) → IsGiven setting event → IsSupported m setting (core_of w)
        → IsSupported m setting (core_of (world_step m setting w event)) → AreKept setting OfCurrent OfNone (core_of w)
        → AreKept setting OfCurrent OfNone (core_of (world_step m setting w event))
    one_current w event given s later k =
        comes m setting (core_of w)
        (In m laws setting edits few strangers Known (λ v b. b) OfCurrent OfNone (IsComing m setting Known) (λ x entry is. is) current_keeps w s k)
        (cases m laws setting edits few strangers Known (λ v b. b) OfCurrent OfNone (IsComing m setting Known) (λ x entry is. is) current_keeps w s k)
        event given later

    -- and every run
    record AreCurrent (w : WorldState Config Node) : Type 0 where
      supported : IsSupported m setting (core_of w)
      current : AreKept setting OfCurrent OfNone (core_of w)

    one_are : (w : WorldState Config Node) (event : Event) → IsGiven setting event → AreCurrent w → AreCurrent (world_step m setting w event)
    one_are w event given k =
        let later = one_supported m laws setting edits few strangers w event given k.supported in
        record { supported = later; current = one_current w event given k.supported later k.current }

  pub run_current : Laws m → (running : List Config) (events : List Event) → IsProper {Node = Node} m setting running events
      → AreKept setting OfCurrent OfNone (core_of (run m setting (start setting running) events))
  run_current laws running events proper =
      (run_keeps m setting (AreCurrent laws proper.edits proper.few proper.strangers) (one_are laws proper.edits proper.few proper.strangers)
      (start setting running) events proper.given
      (record { supported = begin_supported m setting running proper.first; current = begin_current running })).current
