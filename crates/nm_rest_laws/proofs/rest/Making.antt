-- Each event makes one link at most, or gives an operator one session, and leaves as many devices as there were.
use Rattle.std.proofs.Common.{◌≡◌, ℕ, zero, suc, ◌+◌, ◌-◌, ◌≤◌, Bool, true, false, List, [], ◌∷◌, length, map, Option, Some, None, slice_get, slice_set, refl, ap, arith}
use Rattle.std.proofs.lemmas.Option.{none-some}
use Rattle.std.proofs.lemmas.List.{length-map}
use Rattle.nm_proto.specs.declared.ask.Ask.{Ask}
use Rattle.nm_proto.specs.declared.ask.Ask.TheVariants as ask
use Rattle.nm_proto.specs.declared.message.Request.{Request}
use Rattle.nm_proto.specs.declared.message.Reply.{Reply}
use Rattle.nm_proto.specs.declared.journal.Verdict.{Verdict}
use Rattle.nm_proto.specs.declared.journal.Entry.{Entry}
use Rattle.nm_proto.specs.declared.plan.ChangePlan.{ChangePlan}
use Rattle.nm_proto.specs.declared.plan.Event.{Event}
use Rattle.nm_proto.specs.Content.{Meaning}
use Rattle.nm_proto.specs.Plan.{devices_in}
use Rattle.nm_recovery.specs.Recovery.{verdict_in}
use Rattle.nm_history.specs.declared.event.DeviceEvent.TheVariants.{Entered, Asked, Lost, Advanced, Restarted}
use Rattle.nm_history.specs.History.{RecordedState, advancing, recorded_with, restarting}
use Rattle.nm_decider.specs.Course as course
use Rattle.nm_decider.specs.Course.{CourseState}
use Rattle.nm_wire.specs.declared.link.Exchange.{Exchange}
use Rattle.nm_wire.specs.Link.{LinkState, closed_link, sent_on, fresh_link, session_in, told_on, handled_on}
use Rattle.nm_wire.specs.Wire.{WireState, link_at, changed, sent_at, restarted, handled_at, due}
use Rattle.nm_manager.specs.Requests.{request_for}
use Rattle.nm_manager.specs.Slot.{SideState, SlotState, breaks, receives, renews, sends, PairStep, SlotStep, side_at, with_pair, with_wire, asked_in_fact, opens, may_go, gone, sends_if, sends_request, renews_if, awaits_resync, resync_goes_on, receives_due, breaks_current, cut_off, anew, is_commit, to_commit, decided, lost_memory, wires_on, told_wire, lost_wire, restarted_slot, on_side, sends_pair, renews_pair, receives_pair, breaks_pair}
use Rattle.nm_manager.specs.Manager.{start_anew}
use Rattle.nm_manager.proofs.Reach.{side_reached}
use Rattle.nm_world.specs.World.{Setting, CoreState, Came, with_session, with_opened, elementary}
use Rattle.nm_safety.specs.Safe.{IsGiven}
use Rattle.nm_safety.specs.Cases.{Cases, IsLink, IsOperating}
use Rattle.nm_safety.proofs.Cases.{comes}
use Rattle.nm_safety.proofs.Lists.{one_longer, set_none}
use Rattle.nm_safety.proofs.Places.{set_length}
use Rattle.nm_rest_laws.specs.Closing.{one_if}

-- ---- sums over lists

module _ {A : Type 0} (f : A → ℕ) where
  abbrev pub sum_over : List A → ℕ
  sum_over [] = 0
  sum_over (x ∷ xs) = f x + sum_over xs

  -- one of them is another, and more by so much at most
  sum_set : (more : ℕ) (xs : List A) (i : ℕ) (old new : A) → slice_get xs i ≡ Some old → f new ≤ f old + more → sum_over (slice_set xs i new) ≤ sum_over xs + more
  sum_set more [] i old new e h = absurd (none-some old e)
  sum_set more (x ∷ xs) zero old new e h = let same : f x ≡ f old = (let is : x ≡ old = cc in ap f is) in omega (arith, same, h)
  sum_set more (x ∷ xs) (suc i) old new e h = let rest = sum_set more xs i old new e h in omega (arith, rest)

  -- each is another that isn't more
  sum_map : (change : A → A) → ((x : A) → f (change x) ≤ f x) → (xs : List A) → sum_over (map change xs) ≤ sum_over xs
  sum_map change each [] = omega arith
  sum_map change each (x ∷ xs) = let one = each x in let rest = sum_map change each xs in omega (arith, one, rest)

abbrev pub links_on : SideState → ℕ
links_on side = length side.wire.links

abbrev pub links_of : SlotState → ℕ
links_of slot = sum_over links_on slot.sides

abbrev pub given_to : List (Option ℕ) → ℕ
given_to operator = sum_over (one_if {A = ℕ}) operator

-- how many links were made, and how many sessions operators have been given last
abbrev pub made : {Config Node : Type 0} → CoreState Config Node → ℕ
made w = sum_over links_of w.slots + sum_over given_to w.operators

-- ---- what happens on links

changed_links : (change : LinkState → LinkState) (wire : WireState) (number : ℕ) (found : Option LinkState) → length (changed change wire number found).links ≡ length wire.links
changed_links change wire number None = refl
changed_links change wire number (Some link) = set_length wire.links (number - 1) (change link)

sent_links : (wire : WireState) (request : Request) (current : Option ℕ) → length (sent_at wire request current).links ≡ length wire.links
sent_links wire request None = refl
sent_links wire request (Some number) = changed_links (sent_on request) wire number (link_at wire number)

gone_links : (new : Bool) (wire : WireState) (request : Request) → length (gone new wire request).links ≤ length wire.links + 1
gone_links true wire request = let more = one_longer wire.links (sent_on request fresh_link) in omega (arith, more)
gone_links false wire request = let same = sent_links wire request wire.current in omega (arith, same)

handled_links : (wire : WireState) (link : ℕ) (found : Option Exchange) → length (handled_at wire link found).links ≡ length wire.links
handled_links wire link None = refl
handled_links wire link (Some exchange) = changed_links handled_on wire link (link_at wire link)

restarted_links : (wire : WireState) → length (restarted wire).links ≡ length wire.links
restarted_links wire = length-map wire.links closed_link

-- ---- a change set

module _ (slot : SlotState) where
  abbrev More : SlotState → Type 0
  More new = links_of new ≤ links_of slot + 1

  same_more : More slot
  same_more = omega arith

  side_more : (device : ℕ) (side new : SideState) → slice_get slot.sides (device - 1) ≡ Some side → links_on new ≤ links_on side + 1 → sum_over links_on (slice_set slot.sides (device - 1) new) ≤ links_of slot + 1
  side_more device side new there h = sum_set links_on 1 slot.sides (device - 1) side new there h

  no_more : (n : ℕ) → n ≤ n + 1
  no_more n = omega arith

  -- a step for a device, where it has a side
  on_more : (step : CourseState → SideState → PairStep) (device : ℕ)
      → ((side : SideState) → slice_get slot.sides (device - 1) ≡ Some side → More (with_pair slot device (step slot.course side)).slot)
      → More (on_side step slot device (side_at slot device)).slot
  on_more step device = side_reached step slot device (λ (done : SlotStep). More done.slot) same_more

  out_if : (device : ℕ) (side : SideState) → slice_get slot.sides (device - 1) ≡ Some side → (before now : CourseState) (new : Bool) (request : Request) (b : Bool) → More (with_pair slot device (sends_if b new device before now side request)).slot
  out_if device side there before now new request false = side_more device side side there (no_more (links_on side))
  out_if device side there before now new request true = side_more device side (with_wire side (gone new side.wire request)) there (gone_links new side.wire request)

  out_by : (device : ℕ) (side : SideState) → slice_get slot.sides (device - 1) ≡ Some side → (before now : CourseState) (new : Bool) (found : Option Request) → More (with_pair slot device (sends_request new device before now side found)).slot
  out_by device side there before now new None = side_more device side side there (no_more (links_on side))
  out_by device side there before now new (Some request) = out_if device side there before now new request (may_go new side.wire)

  sent_more : (plan : ChangePlan) (entries : List Entry) (device : ℕ) (what : Ask) → More (sends plan entries slot device what).slot
  sent_more plan entries device what =
      on_more (sends_pair plan entries device what) device
      (λ side there. out_by device side there slot.course (course.with_sent slot.course device) (opens (asked_in_fact side.resync what)) (request_for plan entries slot.course.change device (asked_in_fact side.resync what)))

  renewed_if : (plan : ChangePlan) (entries : List Entry) (device : ℕ) (side : SideState) → slice_get slot.sides (device - 1) ≡ Some side → (b : Bool) → More (with_pair slot device (renews_if b plan entries slot.course side device)).slot
  renewed_if plan entries device side there false = side_more device side side there (no_more (links_on side))
  renewed_if plan entries device side there true = out_by device side there slot.course (course.with_renewed slot.course device) false (request_for plan entries slot.course.change device ask.Renew)

  renewed_more : (plan : ChangePlan) (entries : List Entry) (device : ℕ) → More (renews plan entries slot device).slot
  renewed_more plan entries device =
      on_more (renews_pair plan entries device) device (λ side there. renewed_if plan entries device side there (course.may_renew slot.course device))

  heard_by : (device : ℕ) (side : SideState) → slice_get slot.sides (device - 1) ≡ Some side → (resyncs : Bool) (links : WireState) → length links.links ≡ length side.wire.links → (told : Option Exchange)
      → More (with_pair slot device (receives_due resyncs slot.course side device links told)).slot
  heard_by device side there resyncs links same None = side_more device side side there (no_more (links_on side))
  heard_by device side there resyncs links same (Some exchange) = side_more device side (record { wire = links; resync = resync_goes_on resyncs side.resync exchange.reply }) there (omega (arith, same))

  heard_more : (device link number : ℕ) → More (receives slot device link number).slot
  heard_more device link number =
      on_more (receives_pair device link number) device
      (λ side there. heard_by device side there (awaits_resync (slice_get slot.course.seats (device - 1))) (handled_at side.wire link (due side.wire link number)) (handled_links side.wire link (due side.wire link number)) (due side.wire link number))

  broken_by_more : (device : ℕ) (side : SideState) → slice_get slot.sides (device - 1) ≡ Some side → (current : Option ℕ) → More (with_pair slot device (breaks_current slot.course side device current)).slot
  broken_by_more device side there None = side_more device side side there (no_more (links_on side))
  broken_by_more device side there (Some number) = side_more device side (cut_off (to_commit slot.course.verdict) side) there (no_more (links_on side))

  broken_more : (device : ℕ) → More (breaks slot device).slot
  broken_more device = on_more (breaks_pair device) device (λ side there. broken_by_more device side there side.wire.current)

  decided_more : (v : Verdict) → More (decided slot v)
  decided_more v = let less = sum_map links_on (anew (is_commit v)) (λ side. omega arith) slot.sides in omega (arith, less)

  cut_within : (commit : Bool) → sum_over links_on (map (cut_off commit) slot.sides) ≤ links_of slot
  cut_within commit = sum_map links_on (cut_off commit) (λ side. omega arith) slot.sides

  lost_more : (devices : ℕ) (found : Option Verdict) → More (lost_memory slot devices found)
  lost_more devices found = let less = cut_within (to_commit found) in omega (arith, less)

  wires_within : (happens : WireState → WireState) → ((wire : WireState) → length (happens wire).links ≡ length wire.links) → (device : ℕ) (found : Option SideState) → slice_get slot.sides (device - 1) ≡ found → links_of (wires_on happens slot device found) ≤ links_of slot
  wires_within happens same device None there = omega arith
  wires_within happens same device (Some side) there =
      let less = sum_set links_on 0 slot.sides (device - 1) side (with_wire side (happens side.wire)) there (let one = same side.wire in omega (arith, one)) in omega (arith, less)

-- ---- each kind of step

-- an operator is given a session
session_makes : (operator : List (Option ℕ)) (place : ℕ) (opened : Option ℕ) → given_to (with_session operator place opened) ≤ given_to operator + 1
session_makes operator place None = omega arith
session_makes operator place (Some session) = by_place (slice_get operator place) refl
  where
    one_most : (o : Option ℕ) → one_if (Some session) ≤ one_if o + 1
    one_most None = omega arith
    one_most (Some other) = omega arith

    by_place : (o : Option (Option ℕ)) → slice_get operator place ≡ o → given_to (slice_set operator place (Some session)) ≤ given_to operator + 1
    by_place None e = let same = ap given_to (set_none operator place (Some session) e) in omega (arith, same)
    by_place (Some old) e = sum_set (one_if {A = ℕ}) 1 operator place old (Some session) e (one_most old)

-- the manager starts anew
anew_within : (entries : List Entry) (base : ℕ) (plans : List ChangePlan) (slots : List SlotState)
    → sum_over links_of (start_anew entries base plans slots) ≤ sum_over links_of slots
anew_within entries base [] slots = omega arith
anew_within entries base (plan ∷ plans) [] = omega arith
anew_within entries base (plan ∷ plans) (slot ∷ slots) =
    let first = cut_within slot (to_commit (verdict_in base entries)) in
    let rest = anew_within entries (suc base) plans slots in
    omega (arith, first, rest)

-- one more at most was made, and there are as many devices
record IsNear {Config Node : Type 0} (w : CoreState Config Node) (devices : List (RecordedState Config Node)) (slots : List SlotState)
    (operators : List (List (Option ℕ))) : Type 0 where
  one : sum_over links_of slots + sum_over given_to operators ≤ made w + 1
  count : length devices ≡ length w.devices

module _ {Config TheEdit Node : Type 0} (m : Meaning Config TheEdit Node) (setting : Setting TheEdit) (w : CoreState Config Node) where
  abbrev Near : Event → Came Config Node → Type 0
  Near event c = IsNear w c.after.devices c.after.slots c.after.operators

  same_near : IsNear w w.devices w.slots w.operators
  same_near = record { one = omega arith; count = refl }

  by_links : (a b c : ℕ) → a ≤ b + 1 → a + c ≤ b + c + 1
  by_links a b c h = omega (arith, h)

  links_near : (slots : List SlotState) → sum_over links_of slots ≤ sum_over links_of w.slots + 1 → IsNear w w.devices slots w.operators
  links_near slots h = record { one = by_links (sum_over links_of slots) (sum_over links_of w.slots) (sum_over given_to w.operators) h; count = refl }

  slot_near : (change : ℕ) (slot new : SlotState) → slice_get w.slots (change - 1) ≡ Some slot → More slot new
      → IsNear w w.devices (slice_set w.slots (change - 1) new) w.operators
  slot_near change slot new there h = links_near (slice_set w.slots (change - 1) new) (sum_set links_of 1 w.slots (change - 1) slot new there h)

  -- a device is another
  device_near : (device : ℕ) (r : RecordedState Config Node) (slots : List SlotState) (operators : List (List (Option ℕ)))
      → IsNear w w.devices slots operators → IsNear w (slice_set w.devices (device - 1) r) slots operators
  device_near device r slots operators k = record { one = k.one; count = set_length w.devices (device - 1) r }

  wired_near : (change device link : ℕ) (a : IsLink w change device link) (happens : WireState → WireState)
      → ((wire : WireState) → length (happens wire).links ≡ length wire.links)
      → IsNear w w.devices (slice_set w.slots (change - 1) (wires_on happens a.slot device (Some a.side))) w.operators
  wired_near change device link a happens same =
      slot_near change a.slot (wires_on happens a.slot device (Some a.side)) a.there
      (let less = wires_within a.slot happens same device (Some a.side) a.at_side in omega (arith, less))

  told_near : (change device link : ℕ) (a : IsLink w change device link) (reply : Reply) (after : RecordedState Config Node)
      → IsNear w (slice_set w.devices (device - 1) after) (slice_set w.slots (change - 1) (wires_on (told_wire link reply) a.slot device (Some a.side))) w.operators
  told_near change device link a reply after =
      device_near device after (slice_set w.slots (change - 1) (wires_on (told_wire link reply) a.slot device (Some a.side))) w.operators
      (wired_near change device link a (told_wire link reply) (λ wire. changed_links (told_on reply) wire link (link_at wire link)))

  lost_near : (change device link : ℕ) (a : IsLink w change device link)
      → IsNear w w.devices (slice_set w.slots (change - 1) (wires_on (lost_wire link) a.slot device (Some a.side))) w.operators
  lost_near change device link a =
      wired_near change device link a (lost_wire link) (λ wire. changed_links closed_link wire link (link_at wire link))

  restarted_near : (device : ℕ) (after : RecordedState Config Node)
      → IsNear w (slice_set w.devices (device - 1) after) (map (restarted_slot device) w.slots) w.operators
  restarted_near device after =
      device_near device after (map (restarted_slot device) w.slots) w.operators
      (links_near (map (restarted_slot device) w.slots)
      (let less = sum_map links_of (restarted_slot device) (λ slot. wires_within slot restarted restarted_links device (side_at slot device) refl) w.slots in
      omega (arith, less)))

  operated_near : (number device : ℕ) (a : IsOperating w number device) (reply : Reply) (after : RecordedState Config Node)
      → IsNear w (slice_set w.devices (device - 1) after) w.slots (slice_set w.operators (number - 1) (with_opened a.operator (device - 1) reply))
  operated_near number device a reply after =
      device_near device after w.slots (slice_set w.operators (number - 1) (with_opened a.operator (device - 1) reply)) (record { one = opened; count = refl })
    where
      opened : sum_over links_of w.slots + sum_over given_to (slice_set w.operators (number - 1) (with_opened a.operator (device - 1) reply)) ≤ made w + 1
      opened =
          let more = sum_set given_to 1 w.operators (number - 1) a.operator (with_opened a.operator (device - 1) reply) a.there
          (session_makes a.operator (device - 1) (session_in reply)) in
          omega (arith, more)

  near : Cases m setting w Near
  near = record {
    nothing = λ event. same_near;
    starts = λ change numbered plan planned may. same_near;
    decides = λ change a ready v acts may. slot_near change a.slot (decided a.slot v) a.there (decided_more a.slot v);
    finishes = λ change a ready kept acts may. same_near;
    sends_out = λ change a ready device what acts.
        slot_near change a.slot (sends a.plan w.entries a.slot device what).slot a.there (sent_more a.slot a.plan w.entries device what);
    renews_timer = λ change device a known ready.
        slot_near change a.slot (renews a.plan w.entries a.slot device).slot a.there (renewed_more a.slot a.plan w.entries device);
    hears = λ change device link number a known.
        slot_near change a.slot (receives a.slot device link number).slot a.there (heard_more a.slot device link number);
    breaks_off = λ change device a known. slot_near change a.slot (breaks a.slot device).slot a.there (broken_more a.slot device);
    forgets = λ change a begun going.
        slot_near change a.slot (lost_memory a.slot (devices_in a.plan.edits) (verdict_in change w.entries)) a.there
        (lost_more a.slot (devices_in a.plan.edits) (verdict_in change w.entries));
    crashes = links_near (start_anew w.entries 1 setting.plans w.slots)
        (let less = anew_within w.entries 1 setting.plans w.slots in omega (arith, less));
    tells = λ change device link a request out plain session is d.
        told_near change device link a d.reply (recorded_with a.r (Asked session request) d.h);
    opens = λ change device link a user out d. told_near change device link a d.reply (recorded_with a.r (Entered user) d.h);
    loses_session = λ change device link a opened session is h happens.
        device_near device (recorded_with a.r (Lost session) h) (slice_set w.slots (change - 1) (wires_on (lost_wire link) a.slot device (Some a.side)))
        w.operators (lost_near change device link a);
    closes = λ change device link a opened is. lost_near change device link a;
    restarts = λ device r here. restarted_near device (recorded_with r Restarted (restarting m r.device));
    passes = λ device seconds r here.
        device_near device (recorded_with r (Advanced seconds) (advancing m r.device seconds)) w.slots w.operators same_near;
    asks = λ number device a request plain session given opened d.
        operated_near number device a d.reply (recorded_with a.r (Asked session request) d.h);
    enters = λ number device a user own free d. operated_near number device a d.reply (recorded_with a.r (Entered user) d.h);
    leaves = λ number device a session given opened h happens.
        device_near device (recorded_with a.r (Lost session) h) w.slots w.operators same_near;
  }

  -- ---- each event

  comes_near : (event : Event) → IsGiven setting event → Near event (elementary m setting w event)
  comes_near event given = comes m setting w Near near event given

  pub makes_one : (event : Event) → IsGiven setting event → made (elementary m setting w event).after ≤ made w + 1
  makes_one event given = (comes_near event given).one

  pub as_many : (event : Event) → IsGiven setting event → length (elementary m setting w event).after.devices ≡ length w.devices
  as_many event given = (comes_near event given).count
