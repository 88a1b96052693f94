-- What all links of a change set keep, at each step of the manager and at each device's side.
use Rattle.std.proofs.Common.{◌≡◌, ℕ, ◌-◌, Bool, true, false, List, Option, Some, None, IfSome, map, option_map, slice_get, slice_set, refl, sym, subst}
use Rattle.std.proofs.lemmas.Option.{slice_get-map}
use Rattle.nm_proto.specs.declared.ask.Ask.{Ask}
use Rattle.nm_proto.specs.declared.ask.Ask.TheVariants as ask
use Rattle.nm_proto.specs.declared.message.Request.{Request}
use Rattle.nm_proto.specs.declared.journal.Entry.{Entry}
use Rattle.nm_proto.specs.declared.journal.Verdict.{Verdict}
use Rattle.nm_proto.specs.declared.plan.ChangePlan.{ChangePlan}
use Rattle.nm_decider.specs.Course as course
use Rattle.nm_decider.specs.Course.{CourseState}
use Rattle.nm_wire.specs.declared.link.Exchange.{Exchange}
use Rattle.nm_wire.specs.Link.{LinkState, fresh_link, sent_on, handled_on, closed_link, is_quiet_way}
use Rattle.nm_wire.specs.Wire.{WireState, link_at, lost, restarted, handled_at, due}
use Rattle.nm_manager.specs.Requests.{request_for}
use Rattle.nm_manager.specs.Slot.{SideState, SlotState, PairStep, SlotStep, with_wire, with_pair, gone, opens, may_go, asked_in_fact, sends_if, sends_request, sends, renews_if, renews, hears, receives_due, receives, awaits_resync, breaks_current, breaks, cut_off, anew, is_commit, decided, wires_on, on_side, sends_pair, renews_pair, receives_pair, breaks_pair}
use Rattle.nm_manager.proofs.Reach.{side_reached}
use Rattle.nm_safety.proofs.Gone.{each_gone, each_heard, each_changed, each_restarted}
use Rattle.nm_safety.proofs.Wires.{IsDue, due_is}
use Rattle.nm_safety.proofs.Places.{set_same}
use Rattle.nm_safety.specs.Support.{AllLinks}
use Rattle.nm_safety.proofs.Lists.{at_set, some_is, to_some}

abbrev pub Links : (ℕ → LinkState → Type 0) → WireState → Type 0
Links P wire = (place : ℕ) → IfSome (slice_get wire.links place) (P place)

module _ (P : ℕ → ℕ → LinkState → Type 0) (slot : SlotState) (all : AllLinks P slot.sides) where
  pub links_at : (d : ℕ) (side : SideState) → slice_get slot.sides d ≡ Some side → Links (P d) side.wire
  links_at d side there = some_is side (λ one. Links (P d) one.wire) (slice_get slot.sides d) there (all d)

  pub set_links : (d : ℕ) (side new : SideState) → slice_get slot.sides d ≡ Some side → Links (P d) new.wire → AllLinks P (slice_set slot.sides d new)
  set_links d side new there now = at_set (λ k one. Links (P k) one.wire) slot.sides d side new there now all

  pub same_links : (d : ℕ) (side : SideState) → slice_get slot.sides d ≡ Some side → AllLinks P (slice_set slot.sides d side)
  same_links d side there = subst (AllLinks P) (sym (set_same slot.sides d side there)) all

  map_links : (change : SideState → SideState) → ((d : ℕ) (side : SideState) → Links (P d) side.wire → Links (P d) (change side).wire) → AllLinks P (map change slot.sides)
  map_links change step d =
      subst (λ found. IfSome found (λ one. Links (P d) one.wire)) (sym (slice_get-map change slot.sides d)) (mapped (slice_get slot.sides d) (all d))
    where
      mapped : (found : Option SideState) → IfSome found (λ one. Links (P d) one.wire) → IfSome (option_map change found) (λ one. Links (P d) one.wire)
      mapped None h = tt
      mapped (Some side) h = step d side h

  -- a step for a device, where it has a side
  on_links : (step : CourseState → SideState → PairStep) (device : ℕ)
      → ((side : SideState) → slice_get slot.sides (device - 1) ≡ Some side → AllLinks P (with_pair slot device (step slot.course side)).slot.sides)
      → AllLinks P (on_side step slot device (slice_get slot.sides (device - 1))).slot.sides
  on_links step device = side_reached step slot device (λ (done : SlotStep). AllLinks P done.slot.sides) all

  -- ---- a request goes out

  module _ (fresh : (d place : ℕ) → P d place fresh_link) (R : Request → Type 0) (step : (d place : ℕ) (request : Request) (link : LinkState) → R request → is_quiet_way link.way ≡ true → P d place link → P d place (sent_on request link)) where
    gone_if : (device : ℕ) (side : SideState) → slice_get slot.sides (device - 1) ≡ Some side → (before now : CourseState) (new : Bool) (request : Request) → R request → (b : Bool) → may_go new side.wire ≡ b
        → AllLinks P (with_pair slot device (sends_if b new device before now side request)).slot.sides
    gone_if device side there before now new request ours false e = same_links (device - 1) side there
    gone_if device side there before now new request ours true e =
        set_links (device - 1) side (with_wire side (gone new side.wire request)) there
        (each_gone (P (device - 1)) new side.wire request e (fresh (device - 1)) (λ place link current quiet p. step (device - 1) place request link ours quiet p) (links_at (device - 1) side there))

    gone_by : (device : ℕ) (side : SideState) → slice_get slot.sides (device - 1) ≡ Some side → (before now : CourseState) (new : Bool) (found : Option Request) → IfSome found R
        → AllLinks P (with_pair slot device (sends_request new device before now side found)).slot.sides
    gone_by device side there before now new None ours = same_links (device - 1) side there
    gone_by device side there before now new (Some request) ours = gone_if device side there before now new request ours (may_go new side.wire) refl

    module _ (plan : ChangePlan) (entries : List Entry) (ours : (device : ℕ) (what : Ask) → IfSome (request_for plan entries slot.course.change device what) R) where
      pub sent_links : (device : ℕ) (what : Ask) → AllLinks P (sends plan entries slot device what).slot.sides
      sent_links device what =
          on_links (sends_pair plan entries device what) device
          (λ side there.
          gone_by device side there slot.course (course.with_sent slot.course device) (opens (asked_in_fact side.resync what))
          (request_for plan entries slot.course.change device (asked_in_fact side.resync what)) (ours device (asked_in_fact side.resync what)))

      renewed_if : (device : ℕ) (side : SideState) → slice_get slot.sides (device - 1) ≡ Some side → (b : Bool) → AllLinks P (with_pair slot device (renews_if b plan entries slot.course side device)).slot.sides
      renewed_if device side there false = same_links (device - 1) side there
      renewed_if device side there true =
          gone_by device side there slot.course (course.with_renewed slot.course device) false (request_for plan entries slot.course.change device ask.Renew) (ours device ask.Renew)

      pub renewed_links : (device : ℕ) → AllLinks P (renews plan entries slot device).slot.sides
      renewed_links device =
          on_links (renews_pair plan entries device) device (λ side there. renewed_if device side there (course.may_renew slot.course device))

  -- ---- a reply is handled

  module _ (step : (d place : ℕ) (link : LinkState) → P d place link → P d place (handled_on link)) where
    due_links : (device link number : ℕ) (side : SideState) → slice_get slot.sides (device - 1) ≡ Some side → (resyncs : Bool) (told_now : Option Exchange) → due side.wire link number ≡ told_now
        → AllLinks P (with_pair slot device (receives_due resyncs slot.course side device (handled_at side.wire link told_now) told_now)).slot.sides
    due_links device link number side there resyncs None e = same_links (device - 1) side there
    due_links device link number side there resyncs (Some exchange) e =
        let is : IsDue side.wire link exchange = due_is side.wire link number exchange e in
        set_links (device - 1) side (hears resyncs slot.course side device (handled_at side.wire link (Some exchange)) exchange.reply).side there
        (each_heard side.wire link exchange is (P (device - 1)) (λ place p. step (device - 1) place is.held p) (links_at (device - 1) side there))

    pub received_links : (device link number : ℕ) → AllLinks P (receives slot device link number).slot.sides
    received_links device link number =
        on_links (receives_pair device link number) device
        (λ side there. due_links device link number side there (awaits_resync (slice_get slot.course.seats (device - 1))) (due side.wire link number) refl)

  -- ---- links break, and memory is lost

  breaks_links : (device : ℕ) (side : SideState) → slice_get slot.sides (device - 1) ≡ Some side → (current : Option ℕ) → AllLinks P (with_pair slot device (breaks_current slot.course side device current)).slot.sides
  breaks_links device side there None = same_links (device - 1) side there
  breaks_links device side there (Some number) = set_links (device - 1) side (cut_off _ side) there (links_at (device - 1) side there)

  pub broken_links : (device : ℕ) → AllLinks P (breaks slot device).slot.sides
  broken_links device = on_links (breaks_pair device) device (λ side there. breaks_links device side there side.wire.current)

  pub decided_links : (v : Verdict) → AllLinks P (decided slot v).sides
  decided_links v = map_links (anew (is_commit v)) (λ d side h. h)

  pub cut_links : (commit : Bool) → AllLinks P (map (cut_off commit) slot.sides)
  cut_links commit = map_links (cut_off commit) (λ d side h. h)

  -- ---- at a device's side

  wires_links : (happens : WireState → WireState) (device : ℕ) → ((wire : WireState) → Links (P (device - 1)) wire → Links (P (device - 1)) (happens wire)) → (found : Option SideState) → slice_get slot.sides (device - 1) ≡ found
      → AllLinks P (wires_on happens slot device found).sides
  wires_links happens device step None there = all
  wires_links happens device step (Some side) there = set_links (device - 1) side (with_wire side (happens side.wire)) there (step side.wire (links_at (device - 1) side there))

  pub closed_links : (device link : ℕ) → ((d place : ℕ) (link : LinkState) → P d place link → P d place (closed_link link)) → AllLinks P (wires_on (λ wire. lost wire link) slot device (slice_get slot.sides (device - 1))).sides
  closed_links device link step =
      wires_links (λ wire. lost wire link) device (λ wire h. each_changed closed_link wire link (P (device - 1)) (λ place one p. step (device - 1) place one p) (link_at wire link) refl h) (slice_get slot.sides (device - 1)) refl

  pub restarted_links : (device : ℕ) → ((d place : ℕ) (link : LinkState) → P d place link → P d place (closed_link link)) → AllLinks P (wires_on restarted slot device (slice_get slot.sides (device - 1))).sides
  restarted_links device step =
      wires_links restarted device (λ wire h. each_restarted (P (device - 1)) (λ place one p. step (device - 1) place one p) wire h) (slice_get slot.sides (device - 1)) refl

-- what follows for each link from what is so of it
pub each_link : (P Q : ℕ → ℕ → LinkState → Type 0) (sides : List SideState)
    → ((d : ℕ) (side : SideState) → slice_get sides d ≡ Some side → (place : ℕ) (link : LinkState) → slice_get side.wire.links place ≡ Some link → P d place link → Q d place link)
    → AllLinks P sides → AllLinks Q sides
each_link P Q sides step all d =
    to_some (λ side. Links (Q d) side.wire) (slice_get sides d)
    (λ side there place.
    to_some (Q d place) (slice_get side.wire.links place)
    (λ link found.
    step d side there place link found
    (some_is link (P d place) (slice_get side.wire.links place) found (some_is side (λ one. Links (P d) one.wire) (slice_get sides d) there (all d) place))))
