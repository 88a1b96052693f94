-- What is kept of each link of a change set where the commit is asked for, at each step of the manager and at each device's side.
use Rattle.std.proofs.Common.{◌≡◌, ◌∙◌, inl, ℕ, ◌+◌, ◌-◌, ◌≤◌, true, false, List, [], ◌∷◌, ◌++◌, Option, Some, None, IfSome, is_some, option_map, slice_get, slice_set, refl, sym, ap}
use Rattle.std.proofs.lemmas.Option.{none-some}
use Rattle.nm_base.specs.Mask.{mask_contains}
use Rattle.nm_proto.specs.declared.ask.Ask.{Ask}
use Rattle.nm_proto.specs.declared.ask.Ask.TheVariants as ask
use Rattle.nm_proto.specs.declared.message.Store.TheVariants.{Running}
use Rattle.nm_proto.specs.declared.journal.Entry.{Entry}
use Rattle.nm_proto.specs.declared.plan.ChangePlan.{ChangePlan}
use Rattle.nm_proto.specs.Content.{Meaning, Laws}
use Rattle.nm_proto.specs.Plan.{devices_in}
use Rattle.nm_sessions.specs.Sessions.{is_open}
use Rattle.nm_history.specs.declared.event.DeviceEvent.{DeviceEvent}
use Rattle.nm_history.specs.History.{Happened, RecordedState, recorded_with}
use Rattle.nm_journal.specs.Entries.{ends}
use Rattle.nm_device_laws.specs.Keeps.{KeepsFor, KeepsOpen}
use Rattle.nm_device_laws.specs.Moment.{Happens}
use Rattle.nm_decider.specs.declared.course.NextAction.TheVariants.{Send}
use Rattle.nm_decider.specs.Course.{next_action}
use Rattle.nm_wire.specs.Asks.{ask_of}
use Rattle.nm_wire.specs.Link.{LinkState, told_on}
use Rattle.nm_wire.specs.Wire.{WireState}
use Rattle.nm_manager.specs.Queues.{is_ready_in}
use Rattle.nm_manager.specs.Slot.{SlotState, asked_in_fact, gone, opens, receives, renews, sends}
use Rattle.nm_safety.specs.Step.{IsInStep}
use Rattle.nm_safety.specs.Support.{AllLinks, IsDevice, IsKept, Owners}
use Rattle.nm_safety.specs.Keeping.{Delivery, IsDone, IsOthers, Site, slot_then, devices_then}
use Rattle.nm_safety.proofs.Answered.{told_link}
use Rattle.nm_safety.proofs.Entries.{any_later}
use Rattle.nm_safety.proofs.EachLink.{Stays, links_aside, links_told}
use Rattle.nm_safety.proofs.Gone.{each_gone}
use Rattle.nm_safety.proofs.LinkPairs.{renewed_to_own, sent_to_own}
use Rattle.nm_safety.proofs.Lists.{some_is, to_some}
use Rattle.nm_safety.proofs.SlotLinks.{Links, each_link, received_links}
use Rattle.nm_safety.proofs.Tickets.{AreTickets}
use Rattle.nm_world.specs.World.{Setting, WorldState}
use Rattle.nm_commit_laws.proofs.marks.Asks.{AloneAsked, AloneOn, AsksCommit, IsAlone, IsWaiting, KnownAsked, handled_same, renew_other}
use Rattle.nm_commit_laws.proofs.marks.Comes.{held_now}
use Rattle.nm_commit_laws.proofs.marks.Known.{known_later, other_ended}
use Rattle.nm_commit_laws.proofs.marks.Staying.{there_free}

-- ---- a reply is handled

module _ (Q : ℕ → LinkState → Type 0) (slot : SlotState) (all : AllLinks (λ d place link. AsksCommit link → Q d link) slot.sides) where
  pub heard_asks : (device link number : ℕ) → AllLinks (λ d place link. AsksCommit link → Q d link) (receives slot device link number).slot.sides
  heard_asks =
      received_links (λ d place link. AsksCommit link → Q d link) slot all (λ d place link p. handled_same (Q d) link link.way refl p)

-- ---- the device is of the change set

module _ (plans : List ChangePlan) (entries : List Entry) (change : ℕ) (slot : SlotState)
    (all : AllLinks (KnownAsked plans entries change) slot.sides) where
  abbrev P : ℕ → ℕ → LinkState → Type 0
  P = KnownAsked plans entries change

  pub known_entered : (entry : Entry) → AllLinks (KnownAsked plans (entries ++ entry ∷ []) change) slot.sides
  known_entered entry =
      each_link P (KnownAsked plans (entries ++ entry ∷ []) change) slot.sides
      (λ d side there place link found p asks. known_later plans entries entry change d (p asks)) all

  module _ (plan : ChangePlan) (planned : slice_get plans (change - 1) ≡ Some plan)
      (in_step : IsInStep change (devices_in plan.edits) entries slot) where
    -- where it is ready and the device is its own, whatever is asked
    own_known : is_ready_in entries change ≡ true → (d : ℕ) → mask_contains (devices_in plan.edits) (d + 1) ≡ true → (wire : WireState) → Links (P d) wire
    own_known ready d member wire place =
        to_some (P d place) (slice_get wire.links place)
        (λ link found asks. record { begun = inl ready; plan = plan; planned = planned; member = member })

    pub known_sent : is_ready_in entries change ≡ true → (device : ℕ) (what : Ask) → next_action slot.course ≡ Send device what
        → AllLinks P (sends plan entries slot device what).slot.sides
    known_sent ready device what acts =
        sent_to_own P change (devices_in plan.edits) entries slot in_step all device what
        (λ side member request is goes links. own_known ready (device - 1) member (gone (opens (asked_in_fact side.resync what)) side.wire request))
        plan acts

    pub known_renewed : (device : ℕ) → 1 ≤ device → AllLinks P (renews plan entries slot device).slot.sides
    known_renewed device numbered =
        renewed_to_own P change (devices_in plan.edits) entries slot in_step all device numbered
        (λ side request is goes links.
        each_gone (P (device - 1)) false side.wire request goes (λ place asks. absurd (none-some ask.CommitConfirmed asks))
        (λ place link current quiet p asks. absurd (renew_other request is asks)) links) plan

-- ---- all others are ended

module _ {Config Node : Type 0} (entries : List Entry) (change : ℕ) (devices : List (RecordedState Config Node)) where
  pub alone_entered : (slot : SlotState) → AllLinks (λ d. AloneAsked entries change d (slice_get devices d)) slot.sides → (entry : Entry)
      → AllLinks (λ d. AloneAsked (entries ++ entry ∷ []) change d (slice_get devices d)) slot.sides
  alone_entered slot all entry =
      each_link (λ d. AloneAsked entries change d (slice_get devices d)) (λ d. AloneAsked (entries ++ entry ∷ []) change d (slice_get devices d))
      slot.sides
      (λ d side there place link found p asks.
      to_some (AloneOn (entries ++ entry ∷ []) change link) (slice_get devices d)
      (λ r here session at opened. later r session (some_is r (AloneOn entries change link) (slice_get devices d) here (p asks) session at opened)))
      all
    where
      later : (r : RecordedState Config Node) (session : ℕ) → IsAlone entries change session r → IsAlone (entries ++ entry ∷ []) change session r
      later r session p = record { held = p.held; ended = λ n small other is. any_later (ends n) entries entry (p.ended n small other is) }

  -- where the change set is ready
  pub alone_ready : (plans : List ChangePlan) (members : ℕ) (owners : ℕ → Owners) (slot : SlotState) → IsKept change members entries owners devices slot
      → ((d : ℕ) → IfSome (slice_get devices d) (IsWaiting plans entries d)) → AreTickets plans entries → is_ready_in entries change ≡ true
      → AllLinks (KnownAsked plans entries change) slot.sides → AllLinks (λ d. AloneAsked entries change d (slice_get devices d)) slot.sides
  alone_ready plans members owners slot k known tickets ready all =
      each_link (KnownAsked plans entries change) (λ d. AloneAsked entries change d (slice_get devices d)) slot.sides
      (λ d side there place link found p asks.
      to_some (AloneOn entries change link) (slice_get devices d)
      (λ r here session at opened. record {
        held = held_now change members entries owners devices slot k d side there place link found asks r here session at opened;
        ended = λ n small other is.
            other_ended plans entries tickets change n d ready (p asks)
            ((some_is r (IsWaiting plans entries d) (slice_get devices d) here (known d)).known n small is) other;
      })) all

-- ---- at a device's side

module _ {Config TheEdit Node : Type 0} (m : Meaning Config TheEdit Node) (setting : Setting TheEdit) (B : WorldState Config Node → Type 0) where
  abbrev KnownOn : List Entry → ℕ → ℕ → Option (RecordedState Config Node) → ℕ → LinkState → Type 0
  KnownOn entries change d device place link = KnownAsked setting.plans entries change d place link

  -- what is told isn't asked
  none_asked : (x : Delivery m setting B) {event : DeviceEvent} (done : IsDone m setting B x event) → AsksCommit (told_on done.reply x.one) → ⊥
  none_asked x done asks =
      none-some ask.CommitConfirmed (sym (ap (option_map ask_of) (told_link x.one x.request done.reply x.way).none) ∙ asks)

  pub known_told : (x : Delivery m setting B) {event : DeviceEvent} (done : IsDone m setting B x event)
      → AllLinks (KnownAsked setting.plans x.w.entries x.change) x.slot.sides
      → AllLinks (KnownAsked setting.plans x.w.entries x.change) (slot_then m setting B x done).sides
  known_told x done all =
      links_told m setting B (KnownOn x.w.entries x.change) x done (λ place link keeps p. p) (λ asks. absurd (none_asked x done asks)) all

  module _ (laws : Laws m) where
    -- who has running to itself keeps it while others act, and nothing comes to be there
    alone_stays : (entries : List Entry) (change d : ℕ) (r : RecordedState Config Node) (event : DeviceEvent) (h : Happened Config Node)
        → Happens m setting.tables r.device event h → Stays m setting B (AloneAsked entries change) d r event h
    alone_stays entries change d r event h happens place link keeps p asks session at opened =
        let known : KeepsFor session r.device h.after × (session ≤ r.device.sessions.last) = keeps session at in
        let kept : KeepsOpen session r.device h.after = known.0.kept opened in
        let was : is_open r.device.sessions session ≡ true = sym (ap is_some (kept.user known.1)) ∙ opened in
        let before : IsAlone entries change session r = p asks session at was in
        let free : h.after.pending ≡ None = kept.free before.held.owner before.held.free in
        record {
          held = record { owner = kept.owner Running before.held.owner; free = free; whole = kept.whole before.held.owner before.held.whole };
          ended = λ n small other is. before.ended n small other (there_free m laws setting r event h happens free n is);
        }

    pub alone_aside : (x : Site m setting B) (d : ℕ) (r : RecordedState Config Node) → slice_get x.w.devices d ≡ Some r → IsDevice m (x.owners d) r
        → (event : DeviceEvent) (h : Happened Config Node) → Happens m setting.tables r.device event h → IsOthers x.change (x.owners d) r event
        → AllLinks (λ j. AloneAsked x.w.entries x.change j (slice_get x.w.devices j)) x.slot.sides
        → AllLinks (λ j. AloneAsked x.w.entries x.change j (slice_get (slice_set x.w.devices d (recorded_with r event h)) j)) x.slot.sides
    alone_aside x d r here known event h happens others all =
        links_aside m setting B (AloneAsked x.w.entries x.change) x d r here known event h happens others
        (alone_stays x.w.entries x.change d r event h happens) all

    pub alone_told : (x : Delivery m setting B) {event : DeviceEvent} (done : IsDone m setting B x event)
        → AllLinks (λ j. AloneAsked x.w.entries x.change j (slice_get x.w.devices j)) x.slot.sides
        → AllLinks (λ j. AloneAsked x.w.entries x.change j (slice_get (devices_then m setting B x done) j)) (slot_then m setting B x done).sides
    alone_told x {event = event} done all =
        links_told m setting B (AloneAsked x.w.entries x.change) x done
        (alone_stays x.w.entries x.change (x.device - 1) x.r event done.h done.happens) (λ asks. absurd (none_asked x done asks)) all
