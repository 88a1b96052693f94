-- Every event leaves change sets waiting, and coming one after another, and so does every run.
use Rattle.std.proofs.Common.{◌≡◌, ℕ, zero, suc, ◌-◌, ◌≤◌, ◌<◌, ◌^◌, true, false, List, [], ◌∷◌, ◌++◌, length, map, replicate, Some, IfSome, slice_get, refl, subst, arith}
use Rattle.std.specs.List.{All}
use Rattle.nm_base.specs.Token.{token_of}
use Rattle.nm_proto.specs.declared.ask.Ask.{Ask}
use Rattle.nm_proto.specs.declared.journal.Entry.{Entry}
use Rattle.nm_proto.specs.declared.journal.Entry.TheVariants.{Decided}
use Rattle.nm_proto.specs.declared.plan.ChangePlan.{ChangePlan}
use Rattle.nm_proto.specs.declared.plan.Event.{Event}
use Rattle.nm_proto.specs.Content.{Meaning, Laws}
use Rattle.nm_proto.specs.Plan.{devices_in}
use Rattle.nm_device.specs.Device.{is_manager}
use Rattle.nm_history.specs.declared.event.DeviceEvent.TheVariants.{Entered, Asked}
use Rattle.nm_history.specs.Outcome.{outcome_of}
use Rattle.nm_history.specs.History.{RecordedState, recorded}
use Rattle.nm_recovery.specs.Recovery.{verdict_in}
use Rattle.nm_decider.specs.declared.course.NextAction.TheVariants.{Send}
use Rattle.nm_decider.specs.Course.{next_action, seat_count}
use Rattle.nm_wire.specs.Link.{LinkState}
use Rattle.nm_manager.specs.Queues.{is_ready_in}
use Rattle.nm_manager.specs.Slot.{SlotState, fresh_side, renews, sends, to_commit}
use Rattle.nm_manager.specs.Manager.{slots_from}
use Rattle.nm_world.specs.World.{Setting, CoreState, WorldState, begin, core_of, run, start, world_step}
use Rattle.nm_world.proofs.Passing.{is_round}
use Rattle.nm_safety.specs.Safe.{AreGiven, IsGiven, IsProper}
use Rattle.nm_safety.specs.Support.{AllLinks, IsKept}
use Rattle.nm_safety.specs.Keeping.{AreKept, Both, Keeps, Site}
use Rattle.nm_safety.proofs.Entries.{ready_is_open, ready_is_started}
use Rattle.nm_safety.proofs.Facts.{SupportedIn, silent_others, stranger_leaves}
use Rattle.nm_safety.proofs.Keeping.{one_kept, run_kept}
use Rattle.nm_safety.proofs.Keeps.{renewed_kept, sent_kept}
use Rattle.nm_safety.proofs.Lists.{some_is, to_some}
use Rattle.nm_safety.proofs.Runs.{one_supported}
use Rattle.nm_safety.proofs.SlotLinks.{broken_links, closed_links, cut_links, decided_links, restarted_links}
use Rattle.nm_safety.proofs.Sound.{first_at}
use Rattle.nm_safety.proofs.Start.{begin_supported}
use Rattle.nm_safety.proofs.Tickets.{TicketedIn, one_tickets}
use Rattle.nm_commit_laws.specs.Marks.{is_there}
use Rattle.nm_commit_laws.proofs.marks.Asks.{AloneAsked, AloneOn, IsWaiting, KnownAsked, OfAlone, OfFinding, OfKnown, OfWaiting}
use Rattle.nm_commit_laws.proofs.marks.Comes.{new_finds, new_known, new_waits}
use Rattle.nm_commit_laws.proofs.marks.Known.{IsKnown}
use Rattle.nm_commit_laws.proofs.marks.Single.{alone_aside, alone_entered, alone_ready, alone_told, heard_asks, known_entered, known_renewed, known_sent, known_told}
use Rattle.nm_commit_laws.proofs.marks.Waiting.{finds_entered, finds_next, finds_still, waits_entered, waits_next, waits_still}

-- ---- what is known already

-- a world that is supported, and whose tickets are for the devices of their plans
pub record HasTickets {Config TheEdit Node : Type 0} (m : Meaning Config TheEdit Node) (setting : Setting TheEdit) (w : WorldState Config Node) : Type 0 where
  pub supported : SupportedIn m setting w
  pub tickets : TicketedIn setting w

-- and in which the devices of what comes are known
abbrev pub FollowsIn : {Config TheEdit Node : Type 0} → Meaning Config TheEdit Node → Setting TheEdit → WorldState Config Node → Type 0
FollowsIn m setting w = Both setting (HasTickets m setting) (OfKnown setting.plans) (OfWaiting setting.plans) w

-- and in which change sets come one after another
abbrev pub IsSingleIn : {Config TheEdit Node : Type 0} → Meaning Config TheEdit Node → Setting TheEdit → WorldState Config Node → Type 0
IsSingleIn m setting w = Both setting (FollowsIn m setting) OfAlone OfFinding w

-- ---- the devices of what comes are known

module _ {Config TheEdit Node : Type 0} (m : Meaning Config TheEdit Node) (setting : Setting TheEdit) where
  waiting_keeps : Keeps m setting (HasTickets m setting) (OfKnown setting.plans) (OfWaiting setting.plans)
  waiting_keeps = record {
    entered = λ x entry plain may c. known_entered setting.plans x.w.entries x.change x.slot c entry;
    decides_on = λ x v ready acts may c.
        decided_links (KnownAsked setting.plans (x.w.entries ++ Decided x.change v ∷ []) x.change) x.slot
        (known_entered setting.plans x.w.entries x.change x.slot c (Decided x.change v)) v;
    sent = λ x device what ready acts c. known_sent setting.plans x.w.entries x.change x.slot c x.plan x.planned x.kept.in_step ready device what acts;
    renewed = λ x device known ready c. known_renewed setting.plans x.w.entries x.change x.slot c x.plan x.planned x.kept.in_step device known;
    heard = λ x device link number known c. heard_asks (λ d one. IsKnown setting.plans x.w.entries x.change d) x.slot c device link number;
    broken = λ x device known c. broken_links (KnownAsked setting.plans x.w.entries x.change) x.slot c device;
    forgotten = λ x begun going c. cut_links (KnownAsked setting.plans x.w.entries x.change) x.slot c (to_commit (verdict_in x.change x.w.entries));
    anew = λ x c. cut_links (KnownAsked setting.plans x.w.entries x.change) x.slot c (to_commit (verdict_in x.change x.w.entries));
    closed = λ change plan entries devices slot device link c.
        closed_links (KnownAsked setting.plans entries change) slot c device link (λ d place one p. p);
    restarted = λ change plan entries devices slot device c. restarted_links (KnownAsked setting.plans entries change) slot c device (λ d place one p. p);
    aside = λ x d r here known event h happens others c. c;
    told = λ x plain session is done later c k. known_told m setting (HasTickets m setting) x done c;
    told_opened = λ x user opening done later c k. known_told m setting (HasTickets m setting) x done c;
    entered_beside = λ w b entry may place r here k. waits_entered setting.plans w.entries entry place r k;
    asked_by_link = λ x plain session is done later c k.
        waits_next m setting x.w.entries (x.device - 1) x.r (Asked session x.request) done.h (new_waits m setting (HasTickets m setting) x session is done)
        (new_known m setting (HasTickets m setting) x session is done c) k;
    opened_by_link = λ x user opening done later c k.
        waits_still m setting x.w.entries (x.device - 1) x.r (Entered user) done.h done.happens (λ change. refl) k;
    asked_by_operator = λ w b place r here session opened stranger request h happens k.
        waits_still m setting w.entries place r (Asked session request) h happens (stranger_leaves r session request stranger) k;
    opened_by_operator = λ w b place r here user stranger h happens k.
        waits_still m setting w.entries place r (Entered user) h happens (λ change. refl) k;
    silent = λ w b place r here event quiet h happens k.
        waits_still m setting w.entries place r event h happens (λ change. (silent_others (b.supported.owners place) r event quiet change).token) k;
  }

-- ---- change sets come one after another

module _ {Config TheEdit Node : Type 0} (m : Meaning Config TheEdit Node) (setting : Setting TheEdit) (x : Site m setting (FollowsIn m setting)) where
  -- what is known of its links already
  known_here : AllLinks (KnownAsked setting.plans x.w.entries x.change) x.slot.sides
  known_here =
      let same : suc (x.change - 1) ≡ x.change = omega (arith, x.numbered) in
      subst (λ c. AllLinks (KnownAsked setting.plans x.w.entries c) x.slot.sides) same
      (some_is x.slot (OfKnown setting.plans (suc (x.change - 1)) x.plan x.w.entries x.w.devices) (slice_get x.w.slots (x.change - 1)) x.there
      (x.before.own.slots (x.change - 1) x.plan x.planned))

  module _ (ready : is_ready_in x.w.entries x.change ≡ true) where
    alone_now : (now : SlotState) → IsKept x.change (devices_in x.plan.edits) x.w.entries x.owners x.w.devices now
        → AllLinks (KnownAsked setting.plans x.w.entries x.change) now.sides
        → AllLinks (λ d. AloneAsked x.w.entries x.change d (slice_get x.w.devices d)) now.sides
    alone_now now k all =
        alone_ready x.w.entries x.change x.w.devices setting.plans (devices_in x.plan.edits) x.owners now k x.before.own.devices x.before.before.tickets
        ready all

    alone_sent : (device : ℕ) (what : Ask) → next_action x.slot.course ≡ Send device what
        → AllLinks (λ d. AloneAsked x.w.entries x.change d (slice_get x.w.devices d)) (sends x.plan x.w.entries x.slot device what).slot.sides
    alone_sent device what acts =
        alone_now (sends x.plan x.w.entries x.slot device what).slot
        (sent_kept x.change (devices_in x.plan.edits) x.owners x.w.devices x.w.entries x.slot x.kept x.plan device what
        (ready_is_started x.w.entries x.change ready) (ready_is_open x.w.entries x.change ready) acts)
        (known_sent setting.plans x.w.entries x.change x.slot known_here x.plan x.planned x.kept.in_step ready device what acts)

    alone_renewed : (device : ℕ) → 1 ≤ device
        → AllLinks (λ d. AloneAsked x.w.entries x.change d (slice_get x.w.devices d)) (renews x.plan x.w.entries x.slot device).slot.sides
    alone_renewed device numbered =
        alone_now (renews x.plan x.w.entries x.slot device).slot
        (renewed_kept x.change (devices_in x.plan.edits) x.owners x.w.devices x.w.entries x.slot x.kept x.plan device numbered
        (ready_is_started x.w.entries x.change ready) (ready_is_open x.w.entries x.change ready))
        (known_renewed setting.plans x.w.entries x.change x.slot known_here x.plan x.planned x.kept.in_step device numbered)

module _ {Config TheEdit Node : Type 0} (m : Meaning Config TheEdit Node) (laws : Laws m) (setting : Setting TheEdit) where
  abbrev Alone : List Entry → ℕ → List (RecordedState Config Node) → ℕ → ℕ → LinkState → Type 0
  Alone entries change devices d place link = AloneAsked entries change d (slice_get devices d) place link

  single_keeps : Keeps m setting (FollowsIn m setting) OfAlone OfFinding
  single_keeps = record {
    entered = λ x entry plain may c. alone_entered x.w.entries x.change x.w.devices x.slot c entry;
    decides_on = λ x v ready acts may c.
        decided_links (Alone (x.w.entries ++ Decided x.change v ∷ []) x.change x.w.devices) x.slot
        (alone_entered x.w.entries x.change x.w.devices x.slot c (Decided x.change v)) v;
    sent = λ x device what ready acts c. alone_sent m setting x ready device what acts;
    renewed = λ x device known ready c. alone_renewed m setting x ready device known;
    heard = λ x device link number known c.
        heard_asks (λ d one. IfSome (slice_get x.w.devices d) (AloneOn x.w.entries x.change one)) x.slot c device link number;
    broken = λ x device known c. broken_links (Alone x.w.entries x.change x.w.devices) x.slot c device;
    forgotten = λ x begun going c. cut_links (Alone x.w.entries x.change x.w.devices) x.slot c (to_commit (verdict_in x.change x.w.entries));
    anew = λ x c. cut_links (Alone x.w.entries x.change x.w.devices) x.slot c (to_commit (verdict_in x.change x.w.entries));
    closed = λ change plan entries devices slot device link c. closed_links (Alone entries change devices) slot c device link (λ d place one p. p);
    restarted = λ change plan entries devices slot device c. restarted_links (Alone entries change devices) slot c device (λ d place one p. p);
    aside = λ x d r here known event h happens others c. alone_aside m setting (FollowsIn m setting) laws x d r here known event h happens others c;
    told = λ x plain session is done later c k. alone_told m setting (FollowsIn m setting) laws x done c;
    told_opened = λ x user opening done later c k. alone_told m setting (FollowsIn m setting) laws x done c;
    entered_beside = λ w b entry may place r here k. finds_entered setting.plans w.entries entry place r k;
    asked_by_link = λ x plain session is done later c k.
        finds_next m setting x.w.entries (x.device - 1) x.r (Asked session x.request) done.h
        (new_finds m setting (FollowsIn m setting) x session is done c) k;
    opened_by_link = λ x user opening done later c k.
        finds_still m setting x.w.entries (x.device - 1) x.r (Entered user) done.h done.happens (λ change. refl) k;
    asked_by_operator = λ w b place r here session opened stranger request h happens k.
        finds_still m setting w.entries place r (Asked session request) h happens (stranger_leaves r session request stranger) k;
    opened_by_operator = λ w b place r here user stranger h happens k.
        finds_still m setting w.entries place r (Entered user) h happens (λ change. refl) k;
    silent = λ w b place r here event quiet h happens k.
        finds_still m setting w.entries place r event h happens (λ change. (silent_others (b.before.supported.owners place) r event quiet change).token) k;
  }

-- ---- the beginning

each_same : {A : Type 0} (P : ℕ → A → Type 0) (n : ℕ) (x : A) → ((j : ℕ) → P j x) → (j : ℕ) → IfSome (slice_get (replicate n x) j) (P j)
each_same P zero x all j = tt
each_same P (suc n) x all zero = all 0
each_same P (suc n) x all (suc j) = each_same (λ i. P (suc i)) n x (λ i. all (suc i)) j

-- there are no links yet
slots_fresh : (P : ℕ → ℕ → LinkState → Type 0) (plans : List ChangePlan) (base place : ℕ)
    → IfSome (slice_get (slots_from base plans) place) (λ slot. AllLinks P slot.sides)
slots_fresh P [] base place = tt
slots_fresh P (plan ∷ plans) base zero = each_same (λ d side. (j : ℕ) → IfSome (slice_get side.wire.links j) (P d j)) seat_count fresh_side (λ d j. tt)
slots_fresh P (plan ∷ plans) base (suc place) = slots_fresh P plans (suc base) place

module _ {Config TheEdit Node : Type 0} (m : Meaning Config TheEdit Node) (setting : Setting TheEdit) (running : List Config) where
  abbrev devices : List (RecordedState Config Node)
  devices = map recorded running

  begin_waits : AreKept setting (OfKnown setting.plans) (OfWaiting setting.plans) (begin {Node = Node} setting running)
  begin_waits = record {
    slots = λ place plan planned. slots_fresh (KnownAsked setting.plans [] (suc place)) setting.plans 1 place;
    devices = first_at (λ d r. IsWaiting setting.plans [] d r) running
        (λ place first begins. record { waits = tt; known = λ n small is. absurd (let g : false ≡ true = is in cc) });
  }

  begin_finds : AreKept setting OfAlone OfFinding (begin {Node = Node} setting running)
  begin_finds = record {
    slots = λ place plan planned. slots_fresh (λ d. AloneAsked [] (suc place) d (slice_get devices d)) setting.plans 1 place;
    devices = first_at (λ d r. OfFinding [] d r) running (λ place first begins n small. tt);
  }

-- ---- every run

module _ {Config TheEdit Node : Type 0} (m : Meaning Config TheEdit Node) (laws : Laws m) (setting : Setting TheEdit)
    (edits : All m.edit_belongs setting.tables.edits) (few : length setting.plans ≤ 64)
    (strangers : (number : ℕ) → IfSome (slice_get setting.users number) (λ user. is_manager (Some user) ≡ false)) where
  one_planned : (w : WorldState Config Node) (event : Event) → IsGiven setting event → is_round event ≡ false → HasTickets m setting w
      → HasTickets m setting (world_step m setting w event)
  one_planned w event given single p = record {
    supported = one_supported m laws setting edits few strangers w event given p.supported;
    tickets = one_tickets m setting w event given p.tickets;
  }

  one_follows : (w : WorldState Config Node) (event : Event) → IsGiven setting event → is_round event ≡ false → FollowsIn m setting w
      → FollowsIn m setting (world_step m setting w event)
  one_follows w event given single k =
      one_kept m laws setting edits few strangers (HasTickets m setting) (λ v p. p.supported) one_planned (OfKnown setting.plans) (OfWaiting setting.plans)
      (waiting_keeps m setting) w event given single k

  run_comes : (w : WorldState Config Node) (events : List Event) → AreGiven setting events → IsSingleIn m setting w
      → IsSingleIn m setting (run m setting w events)
  run_comes w events given k =
      run_kept m laws setting edits few strangers (FollowsIn m setting) (λ v p. p.before.supported) one_follows OfAlone OfFinding
      (single_keeps m laws setting) w events given k

module _ {Config TheEdit Node : Type 0} (m : Meaning Config TheEdit Node) (laws : Laws m) (setting : Setting TheEdit)
    (running : List Config) (events : List Event) (proper : IsProper {Node = Node} m setting running events) where
  abbrev ran : WorldState Config Node
  ran = run m setting (start setting running) events

  all : IsSingleIn m setting ran
  all =
      run_comes m laws setting proper.edits proper.few proper.strangers (start setting running) events proper.given
      (record {
        before = record {
          before = record { supported = begin_supported m setting running proper.first; tickets = λ i. tt };
          own = begin_waits m setting running;
        };
        own = begin_finds m setting running;
      })

  -- at a device of it
  pub run_waits : (d : ℕ) (r : RecordedState Config Node) → slice_get ran.devices d ≡ Some r → OfWaiting setting.plans ran.entries d r
  run_waits d r here = some_is r (OfWaiting setting.plans ran.entries d) (slice_get ran.devices d) here (all.before.own.devices d)

  pub run_finds : (d : ℕ) (r : RecordedState Config Node) → slice_get ran.devices d ≡ Some r → OfFinding ran.entries d r
  run_finds d r here = some_is r (OfFinding ran.entries d) (slice_get ran.devices d) here (all.own.devices d)

-- the devices of what is there are known
pub record IsSingle {Config TheEdit Node : Type 0} (setting : Setting TheEdit) (w : CoreState Config Node) : Type 0 where
  pub known : (d : ℕ) → IfSome (slice_get w.devices d)
      (λ r. (n : ℕ) → n < 2 ^ 32 → is_there (outcome_of (token_of n) r.history) ≡ true → IsKnown setting.plans w.entries n d)

pub run_single : {Config TheEdit Node : Type 0} (m : Meaning Config TheEdit Node) (laws : Laws m) (setting : Setting TheEdit)
    (running : List Config) (events : List Event) → IsProper {Node = Node} m setting running events
    → IsSingle setting (core_of (run m setting (start setting running) events))
run_single m laws setting running events proper =
    let w = run m setting (start setting running) events in
    record {
      known = λ d.
          to_some (λ r. (n : ℕ) → n < 2 ^ 32 → is_there (outcome_of (token_of n) r.history) ≡ true → IsKnown setting.plans w.entries n d) (slice_get w.devices d)
          (λ r here. (run_waits m laws setting running events proper d r here).known);
    }
