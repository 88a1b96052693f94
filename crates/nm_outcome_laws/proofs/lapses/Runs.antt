-- After a run what lapsed is undone.
use Rattle.std.proofs.Common.{◌≡◌, ◌∙◌, ℕ, zero, suc, ◌-◌, ◌==◌, cond, Bool, true, false, ◌&&◌, List, [], ◌∷◌, Contains, Option, Some, None, IfSome, slice_get, refl, sym, ap, subst, arith}
use Rattle.std.proofs.lemmas.Option.{none-some, same_Some}
use Rattle.nm_base.specs.Token.{token_of}
use Rattle.nm_proto.specs.declared.journal.AbortCause.TheVariants.{Lapsed}
use Rattle.nm_proto.specs.declared.journal.Verdict.{Verdict}
use Rattle.nm_proto.specs.declared.journal.Verdict.TheVariants as verdict
use Rattle.nm_proto.specs.declared.message.Reply.{Reply}
use Rattle.nm_proto.specs.declared.message.Reply.TheVariants.{Done, Opened, LockId, Mark, Rows, Error}
use Rattle.nm_proto.specs.declared.plan.ChangePlan.{ChangePlan}
use Rattle.nm_proto.specs.declared.plan.Event.{Event}
use Rattle.nm_proto.specs.Content.{Meaning, Laws}
use Rattle.nm_proto.specs.Plan.{devices_in}
use Rattle.nm_device.specs.Table.{is_error}
use Rattle.nm_history.specs.declared.outcome.Outcome.{Outcome}
use Rattle.nm_history.specs.declared.outcome.Outcome.TheVariants.{Never, Pending, Confirmed, Undone}
use Rattle.nm_history.specs.Outcome.{is_final, is_undone, outcome_of}
use Rattle.nm_history.specs.History.{RecordedState}
use Rattle.nm_recovery.specs.Recovery.{verdict_in}
use Rattle.nm_wire.specs.declared.link.Exchange.{Exchange}
use Rattle.nm_wire.specs.Asks.{ask_of}
use Rattle.nm_wire.specs.Link.{LinkState}
use Rattle.nm_manager.specs.Slot.{SideState, SlotState, to_commit, wire_of_side}
use Rattle.nm_manager.specs.Manager.{slots_from, wire_of}
use Rattle.nm_world.specs.World.{Setting, WorldState, core_of, run, start}
use Rattle.nm_world.specs.Drain.{drained}
use Rattle.nm_safety.specs.Keeping.{AreKept, Both, Keeps, Site}
use Rattle.nm_safety.specs.Safe.{IsProper}
use Rattle.nm_safety.proofs.Drained.{drained_too}
use Rattle.nm_safety.proofs.Entries.{ready_is_open}
use Rattle.nm_safety.proofs.Keeping.{run_kept, slot_there}
use Rattle.nm_safety.proofs.Lists.{to_some, down}
use Rattle.nm_safety.proofs.Safely.{run_is_safe}
use Rattle.nm_safety.proofs.SlotLinks.{broken_links, cut_links, decided_links}
use Rattle.nm_outcome_laws.specs.RecordsSupport.{OfNone, outcome_in, outcomes_at}
use Rattle.nm_outcome_laws.proofs.records.Passing.{HasRun, next_ran, start_ran}
use Rattle.nm_outcome_laws.proofs.records.Said.{supported}
use Rattle.nm_outcome_laws.specs.Causes.{HasLapsed, WasRefused, error_tag, exchanges_at, exchanges_on, history_at, is_renewing, links_to}
use Rattle.nm_outcome_laws.proofs.causes.Runs.{run_has_causes}
use Rattle.nm_outcome_laws.specs.Lapses.{LapsesAreUndone}
use Rattle.nm_outcome_laws.specs.LapsesSupport.{AllRenew, IsOver, OfRenewed, RenewsOn, is_lapse}
use Rattle.nm_outcome_laws.proofs.lapses.Asks.{renewed_committed}
use Rattle.nm_outcome_laws.proofs.lapses.Slots.{P, fresh_all, lost_all, received_all, renewed_all, restarted_all, sent_all}
use Rattle.nm_outcome_laws.proofs.lapses.Told.{aside_renews, asked_renews, opened_renews}

-- ---- the beginning

slots_begin : (outs : ℕ → Option Outcome) (plans : List ChangePlan) (base place : ℕ) → IfSome (slice_get (slots_from base plans) place) (AllRenew outs)
slots_begin outs [] base place = tt
slots_begin outs (plan ∷ plans) base zero = fresh_all outs base (devices_in plan.edits)
slots_begin outs (plan ∷ plans) base (suc place) = slots_begin outs plans (suc base) place

-- ---- every event

module _ {Config TheEdit Node : Type 0} (m : Meaning Config TheEdit Node) (laws : Laws m) (setting : Setting TheEdit) (running : List Config) where
  abbrev Ran : WorldState Config Node → Type 0
  Ran = HasRun m setting running

  abbrev O : Site m setting Ran → ℕ → Option Outcome
  O x = outcomes_at x.change x.w.devices

  renews_keep : Keeps m setting Ran OfRenewed OfNone
  renews_keep = record {
    entered = λ x entry other may c. c;
    decides_on = λ x v ready acts may c. decided_links (P (O x)) x.slot c v;
    sent = λ x device what ready acts c. sent_all (O x) x.slot c x.plan x.w.entries device what acts;
    renewed = λ x device known ready c.
        renewed_all (O x) x.slot c x.plan x.w.entries device
        (λ side there may.
        renewed_committed x.change (verdict_in x.change x.w.entries) x.slot x.w.devices x.kept.holds
        (sym (x.kept.in_step.decided (ready_is_open x.w.entries x.change ready))) device side there may);
    heard = λ x device link number known c. received_all (O x) x.slot c device link number;
    broken = λ x device known c. broken_links (P (O x)) x.slot c device;
    forgotten = λ x begun going c. cut_links (P (O x)) x.slot c (to_commit (verdict_in x.change x.w.entries));
    anew = λ x c. cut_links (P (O x)) x.slot c (to_commit (verdict_in x.change x.w.entries));
    closed = λ change plan entries devices slot device link c. lost_all (outcomes_at change devices) slot c device link;
    restarted = λ change plan entries devices slot device c. restarted_all (outcomes_at change devices) slot c device;
    aside = aside_renews m laws setting running;
    told = λ x single session is done later c k. asked_renews m laws setting running x c session is done later;
    told_opened = λ x user opening done later c k. opened_renews m laws setting running x c user opening done;
    entered_beside = λ w b entry may place r here k. k;
    asked_by_link = λ x single session is done later c k. k;
    opened_by_link = λ x user opening done later c k. k;
    asked_by_operator = λ w b place r here session opened stranger request h happens k. k;
    opened_by_operator = λ w b place r here user stranger h happens k. k;
    silent = λ w b place r here event silent h happens k. k;
  }

-- ---- where a link has lapsed it is over

nothing_in : (x : Exchange) → Contains [] x → ⊥
nothing_in x c = absurd (omega (arith, c.1))

error_is : (reply : Reply) (tag : _) → error_tag reply ≡ Some tag → is_error reply ≡ true
error_is Done tag e = absurd (none-some tag e)
error_is (Opened session) tag e = absurd (none-some tag e)
error_is (LockId id) tag e = absurd (none-some tag e)
error_is (Mark there) tag e = absurd (none-some tag e)
error_is (Rows count) tag e = absurd (none-some tag e)
error_is (Error other session path) tag e = refl

both_true : (a b : Bool) → a ≡ true → b ≡ true → (a && b) ≡ true
both_true true true a b = refl
both_true true false a b = b
both_true false other a b = a

module _ (outs : ℕ → Option Outcome) (device link : ℕ) (x : Exchange) (lapsed : is_lapse x ≡ true) where
  over_link : (o : Option Outcome) (found : Option LinkState) → IfSome found (RenewsOn o) → (absent : Bool)
      → Contains (exchanges_on (cond absent None found)) x → IsOver o
  over_link o found p true c = absurd (nothing_in x c)
  over_link o None p false c = absurd (nothing_in x c)
  over_link o (Some l) p false c = p.told x c lapsed

  no_link : (absent : Bool) → Contains (exchanges_on (cond absent None (slice_get {X = LinkState} [] (link - 1)))) x → ⊥
  no_link true c = nothing_in x c
  no_link false c = nothing_in x c

  over_side : (found : Option SideState) → IfSome found (λ side. (j : ℕ) → IfSome (slice_get side.wire.links j) (RenewsOn (outs (device - 1))))
      → Contains (exchanges_at (wire_of_side found) link) x → IsOver (outs (device - 1))
  over_side None p c = absurd (no_link (link == 0) c)
  over_side (Some side) p c = over_link (outs (device - 1)) (slice_get side.wire.links (link - 1)) (p (link - 1)) (link == 0) c

-- what is over is undone, where it wasn't to be committed
undone_by : (outcome : Outcome) (decided : Option Verdict) (why : _) → decided ≡ Some (verdict.Abort why)
    → (outcome ≡ Confirmed → decided ≡ Some verdict.Commit) → is_final outcome ≡ true → is_undone outcome ≡ true
undone_by Never decided why e only f = absurd (let g : false ≡ true = f in cc)
undone_by Pending decided why e only f = absurd (let g : false ≡ true = f in cc)
undone_by Confirmed decided why e only f =
    let g : verdict.Abort why ≡ verdict.Commit = same_Some (verdict.Abort why) verdict.Commit (sym e ∙ only refl) in absurd cc
undone_by (Undone by) decided why e only f = refl

-- ---- every run

module _ {Config TheEdit Node : Type 0} (m : Meaning Config TheEdit Node) (laws : Laws m) (setting : Setting TheEdit)
    (running : List Config) (events : List Event) (proper : IsProper {Node = Node} m setting running events) where
  abbrev first : WorldState Config Node
  first = start setting running

  abbrev ran : WorldState Config Node
  ran = run m setting first events

  begins : AreKept setting OfRenewed OfNone (core_of first)
  begins = record {
    slots = λ place plan planned. slots_begin (outcomes_at (suc place) first.devices) setting.plans 1 place;
    devices = λ place. to_some (λ r. Unit {0}) (slice_get first.devices place) (λ r here. tt);
  }

  renewed : Both setting (HasRun m setting running) OfRenewed OfNone ran
  renewed =
      run_kept m laws setting proper.edits proper.few proper.strangers (HasRun m setting running)
      (supported m laws setting running) (next_ran m setting running) OfRenewed OfNone
      (renews_keep m laws setting running) first events proper.given
      (record { before = start_ran m setting running events proper; own = begins })

  -- ---- after it

  module _ (place device : ℕ) (r : RecordedState Config Node)
      (aborted : verdict_in (suc place) ran.entries ≡ Some (verdict.Abort (Lapsed device)))
      (here : slice_get ran.devices (device - 1) ≡ Some r) where
    abbrev o : Outcome
    o = outcome_of (token_of (suc place)) r.history

    -- an error was replied to a renewal of it
    cause : HasLapsed (links_to ran (suc place) device) (history_at ran.devices device)
    cause = (run_has_causes m laws setting running events proper).aborts_have_causes (suc place) (Lapsed device) aborted

    lapse : WasRefused is_renewing cause.tag (links_to ran (suc place) device) (history_at ran.devices device)
    lapse = cause.refused

    told : Contains (exchanges_at (wire_of device (slice_get ran.slots place)) lapse.link) lapse.exchange
    told = subst (λ found. Contains (exchanges_at (wire_of device found) lapse.link) lapse.exchange) (down ran.slots place) lapse.told

    lapsed : is_lapse lapse.exchange ≡ true
    lapsed =
        both_true (is_renewing (ask_of lapse.exchange.request)) (is_error lapse.exchange.reply) lapse.kind
        (error_is lapse.exchange.reply cause.tag lapse.error)

    over_now : (slot : SlotState) → slice_get ran.slots place ≡ Some slot → AllRenew (outcomes_at (suc place) ran.devices) slot
        → is_final o ≡ true
    over_now slot there renews =
        subst IsOver (ap (outcome_in (suc place)) here)
        (over_side (outcomes_at (suc place) ran.devices) device lapse.link lapse.exchange lapsed (slice_get slot.sides (device - 1))
        (renews (device - 1)) (subst (λ found. Contains (exchanges_at (wire_of device found) lapse.link) lapse.exchange) there told))

    -- a change set that has links is there, and planned
    undone_now : (found : Option SlotState) → slice_get ran.slots place ≡ found → is_undone o ≡ true
    undone_now None there =
        absurd (no_link (λ d. None) device lapse.link lapse.exchange lapsed (lapse.link == 0)
        (subst (λ found. Contains (exchanges_at (wire_of device found) lapse.link) lapse.exchange) there told))
    undone_now (Some slot) there =
        slot_there m setting OfRenewed OfNone (core_of ran) (supported m laws setting running ran renewed.before) renewed.own place slot
        there (is_undone o ≡ true)
        (λ plan planned renews.
        undone_by o (verdict_in (suc place) ran.entries) (Lapsed device) aborted
        ((run_is_safe m laws setting running events proper).keeps_decisions place plan (device - 1) r planned here).confirmed_only_if_journalled
        (over_now slot there renews))

  pub run_lapses : LapsesAreUndone ran
  run_lapses = record { undone = λ place device r aborted here. undone_now place device r aborted here (slice_get ran.slots place) refl }

module _ {Config TheEdit Node : Type 0} (m : Meaning Config TheEdit Node) (laws : Laws m) (setting : Setting TheEdit)
    (running : List Config) (events : List Event) (steps : ℕ) where
  pub drained_lapses : IsProper {Node = Node} m setting running events
      → LapsesAreUndone (drained m setting steps (run m setting (start setting running) events))
  drained_lapses proper = drained_too m laws setting running LapsesAreUndone (run_lapses m laws setting running) events steps proper
