-- What the laws of a run say of a change set that is to be committed, where an event comes to a world.
use Rattle.std.proofs.Common.{◌≡◌, ◌∙◌, ℕ, suc, ◌-◌, ◌<◌, ◌≤◌, true, false, List, [], ◌∷◌, ◌++◌, length, Option, Some, None, IfSome, is_some, slice_get, refl, sym, ap, subst, arith}
use Rattle.std.proofs.lemmas.Option.{slice_get_within}
use Rattle.nm_base.specs.Mask.{mask_contains}
use Rattle.nm_base.specs.Token.{token_of}
use Rattle.nm_proto.specs.declared.journal.Verdict.TheVariants as verdict
use Rattle.nm_proto.specs.Content.{Meaning, Laws}
use Rattle.nm_proto.specs.Plan.{devices_in}
use Rattle.nm_sessions.specs.Sessions.{user_of}
use Rattle.nm_device.specs.Device.{DeviceState, fresh_device, is_manager}
use Rattle.nm_history.specs.declared.event.DeviceEvent.{DeviceEvent}
use Rattle.nm_history.specs.declared.event.DeviceEvent.TheVariants.{Asked}
use Rattle.nm_history.specs.declared.event.Noted.{Noted}
use Rattle.nm_history.specs.declared.outcome.Outcome.{Outcome}
use Rattle.nm_history.specs.declared.outcome.Outcome.TheVariants.{Never, Pending, Confirmed, Undone}
use Rattle.nm_history.specs.Outcome.{outcome_of}
use Rattle.nm_history.specs.History.{RecordedState, replay, replayed}
use Rattle.nm_history.specs.Leads.{Leads}
use Rattle.nm_recovery.specs.Recovery.{is_ended_in, verdict_in}
use Rattle.nm_device_laws.specs.Telling.{TellsToken}
use Rattle.nm_device_laws.specs.Token.{waits_under}
use Rattle.nm_device_laws.proofs.Events.{is_asked}
use Rattle.nm_wire.specs.Link.{session_of}
use Rattle.nm_world.specs.World.{IsFirst, Setting, WorldState, core_of, start}
use Rattle.nm_safety.specs.Keeping.{AreKept, Delivery, IsDone, device_then, slot_then, world_then}
use Rattle.nm_safety.specs.Pair.{is_never}
use Rattle.nm_safety.specs.Safe.{AreSoundFrom, IsSafe, KeepsDecision}
use Rattle.nm_safety.specs.Support.{IsSupported}
use Rattle.nm_safety.proofs.Current.{OfCurrent, OfNone, run_current}
use Rattle.nm_safety.proofs.Devices as devices
use Rattle.nm_safety.proofs.Facts.{SupportedIn}
use Rattle.nm_safety.proofs.Lists.{some_is, to_some}
use Rattle.nm_safety.proofs.Managed.{kept_here}
use Rattle.nm_safety.proofs.Runs.{run_supported}
use Rattle.nm_safety.proofs.Safely.{run_is_safe}
use Rattle.nm_safety.proofs.Sound.{first_at, run_sound}
use Rattle.nm_safety.proofs.Start.{begin_supported}
use Rattle.nm_safety.proofs.Wires.{set_there}
use Rattle.nm_commit_laws.specs.Marks.{ArePlain, AreUnmarked, MarksTell}
use Rattle.nm_commit_laws.specs.Stays.{MarksStay}
use Rattle.nm_commit_laws.proofs.marks.Alone.{run_tells}
use Rattle.nm_commit_laws.proofs.marks.Remains.{run_stays}
use Rattle.nm_commit_laws.specs.Refuses.{EachRefuses, IsRefused, RefusesGone, WaitsNot}
use Rattle.nm_commit_laws.proofs.refuses.Alone.{run_refuses}
use Rattle.nm_outcome_laws.proofs.records.Passing.{HasRun}
use Rattle.nm_outcome_laws.proofs.records.Telling.{IsSaidAt}

pub same_number : (change : ℕ) → 1 ≤ change → suc (change - 1) ≡ change
same_number change numbered = omega (arith, numbered)

not_never : (outcome : Outcome) → (outcome ≡ Never → ⊥) → is_never outcome ≡ false
not_never Never ne = absurd (ne refl)
not_never Pending ne = refl
not_never Confirmed ne = refl
not_never (Undone by) ne = refl

module _ {Config TheEdit Node : Type 0} (m : Meaning Config TheEdit Node) (setting : Setting TheEdit) where
  -- the last entry of a history
  each_last : (s : DeviceState Config Node) (history : List Noted) (one : Noted) → EachRefuses m setting s (history ++ one ∷ [])
      → (change : ℕ) → IsRefused change (replay m setting.tables s history) one
      → WaitsNot (token_of change) (replay m setting.tables s history) (replayed m setting.tables (replay m setting.tables s history) one)
  each_last s [] one each = each.0
  each_last s (first ∷ history) one each = each_last (replayed m setting.tables s first) history one each.1

module _ {Config TheEdit Node : Type 0} (m : Meaning Config TheEdit Node) (laws : Laws m) (setting : Setting TheEdit) (running : List Config) where
  abbrev Ran : WorldState Config Node → Type 0
  Ran = HasRun m setting running

  module _ (w : WorldState Config Node) (ran : Ran w) where
    pub supported : IsSupported m setting (core_of w)
    supported =
        subst (SupportedIn m setting) ran.is
        (run_supported m laws setting ran.proper.edits ran.proper.few ran.proper.strangers (start setting running) ran.events ran.proper.given
        (begin_supported m setting running ran.proper.first))

    -- where a link is current, its change set is ready
    pub current : AreKept setting OfCurrent OfNone (core_of w)
    current = subst (λ v. AreKept setting OfCurrent OfNone (core_of v)) ran.is (run_current m setting laws running ran.events ran.proper)

    -- each device began somehow
    begun : (place : ℕ) (r : RecordedState Config Node) → slice_get w.devices place ≡ Some r → is_some (slice_get running place) ≡ true
    begun place r here =
        some_is r (λ _. is_some (slice_get running place) ≡ true) (slice_get w.devices place) here
        (subst (λ v. IfSome (slice_get v.devices place) (λ _. is_some (slice_get running place) ≡ true)) ran.is
        (devices.run_keeps m setting (λ j _. is_some (slice_get running j) ≡ true) (λ j one event h happens is. is) (start setting running)
        ran.events (first_at (λ j _. is_some (slice_get running j) ≡ true) running (λ j first begins. ap is_some begins)) place))

    pub few_devices : (d : ℕ) → IfSome (slice_get w.devices d) (λ _. d < 32)
    few_devices d =
        to_some (λ _. d < 32) (slice_get w.devices d) (λ r here. within (slice_get running d) refl (begun d r here))
      where
        within : (found : Option Config) → slice_get running d ≡ found → is_some found ≡ true → d < 32
        within None begins some = absurd (let g : false ≡ true = some in cc)
        within (Some first) begins some =
            let inside : d < length running = slice_get_within running d first begins in
            let few : length running ≤ 32 = ran.proper.few_devices in
            omega (arith, inside, few)

  -- ---- a device does what a link of the change set asks

  -- who asks is the manager
  pub managed : (x : Delivery m setting Ran) (u : ℕ) → session_of x.one ≡ Some u → IsDone m setting Ran x (Asked u x.request)
      → is_manager (user_of x.r.device.sessions u) ≡ true
  managed x u session done =
      x.known.users u (is_asked m setting.tables x.r.device u x.request done.h done.happens).asker
      ∙ ap is_some ((x.owned (x.link - 1) x.one x.at_place).session u session)

  module _ (x : Delivery m setting Ran) {event : DeviceEvent} (done : IsDone m setting Ran x event)
      (later : Ran (world_then m setting Ran x done)) where
    abbrev d : ℕ
    d = x.device - 1

    abbrev after : RecordedState Config Node
    after = device_then m setting Ran x done

    abbrev now : WorldState Config Node
    now = world_then m setting Ran x done

    here_now : slice_get now.devices d ≡ Some after
    here_now = set_there x.w.devices d x.r after x.here

    -- what is pending there has the change set's token exactly where its history tells so
    pub token_now : TellsToken (token_of x.change) after
    token_now =
        some_is after (TellsToken (token_of x.change)) (slice_get now.devices d) here_now
        ((kept_here m setting (core_of now) (supported now later) x.change x.numbered x.plan
        (slot_then m setting Ran x done) x.planned
        (set_there x.w.slots (x.change - 1) x.slot (slot_then m setting Ran x done) x.there)).tells d)

    sound : AreSoundFrom m setting running x.w
    sound = subst (AreSoundFrom m setting running) x.before.is (run_sound m laws setting running x.before.events)

    refuses : RefusesGone m setting running now
    refuses = subst (RefusesGone m setting running) later.is (run_refuses m laws setting running later.events later.proper)

    -- what was refused there wasn't pending
    module _ (one : Noted) (grows : after.history ≡ x.r.history ++ one ∷ []) (refused : IsRefused x.change x.r.device one) where
      gone_from : (found : Option Config) → slice_get running d ≡ found → is_some found ≡ true
          → waits_under (token_of x.change) x.r.device.pending ≡ false
      gone_from None begins some = absurd (let g : false ≡ true = some in cc)
      gone_from (Some first) begins some =
          let is : IsFirst m first = some_is first (IsFirst m) (slice_get running d) begins (x.before.proper.first d) in
          let lead : Leads m setting.tables (fresh_device first) x.r = sound d first x.r begins x.here is.valid in
          let each : EachRefuses m setting (fresh_device first) (x.r.history ++ one ∷ []) =
          subst (EachRefuses m setting (fresh_device first)) grows (refuses.refuses d first after begins here_now) in
          let none = each_last m setting (fresh_device first) x.r.history one each x.change
          (subst (λ s. IsRefused x.change s one) (sym lead.reaches) refused) in
          ap (λ s. waits_under (token_of x.change) s.pending) (sym lead.reaches) ∙ none.before

      pub gone_now : waits_under (token_of x.change) x.r.device.pending ≡ false
      gone_now = gone_from (slice_get running d) refl (begun x.w x.before d x.r x.here)

    -- ---- where no edit names a mark, and no device began with one

    module _ (plain : ArePlain m setting) (unmarked : AreUnmarked m running) where
      tell : MarksTell m now
      tell = subst (MarksTell m) later.is (run_tells m laws setting running later.events later.proper plain unmarked)

      stay : MarksStay m now
      stay = subst (MarksStay m) later.is (run_stays m laws setting running later.events later.proper)

      safe : IsSafe m setting running later.events now
      safe = subst (IsSafe m setting running later.events) later.is (run_is_safe m laws setting running later.events later.proper)

      keeps : KeepsDecision x.change (verdict_in x.change x.w.entries) (mask_contains (devices_in x.plan.edits) (suc d)) after.history
      keeps =
          subst (λ c. KeepsDecision c (verdict_in c x.w.entries) (mask_contains (devices_in x.plan.edits) (suc d)) after.history)
          (same_number x.change x.numbered)
          (safe.keeps_decisions (x.change - 1) x.plan d after x.planned here_now)

      pub said_now : is_ended_in x.change x.w.entries ≡ false → verdict_in x.change x.w.entries ≡ Some verdict.Commit
          → mask_contains (devices_in x.plan.edits) (suc d) ≡ true → IsSaidAt m x.change x.r after
      said_now unended decided member = record {
        token = some_is x.r (TellsToken (token_of x.change)) (slice_get x.w.devices d) x.here (x.kept.tells d);
        token_now = token_now;
        there = (tell d after here_now).there x.change;
        stays = stay.stays x.change x.small unended d after here_now;
        committed = not_never (outcome_of (token_of x.change) after.history) (keeps.committed_everywhere decided member);
        gone = gone_now;
      }
