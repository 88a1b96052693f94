-- Each device's history leads to it from the configuration at its place, whatever a crash reads, and so tells what replaying it tells.
use Rattle.std.proofs.Common.{◌≡◌, ℕ, zero, suc, List, [], ◌∷◌, Bool, true, false, Option, Some, None, IfSome, is_some, slice_get, refl, sym, ap, ◌∙◌, subst}
use Rattle.nm_proto.specs.Content.{Meaning, Laws}
use Rattle.nm_proto.specs.declared.plan.ChangePlan.{ChangePlan}
use Rattle.nm_proto.specs.declared.plan.Event.{Event}
use Rattle.nm_device.specs.Device.{DeviceState, fresh_device}
use Rattle.nm_history.specs.declared.event.DeviceEvent.{DeviceEvent}
use Rattle.nm_history.specs.History.{Happened, RecordedState, recorded, recorded_with, recorded_if}
use Rattle.nm_history.specs.Leads.{Leads}
use Rattle.nm_history.proofs.Histories.{leads_none, leads_push}
use Rattle.nm_device_laws.specs.Moment.{Happens}
use Rattle.nm_notify.specs.Notices.{notices_in}
use Rattle.nm_notify.specs.Runs.{AreRuns}
use Rattle.nm_notify.proofs.Going.{are_runs}
use Rattle.nm_notify.proofs.Pending.{same_told}
use Rattle.nm_world.specs.Drain.{drain_event, drain_by, drain_step, drained}
use Rattle.nm_world.specs.Runs.{LeadsTo, Reaches, Rereads}
use Rattle.nm_world.specs.World.{IsFirst, Setting, WorldState, is_crash, run, start}
use Rattle.nm_safety.proofs.Devices.{one_keeps, run_keeps}
use Rattle.nm_safety.proofs.Lists.{some_is, to_some}
use Rattle.nm_safety.proofs.Sound.{first_at}
use Rattle.nm_notice_laws.specs.Replays.{TellsAsReplayed, TellAsReplayed}

-- ---- what everything that happens at a device keeps is kept by what events lead to, whatever crashes read

module _ {Config TheEdit Node : Type 0} (m : Meaning Config TheEdit Node) (setting : Setting TheEdit) (P : ℕ → RecordedState Config Node → Type 0)
    (step : (place : ℕ) (r : RecordedState Config Node) (event : DeviceEvent) (h : Happened Config Node) → Happens m setting.tables r.device event h → P place r → P place (recorded_with r event h)) where
  abbrev AllIn : WorldState Config Node → Type 0
  AllIn w = (place : ℕ) → IfSome (slice_get w.devices place) (P place)

  -- a crash leaves the devices as they are
  reread_keeps : (plans : List ChangePlan) (w now : WorldState Config Node) → Rereads plans w now → AllIn w → AllIn now
  reread_keeps plans w now r all = subst AllIn (sym r.goes_on) all

  leads_keep : (event : Event) (w now : WorldState Config Node) (crashes : Bool) → is_crash event ≡ crashes → LeadsTo m setting event w now → AllIn w → AllIn now
  leads_keep event w now false is leads all = subst AllIn (sym (leads.does is)) (run_keeps m setting P step w (event ∷ []) all)
  leads_keep event w now true is leads all = reread_keeps setting.plans w now (leads.rereads is) all

  pub reaches_keep : (w : WorldState Config Node) (events : List Event) (now : WorldState Config Node) → Reaches m setting w events now → AllIn w → AllIn now
  reaches_keep w [] now is all = subst AllIn (sym is) all
  reaches_keep w (event ∷ events) now reaches all =
      reaches_keep reaches.0 events now reaches.2 (leads_keep event w reaches.0 (is_crash event) refl reaches.1 all)

  drain_by_keeps : (w : WorldState Config Node) (event : Option Event) → AllIn w → AllIn (drain_by m setting w event)
  drain_by_keeps w None all = all
  drain_by_keeps w (Some event) all = one_keeps m setting P step w event all

  pub drained_keeps : (steps : ℕ) (w : WorldState Config Node) → AllIn w → AllIn (drained m setting steps w)
  drained_keeps zero w all = all
  drained_keeps (suc n) w all = drained_keeps n (drain_step m setting w) (drain_by_keeps w (drain_event setting w) all)

-- ---- histories

module _ {Config TheEdit Node : Type 0} (m : Meaning Config TheEdit Node) (laws : Laws m) (setting : Setting TheEdit) (running : List Config)
    (first : (place : ℕ) → IfSome (slice_get running place) (IsFirst m)) where
  -- a device's history leads to it from the configuration at its place
  record HasBegun (place : ℕ) (r : RecordedState Config Node) : Type 0 where
    began : Config
    begins : slice_get running place ≡ Some began
    leads : Leads m setting.tables (fresh_device began) r

  happened_begun : (place : ℕ) (r : RecordedState Config Node) (event : DeviceEvent) (h : Happened Config Node) → Happens m setting.tables r.device event h → HasBegun place r → HasBegun place (recorded_with r event h)
  happened_begun place r event h happens b = record {
    began = b.began;
    begins = b.begins;
    leads = subst (λ done. Leads m setting.tables (fresh_device b.began) (recorded_if r event done)) happens (leads_push m laws setting.tables (fresh_device b.began) r event b.leads);
  }

  first_begun : (place : ℕ) (config : Config) → slice_get running place ≡ Some config → HasBegun place (recorded config)
  first_begun place config here = record {
    began = config;
    begins = here;
    leads = leads_none m laws setting.tables config (some_is config (IsFirst m) (slice_get running place) here (first place)).valid;
  }

  abbrev AllBegun : WorldState Config Node → Type 0
  AllBegun w = (place : ℕ) → IfSome (slice_get w.devices place) (HasBegun place)

  start_begun : AllBegun (start setting running)
  start_begun = first_at HasBegun running first_begun

  begun_tells : (place : ℕ) (r : RecordedState Config Node) → HasBegun place r → TellsAsReplayed m setting running place r
  begun_tells place r b =
      let l = b.leads in
      record {
        began = b.began;
        begins = b.begins;
        legal = l.legal;
        reaches = l.reaches;
        replays = same_told m laws setting.tables 1 (fresh_device b.began) r.history l.legal;
        runs = subst (λ (s : DeviceState Config Node). AreRuns (notices_in r.history) (is_some s.pending)) l.reaches (are_runs m laws setting.tables b.began r.history l.legal);
      }

  tells : (w : WorldState Config Node) → AllBegun w → TellAsReplayed m setting running w
  tells w all place =
      to_some (TellsAsReplayed m setting running place) (slice_get w.devices place)
      (λ r there. begun_tells place r (some_is r (HasBegun place) (slice_get w.devices place) there (all place)))

  -- a run, brought to rest by so many steps
  pub run_tells : (events : List Event) (steps : ℕ) → TellAsReplayed m setting running (drained m setting steps (run m setting (start setting running) events))
  run_tells events steps =
      let ran = run m setting (start setting running) events in
      tells (drained m setting steps ran)
      (drained_keeps m setting HasBegun happened_begun steps ran (run_keeps m setting HasBegun happened_begun (start setting running) events start_begun))

  -- and every world that events lead to
  pub reached_tells : (events : List Event) (steps : ℕ) (last : WorldState Config Node) → Reaches m setting (start setting running) events last
      → TellAsReplayed m setting running (drained m setting steps last)
  reached_tells events steps last reaches =
      tells (drained m setting steps last)
      (drained_keeps m setting HasBegun happened_begun steps last (reaches_keep m setting HasBegun happened_begun (start setting running) events last reaches start_begun))
