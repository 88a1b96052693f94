-- After a run the end of every change set is as the journal records it: one that is ended was to be committed or to be aborted.
use Rattle.std.proofs.Common.{◌≡◌, ◌≢◌, ◌∙◌, ℕ, suc, true, false, List, find, Option, Some, None, is_some, option_and_then, slice_get, refl, sym, ap}
use Rattle.std.proofs.lemmas.Option.{none-some}
use Rattle.nm_base.specs.declared.mask.DeviceMask.{DeviceMask}
use Rattle.nm_base.specs.Mask.{mask_contains}
use Rattle.nm_base.specs.Token.{token_of}
use Rattle.nm_proto.specs.declared.journal.Entry.{Entry}
use Rattle.nm_proto.specs.declared.journal.Verdict.{Verdict}
use Rattle.nm_proto.specs.declared.journal.Verdict.TheVariants as verdict
use Rattle.nm_proto.specs.declared.plan.ChangePlan.{ChangePlan}
use Rattle.nm_proto.specs.declared.plan.Event.{Event}
use Rattle.nm_proto.specs.Content.{Meaning, Laws}
use Rattle.nm_history.specs.declared.outcome.Outcome.TheVariants.{Pending}
use Rattle.nm_history.specs.Outcome.{outcome_of}
use Rattle.nm_history.specs.History.{RecordedState}
use Rattle.nm_journal.specs.Entries.{ends}
use Rattle.nm_recovery.specs.Recovery.{is_ended_in, kept_in, kept_of, verdict_in}
use Rattle.nm_world.specs.World.{Setting, WorldState, run, start}
use Rattle.nm_world.specs.Drain.{drained}
use Rattle.nm_safety.specs.Pair.{is_confirmed}
use Rattle.nm_safety.specs.Safe.{IsProper, is_abort}
use Rattle.nm_safety.proofs.Drained.{drained_too}
use Rattle.nm_safety.proofs.Runs.{run_supported}
use Rattle.nm_safety.proofs.Start.{begin_supported}
use Rattle.nm_commit_laws.specs.Marks.{ArePlain, AreUnmarked}
use Rattle.nm_outcome_laws.proofs.aborts.Runs.{run_is_over}
use Rattle.nm_outcome_laws.specs.Records.{EndsAsRecorded, IsEnded}
use Rattle.nm_outcome_laws.proofs.records.Aborts.{run_records}
use Rattle.nm_outcome_laws.proofs.records.Commits.{run_commits}
use Rattle.nm_outcome_laws.proofs.records.Entries.{some_ended}

-- who kept it stands in an entry that ends it
found_some : (found : Option Entry) (kept : DeviceMask) → option_and_then kept_of found ≡ Some kept → is_some found ≡ true
found_some None kept e = absurd (none-some kept e)
found_some (Some entry) kept e = refl

recorded_ended : (change : ℕ) (entries : List Entry) (kept : DeviceMask) → kept_in change entries ≡ Some kept → is_ended_in change entries ≡ true
recorded_ended change entries kept e = some_ended change entries (found_some (find (ends change) entries) kept e)

module _ {Config TheEdit Node : Type 0} (m : Meaning Config TheEdit Node) (laws : Laws m) (setting : Setting TheEdit)
    (running : List Config) (events : List Event) (proper : IsProper {Node = Node} m setting running events)
    (plain : ArePlain m setting) (unmarked : AreUnmarked m running) where
  abbrev ran : WorldState Config Node
  ran = run m setting (start setting running) events

  module _ (place : ℕ) (plan : ChangePlan) (kept : DeviceMask) (e : IsEnded setting ran place plan kept) (device : ℕ)
      (r : RecordedState Config Node) (here : slice_get ran.devices device ≡ Some r) where
    ended : is_ended_in (suc place) ran.entries ≡ true
    ended = recorded_ended (suc place) ran.entries kept e.recorded

    decided : is_some (verdict_in (suc place) ran.entries) ≡ true
    decided =
        ((run_supported m laws setting proper.edits proper.few proper.strangers (start setting running) events proper.given
        (begin_supported m setting running proper.first)).entries (suc place)).ended ended

    over_by : (found : Option Verdict) → verdict_in (suc place) ran.entries ≡ found → outcome_of (token_of (suc place)) r.history ≢ Pending
    over_by None is = absurd (let g : false ≡ true = sym (ap is_some is) ∙ decided in cc)
    over_by (Some verdict.Commit) is =
        (run_commits m laws setting running events proper plain unmarked).over place plan kept e is device r here
    over_by (Some (verdict.Abort why)) is =
        (run_is_over m laws setting running events proper).over place plan e.planned ended (ap is_abort is) device r here

    kept_by : (found : Option Verdict) → verdict_in (suc place) ran.entries ≡ found
        → mask_contains kept.0 (suc device) ≡ is_confirmed (outcome_of (token_of (suc place)) r.history)
    kept_by None is = absurd (let g : false ≡ true = sym (ap is_some is) ∙ decided in cc)
    kept_by (Some verdict.Commit) is =
        (run_commits m laws setting running events proper plain unmarked).kept place plan kept e is device r here
    kept_by (Some (verdict.Abort why)) is =
        (run_records m laws setting running events proper).aborted place plan kept e (ap is_abort is) device r here

  pub run_ends_so : EndsAsRecorded setting ran
  run_ends_so = record {
    over = λ place plan kept e device r here. over_by place plan kept e device r here (verdict_in (suc place) ran.entries) refl;
    kept = λ place plan kept e device r here. kept_by place plan kept e device r here (verdict_in (suc place) ran.entries) refl;
  }

module _ {Config TheEdit Node : Type 0} (m : Meaning Config TheEdit Node) (laws : Laws m) (setting : Setting TheEdit)
    (running : List Config) (events : List Event) (steps : ℕ) where
  pub drained_ends_so : IsProper {Node = Node} m setting running events → ArePlain m setting → AreUnmarked m running
      → EndsAsRecorded setting (drained m setting steps (run m setting (start setting running) events))
  drained_ends_so proper plain unmarked =
      drained_too m laws setting running (EndsAsRecorded setting)
      (λ before may. run_ends_so m laws setting running before may plain unmarked) events steps proper
