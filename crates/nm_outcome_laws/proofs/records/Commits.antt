-- After a run the journal records of change sets that were to be committed what is so.
use Rattle.std.proofs.Common.{◌≡◌, ◌≢◌, ◌∙◌, ℕ, suc, ◌+◌, ◌<◌, ◌^◌, Bool, true, false, List, Some, slice_get, refl, sym, ap, subst, arith}
use Rattle.std.proofs.lemmas.Option.{same_Some}
use Rattle.nm_base.specs.declared.mask.DeviceMask.{DeviceMask}
use Rattle.nm_base.specs.Mask.{mask_contains}
use Rattle.nm_base.specs.Token.{token_of}
use Rattle.nm_proto.specs.declared.journal.Verdict.TheVariants as verdict
use Rattle.nm_proto.specs.declared.plan.ChangePlan.{ChangePlan}
use Rattle.nm_proto.specs.declared.plan.Event.{Event}
use Rattle.nm_proto.specs.Content.{Meaning, Laws}
use Rattle.nm_proto.specs.Plan.{devices_in}
use Rattle.nm_journal.specs.Entries.{is_within}
use Rattle.nm_history.specs.declared.outcome.Outcome.{Outcome}
use Rattle.nm_history.specs.declared.outcome.Outcome.TheVariants.{Never, Pending, Confirmed, Undone}
use Rattle.nm_history.specs.Outcome.{is_final, outcome_of}
use Rattle.nm_history.specs.History.{RecordedState}
use Rattle.nm_recovery.specs.Recovery.{verdict_in}
use Rattle.nm_world.specs.World.{Setting, WorldState, run, start}
use Rattle.nm_world.specs.Drain.{drained}
use Rattle.nm_safety.specs.Pair.{is_confirmed}
use Rattle.nm_safety.specs.Safe.{IsProper}
use Rattle.nm_safety.proofs.Drained.{drained_too}
use Rattle.nm_safety.proofs.Facts.{change_small}
use Rattle.nm_safety.proofs.Lists.{some_is, down}
use Rattle.nm_commit_laws.specs.Marks.{ArePlain, AreUnmarked, is_there}
use Rattle.nm_commit_laws.proofs.marks.Known.{IsKnown}
use Rattle.nm_commit_laws.proofs.marks.Runs.{run_single}
use Rattle.nm_outcome_laws.specs.Records.{IsEnded, RecordsCommits}
use Rattle.nm_outcome_laws.specs.RecordsSupport.{outcome_in, outcomes_at}
use Rattle.nm_outcome_laws.proofs.records.Aborts.{run_records}
use Rattle.nm_outcome_laws.proofs.records.Ended.{IsSo, outside}
use Rattle.nm_outcome_laws.proofs.records.Runs.{run_recorded}

-- ---- words

not_pending : (outcome : Outcome) → is_final outcome ≡ true → outcome ≢ Pending
not_pending outcome over is = absurd (let g : false ≡ true = sym (ap is_final is) ∙ over in cc)

gone_pending : (outcome : Outcome) → is_there outcome ≡ false → outcome ≢ Pending
gone_pending outcome gone is = absurd (let g : true ≡ false = sym (ap is_there is) ∙ gone in cc)

gone_confirmed : (outcome : Outcome) → is_there outcome ≡ false → is_confirmed outcome ≡ false
gone_confirmed Never gone = refl
gone_confirmed Pending gone = absurd (let g : true ≡ false = gone in cc)
gone_confirmed Confirmed gone = absurd (let g : true ≡ false = gone in cc)
gone_confirmed (Undone by) gone = refl

module _ {Config TheEdit Node : Type 0} (m : Meaning Config TheEdit Node) (laws : Laws m) (setting : Setting TheEdit)
    (running : List Config) (events : List Event) (proper : IsProper {Node = Node} m setting running events)
    (plain : ArePlain m setting) (unmarked : AreUnmarked m running) where
  abbrev ran : WorldState Config Node
  ran = run m setting (start setting running) events

  module _ (place : ℕ) (plan : ChangePlan) (kept : DeviceMask) (e : IsEnded setting ran place plan kept)
      (commit : verdict_in (suc place) ran.entries ≡ Some verdict.Commit) (device : ℕ) (r : RecordedState Config Node)
      (here : slice_get ran.devices device ≡ Some r) where
    abbrev members : ℕ
    members = devices_in plan.edits

    abbrev o : Outcome
    o = outcome_of (token_of (suc place)) r.history

    so_here : mask_contains members (suc device) ≡ true → IsSo kept device o
    so_here member =
        some_is o (IsSo kept device) (outcomes_at (suc place) ran.devices device)
        (ap (outcome_in (suc place)) here)
        ((run_recorded m laws setting running plain unmarked events proper).so place plan kept e.planned e.recorded commit device member)

    -- what is there is of the change set's devices
    not_there : mask_contains members (suc device) ≡ false → (b : Bool) → is_there o ≡ b → is_there o ≡ false
    not_there out false is = is
    not_there out true is =
        let k : IsKnown setting.plans ran.entries (suc place) device =
        some_is r (λ one. (n : ℕ) → n < 2 ^ 32 → is_there (outcome_of (token_of n) one.history) ≡ true
        → IsKnown setting.plans ran.entries n device) (slice_get ran.devices device) here
        ((run_single m laws setting running events proper).known device) (suc place) (change_small setting proper.few place plan e.planned) is in
        let same : k.plan ≡ plan = same_Some k.plan plan (sym k.planned ∙ down setting.plans place ∙ e.planned) in
        let next : device + 1 ≡ suc device = omega arith in
        let member : mask_contains members (suc device) ≡ true =
        subst (λ n. mask_contains members n ≡ true) next
        (subst (λ (one : ChangePlan). mask_contains (devices_in one.edits) (device + 1) ≡ true) same k.member) in
        absurd (let g : true ≡ false = sym member ∙ out in cc)

    none_pending : o ≢ Pending
    none_pending = by_member (mask_contains members (suc device)) refl
      where
        by_member : (b : Bool) → mask_contains members (suc device) ≡ b → o ≢ Pending
        by_member true member = not_pending o (so_here member).over
        by_member false out = gone_pending o (not_there out (is_there o) refl)

    kept_confirmed : mask_contains kept.0 (suc device) ≡ is_confirmed o
    kept_confirmed = by_member (mask_contains members (suc device)) refl
      where
        by_member : (b : Bool) → mask_contains members (suc device) ≡ b → mask_contains kept.0 (suc device) ≡ is_confirmed o
        by_member true member = (so_here member).same
        by_member false out =
            let within : is_within kept.0 members ≡ true = (run_records m laws setting running events proper).members place plan kept e in
            outside kept.0 members (suc device) within out ∙ sym (gone_confirmed o (not_there out (is_there o) refl))

  pub run_commits : RecordsCommits setting ran
  run_commits = record { over = none_pending; kept = kept_confirmed }

module _ {Config TheEdit Node : Type 0} (m : Meaning Config TheEdit Node) (laws : Laws m) (setting : Setting TheEdit)
    (running : List Config) (events : List Event) (steps : ℕ) where
  pub drained_commits : IsProper {Node = Node} m setting running events → ArePlain m setting → AreUnmarked m running
      → RecordsCommits setting (drained m setting steps (run m setting (start setting running) events))
  drained_commits proper plain unmarked =
      drained_too m laws setting running (RecordsCommits setting)
      (λ before may. run_commits m laws setting running before may plain unmarked) events steps proper
