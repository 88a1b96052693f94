-- After a run the journal records of aborted change sets what is so, and of all others devices of theirs alone.
use Rattle.std.proofs.Common.{◌≡◌, ◌∙◌, ℕ, suc, ◌-◌, ◌==◌, Bool, true, false, not, ◌||◌, List, Option, Some, refl, sym, ap, subst, arith}
use Rattle.std.proofs.lemmas.Bool.Decides.{nat_tests}
use Rattle.std.proofs.lemmas.Nat.Bits.{bit_at-zero}
use Rattle.std.proofs.lemmas.Option.{none-some}
use Rattle.nm_base.specs.declared.mask.DeviceMask.{DeviceMask}
use Rattle.nm_base.specs.Mask.{mask_contains}
use Rattle.nm_base.specs.Token.{token_of}
use Rattle.nm_proto.specs.declared.journal.Verdict.{Verdict}
use Rattle.nm_proto.specs.declared.journal.Verdict.TheVariants as verdict
use Rattle.nm_proto.specs.declared.plan.ChangePlan.{ChangePlan}
use Rattle.nm_proto.specs.declared.plan.Event.{Event}
use Rattle.nm_proto.specs.Content.{Meaning, Laws}
use Rattle.nm_history.specs.declared.outcome.Outcome.{Outcome}
use Rattle.nm_history.specs.declared.outcome.Outcome.TheVariants.{Never, Pending, Confirmed, Undone}
use Rattle.nm_history.specs.Outcome.{outcome_of}
use Rattle.nm_recovery.specs.Recovery.{verdict_in}
use Rattle.nm_world.specs.World as world
use Rattle.nm_world.specs.World.{Setting, WorldState, elementary, run, core_of, start, world_step}
use Rattle.nm_world.specs.Drain.{drained}
use Rattle.nm_world.proofs.Growing.{event_enters}
use Rattle.nm_safety.specs.Pair.{is_confirmed}
use Rattle.nm_safety.specs.Safe.{IsGiven, IsProper, is_abort}
use Rattle.nm_safety.specs.Support.{IsSupported}
use Rattle.nm_safety.proofs.Safely.{run_is_safe}
use Rattle.nm_safety.proofs.Lists.{down}
use Rattle.nm_safety.proofs.Runs.{one_supported}
use Rattle.nm_safety.proofs.Start.{begin_supported}
use Rattle.nm_safety.proofs.Steps.{run_keeps}
use Rattle.nm_safety.proofs.Tickets.{TicketedIn, one_tickets}
use Rattle.nm_safety.proofs.Drained.{drained_too}
use Rattle.nm_outcome_laws.specs.Records.{IsEnded, RecordsAborts}
use Rattle.nm_outcome_laws.proofs.records.Entries.{AreRight, enters_right, within_planned}

zero_is : (n : ℕ) (abort : Bool) → abort ≡ true → (n == 0 || not abort) ≡ true → n ≡ 0
zero_is n abort e h = grind (arith, nat_tests)

none_in : (n d : ℕ) → n ≡ 0 → mask_contains n d ≡ false
unfolding mask_contains
none_in n d e = subst (λ k. mask_contains k d ≡ false) (sym e) (ap (λ b. b == 1) (bit_at-zero (d - 1)))

commit_no_abort : (decided : Option Verdict) → decided ≡ Some verdict.Commit → is_abort decided ≡ false
commit_no_abort decided e = ap is_abort e

not_confirmed : (decided : Option Verdict) (outcome : Outcome) → (outcome ≡ Confirmed → decided ≡ Some verdict.Commit)
    → is_abort decided ≡ true → is_confirmed outcome ≡ false
not_confirmed decided Never only a = refl
not_confirmed decided Pending only a = refl
not_confirmed decided (Undone by) only a = refl
not_confirmed decided Confirmed only a = absurd (let g : true ≡ false = sym a ∙ commit_no_abort decided (only refl) in cc)

module _ {Config TheEdit Node : Type 0} (m : Meaning Config TheEdit Node) (laws : Laws m) (setting : Setting TheEdit)
    (running : List Config) (events : List Event) (proper : IsProper {Node = Node} m setting running events) where
  -- a world whose entries record ends rightly
  record IsRecording (w : WorldState Config Node) : Type 0 where
    supported : IsSupported m setting (core_of w)
    tickets : TicketedIn setting w
    right : AreRight w.entries

  one_records : (w : WorldState Config Node) (event : Event) → IsGiven setting event → IsRecording w → IsRecording (world_step m setting w event)
  one_records w event given k = record {
    supported = one_supported m laws setting proper.edits proper.few proper.strangers w event given k.supported;
    tickets = one_tickets m setting w event given k.tickets;
    right =
        enters_right w.entries k.supported.entries (world.entry_of setting (core_of w) event)
        (elementary m setting (core_of w) event).after.entries (event_enters m setting (core_of w) event) k.right;
  }

  abbrev ran : WorldState Config Node
  ran = run m setting (start setting running) events

  recording : IsRecording ran
  recording =
      run_keeps m setting IsRecording one_records (start setting running) events proper.given
      (record {
        supported = begin_supported m setting running proper.first;
        tickets = λ i. tt;
        right = λ change kept e. absurd (none-some kept e);
      })

  none_kept : (place : ℕ) (plan : ChangePlan) (kept : DeviceMask) → IsEnded setting ran place plan kept
      → is_abort (verdict_in (suc place) ran.entries) ≡ true → kept.0 ≡ 0
  none_kept place plan kept e a =
      zero_is kept.0 (is_abort (verdict_in (suc place) ran.entries)) a (recording.right (suc place) kept e.recorded).none

  pub run_records : RecordsAborts setting ran
  run_records = record {
    members = λ place plan kept e.
        within_planned setting.plans (suc place) plan (down setting.plans place ∙ e.planned) kept.0 ran.entries recording.tickets
        (recording.right (suc place) kept e.recorded).over;
    none = none_kept;
    aborted = λ place plan kept e a device r here.
        none_in kept.0 (suc device) (none_kept place plan kept e a)
        ∙ sym (not_confirmed (verdict_in (suc place) ran.entries) (outcome_of (token_of (suc place)) r.history)
        ((run_is_safe m laws setting running events proper).keeps_decisions place plan device r e.planned here).confirmed_only_if_journalled
        a);
  }

module _ {Config TheEdit Node : Type 0} (m : Meaning Config TheEdit Node) (laws : Laws m) (setting : Setting TheEdit)
    (running : List Config) (events : List Event) (steps : ℕ) where
  pub drained_records : IsProper {Node = Node} m setting running events
      → RecordsAborts setting (drained m setting steps (run m setting (start setting running) events))
  drained_records proper =
      drained_too m laws setting running (RecordsAborts setting) (run_records m laws setting running) events steps proper
