-- Each abort has its cause in every run, and while a world is brought to rest.
use Rattle.std.proofs.Common.{◌≡◌, ℕ, zero, suc, ◌-◌, ◌≤◌, ◌==◌, Bool, true, false, List, [], ◌∷◌, Contains, length, replicate, Some, None}
use Rattle.std.proofs.Common.{IfSome, slice_get, refl, subst, arith, if◌then◌else◌}
use Rattle.std.specs.List.{All}
use Rattle.std.proofs.lemmas.Option.{none-some}
use Rattle.nm_proto.specs.declared.plan.Event.{Event}
use Rattle.nm_proto.specs.declared.plan.ChangePlan.{ChangePlan}
use Rattle.nm_proto.specs.declared.journal.AbortCause.{AbortCause}
use Rattle.nm_proto.specs.declared.journal.Verdict.TheVariants.{Abort}
use Rattle.nm_proto.specs.Content.{Meaning, Laws}
use Rattle.nm_device.specs.Device.{is_manager}
use Rattle.nm_manager.specs.Slot.{fresh_side, wire_of_side}
use Rattle.nm_decider.specs.Course.{seat_count}
use Rattle.nm_manager.specs.Manager.{slots_from, wire_of}
use Rattle.nm_world.specs.World.{Setting, WorldState, world_step, core_of, run, start}
use Rattle.nm_world.specs.Drain.{drained}
use Rattle.nm_safety.specs.Safe.{IsGiven, IsProper}
use Rattle.nm_safety.proofs.Cases.{comes}
use Rattle.nm_safety.proofs.Drained.{drained_too}
use Rattle.nm_safety.proofs.Facts.{SupportedIn}
use Rattle.nm_safety.proofs.Runs.{one_supported}
use Rattle.nm_safety.proofs.Steps.{run_keeps}
use Rattle.nm_safety.proofs.Start.{begin_supported}
use Rattle.nm_outcome_laws.specs.Causes.{exchanges_at, exchanges_on, HasCause, HaveCauses}
use Rattle.nm_outcome_laws.proofs.causes.Stays.{trouble_of, IsCaused, has_causes}
use Rattle.nm_outcome_laws.proofs.causes.Cases.{IsCausedAfter, cases}

-- ---- the beginning

no_side : (n place link : ℕ) → exchanges_at (wire_of_side (slice_get (replicate n fresh_side) place)) link ≡ []
no_side n place link = no_at n place (link == 0)
  where
    no_at : (n place : ℕ) (b : Bool)
        → exchanges_on (if b then None else slice_get (wire_of_side (slice_get (replicate n fresh_side) place)).links (link - 1)) ≡ []
    no_at n place true = refl
    no_at zero place false = refl
    no_at (suc n) zero false = refl
    no_at (suc n) (suc place) false = no_at n place false

none_told : (plans : List ChangePlan) (base place device link : ℕ) → exchanges_at (wire_of device (slice_get (slots_from base plans) place)) link ≡ []
none_told [] base place device link = no_link (link == 0)
  where
    no_link : (b : Bool) → exchanges_on (if b then None else slice_get [] (link - 1)) ≡ []
    no_link true = refl
    no_link false = refl
none_told (plan ∷ plans) base zero device link = no_side seat_count (device - 1) link
none_told (plan ∷ plans) base (suc place) device link = none_told plans (suc base) place device link

none_noted : (plans : List ChangePlan) (base place : ℕ) (Q : AbortCause → Type 0) → IfSome (trouble_of (slice_get (slots_from base plans) place)) Q
none_noted [] base place Q = tt
none_noted (plan ∷ plans) base zero Q = tt
none_noted (plan ∷ plans) base (suc place) Q = none_noted plans (suc base) place Q

nothing_in : {A : Type 0} (x : A) → Contains [] x → ⊥
nothing_in x c = absurd (omega (arith, c.1))

module _ {Config TheEdit Node : Type 0} (setting : Setting TheEdit) (running : List Config) where
  begin_caused : IsCaused {Config = Config} {Node = Node} (start setting running)
  begin_caused = record {
    alike = λ change. record { started = refl; decided = refl };
    answered = λ change device link x there. absurd (nothing_in x (subst (λ xs. Contains xs x) (none_told setting.plans 1 (change - 1) device link) there));
    troubles = λ place. none_noted setting.plans 1 place (HasCause (start {Node = Node} setting running) (suc place));
    aborted = λ change why e. absurd (none-some (Abort why) e);
  }

-- ---- every event

module _ {Config TheEdit Node : Type 0} (m : Meaning Config TheEdit Node) (laws : Laws m) (setting : Setting TheEdit)
    (edits : All m.edit_belongs setting.tables.edits) (few : length setting.plans ≤ 64)
    (strangers : (number : ℕ) → IfSome (slice_get setting.users number) (λ user. is_manager (Some user) ≡ false)) where
  -- what every world keeps
  record Holds (w : WorldState Config Node) : Type 0 where
    supported : SupportedIn m setting w
    caused : IsCaused w

  one_holds : (w : WorldState Config Node) (event : Event) → IsGiven setting event → Holds w → Holds (world_step m setting w event)
  one_holds w event given h = record {
    supported = one_supported m laws setting edits few strangers w event given h.supported;
    caused = comes m setting (core_of w) (IsCausedAfter m laws setting edits few w h.supported h.caused)
        (cases m laws setting edits few w h.supported h.caused) event given;
  }

-- ---- the whole

pub run_has_causes : {Config TheEdit Node : Type 0} (m : Meaning Config TheEdit Node) (laws : Laws m) (setting : Setting TheEdit) (running : List Config)
    (events : List Event) → IsProper {Node = Node} m setting running events → HaveCauses (run m setting (start {Node = Node} setting running) events)
run_has_causes m laws setting running events proper =
    has_causes (run m setting (start setting running) events)
    (run_keeps m setting (Holds m laws setting proper.edits proper.few proper.strangers)
    (one_holds m laws setting proper.edits proper.few proper.strangers) (start setting running) events proper.given
    (record { supported = begin_supported m setting running proper.first; caused = begin_caused setting running })).caused

pub drained_has_causes : {Config TheEdit Node : Type 0} (m : Meaning Config TheEdit Node) (laws : Laws m) (setting : Setting TheEdit) (running : List Config)
    (events : List Event) → IsProper {Node = Node} m setting running events
    → (steps : ℕ) → HaveCauses (drained m setting steps (run m setting (start {Node = Node} setting running) events))
drained_has_causes m laws setting running events proper steps =
    drained_too m laws setting running HaveCauses (run_has_causes m laws setting running) events steps proper
