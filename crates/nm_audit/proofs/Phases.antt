-- What the phases of the board tell of outcomes.
use Rattle.std.proofs.Common.{◌≡◌, ◌↔◌, ◌⊎◌, inl, inr, ℕ, List, refl, arith}
use Rattle.nm_proto.specs.Content.{Meaning, TablesState}
use Rattle.nm_device.specs.Device.{fresh_device}
use Rattle.nm_history.specs.declared.event.Noted.{Noted}
use Rattle.nm_history.specs.declared.outcome.Outcome.{Outcome}
use Rattle.nm_history.specs.declared.outcome.Outcome.TheVariants.{Never, Pending, Confirmed, Undone}
use Rattle.nm_history.specs.declared.outcome.Undoing.TheVariants.{Cancel, End, Timer, Restart}
use Rattle.nm_history.specs.History.{IsLegal}
use Rattle.nm_history.specs.Outcome.{outcome_of}
use Rattle.nm_chronicle.specs.Phases.{outcome_phase}
use Rattle.nm_device_laws.proofs.Lasting.{tokens_last}
use Rattle.nm_audit.specs.Decided.{TellsOutcome}

undone_phases : (outcome : Outcome) → outcome_phase outcome ≡ 3 → (outcome ≡ Undone End → ⊥) → (outcome ≡ Undone Timer) ⊎ (outcome ≡ Undone Restart)
undone_phases Never e lasts = absurd (omega (arith, e))
undone_phases Pending e lasts = absurd (omega (arith, e))
undone_phases Confirmed e lasts = absurd (omega (arith, e))
undone_phases (Undone Cancel) e lasts = absurd (omega (arith, e))
undone_phases (Undone End) e lasts = absurd (lasts refl)
undone_phases (Undone Timer) e lasts = inl refl
undone_phases (Undone Restart) e lasts = inr refl

pub undone_alone : {Config TheEdit Node : Type 0} (m : Meaning Config TheEdit Node) (tables : TablesState TheEdit) (token : List ℕ) (running : Config) (history : List Noted) → IsLegal m tables (fresh_device running) history
    → outcome_phase (outcome_of token history) ≡ 3 → (outcome_of token history ≡ Undone Timer) ⊎ (outcome_of token history ≡ Undone Restart)
undone_alone m tables token running history legal e = undone_phases (outcome_of token history) e (tokens_last m tables token running history legal)

-- ---- each phase has its outcome

both : {P Q : Type 0} → P → Q → P ↔ Q
both p q = ((λ _. q), (λ _. p))

neither : {P Q : Type 0} → (P → ⊥) → (Q → ⊥) → P ↔ Q
neither p q = ((λ x. absurd (p x)), (λ x. absurd (q x)))

neither_way : {P Q : Type 0} → (P → ⊥) → (Q → ⊥) → P ⊎ Q → ⊥
neither_way p q (inl x) = p x
neither_way p q (inr y) = q y

pub tells : (outcome : Outcome) → (outcome ≡ Undone End → ⊥) → TellsOutcome (outcome_phase outcome) outcome
tells Never lasts = record {
  never = both refl refl;
  pending = neither (λ e. omega (arith, e)) (λ e. cc);
  confirmed = neither (λ e. omega (arith, e)) (λ e. cc);
  undone = neither (λ e. omega (arith, e)) (λ e. neither_way (λ x. cc) (λ x. cc) e);
  cancelled = neither (λ e. omega (arith, e)) (λ e. cc);
}
tells Pending lasts = record {
  never = neither (λ e. omega (arith, e)) (λ e. cc);
  pending = both refl refl;
  confirmed = neither (λ e. omega (arith, e)) (λ e. cc);
  undone = neither (λ e. omega (arith, e)) (λ e. neither_way (λ x. cc) (λ x. cc) e);
  cancelled = neither (λ e. omega (arith, e)) (λ e. cc);
}
tells Confirmed lasts = record {
  never = neither (λ e. omega (arith, e)) (λ e. cc);
  pending = neither (λ e. omega (arith, e)) (λ e. cc);
  confirmed = both refl refl;
  undone = neither (λ e. omega (arith, e)) (λ e. neither_way (λ x. cc) (λ x. cc) e);
  cancelled = neither (λ e. omega (arith, e)) (λ e. cc);
}
tells (Undone Timer) lasts = record {
  never = neither (λ e. omega (arith, e)) (λ e. cc);
  pending = neither (λ e. omega (arith, e)) (λ e. cc);
  confirmed = neither (λ e. omega (arith, e)) (λ e. cc);
  undone = both refl (inl refl);
  cancelled = neither (λ e. omega (arith, e)) (λ e. cc);
}
tells (Undone Restart) lasts = record {
  never = neither (λ e. omega (arith, e)) (λ e. cc);
  pending = neither (λ e. omega (arith, e)) (λ e. cc);
  confirmed = neither (λ e. omega (arith, e)) (λ e. cc);
  undone = both refl (inr refl);
  cancelled = neither (λ e. omega (arith, e)) (λ e. cc);
}
tells (Undone Cancel) lasts = record {
  never = neither (λ e. omega (arith, e)) (λ e. cc);
  pending = neither (λ e. omega (arith, e)) (λ e. cc);
  confirmed = neither (λ e. omega (arith, e)) (λ e. cc);
  undone = neither (λ e. omega (arith, e)) (λ e. neither_way (λ x. cc) (λ x. cc) e);
  cancelled = both refl refl;
}
tells (Undone End) lasts = absurd (lasts refl)
