-- What each elementary event keeps is kept by a whole run.
use Rattle.std.proofs.Common.{ℕ, ◌≡◌, zero, suc, ◌≤◌, false, List, [], ◌∷◌, Option, Some, None, IfSome, refl}
use Rattle.nm_proto.specs.declared.plan.Event.{Event}
use Rattle.nm_proto.specs.declared.plan.Event.TheVariants.{Submit, Turn, Deliver, Answer, Break, Lose, Advance, Restart, Forget, Crash, Renew, Foreign, Leave, Round}
use Rattle.nm_proto.specs.Content.{Meaning}
use Rattle.nm_manager.specs.Manager.{wire_in}
use Rattle.nm_world.specs.declared.happened.Sending.{Sending}
use Rattle.nm_world.specs.World.{Setting, WorldState, elementary, world_step, core_of, manager_in, sending_of, replies_on, followed, round, rounds, event_step, run}
use Rattle.nm_world.proofs.Passing.{is_round}
use Rattle.nm_safety.specs.Safe.{IsGiven, AreGiven}
use Rattle.nm_safety.proofs.Sendings.{turn_goes}

module _ {Config TheEdit Node : Type 0} (m : Meaning Config TheEdit Node) (setting : Setting TheEdit) (P : WorldState Config Node → Type 0)
    (one : (w : WorldState Config Node) (event : Event) → IsGiven setting event → is_round event ≡ false → P w → P (world_step m setting w event)) where
  followed_keeps : (w : WorldState Config Node) (change : ℕ) → 1 ≤ change → (sending : Option Sending) → IfSome sending (λ (sent : Sending). 1 ≤ sent.device) → P w → P (followed m setting w change sending)
  followed_keeps w change numbered None sent k = k
  followed_keeps w change numbered (Some sending) sent k =
      let v = world_step m setting w (Deliver change sending.device sending.link) in
      one v (Answer change sending.device sending.link (replies_on (wire_in (manager_in (core_of v)) change sending.device) sending.link)) (numbered, sent) refl
      (one w (Deliver change sending.device sending.link) numbered refl k)

  rounds_keep : (n : ℕ) (w : WorldState Config Node) (change : ℕ) → 1 ≤ change → P w → P (rounds m setting n w change)
  rounds_keep zero w change numbered k = k
  rounds_keep (suc n) w change numbered k =
      rounds_keep n (round m setting w change) change numbered
      (followed_keeps (world_step m setting w (Turn change)) change numbered (sending_of (elementary m setting (core_of w) (Turn change)).happened)
      (turn_goes setting.plans (manager_in (core_of w)) change) (one w (Turn change) numbered refl k))

  step_keeps : (w : WorldState Config Node) (event : Event) → IsGiven setting event → P w → P (event_step m setting w event)
  step_keeps w (Submit change) given k = one w (Submit change) given refl k
  step_keeps w (Turn change) given k = one w (Turn change) given refl k
  step_keeps w (Deliver change device link) given k = one w (Deliver change device link) given refl k
  step_keeps w (Answer change device link number) given k = one w (Answer change device link number) given refl k
  step_keeps w (Break change device) given k = one w (Break change device) given refl k
  step_keeps w (Lose change device link) given k = one w (Lose change device link) given refl k
  step_keeps w (Advance device seconds) given k = one w (Advance device seconds) given refl k
  step_keeps w (Restart device) given k = one w (Restart device) given refl k
  step_keeps w (Forget change) given k = one w (Forget change) given refl k
  step_keeps w Crash given k = one w Crash given refl k
  step_keeps w (Renew change device) given k = one w (Renew change device) given refl k
  step_keeps w (Foreign operator device request) given k = one w (Foreign operator device request) given refl k
  step_keeps w (Leave operator device) given k = one w (Leave operator device) given refl k
  step_keeps w (Round change turns) given k = rounds_keep turns w change given k

  -- no elementary event is a round
  pub run_keeps_each : (w : WorldState Config Node) (later : List Event) → AreGiven setting later → P w → P (run m setting w later)
  run_keeps_each w [] given k = k
  run_keeps_each w (event ∷ later) given k = run_keeps_each (event_step m setting w event) later given.1 (step_keeps w event given.0 k)

module _ {Config TheEdit Node : Type 0} (m : Meaning Config TheEdit Node) (setting : Setting TheEdit) (P : WorldState Config Node → Type 0)
    (one : (w : WorldState Config Node) (event : Event) → IsGiven setting event → P w → P (world_step m setting w event)) where
  pub run_keeps : (w : WorldState Config Node) (later : List Event) → AreGiven setting later → P w → P (run m setting w later)
  run_keeps w later given k = run_keeps_each m setting P (λ v event may single p. one v event may p) w later given k
