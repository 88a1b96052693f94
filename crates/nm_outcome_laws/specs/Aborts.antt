-- What becomes of a change set that was to be aborted, once it is ended (this project's own, over RFC 6241 section 8.4): nothing of it is
-- pending at any device.
use Rattle.std.specs.Prelude.{◌≡◌, ◌≢◌, ℕ, suc, true, Some, slice_get}
use Rattle.nm_base.specs.Token.{token_of}
use Rattle.nm_proto.specs.declared.plan.ChangePlan.{ChangePlan}
use Rattle.nm_history.specs.declared.outcome.Outcome.TheVariants.{Pending}
use Rattle.nm_history.specs.Outcome.{outcome_of}
use Rattle.nm_history.specs.History.{RecordedState}
use Rattle.nm_recovery.specs.Recovery.{is_ended_in, verdict_in}
use Rattle.nm_world.specs.World.{Setting, WorldState}
use Rattle.nm_safety.specs.Safe.{is_abort}

-- no timer of it runs any more, at any device, a device of the change set or not. Change set c and device d stand at places c - 1 and d - 1
pub record AbortsAreOver {Config TheEdit Node : Type 0} (setting : Setting TheEdit) (w : WorldState Config Node) : Type 0 where
  pub over : (place : ℕ) (plan : ChangePlan) → slice_get setting.plans place ≡ Some plan
      → is_ended_in (suc place) w.entries ≡ true → is_abort (verdict_in (suc place) w.entries) ≡ true
      → (device : ℕ) (r : RecordedState Config Node) → slice_get w.devices device ≡ Some r
      → outcome_of (token_of (suc place)) r.history ≢ Pending
