-- What it means that a renewal lapsed (this project's own, over RFC 6241 section 8.4): the pending commit that it was to renew was undone
-- already.
use Rattle.std.specs.Prelude.{◌≡◌, ℕ, suc, ◌-◌, true, Some, slice_get}
use Rattle.nm_base.specs.Token.{token_of}
use Rattle.nm_proto.specs.declared.journal.AbortCause.TheVariants.{Lapsed}
use Rattle.nm_proto.specs.declared.journal.Verdict.TheVariants.{Abort}
use Rattle.nm_history.specs.Outcome.{is_undone, outcome_of}
use Rattle.nm_history.specs.History.{RecordedState}
use Rattle.nm_recovery.specs.Recovery.{verdict_in}
use Rattle.nm_world.specs.World.{WorldState}

-- change set c stands at place c - 1, and so does device d
pub record LapsesAreUndone {Config Node : Type 0} (w : WorldState Config Node) : Type 0 where
  -- where the journal says that a change set is aborted since a renewal at this device lapsed, it was undone there
  pub undone : (place device : ℕ) (r : RecordedState Config Node) → verdict_in (suc place) w.entries ≡ Some (Abort (Lapsed device))
      → slice_get w.devices (device - 1) ≡ Some r → is_undone (outcome_of (token_of (suc place)) r.history) ≡ true
