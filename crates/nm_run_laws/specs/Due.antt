-- What is due comes into the journal (this project's own): the test that is made before an entry is appended never fails for the verdict
-- or the end of a change set that is ready.
use Rattle.std.specs.Prelude.{◌≡◌, ◌≤◌, ℕ, true, IfSome}
use Rattle.nm_journal.specs.Entries.{may_follow}
use Rattle.nm_manager.specs.Manager.{entry_turned}
use Rattle.nm_world.specs.World.{WorldState, core_of, manager_in}

-- the entry that a turn of a change set writes, where it writes one, may come next
pub record ComesWhenDue {Config Node : Type 0} (w : WorldState Config Node) : Type 0 where
  pub turned : (change : ℕ) → 1 ≤ change → IfSome (entry_turned (manager_in (core_of w)) change) (λ entry. may_follow w.entries entry ≡ true)
