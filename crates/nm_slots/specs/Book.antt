-- The journal of a run with its disk, behind their lock (this project's own).
use Rattle.std.specs.Prelude.{◌≡◌, ◌≤◌, ◌⊎◌, ℕ, ◌-◌, ◌==◌, Bool, true, false, List, [], ◌∷◌, ◌++◌, Option, Some, None, is_some, slice_get}
use Rattle.std.specs.List.{list_all, count_by}
use Rattle.nm_base.specs.Count.{Rose}
use Rattle.nm_disk.specs.Image.{DiskState}
use Rattle.nm_proto.specs.declared.journal.Entry.{Entry}
use Rattle.nm_proto.specs.declared.journal.Entry.TheVariants.{Started, Decided, Ended}
use Rattle.nm_proto.specs.declared.plan.ChangePlan.{ChangePlan}
use Rattle.nm_journal.specs.Fits.{JournalState, Fits}
use Rattle.nm_journal.specs.Keeps.{KeepsJournal}
use Rattle.nm_chronicle.specs.Board.{devices_of}

-- the journal, its disk, and how many verdicts the board was told
pub record BookView (D : Type 0) : Type 0 where
  pub journal : JournalState
  pub disk : D
  pub share : ℕ

-- a journal of no entries, which isn't stopped
abbrev pub no_entries : JournalState
no_entries = record { entries = []; failed = None }

-- a journal with one entry more
abbrev pub journal_with : JournalState → Entry → JournalState
journal_with journal entry = record journal { entries = journal.entries ++ entry ∷ [] }

-- an entry gives a verdict
abbrev pub is_decision : Entry → Bool
is_decision (Started change devices timeout) = false
is_decision (Decided change verdict) = true
is_decision (Ended change kept) = false

-- these are the devices of the plan, where there is one
abbrev pub are_planned : Option ChangePlan → ℕ → Bool
are_planned None devices = false
are_planned (Some plan) devices = devices == devices_of plan

-- a change set is started for the devices of its plan
abbrev pub starts_as_planned : List ChangePlan → Entry → Bool
starts_as_planned changes (Started change devices timeout) = are_planned (slice_get changes (change - 1)) devices.0
starts_as_planned changes (Decided change verdict) = true
starts_as_planned changes (Ended change kept) = true

module _ {D : Type 0} (state : D → DiskState) where
  -- the disk failed now: the journal is stopped, has the entries that it had, and fits the disk still
  pub record StopsNow (old new : JournalState) (before after : D) : Type 0 where
    pub entries : new.entries ≡ old.entries
    pub failed : is_some new.failed ≡ true
    pub rose : Rose (state before).faults (state after).faults
    pub keeps : KeepsJournal new (state before) (state after)

  -- a journal stops, or was stopped before, and then nothing changes
  abbrev pub Stops : JournalState → JournalState → D → D → Type 0
  Stops old new before after = ((is_some old.failed ≡ true) × (new ≡ old) × (after ≡ before)) ⊎ StopsNow old new before after

module _ {D : Type 0} (state : D → DiskState) (changes : List ChangePlan) (faults : ℕ) where
  -- what is true of every book of a run with these change sets, whose disk had counted so many faults when the run began
  pub record IsBookKept (book : BookView D) : Type 0 where
    -- each verdict of the journal was told to the board
    pub share : book.share ≡ count_by is_decision book.journal.entries
    pub planned : list_all (starts_as_planned changes) book.journal.entries ≡ true
    pub fits : Fits book.journal (state book.disk)
    pub counted : faults ≤ (state book.disk).faults
    -- a journal is stopped only by a fault of its disk
    pub stopped : is_some book.journal.failed ≡ true → Rose faults (state book.disk).faults
