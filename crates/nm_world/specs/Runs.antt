-- What a call of a world, and a run of them, does beside the state that it comes to: to time, and to the journal and its disk
-- (this project's own).
use Rattle.std.specs.Prelude.{◌≡◌, ◌≤◌, ℕ, ◌+◌, List, [], ◌∷◌, ◌++◌, length, Bool, true, false, None, IsSome}
use Rattle.std.specs.List.{All}
use Rattle.nm_disk.specs.Image.{DiskState, AnyMoment}
use Rattle.nm_disk.specs.Keeps.{KeepsDisk}
use Rattle.nm_proto.specs.declared.journal.Entry.{Entry}
use Rattle.nm_proto.specs.declared.plan.ChangePlan.{ChangePlan}
use Rattle.nm_proto.specs.declared.plan.Event.{Event}
use Rattle.nm_proto.specs.declared.plan.Event.TheVariants.{Advance, Crash}
use Rattle.nm_proto.specs.Content.{Meaning}
use Rattle.nm_journal.specs.Fits.{Fits, ReadsAs}
use Rattle.nm_device.specs.Device.{IsInTime}
use Rattle.nm_history.specs.History.{RecordedState}
use Rattle.nm_manager.specs.Manager.{start_anew, is_strange}
use Rattle.nm_world.specs.declared.happened.Happened.TheVariants as happened
use Rattle.nm_world.specs.World.{Setting, AreInTime, CoreValue, WorldState, WorldValue, with_state, journal_of, change_in, is_crash, event_step}

-- ---- time

-- by how many seconds an event raises a clock
abbrev pub seconds_in : Event → ℕ
seconds_in (Advance device seconds) = seconds
seconds_in _ = 0

-- no clock nears the end of its range where it rises by so many seconds more
abbrev pub HasTime : {Config Node : Type 0} → ℕ → List (RecordedState Config Node) → Type 0
HasTime seconds devices = All (λ r. IsInTime (seconds + r.device.clock)) devices

-- no clock rises by more than so many seconds
pub record KeepsTime {Config Node : Type 0} (seconds : ℕ) (old new : List (RecordedState Config Node)) : Type 0 where
  pub goes : (more : ℕ) → HasTime (more + seconds) old → HasTime more new

-- ---- change sets

-- the change set that an event names is among so many
abbrev pub IsNumbered : ℕ → Event → Type 0
IsNumbered changes event = change_in event ≤ changes

-- ---- a crash

-- what stands after a crash, where the journal was read as these entries: what was known is lost, and it has diverged where they
-- aren't those that were written
abbrev pub crashed_with : {TheContent Config TheEdit Node : Type 0} → CoreValue TheContent Config TheEdit Node → List Entry
    → Bool → CoreValue TheContent Config TheEdit Node
crashed_with w entries has_diverged = record w {
  state = record w.state {
    entries = entries;
    slots = start_anew entries 1 w.setting.plans w.state.slots;
    has_diverged = has_diverged;
  };
}

-- it goes on from the entries that its journal was read as, and has_diverged then exactly where it had before, or where they aren't
-- those that were written
pub record RereadsCore {TheContent Config TheEdit Node : Type 0} (old new : CoreValue TheContent Config TheEdit Node) : Type 0 where
  pub goes_on : new ≡ crashed_with old new.state.entries new.state.has_diverged
  pub same : new.state.entries ≡ old.state.entries → new.state.has_diverged ≡ old.state.has_diverged
  pub once : new.state.has_diverged ≡ false → old.state.has_diverged ≡ false
  pub unchanged : new.state.has_diverged ≡ false → new.state.entries ≡ old.state.entries

-- the world then, with its trail
abbrev pub reread : {Config Node : Type 0} → List ChangePlan → WorldState Config Node → List Entry → Bool → WorldState Config Node
reread plans w entries has_diverged = record w {
  entries = entries;
  slots = start_anew entries 1 plans w.slots;
  trail = w.trail ++ record { event = Crash; happened = happened.Crashed } ∷ [];
  has_diverged = has_diverged;
}

-- a crash of a world: the same of what stands and of the trail
pub record Rereads {Config Node : Type 0} (plans : List ChangePlan) (w now : WorldState Config Node) : Type 0 where
  pub goes_on : now ≡ reread plans w now.entries now.has_diverged
  pub same : now.entries ≡ w.entries → now.has_diverged ≡ w.has_diverged
  pub once : now.has_diverged ≡ false → w.has_diverged ≡ false
  pub unchanged : now.has_diverged ≡ false → now.entries ≡ w.entries

-- an event leads from one world to another: it does this, and a crash goes on from what is read then
pub record ComesBy {Config Node : Type 0} (act : WorldState Config Node → WorldState Config Node) (plans : List ChangePlan) (event : Event)
    (w now : WorldState Config Node) : Type 0 where
  pub does : is_crash event ≡ false → now ≡ act w
  pub rereads : is_crash event ≡ true → Rereads plans w now

module _ {Config TheEdit Node : Type 0} (m : Meaning Config TheEdit Node) (setting : Setting TheEdit) where
  -- an event of a scenario leads there
  abbrev pub LeadsTo : Event → WorldState Config Node → WorldState Config Node → Type 0
  LeadsTo event w now = ComesBy (λ v. event_step m setting v event) setting.plans event w now

  -- events lead there, one after another, with what was read at each crash among them
  abbrev pub Reaches : WorldState Config Node → List Event → WorldState Config Node → Type 0
  Reaches w [] now = now ≡ w
  Reaches w (event ∷ events) now = (mid : WorldState Config Node) × LeadsTo event w mid × Reaches mid events now

-- ---- the journal

-- no entry is of another change set than these, or starts one of them for other devices than its own
abbrev pub NoneStrange : List ChangePlan → List Entry → Type 0
NoneStrange plans entries = All (λ entry. is_strange plans entry ≡ false) entries

-- a list goes on as another
pub record GoesOnAs (before after : List Entry) : Type 0 where
  pub more : List Entry
  pub is : after ≡ before ++ more

-- bytes that read as the entries of some moment of a run: those from before it, and some of those that it adds
pub record IsBetween (before after : List Entry) (bytes : List ℕ) : Type 0 where
  pub so_far : List Entry
  pub reads : ReadsAs so_far bytes
  pub began : GoesOnAs before so_far
  pub goes_on : GoesOnAs so_far after

-- a world that is ready for what comes, over this disk: no clock is at the end of its range, the manager hasn't failed, and its
-- journal goes on and fits the disk
pub record IsReady {TheContent Config TheEdit Node : Type 0} (world : WorldValue TheContent Config TheEdit Node) (disk : DiskState) : Type 0 where
  pub in_time : AreInTime world.state.devices
  pub going : world.has_failed ≡ false
  pub whole : world.failed ≡ None
  pub fits : Fits (journal_of world) disk

-- what a call does to the disk of a world that is to come to a last one: it is kept, and a crash at any moment leaves the entries
-- so far. Nothing is said of a world that has diverged
pub record Journals {Config Node : Type 0} (first last : WorldState Config Node) (old new : DiskState) : Type 0 where
  pub keeps : KeepsDisk old new
  pub any_moment : IsSome old.contents → first.has_diverged ≡ false → AnyMoment old new (IsBetween first.entries last.entries)

-- what a call does that is to do this to a world's state, where it answers. The journal fits the disk then
pub record Does {TheContent Config TheEdit Node : Type 0} (act : WorldState Config Node → WorldState Config Node)
    (first now : WorldValue TheContent Config TheEdit Node) (old new : DiskState) : Type 0 where
  -- nothing but the state changes, and the manager hasn't failed
  pub others : now ≡ with_state first now.state
  -- it is what was to be done, where the world hasn't diverged
  pub done : now.state.has_diverged ≡ false → now.state ≡ act first.state
  -- a world that has diverged stays so, and over a disk that tells its bytes none diverges
  pub once : now.state.has_diverged ≡ false → first.state.has_diverged ≡ false
  pub straight : IsSome old.contents → now.state.has_diverged ≡ first.state.has_diverged
  -- there are as many operators as before
  pub operators : length now.state.operators ≡ length first.state.operators
  pub fits : Fits (journal_of now) new
  pub journals : Journals first.state (act first.state) old new
