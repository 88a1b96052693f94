-- What every world keeps besides, and from which it follows that a change set comes to a device as its own edit alone (this project's own,
-- over RFC 6241 sections 7.2, 7.5 and 8.3).
use Rattle.std.specs.Prelude.{◌≡◌, ℕ, suc, ◌≤◌, List, true, Option, Some, None, IfSome, is_some, slice_get}
use Rattle.nm_proto.specs.declared.ask.Ask.TheVariants as ask
use Rattle.nm_proto.specs.declared.message.Request.{Request}
use Rattle.nm_proto.specs.declared.message.Request.TheVariants.{Edit}
use Rattle.nm_proto.specs.declared.message.Store.TheVariants.{Candidate}
use Rattle.nm_proto.specs.declared.journal.Entry.{Entry}
use Rattle.nm_proto.specs.declared.journal.Verdict.{Verdict}
use Rattle.nm_proto.specs.declared.plan.ChangePlan.{ChangePlan}
use Rattle.nm_proto.specs.Content.{Meaning}
use Rattle.nm_sessions.specs.Sessions.{is_open}
use Rattle.nm_locks.specs.Locks.{owner_of}
use Rattle.nm_device.specs.Device.{DeviceState}
use Rattle.nm_history.specs.History.{RecordedState}
use Rattle.nm_journal.specs.Record.{is_change}
use Rattle.nm_recovery.specs.Recovery.{is_ended_in, verdict_in}
use Rattle.nm_decider.specs.declared.seat.Seat.{Seat}
use Rattle.nm_wire.specs.Link.{LinkState, asked_on, session_of}
use Rattle.nm_wire.specs.Words.{commits_sent}
use Rattle.nm_wire.specs.Wire.{WireState}
use Rattle.nm_manager.specs.Slot.{SlotState}
use Rattle.nm_safety.specs.Pair.{asked_ask, first_link, is_live}
use Rattle.nm_safety.specs.Support.{AllLinks}
use Rattle.nm_safety.specs.Along.{HistoryAt}
use Rattle.nm_safety.specs.Pairs.{AllPairs, OfPair}
use Rattle.nm_safety.specs.Keeping.{AreKept, OfDevice, OfSlot}
use Rattle.nm_world.specs.World.{Setting, CoreState}
use Rattle.nm_commit_laws.specs.Brings.{IsOwnEdit, Brings, BringsOwn}
use Rattle.nm_commit_laws.specs.Course.{steps_of, steps_past, steps_known}

-- ---- the course

-- the confirmed commit is asked for where the edit is done, and before the verdict a link has come as far as the course knows, and no
-- further but for the reply that isn't handled
pub record IsOnCourse (decided : Option Verdict) (seat : Seat) (wire : WireState) : Type 0 where
  pub asked : asked_ask (first_link wire) ≡ Some ask.CommitConfirmed → 3 ≤ steps_of (first_link wire)
  pub known : decided ≡ None → commits_sent (first_link wire) ≡ 0 → steps_known seat.stage ≤ steps_of (first_link wire)
  pub most : decided ≡ None → is_live seat.stage ≡ true → commits_sent (first_link wire) ≡ 0
      → steps_past (first_link wire) ≤ steps_known seat.stage

module _ {Config Node : Type 0} (decided : Option Verdict) (devices : List (RecordedState Config Node)) where
  -- so by the verdict of the journal, where there is a device at the place
  abbrev pub CoursePair : OfPair
  CoursePair place of_course seat side = is_some (slice_get devices place) ≡ true → IsOnCourse decided seat side.wire

  -- each of a change set
  abbrev pub AllOnCourse : SlotState → Type 0
  AllOnCourse slot = AllPairs CoursePair slot.course.verdict slot

-- ---- links

-- an edit that is asked for is the change set's own
abbrev pub EditsOwn : List ChangePlan → List Entry → ℕ → ℕ → Request → Type 0
EditsOwn plans entries change device (Edit number operation marks) = IsOwnEdit plans entries change device number operation marks
EditsOwn plans entries change device _ = Unit {0}

module _ {Config TheEdit Node : Type 0} (m : Meaning Config TheEdit Node) (setting : Setting TheEdit) (entries : List Entry)
    (change device : ℕ) where
  -- candidate is what the change set's own edit makes of running
  pub record IsEdited (s : DeviceState Config Node) : Type 0 where
    pub config : Config
    pub candidate : s.stores.candidate ≡ Some config
    pub brings : Brings m setting entries change device s.stores.running config

  -- what a session has, so many steps on its way: candidate is its own from its lock on, unmodified until the edit, and edited then
  pub record IsPrepared (steps session : ℕ) (s : DeviceState Config Node) : Type 0 where
    pub owner : 2 ≤ steps → owner_of s.locks Candidate ≡ Some session
    pub unmodified : steps ≡ 2 → s.stores.candidate ≡ None
    pub edited : 3 ≤ steps → IsEdited s

  -- the session of a link, while it is open
  abbrev pub IsPreparedOn : LinkState → RecordedState Config Node → Type 0
  IsPreparedOn link r =
      (session : ℕ) → session_of link ≡ Some session → is_open r.device.sessions session ≡ true
      → IsPrepared (steps_of link) session r.device

  -- a link of these, by its place
  pub record IsOwnLink (r : Option (RecordedState Config Node)) (place : ℕ) (link : LinkState) : Type 0 where
    pub asked : IfSome (asked_on link.way) (EditsOwn setting.plans entries change device)
    pub prepared : place ≡ 0 → IfSome r (IsPreparedOn link)

-- ---- change sets, devices, all together

module _ {Config TheEdit Node : Type 0} (m : Meaning Config TheEdit Node) (setting : Setting TheEdit) where
  -- what is kept of a change set goes with what its commits bring
  pub record IsBrought (change : ℕ) (entries : List Entry) (devices : List (RecordedState Config Node)) (slot : SlotState) : Type 0 where
    -- what is ended is a change set
    pub numbered : (other : ℕ) → is_ended_in other entries ≡ true → is_change other ≡ true
    pub course : AllOnCourse (verdict_in change entries) devices slot
    pub links : AllLinks (λ d. IsOwnLink m setting entries change (suc d) (slice_get devices d)) slot.sides

  -- the same, as what is kept of each change set
  abbrev pub OfBrought : OfSlot Config Node
  OfBrought change plan entries devices slot = IsBrought change entries devices slot

module _ {Config TheEdit Node : Type 0} (m : Meaning Config TheEdit Node) (setting : Setting TheEdit) (running : List Config) where
  -- a device that began so: its history leads to it, and brings change sets by their own edits
  abbrev pub OfHistory : OfDevice Config Node
  OfHistory entries place r = HistoryAt m setting.tables (BringsOwn m setting entries (suc place)) running place r

  -- so is each change set, and each device
  abbrev pub AreBrought : CoreState Config Node → Type 0
  AreBrought w = AreKept setting (OfBrought m setting) OfHistory w
