-- What every world keeps besides, and from which it follows that the manager's other commits leave running as it was (this project's own,
-- over RFC 6241 sections 7.5 and 8.3).
use Rattle.std.specs.Prelude.{ℕ, ◌≡◌, ◌≤◌, List, true, Option, Some, None, IfSome, slice_get}
use Rattle.nm_proto.specs.declared.message.Request.{Request}
use Rattle.nm_proto.specs.declared.message.Store.TheVariants.{Candidate}
use Rattle.nm_proto.specs.declared.journal.Verdict.{Verdict}
use Rattle.nm_proto.specs.Content.{Meaning}
use Rattle.nm_sessions.specs.Sessions.{is_open}
use Rattle.nm_locks.specs.Locks.{owner_of}
use Rattle.nm_device.specs.Device.{DeviceState}
use Rattle.nm_history.specs.History.{RecordedState}
use Rattle.nm_decider_stage.specs.Stages.{is_acknowledged}
use Rattle.nm_decider.specs.declared.seat.Seat.{Seat}
use Rattle.nm_wire.specs.Asks.{ask_of}
use Rattle.nm_wire.specs.Link.{LinkState, asked_on, session_of}
use Rattle.nm_wire.specs.Wire.{current_link}
use Rattle.nm_manager.specs.Slot.{SideState, SlotState, to_commit}
use Rattle.nm_safety.specs.Pair.{is_live}
use Rattle.nm_safety.specs.Support.{AllLinks}
use Rattle.nm_safety.specs.Along.{HistoryAt}
use Rattle.nm_safety.specs.Pairs.{AllPairs, OfPair}
use Rattle.nm_safety.specs.Keeping.{AreKept, OfDevice, OfSlot}
use Rattle.nm_world.specs.World.{Setting, CoreState}
use Rattle.nm_commit_laws.specs.Leaves.{LeavesAsIs}
use Rattle.nm_commit_laws.specs.Standing.{is_other, standing, stands_at}

-- ---- the course

-- what the stages of a device tell of its current link, and that a change set is to be committed only once it is acknowledged
pub record IsKnown (decided : Option Verdict) (seat : Seat) (side : SideState) : Type 0 where
  pub current : IfSome (current_link side.wire) (λ link. stands_at seat.stage side.resync.stage ≤ standing link)
  pub acked : to_commit decided ≡ true → seat.is_member ≡ true → is_live seat.stage ≡ true → is_acknowledged seat.stage ≡ true

-- what a seat and its side tell of the current link
abbrev pub KnownPair : OfPair
KnownPair place decided seat side = IsKnown decided seat side

-- so of each device of a change set
abbrev pub AllKnown : Option Verdict → SlotState → Type 0
AllKnown decided slot = AllPairs KnownPair decided slot

-- ---- links

-- a commit that brings no change set is asked for where candidate is the session's own, and unmodified
abbrev pub AsksClean : LinkState → Request → Type 0
AsksClean link request = is_other (ask_of request) ≡ true → 2 ≤ standing link

module _ {Config Node : Type 0} where
  -- a session owns candidate's lock, and candidate is unmodified, as far as its link has come
  pub record HoldsCandidate (n session : ℕ) (s : DeviceState Config Node) : Type 0 where
    pub owner : 1 ≤ n → owner_of s.locks Candidate ≡ Some session
    pub unmodified : 2 ≤ n → s.stores.candidate ≡ None

  -- the session of a link, while it is open
  abbrev pub HoldsOn : LinkState → RecordedState Config Node → Type 0
  HoldsOn link r =
      (session : ℕ) → session_of link ≡ Some session → is_open r.device.sessions session ≡ true
      → HoldsCandidate (standing link) session r.device

  -- what a link tells of candidate at its device
  pub record IsHolding (r : Option (RecordedState Config Node)) (link : LinkState) : Type 0 where
    pub asked : IfSome (asked_on link.way) (AsksClean link)
    pub holds : IfSome r (HoldsOn link)

  -- ---- change sets, devices, all together

  -- the course and the links of a change set tell what candidate is
  pub record IsClean (devices : List (RecordedState Config Node)) (slot : SlotState) : Type 0 where
    pub course : AllKnown slot.course.verdict slot
    pub links : AllLinks (λ d place. IsHolding (slice_get devices d)) slot.sides

  -- of a change set
  abbrev pub OfClean : OfSlot Config Node
  OfClean change plan entries devices slot = IsClean devices slot

module _ {Config TheEdit Node : Type 0} (m : Meaning Config TheEdit Node) (setting : Setting TheEdit) (running : List Config) where
  -- a device that began so: its history leads to it, and the manager's other commits in it leave running as it was
  abbrev pub OfLeft : OfDevice Config Node
  OfLeft entries place r = HistoryAt m setting.tables (LeavesAsIs m setting) running place r

  -- so are all change sets and devices
  abbrev pub AreClean : CoreState Config Node → Type 0
  AreClean w = AreKept setting OfClean OfLeft w
