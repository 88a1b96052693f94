-- How far a change set is from its next turn, once nothing is left to close (this project's own): a number that each step of a drain
-- but a turn lessens.
use Rattle.std.specs.Prelude.{ℕ, ◌+◌, ◌-◌, ◌*◌, Bool, true, false, not, ◌&&◌, ◌||◌, nat_lt, List, length, Option, Some, None, is_some, slice_get, if◌then◌else◌}
use Rattle.nm_proto.specs.declared.ask.Ask.{Ask}
use Rattle.nm_proto.specs.declared.ask.Ask.TheVariants as ask
use Rattle.nm_proto.specs.declared.message.Store.TheVariants.{Candidate}
use Rattle.nm_proto.specs.declared.message.Reply.{Reply}
use Rattle.nm_proto.specs.declared.journal.Verdict.{Verdict}
use Rattle.nm_proto.specs.declared.journal.Verdict.TheVariants as verdict
use Rattle.nm_locks.specs.Locks.{owner_of}
use Rattle.nm_stores.specs.Stores.{is_modified}
use Rattle.nm_history.specs.History.{RecordedState}
use Rattle.nm_decider_stage.specs.declared.stage.Stage.{Stage}
use Rattle.nm_decider_stage.specs.declared.stage.Stage.TheVariants.{Live, Refused, Failed, NeedMark, Resync, Leaving, Settled}
use Rattle.nm_decider_stage.specs.Stages.{learnt}
use Rattle.nm_decider.specs.declared.seat.Seat.{Seat}
use Rattle.nm_resync.specs.declared.resync.ResyncStage.{ResyncStage}
use Rattle.nm_resync.specs.declared.resync.ResyncStage.TheVariants.{Opening, Discarding, Locking, Holding, Confirming, Checking, Closing, Done}
use Rattle.nm_resync.specs.Resync as resync
use Rattle.nm_resync.specs.Resync.{ResyncState, settled_in}
use Rattle.nm_wire.specs.declared.link.Way.{Way}
use Rattle.nm_wire.specs.declared.link.Way.TheVariants.{Quiet, Asked, Told}
use Rattle.nm_wire.specs.Link.{LinkState, session_of, ends}
use Rattle.nm_wire.specs.Wire.{current_link}
use Rattle.nm_manager.specs.Slot.{SideState, SlotState, is_resync}
use Rattle.nm_world.specs.World.{is_session_open}
use Rattle.nm_rest_laws.specs.Closing.{sum_from}

-- ---- requests that are left

abbrev pub if_so : Bool → ℕ
if_so true = 9
if_so false = 0

abbrev pub held_left : Bool → ℕ
held_left true = 4
held_left false = 2

abbrev pub closing_left : Option Bool → ℕ
closing_left None = 8
closing_left (Some kept) = 1

-- how many requests of a resynchronisation are left at most. Where candidate is held or modified it may have to begin again
abbrev pub resync_left : Bool → Bool → Bool → ResyncStage → ℕ
resync_left held modified commit Opening = 7
resync_left held modified commit Discarding = 6 + if_so held
resync_left held modified commit Locking = 5 + if_so (held || modified)
resync_left held modified commit Holding = held_left commit
resync_left held modified commit Confirming = 3
resync_left held modified commit Checking = 2
resync_left held modified commit (Closing kept) = closing_left kept
resync_left held modified commit (Done kept) = 0

abbrev pub live_left : Option Verdict → ℕ → ℕ
live_left None done = 7 - done
live_left (Some verdict.Commit) done = 3
live_left (Some (verdict.Abort why)) done = 2

abbrev pub failed_left : Option Verdict → ℕ
failed_left None = 0
failed_left (Some decided) = 2

abbrev pub found_left : Bool → Bool → Option Verdict → ResyncState → ℕ
found_left held modified None now = 0
found_left held modified (Some decided) now = resync_left held modified now.commit now.stage

-- how many are left of a device at most
abbrev pub left : Bool → Bool → Option Verdict → ResyncState → Stage → ℕ
left held modified decided now (Live done) = live_left decided done
left held modified decided now Refused = 0
left held modified decided now Failed = failed_left decided
left held modified decided now NeedMark = 2
left held modified decided now Resync = found_left held modified decided now
left held modified decided now (Leaving kept) = 1
left held modified decided now (Settled kept) = 0

-- ---- what is left while one is on its way, in halves

abbrev pub cancel_left : Ask → ℕ
cancel_left ask.Cancel = 3
cancel_left _ = 5

abbrev pub live_asked : Option Verdict → ℕ → Ask → ℕ
live_asked None done what = if nat_lt done 6 then 2 * (7 - done) - 1 else 2
live_asked (Some verdict.Commit) done what = 5
live_asked (Some (verdict.Abort why)) done what = cancel_left what

abbrev pub asked_left : Bool → Bool → Option Verdict → ResyncState → Stage → Ask → ℕ
asked_left held modified decided now (Live done) what = live_asked decided done what
asked_left held modified decided now stage what = 2 * left held modified decided now stage - 1

abbrev pub settled_stage : Option Bool → Stage
settled_stage None = Resync
settled_stage (Some kept) = Settled kept

-- the stage after a reply, and the resynchronisation
abbrev pub stage_then : Bool → Option Verdict → ResyncState → Stage → Ask → Reply → Stage
stage_then true decided now stage what reply = settled_stage (settled_in (resync.with_reply now reply).stage)
stage_then false decided now stage what reply = learnt decided stage what reply

abbrev pub resync_then : Bool → ResyncState → Reply → ResyncState
resync_then true now reply = resync.with_reply now reply
resync_then false now reply = now

abbrev pub told_left : Bool → Bool → Option Verdict → ResyncState → Stage → Ask → Reply → ℕ
told_left held modified decided now stage what reply =
    2 * left held modified decided (resync_then (is_resync (Some what)) now reply) (stage_then (is_resync (Some what)) decided now stage what reply)

-- ---- a device of a change set

abbrev pub will_end : Way → Bool
will_end Quiet = false
will_end (Asked request) = false
will_end (Told exchange) = ends exchange.request exchange.reply

abbrev pub if_stranded : Bool → ℕ
if_stranded true = 43
if_stranded false = 0

abbrev pub undecided_rank : Option Verdict → ℕ
undecided_rank None = 5000
undecided_rank (Some decided) = 0

module _ {Config Node : Type 0} where
  -- the device's side of the current link has ended, and the manager doesn't know
  abbrev pub is_stranded_at : RecordedState Config Node → LinkState → Bool
  is_stranded_at r link = not (link.is_open && is_session_open r (session_of link)) && not (will_end link.way)

  abbrev pub is_held : RecordedState Config Node → Bool
  is_held r = is_some (owner_of r.device.locks Candidate)

  abbrev pub quiet_rank : Option Verdict → Stage → ResyncState → RecordedState Config Node → ℕ
  quiet_rank decided stage now r = 3 * (2 * left (is_held r) (is_modified r.device.stores) decided now stage)

  abbrev pub way_rank : Option Verdict → Stage → Option Ask → ResyncState → RecordedState Config Node → Way → ℕ
  way_rank decided stage awaited now r Quiet = quiet_rank decided stage now r
  way_rank decided stage None now r (Asked request) = 0
  way_rank decided stage (Some what) now r (Asked request) = 3 * asked_left (is_held r) (is_modified r.device.stores) decided now stage what + 2
  way_rank decided stage None now r (Told exchange) = 0
  way_rank decided stage (Some what) now r (Told exchange) = 3 * told_left (is_held r) (is_modified r.device.stores) decided now stage what exchange.reply + 1

  abbrev pub link_rank : Option Verdict → Stage → Option Ask → ResyncState → RecordedState Config Node → Option LinkState → ℕ
  link_rank decided stage awaited now r None = quiet_rank decided stage now r
  link_rank decided stage awaited now r (Some link) = if_stranded (is_stranded_at r link) + way_rank decided stage awaited now r link.way

  abbrev pub pair_rank : Option Verdict → Option Seat → Option SideState → Option (RecordedState Config Node) → ℕ
  pair_rank decided None side r = 0
  pair_rank decided (Some seat) None r = 0
  pair_rank decided (Some seat) (Some side) None = 0
  pair_rank decided (Some seat) (Some side) (Some r) = link_rank decided seat.stage seat.awaited side.resync r (current_link side.wire)

  -- ---- a change set

  abbrev pub rank_at : List (RecordedState Config Node) → SlotState → ℕ → ℕ
  rank_at devices slot device = pair_rank slot.course.verdict (slice_get slot.course.seats (device - 1)) (slice_get slot.sides (device - 1)) (slice_get devices (device - 1))

  abbrev pub slot_rank : List (RecordedState Config Node) → Option SlotState → ℕ
  slot_rank devices None = 0
  slot_rank devices (Some slot) = undecided_rank slot.course.verdict + sum_from (rank_at devices slot) 1 (length devices)
