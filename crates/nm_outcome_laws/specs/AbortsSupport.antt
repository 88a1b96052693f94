-- What every world keeps besides, of a change set that is to be aborted, and from which it follows that nothing of it is pending once it is
-- ended (this project's own, over RFC 6241 sections 7.5 and 8.4).
use Rattle.std.specs.Prelude.{◌≡◌, ℕ, ◌+◌, ◌==◌, ◌≤◌, List, Bool, true, false, ◌&&◌, Option, Some, IfSome, is_some, slice_get}
use Rattle.nm_base.specs.Mask.{mask_contains}
use Rattle.nm_base.specs.Token.{token_of}
use Rattle.nm_proto.specs.declared.ask.Ask.TheVariants as ask
use Rattle.nm_proto.specs.declared.journal.Entry.{Entry}
use Rattle.nm_proto.specs.declared.journal.Verdict.{Verdict}
use Rattle.nm_proto.specs.Plan.{devices_in}
use Rattle.nm_sessions.specs.Sessions.{is_open}
use Rattle.nm_history.specs.Outcome.{outcome_of, is_pending}
use Rattle.nm_history.specs.History.{RecordedState}
use Rattle.nm_recovery.specs.Recovery.{is_ended_in, verdict_in}
use Rattle.nm_decider_stage.specs.declared.stage.Stage.{Stage}
use Rattle.nm_decider_stage.specs.declared.stage.Stage.TheVariants.{Live, Resync, Leaving, Settled}
use Rattle.nm_decider.specs.declared.seat.Seat.{Seat}
use Rattle.nm_resync.specs.declared.resync.ResyncStage.{ResyncStage}
use Rattle.nm_resync.specs.Known.{knows}
use Rattle.nm_wire.specs.declared.link.Exchange.{Exchange}
use Rattle.nm_wire.specs.Asks.{ask_of, same_ask}
use Rattle.nm_wire.specs.Link.{LinkState, session_of}
use Rattle.nm_wire.specs.Words.{commits_sent}
use Rattle.nm_wire.specs.Wire.{WireState}
use Rattle.nm_manager.specs.Slot.{SideState, SlotState}
use Rattle.nm_safety.specs.Pair.{first_link, to_abort, undelivered}
use Rattle.nm_safety.specs.Step.{current_told}
use Rattle.nm_safety.specs.Pairs.{AllPairs, OfPair}
use Rattle.nm_safety.specs.Keeping.{OfDevice, OfSlot}

-- ---- words

-- it is known of the device that it doesn't keep the change set: under an abort nothing else is ever known
abbrev pub is_known : Stage → ResyncStage → Bool
is_known (Leaving kept) stage = true
is_known (Settled kept) stage = true
is_known Resync stage = is_some (knows stage)
is_known _ stage = false

-- nothing was done for the device, or a session was asked for
abbrev pub is_unbegun : Stage → Bool
is_unbegun (Live done) = done == 0
is_unbegun _ = false

-- the change set was to be aborted and is ended
abbrev pub is_over : ℕ → List Entry → Bool
is_over change entries = is_ended_in change entries && to_abort (verdict_in change entries)

-- ---- a device and the link that brings the change set to it

module _ {Config Node : Type 0} where
  -- a confirmed commit that is on its way never comes to the device: it stands on a session that isn't open
  abbrev pub IsShut : LinkState → RecordedState Config Node → Type 0
  IsShut link r =
      (session : ℕ) → 1 ≤ undelivered link → session_of link ≡ Some session → is_open r.device.sessions session ≡ false

  -- the change set isn't pending at the device, and never will be
  pub record IsGone (token : List ℕ) (link : LinkState) (r : RecordedState Config Node) : Type 0 where
    pub outcome : is_pending (outcome_of token r.history) ≡ false
    pub shut : IsShut link r

  -- a reply to a cancel, whatever it is, tells that
  abbrev pub IsCancelled : List ℕ → LinkState → RecordedState Config Node → Exchange → Type 0
  IsCancelled token link r exchange = same_ask (ask_of exchange.request) ask.Cancel ≡ true → IsGone token link r

  -- a device of a change set that is to be aborted
  pub record IsTold (token : List ℕ) (seat : Seat) (side : SideState) (r : RecordedState Config Node) : Type 0 where
    -- what is known is so
    pub known : is_known seat.stage side.resync.stage ≡ true → IsGone token (first_link side.wire) r
    -- and so is what the reply tells that isn't handled yet
    pub told : IfSome (current_told side.wire) (IsCancelled token (first_link side.wire) r)
    -- the confirmed commit isn't sent before a session is open
    pub unbegun : is_unbegun seat.stage ≡ true → commits_sent (first_link side.wire) ≡ 0

  -- any device, of the change set or not
  pub record IsSpent (member over : Bool) (token : List ℕ) (wire : WireState) (r : RecordedState Config Node) : Type 0 where
    -- where it isn't of the change set, no confirmed commit was sent
    pub stranger : member ≡ false → commits_sent (first_link wire) ≡ 0
    -- where that was to be aborted and is ended, it isn't pending
    pub ended : over ≡ true → IsGone token (first_link wire) r

  -- what is kept of a device, its seat and its side, under a verdict
  pub record IsAborted (member over : Bool) (decided : Option Verdict) (token : List ℕ) (seat : Seat) (side : SideState)
      (r : RecordedState Config Node) : Type 0 where
    pub spent : IsSpent member over token side.wire r
    pub told : to_abort decided ≡ true → IsTold token seat side r

  -- so where there is a device
  abbrev pub AbortedPair : ℕ → Bool → List ℕ → List (RecordedState Config Node) → OfPair
  AbortedPair members over token devices place decided seat side =
      IfSome (slice_get devices place) (IsAborted (mask_contains members (place + 1)) over decided token seat side)

  -- ---- change sets

  -- each device, under the verdict of the course
  abbrev pub AllAborted : ℕ → Bool → List ℕ → List (RecordedState Config Node) → SlotState → Type 0
  AllAborted members over token devices slot = AllPairs (AbortedPair members over token devices) slot.course.verdict slot

  -- what is kept of a change set
  abbrev pub OfAborted : OfSlot Config Node
  OfAborted change plan entries devices slot = AllAborted (devices_in plan.edits) (is_over change entries) (token_of change) devices slot

  -- of devices by themselves nothing is said
  abbrev pub OfNone : OfDevice Config Node
  OfNone entries place r = Unit {0}
