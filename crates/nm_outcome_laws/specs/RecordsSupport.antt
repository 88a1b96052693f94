-- What every world keeps besides, of what is known at the devices of a change set that is to be committed, and of the marks that it asks for
-- (this project's own, over RFC 6241 section 8.4).
use Rattle.std.specs.Prelude.{◌≡◌, ℕ, List, Bool, true, false, not, ◌||◌, Option, Some, None, IfSome, option_map, slice_get}
use Rattle.nm_base.specs.Token.{token_of}
use Rattle.nm_proto.specs.declared.ask.Ask.{Ask}
use Rattle.nm_proto.specs.declared.ask.Ask.TheVariants as ask
use Rattle.nm_proto.specs.declared.message.Request.{Request}
use Rattle.nm_proto.specs.declared.message.Request.TheVariants.{HasMark}
use Rattle.nm_proto.specs.declared.message.Reply.{Reply}
use Rattle.nm_proto.specs.declared.message.Reply.TheVariants.{Mark}
use Rattle.nm_proto.specs.declared.journal.Verdict.{Verdict}
use Rattle.nm_history.specs.declared.outcome.Outcome.{Outcome}
use Rattle.nm_history.specs.Outcome.{is_final, is_undone, outcome_of}
use Rattle.nm_history.specs.History.{RecordedState}
use Rattle.nm_decider_stage.specs.declared.stage.Stage.{Stage}
use Rattle.nm_decider_stage.specs.declared.stage.Stage.TheVariants.{NeedMark, Resync, Leaving, Settled}
use Rattle.nm_decider_stage.specs.Stages.{is_acknowledged}
use Rattle.nm_decider.specs.declared.seat.Seat.{Seat}
use Rattle.nm_resync.specs.declared.resync.ResyncStage.{ResyncStage}
use Rattle.nm_resync.specs.declared.resync.ResyncStage.TheVariants.{Checking}
use Rattle.nm_resync.specs.Known.{knows}
use Rattle.nm_wire.specs.Asks.{ask_of}
use Rattle.nm_wire.specs.Link.{LinkState, asked_on}
use Rattle.nm_wire.specs.Words.{is_done}
use Rattle.nm_manager.specs.Slot.{SideState, SlotState, to_commit}
use Rattle.nm_safety.specs.Pair.{is_confirmed, is_live}
use Rattle.nm_safety.specs.Step.{current_told}
use Rattle.nm_safety.specs.Support.{AllLinks}
use Rattle.nm_safety.specs.Pairs.{AllPairs, OfPair}
use Rattle.nm_safety.specs.Keeping.{OfDevice, OfSlot}

-- ---- words

-- what is known of whether a device keeps the change set
abbrev pub knows_at : Stage → ResyncStage → Option Bool
knows_at (Leaving kept) stage = Some kept
knows_at (Settled kept) stage = Some kept
knows_at Resync stage = knows stage
knows_at _ stage = None

-- a confirm was refused, and its mark is to tell what became of the change set
abbrev pub wants_mark : Stage → ResyncStage → Bool
wants_mark NeedMark stage = true
wants_mark Resync Checking = true
wants_mark _ stage = false

-- it is known rightly: kept where it is confirmed, and not kept where it was undone
abbrev pub is_known_as : Bool → Outcome → Bool
is_known_as true outcome = is_confirmed outcome
is_known_as false outcome = is_undone outcome

-- a mark that is there tells it where nothing is pending, as after a refused confirm, and one that isn't tells it always
abbrev pub mark_tells : Bool → Bool → Outcome → Bool
mark_tells wants true outcome = not wants || is_confirmed outcome
mark_tells wants false outcome = is_undone outcome

-- an answer to a confirm tells the outcome
abbrev pub confirm_tells : Bool → Outcome → Bool
confirm_tells true outcome = is_confirmed outcome
confirm_tells false outcome = is_final outcome

-- what a reply tells that isn't handled yet
abbrev pub reply_tells : Bool → Ask → Reply → Outcome → Bool
reply_tells wants ask.Confirm reply outcome = confirm_tells (is_done reply) outcome
reply_tells wants ask.HasMark (Mark there) outcome = mark_tells wants there outcome
reply_tells wants what reply outcome = true

-- ---- a device of a change set

-- what a seat and its side tell of the outcome
pub record IsTold (seat : Seat) (side : SideState) (outcome : Outcome) : Type 0 where
  -- it is to be committed only once it is acknowledged
  pub acked : is_live seat.stage ≡ true → is_acknowledged seat.stage ≡ true
  pub known : (kept : Bool) → knows_at seat.stage side.resync.stage ≡ Some kept → is_known_as kept outcome ≡ true
  pub gone : wants_mark seat.stage side.resync.stage ≡ true → is_final outcome ≡ true
  pub told : IfSome (current_told side.wire)
      (λ exchange. reply_tells (wants_mark seat.stage side.resync.stage) (ask_of exchange.request) exchange.reply outcome ≡ true)

-- under a commit, where the device is there and of the change set
abbrev pub IsKnown : Option Verdict → Seat → SideState → Option Outcome → Type 0
IsKnown decided seat side None = Unit {0}
IsKnown decided seat side (Some outcome) = to_commit decided ≡ true → seat.is_member ≡ true → IsTold seat side outcome

-- where these have become of the change set at its devices
abbrev pub KnownPair : (ℕ → Option Outcome) → OfPair
KnownPair outcomes place decided seat side = IsKnown decided seat side (outcomes place)

-- each device of a change set, under the verdict of its course
abbrev pub AllKnown : (ℕ → Option Outcome) → SlotState → Type 0
AllKnown outcomes slot = AllPairs (KnownPair outcomes) slot.course.verdict slot

-- ---- marks that are asked for

-- a mark that is asked for is that of the change set
abbrev pub IsOwnMark : ℕ → Request → Type 0
IsOwnMark change (HasMark mark) = mark ≡ change
IsOwnMark change _ = Unit {0}

-- on the way of a link
abbrev pub AsksOwn : ℕ → LinkState → Type 0
AsksOwn change link = IfSome (asked_on link.way) (IsOwnMark change)

-- of each link, wherever it stands
abbrev pub OwnLink : ℕ → ℕ → ℕ → LinkState → Type 0
OwnLink change d place link = AsksOwn change link

-- ---- a change set

module _ {Config Node : Type 0} where
  -- what has become of a change set at a device, where that is there
  abbrev pub outcome_in : ℕ → Option (RecordedState Config Node) → Option Outcome
  outcome_in change device = option_map (λ r. outcome_of (token_of change) r.history) device

  -- and at each place
  abbrev pub outcomes_at : ℕ → List (RecordedState Config Node) → ℕ → Option Outcome
  outcomes_at change devices place = outcome_in change (slice_get devices place)

  -- the marks that are asked for are its own, and what is known of its devices is so
  pub record IsRecorded (change : ℕ) (devices : List (RecordedState Config Node)) (slot : SlotState) : Type 0 where
    pub own : AllLinks (OwnLink change) slot.sides
    pub known : AllKnown (outcomes_at change devices) slot

  -- with its plan and the journal's entries, of which nothing is said
  abbrev pub OfRecorded : OfSlot Config Node
  OfRecorded change plan entries devices slot = IsRecorded change devices slot

  -- of a device by itself nothing is said
  abbrev pub OfNone : OfDevice Config Node
  OfNone entries place r = Unit {0}
