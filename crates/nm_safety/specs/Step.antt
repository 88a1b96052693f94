-- What a change set's course and its links always have in common (this project's own): what the course awaits is on its way, and
-- where it awaits nothing there is a link to go on with.
use Rattle.std.specs.Prelude.{◌≡◌, ℕ, ◌+◌, ◌==◌, List, length, slice_get, nat_lt, Bool, true, false, not, ◌&&◌, ◌||◌, Option, Some, None, IfSome, is_some, option_map, option_and_then}
use Rattle.nm_base.specs.Mask.{mask_contains}
use Rattle.nm_base.specs.Tag.{tag_number}
use Rattle.nm_proto.specs.declared.ask.Ask.{Ask}
use Rattle.nm_proto.specs.declared.ask.Ask.TheVariants as ask
use Rattle.nm_proto.specs.declared.message.Reply.{Reply}
use Rattle.nm_proto.specs.declared.message.Reply.TheVariants.{Opened, Error}
use Rattle.nm_proto.specs.declared.journal.AbortCause.{AbortCause}
use Rattle.nm_proto.specs.declared.journal.Entry.{Entry}
use Rattle.nm_proto.specs.declared.journal.Verdict.{Verdict}
use Rattle.nm_proto.specs.declared.journal.Verdict.TheVariants as verdict
use Rattle.nm_proto.specs.declared.plan.ChangePlan.{ChangePlan}
use Rattle.nm_journal.specs.Entries.{has_named, verdict_has_record}
use Rattle.nm_journal.specs.Record.{is_device}
use Rattle.nm_recovery.specs.Recovery.{verdict_in, is_ended_in}
use Rattle.nm_decider_stage.specs.declared.stage.Stage.{Stage}
use Rattle.nm_decider_stage.specs.declared.stage.Stage.TheVariants.{Live, Refused, Failed, NeedMark, Resync, Leaving, Settled}
use Rattle.nm_decider_stage.specs.Stages.{next_ask, first_ask, all_done}
use Rattle.nm_decider.specs.declared.seat.Seat.{Seat}
use Rattle.nm_decider.specs.Course.{seat_count}
use Rattle.nm_resync.specs.declared.resync.ResyncStage.{ResyncStage}
use Rattle.nm_resync.specs.declared.resync.ResyncStage.TheVariants.{Opening, Discarding, Locking, Holding, Confirming, Checking, Closing, Done}
use Rattle.nm_resync.specs.Resync.{ResyncState}
use Rattle.nm_wire.specs.declared.link.Exchange.{Exchange}
use Rattle.nm_wire.specs.Asks.{ask_of, same_ask}
use Rattle.nm_wire.specs.Link.{LinkState, told_on_way}
use Rattle.nm_wire.specs.Words.{ask_on}
use Rattle.nm_wire.specs.Wire.{WireState, current_link}
use Rattle.nm_manager.specs.declared.action.Action.{Action}
use Rattle.nm_manager.specs.declared.action.Action.TheVariants as action
use Rattle.nm_manager.specs.Requests.{edit_for}
use Rattle.nm_manager.specs.Slot.{SideState, SlotState, asked_in_fact}

-- ---- what is on its way

-- what is on its way on a link asks this
abbrev pub way_ask : LinkState → Option Ask
way_ask link = ask_on link.way

-- the exchange whose reply is on its way
abbrev pub way_told : LinkState → Option Exchange
way_told link = told_on_way link.way

-- what is asked by the request on the current link whose reply isn't handled
abbrev pub current_ask : WireState → Option Ask
current_ask wire = option_and_then way_ask (current_link wire)

-- the exchange on the current link whose reply isn't handled
abbrev pub current_told : WireState → Option Exchange
current_told wire = option_and_then way_told (current_link wire)

-- a request for a session is answered by one or by a refusal
abbrev pub opens_or_refuses : Reply → Bool
opens_or_refuses (Opened session) = true
opens_or_refuses (Error tag session path) = true
opens_or_refuses _ = false

-- a reply fits what was asked
abbrev pub answers_ask : Ask → Reply → Bool
answers_ask ask.OpenSession reply = opens_or_refuses reply
answers_ask _ reply = true

-- a refusal has a tag that a journal can record
abbrev pub has_number : Reply → Bool
has_number (Error tag session path) = nat_lt (tag_number tag) 9
has_number _ = true

-- every device replies so
abbrev pub is_fair : Exchange → Bool
is_fair exchange = answers_ask (ask_of exchange.request) exchange.reply && has_number exchange.reply

-- ---- stages

-- what may be known under a verdict: nothing before it, and after an abort of no device that it keeps the change set
abbrev pub may_know : Option Verdict → Bool → Bool
may_know None kept = false
may_know (Some verdict.Commit) kept = true
may_know (Some (verdict.Abort why)) kept = not kept

-- a stage may stand under a verdict
abbrev pub may_stand : Option Verdict → Stage → Bool
may_stand decided (Leaving kept) = may_know decided kept
may_stand decided (Settled kept) = may_know decided kept
may_stand decided (Live done) = true
may_stand decided Refused = true
may_stand decided Failed = true
may_stand decided NeedMark = is_some decided
may_stand decided Resync = true

-- a resynchronisation that is to cancel neither confirms nor finds that the device keeps the change set, and no session is asked
-- for once it is done
abbrev pub may_close : Bool → Option Bool → Bool
may_close commit None = true
may_close commit (Some kept) = commit || not kept

-- a resynchronisation may be at this stage
abbrev pub may_go_on : Bool → ResyncStage → Bool
may_go_on commit Opening = true
may_go_on commit Discarding = true
may_go_on commit Locking = true
may_go_on commit Holding = true
may_go_on commit Confirming = commit
may_go_on commit Checking = commit
may_go_on commit (Closing kept) = may_close commit kept
may_go_on commit (Done kept) = false

-- a resynchronisation is at its beginning
abbrev pub is_opening : ResyncStage → Bool
is_opening Opening = true
is_opening _ = false

-- a resynchronisation is of the verdict; before there is one it stands at its beginning
abbrev pub resyncs_rightly : Option Verdict → ResyncState → Bool
resyncs_rightly None resync = not resync.commit && is_opening resync.stage
resyncs_rightly (Some verdict.Commit) resync = resync.commit && may_go_on true resync.stage
resyncs_rightly (Some (verdict.Abort why)) resync = not resync.commit && may_go_on false resync.stage

-- the same where there is a resynchronisation
abbrev pub fits_stage : Option Verdict → Stage → ResyncState → Bool
fits_stage decided Resync resync = resyncs_rightly decided resync
fits_stage decided _ resync = true

-- this is what is asked
abbrev pub asks_this : Option Ask → Ask → Bool
asks_this None what = false
asks_this (Some other) what = same_ask other what

-- a request of the first course, or a renewal once that is done: its reply may come after the verdict
abbrev pub asked_before : Stage → Ask → Bool
asked_before (Live done) what = asks_this (first_ask done) what || (done == all_done && same_ask ask.Renew what)
asked_before _ what = false

-- this may be awaited at a stage
abbrev pub may_await : Option Verdict → Stage → Ask → Bool
may_await decided stage what = asks_this (next_ask decided stage) what || asked_before stage what

-- what is awaited fits the verdict and the stage
abbrev pub awaits_rightly : Option Verdict → Stage → Option Ask → Bool
awaits_rightly decided stage None = true
awaits_rightly decided stage (Some what) = may_await decided stage what

-- where nothing is awaited a link is current exactly at these stages: those behind a session that isn't closed
abbrev pub has_link : Stage → ResyncStage → Bool
has_link (Live done) resync = not (done == 0)
has_link Refused resync = false
has_link Failed resync = true
has_link NeedMark resync = true
has_link Resync resync = not (is_opening resync)
has_link (Leaving kept) resync = true
has_link (Settled kept) resync = false

-- ---- a device of a change set

-- what is known of a device, and the links to it, under a verdict
pub record GoesWith (decided : Option Verdict) (seat : Seat) (side : SideState) : Type 0 where
  pub stands : may_stand decided seat.stage ≡ true
  pub resyncs : fits_stage decided seat.stage side.resync ≡ true
  pub awaits : awaits_rightly decided seat.stage seat.awaited ≡ true
  -- what is awaited is what is asked on the current link
  pub asked : option_map (asked_in_fact side.resync) seat.awaited ≡ current_ask side.wire
  -- where nothing is awaited there is a current link at the stages that go on with one
  pub linked : seat.awaited ≡ None → is_some (current_link side.wire) ≡ has_link seat.stage side.resync.stage
  -- links are made to the devices of the change set alone
  pub member : is_some side.wire.current ≡ true → seat.is_member ≡ true
  pub fair : IfSome (current_told side.wire) (λ exchange. is_fair exchange ≡ true)

-- the members are the devices of the change set
pub record IsSeated (devices device : ℕ) (seat : Seat) : Type 0 where
  pub numbered : is_device device ≡ true
  pub member : seat.is_member ≡ mask_contains devices device

-- a seat and its side go together, where both are there
abbrev pub GoWith : ℕ → Option Verdict → ℕ → Option Seat → Option SideState → Type 0
GoWith devices decided device None None = Unit {0}
GoWith devices decided device None (Some side) = ⊥
GoWith devices decided device (Some seat) None = ⊥
GoWith devices decided device (Some seat) (Some side) = IsSeated devices device seat × GoesWith decided seat side

-- a cause of an abort may be recorded: it names a device of the change set, and a tag that has a number there
abbrev pub is_recorded : ℕ → AbortCause → Bool
is_recorded devices why = has_named devices (verdict.Abort why) && verdict_has_record (verdict.Abort why)

-- the course of a change set of these devices and its links are in step, by the entries of the journal
pub record IsInStep (change devices : ℕ) (entries : List Entry) (slot : SlotState) : Type 0 where
  -- the verdict is that of the journal, until the change set is ended
  pub decided : is_ended_in change entries ≡ false → slot.course.verdict ≡ verdict_in change entries
  pub trouble : IfSome slot.course.trouble (λ why. is_recorded devices why ≡ true)
  pub sides : length slot.sides ≡ seat_count
  pub pairs : (place : ℕ) → GoWith devices slot.course.verdict (place + 1) (slice_get slot.course.seats place) (slice_get slot.sides place)

-- a request went out
abbrev pub is_sent : Action → Bool
is_sent (action.Sent device link request) = true
is_sent _ = false

-- each device of a change set has its edit
abbrev pub IsPlanned : ChangePlan → ℕ → Type 0
IsPlanned plan devices = (place : ℕ) → mask_contains devices (place + 1) ≡ true → is_some (edit_for plan (place + 1)) ≡ true
