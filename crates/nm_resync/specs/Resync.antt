-- What is asked of a device after a break to find out whether it keeps a change set, and what is learnt (this project's own). The
-- candidate lock comes first: who is granted it finds no earlier confirmed commit, confirm or cancel of the change set on its way,
-- since each of them stands on a session that holds this lock (RFC 6241 sections 7.5 and 8.3.5).
use Rattle.std.specs.Prelude.{Bool, true, false, Option, Some, None}
use Rattle.nm_proto.specs.declared.ask.Ask.{Ask}
use Rattle.nm_proto.specs.declared.ask.Ask.TheVariants as ask
use Rattle.nm_proto.specs.declared.message.Reply.{Reply}
use Rattle.nm_proto.specs.declared.message.Reply.TheVariants as reply
use Rattle.nm_resync.specs.declared.resync.ResyncStage.{ResyncStage}
use Rattle.nm_resync.specs.declared.resync.ResyncStage.TheVariants.{Opening, Discarding, Locking, Holding, Confirming, Checking, Closing, Done}

-- whether the change set is to be committed, and where the resynchronisation stands
pub record ResyncState : Type 0 where
  pub commit : Bool
  pub stage : ResyncStage

-- a resynchronisation that has asked nothing yet, for a change set that is to be committed or not
abbrev pub fresh_resync : Bool → ResyncState
fresh_resync commit = record { commit = commit; stage = Opening }

-- holding the lock: what is to be committed is looked for, and what isn't is cancelled
abbrev pub held_ask : Bool → Ask
held_ask true = ask.HasMark
held_ask false = ask.Cancel

-- what is asked next; once the outcome is known and the session closed, nothing that a device understands
abbrev pub resync_ask : Bool → ResyncStage → Ask
resync_ask commit Opening = ask.OpenSession
resync_ask commit Discarding = ask.Discard
resync_ask commit Locking = ask.LockCandidate
resync_ask commit Holding = held_ask commit
resync_ask commit Confirming = ask.Confirm
resync_ask commit Checking = ask.HasMark
resync_ask commit (Closing kept) = ask.CloseSession
resync_ask commit (Done kept) = ask.Resync

-- a session that is refused begins again
abbrev pub learnt_opening : Reply → ResyncStage
learnt_opening (reply.Opened session) = Discarding
learnt_opening _ = Opening

-- what else is refused before the lock is held closes the session, to begin again
abbrev pub learnt_discard : Reply → ResyncStage
learnt_discard reply.Done = Locking
learnt_discard _ = Closing None

-- a refused lock closes the session, to begin again
abbrev pub learnt_lock : Reply → ResyncStage
learnt_lock reply.Done = Holding
learnt_lock _ = Closing None

-- a mark that is there is to be confirmed; where it isn't, the device doesn't keep the change set
abbrev pub held_mark : Bool → ResyncStage
held_mark true = Confirming
held_mark false = Closing (Some false)

-- without the mark there is no commit of the change set; with it the commit is confirmed, whether it was before or not
abbrev pub learnt_held : Bool → Reply → ResyncStage
learnt_held false told = Closing (Some false)
learnt_held true (reply.Mark there) = held_mark there
learnt_held true _ = Closing None

-- a confirm that is refused tells nothing: the commit may have been confirmed before, or undone since the mark was seen
abbrev pub learnt_confirming : Reply → ResyncStage
learnt_confirming reply.Done = Closing (Some true)
learnt_confirming _ = Checking

-- what the mark tells settles the outcome; another reply begins again
abbrev pub learnt_checking : Reply → ResyncStage
learnt_checking (reply.Mark there) = Closing (Some there)
learnt_checking _ = Closing None

-- once the session closed, the outcome stands, or all begins again
abbrev pub learnt_closing : Option Bool → ResyncStage
learnt_closing None = Opening
learnt_closing (Some kept) = Done kept

-- the stage after the reply to what was asked
abbrev pub resync_learnt : Bool → ResyncStage → Reply → ResyncStage
resync_learnt commit Opening told = learnt_opening told
resync_learnt commit Discarding told = learnt_discard told
resync_learnt commit Locking told = learnt_lock told
resync_learnt commit Holding told = learnt_held commit told
resync_learnt commit Confirming told = learnt_confirming told
resync_learnt commit Checking told = learnt_checking told
resync_learnt commit (Closing kept) told = learnt_closing kept
resync_learnt commit (Done kept) told = Done kept

-- a resynchronisation after the reply to what was asked
abbrev pub with_reply : ResyncState → Reply → ResyncState
with_reply resync told = record resync { stage = resync_learnt resync.commit resync.stage told }

-- known, and the session closed
abbrev pub settled_in : ResyncStage → Option Bool
settled_in (Done kept) = Some kept
settled_in _ = None
