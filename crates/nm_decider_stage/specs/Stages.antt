-- What is asked of one device for a change set, and what is learnt of its replies (this project's own, over RFC 6241 sections 7
-- and 8.4). Two tables: a stage advances only on the reply that fits what was asked.
use Rattle.std.specs.Prelude.{ℕ, ◌+◌, ◌==◌, Bool, true, false, not, ◌&&◌, Option, Some, None, if◌then◌else◌}
use Rattle.nm_base.specs.declared.tag.Tag.{Tag}
use Rattle.nm_base.specs.declared.tag.Tag.TheVariants as tag
use Rattle.nm_proto.specs.declared.ask.Ask.{Ask}
use Rattle.nm_proto.specs.declared.ask.Ask.TheVariants as ask
use Rattle.nm_proto.specs.declared.message.Reply.{Reply}
use Rattle.nm_proto.specs.declared.message.Reply.TheVariants.{Done, Opened, Mark, Error}
use Rattle.nm_proto.specs.declared.journal.AbortCause.{AbortCause}
use Rattle.nm_proto.specs.declared.journal.AbortCause.TheVariants as cause
use Rattle.nm_proto.specs.declared.journal.Verdict.{Verdict}
use Rattle.nm_proto.specs.declared.journal.Verdict.TheVariants as verdict
use Rattle.nm_decider_stage.specs.declared.stage.Stage.{Stage}
use Rattle.nm_decider_stage.specs.declared.stage.Stage.TheVariants.{Live, Refused, Failed, NeedMark, Resync, Leaving, Settled}

-- how many requests bring a change set to a device: a session, both locks, the edit, its validation, and the confirmed commit
-- (RFC 6241 sections 7.5, 7.2, 8.6 and 8.4)
abbrev pub all_done : ℕ
all_done = 6

-- what is asked where so many of them are done, in their order; None where all are
abbrev pub first_ask : ℕ → Option Ask
first_ask done =
    if done == 0 then Some ask.OpenSession
    else (if done == 1 then Some ask.LockRunning
    else (if done == 2 then Some ask.LockCandidate
    else (if done == 3 then Some ask.Edit
    else (if done == 4 then Some ask.Validate
    else (if done == 5 then Some ask.CommitConfirmed
    else None)))))

-- on a live link once the verdict stands: what was made is confirmed or cancelled; where no session was opened there is nothing
abbrev pub verdict_ask : Verdict → Ask
verdict_ask verdict.Commit = ask.Confirm
verdict_ask (verdict.Abort why) = ask.Cancel

-- on a live link: the next request that brings the change set, or what the verdict wants of a device with a session
abbrev pub live_ask : Option Verdict → ℕ → Option Ask
live_ask None done = first_ask done
live_ask (Some decided) done = if done == 0 then None else Some (verdict_ask decided)

-- after a refusal: nothing, until the change set is to be aborted
abbrev pub failed_ask : Option Verdict → Option Ask
failed_ask None = None
failed_ask (Some verdict.Commit) = None
failed_ask (Some (verdict.Abort why)) = Some ask.Cancel

-- after a refused confirm: whether the mark is there, where the change set is to be committed
abbrev pub mark_ask : Option Verdict → Option Ask
mark_ask None = None
mark_ask (Some verdict.Commit) = Some ask.HasMark
mark_ask (Some (verdict.Abort why)) = None

-- what waits for the verdict, whichever it is
abbrev pub once_decided : Ask → Option Verdict → Option Ask
once_decided what None = None
once_decided what (Some decided) = Some what

-- what is asked of a device next, by the verdict and its stage
abbrev pub next_ask : Option Verdict → Stage → Option Ask
next_ask decided (Live done) = live_ask decided done
next_ask decided Refused = None
next_ask decided Failed = failed_ask decided
next_ask decided NeedMark = mark_ask decided
next_ask decided Resync = once_decided ask.Resync decided
next_ask decided (Leaving kept) = once_decided ask.CloseSession decided
next_ask decided (Settled kept) = None

-- the reply that fits what was asked: a session, whether the mark is there, or Done
abbrev pub fits : Ask → Reply → Bool
fits ask.OpenSession (Opened session) = true
fits ask.OpenSession _ = false
fits ask.HasMark (Mark there) = true
fits ask.HasMark _ = false
fits _ Done = true
fits _ _ = false

-- ---- what a reply tells

-- what was asked is the next of the requests that bring the change set
abbrev pub is_first : Option Ask → Ask → Bool
is_first (Some ask.OpenSession) ask.OpenSession = true
is_first (Some ask.LockRunning) ask.LockRunning = true
is_first (Some ask.LockCandidate) ask.LockCandidate = true
is_first (Some ask.Edit) ask.Edit = true
is_first (Some ask.Validate) ask.Validate = true
is_first (Some ask.CommitConfirmed) ask.CommitConfirmed = true
is_first _ _ = false

-- a session that is refused leaves nothing: once it is decided, the device is settled
abbrev pub unopened : Option Verdict → Stage
unopened None = Refused
unopened (Some decided) = Settled false

-- any other request that is refused leaves a session to be closed
abbrev pub refused : Option Verdict → Ask → Stage
refused decided ask.OpenSession = unopened decided
refused decided _ = Failed

-- a request of the first course was answered
abbrev pub learnt_first : Option Verdict → ℕ → Ask → Reply → Stage
learnt_first decided done what reply = if fits what reply then Live (done + 1) else refused decided what

-- a confirm that is refused tells nothing of what became of the commit: its mark does
abbrev pub learnt_confirm : Reply → Stage
learnt_confirm Done = Leaving true
learnt_confirm _ = NeedMark

-- the reply to what the verdict wanted: a confirm, or a cancel, after which nothing of the change set stays
abbrev pub learnt_other : Option Verdict → ℕ → Ask → Reply → Stage
learnt_other (Some verdict.Commit) done ask.Confirm reply = learnt_confirm reply
learnt_other (Some (verdict.Abort why)) done ask.Cancel reply = Leaving false
learnt_other _ done _ reply = Live done

-- the stage after a reply on a live link: to one of the requests that bring the change set, or to what the verdict wanted
abbrev pub learnt_live : Option Verdict → ℕ → Ask → Reply → Stage
learnt_live decided done what reply =
    if is_first (first_ask done) what then learnt_first decided done what reply else learnt_other decided done what reply

-- the stage after the reply to a cancel: nothing of the change set stays; another reply teaches nothing
abbrev pub learnt_failed : Option Verdict → Ask → Stage
learnt_failed (Some (verdict.Abort why)) ask.Cancel = Leaving false
learnt_failed _ _ = Failed

-- a mark that is told settles whether the device keeps the change set; another reply leaves it open
abbrev pub mark_told : Reply → Stage
mark_told (Mark there) = Leaving there
mark_told _ = NeedMark

-- the stage after the reply to the question for the mark
abbrev pub learnt_mark : Option Verdict → Ask → Reply → Stage
learnt_mark (Some verdict.Commit) ask.HasMark reply = mark_told reply
learnt_mark _ _ _ = NeedMark

-- the stage after the reply to the close of the session: settled, whatever the reply says
abbrev pub learnt_leaving : Option Verdict → Bool → Ask → Stage
learnt_leaving (Some decided) kept ask.CloseSession = Settled kept
learnt_leaving _ kept _ = Leaving kept

-- the stage after the reply to what was asked. The verdict may have fallen between the two
abbrev pub learnt : Option Verdict → Stage → Ask → Reply → Stage
learnt decided (Live done) what reply = learnt_live decided done what reply
learnt decided Refused what reply = Refused
learnt decided Failed what reply = learnt_failed decided what
learnt decided NeedMark what reply = learnt_mark decided what reply
learnt decided Resync what reply = Resync
learnt decided (Leaving kept) what reply = learnt_leaving decided kept what
learnt decided (Settled kept) what reply = Settled kept

-- the tag of a refusal; a reply that isn't an error and doesn't fit is one for no other tag's reason (RFC 6241 appendix A)
abbrev pub tag_in : Reply → Tag
tag_in (Error said session path) = said
tag_in _ = tag.OperationFailed

-- the reply is an error
abbrev pub is_error : Reply → Bool
is_error (Error said session path) = true
is_error _ = false

-- why a change set is to be aborted, by the reply of a device to what was asked of it: a request of the first course was refused,
-- or a renewal was
abbrev pub trouble_in : ℕ → Ask → Reply → Option AbortCause
trouble_in device ask.Renew reply = if is_error reply then Some (cause.Lapsed device) else None
trouble_in device ask.OpenSession reply = if fits ask.OpenSession reply then None else Some (cause.Refused device (tag_in reply))
trouble_in device ask.LockRunning reply = if fits ask.LockRunning reply then None else Some (cause.Refused device (tag_in reply))
trouble_in device ask.LockCandidate reply = if fits ask.LockCandidate reply then None else Some (cause.Refused device (tag_in reply))
trouble_in device ask.Edit reply = if fits ask.Edit reply then None else Some (cause.Refused device (tag_in reply))
trouble_in device ask.Validate reply = if fits ask.Validate reply then None else Some (cause.Refused device (tag_in reply))
trouble_in device ask.CommitConfirmed reply = if fits ask.CommitConfirmed reply then None else Some (cause.Refused device (tag_in reply))
trouble_in device _ reply = None

-- all that brings the change set is done: the device has acknowledged
abbrev pub is_acknowledged : Stage → Bool
is_acknowledged (Live done) = done == all_done
is_acknowledged _ = false

-- the device is settled: whether it keeps the change set is known, and nothing is left to ask of it
abbrev pub is_settled : Stage → Bool
is_settled (Settled kept) = true
is_settled _ = false

-- settled, and the device has kept the change set
abbrev pub has_kept : Stage → Bool
has_kept (Settled kept) = kept
has_kept _ = false

-- at an abort, a device to which no link was made, or whose session was refused, is settled
abbrev pub aborted_stage : Bool → Stage → Stage
aborted_stage awaits (Live done) = if not awaits && done == 0 then Settled false else Live done
aborted_stage awaits Refused = Settled false
aborted_stage awaits Failed = Failed
aborted_stage awaits NeedMark = NeedMark
aborted_stage awaits Resync = Resync
aborted_stage awaits (Leaving kept) = Leaving kept
aborted_stage awaits (Settled kept) = Settled kept

-- a broken link: what became of the device is found out anew, but where it is settled
abbrev pub broken_stage : Stage → Stage
broken_stage (Settled kept) = Settled kept
broken_stage _ = Resync
