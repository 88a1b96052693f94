-- What a request asks, of those that the manager makes (this project's own: the steps of its protocol, over RFC 6241
-- sections 7 and 8.4).
use Rattle.std.specs.Prelude.{Bool, true, false, is_some}
use Rattle.nm_proto.specs.declared.ask.Ask.{Ask}
use Rattle.nm_proto.specs.declared.ask.Ask.TheVariants as ask
use Rattle.nm_proto.specs.declared.message.Store.{Store}
use Rattle.nm_proto.specs.declared.message.Store.TheVariants.{Running, Candidate}
use Rattle.nm_proto.specs.declared.message.Request.{Request}
use Rattle.nm_proto.specs.declared.message.Request.TheVariants.{OpenSession, Lock, Unlock, PartialLock, PartialUnlock, Edit, Validate, Commit, CancelCommit, Discard, HasMark, GetConfig, Kill, CloseSession}

-- what a lock asks, by its datastore
abbrev pub lock_ask : Store → Ask
lock_ask Running = ask.LockRunning
lock_ask Candidate = ask.LockCandidate

-- a commit by what it has: whether it is confirmed, a token to persist under, and a token that it goes on with. One that
-- brings a change set persists under its token; a renewal and a confirm go on with it (RFC 6241 section 8.4.1)
abbrev pub commit_ask : Bool → Bool → Bool → Ask
commit_ask true true false = ask.CommitConfirmed
commit_ask true false true = ask.Renew
commit_ask false false true = ask.Confirm
commit_ask _ _ _ = ask.Resync

-- a cancel by whether it names a token: the manager's own do (RFC 6241 section 8.4.4.1)
abbrev pub cancel_ask : Bool → Ask
cancel_ask true = ask.Cancel
cancel_ask false = ask.Resync

-- what a request asks; one that is never the manager's is a step of no course, as a request of a resynchronisation that
-- isn't known yet
abbrev pub ask_of : Request → Ask
ask_of (OpenSession user) = ask.OpenSession
ask_of (Lock store) = lock_ask store
ask_of (Edit edit operation marks) = ask.Edit
ask_of Validate = ask.Validate
ask_of (Commit confirmed timeout persist persist_id) = commit_ask confirmed (is_some persist) (is_some persist_id)
ask_of (CancelCommit persist_id) = cancel_ask (is_some persist_id)
ask_of Discard = ask.Discard
ask_of (HasMark change) = ask.HasMark
ask_of CloseSession = ask.CloseSession
ask_of (Unlock store) = ask.Resync
ask_of (PartialLock select) = ask.Resync
ask_of (PartialUnlock id) = ask.Resync
ask_of GetConfig = ask.Resync
ask_of (Kill session) = ask.Resync

-- two asks are one
abbrev pub same_ask : Ask → Ask → Bool
same_ask ask.OpenSession ask.OpenSession = true
same_ask ask.LockRunning ask.LockRunning = true
same_ask ask.LockCandidate ask.LockCandidate = true
same_ask ask.Edit ask.Edit = true
same_ask ask.Validate ask.Validate = true
same_ask ask.CommitConfirmed ask.CommitConfirmed = true
same_ask ask.Renew ask.Renew = true
same_ask ask.Confirm ask.Confirm = true
same_ask ask.Cancel ask.Cancel = true
same_ask ask.HasMark ask.HasMark = true
same_ask ask.Discard ask.Discard = true
same_ask ask.CloseSession ask.CloseSession = true
same_ask ask.Resync ask.Resync = true
same_ask _ _ = false
