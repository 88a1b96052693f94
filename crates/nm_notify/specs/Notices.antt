-- What the entries of a device's history tell of confirmed commits (RFC 6470 section 2.2): a table of what happened, and the
-- notices of a whole history, read from the history alone.
use Rattle.std.specs.Prelude.{ℕ, ◌+◌, List, [], ◌∷◌, ◌++◌, Bool, true, false, not, ◌&&◌, Option, Some, None, unwrap_or, option_to_list}
use Rattle.nm_base.specs.Words.{default_timeout}
use Rattle.nm_proto.specs.declared.message.Request.TheVariants.{Commit, CancelCommit, Kill, CloseSession}
use Rattle.nm_device.specs.declared.view.PendingView.{PendingView}
use Rattle.nm_device.specs.declared.view.PendingView.TheVariants as view
use Rattle.nm_history.specs.declared.event.DeviceEvent.{DeviceEvent}
use Rattle.nm_history.specs.declared.event.DeviceEvent.TheVariants.{Asked, Lost, Advanced, Restarted}
use Rattle.nm_history.specs.declared.event.Noted.{Noted}
use Rattle.nm_history.specs.Effect.{Effect, is_done_reply, noted_effect}
use Rattle.nm_history.specs.Effect.Effect.{Begins, Ends, Undoes, Neither}
use Rattle.nm_notify.specs.declared.notice.ConfirmEvent.{ConfirmEvent}
use Rattle.nm_notify.specs.declared.notice.ConfirmEvent.TheVariants.{Start, Cancel, Timeout, Extend, Complete}
use Rattle.nm_notify.specs.declared.notice.Notice.{Notice}

-- ---- one entry

-- a commit is pending
abbrev pub is_standing : PendingView → Bool
is_standing view.None = false
is_standing (view.Standing issuer) = true

-- a notice of an event, with the session that it names and how long the commit waits
abbrev pub tells : ℕ → ConfirmEvent → Option ℕ → Option ℕ → Option Notice
tells position event session timeout = Some (record { position = position; event = event; session = session; timeout = timeout })

-- the same where something is so
abbrev pub told_if : Bool → Option Notice → Option Notice
told_if true notice = notice
told_if false notice = None

-- a commit that was answered Done, by whether it is to be confirmed and whether one was pending before it (RFC 6241 section 8.4)
abbrev pub committed : ℕ → ℕ → Option ℕ → Bool → Bool → Option Notice
committed n session timeout true false = tells n Start (Some session) (Some (unwrap_or timeout default_timeout))
committed n session timeout true true = tells n Extend (Some session) (Some (unwrap_or timeout default_timeout))
committed n session timeout false true = tells n Complete (Some session) None
committed n session timeout false false = None

-- what happened at a position, with whether it was answered Done, whether a commit was pending before it, and whether that was
-- undone: a line for each kind that tells anything. A restart is a cancel that nobody asked for (this project's own)
abbrev pub told : ℕ → DeviceEvent → Bool → Bool → Bool → Option Notice
told n (Asked session (Commit confirmed timeout persist persist_id)) done was undone = told_if done (committed n session timeout confirmed was)
told n (Asked session (CancelCommit persist_id)) done was undone = told_if done (tells n Cancel (Some session) None)
told n (Asked session (Kill other)) done was undone = told_if undone (tells n Cancel (Some other) None)
told n (Asked session CloseSession) done was undone = told_if undone (tells n Cancel (Some session) None)
told n (Lost session) done was undone = told_if undone (tells n Cancel (Some session) None)
told n (Advanced seconds) done was undone = told_if undone (tells n Timeout None None)
told n Restarted done was undone = told_if undone (tells n Cancel None None)
told n _ done was undone = None

-- the notice of an entry, by whether a commit was pending before it and is pending after it
abbrev pub noticed : ℕ → Noted → Bool → Bool → Option Notice
noticed n entry was now = told n entry.event (is_done_reply entry.reply) was (was && not now)

-- ---- a history

-- whether a commit is pending after something of this effect
abbrev pub pending_after : Bool → Effect → Bool
pending_after was (Begins token) = true
pending_after was Ends = false
pending_after was (Undoes by) = false
pending_after was Neither = was

-- the notices of entries, numbered from a number on, where a commit was pending before them or wasn't
abbrev pub notices_from : ℕ → Bool → List Noted → List Notice
notices_from n was [] = []
notices_from n was (entry ∷ history) =
    option_to_list (noticed n entry was (pending_after was (noted_effect entry)))
    ++ notices_from (n + 1) (pending_after was (noted_effect entry)) history

-- the notices of a whole history: nothing is pending at a device that is fresh
abbrev pub notices_in : List Noted → List Notice
notices_in history = notices_from 1 false history
