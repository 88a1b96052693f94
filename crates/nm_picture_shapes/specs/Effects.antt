-- What an entry of a device's history does to what holds there (RFC 6241 sections 7 and 8).
use Rattle.std.specs.Prelude.{ℕ, Bool, true, false, ◌&&◌, Option, Some, None, is_some, if◌then◌else◌}
use Rattle.nm_proto.specs.declared.message.Reply.{Reply}
use Rattle.nm_proto.specs.declared.message.Reply.TheVariants.{Done, Error}
use Rattle.nm_proto.specs.declared.message.Request.{Request}
use Rattle.nm_proto.specs.declared.message.Request.TheVariants.{Lock, Unlock, Edit, Commit, CancelCommit, Discard, Kill, CloseSession}
use Rattle.nm_history.specs.declared.event.DeviceEvent.{DeviceEvent}
use Rattle.nm_history.specs.declared.event.DeviceEvent.TheVariants.{Entered, Asked, Lost, Advanced, Restarted}
use Rattle.nm_history.specs.declared.event.Noted.{Noted}
use Rattle.nm_picture_shapes.specs.declared.effect.Effect.{Effect}
use Rattle.nm_picture_shapes.specs.declared.effect.Effect.TheVariants.{Nothing, Locks, Unlocks, Ends, Edits, Discards, Begins, Confirms, Cancels, Passes, Restarts}

-- a request was done
abbrev pub is_done : Option Reply → Bool
is_done (Some Done) = true
is_done _ = false

-- a request was refused
abbrev pub is_error : Option Reply → Bool
is_error (Some (Error tag session path)) = true
is_error _ = false

-- how long a confirmed commit waits, in seconds (RFC 6241 section 8.4.5)
abbrev pub seconds_of : Option ℕ → ℕ
seconds_of None = 600
seconds_of (Some timeout) = timeout

-- what a commit does that was done
abbrev pub effect_of_commit : Bool → Option ℕ → Effect
effect_of_commit true timeout = Begins (seconds_of timeout)
effect_of_commit false timeout = Confirms

-- what a request of a session does that was done
abbrev pub effect_of_request : ℕ → Request → Effect
effect_of_request session (Lock store) = Locks store session
effect_of_request session (Unlock store) = Unlocks store
effect_of_request session (Edit edit operation marks) = Edits
effect_of_request session (Commit confirmed timeout persist persist_id) = effect_of_commit confirmed timeout
effect_of_request session (CancelCommit persist_id) = Cancels
effect_of_request session Discard = Discards
effect_of_request session (Kill other) = Ends other
effect_of_request session CloseSession = Ends session
effect_of_request session _ = Nothing

-- what comes of an entry that was answered
abbrev pub effect_by : DeviceEvent → Option Reply → Effect
effect_by (Asked session request) reply = if is_done reply then effect_of_request session request else Nothing
effect_by (Lost session) reply = Ends session
effect_by Restarted reply = Restarts
effect_by (Entered user) reply = Nothing
effect_by (Advanced seconds) reply = Passes seconds

-- what an entry of a history does
abbrev pub effect_of : Noted → Effect
effect_of entry = effect_by entry.event entry.reply

-- a request wants a pending commit (RFC 6241 sections 8.4.4 and 8.4.5)
abbrev pub wants_pending : Request → Bool
wants_pending (Commit confirmed timeout persist persist_id) = is_some persist_id
wants_pending (CancelCommit persist_id) = true
wants_pending _ = false

-- an event that was answered so is a refusal of such a request
abbrev pub misses_by : DeviceEvent → Option Reply → Bool
misses_by (Asked session request) reply = is_error reply && wants_pending request
misses_by _ reply = false

-- an entry is the refusal of a request that wants a pending commit
abbrev pub misses_pending : Noted → Bool
misses_pending entry = misses_by entry.event entry.reply
