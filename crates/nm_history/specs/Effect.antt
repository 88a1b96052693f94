-- What an entry of a history does to the pending commit of its device, read from the entry alone (RFC 6241 section 8.4).
use Rattle.std.specs.Prelude.{ℕ, List, Bool, true, false, Option, Some, None}
use Rattle.nm_proto.specs.declared.message.Request.{Request}
use Rattle.nm_proto.specs.declared.message.Request.TheVariants.{OpenSession, Lock, Unlock, PartialLock, PartialUnlock, Edit, Validate, Commit, CancelCommit, Discard, HasMark, GetConfig, Kill, CloseSession}
use Rattle.nm_proto.specs.declared.message.Reply.{Reply}
use Rattle.nm_device.specs.Table.{is_done}
use Rattle.nm_history.specs.declared.event.DeviceEvent.{DeviceEvent}
use Rattle.nm_history.specs.declared.event.DeviceEvent.TheVariants.{Entered, Asked, Lost, Advanced, Restarted}
use Rattle.nm_history.specs.declared.event.Noted.{Noted}
use Rattle.nm_history.specs.declared.outcome.Undoing.{Undoing}
use Rattle.nm_history.specs.declared.outcome.Undoing.TheVariants.{Cancel, End, Timer, Restart}

-- a confirmed commit begins one, or goes on with the one that there is; one that isn't confirmed ends it; it is undone
pub data Effect : Type 0 where
  Begins : (token : Option (List ℕ)) → Effect
  Ends : Effect
  Undoes : (by : Undoing) → Effect
  Neither : Effect

-- the entry was answered Done: nothing else is an answer that a commit took effect
abbrev pub is_done_reply : Option Reply → Bool
is_done_reply None = false
is_done_reply (Some reply) = is_done reply

-- an effect where there was one
abbrev pub effect_if : Bool → Effect → Effect
effect_if true effect = effect
effect_if false effect = Neither

-- of a commit: one to be confirmed begins, or goes on with what is pending; another ends it (RFC 6241 section 8.4)
abbrev pub effect_of_commit : Bool → Option (List ℕ) → Effect
effect_of_commit true persist = Begins persist
effect_of_commit false persist = Ends

-- of a request: whether it was answered Done, and whether it undid what was pending. Commits and cancels are told by their
-- answer, the ends of sessions by what they undid
abbrev pub effect_of : Request → Bool → Bool → Effect
effect_of (Commit confirmed timeout persist persist_id) done undone = effect_if done (effect_of_commit confirmed persist)
effect_of (CancelCommit persist_id) done undone = effect_if done (Undoes Cancel)
effect_of (Kill other) done undone = effect_if undone (Undoes End)
effect_of CloseSession done undone = effect_if undone (Undoes End)
effect_of (OpenSession user) done undone = Neither
effect_of (Lock store) done undone = Neither
effect_of (Unlock store) done undone = Neither
effect_of (PartialLock select) done undone = Neither
effect_of (PartialUnlock id) done undone = Neither
effect_of (Edit edit operation marks) done undone = Neither
effect_of Validate done undone = Neither
effect_of Discard done undone = Neither
effect_of (HasMark change) done undone = Neither
effect_of GetConfig done undone = Neither

-- of what happens at a device: who ended a session, a timer or a restart undoes what is pending
abbrev pub effect_of_event : DeviceEvent → Bool → Bool → Effect
effect_of_event (Asked session request) done undone = effect_of request done undone
effect_of_event (Entered user) done undone = Neither
effect_of_event (Lost session) done undone = effect_if undone (Undoes End)
effect_of_event (Advanced seconds) done undone = effect_if undone (Undoes Timer)
effect_of_event Restarted done undone = effect_if undone (Undoes Restart)

-- what an entry of a history did to the pending commit, read from the entry alone
abbrev pub noted_effect : Noted → Effect
noted_effect entry = effect_of_event entry.event (is_done_reply entry.reply) entry.undone

-- something became of a commit
abbrev pub is_effect : Effect → Bool
is_effect (Begins persist) = true
is_effect Ends = true
is_effect (Undoes by) = true
is_effect Neither = false

-- an entry at which something became of a commit: no other entry changes an outcome
abbrev pub tells : Noted → Bool
tells entry = is_effect (noted_effect entry)
