-- What a device keeps of a pending commit with a token, and its history of that token, while nobody names it (RFC 6241
-- section 8.4; that the manager alone names reserved tokens is this project's own).
use Rattle.std.specs.Prelude.{◌≡◌, ℕ, List, [], ◌∷◌, ◌++◌, Bool, true, false, not, ◌&&◌, ◌||◌, Option, Some, None, IfSome, if◌then◌else◌}
use Rattle.std.specs.List.{count_by}
use Rattle.nm_base.specs.Token.{is_reserved}
use Rattle.nm_proto.specs.declared.message.Request.{Request}
use Rattle.nm_proto.specs.declared.message.Request.TheVariants.{Commit, CancelCommit}
use Rattle.nm_sessions.specs.Sessions.{user_of}
use Rattle.nm_pending.specs.Pending.{PendingState}
use Rattle.nm_device.specs.Device.{DeviceState, is_manager, is_dropped}
use Rattle.nm_history.specs.declared.event.DeviceEvent.{DeviceEvent}
use Rattle.nm_history.specs.declared.event.DeviceEvent.TheVariants.{Asked, Advanced, Restarted}
use Rattle.nm_history.specs.declared.event.Noted.{Noted}
use Rattle.nm_history.specs.declared.outcome.Outcome.TheVariants.{Pending, Undone}
use Rattle.nm_history.specs.declared.outcome.Undoing.{Undoing}
use Rattle.nm_history.specs.declared.outcome.Undoing.TheVariants.{Timer, Restart}
use Rattle.nm_history.specs.Effect.{is_done_reply}
use Rattle.nm_history.specs.Outcome.{is_token, outcome_of, is_pending}

-- a commit that gives the token
abbrev pub gives_token : List ℕ → Request → Bool
gives_token token (Commit confirmed timeout persist persist_id) = is_token token persist
gives_token token _ = false

-- a commit or a cancel that gives the token or names it
abbrev pub names_token : List ℕ → Request → Bool
names_token token (Commit confirmed timeout persist persist_id) = is_token token persist || is_token token persist_id
names_token token (CancelCommit persist_id) = is_token token persist_id
names_token token _ = false

-- a user may name the token: a reserved one is the manager's alone
abbrev pub may_name : List ℕ → Option (List ℕ) → Bool
may_name token user = not (is_reserved token) || is_manager user

-- ---- what a history tells of a token

-- an event that asks for a commit under the token
abbrev pub commits_in : List ℕ → DeviceEvent → Bool
commits_in token (Asked session request) = gives_token token request
commits_in token _ = false

-- a commit that gives the token was answered Done
abbrev pub is_commit_done : List ℕ → Noted → Bool
is_commit_done token entry = commits_in token entry.event && is_done_reply entry.reply

-- how many were
abbrev pub commits_done : List ℕ → List Noted → ℕ
commits_done token history = count_by (is_commit_done token) history

-- nobody asks for it: a timer or a restart
abbrev pub is_timed : DeviceEvent → Bool
is_timed (Advanced seconds) = true
is_timed Restarted = true
is_timed _ = false

-- what it is that undoes then
abbrev pub undoing_by : DeviceEvent → Undoing
undoing_by Restarted = Restart
undoing_by _ = Timer

-- what is pending has the token
abbrev pub waits_under : {Config : Type 0} → List ℕ → Option (PendingState Config) → Bool
waits_under token None = false
waits_under token (Some p) = is_token token p.token

module _ {Config Node : Type 0} where
  -- the event doesn't name the token, or comes from a user who may not
  abbrev pub leaves_token : List ℕ → DeviceState Config Node → DeviceEvent → Bool
  leaves_token token s (Asked session request) = not (names_token token request && may_name token (user_of s.sessions session))
  leaves_token token s _ = true

  -- what such an event keeps of the token
  pub record KeepsToken (token : List ℕ) (s : DeviceState Config Node) (entry : Noted) (now : DeviceState Config Node) : Type 0 where
    -- what is pending under it stays as it is, or is undone by a timer or a restart
    pub stays : waits_under token s.pending ≡ true → is_dropped s now ≡ false → now.pending ≡ s.pending
    pub timed : waits_under token s.pending ≡ true → is_dropped s now ≡ true → is_timed entry.event ≡ true
    -- and running stays till then, and becomes what it was before
    pub running : waits_under token s.pending ≡ true → is_dropped s now ≡ false → now.stores.running ≡ s.stores.running
    pub undone : waits_under token s.pending ≡ true → is_dropped s now ≡ true → IfSome s.pending (λ p. now.stores.running ≡ p.before)
    -- nothing comes to be pending under it
    pub none : waits_under token s.pending ≡ false → waits_under token now.pending ≡ false
    -- the history tells just that: an outcome that isn't Pending stays, and one that is ends with what is pending
    pub settled : (history : List Noted) → is_pending (outcome_of token history) ≡ false → outcome_of token (history ++ entry ∷ []) ≡ outcome_of token history
    pub waiting : (history : List Noted) → waits_under token s.pending ≡ true → outcome_of token history ≡ Pending
        → outcome_of token (history ++ entry ∷ []) ≡ (if is_dropped s now then Undone (undoing_by entry.event) else Pending)
    pub count : (history : List Noted) → commits_done token (history ++ entry ∷ []) ≡ commits_done token history
