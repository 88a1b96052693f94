-- The open sessions of a device (RFC 6241 section 8.1): the users by id, ids counted up and never used again. The code
-- keeps a slab whose keys are used again; these are plain lists in the order of the ids.
use Rattle.std.specs.Prelude.{◌≡◌, ℕ, ◌+◌, ◌-◌, ◌^◌, ◌≤◌, ◌==◌, Bool, true, not, ◌||◌, nat_le, List, [], ◌∷◌, ◌++◌, length, filter, Option, Some, None, is_some, IsTrue, if◌then◌else◌}
use Rattle.std.specs.Ordering.{nat_cmp}
use Rattle.std.specs.FinMap.Entries.{find, is_sorted}

-- the open sessions in ascending order of their ids, each with its user, and the last id given, 0 before the first
pub record SessionsState : Type 0 where
  pub users : List (ℕ × List ℕ)
  pub last : ℕ

-- no session was opened yet
abbrev pub no_sessions : SessionsState
no_sessions = record { users = []; last = 0 }

-- how many sessions may be open at once (this project's own)
abbrev pub session_limit : ℕ
session_limit = 64

-- the greatest session id (RFC 6241 appendix C, `session-id-type`)
abbrev pub greatest_id : ℕ
greatest_id = 2 ^ 32 - 1

-- the user of an open session, None where no session of that id is open
abbrev pub user_of : SessionsState → ℕ → Option (List ℕ)
user_of sessions session = find nat_cmp session sessions.users

-- whether a session is open
abbrev pub is_open : SessionsState → ℕ → Bool
is_open sessions session = is_some (user_of sessions session)

-- the id of the next session, one above the last. None where as many are open as may be, or the greatest id was given
-- (this project's own)
abbrev pub id_after : ℕ → ℕ → Option ℕ
id_after count last = if nat_le session_limit count || last == greatest_id then None else Some (last + 1)

-- the same of the sessions that are open
abbrev pub next_id : SessionsState → Option ℕ
next_id sessions = id_after (length sessions.users) sessions.last

-- a session opens with the next id (RFC 6241 section 8.1)
abbrev pub entered : SessionsState → List ℕ → SessionsState
entered sessions user = record { users = sessions.users ++ (sessions.last + 1, user) ∷ []; last = sessions.last + 1 }

-- the users but for that of one session
unfoldable pub without : List (ℕ × List ℕ) → ℕ → List (ℕ × List ℕ)
without users session = filter (λ entry. not (session == entry.0)) users

-- a session ends (RFC 6241 sections 7.8 and 7.9): its id isn't given again
abbrev pub left : SessionsState → ℕ → SessionsState
left sessions session = record sessions { users = without sessions.users session }

-- all sessions end, and the last id given stays (this project's own)
abbrev pub cleared : SessionsState → SessionsState
cleared sessions = record sessions { users = [] }

-- what is true of the sessions of every device
pub record IsTable (sessions : SessionsState) : Type 0 where
  -- the ids ascend strictly, so no two sessions have one
  pub ascending : IsTrue (is_sorted nat_cmp sessions.users)
  pub in_range : (session : ℕ) → is_open sessions session ≡ true → (1 ≤ session) × (session ≤ sessions.last)
  pub few : length sessions.users ≤ session_limit
