-- The pending confirmed commit of a device (RFC 6241 section 8.4): what begins it, what goes on with it, what ends it.
use Rattle.std.specs.Prelude.{ℕ, ◌==◌, ◌+◌, nat_le, List, [], ◌∷◌, ◌++◌, Bool, false, not, ◌&&◌, Option, Some, None, is_some, unwrap_or, if◌then◌else◌}
use Rattle.std.specs.List.{list_any}
use Rattle.nm_base.specs.Words.{default_timeout}

-- a pending commit: what is kept from before it, its persist token, where it has one, the session that began it, the
-- sessions that committed under it, and the clock at which it is undone, in seconds.
-- The code keeps None from before where running is so still. Over a whole device it is always a configuration
pub record PendingState (Before : Type 0) : Type 0 where
  pub before : Before
  pub token : Option (List ℕ)
  pub issuer : ℕ
  pub authors : List ℕ
  pub deadline : ℕ

-- the clock at which a confirmed commit is undone that is done now (RFC 6241 section 8.4.5)
abbrev pub deadline_of : ℕ → Option ℕ → ℕ
deadline_of now timeout = now + unwrap_or timeout default_timeout

-- the token after a follow-up: a given one replaces it, a missing one keeps it (this project's own)
abbrev pub token_after : Option (List ℕ) → Option (List ℕ) → Option (List ℕ)
token_after token None = token
token_after token (Some persist) = Some persist

module _ {Before : Type 0} where
  -- a session begins a confirmed commit (RFC 6241 section 8.4.1)
  abbrev pub begun : Before → ℕ → Option (List ℕ) → ℕ → PendingState Before
  begun before session persist deadline = record { before = before; token = persist; issuer = session; authors = session ∷ []; deadline = deadline }

  -- the session committed under it
  abbrev pub is_author : PendingState Before → ℕ → Bool
  is_author pending session = list_any (λ author. author == session) pending.authors

  -- the authors with a session among them, once
  abbrev pub authors_after : PendingState Before → ℕ → List ℕ
  authors_after pending session = if is_author pending session then pending.authors else pending.authors ++ session ∷ []

  -- a session follows it up with another confirmed commit: it becomes an author, and the deadline is set anew. What was
  -- before the first stays so (RFC 6241 section 8.4.1)
  abbrev pub followed : PendingState Before → ℕ → Option (List ℕ) → ℕ → PendingState Before
  followed pending session persist deadline =
      record pending { token = token_after pending.token persist; authors = authors_after pending session; deadline = deadline }

  -- the end of the session undoes it: it has no token, and the session began it (RFC 6241 section 8.4.1)
  abbrev pub is_tied : PendingState Before → ℕ → Bool
  is_tied pending session = not (is_some pending.token) && pending.issuer == session

  -- the clock has come to its deadline (RFC 6241 section 8.4.1)
  abbrev pub is_due : PendingState Before → ℕ → Bool
  is_due pending now = nat_le pending.deadline now

  -- a commit is pending of which the session is no author
  abbrev pub is_stranger : Option (PendingState Before) → ℕ → Bool
  is_stranger None session = false
  is_stranger (Some pending) session = not (is_author pending session)

  -- the end of a session undoes what is pending
  abbrev pub ends_with : Option (PendingState Before) → ℕ → Bool
  ends_with None session = false
  ends_with (Some pending) session = is_tied pending session

  -- what is pending is undone at this clock
  abbrev pub ends_at : Option (PendingState Before) → ℕ → Bool
  ends_at None now = false
  ends_at (Some pending) now = is_due pending now

-- what is pending, as the whole device has it: from before stands a configuration, running itself where none is kept
abbrev pub filled : {Config : Type 0} → Config → PendingState (Option Config) → PendingState Config
filled running pending = record {
  before = unwrap_or pending.before running;
  token = pending.token;
  issuer = pending.issuer;
  authors = pending.authors;
  deadline = pending.deadline;
}
