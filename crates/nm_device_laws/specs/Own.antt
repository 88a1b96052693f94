-- What a session's own request found and what it leaves, where it is answered Done: the table of requests read from its
-- answers (RFC 6241 sections 7 and 8).
use Rattle.std.specs.Prelude.{◌≡◌, ℕ, ◌+◌, ◌==◌, List, [], true, false, Option, Some, None, slice_get, Ok}
use Rattle.nm_proto.specs.declared.message.Store.TheVariants.{Running, Candidate}
use Rattle.nm_proto.specs.declared.message.DefaultOperation.{DefaultOperation}
use Rattle.nm_proto.specs.declared.message.Marks.{Marks}
use Rattle.nm_proto.specs.declared.message.Reply.TheVariants.{Mark}
use Rattle.nm_proto.specs.Content.{Meaning, TablesState}
use Rattle.nm_sessions.specs.Sessions.{user_of, is_open, entered}
use Rattle.nm_locks.specs.Locks.{owner_of}
use Rattle.nm_stores.specs.Stores.{candidate_of, committed, with_candidate, discarded}
use Rattle.nm_partial.specs.Partial.{forgotten}
use Rattle.nm_pending.specs.Pending.{PendingState, begun, followed, deadline_of}
use Rattle.nm_pending.specs.Fits.{MayCommit}
use Rattle.nm_device.specs.Device.{DeviceState, is_held_by_other, is_manager, with_stores}
use Rattle.nm_device.specs.Commit.{is_locked_out}
use Rattle.nm_device.specs.Undoing.{undone_to, ended}
use Rattle.nm_device.specs.Table.{with_lock}
use Rattle.nm_history.specs.History.{Happened}
use Rattle.nm_device_laws.specs.Numbered.{has_author}

module _ {Config Node : Type 0} where
  -- a session opens: its id was never open, and nothing else changes (RFC 6241 section 8.1)
  pub record Opens (user : List ℕ) (id : ℕ) (s now : DeviceState Config Node) : Type 0 where
    pub next : id ≡ s.sessions.last + 1
    pub fresh : user_of s.sessions id ≡ None
    pub user_is : user_of now.sessions id ≡ Some user
    pub after : now ≡ record s { sessions = entered s.sessions user }

  -- the lock of running: nobody had it or one of a part, and no commit was pending but one under which the session
  -- committed (RFC 6241 section 7.5)
  pub record TakesRunning (session : ℕ) (s now : DeviceState Config Node) : Type 0 where
    pub was_free : owner_of s.locks Running ≡ None
    pub whole : s.partials.locks ≡ []
    pub alone : has_author s.pending session ≡ false → s.pending ≡ None
    pub after : now ≡ with_lock s Running session

  -- the lock of candidate: nobody had it, and candidate was unmodified (RFC 6241 section 7.5)
  pub record TakesCandidate (session : ℕ) (s now : DeviceState Config Node) : Type 0 where
    pub was_free : owner_of s.locks Candidate ≡ None
    pub unmodified : s.stores.candidate ≡ None
    pub after : now ≡ with_lock s Candidate session

  -- candidate equals running again (RFC 6241 section 8.3.4.2)
  pub record Discards (session : ℕ) (s now : DeviceState Config Node) : Type 0 where
    pub unheld : is_held_by_other s Candidate session ≡ false
    pub after : now ≡ with_stores s (discarded s.stores)

module _ {Config TheEdit Node : Type 0} (m : Meaning Config TheEdit Node) where
  -- candidate becomes what the edit makes of it, and of running where it was unmodified (RFC 6241 section 7.2)
  pub record EditsCandidate (tables : TablesState TheEdit) (session number : ℕ) (operation : DefaultOperation)
      (marks : Option Marks) (s now : DeviceState Config Node) : Type 0 where
    pub edit : TheEdit
    pub config : Config
    pub unheld : is_held_by_other s Candidate session ≡ false
    pub found : slice_get tables.edits number ≡ Some edit
    pub edits : m.edited (candidate_of s.stores) edit operation marks ≡ Ok config
    pub edits_running : s.stores.candidate ≡ None → m.edited s.stores.running edit operation marks ≡ Ok config
    pub after : now ≡ with_stores s (with_candidate s.stores config)

  -- candidate is valid, and nothing changes (RFC 6241 section 8.6)
  pub record Validates (s now : DeviceState Config Node) : Type 0 where
    pub valid : m.violation (candidate_of s.stores) ≡ None
    pub after : now ≡ s

  -- a commit that names this token or none, and what is pending after it: it fitted what was pending, nobody else held a
  -- global lock, and running becomes what candidate was (RFC 6241 sections 8.3.4.1 and 8.4.1). But for the manager's its
  -- marks are as they were (this project's own)
  pub record Commits (session : ℕ) (named : Option (List ℕ)) (pending : Option (PendingState Config)) (s now : DeviceState Config Node) : Type 0 where
    pub unlocked : is_locked_out s session ≡ false
    pub fits : MayCommit s.pending session named
    pub marks : is_manager (user_of s.sessions session) ≡ false → m.same_marks s.stores.running (candidate_of s.stores) ≡ true
    pub after : now ≡ record s { stores = committed s.stores; partials = forgotten m (candidate_of s.stores) s.partials; pending = pending }

  -- a confirmed commit that gives a token, where nothing was pending, waits under it (RFC 6241 section 8.4.1)
  abbrev pub Begins : (session : ℕ) (timeout : Option ℕ) (token : List ℕ) (s now : DeviceState Config Node) → Type 0
  Begins session timeout token s now = Commits session None (Some (begun s.stores.running session (Some token) (deadline_of s.clock timeout))) s now

  -- one that names a token and gives none follows up what is pending under it: its timer is set anew (RFC 6241 section 8.4.1)
  pub record Renews (session : ℕ) (timeout : Option ℕ) (token : List ℕ) (s now : DeviceState Config Node) : Type 0 where
    pub p : PendingState Config
    pub waits : s.pending ≡ Some p
    pub named : p.token ≡ Some token
    pub commits : Commits session (Some token) (Some (followed p session None (deadline_of s.clock timeout))) s now

  -- a commit that names a token and isn't confirmed confirms what is pending under it (RFC 6241 section 8.4.1)
  pub record Confirms (session : ℕ) (token : List ℕ) (s now : DeviceState Config Node) : Type 0 where
    pub p : PendingState Config
    pub waits : s.pending ≡ Some p
    pub named : p.token ≡ Some token
    pub commits : Commits session (Some token) None s now

  -- a cancel that names a token undoes what is pending under it (RFC 6241 section 8.4.4.1)
  pub record Cancels (session : ℕ) (token : List ℕ) (s now : DeviceState Config Node) : Type 0 where
    pub p : PendingState Config
    pub waits : s.pending ≡ Some p
    pub named : p.token ≡ Some token
    pub unlocked : is_locked_out s session ≡ false
    pub after : now ≡ undone_to m s p.before

  -- whether a mark is in running is answered, and nothing changes (this project's own)
  pub record TellsMark (change : ℕ) (s : DeviceState Config Node) (h : Happened Config Node) : Type 0 where
    pub reply : h.reply ≡ Some (Mark (m.has_mark s.stores.running change))
    pub after : h.after ≡ s

  -- an open session of another's ends (RFC 6241 section 7.9)
  pub record Kills (session other : ℕ) (s now : DeviceState Config Node) : Type 0 where
    pub another : (other == session) ≡ false
    pub was_open : is_open s.sessions other ≡ true
    pub closed : is_open now.sessions other ≡ false
    pub after : now ≡ ended m s other

  -- the session ends (RFC 6241 section 7.8)
  pub record Closes (session : ℕ) (s now : DeviceState Config Node) : Type 0 where
    pub closed : is_open now.sessions session ≡ false
    pub after : now ≡ ended m s session
