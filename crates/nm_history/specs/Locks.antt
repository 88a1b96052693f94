-- Commits, cancels and undoings keep what other sessions have locked (RFC 6241 section 8.3.4, RFC 5717 section 2.5). The
-- definition compares the parts of running before and after; the code asks its locks.
use Rattle.std.specs.Prelude.{◌≡◌, ℕ, List, [], ◌∷◌, Bool, true, false, Option, Some, None, IfSome}
use Rattle.std.specs.List.{All}
use Rattle.nm_proto.specs.declared.message.Store.{Store}
use Rattle.nm_proto.specs.declared.message.Store.TheVariants.{Running}
use Rattle.nm_proto.specs.Content.{Meaning, TablesState}
use Rattle.nm_locks.specs.Locks.{owner_of}
use Rattle.nm_partial.specs.Partial.{KeepsOthers}
use Rattle.nm_pending.specs.Pending.{PendingState, is_author}
use Rattle.nm_device.specs.Device.{DeviceState}
use Rattle.nm_device.specs.Table.{asks_for_end}
use Rattle.nm_history.specs.declared.event.DeviceEvent.{DeviceEvent}
use Rattle.nm_history.specs.declared.event.DeviceEvent.TheVariants.{Entered, Asked, Lost, Advanced, Restarted}
use Rattle.nm_history.specs.declared.event.Noted.{Noted}
use Rattle.nm_history.specs.Effect.{is_done_reply}
use Rattle.nm_history.specs.History.{replayed}

-- the session of a commit or a cancel that was answered Done
abbrev pub asker_by : ℕ → Bool → Bool → Option ℕ
asker_by session false done = None
asker_by session true false = None
asker_by session true true = Some session

-- who asked for what happened, where that is for a session to answer for: the end of a commit that was asked for and done
abbrev pub asker_of : DeviceEvent → Bool → Option ℕ
asker_of (Asked session request) done = asker_by session (asks_for_end request) done
asker_of (Entered user) done = None
asker_of (Lost session) done = None
asker_of (Advanced seconds) done = None
asker_of Restarted done = None

-- the same of an entry
abbrev pub asker : Noted → Option ℕ
asker entry = asker_of entry.event (is_done_reply entry.reply)

module _ {Config TheEdit Node : Type 0} (m : Meaning Config TheEdit Node) where
  -- a session that makes this of running: nobody else holds a global lock, and each part that another has locked is the
  -- same before and after
  pub record KeepsLocks (s : DeviceState Config Node) (session : ℕ) (running : Config) : Type 0 where
    pub alone : (store : Store) (holder : ℕ) → owner_of s.locks store ≡ Some holder → holder ≡ session
    pub parts : KeepsOthers m s.partials session s.stores.running running

  -- the same of an entry, where it is a commit or a cancel that was answered Done
  abbrev pub Respects : DeviceState Config Node → Option ℕ → Config → Type 0
  Respects s None running = Unit {0}
  Respects s (Some session) running = KeepsLocks s session running

  -- an undoing of this pending commit that nobody asked for: nobody but its authors held the lock of running, and each
  -- part that anybody else has locked is the same before and after
  pub record KeepsStrangers (s : DeviceState Config Node) (running : Config) (p : PendingState Config) : Type 0 where
    pub lock : (holder : ℕ) → owner_of s.locks Running ≡ Some holder → is_author p holder ≡ true
    pub parts : All (λ lock. is_author p lock.session ≡ false → All (λ node. m.part s.stores.running node ≡ m.part running node) lock.nodes) s.partials.locks

  -- the same of an entry, where it undid what was pending
  abbrev pub Spares : DeviceState Config Node → Bool → Config → Type 0
  Spares s false running = Unit {0}
  Spares s true running = IfSome s.pending (KeepsStrangers s running)

  -- each commit and cancel of a history that was answered Done, and each undoing, keeps what others had locked
  abbrev pub RespectsLocks : TablesState TheEdit → DeviceState Config Node → List Noted → Type 0
  RespectsLocks tables s [] = Unit {0}
  RespectsLocks tables s (entry ∷ history) =
      Respects s (asker entry) (replayed m tables s entry).stores.running
      × Spares s entry.undone (replayed m tables s entry).stores.running
      × RespectsLocks tables (replayed m tables s entry) history
