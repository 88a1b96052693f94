-- Whole resynchronisations (this project's own): what stands behind a known outcome, in words of the requests and their replies.
use Rattle.std.specs.Prelude.{◌≡◌, ℕ, List, [], ◌∷◌, Bool, true, false, ◌&&◌, ◌||◌, Option, Some, None, if◌then◌else◌}
use Rattle.nm_proto.specs.declared.ask.Ask.{Ask}
use Rattle.nm_proto.specs.declared.ask.Ask.TheVariants as ask
use Rattle.nm_proto.specs.declared.message.Reply.{Reply}
use Rattle.nm_proto.specs.declared.message.Reply.TheVariants as reply
use Rattle.nm_resync.specs.declared.resync.ResyncStage.{ResyncStage}
use Rattle.nm_resync.specs.declared.resync.ResyncStage.TheVariants.{Opening, Discarding, Locking, Holding, Confirming, Checking, Closing, Done}
use Rattle.nm_resync.specs.Resync.{ResyncState, resync_ask, resync_learnt, with_reply}

-- a request with its reply
pub record Asked : Type 0 where
  pub what : Ask
  pub told : Reply

-- what is asked and answered over these replies, the last first
abbrev pub asked_over : List Asked → ResyncState → List Reply → List Asked
asked_over before resync [] = before
asked_over before resync (told ∷ replies) =
    asked_over (record { what = resync_ask resync.commit resync.stage; told = told } ∷ before) (with_reply resync told) replies

-- where it stands after these replies
abbrev pub after : ResyncState → List Reply → ResyncState
after resync [] = resync
after resync (told ∷ replies) = after (with_reply resync told) replies

-- the reply is Done
abbrev pub is_done : Reply → Bool
is_done reply.Done = true
is_done _ = false

-- the reply opens a session
abbrev pub is_opened : Reply → Bool
is_opened (reply.Opened session) = true
is_opened _ = false

-- what is asked is the lock on candidate
abbrev pub is_lock : Ask → Bool
is_lock ask.LockCandidate = true
is_lock _ = false

-- what is asked is a session
abbrev pub is_opening : Ask → Bool
is_opening ask.OpenSession = true
is_opening _ = false

-- the last session that was asked for has locked candidate: no session was asked for since the lock was done
abbrev pub has_lock : List Asked → Bool
has_lock [] = false
has_lock (asked ∷ before) = (is_lock asked.what && is_done asked.told) || (if is_opening asked.what then false else has_lock before)

-- what one reply tells of whether the device keeps the change set: a confirm that is done that it does, any reply to a cancel that
-- it doesn't, and its mark either; a refused confirm nothing
abbrev pub told_by_confirm : Reply → Option Bool
told_by_confirm reply.Done = Some true
told_by_confirm _ = None

-- what a reply to the question for the mark tells
abbrev pub told_by_mark : Reply → Option Bool
told_by_mark (reply.Mark there) = Some there
told_by_mark _ = None

-- what a reply tells of whether the device keeps the change set, by what was asked
abbrev pub tells : Ask → Reply → Option Bool
tells ask.Confirm told = told_by_confirm told
tells ask.HasMark told = told_by_mark told
tells ask.Cancel told = Some false
tells _ told = None

-- what is known
abbrev pub knows : ResyncStage → Option Bool
knows (Closing kept) = kept
knows (Done kept) = Some kept
knows _ = None

-- what is learnt comes from replies that tell it, and is never unlearnt
pub record LearnsRightly (commit : Bool) (stage : ResyncStage) (told : Reply) : Type 0 where
  -- what is known stays so
  pub stays : (kept : Bool) → knows stage ≡ Some kept → knows (resync_learnt commit stage told) ≡ Some kept
  -- and what comes to be known is what the reply tells
  pub comes : (kept : Bool) → knows stage ≡ None → knows (resync_learnt commit stage told) ≡ Some kept
      → tells (resync_ask commit stage) told ≡ Some kept

-- how many requests are left where each reply is as fitting as may be; 8 where the session is closed to begin again
abbrev pub held_rank : Bool → ℕ
held_rank true = 4
held_rank false = 2

-- how many requests are left as the session closes: the close alone, or a whole new round with it
abbrev pub closing_rank : Option Bool → ℕ
closing_rank None = 8
closing_rank (Some kept) = 1

-- how many requests are left at most, where each reply is as fitting as may be
abbrev pub rank : Bool → ResyncStage → ℕ
rank commit Opening = 7
rank commit Discarding = 6
rank commit Locking = 5
rank commit Holding = held_rank commit
rank commit Confirming = 3
rank commit Checking = 2
rank commit (Closing kept) = closing_rank kept
rank commit (Done kept) = 0

-- the reply fits what was asked: a session, Done, whether the mark is there; to what confirms, cancels and closes any does
abbrev pub fits : Ask → Reply → Bool
fits ask.OpenSession told = is_opened told
fits ask.Discard told = is_done told
fits ask.LockCandidate told = is_done told
fits ask.HasMark (reply.Mark there) = true
fits ask.HasMark _ = false
fits _ told = true
