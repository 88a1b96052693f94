-- How candidate stands for the session of a link, by what the link was told (this project's own).
use Rattle.std.specs.Prelude.{ℕ, ◌==◌, nat_le, min, Bool, true, false, if◌then◌else◌}
use Rattle.nm_proto.specs.declared.ask.Ask.{Ask}
use Rattle.nm_proto.specs.declared.ask.Ask.TheVariants as ask
use Rattle.nm_proto.specs.declared.message.Reply.{Reply}
use Rattle.nm_proto.specs.declared.message.Reply.TheVariants.{Done}
use Rattle.nm_decider_stage.specs.declared.stage.Stage.{Stage}
use Rattle.nm_decider_stage.specs.declared.stage.Stage.TheVariants.{Live, Resync}
use Rattle.nm_resync.specs.declared.resync.ResyncStage.{ResyncStage}
use Rattle.nm_resync.specs.declared.resync.ResyncStage.TheVariants.{Holding, Confirming}
use Rattle.nm_wire.specs.declared.link.Exchange.{Exchange}
use Rattle.nm_wire.specs.Asks.{ask_of}
use Rattle.nm_wire.specs.Link.{LinkState, over}

-- who owns candidate has it unmodified after a commit (RFC 6241 section 8.3.4.1)
abbrev pub committed_by : ℕ → ℕ
committed_by n = if n == 0 then 0 else 2

-- 1 where candidate is the session's own, and 2 where it is unmodified too. The lock is granted where candidate is unmodified (RFC 6241
-- section 7.5), an edit modifies it, and a commit ends that. Of what comes before the lock, or ends the session, nothing is said, and
-- anything else changes nothing, a refusal too
abbrev pub stands_by : ℕ → Ask → Reply → ℕ
stands_by n ask.LockCandidate Done = 2
stands_by n ask.Edit Done = min n 1
stands_by n ask.CommitConfirmed Done = committed_by n
stands_by n ask.Renew Done = committed_by n
stands_by n ask.Confirm Done = committed_by n
stands_by n ask.OpenSession reply = 0
stands_by n ask.LockRunning reply = 0
stands_by n ask.Discard reply = 0
stands_by n ask.CloseSession reply = 0
stands_by n ask.Resync reply = 0
stands_by n _ reply = n

-- how far an exchange brings what is known of candidate
abbrev pub stands_after : ℕ → Exchange → ℕ
stands_after n exchange = stands_by n (ask_of exchange.request) exchange.reply

-- how far a link has come
abbrev pub standing : LinkState → ℕ
standing link = over stands_after 0 link

-- how it stands at least on the current link of a device, at a stage of the course and of a resynchronisation
abbrev pub stands_at : Stage → ResyncStage → ℕ
stands_at (Live done) resync = if nat_le 6 done then 2 else (if nat_le 3 done then 1 else 0)
stands_at Resync Holding = 2
stands_at Resync Confirming = 2
stands_at _ _ = 0

-- a commit that brings no change set
abbrev pub is_other : Ask → Bool
is_other ask.Renew = true
is_other ask.Confirm = true
is_other _ = false
