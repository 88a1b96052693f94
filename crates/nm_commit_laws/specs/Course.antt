-- How far a link has come with a change set, by what it was told (this project's own).
use Rattle.std.specs.Prelude.{ℕ, ◌-◌, ◌==◌, fold, min, if◌then◌else◌}
use Rattle.nm_proto.specs.declared.ask.Ask.{Ask}
use Rattle.nm_proto.specs.declared.ask.Ask.TheVariants as ask
use Rattle.nm_proto.specs.declared.message.Reply.{Reply}
use Rattle.nm_proto.specs.declared.message.Reply.TheVariants.{Done}
use Rattle.nm_decider_stage.specs.declared.stage.Stage.{Stage}
use Rattle.nm_decider_stage.specs.declared.stage.Stage.TheVariants.{Live}
use Rattle.nm_wire.specs.declared.link.Exchange.{Exchange}
use Rattle.nm_wire.specs.Asks.{ask_of}
use Rattle.nm_wire.specs.Link.{LinkState, over}

-- one step for each lock and one for the edit, each after the one before it. A validation and a renewal go no further, what is refused
-- neither, and anything else leads away
abbrev pub steps_by : ℕ → Ask → Reply → ℕ
steps_by n ask.LockRunning Done = 1
steps_by n ask.LockCandidate Done = if n == 1 then 2 else 0
steps_by n ask.Edit Done = if n == 2 then 3 else 0
steps_by n ask.LockRunning reply = n
steps_by n ask.LockCandidate reply = n
steps_by n ask.Edit reply = n
steps_by n ask.Validate reply = n
steps_by n ask.Renew reply = n
steps_by n _ reply = 0

-- how far an exchange brings a link
abbrev pub steps_after : ℕ → Exchange → ℕ
steps_after n exchange = steps_by n (ask_of exchange.request) exchange.reply

-- how far a link has come
abbrev pub steps_of : LinkState → ℕ
steps_of link = over steps_after 0 link

-- as far as its handled replies tell
abbrev pub steps_past : LinkState → ℕ
steps_past link = fold steps_after 0 link.past

-- how many of them a device has told that stands at a stage of the course
abbrev pub steps_known : Stage → ℕ
steps_known (Live done) = min (done - 1) 3
steps_known _ = 0
