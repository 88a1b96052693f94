-- What replies tell of whether a device keeps the change set (this project's own).
use Rattle.std.specs.Prelude.{◌≡◌, Bool, true, false, Option, Some, None, if◌then◌else◌}
use Rattle.nm_proto.specs.declared.ask.Ask.{Ask}
use Rattle.nm_proto.specs.declared.ask.Ask.TheVariants as ask
use Rattle.nm_proto.specs.declared.message.Reply.{Reply}
use Rattle.nm_proto.specs.declared.message.Reply.TheVariants.{Done, Mark}
use Rattle.nm_proto.specs.declared.journal.Verdict.{Verdict}
use Rattle.nm_decider_stage.specs.declared.stage.Stage.{Stage}
use Rattle.nm_decider_stage.specs.declared.stage.Stage.TheVariants.{Leaving, Settled}
use Rattle.nm_decider_stage.specs.Stages.{fits, learnt}

-- what a reply to a confirm tells of whether the device keeps the change set: a refused one nothing
abbrev pub told_by_confirm : Reply → Option Bool
told_by_confirm Done = Some true
told_by_confirm _ = None

-- what a reply to the question for the mark tells
abbrev pub told_by_mark : Reply → Option Bool
told_by_mark (Mark there) = Some there
told_by_mark _ = None

-- a confirm that is done tells that it stays, a refused one nothing; its mark tells either; any reply to a cancel, and no session,
-- that it doesn't
abbrev pub tells : Ask → Reply → Option Bool
tells ask.Confirm reply = told_by_confirm reply
tells ask.HasMark reply = told_by_mark reply
tells ask.Cancel reply = Some false
tells ask.OpenSession reply = if fits ask.OpenSession reply then None else Some false
tells _ reply = None

-- what is known of a device
abbrev pub knows : Stage → Option Bool
knows (Leaving kept) = Some kept
knows (Settled kept) = Some kept
knows _ = None

-- what is learnt of a device comes from replies that tell it, and is never unlearnt
pub record TellsAlone (decided : Option Verdict) (stage : Stage) (what : Ask) (reply : Reply) : Type 0 where
  -- what is known stays so
  pub stays : (kept : Bool) → knows stage ≡ Some kept → knows (learnt decided stage what reply) ≡ Some kept
  -- and what comes to be known is what the reply tells
  pub comes : (kept : Bool) → knows stage ≡ None → knows (learnt decided stage what reply) ≡ Some kept → tells what reply ≡ Some kept
