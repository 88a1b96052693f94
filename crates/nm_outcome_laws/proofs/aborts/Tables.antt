-- What is known at a stage under an abort, as replies come.
use Rattle.std.proofs.Common.{◌≡◌, ◌⊎◌, inl, inr, ◌||◌, Bool, true, false, Option, Some, None, is_some, refl, arith}
use Rattle.std.proofs.lemmas.Bool.Decides.{nat_tests}
use Rattle.nm_proto.specs.declared.ask.Ask.{Ask}
use Rattle.nm_proto.specs.declared.ask.Ask.TheVariants as ask
use Rattle.nm_proto.specs.declared.message.Reply.{Reply}
use Rattle.nm_proto.specs.declared.journal.AbortCause.{AbortCause}
use Rattle.nm_proto.specs.declared.journal.Verdict.{Verdict}
use Rattle.nm_proto.specs.declared.journal.Verdict.TheVariants as verdict
use Rattle.nm_decider_stage.specs.declared.stage.Stage.{Stage}
use Rattle.nm_decider_stage.specs.Stages.{aborted_stage, broken_stage, learnt, next_ask}
use Rattle.nm_resync.specs.declared.resync.ResyncStage.{ResyncStage}
use Rattle.nm_resync.specs.declared.resync.ResyncStage.TheVariants.{Opening}
use Rattle.nm_resync.specs.Resync.{ResyncState, resync_ask, resync_learnt, settled_in}
use Rattle.nm_resync.specs.Known.{knows}
use Rattle.nm_wire.specs.Asks.{same_ask}
use Rattle.nm_manager.specs.Slot.{asked_in_fact}
use Rattle.nm_safety.specs.Pair.{may_be_sent}
use Rattle.nm_safety.specs.Step.{awaits_rightly, may_go_on, may_stand}
use Rattle.nm_safety.proofs.Tables.{found_stage}
use Rattle.nm_outcome_laws.specs.AbortsSupport.{is_known, is_unbegun}

-- it was known, or a cancel was answered, or a session was refused
pub or_else : (a b c : Bool) → (a || (b || c)) ≡ true → (a ≡ true) ⊎ ((b ≡ true) ⊎ (c ≡ true))
or_else true b c e = inl refl
or_else false true c e = inr (inl refl)
or_else false false c e = inr (inr e)

pub or_one : (a b : Bool) → (a || b) ≡ true → (a ≡ true) ⊎ (b ≡ true)
or_one true b e = inl refl
or_one false b e = inr e

-- ---- the reply to what the course asks

module _ (why : AbortCause) (what : Ask) (reply : Reply) (r : ResyncStage) where
  abbrev after : Stage → Stage
  after stage = learnt (Some (verdict.Abort why)) stage what reply

  pub learnt_known : (stage : Stage) → is_known (after stage) r ≡ true
      → (is_known stage r || (same_ask what ask.Cancel || is_unbegun stage)) ≡ true
  learnt_known stage k = grind (arith, nat_tests)

pub learnt_unbegun : (why : AbortCause) (what : Ask) (reply : Reply) (stage : Stage)
    → is_unbegun (learnt (Some (verdict.Abort why)) stage what reply) ≡ true → is_unbegun stage ≡ true
learnt_unbegun why what reply stage k = grind (arith, nat_tests)

-- ---- the reply to what a resynchronisation asks

resync_learns : (stage : ResyncStage) (reply : Reply) → may_go_on false stage ≡ true
    → is_some (knows (resync_learnt false stage reply)) ≡ true
    → (is_some (knows stage) || same_ask (resync_ask false stage) ask.Cancel) ≡ true
resync_learns stage reply g k = grind (arith, nat_tests)

found_known : (stage : ResyncStage) → is_known (found_stage (settled_in stage)) stage ≡ true → is_some (knows stage) ≡ true
found_known stage k = grind (arith, nat_tests)

pub resync_known : (stage : ResyncStage) (reply : Reply) → may_go_on false stage ≡ true
    → is_known (found_stage (settled_in (resync_learnt false stage reply))) (resync_learnt false stage reply) ≡ true
    → (is_some (knows stage) || same_ask (resync_ask false stage) ask.Cancel) ≡ true
resync_known stage reply g k = resync_learns stage reply g (found_known (resync_learnt false stage reply) k)

pub found_unbegun : (known : Option Bool) → is_unbegun (found_stage known) ≡ false
found_unbegun None = refl
found_unbegun (Some kept) = refl

-- ---- a link breaks

pub broken_known : (stage : Stage) (r : ResyncStage) → is_known (broken_stage stage) Opening ≡ true → is_known stage r ≡ true
broken_known stage r k = grind (arith, nat_tests)

pub broken_unbegun : (stage : Stage) → is_unbegun (broken_stage stage) ≡ false
broken_unbegun stage = grind (arith, nat_tests)

-- ---- the verdict falls

-- nothing was known, so nothing was sent where something is known now
pub decided_known : (stage : Stage) (awaited : Option Ask) → may_stand None stage ≡ true
    → is_known (aborted_stage (is_some awaited) stage) Opening ≡ true → may_be_sent stage awaited ≡ 0
decided_known stage awaited s k = grind (arith, nat_tests)

pub decided_unbegun : (stage : Stage) (awaited : Option Ask) → awaits_rightly None stage awaited ≡ true
    → is_unbegun (aborted_stage (is_some awaited) stage) ≡ true → may_be_sent stage awaited ≡ 0
decided_unbegun stage awaited a k = grind (arith, nat_tests)

-- no cancel is asked for before it
pub undecided_cancels : (stage : Stage) (what : Ask) (r : ResyncState) → awaits_rightly None stage (Some what) ≡ true
    → same_ask (asked_in_fact r what) ask.Cancel ≡ false
undecided_cancels stage what r a = grind (arith, nat_tests)

-- and no confirmed commit after it
pub decided_brings : (v : Verdict) (stage : Stage) (what : Ask) (r : ResyncState) → next_ask (Some v) stage ≡ Some what
    → same_ask (asked_in_fact r what) ask.CommitConfirmed ≡ false
decided_brings v stage what r n = grind (arith, nat_tests)
