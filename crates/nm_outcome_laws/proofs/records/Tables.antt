-- What is known at a stage, as replies come.
use Rattle.std.proofs.Common.{◌≡◌, ◌∙◌, ℕ, Bool, true, false, Some, None, refl, sym, ap, arith}
use Rattle.std.proofs.lemmas.Bool.Decides.{nat_tests}
use Rattle.nm_proto.specs.declared.ask.Ask.{Ask}
use Rattle.nm_proto.specs.declared.ask.Ask.TheVariants as ask
use Rattle.nm_proto.specs.declared.message.Reply.{Reply}
use Rattle.nm_proto.specs.declared.journal.Verdict.TheVariants as verdict
use Rattle.nm_history.specs.declared.outcome.Outcome.{Outcome}
use Rattle.nm_history.specs.Outcome.{is_final}
use Rattle.nm_decider_stage.specs.declared.stage.Stage.{Stage}
use Rattle.nm_decider_stage.specs.declared.stage.Stage.TheVariants.{Live, Refused, Failed, NeedMark, Resync, Leaving, Settled}
use Rattle.nm_decider_stage.specs.Stages.{broken_stage, is_acknowledged, learnt}
use Rattle.nm_resync.specs.declared.resync.ResyncStage.{ResyncStage}
use Rattle.nm_resync.specs.declared.resync.ResyncStage.TheVariants.{Opening, Discarding, Locking, Holding, Confirming, Checking, Closing, Done as Known}
use Rattle.nm_resync.specs.Resync.{resync_ask, resync_learnt, settled_in}
use Rattle.nm_resync.specs.Known.{knows}
use Rattle.nm_safety.specs.Pair.{is_live}
use Rattle.nm_safety.proofs.Tables.{found_stage}
use Rattle.nm_outcome_laws.specs.RecordsSupport.{is_known_as, knows_at, reply_tells, wants_mark}

-- ---- what is final stays

pub known_final : (kept : Bool) (outcome : Outcome) → is_known_as kept outcome ≡ true → is_final outcome ≡ true
known_final kept outcome e = grind (arith, nat_tests)

-- ---- the reply to what the course asks

live_knows : (done : ℕ) (what : Ask) (reply : Reply) (r : ResyncStage) (outcome : Outcome) (kept : Bool) → is_acknowledged (Live done) ≡ true
    → knows_at (learnt (Some verdict.Commit) (Live done) what reply) r ≡ Some kept → reply_tells false what reply outcome ≡ true
    → is_known_as kept outcome ≡ true
live_knows done what reply r outcome kept a k t = grind (arith, nat_tests)

mark_knows : (what : Ask) (reply : Reply) (r : ResyncStage) (outcome : Outcome) (kept : Bool)
    → knows_at (learnt (Some verdict.Commit) NeedMark what reply) r ≡ Some kept → reply_tells true what reply outcome ≡ true
    → is_known_as kept outcome ≡ true
mark_knows what reply r outcome kept k t = grind (arith, nat_tests)

leaving_knows : (left : Bool) (what : Ask) (reply : Reply) (r : ResyncStage) (kept : Bool)
    → knows_at (learnt (Some verdict.Commit) (Leaving left) what reply) r ≡ Some kept → left ≡ kept
leaving_knows left what reply r kept k = grind (arith, nat_tests)

live_wants : (done : ℕ) (what : Ask) (reply : Reply) (r : ResyncStage) (outcome : Outcome) → is_acknowledged (Live done) ≡ true
    → wants_mark (learnt (Some verdict.Commit) (Live done) what reply) r ≡ true → reply_tells false what reply outcome ≡ true
    → is_final outcome ≡ true
live_wants done what reply r outcome a w t = grind (arith, nat_tests)

leaving_wants : (left : Bool) (what : Ask) (reply : Reply) (r : ResyncStage)
    → wants_mark (learnt (Some verdict.Commit) (Leaving left) what reply) r ≡ false
leaving_wants left what reply r = grind (arith, nat_tests)

failed_knows : (what : Ask) (reply : Reply) → learnt (Some verdict.Commit) Failed what reply ≡ Failed
failed_knows what reply = refl

live_acked : (done : ℕ) (what : Ask) (reply : Reply) → is_acknowledged (Live done) ≡ true
    → is_live (learnt (Some verdict.Commit) (Live done) what reply) ≡ true
    → is_acknowledged (learnt (Some verdict.Commit) (Live done) what reply) ≡ true
live_acked done what reply a l = grind (arith, nat_tests)

-- ---- the reply to what a resynchronisation asks

pub resync_knows : (stage : ResyncStage) (reply : Reply) (outcome : Outcome) (kept : Bool)
    → knows (resync_learnt true stage reply) ≡ Some kept
    → ((left : Bool) → knows stage ≡ Some left → is_known_as left outcome ≡ true)
    → reply_tells (wants_mark Resync stage) (resync_ask true stage) reply outcome ≡ true → is_known_as kept outcome ≡ true
resync_knows (Closing (Some left)) reply outcome kept k before t =
    before kept k
resync_knows (Closing None) reply outcome kept k before t = absurd (let g : None ≡ Some kept = k in cc)
resync_knows (Known left) reply outcome kept k before t = before kept k
resync_knows Opening reply outcome kept k before t = absurd (opening reply kept k)
  where
    opening : (reply : Reply) (kept : Bool) → knows (resync_learnt true Opening reply) ≡ Some kept → ⊥
    opening reply kept k = grind (arith, nat_tests)
resync_knows Discarding reply outcome kept k before t = absurd (discarding reply kept k)
  where
    discarding : (reply : Reply) (kept : Bool) → knows (resync_learnt true Discarding reply) ≡ Some kept → ⊥
    discarding reply kept k = grind (arith, nat_tests)
resync_knows Locking reply outcome kept k before t = absurd (locking reply kept k)
  where
    locking : (reply : Reply) (kept : Bool) → knows (resync_learnt true Locking reply) ≡ Some kept → ⊥
    locking reply kept k = grind (arith, nat_tests)
resync_knows Holding reply outcome kept k before t = holding reply outcome kept k t
  where
    holding : (reply : Reply) (outcome : Outcome) (kept : Bool) → knows (resync_learnt true Holding reply) ≡ Some kept
        → reply_tells false ask.HasMark reply outcome ≡ true → is_known_as kept outcome ≡ true
    holding reply outcome kept k t = grind (arith, nat_tests)
resync_knows Confirming reply outcome kept k before t = confirming reply outcome kept k t
  where
    confirming : (reply : Reply) (outcome : Outcome) (kept : Bool) → knows (resync_learnt true Confirming reply) ≡ Some kept
        → reply_tells false ask.Confirm reply outcome ≡ true → is_known_as kept outcome ≡ true
    confirming reply outcome kept k t = grind (arith, nat_tests)
resync_knows Checking reply outcome kept k before t = checking reply outcome kept k t
  where
    checking : (reply : Reply) (outcome : Outcome) (kept : Bool) → knows (resync_learnt true Checking reply) ≡ Some kept
        → reply_tells true ask.HasMark reply outcome ≡ true → is_known_as kept outcome ≡ true
    checking reply outcome kept k t = grind (arith, nat_tests)

-- the mark is wanted only after a refused confirm
pub resync_wants : (stage : ResyncStage) (reply : Reply) (outcome : Outcome) → wants_mark Resync (resync_learnt true stage reply) ≡ true
    → reply_tells (wants_mark Resync stage) (resync_ask true stage) reply outcome ≡ true → is_final outcome ≡ true
resync_wants stage reply outcome w t = grind (arith, nat_tests)

-- what is found is what is known
pub found_knows : (stage : ResyncStage) (kept : Bool) → knows_at (found_stage (settled_in stage)) stage ≡ Some kept → knows stage ≡ Some kept
found_knows (Known left) kept k = k
found_knows Opening kept k = k
found_knows Discarding kept k = k
found_knows Locking kept k = k
found_knows Holding kept k = k
found_knows Confirming kept k = k
found_knows Checking kept k = k
found_knows (Closing left) kept k = k

pub found_wants : (stage : ResyncStage) → wants_mark (found_stage (settled_in stage)) stage ≡ true → wants_mark Resync stage ≡ true
found_wants stage w = grind (arith, nat_tests)

-- ---- all stages of the course

none_false : {T : Type 0} (b : Bool) → b ≡ false → b ≡ true → T
none_false b e f = absurd (let g : false ≡ true = sym e ∙ f in cc)

module _ (what : Ask) (reply : Reply) (r : ResyncStage) (outcome : Outcome) where
  abbrev after : Stage → Stage
  after stage = learnt (Some verdict.Commit) stage what reply

  pub learnt_knows : (stage : Stage) → (is_live stage ≡ true → is_acknowledged stage ≡ true)
      → ((left : Bool) → knows_at stage r ≡ Some left → is_known_as left outcome ≡ true)
      → reply_tells (wants_mark stage r) what reply outcome ≡ true
      → (kept : Bool) → knows_at (after stage) r ≡ Some kept → is_known_as kept outcome ≡ true
  learnt_knows (Live done) acked before t kept k = live_knows done what reply r outcome kept (acked refl) k t
  learnt_knows Refused acked before t kept k = before kept k
  learnt_knows Failed acked before t kept k = before kept k
  learnt_knows NeedMark acked before t kept k = mark_knows what reply r outcome kept k t
  learnt_knows Resync acked before t kept k = before kept k
  learnt_knows (Leaving left) acked before t kept k = before kept (ap Some (leaving_knows left what reply r kept k))
  learnt_knows (Settled left) acked before t kept k = before kept k

  pub learnt_wants : (stage : Stage) → (is_live stage ≡ true → is_acknowledged stage ≡ true)
      → (wants_mark stage r ≡ true → is_final outcome ≡ true)
      → reply_tells (wants_mark stage r) what reply outcome ≡ true
      → wants_mark (after stage) r ≡ true → is_final outcome ≡ true
  learnt_wants (Live done) acked before t w = live_wants done what reply r outcome (acked refl) w t
  learnt_wants Refused acked before t w = before w
  learnt_wants Failed acked before t w = before w
  learnt_wants NeedMark acked before t w = before refl
  learnt_wants Resync acked before t w = before w
  learnt_wants (Leaving left) acked before t w = none_false _ (leaving_wants left what reply r) w
  learnt_wants (Settled left) acked before t w = before w

  pub learnt_acked : (stage : Stage) → (is_live stage ≡ true → is_acknowledged stage ≡ true)
      → is_live (after stage) ≡ true → is_acknowledged (after stage) ≡ true
  learnt_acked (Live done) acked l = live_acked done what reply (acked refl) l
  learnt_acked Refused acked l = acked l
  learnt_acked Failed acked l = acked l
  learnt_acked NeedMark acked l = none_false _ (mark_live what reply) l
    where
      mark_live : (what : Ask) (reply : Reply) → is_live (learnt (Some verdict.Commit) NeedMark what reply) ≡ false
      mark_live what reply = grind (arith, nat_tests)
  learnt_acked Resync acked l = acked l
  learnt_acked (Leaving left) acked l = none_false _ (leaving_live left what reply) l
    where
      leaving_live : (left : Bool) (what : Ask) (reply : Reply) → is_live (learnt (Some verdict.Commit) (Leaving left) what reply) ≡ false
      leaving_live left what reply = grind (arith, nat_tests)
  learnt_acked (Settled left) acked l = acked l

-- ---- a link breaks

pub broken_knows : (stage : Stage) (r : ResyncStage) (kept : Bool) → knows_at (broken_stage stage) Opening ≡ Some kept
    → knows_at stage r ≡ Some kept
broken_knows (Settled left) r kept k = k
broken_knows (Live done) r kept k = absurd (let g : None ≡ Some kept = k in cc)
broken_knows Refused r kept k = absurd (let g : None ≡ Some kept = k in cc)
broken_knows Failed r kept k = absurd (let g : None ≡ Some kept = k in cc)
broken_knows NeedMark r kept k = absurd (let g : None ≡ Some kept = k in cc)
broken_knows Resync r kept k = absurd (let g : None ≡ Some kept = k in cc)
broken_knows (Leaving left) r kept k = absurd (let g : None ≡ Some kept = k in cc)

pub broken_wants : (stage : Stage) → wants_mark (broken_stage stage) Opening ≡ false
broken_wants stage = grind (arith, nat_tests)

pub broken_live : (stage : Stage) → is_live (broken_stage stage) ≡ false
broken_live stage = grind (arith, nat_tests)
