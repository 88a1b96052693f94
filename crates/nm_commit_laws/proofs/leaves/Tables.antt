-- How the tables of stages stand to candidate.
use Rattle.std.proofs.Common.{◌≡◌, ◌∙◌, ℕ, ◌≤◌, Bool, true, false, Option, Some, None, refl, sym, ap, subst, arith}
use Rattle.std.proofs.lemmas.Bool.Decides.{nat_tests}
use Rattle.nm_proto.specs.declared.ask.Ask.{Ask}
use Rattle.nm_proto.specs.declared.ask.Ask.TheVariants as ask
use Rattle.nm_proto.specs.declared.message.Reply.{Reply}
use Rattle.nm_proto.specs.declared.journal.Verdict.{Verdict}
use Rattle.nm_proto.specs.declared.journal.Verdict.TheVariants as verdict
use Rattle.nm_decider_stage.specs.declared.stage.Stage.{Stage}
use Rattle.nm_decider_stage.specs.declared.stage.Stage.TheVariants.{Live, Refused, Failed, NeedMark, Resync, Leaving, Settled}
use Rattle.nm_decider_stage.specs.Stages.{aborted_stage, broken_stage, is_acknowledged, learnt, next_ask}
use Rattle.nm_resync.specs.declared.resync.ResyncStage.{ResyncStage}
use Rattle.nm_resync.specs.declared.resync.ResyncStage.TheVariants.{Opening}
use Rattle.nm_resync.specs.Resync.{ResyncState, resync_ask, resync_learnt}
use Rattle.nm_manager.specs.Slot.{asked_in_fact, opens, to_commit}
use Rattle.nm_safety.specs.Pair.{is_live}
use Rattle.nm_safety.specs.Step.{may_await}
use Rattle.nm_safety.proofs.Tables.{found_stage}
use Rattle.nm_commit_laws.specs.Standing.{is_other, stands_at, stands_by}

-- ---- a reply is told

live_told : (decided : Option Verdict) (done : ℕ) (resync : ResyncState) (what : Ask) (reply : Reply) (n : ℕ)
    → may_await decided (Live done) what ≡ true → stands_at (Live done) resync.stage ≤ n
    → stands_at (Live done) resync.stage ≤ stands_by n (asked_in_fact resync what) reply
live_told None done resync what reply n m l = grind (arith, nat_tests)
live_told (Some verdict.Commit) done resync what reply n m l = grind (arith, nat_tests)
live_told (Some (verdict.Abort why)) done resync what reply n m l = grind (arith, nat_tests)

resync_told : (commit : Bool) (stage : ResyncStage) (reply : Reply) (n : ℕ) → stands_at Resync stage ≤ n
    → stands_at Resync stage ≤ stands_by n (resync_ask commit stage) reply
resync_told commit stage reply n l = grind (arith, nat_tests)

-- ---- it is handled

live_learnt : (decided : Option Verdict) (done : ℕ) (resync : ResyncStage) (what : Ask) (reply : Reply) (n : ℕ)
    → stands_at (Live done) resync ≤ stands_by n what reply
    → stands_at (learnt decided (Live done) what reply) resync ≤ stands_by n what reply
live_learnt None done resync what reply n l = grind (arith, nat_tests)
live_learnt (Some verdict.Commit) done resync what reply n l = grind (arith, nat_tests)
live_learnt (Some (verdict.Abort why)) done resync what reply n l = grind (arith, nat_tests)

pub resync_learns : (commit : Bool) (stage : ResyncStage) (reply : Reply) (n : ℕ)
    → stands_at Resync stage ≤ stands_by n (resync_ask commit stage) reply
    → stands_at Resync (resync_learnt commit stage reply) ≤ stands_by n (resync_ask commit stage) reply
resync_learns commit stage reply n l = grind (arith, nat_tests)

zero_below : (n : ℕ) → 0 ≤ n
zero_below n = omega arith

-- a reply to what may be awaited leaves candidate as the stage tells
pub stands_told : (decided : Option Verdict) (stage : Stage) (resync : ResyncState) (what : Ask) (reply : Reply) (n : ℕ)
    → may_await decided stage what ≡ true → stands_at stage resync.stage ≤ n
    → stands_at stage resync.stage ≤ stands_by n (asked_in_fact resync what) reply
stands_told decided (Live done) resync what reply n m l = live_told decided done resync what reply n m l
stands_told decided Refused resync what reply n m l = zero_below (stands_by n (asked_in_fact resync what) reply)
stands_told decided Failed resync what reply n m l = zero_below (stands_by n (asked_in_fact resync what) reply)
stands_told decided NeedMark resync what reply n m l = zero_below (stands_by n (asked_in_fact resync what) reply)
stands_told decided Resync resync what reply n m l =
    let alone : what ≡ ask.Resync = by_ask decided what m in
    subst (λ a. stands_at Resync resync.stage ≤ stands_by n (asked_in_fact resync a) reply) (sym alone)
    (resync_told resync.commit resync.stage reply n l)
  where
    by_ask : (decided : Option Verdict) (what : Ask) → may_await decided Resync what ≡ true → what ≡ ask.Resync
    by_ask decided what m = grind (arith, nat_tests)
stands_told decided (Leaving kept) resync what reply n m l = zero_below (stands_by n (asked_in_fact resync what) reply)
stands_told decided (Settled kept) resync what reply n m l = zero_below (stands_by n (asked_in_fact resync what) reply)

-- no other stage says anything of candidate
failed_none : (decided : Option Verdict) (what : Ask) (reply : Reply) (resync : ResyncStage)
    → stands_at (learnt decided Failed what reply) resync ≡ 0
failed_none decided what reply resync = grind (arith, nat_tests)

mark_none : (decided : Option Verdict) (what : Ask) (reply : Reply) (resync : ResyncStage)
    → stands_at (learnt decided NeedMark what reply) resync ≡ 0
mark_none decided what reply resync = grind (arith, nat_tests)

leaving_none : (decided : Option Verdict) (kept : Bool) (what : Ask) (reply : Reply) (resync : ResyncStage)
    → stands_at (learnt decided (Leaving kept) what reply) resync ≡ 0
leaving_none decided kept what reply resync = grind (arith, nat_tests)

least : (a b : ℕ) → a ≡ 0 → a ≤ b
least a b e = omega (arith, e)

-- what is learnt of a reply it has told
pub stands_learnt : (decided : Option Verdict) (stage : Stage) (resync : ResyncStage) (what : Ask) (reply : Reply) (n : ℕ)
    → stands_at stage resync ≤ stands_by n what reply
    → stands_at (learnt decided stage what reply) resync ≤ stands_by n what reply
stands_learnt decided (Live done) resync what reply n l = live_learnt decided done resync what reply n l
stands_learnt decided Refused resync what reply n l = zero_below (stands_by n what reply)
stands_learnt decided Failed resync what reply n l =
    least (stands_at (learnt decided Failed what reply) resync) (stands_by n what reply) (failed_none decided what reply resync)
stands_learnt decided NeedMark resync what reply n l =
    least (stands_at (learnt decided NeedMark what reply) resync) (stands_by n what reply) (mark_none decided what reply resync)
stands_learnt decided Resync resync what reply n l = l
stands_learnt decided (Leaving kept) resync what reply n l =
    least (stands_at (learnt decided (Leaving kept) what reply) resync) (stands_by n what reply) (leaving_none decided kept what reply resync)
stands_learnt decided (Settled kept) resync what reply n l = zero_below (stands_by n what reply)

pub stands_found : (known : Option Bool) (resync : ResyncStage) → stands_at (found_stage known) resync ≤ stands_at Resync resync
stands_found None resync = omega arith
stands_found (Some kept) resync = zero_below (stands_at Resync resync)

pub stands_decided : (awaits : Bool) (stage : Stage) (resync : ResyncStage)
    → stands_at (aborted_stage awaits stage) Opening ≤ stands_at stage resync
stands_decided awaits stage resync = grind (arith, nat_tests)

pub stands_anew : (stage : Stage) (resync : ResyncStage) → stands_at stage Opening ≤ stands_at stage resync
stands_anew (Live done) resync = omega arith
stands_anew Refused resync = omega arith
stands_anew Failed resync = omega arith
stands_anew NeedMark resync = omega arith
stands_anew Resync resync = zero_below (stands_at Resync resync)
stands_anew (Leaving kept) resync = omega arith
stands_anew (Settled kept) resync = omega arith

-- ---- a request goes out

live_opens : (decided : Option Verdict) (done : ℕ) (resync : ResyncState) (what : Ask) → next_ask decided (Live done) ≡ Some what
    → opens (asked_in_fact resync what) ≡ true → stands_at (Live done) resync.stage ≡ 0
live_opens None done resync what n o = grind (arith, nat_tests)
live_opens (Some verdict.Commit) done resync what n o = grind (arith, nat_tests)
live_opens (Some (verdict.Abort why)) done resync what n o = grind (arith, nat_tests)

resync_opens : (commit : Bool) (stage : ResyncStage) → opens (resync_ask commit stage) ≡ true → stands_at Resync stage ≡ 0
resync_opens commit stage o = grind (arith, nat_tests)

once_resync : (decided : Option Verdict) (what : Ask) → next_ask decided Resync ≡ Some what → what ≡ ask.Resync
once_resync decided what n = grind (arith, nat_tests)

-- nothing is said where a session is asked for
pub stands_opens : (decided : Option Verdict) (stage : Stage) (resync : ResyncState) (what : Ask) → next_ask decided stage ≡ Some what
    → opens (asked_in_fact resync what) ≡ true → stands_at stage resync.stage ≡ 0
stands_opens decided (Live done) resync what n o = live_opens decided done resync what n o
stands_opens decided Refused resync what n o = refl
stands_opens decided Failed resync what n o = refl
stands_opens decided NeedMark resync what n o = refl
stands_opens decided Resync resync what n o =
    resync_opens resync.commit resync.stage (sym (ap (λ a. opens (asked_in_fact resync a)) (once_resync decided what n)) ∙ o)
stands_opens decided (Leaving kept) resync what n o = refl
stands_opens decided (Settled kept) resync what n o = refl

live_asks : (decided : Option Verdict) (done : ℕ) (resync : ResyncState) (what : Ask) → next_ask decided (Live done) ≡ Some what
    → (to_commit decided ≡ true → is_acknowledged (Live done) ≡ true) → is_other (asked_in_fact resync what) ≡ true
    → 2 ≤ stands_at (Live done) resync.stage
live_asks None done resync what n a o = grind (arith, nat_tests)
live_asks (Some verdict.Commit) done resync what n a o =
    let all : is_acknowledged (Live done) ≡ true = a refl in grind (arith, nat_tests, all)
live_asks (Some (verdict.Abort why)) done resync what n a o = grind (arith, nat_tests)

resync_asks : (commit : Bool) (stage : ResyncStage) → is_other (resync_ask commit stage) ≡ true → 2 ≤ stands_at Resync stage
resync_asks commit stage o = grind (arith, nat_tests)

failed_asks : (decided : Option Verdict) (resync : ResyncState) (what : Ask) → next_ask decided Failed ≡ Some what
    → is_other (asked_in_fact resync what) ≡ true → ⊥
failed_asks decided resync what n o = grind (arith, nat_tests)

mark_asks : (decided : Option Verdict) (resync : ResyncState) (what : Ask) → next_ask decided NeedMark ≡ Some what
    → is_other (asked_in_fact resync what) ≡ true → ⊥
mark_asks decided resync what n o = grind (arith, nat_tests)

leaving_asks : (decided : Option Verdict) (kept : Bool) (resync : ResyncState) (what : Ask) → next_ask decided (Leaving kept) ≡ Some what
    → is_other (asked_in_fact resync what) ≡ true → ⊥
leaving_asks decided kept resync what n o = grind (arith, nat_tests)

-- a commit that brings no change set is asked for where candidate is unmodified
pub stands_asks : (decided : Option Verdict) (stage : Stage) (resync : ResyncState) (what : Ask) → next_ask decided stage ≡ Some what
    → (to_commit decided ≡ true → is_live stage ≡ true → is_acknowledged stage ≡ true) → is_other (asked_in_fact resync what) ≡ true
    → 2 ≤ stands_at stage resync.stage
stands_asks decided (Live done) resync what n a o = live_asks decided done resync what n (λ c. a c refl) o
stands_asks decided Refused resync what n a o = absurd (let g : None ≡ Some what = n in cc)
stands_asks decided Failed resync what n a o = absurd (failed_asks decided resync what n o)
stands_asks decided NeedMark resync what n a o = absurd (mark_asks decided resync what n o)
stands_asks decided Resync resync what n a o =
    resync_asks resync.commit resync.stage (sym (ap (λ one. is_other (asked_in_fact resync one)) (once_resync decided what n)) ∙ o)
stands_asks decided (Leaving kept) resync what n a o = absurd (leaving_asks decided kept resync what n o)
stands_asks decided (Settled kept) resync what n a o = absurd (let g : None ≡ Some what = n in cc)

pub stands_acked : (stage : Stage) (resync : ResyncStage) → is_acknowledged stage ≡ true → 2 ≤ stands_at stage resync
stands_acked stage resync a = grind (arith, nat_tests)

-- ---- who is acknowledged

live_acked : (decided : Option Verdict) (done : ℕ) (what : Ask) (reply : Reply) → to_commit decided ≡ true
    → is_acknowledged (Live done) ≡ true → is_live (learnt decided (Live done) what reply) ≡ true
    → is_acknowledged (learnt decided (Live done) what reply) ≡ true
live_acked None done what reply c a l = absurd (let g : false ≡ true = c in cc)
live_acked (Some verdict.Commit) done what reply c a l = grind (arith, nat_tests)
live_acked (Some (verdict.Abort why)) done what reply c a l = absurd (let g : false ≡ true = c in cc)

failed_gone : (decided : Option Verdict) (what : Ask) (reply : Reply) → is_live (learnt decided Failed what reply) ≡ false
failed_gone decided what reply = grind (arith, nat_tests)

mark_gone : (decided : Option Verdict) (what : Ask) (reply : Reply) → is_live (learnt decided NeedMark what reply) ≡ false
mark_gone decided what reply = grind (arith, nat_tests)

leaving_gone : (decided : Option Verdict) (kept : Bool) (what : Ask) (reply : Reply)
    → is_live (learnt decided (Leaving kept) what reply) ≡ false
leaving_gone decided kept what reply = grind (arith, nat_tests)

gone : {T : Type 0} (stage : Stage) → is_live stage ≡ false → is_live stage ≡ true → T
gone stage e l = absurd (let g : false ≡ true = sym e ∙ l in cc)

pub acked_learnt : (decided : Option Verdict) (stage : Stage) (what : Ask) (reply : Reply) → to_commit decided ≡ true
    → (is_live stage ≡ true → is_acknowledged stage ≡ true) → is_live (learnt decided stage what reply) ≡ true
    → is_acknowledged (learnt decided stage what reply) ≡ true
acked_learnt decided (Live done) what reply c a l = live_acked decided done what reply c (a refl) l
acked_learnt decided Refused what reply c a l = absurd (let g : false ≡ true = l in cc)
acked_learnt decided Failed what reply c a l = gone (learnt decided Failed what reply) (failed_gone decided what reply) l
acked_learnt decided NeedMark what reply c a l = gone (learnt decided NeedMark what reply) (mark_gone decided what reply) l
acked_learnt decided Resync what reply c a l = absurd (let g : false ≡ true = l in cc)
acked_learnt decided (Leaving kept) what reply c a l =
    gone (learnt decided (Leaving kept) what reply) (leaving_gone decided kept what reply) l
acked_learnt decided (Settled kept) what reply c a l = absurd (let g : false ≡ true = l in cc)

pub found_gone : (known : Option Bool) → is_live (found_stage known) ≡ false
found_gone None = refl
found_gone (Some kept) = refl

pub broken_gone : (stage : Stage) → is_live (broken_stage stage) ≡ false
broken_gone stage = grind (arith, nat_tests)
