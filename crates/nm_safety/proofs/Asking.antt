-- What is asked before the verdict and after it.
use Rattle.std.proofs.Common.{◌≡◌, ◌≤◌, ◌∙◌, ℕ, ◌+◌, ◌==◌, Bool, true, false, not, ◌&&◌, ◌||◌, cond, Option, Some, None, refl, sym, ap, arith}
use Rattle.std.proofs.lemmas.Bool.Decides.{nat_tests}
use Rattle.nm_proto.specs.declared.ask.Ask.{Ask}
use Rattle.nm_proto.specs.declared.ask.Ask.TheVariants as ask
use Rattle.nm_proto.specs.declared.message.Reply.{Reply}
use Rattle.nm_proto.specs.declared.journal.Verdict.{Verdict}
use Rattle.nm_proto.specs.declared.journal.Verdict.TheVariants as verdict
use Rattle.nm_decider_stage.specs.declared.stage.Stage.{Stage}
use Rattle.nm_decider_stage.specs.declared.stage.Stage.TheVariants.{Live, Refused, Failed, NeedMark, Resync, Leaving, Settled}
use Rattle.nm_decider_stage.specs.Stages.{next_ask, verdict_ask, learnt, fits, is_acknowledged}
use Rattle.nm_resync.specs.declared.resync.ResyncStage.{ResyncStage}
use Rattle.nm_resync.specs.Resync.{ResyncState, resync_ask}
use Rattle.nm_wire.specs.Asks.{same_ask}
use Rattle.nm_wire.specs.Words.{commit_count}
use Rattle.nm_manager.specs.Slot.{asked_in_fact, opens, to_commit}
use Rattle.nm_safety.specs.Step.{may_await, fits_stage, resyncs_rightly, has_link}
use Rattle.nm_safety.specs.Pair.{may_be_sent, is_locked, is_live, to_abort}

-- ---- before the verdict

-- what may be sent grows with what is sent
pub unsent_after : (stage : Stage) (what : Ask) (n : ℕ) → may_await None stage what ≡ true → n ≤ may_be_sent stage None → n + commit_count what ≤ may_be_sent stage (Some what)
unsent_after (Live done) what n m u = grind (arith, nat_tests)
unsent_after Refused what n m u = absurd (let e : false ≡ true = m in cc)
unsent_after Failed what n m u = absurd (let e : false ≡ true = m in cc)
unsent_after NeedMark what n m u = absurd (let e : false ≡ true = m in cc)
unsent_after Resync what n m u = absurd (let e : false ≡ true = m in cc)
unsent_after (Leaving kept) what n m u = absurd (let e : false ≡ true = m in cc)
unsent_after (Settled kept) what n m u = absurd (let e : false ≡ true = m in cc)

-- the confirmed commit is asked where none was sent and running is locked
pub commit_unsent : (stage : Stage) (n : ℕ) → may_await None stage ask.CommitConfirmed ≡ true → n ≤ may_be_sent stage None → n ≡ 0
commit_unsent (Live done) n m u = grind (arith, nat_tests)
commit_unsent Refused n m u = absurd (let e : false ≡ true = m in cc)
commit_unsent Failed n m u = absurd (let e : false ≡ true = m in cc)
commit_unsent NeedMark n m u = absurd (let e : false ≡ true = m in cc)
commit_unsent Resync n m u = absurd (let e : false ≡ true = m in cc)
commit_unsent (Leaving kept) n m u = absurd (let e : false ≡ true = m in cc)
commit_unsent (Settled kept) n m u = absurd (let e : false ≡ true = m in cc)

pub commit_locked : (stage : Stage) → may_await None stage ask.CommitConfirmed ≡ true → is_locked stage ≡ true
commit_locked (Live done) m = grind (arith, nat_tests)
commit_locked Refused m = absurd (let e : false ≡ true = m in cc)
commit_locked Failed m = absurd (let e : false ≡ true = m in cc)
commit_locked NeedMark m = absurd (let e : false ≡ true = m in cc)
commit_locked Resync m = absurd (let e : false ≡ true = m in cc)
commit_locked (Leaving kept) m = absurd (let e : false ≡ true = m in cc)
commit_locked (Settled kept) m = absurd (let e : false ≡ true = m in cc)

-- so is the lock
pub lock_unsent : (stage : Stage) (n : ℕ) → may_await None stage ask.LockRunning ≡ true → n ≤ may_be_sent stage None → n ≡ 0
lock_unsent (Live done) n m u = grind (arith, nat_tests)
lock_unsent Refused n m u = absurd (let e : false ≡ true = m in cc)
lock_unsent Failed n m u = absurd (let e : false ≡ true = m in cc)
lock_unsent NeedMark n m u = absurd (let e : false ≡ true = m in cc)
lock_unsent Resync n m u = absurd (let e : false ≡ true = m in cc)
lock_unsent (Leaving kept) n m u = absurd (let e : false ≡ true = m in cc)
lock_unsent (Settled kept) n m u = absurd (let e : false ≡ true = m in cc)

-- before the verdict what is asked is asked of the first course, and a session at its beginning
pub undecided_plain : (stage : Stage) (resync : ResyncState) (what : Ask) → may_await None stage what ≡ true → asked_in_fact resync what ≡ what
undecided_plain (Live done) resync what m = grind (arith, nat_tests)
undecided_plain Refused resync what m = absurd (let e : false ≡ true = m in cc)
undecided_plain Failed resync what m = absurd (let e : false ≡ true = m in cc)
undecided_plain NeedMark resync what m = absurd (let e : false ≡ true = m in cc)
undecided_plain Resync resync what m = absurd (let e : false ≡ true = m in cc)
undecided_plain (Leaving kept) resync what m = absurd (let e : false ≡ true = m in cc)
undecided_plain (Settled kept) resync what m = absurd (let e : false ≡ true = m in cc)

pub opens_at_first : (stage : Stage) (what : Ask) (resync : ResyncStage) → may_await None stage what ≡ true → opens what ≡ true → (is_live stage ≡ true) × (has_link stage resync ≡ false)
opens_at_first (Live done) what resync m o = (refl, at_first done what m o)
  where
    at_first : (done : ℕ) (what : Ask) → may_await None (Live done) what ≡ true → opens what ≡ true → not (done == 0) ≡ false
    at_first done what m o = grind (arith, nat_tests)
opens_at_first Refused what resync m o = absurd (let e : false ≡ true = m in cc)
opens_at_first Failed what resync m o = absurd (let e : false ≡ true = m in cc)
opens_at_first NeedMark what resync m o = absurd (let e : false ≡ true = m in cc)
opens_at_first Resync what resync m o = absurd (let e : false ≡ true = m in cc)
opens_at_first (Leaving kept) what resync m o = absurd (let e : false ≡ true = m in cc)
opens_at_first (Settled kept) what resync m o = absurd (let e : false ≡ true = m in cc)

pub never_confirms : (stage : Stage) (what : Ask) → may_await None stage what ≡ true → (same_ask what ask.Confirm || same_ask what ask.Cancel) ≡ false
never_confirms (Live done) what m = grind (arith, nat_tests)
never_confirms Refused what m = absurd (let e : false ≡ true = m in cc)
never_confirms Failed what m = absurd (let e : false ≡ true = m in cc)
never_confirms NeedMark what m = absurd (let e : false ≡ true = m in cc)
never_confirms Resync what m = absurd (let e : false ≡ true = m in cc)
never_confirms (Leaving kept) what m = absurd (let e : false ≡ true = m in cc)
never_confirms (Settled kept) what m = absurd (let e : false ≡ true = m in cc)

-- ---- after it

-- neither a lock of running nor the confirmed commit, a confirm under a commit alone, and a cancel under an abort alone
abbrev pub asks_rightly : Option Verdict → Ask → Bool
asks_rightly decided ask.LockRunning = false
asks_rightly decided ask.CommitConfirmed = false
asks_rightly decided ask.Confirm = to_commit decided
asks_rightly decided ask.Cancel = to_abort decided
asks_rightly decided _ = true

live_rightly : (b : Bool) (v : Verdict) (resync : ResyncState) (what : Ask) → cond b None (Some (verdict_ask v)) ≡ Some what → asks_rightly (Some v) (asked_in_fact resync what) ≡ true
live_rightly true v resync what n = absurd (let e : None ≡ Some what = n in cc)
live_rightly false v resync what n = verdict_rightly v what (let e : Some (verdict_ask v) ≡ Some what = n in cc)
  where
    verdict_rightly : (v : Verdict) (what : Ask) → verdict_ask v ≡ what → asks_rightly (Some v) (asked_in_fact resync what) ≡ true
    verdict_rightly v what n = grind (arith, nat_tests)

resync_rightly : (v : Verdict) (commit : Bool) (stage : ResyncStage) → resyncs_rightly (Some v) (record { commit = commit; stage = stage }) ≡ true → asks_rightly (Some v) (resync_ask commit stage) ≡ true
resync_rightly verdict.Commit commit stage r = grind (arith, nat_tests)
resync_rightly (verdict.Abort why) commit stage r = grind (arith, nat_tests)

pub decided_rightly : (v : Verdict) (stage : Stage) (resync : ResyncState) (what : Ask) → fits_stage (Some v) stage resync ≡ true → next_ask (Some v) stage ≡ Some what
    → asks_rightly (Some v) (asked_in_fact resync what) ≡ true
decided_rightly v (Live done) resync what f n = live_rightly (done == 0) v resync what n
decided_rightly v Refused resync what f n = absurd (let e : None ≡ Some what = n in cc)
decided_rightly v Failed resync what f n = grind (arith, nat_tests)
decided_rightly v NeedMark resync what f n = grind (arith, nat_tests)
decided_rightly v Resync resync what f n =
    let e : ask.Resync ≡ what = cc in
    ap (λ asked. asks_rightly (Some v) (asked_in_fact resync asked)) (sym e) ∙ resync_rightly v resync.commit resync.stage f
decided_rightly v (Leaving kept) resync what f n = grind (arith, nat_tests)
decided_rightly v (Settled kept) resync what f n = absurd (let e : None ≡ Some what = n in cc)

pub rightly_first : (v : Option Verdict) (what : Ask) → asks_rightly v what ≡ true → (commit_count what ≡ 0) × (same_ask what ask.LockRunning ≡ false)
rightly_first v what a = (none v what a, lock v what a)
  where
    none : (v : Option Verdict) (what : Ask) → asks_rightly v what ≡ true → commit_count what ≡ 0
    none v what a = grind (arith, nat_tests)

    lock : (v : Option Verdict) (what : Ask) → asks_rightly v what ≡ true → same_ask what ask.LockRunning ≡ false
    lock v what a = grind (arith, nat_tests)

pub rightly_confirms : (v : Option Verdict) (what : Ask) → asks_rightly v what ≡ true → same_ask what ask.Confirm ≡ true → to_commit v ≡ true
rightly_confirms v what a s = grind (arith, nat_tests)

pub rightly_cancels : (v : Option Verdict) (what : Ask) → asks_rightly v what ≡ true → same_ask what ask.Cancel ≡ true → to_abort v ≡ true
rightly_cancels v what a s = grind (arith, nat_tests)

-- ---- a reply before the verdict

pub unsent_learnt : (stage : Stage) (what : Ask) (reply : Reply) (n : ℕ) → may_await None stage what ≡ true → n ≤ 1 → n ≤ may_be_sent stage (Some what) → n ≤ may_be_sent (learnt None stage what reply) None
unsent_learnt (Live done) what reply n m o u = grind (arith, nat_tests)
unsent_learnt Refused what reply n m o u = absurd (let e : false ≡ true = m in cc)
unsent_learnt Failed what reply n m o u = absurd (let e : false ≡ true = m in cc)
unsent_learnt NeedMark what reply n m o u = absurd (let e : false ≡ true = m in cc)
unsent_learnt Resync what reply n m o u = absurd (let e : false ≡ true = m in cc)
unsent_learnt (Leaving kept) what reply n m o u = absurd (let e : false ≡ true = m in cc)
unsent_learnt (Settled kept) what reply n m o u = absurd (let e : false ≡ true = m in cc)

-- who has acknowledged had, or has now told that the commit is done
pub acked_learnt : (stage : Stage) (what : Ask) (reply : Reply) → may_await None stage what ≡ true → is_acknowledged (learnt None stage what reply) ≡ true
    → (is_acknowledged stage || (same_ask what ask.CommitConfirmed && fits what reply)) ≡ true
acked_learnt (Live done) what reply m a = grind (arith, nat_tests)
acked_learnt Refused what reply m a = absurd (let e : false ≡ true = m in cc)
acked_learnt Failed what reply m a = absurd (let e : false ≡ true = m in cc)
acked_learnt NeedMark what reply m a = absurd (let e : false ≡ true = m in cc)
acked_learnt Resync what reply m a = absurd (let e : false ≡ true = m in cc)
acked_learnt (Leaving kept) what reply m a = absurd (let e : false ≡ true = m in cc)
acked_learnt (Settled kept) what reply m a = absurd (let e : false ≡ true = m in cc)

-- and so with the lock of running
pub locked_learnt : (stage : Stage) (what : Ask) (reply : Reply) → may_await None stage what ≡ true → is_locked (learnt None stage what reply) ≡ true
    → (is_locked stage || (same_ask what ask.LockRunning && fits what reply)) ≡ true
locked_learnt (Live done) what reply m a = grind (arith, nat_tests)
locked_learnt Refused what reply m a = absurd (let e : false ≡ true = m in cc)
locked_learnt Failed what reply m a = absurd (let e : false ≡ true = m in cc)
locked_learnt NeedMark what reply m a = absurd (let e : false ≡ true = m in cc)
locked_learnt Resync what reply m a = absurd (let e : false ≡ true = m in cc)
locked_learnt (Leaving kept) what reply m a = absurd (let e : false ≡ true = m in cc)
locked_learnt (Settled kept) what reply m a = absurd (let e : false ≡ true = m in cc)

-- a live device has a link but at its beginning
pub live_learnt : (stage : Stage) (what : Ask) (reply : Reply) (resync : ResyncStage) → may_await None stage what ≡ true → is_live (learnt None stage what reply) ≡ true
    → has_link (learnt None stage what reply) resync ≡ true
live_learnt (Live done) what reply resync m l = grind (arith, nat_tests)
live_learnt Refused what reply resync m l = absurd (let e : false ≡ true = m in cc)
live_learnt Failed what reply resync m l = absurd (let e : false ≡ true = m in cc)
live_learnt NeedMark what reply resync m l = absurd (let e : false ≡ true = m in cc)
live_learnt Resync what reply resync m l = absurd (let e : false ≡ true = m in cc)
live_learnt (Leaving kept) what reply resync m l = absurd (let e : false ≡ true = m in cc)
live_learnt (Settled kept) what reply resync m l = absurd (let e : false ≡ true = m in cc)
