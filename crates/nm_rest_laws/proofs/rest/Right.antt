-- From each stage that a change set can go on from, each event leads to another such.
use Rattle.std.proofs.Common.{◌≡◌, ℕ, ◌+◌, Bool, true, false, cond, Option, Some, None, is_some, refl, arith}
use Rattle.std.proofs.lemmas.Bool.Decides.{nat_tests}
use Rattle.nm_proto.specs.declared.ask.Ask.{Ask}
use Rattle.nm_proto.specs.declared.ask.Ask.TheVariants as ask
use Rattle.nm_proto.specs.declared.message.Reply.{Reply}
use Rattle.nm_proto.specs.declared.journal.AbortCause.{AbortCause}
use Rattle.nm_proto.specs.declared.journal.Verdict.{Verdict}
use Rattle.nm_proto.specs.declared.journal.Verdict.TheVariants as verdict
use Rattle.nm_decider_stage.specs.declared.stage.Stage.{Stage}
use Rattle.nm_decider_stage.specs.declared.stage.Stage.TheVariants.{Live, Refused, Failed, NeedMark, Resync, Leaving, Settled}
use Rattle.nm_decider_stage.specs.Stages.{next_ask, first_ask, fits, is_first, learnt, learnt_other, refused, trouble_in, is_acknowledged, aborted_stage, broken_stage}
use Rattle.nm_decider.specs.Course.{noted}
use Rattle.nm_safety.specs.Step.{may_stand, may_await}
use Rattle.nm_rest_laws.specs.Steady.{is_right, right_calm, right_commit, right_abort, is_live}

pub sent_right : (v : Option Verdict) (t : Option AbortCause) (stage : Stage) (what : Ask) → next_ask v stage ≡ Some what → is_right v t stage None ≡ true → is_right v t stage (Some what) ≡ true
sent_right None t stage what n h = h
sent_right (Some verdict.Commit) t stage what n h = grind (arith, nat_tests)
sent_right (Some (verdict.Abort why)) t stage what n h = grind (arith, nat_tests)

pub noted_right : (v : Option Verdict) (t more : Option AbortCause) (stage : Stage) (a : Option Ask) → is_right v t stage a ≡ true → is_right v (noted v t more) stage a ≡ true
noted_right None None None stage a h = h
noted_right None None (Some why) stage a h = refl
noted_right None (Some why) more stage a h = refl
noted_right (Some verdict.Commit) t more stage a h = h
noted_right (Some (verdict.Abort why)) t more stage a h = h

calm_first : (device done : ℕ) (what : Ask) (reply : Reply) (b : Bool) → is_first (first_ask done) what ≡ true → fits what reply ≡ b
    → right_calm (noted None None (trouble_in device what reply)) (cond b (Live (done + 1)) (refused None what)) ≡ true
calm_first device done ask.OpenSession reply b h f = grind (arith, nat_tests)
calm_first device done ask.LockRunning reply b h f = grind (arith, nat_tests)
calm_first device done ask.LockCandidate reply b h f = grind (arith, nat_tests)
calm_first device done ask.Edit reply b h f = grind (arith, nat_tests)
calm_first device done ask.Validate reply b h f = grind (arith, nat_tests)
calm_first device done ask.CommitConfirmed reply b h f = grind (arith, nat_tests)
calm_first device done ask.Renew reply b h f = grind (arith, nat_tests)
calm_first device done ask.Confirm reply b h f = grind (arith, nat_tests)
calm_first device done ask.Cancel reply b h f = grind (arith, nat_tests)
calm_first device done ask.HasMark reply b h f = grind (arith, nat_tests)
calm_first device done ask.Discard reply b h f = grind (arith, nat_tests)
calm_first device done ask.CloseSession reply b h f = grind (arith, nat_tests)
calm_first device done ask.Resync reply b h f = grind (arith, nat_tests)

calm_other : (t : Option AbortCause) (done : ℕ) (what : Ask) (reply : Reply) → is_live (Live done) ≡ true → right_calm t (learnt_other None done what reply) ≡ true
calm_other None done what reply l = l
calm_other (Some why) done what reply l = refl

calm_live : (device done : ℕ) (what : Ask) (reply : Reply) (a : Bool) → is_live (Live done) ≡ true → is_first (first_ask done) what ≡ a
    → right_calm (noted None None (trouble_in device what reply)) (cond a (cond (fits what reply) (Live (done + 1)) (refused None what)) (learnt_other None done what reply)) ≡ true
calm_live device done what reply true l h = calm_first device done what reply (fits what reply) h refl
calm_live device done what reply false l h = calm_other (noted None None (trouble_in device what reply)) done what reply l

calm_learnt : (device : ℕ) (stage : Stage) (what : Ask) (reply : Reply) → is_live stage ≡ true → right_calm (noted None None (trouble_in device what reply)) (learnt None stage what reply) ≡ true
calm_learnt device (Live done) what reply h = calm_live device done what reply (is_first (first_ask done) what) h refl
calm_learnt device Refused what reply h = absurd (let e : false ≡ true = h in cc)
calm_learnt device Failed what reply h = absurd (let e : false ≡ true = h in cc)
calm_learnt device NeedMark what reply h = absurd (let e : false ≡ true = h in cc)
calm_learnt device Resync what reply h = absurd (let e : false ≡ true = h in cc)
calm_learnt device (Leaving kept) what reply h = absurd (let e : false ≡ true = h in cc)
calm_learnt device (Settled kept) what reply h = absurd (let e : false ≡ true = h in cc)

commit_learnt : (stage : Stage) (what : Ask) (reply : Reply) → right_commit stage (Some what) ≡ true → right_commit (learnt (Some verdict.Commit) stage what reply) None ≡ true
commit_learnt (Live done) ask.Confirm reply h = grind (arith, nat_tests)
commit_learnt (Live done) ask.OpenSession reply h = grind (arith, nat_tests)
commit_learnt (Live done) ask.LockRunning reply h = grind (arith, nat_tests)
commit_learnt (Live done) ask.LockCandidate reply h = grind (arith, nat_tests)
commit_learnt (Live done) ask.Edit reply h = grind (arith, nat_tests)
commit_learnt (Live done) ask.Validate reply h = grind (arith, nat_tests)
commit_learnt (Live done) ask.CommitConfirmed reply h = grind (arith, nat_tests)
commit_learnt (Live done) ask.Renew reply h = grind (arith, nat_tests)
commit_learnt (Live done) ask.Cancel reply h = grind (arith, nat_tests)
commit_learnt (Live done) ask.HasMark reply h = grind (arith, nat_tests)
commit_learnt (Live done) ask.Discard reply h = grind (arith, nat_tests)
commit_learnt (Live done) ask.CloseSession reply h = grind (arith, nat_tests)
commit_learnt (Live done) ask.Resync reply h = grind (arith, nat_tests)
commit_learnt Refused what reply h = absurd (let e : false ≡ true = h in cc)
commit_learnt Failed what reply h = absurd (let e : false ≡ true = h in cc)
commit_learnt NeedMark what reply h = grind (arith, nat_tests)
commit_learnt Resync what reply h = refl
commit_learnt (Leaving kept) what reply h = grind (arith, nat_tests)
commit_learnt (Settled kept) what reply h = refl

abort_live : (why : AbortCause) (done : ℕ) (what : Ask) (reply : Reply) (a b : Bool) → is_first (first_ask done) what ≡ a → may_await (Some (verdict.Abort why)) (Live done) what ≡ true
    → right_abort (cond a (cond b (Live (done + 1)) (refused (Some (verdict.Abort why)) what)) (learnt_other (Some (verdict.Abort why)) done what reply)) None ≡ true
abort_live why done what reply true true h m = grind (arith, nat_tests)
abort_live why done what reply true false h m = grind (arith, nat_tests)
abort_live why done ask.OpenSession reply false b h m = grind (arith, nat_tests)
abort_live why done ask.LockRunning reply false b h m = grind (arith, nat_tests)
abort_live why done ask.LockCandidate reply false b h m = grind (arith, nat_tests)
abort_live why done ask.Edit reply false b h m = grind (arith, nat_tests)
abort_live why done ask.Validate reply false b h m = grind (arith, nat_tests)
abort_live why done ask.CommitConfirmed reply false b h m = grind (arith, nat_tests)
abort_live why done ask.Renew reply false b h m = grind (arith, nat_tests)
abort_live why done ask.Confirm reply false b h m = grind (arith, nat_tests)
abort_live why done ask.Cancel reply false b h m = grind (arith, nat_tests)
abort_live why done ask.HasMark reply false b h m = grind (arith, nat_tests)
abort_live why done ask.Discard reply false b h m = grind (arith, nat_tests)
abort_live why done ask.CloseSession reply false b h m = grind (arith, nat_tests)
abort_live why done ask.Resync reply false b h m = grind (arith, nat_tests)

abort_learnt : (why : AbortCause) (stage : Stage) (what : Ask) (reply : Reply) → right_abort stage (Some what) ≡ true → may_await (Some (verdict.Abort why)) stage what ≡ true
    → right_abort (learnt (Some (verdict.Abort why)) stage what reply) None ≡ true
abort_learnt why (Live done) what reply h m = abort_live why done what reply (is_first (first_ask done) what) (fits what reply) refl m
abort_learnt why Refused what reply h m = absurd (let e : false ≡ true = h in cc)
abort_learnt why Failed what reply h m = grind (arith, nat_tests)
abort_learnt why NeedMark what reply h m = absurd (let e : false ≡ true = h in cc)
abort_learnt why Resync what reply h m = refl
abort_learnt why (Leaving kept) what reply h m = grind (arith, nat_tests)
abort_learnt why (Settled kept) what reply h m = refl

pub learnt_right : (device : ℕ) (v : Option Verdict) (t : Option AbortCause) (stage : Stage) (what : Ask) (reply : Reply) → is_right v t stage (Some what) ≡ true → may_await v stage what ≡ true
    → is_right v (noted v t (trouble_in device what reply)) (learnt v stage what reply) None ≡ true
learnt_right device None None stage what reply h m = calm_learnt device stage what reply h
learnt_right device None (Some why) stage what reply h m = refl
learnt_right device (Some verdict.Commit) t stage what reply h m = commit_learnt stage what reply h
learnt_right device (Some (verdict.Abort why)) t stage what reply h m = abort_learnt why stage what reply h m

pub broken_right : (v : Option Verdict) (t : Option AbortCause) (why : AbortCause) (stage : Stage) → is_right v (noted v t (Some why)) (broken_stage stage) None ≡ true
broken_right None None why stage = refl
broken_right None (Some first) why stage = refl
broken_right (Some verdict.Commit) t why stage = grind (arith, nat_tests)
broken_right (Some (verdict.Abort cause)) t why stage = grind (arith, nat_tests)

pub commit_right : (t : Option AbortCause) (stage : Stage) → is_acknowledged stage ≡ true → is_right (Some verdict.Commit) t stage None ≡ true
commit_right t stage h = grind (arith, nat_tests)

pub abort_right : (t : Option AbortCause) (why : AbortCause) (stage : Stage) (a : Option Ask) → may_stand None stage ≡ true → is_right (Some (verdict.Abort why)) t (aborted_stage (is_some a) stage) a ≡ true
abort_right t why (Live done) None h = grind (arith, nat_tests)
abort_right t why (Live done) (Some what) h = grind (arith, nat_tests)
abort_right t why Refused a h = refl
abort_right t why Failed a h = refl
abort_right t why NeedMark a h = absurd (let e : false ≡ true = h in cc)
abort_right t why Resync a h = refl
abort_right t why (Leaving kept) a h = refl
abort_right t why (Settled kept) a h = refl

pub settled_right : (v : Option Verdict) (t : Option AbortCause) (kept : Bool) → is_right v t Resync None ≡ true → is_right v t (Settled kept) None ≡ true
settled_right None None kept h = absurd (let e : false ≡ true = h in cc)
settled_right None (Some why) kept h = refl
settled_right (Some verdict.Commit) t kept h = refl
settled_right (Some (verdict.Abort why)) t kept h = refl
