-- Each thing that happens between the manager and a device leaves less to be done.
use Rattle.std.proofs.Common.{◌≡◌, ◌∙◌, ◌≤◌, ℕ, ◌+◌, ◌-◌, ◌*◌, Bool, true, false, not, ◌&&◌, ◌||◌, cond, Option, Some, None, is_some, refl, sym, ap, subst, arith}
use Rattle.std.proofs.lemmas.Bool.Decides.{nat_tests}
use Rattle.nm_proto.specs.declared.ask.Ask.{Ask}
use Rattle.nm_proto.specs.declared.ask.Ask.TheVariants as ask
use Rattle.nm_proto.specs.declared.message.Reply.{Reply}
use Rattle.nm_proto.specs.declared.message.Reply.TheVariants as reply
use Rattle.nm_proto.specs.declared.journal.AbortCause.{AbortCause}
use Rattle.nm_proto.specs.declared.journal.Verdict.{Verdict}
use Rattle.nm_proto.specs.declared.journal.Verdict.TheVariants as verdict
use Rattle.nm_decider_stage.specs.declared.stage.Stage.{Stage}
use Rattle.nm_decider_stage.specs.declared.stage.Stage.TheVariants.{Live, Refused, Failed, NeedMark, Resync, Leaving, Settled}
use Rattle.nm_decider_stage.specs.Stages.{first_ask, fits, is_first, learnt, learnt_other, refused, broken_stage}
use Rattle.nm_resync.specs.declared.resync.ResyncStage.{ResyncStage}
use Rattle.nm_resync.specs.declared.resync.ResyncStage.TheVariants.{Opening, Discarding, Locking, Holding, Confirming, Checking, Closing, Done}
use Rattle.nm_resync.specs.Resync.{ResyncState, fresh_resync, resync_ask}
use Rattle.nm_manager.specs.Slot.{asked_in_fact, is_resync}
use Rattle.nm_safety.specs.Step.{may_await, fits_stage}
use Rattle.nm_rest_laws.specs.Steady.{is_right}
use Rattle.nm_rest_laws.proofs.rest.Measure.{left, asked_left, told_left, resync_left, cancel_left, resync_then, stage_then}

-- ---- what devices tell

abbrev pub is_opened : Reply → Bool
is_opened (reply.Opened session) = true
is_opened _ = false

abbrev pub is_done : Reply → Bool
is_done reply.Done = true
is_done _ = false

abbrev pub is_mark : Reply → Bool
is_mark (reply.Mark there) = true
is_mark _ = false

-- where candidate is neither held nor modified, a resynchronisation is refused nothing
abbrev pub tells_well : Bool → Bool → Bool → Bool → Ask → Reply → Bool
tells_well held modified held_then modified_then ask.OpenSession told = is_opened told && not held_then
tells_well held modified held_then modified_then ask.Discard told = held || (is_done told && (not modified_then && not held_then))
tells_well held modified held_then modified_then ask.LockCandidate told = (held || modified) || is_done told
tells_well held modified held_then modified_then ask.HasMark told = is_mark told
tells_well held modified held_then modified_then _ told = true

resync_told : (h b i c commit : Bool) (stage : ResyncStage) (told : Reply) (v : Verdict) → tells_well h b i c (resync_ask commit stage) told ≡ true → 1 ≤ resync_left h b commit stage
    → told_left i c (Some v) (record { commit = commit; stage = stage }) Resync ask.Resync told ≤ 2 * resync_left h b commit stage - 1
resync_told h b i c commit Opening told v t n = grind (arith, nat_tests)
resync_told h b i c commit Discarding told v t n = grind (arith, nat_tests)
resync_told h b i c commit Locking told v t n = grind (arith, nat_tests)
resync_told h b i c commit Holding told v t n = grind (arith, nat_tests)
resync_told h b i c commit Confirming told v t n = grind (arith, nat_tests)
resync_told h b i c commit Checking told v t n = grind (arith, nat_tests)
resync_told h b i c commit (Closing kept) told v t n = grind (arith, nat_tests)
resync_told h b i c commit (Done kept) told v t n = grind (arith, nat_tests)

-- ---- what is told leaves less

none_told : (i c : Bool) (now : ResyncState) (done : ℕ) (what : Ask) (told : Reply) (a f : Bool) → is_first (first_ask done) what ≡ a → may_await None (Live done) what ≡ true
    → 2 * left i c None now (cond a (cond f (Live (done + 1)) (refused None what)) (learnt_other None done what told)) ≤ asked_left i c None now (Live done) what
none_told i c now done ask.OpenSession told true true e m = grind (arith, nat_tests)
none_told i c now done ask.OpenSession told true false e m = grind (arith, nat_tests)
none_told i c now done ask.OpenSession told false f e m = grind (arith, nat_tests)
none_told i c now done ask.LockRunning told true true e m = grind (arith, nat_tests)
none_told i c now done ask.LockRunning told true false e m = grind (arith, nat_tests)
none_told i c now done ask.LockRunning told false f e m = grind (arith, nat_tests)
none_told i c now done ask.LockCandidate told true true e m = grind (arith, nat_tests)
none_told i c now done ask.LockCandidate told true false e m = grind (arith, nat_tests)
none_told i c now done ask.LockCandidate told false f e m = grind (arith, nat_tests)
none_told i c now done ask.Edit told true true e m = grind (arith, nat_tests)
none_told i c now done ask.Edit told true false e m = grind (arith, nat_tests)
none_told i c now done ask.Edit told false f e m = grind (arith, nat_tests)
none_told i c now done ask.Validate told true true e m = grind (arith, nat_tests)
none_told i c now done ask.Validate told true false e m = grind (arith, nat_tests)
none_told i c now done ask.Validate told false f e m = grind (arith, nat_tests)
none_told i c now done ask.CommitConfirmed told true true e m = grind (arith, nat_tests)
none_told i c now done ask.CommitConfirmed told true false e m = grind (arith, nat_tests)
none_told i c now done ask.CommitConfirmed told false f e m = grind (arith, nat_tests)
none_told i c now done ask.Renew told true true e m = grind (arith, nat_tests)
none_told i c now done ask.Renew told true false e m = grind (arith, nat_tests)
none_told i c now done ask.Renew told false f e m = grind (arith, nat_tests)
none_told i c now done ask.Confirm told true true e m = grind (arith, nat_tests)
none_told i c now done ask.Confirm told true false e m = grind (arith, nat_tests)
none_told i c now done ask.Confirm told false f e m = grind (arith, nat_tests)
none_told i c now done ask.Cancel told true true e m = grind (arith, nat_tests)
none_told i c now done ask.Cancel told true false e m = grind (arith, nat_tests)
none_told i c now done ask.Cancel told false f e m = grind (arith, nat_tests)
none_told i c now done ask.HasMark told true true e m = grind (arith, nat_tests)
none_told i c now done ask.HasMark told true false e m = grind (arith, nat_tests)
none_told i c now done ask.HasMark told false f e m = grind (arith, nat_tests)
none_told i c now done ask.Discard told true true e m = grind (arith, nat_tests)
none_told i c now done ask.Discard told true false e m = grind (arith, nat_tests)
none_told i c now done ask.Discard told false f e m = grind (arith, nat_tests)
none_told i c now done ask.CloseSession told true true e m = grind (arith, nat_tests)
none_told i c now done ask.CloseSession told true false e m = grind (arith, nat_tests)
none_told i c now done ask.CloseSession told false f e m = grind (arith, nat_tests)
none_told i c now done ask.Resync told true true e m = grind (arith, nat_tests)
none_told i c now done ask.Resync told true false e m = grind (arith, nat_tests)
none_told i c now done ask.Resync told false f e m = grind (arith, nat_tests)

abort_told : (i c : Bool) (why : AbortCause) (now : ResyncState) (done : ℕ) (what : Ask) (told : Reply) (a f : Bool) → is_first (first_ask done) what ≡ a → may_await (Some (verdict.Abort why)) (Live done) what ≡ true
    → 2 * left i c (Some (verdict.Abort why)) now (cond a (cond f (Live (done + 1)) (refused (Some (verdict.Abort why)) what)) (learnt_other (Some (verdict.Abort why)) done what told)) ≤ cancel_left what
abort_told i c why now done ask.OpenSession told true true e m = grind (arith, nat_tests)
abort_told i c why now done ask.OpenSession told true false e m = grind (arith, nat_tests)
abort_told i c why now done ask.OpenSession told false f e m = grind (arith, nat_tests)
abort_told i c why now done ask.LockRunning told true true e m = grind (arith, nat_tests)
abort_told i c why now done ask.LockRunning told true false e m = grind (arith, nat_tests)
abort_told i c why now done ask.LockRunning told false f e m = grind (arith, nat_tests)
abort_told i c why now done ask.LockCandidate told true true e m = grind (arith, nat_tests)
abort_told i c why now done ask.LockCandidate told true false e m = grind (arith, nat_tests)
abort_told i c why now done ask.LockCandidate told false f e m = grind (arith, nat_tests)
abort_told i c why now done ask.Edit told true true e m = grind (arith, nat_tests)
abort_told i c why now done ask.Edit told true false e m = grind (arith, nat_tests)
abort_told i c why now done ask.Edit told false f e m = grind (arith, nat_tests)
abort_told i c why now done ask.Validate told true true e m = grind (arith, nat_tests)
abort_told i c why now done ask.Validate told true false e m = grind (arith, nat_tests)
abort_told i c why now done ask.Validate told false f e m = grind (arith, nat_tests)
abort_told i c why now done ask.CommitConfirmed told true true e m = grind (arith, nat_tests)
abort_told i c why now done ask.CommitConfirmed told true false e m = grind (arith, nat_tests)
abort_told i c why now done ask.CommitConfirmed told false f e m = grind (arith, nat_tests)
abort_told i c why now done ask.Renew told true true e m = grind (arith, nat_tests)
abort_told i c why now done ask.Renew told true false e m = grind (arith, nat_tests)
abort_told i c why now done ask.Renew told false f e m = grind (arith, nat_tests)
abort_told i c why now done ask.Confirm told true true e m = grind (arith, nat_tests)
abort_told i c why now done ask.Confirm told true false e m = grind (arith, nat_tests)
abort_told i c why now done ask.Confirm told false f e m = grind (arith, nat_tests)
abort_told i c why now done ask.Cancel told true true e m = grind (arith, nat_tests)
abort_told i c why now done ask.Cancel told true false e m = grind (arith, nat_tests)
abort_told i c why now done ask.Cancel told false f e m = grind (arith, nat_tests)
abort_told i c why now done ask.HasMark told true true e m = grind (arith, nat_tests)
abort_told i c why now done ask.HasMark told true false e m = grind (arith, nat_tests)
abort_told i c why now done ask.HasMark told false f e m = grind (arith, nat_tests)
abort_told i c why now done ask.Discard told true true e m = grind (arith, nat_tests)
abort_told i c why now done ask.Discard told true false e m = grind (arith, nat_tests)
abort_told i c why now done ask.Discard told false f e m = grind (arith, nat_tests)
abort_told i c why now done ask.CloseSession told true true e m = grind (arith, nat_tests)
abort_told i c why now done ask.CloseSession told true false e m = grind (arith, nat_tests)
abort_told i c why now done ask.CloseSession told false f e m = grind (arith, nat_tests)
abort_told i c why now done ask.Resync told true true e m = grind (arith, nat_tests)
abort_told i c why now done ask.Resync told true false e m = grind (arith, nat_tests)
abort_told i c why now done ask.Resync told false f e m = grind (arith, nat_tests)

commit_told : (i c : Bool) (t : Option AbortCause) (now : ResyncState) (done : ℕ) (what : Ask) (told : Reply) → is_right (Some verdict.Commit) t (Live done) (Some what) ≡ true
    → told_left i c (Some verdict.Commit) now (Live done) what told ≤ 5
commit_told i c t now done ask.OpenSession told r = grind (arith, nat_tests)
commit_told i c t now done ask.LockRunning told r = grind (arith, nat_tests)
commit_told i c t now done ask.LockCandidate told r = grind (arith, nat_tests)
commit_told i c t now done ask.Edit told r = grind (arith, nat_tests)
commit_told i c t now done ask.Validate told r = grind (arith, nat_tests)
commit_told i c t now done ask.CommitConfirmed told r = grind (arith, nat_tests)
commit_told i c t now done ask.Renew told r = grind (arith, nat_tests)
commit_told i c t now done ask.Confirm told r = grind (arith, nat_tests)
commit_told i c t now done ask.Cancel told r = grind (arith, nat_tests)
commit_told i c t now done ask.HasMark told r = grind (arith, nat_tests)
commit_told i c t now done ask.Discard told r = grind (arith, nat_tests)
commit_told i c t now done ask.CloseSession told r = grind (arith, nat_tests)
commit_told i c t now done ask.Resync told r = grind (arith, nat_tests)

-- what is awaited of a device that is live is no resynchronisation's
live_plain : (v : Option Verdict) (done : ℕ) (what : Ask) → may_await v (Live done) what ≡ true → is_resync (Some what) ≡ false
live_plain None done what m = grind (arith, nat_tests)
live_plain (Some verdict.Commit) done what m = grind (arith, nat_tests)
live_plain (Some (verdict.Abort why)) done what m = grind (arith, nat_tests)

plain_left : (i c : Bool) (v : Option Verdict) (now : ResyncState) (stage : Stage) (what : Ask) (told : Reply) → is_resync (Some what) ≡ false → told_left i c v now stage what told ≡ 2 * left i c v now (learnt v stage what told)
plain_left i c v now stage what told e = ap (λ b. 2 * left i c v (resync_then b now told) (stage_then b v now stage what told)) e

pub left_some : (h b : Bool) (v : Option Verdict) (now : ResyncState) → fits_stage v Resync now ≡ true → is_some v ≡ true → 1 ≤ resync_left h b now.commit now.stage
left_some h b None now f e = absurd (let g : false ≡ true = e in cc)
left_some h b (Some verdict.Commit) now f e = grind (arith, nat_tests)
left_some h b (Some (verdict.Abort why)) now f e = grind (arith, nat_tests)

resync_what : (v : Verdict) (what : Ask) → may_await (Some v) Resync what ≡ true → what ≡ ask.Resync
resync_what v what m = grind (arith, nat_tests)

module _ (h b i c : Bool) (t : Option AbortCause) (now : ResyncState) where
  resync_less : (v : Verdict) (what : Ask) (told : Reply) → may_await (Some v) Resync what ≡ true → fits_stage (Some v) Resync now ≡ true → tells_well h b i c (asked_in_fact now what) told ≡ true
      → told_left i c (Some v) now Resync what told ≤ asked_left h b (Some v) now Resync what
  resync_less v what told m f w =
      let is : what ≡ ask.Resync = resync_what v what m in
      subst (λ one. told_left i c (Some v) now Resync one told ≤ asked_left h b (Some v) now Resync one) (sym is)
      (resync_told h b i c now.commit now.stage told v (ap (λ one. tells_well h b i c (asked_in_fact now one) told) (sym is) ∙ w) (left_some h b (Some v) now f refl))

  pub told_less : (v : Option Verdict) (stage : Stage) (what : Ask) (told : Reply) → may_await v stage what ≡ true → is_right v t stage (Some what) ≡ true → fits_stage v stage now ≡ true
      → tells_well h b i c (asked_in_fact now what) told ≡ true → told_left i c v now stage what told ≤ asked_left h b v now stage what
  told_less None (Live done) what told m r f w =
      subst (λ n. n ≤ asked_left h b None now (Live done) what) (sym (plain_left i c None now (Live done) what told (live_plain None done what m))) (none_told i c now done what told (is_first (first_ask done) what) (fits what told) refl m)
  told_less None Refused what told m r f w = absurd (let g : false ≡ true = m in cc)
  told_less None Failed what told m r f w = absurd (let g : false ≡ true = m in cc)
  told_less None NeedMark what told m r f w = absurd (let g : false ≡ true = m in cc)
  told_less None Resync what told m r f w = absurd (let g : false ≡ true = m in cc)
  told_less None (Leaving kept) what told m r f w = absurd (let g : false ≡ true = m in cc)
  told_less None (Settled kept) what told m r f w = absurd (let g : false ≡ true = m in cc)
  told_less (Some verdict.Commit) (Live done) what told m r f w = commit_told i c t now done what told r
  told_less (Some verdict.Commit) Refused what told m r f w = absurd (let g : false ≡ true = r in cc)
  told_less (Some verdict.Commit) Failed what told m r f w = absurd (let g : false ≡ true = r in cc)
  told_less (Some verdict.Commit) NeedMark what told m r f w = grind (arith, nat_tests)
  told_less (Some verdict.Commit) Resync what told m r f w = resync_less verdict.Commit what told m f w
  told_less (Some verdict.Commit) (Leaving kept) what told m r f w = grind (arith, nat_tests)
  told_less (Some verdict.Commit) (Settled kept) what told m r f w = absurd (let g : false ≡ true = m in cc)
  told_less (Some (verdict.Abort why)) (Live done) what told m r f w =
      subst (λ n. n ≤ cancel_left what) (sym (plain_left i c (Some (verdict.Abort why)) now (Live done) what told (live_plain (Some (verdict.Abort why)) done what m))) (abort_told i c why now done what told (is_first (first_ask done) what) (fits what told) refl m)
  told_less (Some (verdict.Abort why)) Refused what told m r f w = absurd (let g : false ≡ true = m in cc)
  told_less (Some (verdict.Abort why)) Failed what told m r f w = grind (arith, nat_tests)
  told_less (Some (verdict.Abort why)) NeedMark what told m r f w = absurd (let g : false ≡ true = m in cc)
  told_less (Some (verdict.Abort why)) Resync what told m r f w = resync_less (verdict.Abort why) what told m f w
  told_less (Some (verdict.Abort why)) (Leaving kept) what told m r f w = grind (arith, nat_tests)
  told_less (Some (verdict.Abort why)) (Settled kept) what told m r f w = absurd (let g : false ≡ true = m in cc)

-- a resynchronisation from its beginning is less than what stands for a stranded link
pub broken_less : (h b : Bool) (v : Option Verdict) (commit : Bool) (stage : Stage) → 3 * (2 * left h b v (fresh_resync commit) (broken_stage stage)) ≤ 42
broken_less h b None commit stage = grind (arith, nat_tests)
broken_less h b (Some v) commit stage = grind (arith, nat_tests)
