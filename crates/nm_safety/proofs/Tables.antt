-- What the tables of stages have in common with links.
use Rattle.std.proofs.Common.{◌≡◌, ◌∙◌, ℕ, zero, suc, ◌==◌, Bool, true, false, not, ◌&&◌, ◌||◌, cond, Option, Some, None, is_some, is_none, refl, sym, ap, arith}
use Rattle.std.proofs.lemmas.Bool.Decides.{nat_tests}
use Rattle.nm_proto.specs.declared.ask.Ask.{Ask}
use Rattle.nm_proto.specs.declared.ask.Ask.TheVariants as ask
use Rattle.nm_proto.specs.declared.message.Store.TheVariants.{Running, Candidate}
use Rattle.nm_proto.specs.declared.message.Request.{Request}
use Rattle.nm_proto.specs.declared.message.Request.TheVariants.{OpenSession, Lock, Unlock, PartialLock, PartialUnlock, Edit, Validate, Commit, CancelCommit, Discard, HasMark, GetConfig, Kill, CloseSession}
use Rattle.nm_proto.specs.declared.message.Reply.{Reply}
use Rattle.nm_proto.specs.declared.message.Reply.TheVariants.{Error}
use Rattle.nm_proto.specs.declared.journal.Verdict.{Verdict}
use Rattle.nm_proto.specs.declared.journal.Verdict.TheVariants as verdict
use Rattle.nm_decider_stage.specs.declared.stage.Stage.{Stage}
use Rattle.nm_decider_stage.specs.declared.stage.Stage.TheVariants.{Live, Refused, Failed, NeedMark, Resync, Leaving, Settled}
use Rattle.nm_decider_stage.specs.Stages.{next_ask, first_ask, learnt, learnt_live, learnt_other, verdict_ask, is_first, is_acknowledged, all_done, aborted_stage, broken_stage}
use Rattle.nm_decider.specs.declared.seat.Seat.{Seat}
use Rattle.nm_resync.specs.declared.resync.ResyncStage.{ResyncStage}
use Rattle.nm_resync.specs.declared.resync.ResyncStage.TheVariants.{Opening}
use Rattle.nm_resync.specs.Resync.{ResyncState, fresh_resync, resync_ask, resync_learnt, settled_in}
use Rattle.nm_wire.specs.Asks.{ask_of, same_ask, commit_ask, cancel_ask}
use Rattle.nm_wire.specs.Link.{ends}
use Rattle.nm_manager.specs.Slot.{asked_in_fact, opens, is_resync, is_commit, to_commit}
use Rattle.nm_safety.specs.Step.{may_stand, fits_stage, resyncs_rightly, may_go_on, asks_this, asked_before, may_await, awaits_rightly, has_link, is_opening, answers_ask}

some_done : (done : ℕ) → not (suc done == 0) ≡ true
some_done done = grind (arith, nat_tests)

pub both : (a b : Bool) → (a && b) ≡ true → (a ≡ true) × (b ≡ true)
both true b h = (refl, h)
both false b h = absurd (let e : false ≡ true = h in cc)

abbrev is_resync_stage : Stage → Bool
is_resync_stage Resync = true
is_resync_stage _ = false

pub left_true : (a b : Bool) → a ≡ true → (a || b) ≡ true
left_true true b h = refl
left_true false b h = absurd (let e : false ≡ true = h in cc)

pub same_itself : (what : Ask) → same_ask what what ≡ true
same_itself what = grind (arith, nat_tests)

-- what is asked next may be awaited
pub next_awaited : (o : Option Ask) (stage : Stage) (what : Ask) → o ≡ Some what → (asks_this o what || asked_before stage what) ≡ true
next_awaited None stage what h = absurd (let e : None ≡ Some what = h in cc)
next_awaited (Some other) stage what h = let e : other ≡ what = cc in rw e (left_true (same_ask what what) (asked_before stage what) (same_itself what))

-- ---- what is asked next

-- a request other than for a session goes on with a link
linked_live : (done : ℕ) (resync : ResyncState) (what : Ask) → first_ask done ≡ Some what → opens (asked_in_fact resync what) ≡ false → not (done == 0) ≡ true
linked_live done resync what n o = grind (arith, nat_tests)

linked_resync : (commit : Bool) (stage : ResyncStage) → opens (resync_ask commit stage) ≡ false → not (is_opening stage) ≡ true
linked_resync commit stage o = grind (arith, nat_tests)

pub next_linked : (decided : Option Verdict) (stage : Stage) (resync : ResyncState) (what : Ask) → next_ask decided stage ≡ Some what → opens (asked_in_fact resync what) ≡ false → has_link stage resync.stage ≡ true
next_linked None (Live done) resync what n o = linked_live done resync what n o
next_linked (Some decided) (Live zero) resync what n o = absurd (let e : None ≡ Some what = n in cc)
next_linked (Some decided) (Live (suc done)) resync what n o = some_done done
next_linked decided Refused resync what n o = absurd (let e : None ≡ Some what = n in cc)
next_linked decided Failed resync what n o = refl
next_linked decided NeedMark resync what n o = refl
next_linked None Resync resync what n o = absurd (let e : None ≡ Some what = n in cc)
next_linked (Some decided) Resync resync what n o =
    let e : ask.Resync ≡ what = cc in
    linked_resync resync.commit resync.stage (ap (λ asked. opens (asked_in_fact resync asked)) e ∙ o)
next_linked decided (Leaving kept) resync what n o = refl
next_linked decided (Settled kept) resync what n o = absurd (let e : None ≡ Some what = n in cc)

-- what a resynchronisation asks is known, until it is done
resync_known : (commit : Bool) (stage : ResyncStage) → may_go_on commit stage ≡ true → same_ask (resync_ask commit stage) ask.Resync ≡ false
resync_known commit stage g = grind (arith, nat_tests)

pub resync_goes_on : (decided : Option Verdict) (commit : Bool) (stage : ResyncStage) → is_some decided ≡ true → resyncs_rightly decided (record { commit = commit; stage = stage }) ≡ true
    → may_go_on commit stage ≡ true
resync_goes_on None commit stage d r = absurd (let e : false ≡ true = d in cc)
resync_goes_on (Some verdict.Commit) commit stage d r = grind (arith, nat_tests)
resync_goes_on (Some (verdict.Abort why)) commit stage d r = grind (arith, nat_tests)

-- what is asked next is known, where a resynchronisation is to be asked
known_live : (done : ℕ) (resync : ResyncState) (what : Ask) → first_ask done ≡ Some what → same_ask (asked_in_fact resync what) ask.Resync ≡ false
known_live done resync what n = grind (arith, nat_tests)

known_verdict : (decided : Verdict) (resync : ResyncState) (what : Ask) → verdict_ask decided ≡ what → same_ask (asked_in_fact resync what) ask.Resync ≡ false
known_verdict decided resync what n = grind (arith, nat_tests)

known_decided : (b : Bool) (decided : Verdict) (resync : ResyncState) (what : Ask) → cond b None (Some (verdict_ask decided)) ≡ Some what → same_ask (asked_in_fact resync what) ask.Resync ≡ false
known_decided true decided resync what n = absurd (let e : None ≡ Some what = n in cc)
known_decided false decided resync what n = known_verdict decided resync what (let e : Some (verdict_ask decided) ≡ Some what = n in cc)

known_other : (decided : Option Verdict) (stage : Stage) (resync : ResyncState) (what : Ask) → is_resync_stage stage ≡ false → next_ask decided stage ≡ Some what
    → same_ask (asked_in_fact resync what) ask.Resync ≡ false
known_other None (Live done) resync what r n = known_live done resync what n
known_other (Some decided) (Live done) resync what r n = known_decided (done == 0) decided resync what n
known_other decided Refused resync what r n = absurd (let e : None ≡ Some what = n in cc)
known_other decided Failed resync what r n = grind (arith, nat_tests)
known_other decided NeedMark resync what r n = grind (arith, nat_tests)
known_other decided Resync resync what r n = absurd (let e : true ≡ false = r in cc)
known_other decided (Leaving kept) resync what r n = grind (arith, nat_tests)
known_other decided (Settled kept) resync what r n = absurd (let e : None ≡ Some what = n in cc)

pub next_known : (decided : Option Verdict) (stage : Stage) (resync : ResyncState) (what : Ask) → next_ask decided stage ≡ Some what → fits_stage decided stage resync ≡ true
    → same_ask (asked_in_fact resync what) ask.Resync ≡ false
next_known decided (Live done) resync what n f = known_other decided (Live done) resync what refl n
next_known decided Refused resync what n f = known_other decided Refused resync what refl n
next_known decided Failed resync what n f = known_other decided Failed resync what refl n
next_known decided NeedMark resync what n f = known_other decided NeedMark resync what refl n
next_known decided (Leaving kept) resync what n f = known_other decided (Leaving kept) resync what refl n
next_known decided (Settled kept) resync what n f = known_other decided (Settled kept) resync what refl n
next_known None Resync resync what n f = absurd (let e : None ≡ Some what = n in cc)
next_known (Some decided) Resync resync what n f =
    let e : ask.Resync ≡ what = cc in
    ap (λ asked. same_ask (asked_in_fact resync asked) ask.Resync) (sym e)
    ∙ resync_known resync.commit resync.stage (resync_goes_on (Some decided) resync.commit resync.stage refl f)

-- a renewal may go out
pub record RenewsNow (decided : Option Verdict) (seat : Seat) : Type 0 where
  pub member : seat.is_member ≡ true
  pub quiet : seat.awaited ≡ None
  pub may : may_await decided seat.stage ask.Renew ≡ true
  pub linked : (resync : ResyncStage) → has_link seat.stage resync ≡ true

no_ask : (o : Option Ask) → is_none o ≡ true → o ≡ None
no_ask None h = refl
no_ask (Some what) h = absurd (let e : false ≡ true = h in cc)

pub renews_stage : (decided : Option Verdict) (stage : Stage) (resync : ResyncStage) → is_none decided ≡ true → is_acknowledged stage ≡ true → (may_await decided stage ask.Renew && has_link stage resync) ≡ true
renews_stage decided stage resync d a = grind (arith, nat_tests)

pub renews_now : (decided : Option Verdict) (calm : Bool) (seat : Seat) → (is_none decided && (calm && (seat.is_member && (is_none seat.awaited && is_acknowledged seat.stage)))) ≡ true → RenewsNow decided seat
renews_now decided calm seat h =
    let undecided = both (is_none decided) _ h in
    let rest = both calm _ undecided.1 in
    let member = both seat.is_member _ rest.1 in
    let quiet = both (is_none seat.awaited) (is_acknowledged seat.stage) member.1 in
    record {
      member = member.0;
      quiet = no_ask seat.awaited quiet.0;
      may = (both (may_await decided seat.stage ask.Renew) _ (renews_stage decided seat.stage Opening undecided.0 quiet.1)).0;
      linked = λ resync. (both (may_await decided seat.stage ask.Renew) _ (renews_stage decided seat.stage resync undecided.0 quiet.1)).1;
    }

-- ---- what a reply to it brings

-- a link ends at the close of its session, or where that is refused
abbrev pub ends_ask : Ask → Reply → Bool
ends_ask ask.CloseSession reply = true
ends_ask ask.OpenSession (Error tag session path) = true
ends_ask _ _ = false

ends_commit : (confirmed persists names : Bool) (reply : Reply) → false ≡ ends_ask (commit_ask confirmed persists names) reply
ends_commit confirmed persists names reply = grind (arith, nat_tests)

ends_cancel : (names : Bool) (reply : Reply) → false ≡ ends_ask (cancel_ask names) reply
ends_cancel names reply = grind (arith, nat_tests)

pub ends_by_ask : (request : Request) (reply : Reply) → ends request reply ≡ ends_ask (ask_of request) reply
ends_by_ask (OpenSession user) reply = opening reply where
  opening : (reply : Reply) → ends (OpenSession user) reply ≡ ends_ask ask.OpenSession reply
  opening reply = grind (arith, nat_tests)
ends_by_ask (Lock Running) reply = refl
ends_by_ask (Lock Candidate) reply = refl
ends_by_ask (Unlock store) reply = refl
ends_by_ask (PartialLock select) reply = refl
ends_by_ask (PartialUnlock id) reply = refl
ends_by_ask (Edit edit operation marks) reply = refl
ends_by_ask Validate reply = refl
ends_by_ask (Commit confirmed timeout persist persist_id) reply = ends_commit confirmed (is_some persist) (is_some persist_id) reply
ends_by_ask (CancelCommit persist_id) reply = ends_cancel (is_some persist_id) reply
ends_by_ask Discard reply = refl
ends_by_ask (HasMark change) reply = refl
ends_by_ask GetConfig reply = refl
ends_by_ask (Kill session) reply = refl
ends_by_ask CloseSession reply = refl

-- ---- the first course

-- a reply to a request of the first course leaves a link exactly where it doesn't end it
first_linked : (decided : Option Verdict) (done : ℕ) (what : Ask) (reply : Reply) (resync : ResyncStage) → asks_this (first_ask done) what ≡ true → answers_ask what reply ≡ true
    → not (ends_ask what reply) ≡ has_link (learnt_live decided done what reply) resync
first_linked decided done what reply resync a f = grind (arith, nat_tests)

-- and so does one to a confirm or a cancel
other_linked : (decided : Option Verdict) (done : ℕ) (what : Ask) (reply : Reply) (resync : ResyncStage) → not (done == 0) ≡ true → ends_ask what reply ≡ false
    → true ≡ has_link (learnt_other decided done what reply) resync
other_linked decided done what reply resync d e = grind (arith, nat_tests)

not_first : (o : Option Ask) (what : Ask) → asks_this o what ≡ false → is_first o what ≡ false
not_first o what a = grind (arith, nat_tests)

decided_live : (decided : Verdict) (done : ℕ) (what : Ask) → asks_this (next_ask (Some decided) (Live done)) what ≡ true → not (done == 0) ≡ true
decided_live decided zero what a = absurd (let e : false ≡ true = a in cc)
decided_live decided (suc done) what a = some_done done

decided_ends : (decided : Verdict) (done : ℕ) (what : Ask) (reply : Reply) → asks_this (next_ask (Some decided) (Live done)) what ≡ true → ends_ask what reply ≡ false
decided_ends decided zero what reply a = absurd (let e : false ≡ true = a in cc)
decided_ends verdict.Commit (suc done) what reply a = grind (arith, nat_tests)
decided_ends (verdict.Abort why) (suc done) what reply a = grind (arith, nat_tests)

renew_ends : (what : Ask) (reply : Reply) → same_ask ask.Renew what ≡ true → ends_ask what reply ≡ false
renew_ends what reply s = grind (arith, nat_tests)

pub nots : (a b : Bool) → a ≡ false → not a ≡ true
nots true b h = absurd (let e : true ≡ false = h in cc)
nots false b h = refl

-- a reply at a live stage leaves a link exactly where it doesn't end it
live_linked : (decided : Option Verdict) (done : ℕ) (what : Ask) (reply : Reply) (resync : ResyncStage) (a : Bool) → asks_this (first_ask done) what ≡ a
    → (a || (done == all_done && same_ask ask.Renew what)) ≡ true → answers_ask what reply ≡ true → not (ends_ask what reply) ≡ has_link (learnt_live decided done what reply) resync
live_linked decided done what reply resync true is m f = first_linked decided done what reply resync is f
live_linked decided done what reply resync false is m f = renew_linked decided done what reply resync is m
  where
    renew_linked : (decided : Option Verdict) (done : ℕ) (what : Ask) (reply : Reply) (resync : ResyncStage) → asks_this (first_ask done) what ≡ false
        → (done == all_done && same_ask ask.Renew what) ≡ true → not (ends_ask what reply) ≡ has_link (learnt_live decided done what reply) resync
    renew_linked decided done what reply resync is m = grind (arith, nat_tests)

-- at a live stage that is decided it is a confirm or a cancel
decided_linked : (decided : Verdict) (done : ℕ) (what : Ask) (reply : Reply) (resync : ResyncStage) → asks_this (next_ask (Some decided) (Live done)) what ≡ true
    → asks_this (first_ask done) what ≡ false → not (ends_ask what reply) ≡ has_link (learnt_live (Some decided) done what reply) resync
decided_linked decided done what reply resync a n =
    let other : is_first (first_ask done) what ≡ false = not_first (first_ask done) what n in
    let stays : ends_ask what reply ≡ false = decided_ends decided done what reply a in
    rw stays (rw other (other_linked (Some decided) done what reply resync (decided_live decided done what a) stays))

by_course : (decided : Option Verdict) (done : ℕ) (what : Ask) (reply : Reply) (resync : ResyncStage) (a : Bool) → asks_this (first_ask done) what ≡ a
    → may_await decided (Live done) what ≡ true → answers_ask what reply ≡ true → not (ends_ask what reply) ≡ has_link (learnt_live decided done what reply) resync
by_course decided done what reply resync true is m f = first_linked decided done what reply resync is f
by_course None done what reply resync false is m f = live_linked None done what reply resync false is (none_of (asks_this (first_ask done) what) _ is m) f
  where
    none_of : (a b : Bool) → a ≡ false → (a || (a || b)) ≡ true → (false || b) ≡ true
    none_of true b h m = absurd (let e : true ≡ false = h in cc)
    none_of false b h m = m
by_course (Some decided) done what reply resync false is m f = by_either (asks_this (next_ask (Some decided) (Live done)) what) refl
  where
    after_all : (a b c : Bool) → a ≡ false → b ≡ false → (a || (b || c)) ≡ true → (false || c) ≡ true
    after_all true b c ha hb m = absurd (let e : true ≡ false = ha in cc)
    after_all false true c ha hb m = absurd (let e : true ≡ false = hb in cc)
    after_all false false c ha hb m = m

    by_either : (d : Bool) → asks_this (next_ask (Some decided) (Live done)) what ≡ d → not (ends_ask what reply) ≡ has_link (learnt_live (Some decided) done what reply) resync
    by_either true a = decided_linked decided done what reply resync a is
    by_either false a =
        live_linked (Some decided) done what reply resync false is (after_all (asks_this (next_ask (Some decided) (Live done)) what) (asks_this (first_ask done) what) _ a is m) f

pub live_heard : (decided : Option Verdict) (done : ℕ) (what : Ask) (reply : Reply) (resync : ResyncStage) → may_await decided (Live done) what ≡ true → answers_ask what reply ≡ true
    → not (ends_ask what reply) ≡ has_link (learnt decided (Live done) what reply) resync
live_heard decided done what reply resync m f = by_course decided done what reply resync (asks_this (first_ask done) what) refl m f

-- ---- the other stages

-- the same at any stage but a resynchronisation
pub stage_heard : (decided : Option Verdict) (stage : Stage) (what : Ask) (reply : Reply) (resync : ResyncStage) → may_stand decided stage ≡ true → may_await decided stage what ≡ true
    → is_resync (Some what) ≡ false → answers_ask what reply ≡ true → not (ends_ask what reply) ≡ has_link (learnt decided stage what reply) resync
stage_heard decided (Live done) what reply resync s m r f = live_heard decided done what reply resync m f
stage_heard decided Refused what reply resync s m r f = absurd (let e : false ≡ true = m in cc)
stage_heard decided Failed what reply resync s m r f = grind (arith, nat_tests)
stage_heard decided NeedMark what reply resync s m r f = grind (arith, nat_tests)
stage_heard decided Resync what reply resync s m r f = grind (arith, nat_tests)
stage_heard decided (Leaving kept) what reply resync s m r f = grind (arith, nat_tests)
stage_heard decided (Settled kept) what reply resync s m r f = absurd (let e : false ≡ true = m in cc)

-- what is known after a reply may be
pub stage_stands : (decided : Option Verdict) (stage : Stage) (what : Ask) (reply : Reply) → may_stand decided stage ≡ true → may_await decided stage what ≡ true
    → may_stand decided (learnt decided stage what reply) ≡ true
stage_stands decided (Live done) what reply s m = grind (arith, nat_tests)
stage_stands decided Refused what reply s m = refl
stage_stands decided Failed what reply s m = grind (arith, nat_tests)
stage_stands decided NeedMark what reply s m = grind (arith, nat_tests)
stage_stands decided Resync what reply s m = refl
stage_stands decided (Leaving kept) what reply s m = grind (arith, nat_tests)
stage_stands decided (Settled kept) what reply s m = s

-- no reply begins a resynchronisation
pub stage_fits : (decided : Option Verdict) (stage : Stage) (what : Ask) (reply : Reply) (resync : ResyncState) → fits_stage decided stage resync ≡ true
    → fits_stage decided (learnt decided stage what reply) resync ≡ true
stage_fits decided (Live done) what reply resync s = grind (arith, nat_tests)
stage_fits decided Refused what reply resync s = refl
stage_fits decided Failed what reply resync s = grind (arith, nat_tests)
stage_fits decided NeedMark what reply resync s = grind (arith, nat_tests)
stage_fits decided Resync what reply resync s = s
stage_fits decided (Leaving kept) what reply resync s = grind (arith, nat_tests)
stage_fits decided (Settled kept) what reply resync s = refl

-- ---- a resynchronisation

-- what it finds is the stage then
abbrev pub found_stage : Option Bool → Stage
found_stage None = Resync
found_stage (Some kept) = Settled kept

pub awaits_resync_alone : (decided : Option Verdict) (stage : Stage) → may_await decided stage ask.Resync ≡ true → stage ≡ Resync
awaits_resync_alone decided stage m = grind (arith, nat_tests)

pub resync_is_decided : (decided : Option Verdict) → may_await decided Resync ask.Resync ≡ true → is_some decided ≡ true
resync_is_decided decided m = grind (arith, nat_tests)

pub resync_heard : (commit : Bool) (stage : ResyncStage) (reply : Reply) → may_go_on commit stage ≡ true → answers_ask (resync_ask commit stage) reply ≡ true
    → not (ends_ask (resync_ask commit stage) reply) ≡ has_link (found_stage (settled_in (resync_learnt commit stage reply))) (resync_learnt commit stage reply)
resync_heard commit stage reply g f = grind (arith, nat_tests)

pub resync_stands : (decided : Option Verdict) (commit : Bool) (stage : ResyncStage) (reply : Reply) → is_some decided ≡ true → resyncs_rightly decided (record { commit = commit; stage = stage }) ≡ true
    → may_stand decided (found_stage (settled_in (resync_learnt commit stage reply))) ≡ true
resync_stands None commit stage reply d r = absurd (let e : false ≡ true = d in cc)
resync_stands (Some verdict.Commit) commit stage reply d r = grind (arith, nat_tests)
resync_stands (Some (verdict.Abort why)) commit stage reply d r = grind (arith, nat_tests)

pub resync_fits : (decided : Option Verdict) (commit : Bool) (stage : ResyncStage) (reply : Reply) → is_some decided ≡ true → resyncs_rightly decided (record { commit = commit; stage = stage }) ≡ true
    → fits_stage decided (found_stage (settled_in (resync_learnt commit stage reply))) (record { commit = commit; stage = resync_learnt commit stage reply }) ≡ true
resync_fits None commit stage reply d r = absurd (let e : false ≡ true = d in cc)
resync_fits (Some verdict.Commit) commit stage reply d r = grind (arith, nat_tests)
resync_fits (Some (verdict.Abort why)) commit stage reply d r = grind (arith, nat_tests)

-- ---- a verdict falls

-- the stage once the verdict stands
abbrev pub decided_stage : Verdict → Bool → Stage → Stage
decided_stage verdict.Commit awaits stage = stage
decided_stage (verdict.Abort why) awaits stage = aborted_stage awaits stage

pub decided_stands : (v : Verdict) (awaits : Bool) (stage : Stage) → may_stand None stage ≡ true → may_stand (Some v) (decided_stage v awaits stage) ≡ true
decided_stands verdict.Commit awaits stage s = grind (arith, nat_tests)
decided_stands (verdict.Abort why) awaits stage s = grind (arith, nat_tests)

pub decided_fits : (v : Verdict) (awaits : Bool) (stage : Stage) → may_stand None stage ≡ true → fits_stage (Some v) (decided_stage v awaits stage) (fresh_resync (is_commit v)) ≡ true
decided_fits verdict.Commit awaits stage s = grind (arith, nat_tests)
decided_fits (verdict.Abort why) awaits stage s = grind (arith, nat_tests)

-- what was awaited still is
pub decided_awaits : (v : Verdict) (awaited : Option Ask) (stage : Stage) → awaits_rightly None stage awaited ≡ true → awaits_rightly (Some v) (decided_stage v (is_some awaited) stage) awaited ≡ true
decided_awaits v None stage a = refl
decided_awaits verdict.Commit (Some what) stage a = grind (arith, nat_tests)
decided_awaits (verdict.Abort why) (Some what) stage a = grind (arith, nat_tests)

-- a device that awaits nothing has a link then where it had one
pub decided_linked_as : (v : Verdict) (stage : Stage) (before : ResyncState) → fits_stage None stage before ≡ true → has_link stage before.stage ≡ has_link (decided_stage v false stage) Opening
decided_linked_as verdict.Commit stage before f = grind (arith, nat_tests)
decided_linked_as (verdict.Abort why) stage before f = grind (arith, nat_tests)

-- before a verdict no resynchronisation asks
pub undecided_asks : (stage : Stage) (what : Ask) (one other : ResyncState) → may_await None stage what ≡ true → asked_in_fact one what ≡ asked_in_fact other what
undecided_asks stage what one other m = grind (arith, nat_tests)

-- ---- a link breaks

pub broken_stands : (decided : Option Verdict) (stage : Stage) → may_stand decided stage ≡ true → may_stand decided (broken_stage stage) ≡ true
broken_stands decided stage s = grind (arith, nat_tests)

pub fresh_fits : (decided : Option Verdict) (stage : Stage) → fits_stage decided stage (fresh_resync (to_commit decided)) ≡ true
fresh_fits None stage = grind (arith, nat_tests)
fresh_fits (Some verdict.Commit) stage = grind (arith, nat_tests)
fresh_fits (Some (verdict.Abort why)) stage = grind (arith, nat_tests)

pub broken_linked : (stage : Stage) → false ≡ has_link (broken_stage stage) Opening
broken_linked stage = grind (arith, nat_tests)
