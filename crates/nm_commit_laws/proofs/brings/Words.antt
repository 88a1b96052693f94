-- How far a link has come after what happens on it.
use Rattle.std.proofs.Common.{◌==◌, ◌∙◌, cond, Some, ◌≡◌, ℕ, zero, suc, ◌≤◌, Bool, true, false, fold, List, [], ◌∷◌, None, refl, sym, ap, subst, arith}
use Rattle.std.proofs.lemmas.Bool.Decides.{nat_tests}
use Rattle.std.proofs.lemmas.List.Sums.{fold-append}
use Rattle.nm_proto.specs.declared.ask.Ask.{Ask}
use Rattle.nm_proto.specs.declared.ask.Ask.TheVariants as ask
use Rattle.nm_proto.specs.declared.message.Request.{Request}
use Rattle.nm_proto.specs.declared.message.Reply.{Reply}
use Rattle.nm_proto.specs.declared.journal.Verdict.{Verdict}
use Rattle.nm_decider_stage.specs.declared.stage.Stage.{Stage}
use Rattle.nm_decider_stage.specs.declared.stage.Stage.TheVariants.{Live, Refused, Failed, NeedMark, Resync, Leaving, Settled}
use Rattle.nm_decider_stage.specs.Stages.{broken_stage, learnt, next_ask, verdict_ask}
use Rattle.nm_resync.specs.declared.resync.ResyncStage.{ResyncStage}
use Rattle.nm_resync.specs.Resync.{ResyncState, resync_ask}
use Rattle.nm_manager.specs.Slot.{asked_in_fact}
use Rattle.nm_wire.specs.declared.link.Exchange.{Exchange}
use Rattle.nm_wire.specs.declared.link.Way.{Way}
use Rattle.nm_wire.specs.declared.link.Way.TheVariants.{Quiet, Asked, Told}
use Rattle.nm_wire.specs.Asks.{ask_of, same_ask}
use Rattle.nm_wire.specs.Link.{LinkState, over_way, is_quiet_way, sent_on, told_on, handled_by, handled_on}
use Rattle.nm_wire.specs.Words.{holds, holds_by, holds_after}
use Rattle.nm_safety.specs.Pair.{is_live}
use Rattle.nm_safety.specs.Step.{may_await}
use Rattle.nm_commit_laws.specs.Course.{steps_by, steps_after, steps_of, steps_past, steps_known}

-- ---- what happens on a link

steps_sent_by : (value : ℕ) (way : Way) (request : Request) → is_quiet_way way ≡ true
    → over_way steps_after value (Asked request) ≡ over_way steps_after value way
steps_sent_by value Quiet request q = refl
steps_sent_by value (Asked other) request q = refl
steps_sent_by value (Told exchange) request q = absurd (let e : false ≡ true = q in cc)

pub steps_sent : (request : Request) (link : LinkState) → is_quiet_way link.way ≡ true → steps_of (sent_on request link) ≡ steps_of link
steps_sent request link q = steps_sent_by (fold steps_after 0 link.past) link.way request q

steps_handled_by : (past : List Exchange) (way : Way) (is_open : Bool)
    → steps_of (handled_by (record { past = past; way = way; is_open = is_open }) way) ≡ steps_of
    (record { past = past; way = way; is_open = is_open })
steps_handled_by past Quiet is_open = refl
steps_handled_by past (Asked request) is_open = refl
steps_handled_by past (Told exchange) is_open = fold-append steps_after 0 past (exchange ∷ [])

pub steps_handled : (link : LinkState) → steps_of (handled_on link) ≡ steps_of link
steps_handled link = steps_handled_by link.past link.way link.is_open

steps_told_by : (past : List Exchange) (way : Way) (is_open : Bool) (request : Request) (reply : Reply) → way ≡ Asked request
    → steps_of (told_on reply (record { past = past; way = way; is_open = is_open })) ≡ steps_by
    (steps_of (record { past = past; way = way; is_open = is_open })) (ask_of request) reply
steps_told_by past way is_open request reply e =
    subst (λ w. steps_of (told_on reply (record { past = past; way = w; is_open = is_open })) ≡ steps_by
    (steps_of (record { past = past; way = w; is_open = is_open })) (ask_of request) reply) (sym e) refl

pub steps_told : (link : LinkState) (request : Request) (reply : Reply) → link.way ≡ Asked request
    → steps_of (told_on reply link) ≡ steps_by (steps_of link) (ask_of request) reply
steps_told link request reply e = steps_told_by link.past link.way link.is_open request reply e

-- ---- what was handled

past_handled_by : (past : List Exchange) (way : Way) (is_open : Bool)
    → steps_past (handled_by (record { past = past; way = way; is_open = is_open }) way) ≡ steps_of
    (record { past = past; way = way; is_open = is_open })
past_handled_by past Quiet is_open = refl
past_handled_by past (Asked request) is_open = refl
past_handled_by past (Told exchange) is_open = fold-append steps_after 0 past (exchange ∷ [])

pub past_handled : (link : LinkState) → steps_past (handled_on link) ≡ steps_of link
past_handled link = past_handled_by link.past link.way link.is_open

past_told_by : (past : List Exchange) (way : Way) (is_open : Bool) (reply : Reply)
    → steps_past (told_on reply (record { past = past; way = way; is_open = is_open })) ≡ fold steps_after 0 past
past_told_by past Quiet is_open reply = refl
past_told_by past (Asked request) is_open reply = refl
past_told_by past (Told exchange) is_open reply = refl

pub past_told : (link : LinkState) (reply : Reply) → steps_past (told_on reply link) ≡ steps_past link
past_told link reply = past_told_by link.past link.way link.is_open reply

-- where a request is on its way
pub past_asked : (link : LinkState) (request : Request) → link.way ≡ Asked request → steps_of link ≡ steps_past link
past_asked link request way = ap (over_way steps_after (fold steps_after 0 link.past)) way

-- ---- the lock of running

held_still : (n : ℕ) (what : Ask) (reply : Reply) → 1 ≤ steps_by n what reply → holds_by true what reply ≡ true
held_still n what reply one = grind (arith, nat_tests)

held_first : (what : Ask) (reply : Reply) → 1 ≤ steps_by 0 what reply → holds_by false what reply ≡ true
held_first what reply one = grind (arith, nat_tests)

held_by : (n : ℕ) (held : Bool) (what : Ask) (reply : Reply) → (1 ≤ n → held ≡ true) → 1 ≤ steps_by n what reply
    → holds_by held what reply ≡ true
held_by n true what reply h one = held_still n what reply one
held_by zero false what reply h one = held_first what reply one
held_by (suc n) false what reply h one = absurd (let g : false ≡ true = h (omega arith) in cc)

held_past : (past : List Exchange) (n : ℕ) (held : Bool) → (1 ≤ n → held ≡ true) → 1 ≤ fold steps_after n past
    → fold holds_after held past ≡ true
held_past [] n held h one = h one
held_past (exchange ∷ past) n held h one =
    held_past past (steps_after n exchange) (holds_after held exchange) (held_by n held (ask_of exchange.request) exchange.reply h) one

held_way : (n : ℕ) (held : Bool) (way : Way) → (1 ≤ n → held ≡ true) → 1 ≤ over_way steps_after n way → over_way holds_after held way ≡ true
held_way n held Quiet h one = h one
held_way n held (Asked request) h one = h one
held_way n held (Told exchange) h one = held_by n held (ask_of exchange.request) exchange.reply h one

-- who has come a step has locked running, and the commit isn't answered
pub steps_hold : (link : LinkState) → 1 ≤ steps_of link → holds link ≡ true
steps_hold link one =
    held_way (fold steps_after 0 link.past) (fold holds_after false link.past) link.way
    (held_past link.past 0 false (λ l. absurd (omega (arith, l)))) one

-- ---- what the course knows

pub known_broken : (stage : Stage) → steps_known (broken_stage stage) ≡ 0
known_broken stage = grind (arith, nat_tests)

-- the confirmed commit is asked for after the third step
pub known_commit : (stage : Stage) → may_await None stage ask.CommitConfirmed ≡ true → steps_known stage ≡ 3
known_commit (Live done) m = grind (arith, nat_tests)
known_commit Refused m = absurd (let e : false ≡ true = m in cc)
known_commit Failed m = absurd (let e : false ≡ true = m in cc)
known_commit NeedMark m = absurd (let e : false ≡ true = m in cc)
known_commit Resync m = absurd (let e : false ≡ true = m in cc)
known_commit (Leaving kept) m = absurd (let e : false ≡ true = m in cc)
known_commit (Settled kept) m = absurd (let e : false ≡ true = m in cc)

live_told : (done : ℕ) (what : Ask) (reply : Reply) (n : ℕ) → may_await None (Live done) what ≡ true → (what ≡ ask.CommitConfirmed → ⊥)
    → steps_known (Live done) ≤ n → n ≤ steps_known (Live done)
    → steps_known (Live done) ≤ steps_by n what reply
live_told done ask.OpenSession reply n m other k l = grind (arith, nat_tests)
live_told done ask.LockRunning reply n m other k l = grind (arith, nat_tests)
live_told done ask.LockCandidate reply n m other k l = grind (arith, nat_tests)
live_told done ask.Edit reply n m other k l = grind (arith, nat_tests)
live_told done ask.Validate reply n m other k l = k
live_told done ask.CommitConfirmed reply n m other k l = absurd (other refl)
live_told done ask.Renew reply n m other k l = k
live_told done ask.Confirm reply n m other k l = grind (arith, nat_tests)
live_told done ask.Cancel reply n m other k l = grind (arith, nat_tests)
live_told done ask.HasMark reply n m other k l = grind (arith, nat_tests)
live_told done ask.Discard reply n m other k l = grind (arith, nat_tests)
live_told done ask.CloseSession reply n m other k l = grind (arith, nat_tests)
live_told done ask.Resync reply n m other k l = grind (arith, nat_tests)

pub zero_below : (n : ℕ) → 0 ≤ n
zero_below n = omega arith

-- a reply to what may be awaited takes no step back
pub known_told : (stage : Stage) (what : Ask) (reply : Reply) (n : ℕ) → may_await None stage what ≡ true → (what ≡ ask.CommitConfirmed → ⊥)
    → steps_known stage ≤ n → (is_live stage ≡ true → n ≤ steps_known stage)
    → steps_known stage ≤ steps_by n what reply
known_told (Live done) what reply n m other k l = live_told done what reply n m other k (l refl)
known_told Refused what reply n m other k l = zero_below (steps_by n what reply)
known_told Failed what reply n m other k l = zero_below (steps_by n what reply)
known_told NeedMark what reply n m other k l = zero_below (steps_by n what reply)
known_told Resync what reply n m other k l = zero_below (steps_by n what reply)
known_told (Leaving kept) what reply n m other k l = zero_below (steps_by n what reply)
known_told (Settled kept) what reply n m other k l = zero_below (steps_by n what reply)

live_learnt : (done : ℕ) (what : Ask) (reply : Reply) (n : ℕ) → may_await None (Live done) what ≡ true → (what ≡ ask.CommitConfirmed → ⊥)
    → steps_known (Live done) ≤ steps_by n what reply
    → steps_known (learnt None (Live done) what reply) ≤ steps_by n what reply
live_learnt done ask.OpenSession reply n m other k = grind (arith, nat_tests)
live_learnt done ask.LockRunning reply n m other k = grind (arith, nat_tests)
live_learnt done ask.LockCandidate reply n m other k = grind (arith, nat_tests)
live_learnt done ask.Edit reply n m other k = grind (arith, nat_tests)
live_learnt done ask.Validate reply n m other k = grind (arith, nat_tests)
live_learnt done ask.CommitConfirmed reply n m other k = absurd (other refl)
live_learnt done ask.Renew reply n m other k = grind (arith, nat_tests)
live_learnt done ask.Confirm reply n m other k = grind (arith, nat_tests)
live_learnt done ask.Cancel reply n m other k = grind (arith, nat_tests)
live_learnt done ask.HasMark reply n m other k = grind (arith, nat_tests)
live_learnt done ask.Discard reply n m other k = grind (arith, nat_tests)
live_learnt done ask.CloseSession reply n m other k = grind (arith, nat_tests)
live_learnt done ask.Resync reply n m other k = grind (arith, nat_tests)

-- what is learnt of a reply is a step that the link has come
pub known_learnt : (stage : Stage) (what : Ask) (reply : Reply) (n : ℕ) → may_await None stage what ≡ true
    → (what ≡ ask.CommitConfirmed → ⊥) → steps_known stage ≤ steps_by n what reply
    → steps_known (learnt None stage what reply) ≤ steps_by n what reply
known_learnt (Live done) what reply n m other k = live_learnt done what reply n m other k
known_learnt Refused what reply n m other k = absurd (let e : false ≡ true = m in cc)
known_learnt Failed what reply n m other k = absurd (let e : false ≡ true = m in cc)
known_learnt NeedMark what reply n m other k = absurd (let e : false ≡ true = m in cc)
known_learnt Resync what reply n m other k = absurd (let e : false ≡ true = m in cc)
known_learnt (Leaving kept) what reply n m other k = absurd (let e : false ≡ true = m in cc)
known_learnt (Settled kept) what reply n m other k = absurd (let e : false ≡ true = m in cc)

live_most : (done : ℕ) (what : Ask) (reply : Reply) (n : ℕ) → may_await None (Live done) what ≡ true → (what ≡ ask.CommitConfirmed → ⊥)
    → n ≤ steps_known (Live done) → is_live (learnt None (Live done) what reply) ≡ true
    → steps_by n what reply ≤ steps_known (learnt None (Live done) what reply)
live_most done ask.OpenSession reply n m other k l = grind (arith, nat_tests)
live_most done ask.LockRunning reply n m other k l = grind (arith, nat_tests)
live_most done ask.LockCandidate reply n m other k l = grind (arith, nat_tests)
live_most done ask.Edit reply n m other k l = grind (arith, nat_tests)
live_most done ask.Validate reply n m other k l = grind (arith, nat_tests)
live_most done ask.CommitConfirmed reply n m other k l = absurd (other refl)
live_most done ask.Renew reply n m other k l = grind (arith, nat_tests)
live_most done ask.Confirm reply n m other k l = grind (arith, nat_tests)
live_most done ask.Cancel reply n m other k l = grind (arith, nat_tests)
live_most done ask.HasMark reply n m other k l = grind (arith, nat_tests)
live_most done ask.Discard reply n m other k l = grind (arith, nat_tests)
live_most done ask.CloseSession reply n m other k l = grind (arith, nat_tests)
live_most done ask.Resync reply n m other k l = grind (arith, nat_tests)

-- and no more is known of it than what is learnt
pub known_most : (stage : Stage) (what : Ask) (reply : Reply) (n : ℕ) → may_await None stage what ≡ true → (what ≡ ask.CommitConfirmed → ⊥)
    → (is_live stage ≡ true → n ≤ steps_known stage)
    → is_live (learnt None stage what reply) ≡ true → steps_by n what reply ≤ steps_known (learnt None stage what reply)
known_most (Live done) what reply n m other k l = live_most done what reply n m other (k refl) l
known_most Refused what reply n m other k l = absurd (let e : false ≡ true = m in cc)
known_most Failed what reply n m other k l = absurd (let e : false ≡ true = m in cc)
known_most NeedMark what reply n m other k l = absurd (let e : false ≡ true = m in cc)
known_most Resync what reply n m other k l = absurd (let e : false ≡ true = m in cc)
known_most (Leaving kept) what reply n m other k l = absurd (let e : false ≡ true = m in cc)
known_most (Settled kept) what reply n m other k l = absurd (let e : false ≡ true = m in cc)

pub not_live : (stage : Stage) → is_live (broken_stage stage) ≡ false
not_live stage = grind (arith, nat_tests)

-- ---- after the verdict

live_edits : (none : Bool) (v : Verdict) (resync : ResyncState) (what : Ask) → cond none None (Some (verdict_ask v)) ≡ Some what
    → same_ask (asked_in_fact resync what) ask.Edit ≡ false
live_edits true v resync what n = absurd (let e : None ≡ Some what = n in cc)
live_edits false v resync what n = verdict_edits v what (let e : Some (verdict_ask v) ≡ Some what = n in cc)
  where
    verdict_edits : (v : Verdict) (what : Ask) → verdict_ask v ≡ what → same_ask (asked_in_fact resync what) ask.Edit ≡ false
    verdict_edits v what n = grind (arith, nat_tests)

resync_edits : (commit : Bool) (stage : ResyncStage) → same_ask (resync_ask commit stage) ask.Edit ≡ false
resync_edits commit stage = grind (arith, nat_tests)

-- no edit goes out
pub never_edits : (v : Verdict) (stage : Stage) (resync : ResyncState) (what : Ask) → next_ask (Some v) stage ≡ Some what
    → same_ask (asked_in_fact resync what) ask.Edit ≡ false
never_edits v (Live done) resync what n = live_edits (done == 0) v resync what n
never_edits v Refused resync what n = absurd (let e : None ≡ Some what = n in cc)
never_edits v Failed resync what n = grind (arith, nat_tests)
never_edits v NeedMark resync what n = grind (arith, nat_tests)
never_edits v Resync resync what n =
    let e : ask.Resync ≡ what = cc in
    ap (λ asked. same_ask (asked_in_fact resync asked) ask.Edit) (sym e) ∙ resync_edits resync.commit resync.stage
never_edits v (Leaving kept) resync what n = grind (arith, nat_tests)
never_edits v (Settled kept) resync what n = absurd (let e : None ≡ Some what = n in cc)
