-- What is current in the first course is the first link, at each event of a device of a change set.
use Rattle.std.proofs.Common.{◌≡◌, ◌∙◌, ℕ, ◌+◌, ◌≤◌, Bool, true, false, length, [], Option, Some, None, refl, sym, ap, arith}
use Rattle.std.proofs.lemmas.Bool.Decides.{nat_tests}
use Rattle.std.proofs.lemmas.Option.{same_Some}
use Rattle.nm_proto.specs.declared.ask.Ask.{Ask}
use Rattle.nm_proto.specs.declared.ask.Ask.TheVariants as ask
use Rattle.nm_proto.specs.declared.message.Request.{Request}
use Rattle.nm_proto.specs.declared.message.Reply.{Reply}
use Rattle.nm_proto.specs.declared.journal.Verdict.{Verdict}
use Rattle.nm_proto.specs.declared.journal.Verdict.TheVariants as verdict
use Rattle.nm_decider_stage.specs.declared.stage.Stage.{Stage}
use Rattle.nm_decider_stage.specs.declared.stage.Stage.TheVariants.{Live, Refused, Failed, NeedMark, Resync, Leaving, Settled}
use Rattle.nm_decider_stage.specs.Stages.{aborted_stage, broken_stage, learnt, next_ask}
use Rattle.nm_resync.specs.declared.resync.ResyncStage.{ResyncStage}
use Rattle.nm_resync.specs.Resync.{ResyncState, resync_ask}
use Rattle.nm_wire.specs.Asks.{same_ask}
use Rattle.nm_wire.specs.Wire.{WireState, link_at, sent_at}
use Rattle.nm_manager.specs.Slot.{asked_in_fact, gone, opens}
use Rattle.nm_safety.proofs.Tables.{found_stage}
use Rattle.nm_safety.proofs.Wires.{changed_current}
use Rattle.nm_commit_laws.specs.Standing.{stands_at}
use Rattle.nm_commit_laws.specs.RefusesSupport.{IsFirst, is_at_first}

-- ---- stages

mark_first : (decided : Option Verdict) (what : Ask) (reply : Reply) → is_at_first (learnt decided NeedMark what reply) ≡ false
mark_first decided what reply = grind (arith, nat_tests)

leaving_first : (decided : Option Verdict) (kept : Bool) (what : Ask) (reply : Reply)
    → is_at_first (learnt decided (Leaving kept) what reply) ≡ false
leaving_first decided kept what reply = grind (arith, nat_tests)

pub gone_first : {T : Type 0} (stage : Stage) → is_at_first stage ≡ false → is_at_first stage ≡ true → T
gone_first stage e l = absurd (let g : false ≡ true = sym e ∙ l in cc)

-- no stage leads back to the first course
pub learnt_first : (decided : Option Verdict) (stage : Stage) (what : Ask) (reply : Reply)
    → is_at_first (learnt decided stage what reply) ≡ true → is_at_first stage ≡ true
learnt_first decided (Live done) what reply e = refl
learnt_first decided Failed what reply e = refl
learnt_first decided Refused what reply e = e
learnt_first decided Resync what reply e = e
learnt_first decided (Settled kept) what reply e = e
learnt_first decided NeedMark what reply e = gone_first (learnt decided NeedMark what reply) (mark_first decided what reply) e
learnt_first decided (Leaving kept) what reply e =
    gone_first (learnt decided (Leaving kept) what reply) (leaving_first decided kept what reply) e

pub aborted_first : (awaits : Bool) (stage : Stage) → is_at_first (aborted_stage awaits stage) ≡ true → is_at_first stage ≡ true
aborted_first awaits (Live done) e = refl
aborted_first awaits Failed e = refl
aborted_first awaits Refused e = e
aborted_first awaits NeedMark e = e
aborted_first awaits Resync e = e
aborted_first awaits (Leaving kept) e = e
aborted_first awaits (Settled kept) e = e

pub found_first : (known : Option Bool) → is_at_first (found_stage known) ≡ false
found_first None = refl
found_first (Some kept) = refl

pub broken_first : (stage : Stage) → is_at_first (broken_stage stage) ≡ false
broken_first stage = grind (arith, nat_tests)

-- ---- a session is asked for at the beginning of the first course, before the verdict

live_begins : (decided : Option Verdict) (done : ℕ) (resync : ResyncState) (what : Ask) → next_ask decided (Live done) ≡ Some what
    → opens (asked_in_fact resync what) ≡ true → (decided ≡ None) × (done ≡ 0)
live_begins None done resync what n o = (refl, none_begins done resync what n o)
  where
    none_begins : (done : ℕ) (resync : ResyncState) (what : Ask) → next_ask None (Live done) ≡ Some what
        → opens (asked_in_fact resync what) ≡ true → done ≡ 0
    none_begins done resync what n o = grind (arith, nat_tests)
live_begins (Some verdict.Commit) done resync what n o = absurd (never done resync what n o)
  where
    never : (done : ℕ) (resync : ResyncState) (what : Ask) → next_ask (Some verdict.Commit) (Live done) ≡ Some what
        → opens (asked_in_fact resync what) ≡ true → ⊥
    never done resync what n o = grind (arith, nat_tests)
live_begins (Some (verdict.Abort why)) done resync what n o = absurd (never why done resync what n o)
  where
    never : (why : _) (done : ℕ) (resync : ResyncState) (what : Ask) → next_ask (Some (verdict.Abort why)) (Live done) ≡ Some what
        → opens (asked_in_fact resync what) ≡ true → ⊥
    never why done resync what n o = grind (arith, nat_tests)

failed_never : (decided : Option Verdict) (resync : ResyncState) (what : Ask) → next_ask decided Failed ≡ Some what
    → opens (asked_in_fact resync what) ≡ true → ⊥
failed_never decided resync what n o = grind (arith, nat_tests)

-- there was no link before, where the course begins
abbrev pub Unmade : Option Verdict → Stage → WireState → Type 0
Unmade decided stage wire = decided ≡ None → stage ≡ Live 0 → wire.links ≡ []

pub begins_first : (decided : Option Verdict) (stage : Stage) (resync : ResyncState) (what : Ask) → next_ask decided stage ≡ Some what
    → opens (asked_in_fact resync what) ≡ true → is_at_first stage ≡ true → (decided ≡ None) × (stage ≡ Live 0)
begins_first decided (Live done) resync what n o f =
    let b = live_begins decided done resync what n o in (b.0, ap Live b.1)
begins_first decided Failed resync what n o f = absurd (failed_never decided resync what n o)
begins_first decided Refused resync what n o f = absurd (let g : false ≡ true = f in cc)
begins_first decided NeedMark resync what n o f = absurd (let g : false ≡ true = f in cc)
begins_first decided Resync resync what n o f = absurd (let g : false ≡ true = f in cc)
begins_first decided (Leaving kept) resync what n o f = absurd (let g : false ≡ true = f in cc)
begins_first decided (Settled kept) resync what n o f = absurd (let g : false ≡ true = f in cc)

-- ---- what is current after a request goes out

sent_same : (wire : WireState) (request : Request) (current : Option ℕ) → (sent_at wire request current).current ≡ wire.current
sent_same wire request None = refl
sent_same wire request (Some number) = changed_current _ wire number (link_at wire number)

pub gone_current : (wire : WireState) (request : Request) → (gone false wire request).current ≡ wire.current
gone_current wire request = sent_same wire request wire.current

pub turned_first : (decided : Option Verdict) (stage : Stage) (resync : ResyncState) (what : Ask) (wire : WireState) (request : Request)
    → next_ask decided stage ≡ Some what → Unmade decided stage wire → IsFirst stage wire → (new : Bool)
    → opens (asked_in_fact resync what) ≡ new → IsFirst stage (gone new wire request)
turned_first decided stage resync what wire request n unmade first false o f number e =
    first f number (sym (gone_current wire request) ∙ e)
turned_first decided stage resync what wire request n unmade first true o f number e =
    let b = begins_first decided stage resync what n o f in
    sym (same_Some (length wire.links + 1) number e) ∙ ap (λ links. length links + 1) (unmade b.0 b.1)

-- ---- what is asked

live_commits : (decided : Option Verdict) (done : ℕ) (resync : ResyncState) (what : Ask) → next_ask decided (Live done) ≡ Some what
    → same_ask (asked_in_fact resync what) ask.CommitConfirmed ≡ true → 1 ≤ stands_at (Live done) resync.stage
live_commits None done resync what n o = grind (arith, nat_tests)
live_commits (Some verdict.Commit) done resync what n o = grind (arith, nat_tests)
live_commits (Some (verdict.Abort why)) done resync what n o = grind (arith, nat_tests)

once_resync : (decided : Option Verdict) (what : Ask) → next_ask decided Resync ≡ Some what → what ≡ ask.Resync
once_resync decided what n = grind (arith, nat_tests)

resync_commits : (commit : Bool) (stage : ResyncStage) → same_ask (resync_ask commit stage) ask.CommitConfirmed ≡ true → ⊥
resync_commits commit stage o = grind (arith, nat_tests)

resync_cancels : (commit : Bool) (stage : ResyncStage) → same_ask (resync_ask commit stage) ask.Cancel ≡ true → 1 ≤ stands_at Resync stage
resync_cancels commit stage o = grind (arith, nat_tests)

failed_commits : (decided : Option Verdict) (resync : ResyncState) (what : Ask) → next_ask decided Failed ≡ Some what
    → same_ask (asked_in_fact resync what) ask.CommitConfirmed ≡ true → ⊥
failed_commits decided resync what n o = grind (arith, nat_tests)

mark_neither : (decided : Option Verdict) (resync : ResyncState) (what : Ask) → next_ask decided NeedMark ≡ Some what
    → same_ask (asked_in_fact resync what) ask.HasMark ≡ true
mark_neither decided resync what n = grind (arith, nat_tests)

leaving_neither : (decided : Option Verdict) (kept : Bool) (resync : ResyncState) (what : Ask) → next_ask decided (Leaving kept) ≡ Some what
    → same_ask (asked_in_fact resync what) ask.CloseSession ≡ true
leaving_neither decided kept resync what n = grind (arith, nat_tests)

apart_mark : (what : Ask) → same_ask what ask.HasMark ≡ true
    → (same_ask what ask.CommitConfirmed ≡ false) × (same_ask what ask.Cancel ≡ false)
apart_mark what e = (one what e, other what e)
  where
    one : (what : Ask) → same_ask what ask.HasMark ≡ true → same_ask what ask.CommitConfirmed ≡ false
    one what e = grind (arith, nat_tests)

    other : (what : Ask) → same_ask what ask.HasMark ≡ true → same_ask what ask.Cancel ≡ false
    other what e = grind (arith, nat_tests)

apart_close : (what : Ask) → same_ask what ask.CloseSession ≡ true
    → (same_ask what ask.CommitConfirmed ≡ false) × (same_ask what ask.Cancel ≡ false)
apart_close what e = (one what e, other what e)
  where
    one : (what : Ask) → same_ask what ask.CloseSession ≡ true → same_ask what ask.CommitConfirmed ≡ false
    one what e = grind (arith, nat_tests)

    other : (what : Ask) → same_ask what ask.CloseSession ≡ true → same_ask what ask.Cancel ≡ false
    other what e = grind (arith, nat_tests)

never : {T : Type 0} (b : Bool) → b ≡ false → b ≡ true → T
never b e f = absurd (let g : false ≡ true = sym e ∙ f in cc)

-- the confirmed commit is asked for where candidate is the session's own
pub commits_stand : (decided : Option Verdict) (stage : Stage) (resync : ResyncState) (what : Ask) → next_ask decided stage ≡ Some what
    → same_ask (asked_in_fact resync what) ask.CommitConfirmed ≡ true → 1 ≤ stands_at stage resync.stage
commits_stand decided (Live done) resync what n o = live_commits decided done resync what n o
commits_stand decided Refused resync what n o = absurd (let g : None ≡ Some what = n in cc)
commits_stand decided Failed resync what n o = absurd (failed_commits decided resync what n o)
commits_stand decided NeedMark resync what n o = never _ (apart_mark (asked_in_fact resync what) (mark_neither decided resync what n)).0 o
commits_stand decided Resync resync what n o =
    absurd (resync_commits resync.commit resync.stage
    (sym (ap (λ a. same_ask (asked_in_fact resync a) ask.CommitConfirmed) (once_resync decided what n)) ∙ o))
commits_stand decided (Leaving kept) resync what n o =
    never _ (apart_close (asked_in_fact resync what) (leaving_neither decided kept resync what n)).0 o
commits_stand decided (Settled kept) resync what n o = absurd (let g : None ≡ Some what = n in cc)

-- and so is a cancel, but in the first course
pub cancels_stand : (decided : Option Verdict) (stage : Stage) (resync : ResyncState) (what : Ask) → next_ask decided stage ≡ Some what
    → same_ask (asked_in_fact resync what) ask.Cancel ≡ true → is_at_first stage ≡ false → 1 ≤ stands_at stage resync.stage
cancels_stand decided (Live done) resync what n o f = absurd (let g : true ≡ false = f in cc)
cancels_stand decided Refused resync what n o f = absurd (let g : None ≡ Some what = n in cc)
cancels_stand decided Failed resync what n o f = absurd (let g : true ≡ false = f in cc)
cancels_stand decided NeedMark resync what n o f = never _ (apart_mark (asked_in_fact resync what) (mark_neither decided resync what n)).1 o
cancels_stand decided Resync resync what n o f =
    resync_cancels resync.commit resync.stage
    (sym (ap (λ a. same_ask (asked_in_fact resync a) ask.Cancel) (once_resync decided what n)) ∙ o)
cancels_stand decided (Leaving kept) resync what n o f =
    never _ (apart_close (asked_in_fact resync what) (leaving_neither decided kept resync what n)).1 o
cancels_stand decided (Settled kept) resync what n o f = absurd (let g : None ≡ Some what = n in cc)
