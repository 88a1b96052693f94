-- How often the confirmed commit may still be asked of a device: it falls where it is asked, and never rises.
use Rattle.std.proofs.Common.{◌≡◌, ◌∙◌, ℕ, ◌+◌, ◌-◌, ◌≤◌, ◌==◌, Bool, true, false, not, ◌&&◌, cond, nat_lt, List, [], ◌∷◌, slice_get, slice_set, Option, Some, None, is_some, is_none, if◌then◌else◌, refl, ap, arith}
use Rattle.std.proofs.lemmas.Bool.Decides.{nat_tests}
use Rattle.nm_proto.specs.declared.ask.Ask.{Ask}
use Rattle.nm_proto.specs.declared.ask.Ask.TheVariants as ask
use Rattle.nm_proto.specs.declared.message.Reply.{Reply}
use Rattle.nm_proto.specs.declared.journal.Verdict.{Verdict}
use Rattle.nm_proto.specs.declared.journal.Verdict.TheVariants as verdict
use Rattle.nm_decider_stage.specs.declared.stage.Stage.{Stage}
use Rattle.nm_decider_stage.specs.declared.stage.Stage.TheVariants.{Live, Refused, Failed, NeedMark, Resync, Leaving, Settled}
use Rattle.nm_decider_stage.specs.Stages.{first_ask, next_ask, fits, is_first, learnt, learnt_other, refused, is_acknowledged, aborted_stage, broken_stage}
use Rattle.nm_decider.specs.declared.seat.Seat.{Seat}
use Rattle.nm_decider.specs.declared.course.NextAction.{NextAction}
use Rattle.nm_decider.specs.declared.course.NextAction.TheVariants as next
use Rattle.nm_decider.specs.Course.{CourseState, next_action, may_renew_seat, asked_next, renewed, decided_seat, with_sent_at, with_renewed_at, with_reply_at, with_answer, with_break_at, with_settled_at, with_found}
use Rattle.nm_decider.specs.Moves.{Move, moved, MayMove, IsDriven, sends_to, is_commit, next_of, asks_commit, commits_asked}
use Rattle.nm_decider.specs.Moves.Move.{Sent, Renewed, Answered, Broke, Decided, Found}
use Rattle.nm_decider.proofs.Moves.{at_set, at_map, set_there}
use Rattle.nm_decider.proofs.Actions.{asked, both}

abbrev stage_rank : Stage → Bool → ℕ
stage_rank (Live done) asked_it = if nat_lt done 5 then 1 else (if done == 5 && not asked_it then 1 else 0)
stage_rank Refused asked_it = 0
stage_rank Failed asked_it = 0
stage_rank NeedMark asked_it = 0
stage_rank Resync asked_it = 0
stage_rank (Leaving kept) asked_it = 0
stage_rank (Settled kept) asked_it = 0

abbrev seat_rank : Option Seat → ℕ
seat_rank None = 0
seat_rank (Some seat) = stage_rank seat.stage (is_commit seat.awaited)

abbrev Falls : Option Seat → Option Seat → Type 0
Falls before after = seat_rank after ≤ seat_rank before

abbrev once : Bool → ℕ
once b = if b then 1 else 0

-- ---- the tables

sent_rank : (v : Option Verdict) (stage : Stage) → once (is_commit (next_ask v stage)) + stage_rank stage (is_commit (next_ask v stage)) ≤ stage_rank stage false
sent_rank v stage = grind (arith, nat_tests)

renewed_rank : (stage : Stage) (b : Bool) → is_acknowledged stage ≡ true → stage_rank stage b ≤ 0
renewed_rank stage b h = grind (arith, nat_tests)

other_rank : (v : Option Verdict) (done : ℕ) (what : Ask) (reply : Reply) → stage_rank (learnt_other v done what reply) false ≤ stage_rank (Live done) false
other_rank None done what reply = omega arith
other_rank (Some verdict.Commit) done what reply = grind (arith, nat_tests)
other_rank (Some (verdict.Abort why)) done what reply = grind (arith, nat_tests)

-- what is awaited and isn't the next of the first requests is no confirmed commit at its turn
not_first_rank : (done : ℕ) (what : Ask) → is_first (first_ask done) what ≡ false → stage_rank (Live done) false ≤ stage_rank (Live done) (is_commit (Some what))
not_first_rank done ask.OpenSession h = omega arith
not_first_rank done ask.LockRunning h = omega arith
not_first_rank done ask.LockCandidate h = omega arith
not_first_rank done ask.Edit h = omega arith
not_first_rank done ask.Validate h = omega arith
not_first_rank done ask.CommitConfirmed h = grind (arith, nat_tests)
not_first_rank done ask.Renew h = omega arith
not_first_rank done ask.Confirm h = omega arith
not_first_rank done ask.Cancel h = omega arith
not_first_rank done ask.HasMark h = omega arith
not_first_rank done ask.Discard h = omega arith
not_first_rank done ask.CloseSession h = omega arith
not_first_rank done ask.Resync h = omega arith

first_rank : (done : ℕ) (what : Ask) → is_first (first_ask done) what ≡ true → stage_rank (Live (done + 1)) false ≤ stage_rank (Live done) (is_commit (Some what))
first_rank done ask.OpenSession h = grind (arith, nat_tests)
first_rank done ask.LockRunning h = grind (arith, nat_tests)
first_rank done ask.LockCandidate h = grind (arith, nat_tests)
first_rank done ask.Edit h = grind (arith, nat_tests)
first_rank done ask.Validate h = grind (arith, nat_tests)
first_rank done ask.CommitConfirmed h = grind (arith, nat_tests)
first_rank done ask.Renew h = grind (arith, nat_tests)
first_rank done ask.Confirm h = grind (arith, nat_tests)
first_rank done ask.Cancel h = grind (arith, nat_tests)
first_rank done ask.HasMark h = grind (arith, nat_tests)
first_rank done ask.Discard h = grind (arith, nat_tests)
first_rank done ask.CloseSession h = grind (arith, nat_tests)
first_rank done ask.Resync h = grind (arith, nat_tests)

refused_rank : (v : Option Verdict) (what : Ask) → stage_rank (refused v what) false ≤ 0
refused_rank v what = grind (arith, nat_tests)

live_rank : (v : Option Verdict) (done : ℕ) (what : Ask) (reply : Reply) (a b : Bool) → is_first (first_ask done) what ≡ a
    → stage_rank (cond a (cond b (Live (done + 1)) (refused v what)) (learnt_other v done what reply)) false ≤ stage_rank (Live done) (is_commit (Some what))
live_rank v done what reply true true h = first_rank done what h
live_rank v done what reply true false h = let low = refused_rank v what in omega (arith, low)
live_rank v done what reply false b h = let one = other_rank v done what reply in let two = not_first_rank done what h in omega (arith, one, two)

learnt_rank : (v : Option Verdict) (stage : Stage) (what : Ask) (reply : Reply) → stage_rank (learnt v stage what reply) false ≤ stage_rank stage (is_commit (Some what))
learnt_rank v (Live done) what reply = live_rank v done what reply (is_first (first_ask done) what) (fits what reply) refl
learnt_rank v Refused what reply = omega arith
learnt_rank v Failed what reply = grind (arith, nat_tests)
learnt_rank v NeedMark what reply = grind (arith, nat_tests)
learnt_rank v Resync what reply = omega arith
learnt_rank v (Leaving kept) what reply = grind (arith, nat_tests)
learnt_rank v (Settled kept) what reply = omega arith

broken_rank : (stage : Stage) → stage_rank (broken_stage stage) false ≤ 0
broken_rank stage = grind (arith, nat_tests)

aborted_rank : (stage : Stage) (awaits b : Bool) → stage_rank (aborted_stage awaits stage) b ≤ stage_rank stage b
aborted_rank stage awaits b = grind (arith, nat_tests)

rank_low : (o : Option Seat) → seat_rank o ≤ 1
rank_low None = omega arith
rank_low (Some seat) = low seat.stage (is_commit seat.awaited) where
  low : (stage : Stage) (b : Bool) → stage_rank stage b ≤ 1
  low stage b = grind (arith, nat_tests)

-- ---- the moves

fall_same : (o : Option Seat) → Falls o o
fall_same o = omega arith

fall_renewed : (course : CourseState) (device j : ℕ) (found : Option Seat) → slice_get course.seats (device - 1) ≡ found → may_renew_seat found ≡ true
    → Falls (slice_get course.seats j) (slice_get (with_renewed_at course device found).seats j)
fall_renewed course device j None e h = absurd (let g : false ≡ true = h in cc)
fall_renewed course device j (Some seat) e h =
    let one = both seat.is_member (is_none seat.awaited && is_acknowledged seat.stage) h in
    let two = both (is_none seat.awaited) (is_acknowledged seat.stage) one.1 in
    let low = renewed_rank seat.stage false two.1 in
    at_set Falls fall_same course.seats (device - 1) j seat (renewed seat) e (λ same. omega (arith, low))

fall_answer : (course : CourseState) (device j : ℕ) (reply : Reply) (seat : Seat) (awaited : Option Ask) → slice_get course.seats (device - 1) ≡ Some seat → seat.awaited ≡ awaited
    → Falls (slice_get course.seats j) (slice_get (with_answer course device reply seat awaited).seats j)
fall_answer course device j reply seat None e a = fall_same (slice_get course.seats j)
fall_answer course device j reply seat (Some what) e a =
    let table = learnt_rank course.verdict seat.stage what reply in
    let before : stage_rank seat.stage (is_commit seat.awaited) ≡ stage_rank seat.stage (is_commit (Some what)) = ap (λ o. stage_rank seat.stage (is_commit o)) a in
    at_set Falls fall_same course.seats (device - 1) j seat (record seat { stage = learnt course.verdict seat.stage what reply; awaited = None }) e (λ same. omega (arith, table, before))

fall_answered : (course : CourseState) (device j : ℕ) (reply : Reply) (found : Option Seat) → slice_get course.seats (device - 1) ≡ found
    → Falls (slice_get course.seats j) (slice_get (with_reply_at course device reply found).seats j)
fall_answered course device j reply None e = fall_same (slice_get course.seats j)
fall_answered course device j reply (Some seat) e = fall_answer course device j reply seat seat.awaited e refl

fall_broke : (course : CourseState) (device j : ℕ) (found : Option Seat) → slice_get course.seats (device - 1) ≡ found
    → Falls (slice_get course.seats j) (slice_get (with_break_at course device found).seats j)
fall_broke course device j None e = fall_same (slice_get course.seats j)
fall_broke course device j (Some seat) e =
    let low = broken_rank seat.stage in
    at_set Falls fall_same course.seats (device - 1) j seat (record seat { stage = broken_stage seat.stage; awaited = None }) e (λ same. omega (arith, low))

fall_decided : (v : Verdict) (seat : Seat) → Falls (Some seat) (Some (decided_seat v seat))
fall_decided verdict.Commit seat = fall_same (Some seat)
fall_decided (verdict.Abort why) seat = aborted_rank seat.stage (is_some seat.awaited) (is_commit seat.awaited)

fall_settled : (course : CourseState) (device j : ℕ) (kept : Bool) (seat : Seat) (stage : Stage) → slice_get course.seats (device - 1) ≡ Some seat
    → Falls (slice_get course.seats j) (slice_get (with_found course device kept seat stage).seats j)
fall_settled course device j kept seat (Live done) e = fall_same (slice_get course.seats j)
fall_settled course device j kept seat Refused e = fall_same (slice_get course.seats j)
fall_settled course device j kept seat Failed e = fall_same (slice_get course.seats j)
fall_settled course device j kept seat NeedMark e = fall_same (slice_get course.seats j)
fall_settled course device j kept seat (Leaving other) e = fall_same (slice_get course.seats j)
fall_settled course device j kept seat (Settled other) e = fall_same (slice_get course.seats j)
fall_settled course device j kept seat Resync e =
    at_set Falls fall_same course.seats (device - 1) j seat (record seat { stage = Settled kept; awaited = None }) e (λ same. omega arith)

fall_found : (course : CourseState) (device j : ℕ) (kept : Bool) (found : Option Seat) → slice_get course.seats (device - 1) ≡ found
    → Falls (slice_get course.seats j) (slice_get (with_settled_at course device kept found).seats j)
fall_found course device j kept None e = fall_same (slice_get course.seats j)
fall_found course device j kept (Some seat) e = fall_settled course device j kept seat seat.stage e

record SendsWhat (action : NextAction) (device : ℕ) : Type 0 where
  what : Ask
  tells : action ≡ next.Send device what

sends_what : (action : NextAction) (device : ℕ) → sends_to action device ≡ true → SendsWhat action device
sends_what next.Wait device h = absurd (let g : false ≡ true = h in cc)
sends_what (next.Decide v) device h = absurd (let g : false ≡ true = h in cc)
sends_what (next.Finish kept) device h = absurd (let g : false ≡ true = h in cc)
sends_what (next.Send other what) device h = let same : other ≡ device = grind (arith, nat_tests) in record { what = what; tells = ap (λ d. next.Send d what) same }

fall_sent_by : (course : CourseState) (other device : ℕ) (seat : Seat) (b : Bool) → (other == device) ≡ b → slice_get course.seats (other - 1) ≡ Some seat → seat.awaited ≡ None
    → once (b && is_commit (next_of course (slice_get course.seats (device - 1)))) + seat_rank (slice_get (slice_set course.seats (other - 1) (asked_next course.verdict seat)) (device - 1))
    ≤ seat_rank (slice_get course.seats (device - 1))
fall_sent_by course other device seat true e h quiet =
    let same : other ≡ device = grind (arith, nat_tests) in
    let place : device - 1 ≡ other - 1 = omega (arith, same) in
    let here : slice_get course.seats (device - 1) ≡ Some seat = ap (slice_get course.seats) place ∙ h in
    let set = slice_set course.seats (other - 1) (asked_next course.verdict seat) in
    let after : slice_get set (device - 1) ≡ Some (asked_next course.verdict seat) = ap (slice_get set) place ∙ set_there course.seats (other - 1) seat (asked_next course.verdict seat) h in
    let table = sent_rank course.verdict seat.stage in
    let before_is : seat_rank (slice_get course.seats (device - 1)) ≡ stage_rank seat.stage false = ap seat_rank here ∙ ap (λ o. stage_rank seat.stage (is_commit o)) quiet in
    let after_is : seat_rank (slice_get set (device - 1)) ≡ stage_rank seat.stage (is_commit (next_ask course.verdict seat.stage)) = ap seat_rank after in
    let count_is : once (true && is_commit (next_of course (slice_get course.seats (device - 1)))) ≡ once (is_commit (next_ask course.verdict seat.stage)) = ap (λ o. once (is_commit (next_of course o))) here in
    omega (arith, table, before_is, after_is, count_is)
fall_sent_by course other device seat false e h quiet =
    let table = sent_rank course.verdict seat.stage in
    let before_is : seat_rank (Some seat) ≡ stage_rank seat.stage false = ap (λ o. stage_rank seat.stage (is_commit o)) quiet in
    let falls = at_set Falls fall_same course.seats (other - 1) (device - 1) seat (asked_next course.verdict seat) h (λ same. omega (arith, table, before_is)) in
    omega (arith, falls)

fall_sent : (course : CourseState) (other device : ℕ) → sends_to (next_action course) other ≡ true
    → once (asks_commit device course (Sent other)) + seat_rank (slice_get (moved course (Sent other)).seats (device - 1)) ≤ seat_rank (slice_get course.seats (device - 1))
fall_sent course other device may =
    let w = sends_what (next_action course) other may in
    let a = asked course other w.what w.tells in
    let set : (moved course (Sent other)).seats ≡ slice_set course.seats (other - 1) (asked_next course.verdict a.seat) = ap (λ o. (with_sent_at course other o).seats) a.here in
    rw set (fall_sent_by course other device a.seat (other == device) refl a.here a.quiet)

falls : (device : ℕ) (course : CourseState) (move : Move) → MayMove course move
    → once (asks_commit device course move) + seat_rank (slice_get (moved course move).seats (device - 1)) ≤ seat_rank (slice_get course.seats (device - 1))
falls device course (Sent other) may = fall_sent course other device may
falls device course (Renewed other) may =
    let one = both (is_none course.verdict) (is_none course.trouble && may_renew_seat (slice_get course.seats (other - 1))) may in
    let two = both (is_none course.trouble) (may_renew_seat (slice_get course.seats (other - 1))) one.1 in
    let f = fall_renewed course other (device - 1) (slice_get course.seats (other - 1)) refl two.1 in omega (arith, f)
falls device course (Answered other reply) may = let f = fall_answered course other (device - 1) reply (slice_get course.seats (other - 1)) refl in omega (arith, f)
falls device course (Broke other) may = let f = fall_broke course other (device - 1) (slice_get course.seats (other - 1)) refl in omega (arith, f)
falls device course (Decided v) may = let f = at_map Falls fall_same (decided_seat v) (fall_decided v) course.seats (device - 1) in omega (arith, f)
falls device course (Found other kept) may = let f = fall_found course other (device - 1) kept (slice_get course.seats (other - 1)) refl in omega (arith, f)

asked_most : (device : ℕ) (course : CourseState) (moves : List Move) → IsDriven course moves → commits_asked device course moves ≤ seat_rank (slice_get course.seats (device - 1))
asked_most device course [] driven = omega arith
asked_most device course (move ∷ moves) driven =
    let now = falls device course move driven.0 in
    let later = asked_most device (moved course move) moves driven.1 in
    omega (arith, now, later)

-- at most once in a whole course
pub asked_once : (device : ℕ) (course : CourseState) (moves : List Move) → IsDriven course moves → commits_asked device course moves ≤ 1
asked_once device course moves driven =
    let most = asked_most device course moves driven in
    let low = rank_low (slice_get course.seats (device - 1)) in
    omega (arith, most, low)
