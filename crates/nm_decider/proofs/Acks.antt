-- What makes a device acknowledge.
use Rattle.std.proofs.Common.{◌≡◌, ◌∙◌, ℕ, zero, suc, ◌+◌, ◌-◌, ◌==◌, Bool, true, false, ◌&&◌, ◌||◌, cond, List, [], ◌∷◌, slice_get, Option, Some, None, is_some, refl, sym, ap, arith}
use Rattle.std.proofs.lemmas.Bool.Decides.{nat_tests}
use Rattle.nm_proto.specs.declared.ask.Ask.{Ask}
use Rattle.nm_proto.specs.declared.ask.Ask.TheVariants as ask
use Rattle.nm_proto.specs.declared.message.Reply.{Reply}
use Rattle.nm_proto.specs.declared.journal.Verdict.{Verdict}
use Rattle.nm_proto.specs.declared.journal.Verdict.TheVariants as verdict
use Rattle.nm_decider_stage.specs.declared.stage.Stage.{Stage}
use Rattle.nm_decider_stage.specs.declared.stage.Stage.TheVariants.{Live, Refused, Failed, NeedMark, Resync, Leaving, Settled}
use Rattle.nm_decider_stage.specs.Stages.{first_ask, fits, is_first, learnt, learnt_other, learnt_failed, learnt_mark, learnt_leaving, refused, is_acknowledged, aborted_stage, broken_stage}
use Rattle.nm_decider.specs.declared.seat.Seat.{Seat}
use Rattle.nm_decider.specs.Course.{CourseState, seat_count, new_course, seats_from, asked_next, renewed, decided_seat, with_sent_at, with_renewed_at, with_reply_at, with_answer, with_break_at, with_settled_at, with_found}
use Rattle.nm_decider.specs.Moves.{Move, moved, moved_on, is_commit, awaited_of, does_commit, commit_done, has_acknowledged}
use Rattle.nm_decider.specs.Moves.Move.{Sent, Renewed, Answered, Broke, Decided, Found}
use Rattle.nm_decider.proofs.Moves.{at_set, at_map}

-- who has acknowledged after it had before, or does so by this
abbrev Grows : Bool → Option Seat → Option Seat → Type 0
Grows does before after = has_acknowledged after ≡ true → (has_acknowledged before || does) ≡ true

or_left : (a b : Bool) → a ≡ true → (a || b) ≡ true
or_left true b h = refl
or_left false b h = absurd (let g : false ≡ true = h in cc)

unchanged : (does : Bool) (o : Option Seat) → Grows does o o
unchanged does o h = or_left (has_acknowledged o) does h

-- ---- the tables

other_ack : (v : Option Verdict) (done : ℕ) (what : Ask) (reply : Reply) → is_acknowledged (learnt_other v done what reply) ≡ true → is_acknowledged (Live done) ≡ true
other_ack None done what reply h = h
other_ack (Some verdict.Commit) done what reply h = grind (arith, nat_tests)
other_ack (Some (verdict.Abort why)) done what reply h = grind (arith, nat_tests)

-- the last of the first requests is the confirmed commit
last_ack : (done : ℕ) (what : Ask) → is_first (first_ask done) what ≡ true → is_acknowledged (Live (done + 1)) ≡ true → what ≡ ask.CommitConfirmed
last_ack done ask.OpenSession h k = absurd (grind (arith, nat_tests))
last_ack done ask.LockRunning h k = absurd (grind (arith, nat_tests))
last_ack done ask.LockCandidate h k = absurd (grind (arith, nat_tests))
last_ack done ask.Edit h k = absurd (grind (arith, nat_tests))
last_ack done ask.Validate h k = absurd (grind (arith, nat_tests))
last_ack done ask.CommitConfirmed h k = refl
last_ack done ask.Renew h k = absurd (grind (arith, nat_tests))
last_ack done ask.Confirm h k = absurd (grind (arith, nat_tests))
last_ack done ask.Cancel h k = absurd (grind (arith, nat_tests))
last_ack done ask.HasMark h k = absurd (grind (arith, nat_tests))
last_ack done ask.Discard h k = absurd (grind (arith, nat_tests))
last_ack done ask.CloseSession h k = absurd (grind (arith, nat_tests))
last_ack done ask.Resync h k = absurd (grind (arith, nat_tests))

refused_ack : (v : Option Verdict) (what : Ask) → is_acknowledged (refused v what) ≡ false
refused_ack v what = grind (arith, nat_tests)

never_both : (b : Bool) → b ≡ false → b ≡ true → ⊥
never_both true h k = cc
never_both false h k = cc

or_right : (a b : Bool) → b ≡ true → (a || b) ≡ true
or_right true b h = refl
or_right false b h = h

done_by : (what : Ask) (reply : Reply) → what ≡ ask.CommitConfirmed → fits what reply ≡ true → (is_commit (Some what) && fits ask.CommitConfirmed reply) ≡ true
done_by what reply e h = ap (λ w. is_commit (Some w) && fits ask.CommitConfirmed reply) e ∙ (sym (ap (λ w. fits w reply) e) ∙ h)

live_ack : (v : Option Verdict) (done : ℕ) (what : Ask) (reply : Reply) (a b : Bool) → is_first (first_ask done) what ≡ a → fits what reply ≡ b
    → is_acknowledged (cond a (cond b (Live (done + 1)) (refused v what)) (learnt_other v done what reply)) ≡ true
    → (is_acknowledged (Live done) || (is_commit (Some what) && fits ask.CommitConfirmed reply)) ≡ true
live_ack v done what reply true true h k l = or_right (is_acknowledged (Live done)) (is_commit (Some what) && fits ask.CommitConfirmed reply) (done_by what reply (last_ack done what h l) k)
live_ack v done what reply true false h k l = absurd (never_both (is_acknowledged (refused v what)) (refused_ack v what) l)
live_ack v done what reply false b h k l = or_left (is_acknowledged (Live done)) (is_commit (Some what) && fits ask.CommitConfirmed reply) (other_ack v done what reply l)

failed_ack : (v : Option Verdict) (what : Ask) → is_acknowledged (learnt_failed v what) ≡ false
failed_ack v what = grind (arith, nat_tests)

mark_ack : (v : Option Verdict) (what : Ask) (reply : Reply) → is_acknowledged (learnt_mark v what reply) ≡ false
mark_ack v what reply = grind (arith, nat_tests)

leaving_ack : (v : Option Verdict) (kept : Bool) (what : Ask) → is_acknowledged (learnt_leaving v kept what) ≡ false
leaving_ack v kept what = grind (arith, nat_tests)

learnt_ack : (v : Option Verdict) (stage : Stage) (what : Ask) (reply : Reply) → is_acknowledged (learnt v stage what reply) ≡ true
    → (is_acknowledged stage || (is_commit (Some what) && fits ask.CommitConfirmed reply)) ≡ true
learnt_ack v (Live done) what reply h = live_ack v done what reply (is_first (first_ask done) what) (fits what reply) refl refl h
learnt_ack v Refused what reply h = absurd (let g : false ≡ true = h in cc)
learnt_ack v Failed what reply h = absurd (never_both (is_acknowledged (learnt_failed v what)) (failed_ack v what) h)
learnt_ack v NeedMark what reply h = absurd (never_both (is_acknowledged (learnt_mark v what reply)) (mark_ack v what reply) h)
learnt_ack v Resync what reply h = absurd (let g : false ≡ true = h in cc)
learnt_ack v (Leaving kept) what reply h = absurd (never_both (is_acknowledged (learnt_leaving v kept what)) (leaving_ack v kept what) h)
learnt_ack v (Settled kept) what reply h = absurd (let g : false ≡ true = h in cc)

broken_ack : (stage : Stage) → is_acknowledged (broken_stage stage) ≡ false
broken_ack stage = grind (arith, nat_tests)

aborted_ack : (stage : Stage) (awaits : Bool) → is_acknowledged (aborted_stage awaits stage) ≡ true → is_acknowledged stage ≡ true
aborted_ack stage awaits h = grind (arith, nat_tests)

-- ---- the moves

grow_sent : (course : CourseState) (device j : ℕ) (found : Option Seat) → slice_get course.seats (device - 1) ≡ found → Grows false (slice_get course.seats j) (slice_get (with_sent_at course device found).seats j)
grow_sent course device j None e = unchanged false (slice_get course.seats j)
grow_sent course device j (Some seat) e = at_set (Grows false) (unchanged false) course.seats (device - 1) j seat (asked_next course.verdict seat) e (λ same. unchanged false (Some seat))

grow_renewed : (course : CourseState) (device j : ℕ) (found : Option Seat) → slice_get course.seats (device - 1) ≡ found → Grows false (slice_get course.seats j) (slice_get (with_renewed_at course device found).seats j)
grow_renewed course device j None e = unchanged false (slice_get course.seats j)
grow_renewed course device j (Some seat) e = at_set (Grows false) (unchanged false) course.seats (device - 1) j seat (renewed seat) e (λ same. unchanged false (Some seat))

grow_answer : (course : CourseState) (other place : ℕ) (reply : Reply) (seat : Seat) (awaited : Option Ask) → slice_get course.seats (other - 1) ≡ Some seat → seat.awaited ≡ awaited
    → Grows (does_commit place course (Answered other reply)) (slice_get course.seats place) (slice_get (with_answer course other reply seat awaited).seats place)
grow_answer course other place reply seat None e a = unchanged (does_commit place course (Answered other reply)) (slice_get course.seats place)
grow_answer course other place reply seat (Some what) e a =
    let does = does_commit place course (Answered other reply) in
    at_set (Grows does) (unchanged does) course.seats (other - 1) place seat (record seat { stage = learnt course.verdict seat.stage what reply; awaited = None }) e
    (λ same h.
    let test : (other - 1 == place) ≡ true = grind (arith, nat_tests) in
    let there : awaited_of (slice_get course.seats place) ≡ Some what = ap (λ i. awaited_of (slice_get course.seats i)) (sym same) ∙ ap awaited_of e ∙ a in
    let is : does ≡ (is_commit (Some what) && fits ask.CommitConfirmed reply) =
    ap (λ b. b && (is_commit (awaited_of (slice_get course.seats place)) && fits ask.CommitConfirmed reply)) test
    ∙ ap (λ o. is_commit o && fits ask.CommitConfirmed reply) there in
    ap (λ b. is_acknowledged seat.stage || b) is ∙ learnt_ack course.verdict seat.stage what reply h)

grow_answered : (course : CourseState) (other place : ℕ) (reply : Reply) (found : Option Seat) → slice_get course.seats (other - 1) ≡ found
    → Grows (does_commit place course (Answered other reply)) (slice_get course.seats place) (slice_get (with_reply_at course other reply found).seats place)
grow_answered course other place reply None e = unchanged (does_commit place course (Answered other reply)) (slice_get course.seats place)
grow_answered course other place reply (Some seat) e = grow_answer course other place reply seat seat.awaited e refl

grow_broke : (course : CourseState) (device j : ℕ) (found : Option Seat) → slice_get course.seats (device - 1) ≡ found → Grows false (slice_get course.seats j) (slice_get (with_break_at course device found).seats j)
grow_broke course device j None e = unchanged false (slice_get course.seats j)
grow_broke course device j (Some seat) e =
    at_set (Grows false) (unchanged false) course.seats (device - 1) j seat (record seat { stage = broken_stage seat.stage; awaited = None }) e
    (λ same h. let g : false ≡ true = sym (broken_ack seat.stage) ∙ h in absurd cc)

grow_decided : (v : Verdict) (seat : Seat) → Grows false (Some seat) (Some (decided_seat v seat))
grow_decided verdict.Commit seat h = or_left (is_acknowledged seat.stage) false h
grow_decided (verdict.Abort why) seat h = or_left (is_acknowledged seat.stage) false (aborted_ack seat.stage (is_some seat.awaited) h)

grow_settled : (course : CourseState) (device j : ℕ) (kept : Bool) (seat : Seat) (stage : Stage) → slice_get course.seats (device - 1) ≡ Some seat
    → Grows false (slice_get course.seats j) (slice_get (with_found course device kept seat stage).seats j)
grow_settled course device j kept seat (Live done) e = unchanged false (slice_get course.seats j)
grow_settled course device j kept seat Refused e = unchanged false (slice_get course.seats j)
grow_settled course device j kept seat Failed e = unchanged false (slice_get course.seats j)
grow_settled course device j kept seat NeedMark e = unchanged false (slice_get course.seats j)
grow_settled course device j kept seat (Leaving other) e = unchanged false (slice_get course.seats j)
grow_settled course device j kept seat (Settled other) e = unchanged false (slice_get course.seats j)
grow_settled course device j kept seat Resync e =
    at_set (Grows false) (unchanged false) course.seats (device - 1) j seat (record seat { stage = Settled kept; awaited = None }) e (λ same h. let g : false ≡ true = h in absurd cc)

grow_found : (course : CourseState) (device j : ℕ) (kept : Bool) (found : Option Seat) → slice_get course.seats (device - 1) ≡ found
    → Grows false (slice_get course.seats j) (slice_get (with_settled_at course device kept found).seats j)
grow_found course device j kept None e = unchanged false (slice_get course.seats j)
grow_found course device j kept (Some seat) e = grow_settled course device j kept seat seat.stage e

grows : (place : ℕ) (course : CourseState) (move : Move) → Grows (does_commit place course move) (slice_get course.seats place) (slice_get (moved course move).seats place)
grows place course (Sent other) = grow_sent course other place (slice_get course.seats (other - 1)) refl
grows place course (Renewed other) = grow_renewed course other place (slice_get course.seats (other - 1)) refl
grows place course (Answered other reply) = grow_answered course other place reply (slice_get course.seats (other - 1)) refl
grows place course (Broke other) = grow_broke course other place (slice_get course.seats (other - 1)) refl
grows place course (Decided v) = at_map (Grows false) (unchanged false) (decided_seat v) (grow_decided v) course.seats place
grows place course (Found other kept) = grow_found course other place kept (slice_get course.seats (other - 1)) refl

combined : (x m d r : Bool) → (m ≡ true → (x || d) ≡ true) → (m || r) ≡ true → (x || (d || r)) ≡ true
combined true m d r h k = refl
combined false m true r h k = refl
combined false true false r h k = absurd (let g : false ≡ true = h refl in cc)
combined false false false r h k = k

acked : (place : ℕ) (course : CourseState) (moves : List Move) → has_acknowledged (slice_get (moved_on course moves).seats place) ≡ true
    → (has_acknowledged (slice_get course.seats place) || commit_done place course moves) ≡ true
acked place course [] h = or_left (has_acknowledged (slice_get course.seats place)) false h
acked place course (move ∷ moves) h =
    combined (has_acknowledged (slice_get course.seats place)) (has_acknowledged (slice_get (moved course move).seats place)) (does_commit place course move)
    (commit_done place (moved course move) moves) (grows place course move) (acked place (moved course move) moves h)

fresh : (devices device count place : ℕ) → has_acknowledged (slice_get (seats_from devices (Live 0) device count) place) ≡ false
unfolding seats_from
fresh devices device zero place = refl
fresh devices device (suc count) zero = refl
fresh devices device (suc count) (suc place) = fresh devices (device + 1) count place

right : (a b : Bool) → a ≡ false → (a || b) ≡ true → b ≡ true
right true b h k = absurd (let g : true ≡ false = h in cc)
right false b h k = k

-- from the beginning, who has acknowledged answered Done to the confirmed commit
pub acked_done : (place change devices : ℕ) (moves : List Move) → has_acknowledged (slice_get (moved_on (new_course change devices) moves).seats place) ≡ true
    → commit_done place (new_course change devices) moves ≡ true
acked_done place change devices moves h =
    right (has_acknowledged (slice_get (new_course change devices).seats place)) (commit_done place (new_course change devices) moves) (fresh devices 1 seat_count place)
    (acked place (new_course change devices) moves h)
