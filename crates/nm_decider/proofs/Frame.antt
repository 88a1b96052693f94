-- What stays of a seat over every move.
use Rattle.std.proofs.Common.{◌≡◌, ◌∙◌, ℕ, ◌-◌, Bool, slice_get, Option, Some, None, is_some, refl, sym, ap, arith}
use Rattle.std.proofs.lemmas.Bool.Decides.{nat_tests}
use Rattle.nm_proto.specs.declared.ask.Ask.{Ask}
use Rattle.nm_proto.specs.declared.message.Reply.{Reply}
use Rattle.nm_proto.specs.declared.journal.Verdict.{Verdict}
use Rattle.nm_proto.specs.declared.journal.Verdict.TheVariants as verdict
use Rattle.nm_decider_stage.specs.declared.stage.Stage.{Stage}
use Rattle.nm_decider_stage.specs.declared.stage.Stage.TheVariants.{Live, Refused, Failed, NeedMark, Resync, Leaving, Settled}
use Rattle.nm_decider_stage.specs.Stages.{learnt, aborted_stage, broken_stage}
use Rattle.nm_decider.specs.declared.seat.Seat.{Seat}
use Rattle.nm_decider.specs.Course.{CourseState, asked_next, renewed, decided_seat, with_sent_at, with_renewed_at, with_reply_at, with_answer, with_break_at, with_settled_at, with_found}
use Rattle.nm_decider.specs.Moves.{Move, moved, settled_in, settled_of, member_of}
use Rattle.nm_decider.specs.Moves.Move.{Sent, Renewed, Answered, Broke, Decided, Found}
use Rattle.nm_decider.proofs.Moves.{at_set, at_map}

-- a relation of what stood at a place and what stands there now, which each move of one seat keeps
pub record Keeps (R : Option Seat → Option Seat → Type 0) : Type 0 where
  pub same : (o : Option Seat) → R o o
  pub sent : (v : Option Verdict) (seat : Seat) → R (Some seat) (Some (asked_next v seat))
  pub renews : (seat : Seat) → R (Some seat) (Some (renewed seat))
  pub answered : (v : Option Verdict) (seat : Seat) (what : Ask) (reply : Reply) → R (Some seat) (Some (record seat { stage = learnt v seat.stage what reply; awaited = None }))
  pub broke : (seat : Seat) → R (Some seat) (Some (record seat { stage = broken_stage seat.stage; awaited = None }))
  pub decided : (v : Verdict) (seat : Seat) → R (Some seat) (Some (decided_seat v seat))
  pub found : (seat : Seat) (kept : Bool) → seat.stage ≡ Resync → R (Some seat) (Some (record seat { stage = Settled kept; awaited = None }))

module _ (R : Option Seat → Option Seat → Type 0) (keeps : Keeps R) where
  at_sent : (course : CourseState) (device j : ℕ) (o : Option Seat) → slice_get course.seats (device - 1) ≡ o → R (slice_get course.seats j) (slice_get (with_sent_at course device o).seats j)
  at_sent course device j None e = keeps.same (slice_get course.seats j)
  at_sent course device j (Some seat) e = at_set R keeps.same course.seats (device - 1) j seat (asked_next course.verdict seat) e (λ same. keeps.sent course.verdict seat)

  at_renewed : (course : CourseState) (device j : ℕ) (o : Option Seat) → slice_get course.seats (device - 1) ≡ o → R (slice_get course.seats j) (slice_get (with_renewed_at course device o).seats j)
  at_renewed course device j None e = keeps.same (slice_get course.seats j)
  at_renewed course device j (Some seat) e = at_set R keeps.same course.seats (device - 1) j seat (renewed seat) e (λ same. keeps.renews seat)

  at_answer : (course : CourseState) (device j : ℕ) (reply : Reply) (seat : Seat) (awaited : Option Ask) → slice_get course.seats (device - 1) ≡ Some seat
      → R (slice_get course.seats j) (slice_get (with_answer course device reply seat awaited).seats j)
  at_answer course device j reply seat None e = keeps.same (slice_get course.seats j)
  at_answer course device j reply seat (Some what) e =
      at_set R keeps.same course.seats (device - 1) j seat (record seat { stage = learnt course.verdict seat.stage what reply; awaited = None }) e
      (λ same. keeps.answered course.verdict seat what reply)

  at_answered : (course : CourseState) (device j : ℕ) (reply : Reply) (o : Option Seat) → slice_get course.seats (device - 1) ≡ o
      → R (slice_get course.seats j) (slice_get (with_reply_at course device reply o).seats j)
  at_answered course device j reply None e = keeps.same (slice_get course.seats j)
  at_answered course device j reply (Some seat) e = at_answer course device j reply seat seat.awaited e

  at_broke : (course : CourseState) (device j : ℕ) (o : Option Seat) → slice_get course.seats (device - 1) ≡ o → R (slice_get course.seats j) (slice_get (with_break_at course device o).seats j)
  at_broke course device j None e = keeps.same (slice_get course.seats j)
  at_broke course device j (Some seat) e =
      at_set R keeps.same course.seats (device - 1) j seat (record seat { stage = broken_stage seat.stage; awaited = None }) e (λ same. keeps.broke seat)

  at_settled : (course : CourseState) (device j : ℕ) (kept : Bool) (seat : Seat) (stage : Stage) → slice_get course.seats (device - 1) ≡ Some seat → seat.stage ≡ stage
      → R (slice_get course.seats j) (slice_get (with_found course device kept seat stage).seats j)
  at_settled course device j kept seat (Live done) e is = keeps.same (slice_get course.seats j)
  at_settled course device j kept seat Refused e is = keeps.same (slice_get course.seats j)
  at_settled course device j kept seat Failed e is = keeps.same (slice_get course.seats j)
  at_settled course device j kept seat NeedMark e is = keeps.same (slice_get course.seats j)
  at_settled course device j kept seat (Leaving other) e is = keeps.same (slice_get course.seats j)
  at_settled course device j kept seat (Settled other) e is = keeps.same (slice_get course.seats j)
  at_settled course device j kept seat Resync e is =
      at_set R keeps.same course.seats (device - 1) j seat (record seat { stage = Settled kept; awaited = None }) e (λ same. keeps.found seat kept is)

  at_found : (course : CourseState) (device j : ℕ) (kept : Bool) (o : Option Seat) → slice_get course.seats (device - 1) ≡ o
      → R (slice_get course.seats j) (slice_get (with_settled_at course device kept o).seats j)
  at_found course device j kept None e = keeps.same (slice_get course.seats j)
  at_found course device j kept (Some seat) e = at_settled course device j kept seat seat.stage e refl

  pub framed : (place : ℕ) (course : CourseState) (move : Move) → R (slice_get course.seats place) (slice_get (moved course move).seats place)
  framed place course (Sent device) = at_sent course device place (slice_get course.seats (device - 1)) refl
  framed place course (Renewed device) = at_renewed course device place (slice_get course.seats (device - 1)) refl
  framed place course (Answered device reply) = at_answered course device place reply (slice_get course.seats (device - 1)) refl
  framed place course (Broke device) = at_broke course device place (slice_get course.seats (device - 1)) refl
  framed place course (Decided v) = at_map R keeps.same (decided_seat v) (keeps.decided v) course.seats place
  framed place course (Found device kept) = at_found course device place kept (slice_get course.seats (device - 1)) refl

-- ---- settled devices

abbrev pub StaysSettled : Option Seat → Option Seat → Type 0
StaysSettled before after = (kept : Bool) → settled_of before ≡ Some kept → settled_of after ≡ Some kept

learnt_settled : (v : Option Verdict) (stage : Stage) (what : Ask) (reply : Reply) (kept : Bool) → settled_in stage ≡ Some kept → settled_in (learnt v stage what reply) ≡ Some kept
learnt_settled v (Live done) what reply kept h = absurd (let g : None ≡ Some kept = h in cc)
learnt_settled v Refused what reply kept h = absurd (let g : None ≡ Some kept = h in cc)
learnt_settled v Failed what reply kept h = absurd (let g : None ≡ Some kept = h in cc)
learnt_settled v NeedMark what reply kept h = absurd (let g : None ≡ Some kept = h in cc)
learnt_settled v Resync what reply kept h = absurd (let g : None ≡ Some kept = h in cc)
learnt_settled v (Leaving other) what reply kept h = absurd (let g : None ≡ Some kept = h in cc)
learnt_settled v (Settled other) what reply kept h = h

broken_settled : (stage : Stage) (kept : Bool) → settled_in stage ≡ Some kept → settled_in (broken_stage stage) ≡ Some kept
broken_settled stage kept h = grind (arith, nat_tests)

aborted_settled : (stage : Stage) (awaits kept : Bool) → settled_in stage ≡ Some kept → settled_in (aborted_stage awaits stage) ≡ Some kept
aborted_settled stage awaits kept h = grind (arith, nat_tests)

decided_settled : (v : Verdict) (seat : Seat) → StaysSettled (Some seat) (Some (decided_seat v seat))
decided_settled verdict.Commit seat kept h = h
decided_settled (verdict.Abort why) seat kept h = aborted_settled seat.stage (is_some seat.awaited) kept h

pub settled_stay : Keeps StaysSettled
settled_stay = record {
  same = λ o kept h. h;
  sent = λ v seat kept h. h;
  renews = λ seat kept h. h;
  answered = λ v seat what reply kept h. learnt_settled v seat.stage what reply kept h;
  broke = λ seat kept h. broken_settled seat.stage kept h;
  decided = decided_settled;
  found = λ seat kept e other h. absurd (let g : None ≡ Some other = sym (ap settled_in e) ∙ h in cc);
}

-- ---- members

abbrev pub StaysMember : Option Seat → Option Seat → Type 0
StaysMember before after = member_of after ≡ member_of before

decided_member : (v : Verdict) (seat : Seat) → StaysMember (Some seat) (Some (decided_seat v seat))
decided_member verdict.Commit seat = refl
decided_member (verdict.Abort why) seat = refl

pub members_stay : Keeps StaysMember
members_stay = record {
  same = λ o. refl;
  sent = λ v seat. refl;
  renews = λ seat. refl;
  answered = λ v seat what reply. refl;
  broke = λ seat. refl;
  decided = decided_member;
  found = λ seat kept e. refl;
}
