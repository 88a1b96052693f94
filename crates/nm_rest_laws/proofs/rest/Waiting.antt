-- A course that is right, and of which nothing is awaited, doesn't wait.
use Rattle.std.proofs.Common.{◌≡◌, ◌∙◌, ℕ, suc, ◌+◌, ◌==◌, Bool, true, false, cond, not, ◌&&◌, ◌||◌, List, [], ◌∷◌, Option, Some, None, is_some, is_none, slice_get, refl, sym, ap, subst, arith}
use Rattle.std.specs.List.{list_any}
use Rattle.std.proofs.lemmas.Bool.Decides.{nat_tests}
use Rattle.nm_base.specs.declared.mask.DeviceMask.{DeviceMask}
use Rattle.nm_proto.specs.declared.ask.Ask.{Ask}
use Rattle.nm_proto.specs.declared.journal.AbortCause.{AbortCause}
use Rattle.nm_proto.specs.declared.journal.Verdict.{Verdict}
use Rattle.nm_proto.specs.declared.journal.Verdict.TheVariants as verdict
use Rattle.nm_decider_stage.specs.declared.stage.Stage.{Stage}
use Rattle.nm_decider_stage.specs.declared.stage.Stage.TheVariants.{Live, Refused, Failed, NeedMark, Resync, Leaving, Settled}
use Rattle.nm_decider_stage.specs.Stages.{next_ask, all_done, is_acknowledged, is_settled}
use Rattle.nm_decider.specs.declared.seat.Seat.{Seat}
use Rattle.nm_decider.specs.declared.course.NextAction.TheVariants as next
use Rattle.nm_decider.specs.Course.{CourseState, next_action, action_by, send_of, send_seat, send_at, place_of, fewest_from, kept_from, awaits, wants_settling, may_send}
use Rattle.nm_decider.specs.Rightly.{IsStuck}
use Rattle.nm_decider.proofs.Actions.{waits_rightly}
use Rattle.nm_rest_laws.specs.Steady.{is_right, is_live}
use Rattle.nm_safety.proofs.Tables.{both}
use Rattle.nm_safety.proofs.Seats.{listed}

-- ---- who is right and quiet has a next request

-- before the decision
live_next : (stage : Stage) → is_live stage ≡ true → is_acknowledged stage ≡ false → next_ask None stage ≡ None → ⊥
live_next (Live done) l a n = no done l a n
  where
    no : (done : ℕ) → is_live (Live done) ≡ true → (done == all_done) ≡ false → next_ask None (Live done) ≡ None → ⊥
    no done l a n = grind (arith, nat_tests)
live_next Refused l a n = absurd (let f : false ≡ true = l in cc)
live_next Failed l a n = absurd (let f : false ≡ true = l in cc)
live_next NeedMark l a n = absurd (let f : false ≡ true = l in cc)
live_next Resync l a n = absurd (let f : false ≡ true = l in cc)
live_next (Leaving kept) l a n = absurd (let f : false ≡ true = l in cc)
live_next (Settled kept) l a n = absurd (let f : false ≡ true = l in cc)

-- and after it
commit_next : (t : Option AbortCause) (done : ℕ) → is_right (Some verdict.Commit) t (Live done) None ≡ true → is_some (next_ask (Some verdict.Commit) (Live done)) ≡ true
commit_next t done r = grind (arith, nat_tests)

abort_next : (why : AbortCause) (t : Option AbortCause) (done : ℕ) → is_right (Some (verdict.Abort why)) t (Live done) None ≡ true → is_some (next_ask (Some (verdict.Abort why)) (Live done)) ≡ true
abort_next why t done r = grind (arith, nat_tests)

right_next : (v : Verdict) (t : Option AbortCause) (stage : Stage) → is_right (Some v) t stage None ≡ true → is_settled stage ≡ false → is_some (next_ask (Some v) stage) ≡ true
right_next verdict.Commit t (Live done) r s = commit_next t done r
right_next (verdict.Abort why) t (Live done) r s = abort_next why t done r
right_next verdict.Commit t Refused r s = absurd (let f : false ≡ true = r in cc)
right_next (verdict.Abort why) t Refused r s = absurd (let f : false ≡ true = r in cc)
right_next verdict.Commit t Failed r s = absurd (let f : false ≡ true = r in cc)
right_next (verdict.Abort why) t Failed r s = refl
right_next verdict.Commit t NeedMark r s = refl
right_next (verdict.Abort why) t NeedMark r s = absurd (let f : false ≡ true = r in cc)
right_next v t Resync r s = refl
right_next v t (Leaving kept) r s = refl
right_next v t (Settled kept) r s = absurd (let f : true ≡ false = s in cc)

-- ---- lists

none_any : (test : Seat → Bool) (seats : List Seat) → ((j : ℕ) (seat : Seat) → slice_get seats j ≡ Some seat → test seat ≡ false) → list_any test seats ≡ false
none_any test [] none = refl
none_any test (seat ∷ seats) none = neither (test seat) (list_any test seats) (none 0 seat refl) (none_any test seats (λ j. none (suc j)))
  where
    neither : (a b : Bool) → a ≡ false → b ≡ false → (a || b) ≡ false
    neither false b e f = f
    neither true b e f = absurd (let g : true ≡ false = e in cc)

unless_member : (b d : Bool) → (b ≡ true → d ≡ false) → (b && d) ≡ false
unless_member true d h = h refl
unless_member false d h = refl

three : (a b d : Bool) → a ≡ true → b ≡ true → (a && (b && d)) ≡ false → d ≡ false
three true true d e f h = h
three true false d e f h = absurd (let x : false ≡ true = f in cc)
three false b d e f h = absurd (let x : false ≡ true = e in cc)

-- ---- the next action

-- a member of the change set is where it can go on from, and awaits nothing
pub record IsReadySeat (v : Option Verdict) (t : Option AbortCause) (seat : Seat) : Type 0 where
  pub right : is_right v t seat.stage None ≡ true
  pub quiet : seat.awaited ≡ None

module _ (c : CourseState) (each : (j : ℕ) (seat : Seat) → slice_get c.seats j ≡ Some seat → seat.is_member ≡ true → IsReadySeat c.verdict c.trouble seat) where
  none_awaits : list_any awaits c.seats ≡ false
  none_awaits = none_any awaits c.seats (λ j seat here. unless_member seat.is_member (is_some seat.awaited) (λ member. ap is_some (each j seat here member).quiet))

  stuck_not : c.verdict ≡ None → c.trouble ≡ None → IsStuck c → ⊥
  stuck_not e f s =
      let parts = both s.seat.is_member (not (is_acknowledged s.seat.stage)) s.wants in
      let right : is_right c.verdict c.trouble s.seat.stage None ≡ true = (each s.place s.seat s.here parts.0).right in
      live_next s.seat.stage (subst (λ o. is_right None o s.seat.stage None ≡ true) f (subst (λ o. is_right o c.trouble s.seat.stage None ≡ true) e right))
      (not_so (is_acknowledged s.seat.stage) parts.1) (ap (λ o. next_ask o s.seat.stage) (sym e) ∙ s.nothing)
    where
      not_so : (b : Bool) → not b ≡ true → b ≡ false
      not_so false e = refl
      not_so true e = absurd (let g : false ≡ true = e in cc)

  settled_if : (v : Verdict) → c.verdict ≡ Some v → (j : ℕ) (seat : Seat) → slice_get c.seats j ≡ Some seat → may_send c.verdict seat ≡ false → seat.is_member ≡ true → (b : Bool) → is_settled seat.stage ≡ b → not b ≡ false
  settled_if v e j seat here none member true s = refl
  settled_if v e j seat here none member false s =
      let one = each j seat here member in
      let some : is_some (next_ask c.verdict seat.stage) ≡ true =
      ap (λ o. is_some (next_ask o seat.stage)) e ∙ right_next v c.trouble seat.stage (subst (λ o. is_right o c.trouble seat.stage None ≡ true) e one.right) s in
      absurd (let f : true ≡ false = sym some ∙ three seat.is_member (is_none seat.awaited) (is_some (next_ask c.verdict seat.stage)) member (ap is_none one.quiet) none in cc)

  -- all are settled where nothing may be sent
  all_settled : (v : Verdict) → c.verdict ≡ Some v → ((j : ℕ) (seat : Seat) → slice_get c.seats j ≡ Some seat → may_send c.verdict seat ≡ false) → list_any wants_settling c.seats ≡ false
  all_settled v e none = none_any wants_settling c.seats
      (λ j seat here. unless_member seat.is_member (not (is_settled seat.stage)) (λ member. settled_if v e j seat here (none j seat here) member (is_settled seat.stage) refl))

  ends_then : (v : Verdict) (t : Option AbortCause) → list_any wants_settling c.seats ≡ false → action_by (Some v) t c.seats ≡ next.Wait → ⊥
  ends_then v t none h =
      let ended : action_by (Some v) t c.seats ≡ next.Finish (record { 0 = kept_from 0 c.seats }) =
      ap (λ b. cond (not b) (next.Finish (record { 0 = kept_from 0 c.seats })) (send_at (Some v) c.seats (place_of (fewest_from (Some v) 0 c.seats)))) none in
      absurd (let f : next.Finish (record { 0 = kept_from 0 c.seats }) ≡ next.Wait = sym ended ∙ h in cc)

  by_trouble : (t : Option AbortCause) → c.verdict ≡ None → c.trouble ≡ t → next_action c ≡ next.Wait → ⊥
  by_trouble (Some why) e f h =
      let aborts_now : next_action c ≡ next.Decide (verdict.Abort why) = ap (λ o. action_by o c.trouble c.seats) e ∙ ap (λ o. action_by None o c.seats) f in
      absurd (let g : next.Decide (verdict.Abort why) ≡ next.Wait = sym aborts_now ∙ h in cc)
  by_trouble None e f h = stuck_not e f ((waits_rightly c).undecided e h none_awaits)

  by_verdict : (v : Option Verdict) → c.verdict ≡ v → next_action c ≡ next.Wait → ⊥
  by_verdict None e h = by_trouble c.trouble e refl h
  by_verdict (Some v) e h =
      ends_then v c.trouble (all_settled v e (listed (λ one. may_send c.verdict one ≡ false) c.seats ((waits_rightly c).decided (ap is_some e) h))) (ap (λ o. action_by o c.trouble c.seats) (sym e) ∙ h)

  pub never_waits : next_action c ≡ next.Wait → ⊥
  never_waits h = by_verdict c.verdict refl h

-- ---- the end

no_end_of : (device : ℕ) (o : Option Ask) (kept : DeviceMask) → send_of device o ≡ next.Finish kept → ⊥
no_end_of device None kept h = absurd (let f : next.Wait ≡ next.Finish kept = h in cc)
no_end_of device (Some what) kept h = absurd (let f : next.Send device what ≡ next.Finish kept = h in cc)

no_end_seat : (v : Option Verdict) (place : ℕ) (seat : Option Seat) (kept : DeviceMask) → send_seat v place seat ≡ next.Finish kept → ⊥
no_end_seat v place None kept h = absurd (let f : next.Wait ≡ next.Finish kept = h in cc)
no_end_seat v place (Some seat) kept h = no_end_of (place + 1) (next_ask v seat.stage) kept h

no_end_at : (v : Option Verdict) (seats : List Seat) (place : Option ℕ) (kept : DeviceMask) → send_at v seats place ≡ next.Finish kept → ⊥
no_end_at v seats None kept h = absurd (let f : next.Wait ≡ next.Finish kept = h in cc)
no_end_at v seats (Some place) kept h = no_end_seat v place (slice_get seats place) kept h

abbrev pub kept_mask : List Seat → DeviceMask
kept_mask seats = record { 0 = kept_from 0 seats }

end_if : (v : Verdict) (seats : List Seat) (kept : DeviceMask) (b : Bool) → cond (not b) (next.Finish (kept_mask seats)) (send_at (Some v) seats (place_of (fewest_from (Some v) 0 seats))) ≡ next.Finish kept → kept ≡ kept_mask seats
end_if v seats kept false h = cc
end_if v seats kept true h = absurd (no_end_at (Some v) seats (place_of (fewest_from (Some v) 0 seats)) kept h)

-- who has kept it at the end
pub end_keeps : (c : CourseState) (v : Option Verdict) (kept : DeviceMask) → c.verdict ≡ v → is_some v ≡ true → next_action c ≡ next.Finish kept → kept ≡ kept_mask c.seats
end_keeps c None kept e s h = absurd (let f : false ≡ true = s in cc)
end_keeps c (Some v) kept e s h = end_if v c.seats kept (list_any wants_settling c.seats) (ap (λ o. action_by o c.trouble c.seats) (sym e) ∙ h)
