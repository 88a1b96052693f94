-- Which action comes next, case by case.
use Rattle.std.proofs.Common.{◌≡◌, ◌∙◌, ℕ, zero, suc, ◌+◌, ◌-◌, ◌<◌, ◌≤◌, Bool, true, false, not, ◌||◌, ◌&&◌, cond, nat_le, List, [], ◌∷◌, length, position, slice_get, get_or, Option, Some, None, is_some, is_none, IsSome, refl, sym, ap, arith}
use Rattle.std.specs.List.{list_any, All, position_or_len}
use Rattle.std.proofs.lemmas.Bool.Decides.{nat_tests}
use Rattle.std.proofs.lemmas.List.Quantifiers.{position-Some}
use Rattle.std.proofs.lemmas.Option.{get_or_from_slice_get, slice_get-get_or}
use Rattle.nm_base.specs.declared.mask.DeviceMask.{DeviceMask}
use Rattle.nm_proto.specs.declared.ask.Ask.{Ask}
use Rattle.nm_proto.specs.declared.journal.AbortCause.{AbortCause}
use Rattle.nm_proto.specs.declared.journal.Verdict.{Verdict}
use Rattle.nm_proto.specs.declared.journal.Verdict.TheVariants as verdict
use Rattle.nm_decider_stage.specs.declared.stage.Stage.TheVariants.{Live}
use Rattle.nm_decider_stage.specs.Stages.{next_ask, is_acknowledged, is_settled}
use Rattle.nm_decider.specs.declared.seat.Seat.{Seat}
use Rattle.nm_decider.specs.declared.course.NextAction.{NextAction}
use Rattle.nm_decider.specs.declared.course.NextAction.TheVariants.{Wait, Send, Decide, Finish}
use Rattle.nm_decider.specs.Course.{CourseState, Choice, seat_count, awaits, wants_acknowledgement, wants_settling, may_send, fewer, fewest_from, place_of, send_of, send_seat, send_at, calm_action, decided_action, kept_from, next_action, action_by}
use Rattle.nm_decider.specs.Rightly.{IsAsked, IsReady, MayCommit, MayAbort, MayEnd, ActsRightly, IsLeastBusy, IsNextInOrder, TakesInOrder, IsStuck, WaitsRightly}
use Rattle.nm_decider.proofs.Kept.{kept_bit}

-- ---- lists

none_passes : (test : Seat → Bool) (seats : List Seat) (k : ℕ) (seat : Seat) → list_any test seats ≡ false → slice_get seats k ≡ Some seat → test seat ≡ false
none_passes test [] k seat h there = absurd (let e : None ≡ Some seat = there in cc)
none_passes test (x ∷ seats) zero seat h there = let same : x ≡ seat = cc in sym (ap test same) ∙ first (test x) (list_any test seats) h where
  first : (a b : Bool) → (a || b) ≡ false → a ≡ false
  first true b h = h
  first false b h = refl
none_passes test (x ∷ seats) (suc k) seat h there = none_passes test seats k seat (rest (test x) (list_any test seats) h) there where
  rest : (a b : Bool) → (a || b) ≡ false → b ≡ false
  rest true b h = absurd (let e : true ≡ false = h in cc)
  rest false b h = h

-- what each seat is that fails a test
pub all_fail : (test : Seat → Bool) (P : Seat → Type 0) (seats : List Seat) → ((seat : Seat) → test seat ≡ false → P seat) → list_any test seats ≡ false → All P seats
all_fail test P seats tells h k d within = tells (get_or seats k d) (none_passes test seats k (get_or seats k d) h (slice_get-get_or seats k d within))

pub both : (a b : Bool) → (a && b) ≡ true → (a ≡ true) × (b ≡ true)
both true b h = (refl, h)
both false b h = absurd (let e : false ≡ true = h in cc)

second : (a b : Bool) → (a && b) ≡ false → a ≡ true → b ≡ false
second true b h k = h
second false b h k = absurd (let e : false ≡ true = k in cc)

nothing : {A : Type 0} (o : Option A) → is_some o ≡ false → o ≡ None
nothing None h = refl
nothing (Some x) h = absurd (let e : true ≡ false = h in cc)

none_there : {A : Type 0} (o : Option A) → is_none o ≡ true → o ≡ None
none_there None h = refl
none_there (Some x) h = absurd (let e : false ≡ true = h in cc)

off : (b : Bool) → not b ≡ false → b ≡ true
off true h = refl
off false h = absurd (let e : true ≡ false = h in cc)

-- ---- what is sent

record SentAt (decided : Option Verdict) (seats : List Seat) (place : Option ℕ) (device : ℕ) (what : Ask) : Type 0 where
  stands : ℕ
  there : place ≡ Some stands
  seat : Seat
  here : slice_get seats stands ≡ Some seat
  number : device ≡ stands + 1
  next : next_ask decided seat.stage ≡ Some what

sent_ask : (n : ℕ) (o : Option Ask) (device : ℕ) (what : Ask) → send_of n o ≡ Send device what → (device ≡ n) × (o ≡ Some what)
sent_ask n None device what h = absurd (let e : Wait ≡ Send device what = h in cc)
sent_ask n (Some x) device what h = let e : Send n x ≡ Send device what = h in (cc, cc)

sent_seat : (decided : Option Verdict) (seats : List Seat) (place : ℕ) (found : Option Seat) (device : ℕ) (what : Ask) → slice_get seats place ≡ found
    → send_seat decided place found ≡ Send device what → SentAt decided seats (Some place) device what
sent_seat decided seats place None device what e h = absurd (let g : Wait ≡ Send device what = h in cc)
sent_seat decided seats place (Some seat) device what e h =
    let s = sent_ask (place + 1) (next_ask decided seat.stage) device what h in
    record { stands = place; there = refl; seat = seat; here = e; number = s.0; next = s.1 }

sent_at : (decided : Option Verdict) (seats : List Seat) (place : Option ℕ) (device : ℕ) (what : Ask) → send_at decided seats place ≡ Send device what → SentAt decided seats place device what
sent_at decided seats None device what h = absurd (let g : Wait ≡ Send device what = h in cc)
sent_at decided seats (Some place) device what h = sent_seat decided seats place (slice_get seats place) device what refl h

-- an action that asks or waits
is_sending : NextAction → Bool
is_sending Wait = true
is_sending (Send device what) = true
is_sending (Decide decided) = false
is_sending (Finish kept) = false

sending_of : (n : ℕ) (o : Option Ask) → is_sending (send_of n o) ≡ true
unfolding is_sending
sending_of n None = refl
sending_of n (Some what) = refl

sending_seat : (decided : Option Verdict) (place : ℕ) (found : Option Seat) → is_sending (send_seat decided place found) ≡ true
unfolding is_sending
sending_seat decided place None = refl
sending_seat decided place (Some seat) = sending_of (place + 1) (next_ask decided seat.stage)

sending : (decided : Option Verdict) (seats : List Seat) (place : Option ℕ) → is_sending (send_at decided seats place) ≡ true
unfolding is_sending
sending decided seats None = refl
sending decided seats (Some place) = sending_seat decided place (slice_get seats place)

not_decided : (decided : Option Verdict) (seats : List Seat) (place : Option ℕ) (v : Verdict) → send_at decided seats place ≡ Decide v → ⊥
unfolding is_sending
not_decided decided seats place v h = let e : false ≡ true = sym (ap is_sending h) ∙ sending decided seats place in absurd cc

not_ended : (decided : Option Verdict) (seats : List Seat) (place : Option ℕ) (kept : DeviceMask) → send_at decided seats place ≡ Finish kept → ⊥
unfolding is_sending
not_ended decided seats place kept h = let e : false ≡ true = sym (ap is_sending h) ∙ sending decided seats place in absurd cc

-- ---- the device with the fewest requests

record Best (decided : Option Verdict) (start : ℕ) (seats : List Seat) (choice : Choice) : Type 0 where
  index : ℕ
  stands : choice.place ≡ start + index
  seat : Seat
  here : slice_get seats index ≡ Some seat
  may : may_send decided seat ≡ true
  count : choice.count ≡ seat.sent
  fewest : (j : ℕ) (other : Seat) → slice_get seats j ≡ Some other → may_send decided other ≡ true → choice.count ≤ other.sent
  first : (j : ℕ) (other : Seat) → slice_get seats j ≡ Some other → may_send decided other ≡ true → other.sent ≤ choice.count → choice.place ≤ start + j

-- where there is no choice, no seat may be asked
no_choice : (b : Bool) (one : Choice) (rest : Option Choice) → fewer (cond b (Some one) None) rest ≡ None → (b ≡ false) × (rest ≡ None)
no_choice true one None h = absurd (let e : Some one ≡ None = h in cc)
no_choice true one (Some other) h = absurd (never (nat_le one.count other.count) one other h) where
  never : (b : Bool) (one other : Choice) → cond b (Some one) (Some other) ≡ None → ⊥
  never true one other h = cc
  never false one other h = cc
no_choice false one rest h = (refl, h)

none_may : (decided : Option Verdict) (start : ℕ) (seats : List Seat) (j : ℕ) (other : Seat) → fewest_from decided start seats ≡ None → slice_get seats j ≡ Some other → may_send decided other ≡ false
none_may decided start [] j other h there = absurd (let e : None ≡ Some other = there in cc)
none_may decided start (seat ∷ seats) zero other h there =
    let same : seat ≡ other = cc in
    sym (ap (may_send decided) same) ∙ (no_choice (may_send decided seat) (record { count = seat.sent; place = start }) (fewest_from decided (start + 1) seats) h).0
none_may decided start (seat ∷ seats) (suc j) other h there =
    none_may decided (start + 1) seats j other ((no_choice (may_send decided seat) (record { count = seat.sent; place = start }) (fewest_from decided (start + 1) seats) h).1) there

-- the choice is the first seat
best_first : (decided : Option Verdict) (start : ℕ) (seat : Seat) (seats : List Seat) (choice : Choice) → may_send decided seat ≡ true
    → choice ≡ record { count = seat.sent; place = start }
    → ((j : ℕ) (other : Seat) → slice_get seats j ≡ Some other → may_send decided other ≡ true → seat.sent ≤ other.sent) → Best decided start (seat ∷ seats) choice
best_first decided start seat seats choice may is least =
    let count : choice.count ≡ seat.sent = ap (λ c. c.count) is in
    let place : choice.place ≡ start = ap (λ c. c.place) is in
    record {
      index = 0;
      stands = omega (arith, place);
      seat = seat;
      here = refl;
      may = may;
      count = count;
      fewest = λ j other there m. omega (arith, count, least_of seat seats least j other there m);
      first = λ j other there m few. omega (arith, place);
    } where
      least_of : (seat : Seat) (seats : List Seat) → ((j : ℕ) (other : Seat) → slice_get seats j ≡ Some other → may_send decided other ≡ true → seat.sent ≤ other.sent)
          → (j : ℕ) (other : Seat) → slice_get (seat ∷ seats) j ≡ Some other → may_send decided other ≡ true → seat.sent ≤ other.sent
      least_of seat seats least zero other there m = let same : seat ≡ other = cc in rw same (omega arith)
      least_of seat seats least (suc j) other there m = least j other there m

-- the choice is that of the rest
best_rest : (decided : Option Verdict) (start : ℕ) (seat : Seat) (seats : List Seat) (choice : Choice) → Best decided (start + 1) seats choice
    → (may_send decided seat ≡ true → choice.count < seat.sent) → Best decided start (seat ∷ seats) choice
best_rest decided start seat seats choice b more = record {
  index = suc b.index;
  stands = omega (arith, b.stands);
  seat = b.seat;
  here = b.here;
  may = b.may;
  count = b.count;
  fewest = fewest_of;
  first = first_of;
} where
  fewest_of : (j : ℕ) (other : Seat) → slice_get (seat ∷ seats) j ≡ Some other → may_send decided other ≡ true → choice.count ≤ other.sent
  fewest_of zero other there m = let same : seat ≡ other = cc in let c = more (ap (may_send decided) same ∙ m) in let n : seat.sent ≡ other.sent = ap (λ s. s.sent) same in omega (arith, c, n)
  fewest_of (suc j) other there m = b.fewest j other there m

  first_of : (j : ℕ) (other : Seat) → slice_get (seat ∷ seats) j ≡ Some other → may_send decided other ≡ true → other.sent ≤ choice.count → choice.place ≤ start + j
  first_of zero other there m few = let same : seat ≡ other = cc in let c = more (ap (may_send decided) same ∙ m) in let n : seat.sent ≡ other.sent = ap (λ s. s.sent) same in absurd (omega (arith, c, n))
  first_of (suc j) other there m few = let f = b.first j other there m few in omega (arith, f)

never_both : (b : Bool) → b ≡ false → b ≡ true → ⊥
never_both true h k = cc
never_both false h k = cc

best_cons : (decided : Option Verdict) (start : ℕ) (seat : Seat) (seats : List Seat) (choice : Choice) (b : Bool) (rest : Option Choice)
    → may_send decided seat ≡ b → fewest_from decided (start + 1) seats ≡ rest → ((c : Choice) → rest ≡ Some c → Best decided (start + 1) seats c)
    → fewer (cond b (Some (record { count = seat.sent; place = start })) None) rest ≡ Some choice → Best decided start (seat ∷ seats) choice
best_cons decided start seat seats choice false rest m e ih h = best_rest decided start seat seats choice (ih choice h) (λ k. absurd (never_both (may_send decided seat) m k))
best_cons decided start seat seats choice true None m e ih h =
    best_first decided start seat seats choice m (let g : Some (record { count = seat.sent; place = start }) ≡ Some choice = h in cc)
    (λ j other there k. absurd (never_both (may_send decided other) (none_may decided (start + 1) seats j other e there) k))
best_cons decided start seat seats choice true (Some c) m e ih h = chosen (nat_le seat.sent c.count) refl h where
  chosen : (b : Bool) → nat_le seat.sent c.count ≡ b → cond b (Some (record { count = seat.sent; place = start })) (Some c) ≡ Some choice → Best decided start (seat ∷ seats) choice
  chosen true le h =
      best_first decided start seat seats choice m (let g : Some (record { count = seat.sent; place = start }) ≡ Some choice = h in cc)
      (λ j other there k. let f = (ih c refl).fewest j other there k in let l : seat.sent ≤ c.count = grind (arith, nat_tests) in omega (arith, f, l))
  chosen false le h =
      let same : c ≡ choice = cc in
      best_rest decided start seat seats choice (ih choice (ap Some same)) (λ k. let l : c.count < seat.sent = grind (arith, nat_tests) in let n : c.count ≡ choice.count = ap (λ s. s.count) same in omega (arith, l, n))

best_from : (decided : Option Verdict) (start : ℕ) (seats : List Seat) (choice : Choice) → fewest_from decided start seats ≡ Some choice → Best decided start seats choice
best_from decided start [] choice h = absurd (let e : None ≡ Some choice = h in cc)
best_from decided start (seat ∷ seats) choice h =
    best_cons decided start seat seats choice (may_send decided seat) (fewest_from decided (start + 1) seats) refl refl (best_from decided (start + 1) seats) h

-- ---- the cases of an action

data Calm (seats : List Seat) (action : NextAction) : Type 0 where
  waits : action ≡ Wait → list_any awaits seats ≡ true → Calm seats action
  commits : action ≡ Decide verdict.Commit → list_any awaits seats ≡ false → list_any wants_acknowledgement seats ≡ false → Calm seats action
  sends : action ≡ send_at None seats (position wants_acknowledgement seats) → list_any awaits seats ≡ false → list_any wants_acknowledgement seats ≡ true → Calm seats action

calm_by : (seats : List Seat) (a b : Bool) → list_any awaits seats ≡ a → list_any wants_acknowledgement seats ≡ b
    → Calm seats (cond a Wait (cond (not b) (Decide verdict.Commit) (send_at None seats (position wants_acknowledgement seats))))
calm_by seats true b h k = waits refl h
calm_by seats false false h k = commits refl h k
calm_by seats false true h k = sends refl h k

calm_is : (seats : List Seat) → Calm seats (calm_action seats)
calm_is seats = calm_by seats (list_any awaits seats) (list_any wants_acknowledgement seats) refl refl

data Decided (v : Verdict) (seats : List Seat) (action : NextAction) : Type 0 where
  ends : action ≡ Finish (record { 0 = kept_from 0 seats }) → list_any wants_settling seats ≡ false → Decided v seats action
  goes_on : action ≡ send_at (Some v) seats (place_of (fewest_from (Some v) 0 seats)) → Decided v seats action

decided_by : (v : Verdict) (seats : List Seat) (b : Bool) → list_any wants_settling seats ≡ b
    → Decided v seats (cond (not b) (Finish (record { 0 = kept_from 0 seats })) (send_at (Some v) seats (place_of (fewest_from (Some v) 0 seats))))
decided_by v seats true h = goes_on refl
decided_by v seats false h = ends refl h

decided_is : (v : Verdict) (seats : List Seat) → Decided v seats (decided_action v seats)
decided_is v seats = decided_by v seats (list_any wants_settling seats) refl

-- ---- what follows from the case

abbrev state : ℕ → Option Verdict → Option AbortCause → List Seat → CourseState
state change v trouble seats = record { change = change; verdict = v; trouble = trouble; seats = seats }

asked_here : (change : ℕ) (v : Option Verdict) (trouble : Option AbortCause) (seats : List Seat) (place : Option ℕ) (device : ℕ) (what : Ask) → (s : SentAt v seats place device what)
    → s.seat.is_member ≡ true → s.seat.awaited ≡ None → IsAsked (state change v trouble seats) device what
asked_here change v trouble seats place device what s member quiet =
    let here : device - 1 ≡ s.stands = omega (arith, s.number) in
    record { seat = s.seat; here = ap (slice_get seats) here ∙ s.here; numbered = omega (arith, s.number); member = member; quiet = quiet; next = s.next }

wanted : (seats : List Seat) (stands : ℕ) (seat : Seat) → position wants_acknowledgement seats ≡ Some stands → slice_get seats stands ≡ Some seat → wants_acknowledgement seat ≡ true
wanted seats stands seat e here =
    let p = position-Some wants_acknowledgement seats stands seat e in
    sym (ap wants_acknowledgement (get_or_from_slice_get seats stands seat seat here)) ∙ p.1

asked_calm : (change : ℕ) (seats : List Seat) (device : ℕ) (what : Ask) (action : NextAction) → Calm seats action → action ≡ Send device what → IsAsked (state change None None seats) device what
asked_calm change seats device what action (waits e w) h = absurd (let g : Wait ≡ Send device what = sym e ∙ h in cc)
asked_calm change seats device what action (commits e a b) h = absurd (let g : Decide verdict.Commit ≡ Send device what = sym e ∙ h in cc)
asked_calm change seats device what action (sends e calm w) h =
    let s = sent_at None seats (position wants_acknowledgement seats) device what (sym e ∙ h) in
    let member = (both s.seat.is_member (not (is_acknowledged s.seat.stage)) (wanted seats s.stands s.seat s.there s.here)).0 in
    asked_here change None None seats (position wants_acknowledgement seats) device what s member
    (nothing s.seat.awaited (second s.seat.is_member (is_some s.seat.awaited) (none_passes awaits seats s.stands s.seat calm s.here) member))

record Picked (v : Verdict) (seats : List Seat) (n : ℕ) : Type 0 where
  choice : Choice
  place : choice.place ≡ n
  best : Best (Some v) 0 seats choice

picked : (v : Verdict) (seats : List Seat) (o : Option Choice) (n : ℕ) → fewest_from (Some v) 0 seats ≡ o → place_of o ≡ Some n → Picked v seats n
picked v seats None n e h = absurd (let g : None ≡ Some n = h in cc)
picked v seats (Some choice) n e h = record { choice = choice; place = (let g : Some choice.place ≡ Some n = h in cc); best = best_from (Some v) 0 seats choice e }

same_seat : (seats : List Seat) (i j : ℕ) (one other : Seat) → i ≡ j → slice_get seats i ≡ Some one → slice_get seats j ≡ Some other → one ≡ other
same_seat seats i j one other e h k = let g : Some one ≡ Some other = sym h ∙ ap (slice_get seats) e ∙ k in cc

asked_decided : (change : ℕ) (v : Verdict) (trouble : Option AbortCause) (seats : List Seat) (device : ℕ) (what : Ask) (action : NextAction) → Decided v seats action → action ≡ Send device what
    → IsAsked (state change (Some v) trouble seats) device what
asked_decided change v trouble seats device what action (ends e a) h = absurd (let g : Finish (record { 0 = kept_from 0 seats }) ≡ Send device what = sym e ∙ h in cc)
asked_decided change v trouble seats device what action (goes_on e) h =
    let s = sent_at (Some v) seats (place_of (fewest_from (Some v) 0 seats)) device what (sym e ∙ h) in
    let p = picked v seats (fewest_from (Some v) 0 seats) s.stands refl s.there in
    let same : p.best.seat ≡ s.seat = same_seat seats p.best.index s.stands p.best.seat s.seat (omega (arith, p.place, p.best.stands)) p.best.here s.here in
    let may : may_send (Some v) s.seat ≡ true = sym (ap (may_send (Some v)) same) ∙ p.best.may in
    let one = both s.seat.is_member (is_none s.seat.awaited && is_some (next_ask (Some v) s.seat.stage)) may in
    let two = both (is_none s.seat.awaited) (is_some (next_ask (Some v) s.seat.stage)) one.1 in
    asked_here change (Some v) trouble seats (place_of (fewest_from (Some v) 0 seats)) device what s one.0 (none_there s.seat.awaited two.0)

asked_by : (change : ℕ) (v : Option Verdict) (trouble : Option AbortCause) (seats : List Seat) (device : ℕ) (what : Ask) → action_by v trouble seats ≡ Send device what
    → IsAsked (state change v trouble seats) device what
asked_by change None (Some why) seats device what h = absurd (let g : Decide (verdict.Abort why) ≡ Send device what = h in cc)
asked_by change None None seats device what h = asked_calm change seats device what (calm_action seats) (calm_is seats) h
asked_by change (Some v) trouble seats device what h = asked_decided change v trouble seats device what (decided_action v seats) (decided_is v seats) h

pub asked : (course : CourseState) (device : ℕ) (what : Ask) → next_action course ≡ Send device what → IsAsked course device what
asked course device what h = asked_by course.change course.verdict course.trouble course.seats device what h

ready_of : (seat : Seat) → awaits seat ≡ false → wants_acknowledgement seat ≡ false → seat.is_member ≡ true → IsReady seat
ready_of seat calm done member = record {
  acknowledged = off (is_acknowledged seat.stage) (second seat.is_member (not (is_acknowledged seat.stage)) done member);
  quiet = nothing seat.awaited (second seat.is_member (is_some seat.awaited) calm member);
}

may_commit_calm : (change : ℕ) (seats : List Seat) (action : NextAction) → Calm seats action → action ≡ Decide verdict.Commit → MayCommit (state change None None seats)
may_commit_calm change seats action (waits e w) h = absurd (let g : Wait ≡ Decide verdict.Commit = sym e ∙ h in cc)
may_commit_calm change seats action (sends e calm w) h = absurd (not_decided None seats (position wants_acknowledgement seats) verdict.Commit (sym e ∙ h))
may_commit_calm change seats action (commits e calm done) h = record {
  undecided = refl;
  calm = refl;
  ready = λ k d within.
      let there = slice_get-get_or seats k d within in
      ready_of (get_or seats k d) (none_passes awaits seats k (get_or seats k d) calm there) (none_passes wants_acknowledgement seats k (get_or seats k d) done there);
}

no_decision : (v : Verdict) (seats : List Seat) (action : NextAction) (decided : Verdict) → Decided v seats action → action ≡ Decide decided → ⊥
no_decision v seats action decided (ends e a) h = let g : Finish (record { 0 = kept_from 0 seats }) ≡ Decide decided = sym e ∙ h in absurd cc
no_decision v seats action decided (goes_on e) h = not_decided (Some v) seats (place_of (fewest_from (Some v) 0 seats)) decided (sym e ∙ h)

may_commit_by : (change : ℕ) (v : Option Verdict) (trouble : Option AbortCause) (seats : List Seat) → action_by v trouble seats ≡ Decide verdict.Commit → MayCommit (state change v trouble seats)
may_commit_by change None (Some why) seats h = absurd (let g : Decide (verdict.Abort why) ≡ Decide verdict.Commit = h in cc)
may_commit_by change None None seats h = may_commit_calm change seats (calm_action seats) (calm_is seats) h
may_commit_by change (Some v) trouble seats h = absurd (no_decision v seats (decided_action v seats) verdict.Commit (decided_is v seats) h)

no_abort : (seats : List Seat) (action : NextAction) (why : AbortCause) → Calm seats action → action ≡ Decide (verdict.Abort why) → ⊥
no_abort seats action why (waits e w) h = let g : Wait ≡ Decide (verdict.Abort why) = sym e ∙ h in absurd cc
no_abort seats action why (commits e a b) h = let g : Decide verdict.Commit ≡ Decide (verdict.Abort why) = sym e ∙ h in absurd cc
no_abort seats action why (sends e a w) h = not_decided None seats (position wants_acknowledgement seats) (verdict.Abort why) (sym e ∙ h)

may_abort_by : (change : ℕ) (v : Option Verdict) (trouble : Option AbortCause) (seats : List Seat) (why : AbortCause) → action_by v trouble seats ≡ Decide (verdict.Abort why)
    → MayAbort (state change v trouble seats) why
may_abort_by change None (Some first) seats why h = record { undecided = refl; noted = (let g : Decide (verdict.Abort first) ≡ Decide (verdict.Abort why) = h in cc) }
may_abort_by change None None seats why h = absurd (no_abort seats (calm_action seats) why (calm_is seats) h)
may_abort_by change (Some v) trouble seats why h = absurd (no_decision v seats (decided_action v seats) (verdict.Abort why) (decided_is v seats) h)

no_end : (seats : List Seat) (action : NextAction) (kept : DeviceMask) → Calm seats action → action ≡ Finish kept → ⊥
no_end seats action kept (waits e w) h = let g : Wait ≡ Finish kept = sym e ∙ h in absurd cc
no_end seats action kept (commits e a b) h = let g : Decide verdict.Commit ≡ Finish kept = sym e ∙ h in absurd cc
no_end seats action kept (sends e a w) h = not_ended None seats (position wants_acknowledgement seats) kept (sym e ∙ h)

may_end_decided : (change : ℕ) (v : Verdict) (trouble : Option AbortCause) (seats : List Seat) (kept : DeviceMask) (action : NextAction) → length seats ≡ seat_count
    → Decided v seats action → action ≡ Finish kept → MayEnd (state change (Some v) trouble seats) kept
may_end_decided change v trouble seats kept action long (goes_on e) h = absurd (not_ended (Some v) seats (place_of (fewest_from (Some v) 0 seats)) kept (sym e ∙ h))
may_end_decided change v trouble seats kept action long (ends e done) h =
    let mask : DeviceMask = record { 0 = kept_from 0 seats } in
    let same : mask ≡ kept = (let g : Finish mask ≡ Finish kept = sym e ∙ h in cc) in
    record {
      decided = search;
      settled = λ k d within member.
          let seat = get_or seats k d in
          off (is_settled seat.stage) (second seat.is_member (not (is_settled seat.stage)) (none_passes wants_settling seats k seat done (slice_get-get_or seats k d within)) member);
      kept_them = λ place seat there. rw (← same) (kept_bit seats 0 place (place + 1) seat there (omega (arith, long)) (omega arith));
    }

may_end_by : (change : ℕ) (v : Option Verdict) (trouble : Option AbortCause) (seats : List Seat) (kept : DeviceMask) → length seats ≡ seat_count → action_by v trouble seats ≡ Finish kept
    → MayEnd (state change v trouble seats) kept
may_end_by change None (Some why) seats kept long h = absurd (let g : Decide (verdict.Abort why) ≡ Finish kept = h in cc)
may_end_by change None None seats kept long h = absurd (no_end seats (calm_action seats) kept (calm_is seats) h)
may_end_by change (Some v) trouble seats kept long h = may_end_decided change v trouble seats kept (decided_action v seats) long (decided_is v seats) h

-- every next action is a right one
pub rightly : (course : CourseState) → length course.seats ≡ seat_count → ActsRightly course
rightly course long = record {
  sends = asked course;
  commits = may_commit_by course.change course.verdict course.trouble course.seats;
  aborts = may_abort_by course.change course.verdict course.trouble course.seats;
  finishes = λ kept. may_end_by course.change course.verdict course.trouble course.seats kept long;
}

-- ---- the order of devices

next_in_order : (change : ℕ) (seats : List Seat) (device : ℕ) (what : Ask) (action : NextAction) → Calm seats action → action ≡ Send device what
    → IsNextInOrder (state change None None seats) device
next_in_order change seats device what action (waits e w) h = absurd (let g : Wait ≡ Send device what = sym e ∙ h in cc)
next_in_order change seats device what action (commits e a b) h = absurd (let g : Decide verdict.Commit ≡ Send device what = sym e ∙ h in cc)
next_in_order change seats device what action (sends e calm w) h =
    let s = sent_at None seats (position wants_acknowledgement seats) device what (sym e ∙ h) in
    λ place other below there.
    let p = position-Some wants_acknowledgement seats s.stands other s.there in
    sym (ap wants_acknowledgement (get_or_from_slice_get seats place other other there)) ∙ p.2 place (omega (arith, s.number))

undecided_order : (change : ℕ) (v : Option Verdict) (trouble : Option AbortCause) (seats : List Seat) (device : ℕ) (what : Ask) → v ≡ None → action_by v trouble seats ≡ Send device what
    → IsNextInOrder (state change v trouble seats) device
undecided_order change (Some v) trouble seats device what e h = absurd (let g : Some v ≡ None = e in cc)
undecided_order change None (Some why) seats device what e h = absurd (let g : Decide (verdict.Abort why) ≡ Send device what = h in cc)
undecided_order change None None seats device what e h = next_in_order change seats device what (calm_action seats) (calm_is seats) h

least_busy : (change : ℕ) (v : Verdict) (trouble : Option AbortCause) (seats : List Seat) (device : ℕ) (what : Ask) (action : NextAction) → Decided v seats action → action ≡ Send device what
    → IsLeastBusy (state change (Some v) trouble seats) device
least_busy change v trouble seats device what action (ends e a) h = absurd (let g : Finish (record { 0 = kept_from 0 seats }) ≡ Send device what = sym e ∙ h in cc)
least_busy change v trouble seats device what action (goes_on e) h =
    let s = sent_at (Some v) seats (place_of (fewest_from (Some v) 0 seats)) device what (sym e ∙ h) in
    let p = picked v seats (fewest_from (Some v) 0 seats) s.stands refl s.there in
    let index : device - 1 ≡ p.best.index = omega (arith, s.number, p.place, p.best.stands) in
    record {
      seat = p.best.seat;
      here = ap (slice_get seats) index ∙ p.best.here;
      fewest = λ place other there may. let f = p.best.fewest place other there may in omega (arith, f, p.best.count);
      first = λ place other there may few.
          let f = p.best.first place other there may (omega (arith, few, p.best.count)) in omega (arith, f, s.number, p.place);
    }

decided_order : (change : ℕ) (v : Option Verdict) (trouble : Option AbortCause) (seats : List Seat) (device : ℕ) (what : Ask) → IsSome v → action_by v trouble seats ≡ Send device what
    → IsLeastBusy (state change v trouble seats) device
decided_order change None trouble seats device what e h = absurd (let g : false ≡ true = e in cc)
decided_order change (Some v) trouble seats device what e h = least_busy change v trouble seats device what (decided_action v seats) (decided_is v seats) h

pub in_order : (course : CourseState) → TakesInOrder course
in_order course = record {
  undecided = undecided_order course.change course.verdict course.trouble course.seats;
  decided = decided_order course.change course.verdict course.trouble course.seats;
}

-- ---- waiting

within_first : (a b : Bool) (n m : ℕ) → (b ≡ true → n < m) → (a || b) ≡ true → cond (not a) (1 + n) 0 < suc m
within_first true b n m h k = omega arith
within_first false b n m h k = let l = h k in omega (arith, l)

first_within : (test : Seat → Bool) (seats : List Seat) → list_any test seats ≡ true → position_or_len test seats < length seats
first_within test [] h = absurd (let e : false ≡ true = h in cc)
first_within test (seat ∷ seats) h = within_first (test seat) (list_any test seats) (position_or_len test seats) (length seats) (first_within test seats) h

some_place : (test : Seat → Bool) (seats : List Seat) → list_any test seats ≡ true → position test seats ≡ None → ⊥
some_place test seats h e = let n = first_within test seats h in grind (arith, nat_tests)

stuck_ask : (n : ℕ) (o : Option Ask) → send_of n o ≡ Wait → o ≡ None
stuck_ask n None h = refl
stuck_ask n (Some what) h = absurd (let e : Send n what ≡ Wait = h in cc)

stuck_seat : (change : ℕ) (seats : List Seat) (place : ℕ) (found : Option Seat) → slice_get seats place ≡ found → position wants_acknowledgement seats ≡ Some place → send_seat None place found ≡ Wait
    → IsStuck (state change None None seats)
stuck_seat change seats place None e p h = absurd (none_found (slice_get-get_or seats place blank (position-Some wants_acknowledgement seats place blank p).0)) where
  blank : Seat
  blank = record { is_member = false; stage = Live 0; awaited = None; sent = 0 }

  none_found : slice_get seats place ≡ Some (get_or seats place blank) → ⊥
  none_found there = let g : None ≡ Some (get_or seats place blank) = sym e ∙ there in cc
stuck_seat change seats place (Some seat) e p h = record {
  place = place;
  seat = seat;
  here = e;
  wants = wanted seats place seat p e;
  nothing = stuck_ask (place + 1) (next_ask None seat.stage) h;
}

stuck_at : (change : ℕ) (seats : List Seat) (place : Option ℕ) → position wants_acknowledgement seats ≡ place → list_any wants_acknowledgement seats ≡ true → send_at None seats place ≡ Wait
    → IsStuck (state change None None seats)
stuck_at change seats None p w h = absurd (some_place wants_acknowledgement seats w p)
stuck_at change seats (Some place) p w h = stuck_seat change seats place (slice_get seats place) refl p h

waits_calm : (change : ℕ) (seats : List Seat) (action : NextAction) → Calm seats action → action ≡ Wait → list_any awaits seats ≡ false → IsStuck (state change None None seats)
waits_calm change seats action (waits e w) h a = absurd (never_both (list_any awaits seats) a w)
waits_calm change seats action (commits e b w) h a = absurd (let g : Decide verdict.Commit ≡ Wait = sym e ∙ h in cc)
waits_calm change seats action (sends e calm w) h a = stuck_at change seats (position wants_acknowledgement seats) refl w (sym e ∙ h)

undecided_wait : (change : ℕ) (v : Option Verdict) (trouble : Option AbortCause) (seats : List Seat) → v ≡ None → action_by v trouble seats ≡ Wait → list_any awaits seats ≡ false
    → IsStuck (state change v trouble seats)
undecided_wait change (Some v) trouble seats e h a = absurd (let g : Some v ≡ None = e in cc)
undecided_wait change None (Some why) seats e h a = absurd (let g : Decide (verdict.Abort why) ≡ Wait = h in cc)
undecided_wait change None None seats e h a = waits_calm change seats (calm_action seats) (calm_is seats) h a

asked_something : (n : ℕ) (o : Option Ask) → is_some o ≡ true → send_of n o ≡ Wait → ⊥
asked_something n None s h = let g : false ≡ true = s in absurd cc
asked_something n (Some what) s h = let g : Send n what ≡ Wait = h in absurd cc

waits_chosen : (v : Verdict) (seats : List Seat) (o : Option Choice) → fewest_from (Some v) 0 seats ≡ o → send_at (Some v) seats (place_of o) ≡ Wait → All (λ seat. may_send (Some v) seat ≡ false) seats
waits_chosen v seats None e h = λ k d within. none_may (Some v) 0 seats k (get_or seats k d) e (slice_get-get_or seats k d within)
waits_chosen v seats (Some choice) e h =
    let b = best_from (Some v) 0 seats choice e in
    let place : choice.place ≡ b.index = omega (arith, b.stands) in
    let here : slice_get seats choice.place ≡ Some b.seat = ap (slice_get seats) place ∙ b.here in
    let one = both b.seat.is_member (is_none b.seat.awaited && is_some (next_ask (Some v) b.seat.stage)) b.may in
    let two = both (is_none b.seat.awaited) (is_some (next_ask (Some v) b.seat.stage)) one.1 in
    absurd (asked_something (choice.place + 1) (next_ask (Some v) b.seat.stage) two.1 (sym (ap (send_seat (Some v) choice.place) here) ∙ h))

waits_decided : (v : Verdict) (seats : List Seat) (action : NextAction) → Decided v seats action → action ≡ Wait → All (λ seat. may_send (Some v) seat ≡ false) seats
waits_decided v seats action (ends e a) h = absurd (let g : Finish (record { 0 = kept_from 0 seats }) ≡ Wait = sym e ∙ h in cc)
waits_decided v seats action (goes_on e) h = waits_chosen v seats (fewest_from (Some v) 0 seats) refl (sym e ∙ h)

decided_wait : (v : Option Verdict) (trouble : Option AbortCause) (seats : List Seat) → IsSome v → action_by v trouble seats ≡ Wait → All (λ seat. may_send v seat ≡ false) seats
decided_wait None trouble seats s h = absurd (let g : false ≡ true = s in cc)
decided_wait (Some v) trouble seats s h = waits_decided v seats (decided_action v seats) (decided_is v seats) h

pub waits_rightly : (course : CourseState) → WaitsRightly course
waits_rightly course = record {
  undecided = undecided_wait course.change course.verdict course.trouble course.seats;
  decided = decided_wait course.verdict course.trouble course.seats;
}
