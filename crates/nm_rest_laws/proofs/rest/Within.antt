-- There is no more left to close than there are events: each makes one link at most, or gives an operator one session.
use Rattle.std.proofs.Common.{◌≡◌, ◌∙◌, ℕ, zero, suc, ◌+◌, ◌-◌, ◌*◌, ◌≤◌, ◌==◌, Bool, true, false, cond, List, [], ◌∷◌, length, replicate, Option, Some, None, is_some, slice_get, refl, sym, ap, subst, arith}
use Rattle.std.proofs.lemmas.Bool.Decides.{nat_tests}
use Rattle.nm_proto.specs.declared.plan.ChangePlan.{ChangePlan}
use Rattle.nm_proto.specs.declared.plan.Event.{Event}
use Rattle.nm_proto.specs.declared.plan.Event.TheVariants.{Turn, Deliver, Answer, Round, Leave}
use Rattle.nm_proto.specs.Content.{Meaning}
use Rattle.nm_proto.specs.Plan.{devices_in}
use Rattle.nm_history.specs.History.{RecordedState}
use Rattle.nm_wire.specs.Wire.{WireState}
use Rattle.nm_manager.specs.Slot.{SideState, SlotState, fresh_side, fresh_slot, wire_of_side}
use Rattle.nm_manager.specs.Manager.{ManagerState, slots_from, wire_of, wire_in}
use Rattle.nm_world.specs.declared.happened.Sending.{Sending}
use Rattle.nm_world.specs.World.{Setting, WorldState, core_of, manager_in, given_in, open_on, has_on, operator_at, elementary, world_step, start, run, round, rounds, followed, event_step, sending_of, replies_on}
use Rattle.nm_world.specs.Drain.{event_if, lose_link, leave_by, leave_on}
use Rattle.nm_safety.specs.Safe.{AreGiven, IsGiven}
use Rattle.nm_safety.proofs.Lists.{one_longer}
use Rattle.nm_safety.proofs.Steps.{run_keeps}
use Rattle.nm_rest_laws.specs.Closing.{one_if, sum_from, has_session, sessions_of, sessions_left, left_on, left_at, left_of, links_left, left_to_close}
use Rattle.nm_rest_laws.specs.Rest.{elementary_count, events_count}
use Rattle.nm_rest_laws.proofs.rest.Counting.{ones}
use Rattle.nm_rest_laws.proofs.rest.Making.{sum_over, links_on, links_of, given_to, made, makes_one}

-- ---- sums

module _ {A : Type 0} (f : A → ℕ) where
  abbrev of_some : Option A → ℕ
  of_some None = 0
  of_some (Some x) = f x

  -- what so many places of a list have is no more than what all of it has
  places_within : (g : ℕ → ℕ) (base : ℕ) (xs : List A) (count : ℕ) → ((i : ℕ) → g (base + i) ≤ of_some (slice_get xs i)) → sum_from g base count ≤ sum_over f xs
  unfolding sum_from
  places_within g base xs zero h = omega arith
  places_within g base [] (suc count) h =
      let same : base + 0 ≡ base = omega arith in
      let first : g base ≤ 0 = subst (λ n. g n ≤ 0) same (h 0) in
      let rest = places_within g (base + 1) [] count (λ i. let shift : base + suc i ≡ base + 1 + i = omega arith in subst (λ n. g n ≤ 0) shift (h (suc i))) in
      omega (arith, first, rest)
  places_within g base (x ∷ xs) (suc count) h =
      let same : base + 0 ≡ base = omega arith in
      let first : g base ≤ f x = subst (λ n. g n ≤ f x) same (h 0) in
      let rest = places_within g (base + 1) xs count (λ i. let shift : base + suc i ≡ base + 1 + i = omega arith in subst (λ n. g n ≤ of_some (slice_get xs i)) shift (h (suc i))) in
      omega (arith, first, rest)

one_most : {A : Type 0} (o : Option A) → one_if o ≤ 1
one_most None = omega arith
one_most (Some x) = omega arith

place_of : {A : Type 0} (xs : List A) (i : ℕ) → slice_get xs (1 + i - 1) ≡ slice_get xs i
place_of xs i = let same : 1 + i - 1 ≡ i = omega arith in ap (slice_get xs) same

-- ---- links

module _ {Config Node : Type 0} (devices : List (RecordedState Config Node)) (state : ManagerState) where
  on_within : (change device : ℕ) (links : WireState) (r : Option (RecordedState Config Node)) → left_on change device links r ≤ length links.links
  on_within change device links None = omega arith
  on_within change device links (Some r) = ones (λ link. one_if (lose_link r links change device link)) (λ link. one_most (lose_link r links change device link)) 1 (length links.links)

  side_within : (change d : ℕ) (side : Option SideState) → (wire : WireState) → wire ≡ wire_of_side side → left_on change (1 + d) wire (slice_get devices (1 + d - 1)) ≤ of_some links_on side
  side_within change d None wire e = let most = on_within change (1 + d) wire (slice_get devices (1 + d - 1)) in let none : length wire.links ≡ 0 = ap (λ (v : WireState). length v.links) e in omega (arith, most, none)
  side_within change d (Some side) wire e =
      let most = on_within change (1 + d) wire (slice_get devices (1 + d - 1)) in let same : length wire.links ≡ length side.wire.links = ap (λ (v : WireState). length v.links) e in omega (arith, most, same)

  slot_within : (change : ℕ) (slot : Option SlotState) → slice_get state.slots (change - 1) ≡ slot → left_of devices state change ≤ of_some links_of slot
  slot_within change None there =
      places_within links_on (left_at devices state change) 1 [] (length devices)
      (λ d. side_within change d None (wire_in state change (1 + d)) (ap (wire_of (1 + d)) there))
  slot_within change (Some slot) there =
      places_within links_on (left_at devices state change) 1 slot.sides (length devices)
      (λ d. side_within change d (slice_get slot.sides d) (wire_in state change (1 + d)) (ap (wire_of (1 + d)) there ∙ ap wire_of_side (place_of slot.sides d)))

  links_within : (changes : ℕ) → links_left devices state changes ≤ sum_over links_of state.slots
  links_within changes = places_within links_of (left_of devices state) 1 state.slots changes (λ p. slot_within (1 + p) (slice_get state.slots p) (place_of state.slots p))

-- ---- sessions

module _ {Config Node : Type 0} (devices : List (RecordedState Config Node)) (operators : List (List (Option ℕ))) where
  no_event : (event : Event) (o : Option (Option ℕ)) (b : Bool) → (b ≡ true → 1 ≤ of_some (one_if {A = ℕ}) o) → one_if (event_if b event) ≤ of_some (one_if {A = ℕ}) o
  no_event event o true h = h refl
  no_event event o false h = omega arith

  given_within : (r : RecordedState Config Node) (o : Option (Option ℕ)) → is_some (open_on r (given_in o)) ≡ true → 1 ≤ of_some (one_if {A = ℕ}) o
  given_within r None e = absurd (let f : false ≡ true = e in cc)
  given_within r (Some None) e = absurd (let f : false ≡ true = e in cc)
  given_within r (Some (Some session)) e = omega arith

  by_within : (number device : ℕ) (operator : List (Option ℕ)) (r : Option (RecordedState Config Node)) → one_if (leave_by devices operators number device (Some operator) r) ≤ of_some (one_if {A = ℕ}) (slice_get operator (device - 1))
  by_within number device operator None = omega arith
  by_within number device operator (Some r) = no_event (Leave number device) (slice_get operator (device - 1)) (is_some (has_on operator r (device - 1))) (given_within r (slice_get operator (device - 1)))

  on_operator : (number device : ℕ) (operator : List (Option ℕ)) → operator_at operators number ≡ Some operator → has_session devices operators number device ≤ of_some (one_if {A = ℕ}) (slice_get operator (device - 1))
  unfolding leave_on
  on_operator number device operator there =
      subst (λ o. one_if (leave_by devices operators number device o (slice_get devices (device - 1))) ≤ of_some (one_if {A = ℕ}) (slice_get operator (device - 1))) (sym there) (by_within number device operator (slice_get devices (device - 1)))

  on_nobody : (number device : ℕ) → operator_at operators number ≡ None → has_session devices operators number device ≤ 0
  unfolding leave_on
  on_nobody number device there = subst (λ o. one_if (leave_by devices operators number device o (slice_get devices (device - 1))) ≤ 0) (sym there) (omega arith)

  operator_within : (number : ℕ) (operator : Option (List (Option ℕ))) → operator_at operators number ≡ operator → sessions_of devices operators number ≤ of_some given_to operator
  operator_within number None there = places_within (one_if {A = ℕ}) (has_session devices operators number) 1 [] (length devices) (λ d. on_nobody number (1 + d) there)
  operator_within number (Some operator) there =
      places_within (one_if {A = ℕ}) (has_session devices operators number) 1 operator (length devices)
      (λ d. subst (λ o. has_session devices operators number (1 + d) ≤ of_some (one_if {A = ℕ}) o) (place_of operator d) (on_operator number (1 + d) operator there))

  numbered : (o : ℕ) → operator_at operators (1 + o) ≡ slice_get operators o
  numbered o = ap (λ b. cond b None (slice_get operators (1 + o - 1))) (not_zero o) ∙ place_of operators o
    where
      not_zero : (o : ℕ) → (1 + o == 0) ≡ false
      not_zero o = grind (arith, nat_tests)

  sessions_within : sessions_left devices operators ≤ sum_over given_to operators
  sessions_within = places_within given_to (sessions_of devices operators) 1 operators (length operators) (λ o. operator_within (1 + o) (slice_get operators o) (numbered o))

pub left_within : {Config TheEdit Node : Type 0} (setting : Setting TheEdit) (w : WorldState Config Node) → left_to_close setting w ≤ made (core_of w)
left_within setting w =
    let links = links_within w.devices (manager_in (core_of w)) (length setting.plans) in
    let sessions = sessions_within w.devices w.operators in
    omega (arith, links, sessions)

-- ---- a whole run

no_links : (n : ℕ) → sum_over links_on (replicate n fresh_side) ≡ 0
no_links zero = refl
no_links (suc n) = let rest = no_links n in omega (arith, rest)

no_slots : (change : ℕ) (plans : List ChangePlan) → sum_over links_of (slots_from change plans) ≡ 0
no_slots change [] = refl
no_slots change (plan ∷ plans) = let first = no_links 32 in let rest = no_slots (suc change) plans in two (links_of (fresh_slot change (devices_in plan.edits))) (sum_over links_of (slots_from (suc change) plans)) first rest
  where
    two : (a b : ℕ) → a ≡ 0 → b ≡ 0 → a + b ≡ 0
    two a b e f = omega (arith, e, f)

none_given : (n : ℕ) → sum_over (one_if {A = ℕ}) (replicate n None) ≡ 0
none_given zero = refl
none_given (suc n) = let rest = none_given n in omega (arith, rest)

none_given_all : (n k : ℕ) → sum_over given_to (replicate n (replicate k None)) ≡ 0
none_given_all zero k = refl
none_given_all (suc n) k = let first = none_given k in let rest = none_given_all n k in two (given_to (replicate k None)) (sum_over given_to (replicate n (replicate k None))) first rest
  where
    two : (a b : ℕ) → a ≡ 0 → b ≡ 0 → a + b ≡ 0
    two a b e f = omega (arith, e, f)

module _ {Config TheEdit Node : Type 0} (m : Meaning Config TheEdit Node) (setting : Setting TheEdit) where
  -- so many events have happened at most
  abbrev IsFew : ℕ → WorldState Config Node → Type 0
  IsFew n w = length w.trail ≤ n

  one_few : (n : ℕ) (w : WorldState Config Node) (x : Event) → IsFew n w → IsFew (suc n) (world_step m setting w x)
  one_few n w x k = let grown : length (world_step m setting w x).trail ≡ suc (length w.trail) = one_longer w.trail _ in omega (arith, k, grown)

  later_few : (a b : ℕ) (w : WorldState Config Node) → a ≤ b → IsFew a w → IsFew b w
  later_few a b w h k = omega (arith, k, h)

  followed_few : (n : ℕ) (w : WorldState Config Node) (change : ℕ) (sending : Option Sending) → IsFew n w → IsFew (suc (suc n)) (followed m setting w change sending)
  followed_few n w change None k = later_few n (suc (suc n)) w (omega arith) k
  followed_few n w change (Some sending) k =
      let v = world_step m setting w (Deliver change sending.device sending.link) in
      one_few (suc n) v (Answer change sending.device sending.link (replies_on (wire_in (manager_in (core_of v)) change sending.device) sending.link)) (one_few n w (Deliver change sending.device sending.link) k)

  rounds_few : (turns n : ℕ) (w : WorldState Config Node) (change : ℕ) → IsFew n w → IsFew (3 * turns + n) (rounds m setting turns w change)
  rounds_few zero n w change k = later_few n (3 * 0 + n) w (omega arith) k
  rounds_few (suc turns) n w change k =
      later_few (3 * turns + suc (suc (suc n))) (3 * suc turns + n) (rounds m setting turns (round m setting w change) change) (omega arith)
      (rounds_few turns (suc (suc (suc n))) (round m setting w change) change
      (followed_few (suc n) (world_step m setting w (Turn change)) change (sending_of (elementary m setting (core_of w) (Turn change)).happened) (one_few n w (Turn change) k)))

  plain_few : (event : Event) → (n : ℕ) (w : WorldState Config Node) → IsFew n w → IsFew (1 + n) (world_step m setting w event)
  plain_few event n w k = later_few (suc n) (1 + n) (world_step m setting w event) (omega arith) (one_few n w event k)

  step_few : (n : ℕ) (w : WorldState Config Node) (event : Event) → IsFew n w → IsFew (elementary_count event + n) (event_step m setting w event)
  step_few n w (Round change turns) k = rounds_few turns n w change k
  step_few n w event k = plain_few event n w k

  run_few : (n : ℕ) (w : WorldState Config Node) (events : List Event) → IsFew n w → IsFew (events_count events + n) (run m setting w events)
  run_few n w [] k = later_few n (0 + n) w (omega arith) k
  run_few n w (event ∷ events) k =
      later_few (events_count events + (elementary_count event + n)) (elementary_count event + events_count events + n) (run m setting (event_step m setting w event) events) (omega arith)
      (run_few (elementary_count event + n) (event_step m setting w event) events (step_few n w event k))

  -- and no more was made
  abbrev MadeFew : WorldState Config Node → Type 0
  MadeFew w = made (core_of w) ≤ length w.trail

  one_made : (w : WorldState Config Node) (x : Event) → IsGiven setting x → MadeFew w → MadeFew (world_step m setting w x)
  one_made w x given few =
      let grown : length (world_step m setting w x).trail ≡ suc (length w.trail) = one_longer w.trail _ in
      let more = makes_one m setting (core_of w) x given in
      omega (arith, few, grown, more)

  module _ (running : List Config) (events : List Event) where
    start_made : MadeFew (start setting running)
    start_made =
        let slots = no_slots 1 setting.plans in
        let operators = none_given_all (length setting.users) (length running) in
        omega (arith, slots, operators)

    abbrev ran : WorldState Config Node
    ran = run m setting (start setting running) events

    -- a run of so many events has so many in its trail, and no more is left to close
    pub trail_few : length ran.trail ≤ events_count events
    trail_few = let long = run_few 0 (start setting running) events (omega arith) in omega (arith, long)

    pub left_few : AreGiven setting events → left_to_close setting ran ≤ length ran.trail
    left_few given =
        let few = run_keeps m setting MadeFew one_made (start setting running) events given start_made in
        let left = left_within setting ran in
        omega (arith, few, left)
