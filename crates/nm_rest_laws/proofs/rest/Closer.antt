-- What is open grows less where sessions end and sides close.
use Rattle.std.proofs.Common.{◌≡◌, ◌≤◌, ◌∙◌, ℕ, zero, suc, ◌-◌, Bool, true, false, cond, ◌&&◌, not, List, [], ◌∷◌, length, Option, Some, None, is_some, slice_get, slice_set, refl, sym, ap, subst, arith}
use Rattle.nm_proto.specs.declared.plan.Event.{Event}
use Rattle.nm_proto.specs.declared.plan.Event.TheVariants.{Leave, Lose}
use Rattle.nm_sessions.specs.Sessions.{is_open}
use Rattle.nm_history.specs.History.{RecordedState}
use Rattle.nm_wire.specs.Wire.{WireState, is_open_at, session_at, is_current}
use Rattle.nm_manager.specs.Manager.{ManagerState, wire_in}
use Rattle.nm_world.specs.World.{open_on, given_on, is_session_open, is_side_open, operator_at}
use Rattle.nm_world.specs.Drain.{event_if, is_left, lose_link, leave_by, leave_on}
use Rattle.nm_rest_laws.specs.Closing.{one_if, sum_from, has_session, sessions_of, sessions_left, left_on, left_at, left_of, links_left}
use Rattle.nm_rest_laws.proofs.rest.Sums.{sum_within}

-- one element is another, and each is of what it was
pub set_relates : {A : Type 0} (R : Option A → Option A → Type 0) → ((o : Option A) → R o o) → (xs : List A) (i : ℕ) (old new : A) → slice_get xs i ≡ Some old → R (Some old) (Some new)
    → (j : ℕ) → R (slice_get xs j) (slice_get (slice_set xs i new) j)
set_relates R same [] i old new h now j = absurd (let e : None ≡ Some old = h in cc)
set_relates R same (x ∷ xs) zero old new h now zero = let e : old ≡ x = cc in subst (λ y. R (Some y) (Some new)) e now
set_relates R same (x ∷ xs) zero old new h now (suc j) = same (slice_get xs j)
set_relates R same (x ∷ xs) (suc i) old new h now zero = same (Some x)
set_relates R same (x ∷ xs) (suc i) old new h now (suc j) = set_relates R same xs i old new h now j

-- ---- a device

-- no session is open that wasn't
module _ {Config Node : Type 0} where
  abbrev pub Fewer : RecordedState Config Node → RecordedState Config Node → Type 0
  Fewer old new = (session : ℕ) → is_open new.device.sessions session ≡ true → is_open old.device.sessions session ≡ true

  abbrev pub FewerAt : Option (RecordedState Config Node) → Option (RecordedState Config Node) → Type 0
  FewerAt None None = Unit {0}
  FewerAt None (Some new) = ⊥
  FewerAt (Some old) None = ⊥
  FewerAt (Some old) (Some new) = Fewer old new

  pub fewer_same : (o : Option (RecordedState Config Node)) → FewerAt o o
  fewer_same None = tt
  fewer_same (Some r) = λ session is. is

-- ---- an operator

may_be : (event : Event) (session : ℕ) (old new : Bool) → (new ≡ true → old ≡ true)
    → one_if (event_if (is_some (cond new (Some session) None)) event) ≤ one_if (event_if (is_some (cond old (Some session) None)) event)
may_be event session true true h = omega arith
may_be event session true false h = omega arith
may_be event session false false h = omega arith
may_be event session false true h = absurd (let e : false ≡ true = h refl in cc)

module _ {Config Node : Type 0} (event : Event) where
  on_within : (old new : RecordedState Config Node) → Fewer old new → (given : Option ℕ) → one_if (event_if (is_some (open_on new given)) event) ≤ one_if (event_if (is_some (open_on old given)) event)
  on_within old new fewer None = omega arith
  on_within old new fewer (Some session) = may_be event session (is_open old.device.sessions session) (is_open new.device.sessions session) (fewer session)

module _ {Config Node : Type 0} (D N : List (RecordedState Config Node)) (operators : List (List (Option ℕ))) where
  by_within : (number device : ℕ) (operator : Option (List (Option ℕ))) (old new : Option (RecordedState Config Node)) → FewerAt old new
      → one_if (leave_by N operators number device operator new) ≤ one_if (leave_by D operators number device operator old)
  by_within number device None old new fewer = omega arith
  by_within number device (Some operator) None None fewer = omega arith
  by_within number device (Some operator) None (Some new) fewer = absurd fewer
  by_within number device (Some operator) (Some old) None fewer = absurd fewer
  by_within number device (Some operator) (Some old) (Some new) fewer = on_within (Leave number device) old new fewer (given_on operator (device - 1))

  module _ (fewer : (j : ℕ) → FewerAt (slice_get D j) (slice_get N j)) (same : length N ≡ length D) where
    pub session_within : (number device : ℕ) → has_session N operators number device ≤ has_session D operators number device
    unfolding leave_on
    session_within number device = by_within number device (operator_at operators number) (slice_get D (device - 1)) (slice_get N (device - 1)) (fewer (device - 1))

    pub of_within : (number : ℕ) → sessions_of N operators number ≤ sessions_of D operators number
    of_within number = subst (λ n. sum_from (has_session N operators number) 1 n ≤ sessions_of D operators number) (sym same)
        (sum_within (has_session D operators number) (has_session N operators number) (session_within number) 1 (length D))

    pub sessions_within : sessions_left N operators ≤ sessions_left D operators
    sessions_within = sum_within (sessions_of D operators) (sessions_of N operators) of_within 1 (length operators)

-- ---- links

-- links are as they were, but that sides may have closed
pub record Duller (old new : WireState) : Type 0 where
  pub count : length new.links ≡ length old.links
  pub current : new.current ≡ old.current
  pub session : (link : ℕ) → session_at new link ≡ session_at old link
  pub opened : (link : ℕ) → is_open_at new link ≡ true → is_open_at old link ≡ true

pub dull_same : (wire : WireState) → Duller wire wire
dull_same wire = record { count = refl; current = refl; session = λ link. refl; opened = λ link is. is }

both : (a b : Bool) → (a && b) ≡ true → (a ≡ true) × (b ≡ true)
both true b h = (refl, h)
both false b h = absurd (let e : false ≡ true = h in cc)

all_three : (a b c : Bool) → a ≡ true → b ≡ true → c ≡ true → ((a && b) && c) ≡ true
all_three true true true g h e = refl
all_three true true false g h e = absurd (let f : false ≡ true = e in cc)
all_three true false c g h e = absurd (let f : false ≡ true = h in cc)
all_three false b c g h e = absurd (let f : false ≡ true = g in cc)

pub no_more : (event : Event) (old new : Bool) → (new ≡ true → old ≡ true) → one_if (event_if new event) ≤ one_if (event_if old event)
no_more event true true h = omega arith
no_more event true false h = omega arith
no_more event false false h = omega arith
no_more event false true h = absurd (let e : false ≡ true = h refl in cc)

module _ {Config Node : Type 0} (r n : RecordedState Config Node) (fewer : Fewer r n) where
  session_so : (session : Option ℕ) → is_session_open n session ≡ true → is_session_open r session ≡ true
  session_so None e = refl
  session_so (Some session) e = fewer session e

  module _ (old new : WireState) (dull : Duller old new) where
    current_so : (link : ℕ) → is_current new link ≡ is_current old link
    current_so link = ap (λ (one : Option ℕ). is_current (record { links = old.links; current = one }) link) dull.current

    left_so : (link : ℕ) → is_left n new link ≡ true → is_left r old link ≡ true
    left_so link h =
        let one = both (is_side_open n new link) (not (is_current new link)) h in
        let two = both (is_open_at new link) (is_session_open n (session_at new link)) one.0 in
        all_three (is_open_at old link) (is_session_open r (session_at old link)) (not (is_current old link)) (dull.opened link two.0)
        (session_so (session_at old link) (ap (is_session_open n) (sym (dull.session link)) ∙ two.1)) (ap not (sym (current_so link)) ∙ one.1)

    pub link_within : (change device link : ℕ) → one_if (lose_link n new change device link) ≤ one_if (lose_link r old change device link)
    unfolding lose_link
    link_within change device link = no_more (Lose change device link) (is_left r old link) (is_left n new link) (left_so link)

    pub on_fewer : (change device : ℕ) → left_on change device new (Some n) ≤ left_on change device old (Some r)
    on_fewer change device = subst (λ k. sum_from (λ link. one_if (lose_link n new change device link)) 1 k ≤ left_on change device old (Some r)) (sym dull.count)
        (sum_within (λ link. one_if (lose_link r old change device link)) (λ link. one_if (lose_link n new change device link)) (link_within change device) 1 (length old.links))

module _ {Config Node : Type 0} (change device : ℕ) (old new : WireState) (dull : Duller old new) where
  pub any_fewer : (r n : Option (RecordedState Config Node)) → FewerAt r n → left_on change device new n ≤ left_on change device old r
  any_fewer None None fewer = omega arith
  any_fewer None (Some n) fewer = absurd fewer
  any_fewer (Some r) None fewer = absurd fewer
  any_fewer (Some r) (Some n) fewer = on_fewer r n fewer old new dull change device

module _ {Config Node : Type 0} (D N : List (RecordedState Config Node)) (state now : ManagerState) (fewer : (j : ℕ) → FewerAt (slice_get D j) (slice_get N j)) (same : length N ≡ length D)
    (dull : (change device : ℕ) → Duller (wire_in state change device) (wire_in now change device)) where
  pub at_within : (change device : ℕ) → left_at N now change device ≤ left_at D state change device
  at_within change device = any_fewer change device (wire_in state change device) (wire_in now change device) (dull change device) (slice_get D (device - 1)) (slice_get N (device - 1)) (fewer (device - 1))

  pub change_within : (change : ℕ) → left_of N now change ≤ left_of D state change
  change_within change = subst (λ n. sum_from (left_at N now change) 1 n ≤ left_of D state change) (sym same)
      (sum_within (left_at D state change) (left_at N now change) (at_within change) 1 (length D))

  pub links_within : (changes : ℕ) → links_left N now changes ≤ links_left D state changes
  links_within changes = sum_within (left_of D state) (left_of N now) change_within 1 changes
