-- Seats and sides, place by place, and entries of a journal.
use Rattle.std.proofs.Common.{◌≡◌, ◌<◌, ◌∙◌, ℕ, zero, suc, ◌+◌, ◌≤◌, Bool, true, false, ◌||◌, cond, List, [], ◌∷◌, ◌++◌, length, map, replicate, find, slice_get, slice_set, Option, Some, None, option_and_then, refl, sym, ap, subst, arith}
use Rattle.std.specs.List.{list_any}
use Rattle.std.specs.Option.{option_or}
use Rattle.std.proofs.lemmas.Bool.Decides.{nat_tests}
use Rattle.std.proofs.lemmas.List.Folds.{find-append, list_any-append}
use Rattle.nm_proto.specs.declared.journal.Entry.{Entry}
use Rattle.nm_proto.specs.declared.journal.Entry.TheVariants.{Decided}
use Rattle.nm_proto.specs.declared.journal.Verdict.{Verdict}
use Rattle.nm_journal.specs.Entries.{decides, ends}
use Rattle.nm_recovery.specs.Recovery.{verdict_in, verdict_of, is_ended_in}
use Rattle.nm_decider_stage.specs.declared.stage.Stage.{Stage}
use Rattle.nm_decider.specs.declared.seat.Seat.{Seat}
use Rattle.nm_decider.specs.Course.{seats_from, seat_of}
use Rattle.nm_journal.specs.Record.{is_device}
use Rattle.nm_manager.specs.Slot.{SideState}
use Rattle.nm_safety.specs.Step.{GoWith, GoesWith, IsSeated}

-- ---- lists

module _ {A : Type 0} where
  pub set_same : (xs : List A) (i : ℕ) (x : A) → slice_get xs i ≡ Some x → slice_set xs i x ≡ xs
  set_same [] i x h = refl
  set_same (y ∷ xs) zero x h = let e : y ≡ x = cc in ap (λ first. first ∷ xs) (sym e)
  set_same (y ∷ xs) (suc i) x h = ap (λ rest. y ∷ rest) (set_same xs i x h)

  pub set_set : (xs : List A) (i : ℕ) (x y : A) → slice_set (slice_set xs i x) i y ≡ slice_set xs i y
  set_set [] i x y = refl
  set_set (z ∷ xs) zero x y = refl
  set_set (z ∷ xs) (suc i) x y = ap (λ rest. z ∷ rest) (set_set xs i x y)

  pub set_length : (xs : List A) (i : ℕ) (x : A) → length (slice_set xs i x) ≡ length xs
  set_length [] i x = refl
  set_length (y ∷ xs) zero x = refl
  set_length (y ∷ xs) (suc i) x = ap suc (set_length xs i x)

  pub map_length : (change : A → A) (xs : List A) → length (map change xs) ≡ length xs
  map_length change [] = refl
  map_length change (x ∷ xs) = ap suc (map_length change xs)

-- one seat and its side are others
pub both_set : (P : ℕ → Option Seat → Option SideState → Type 0) (seats : List Seat) (sides : List SideState) (i : ℕ) (seat new_seat : Seat) (side new_side : SideState)
    → slice_get seats i ≡ Some seat → slice_get sides i ≡ Some side → ((j : ℕ) → P j (slice_get seats j) (slice_get sides j)) → P i (Some new_seat) (Some new_side)
    → (j : ℕ) → P j (slice_get (slice_set seats i new_seat) j) (slice_get (slice_set sides i new_side) j)
both_set P [] sides i seat new_seat side new_side h g all now j = absurd (let e : None ≡ Some seat = h in cc)
both_set P (x ∷ seats) [] i seat new_seat side new_side h g all now j = absurd (let e : None ≡ Some side = g in cc)
both_set P (x ∷ seats) (y ∷ sides) zero seat new_seat side new_side h g all now zero = now
both_set P (x ∷ seats) (y ∷ sides) zero seat new_seat side new_side h g all now (suc j) = all (suc j)
both_set P (x ∷ seats) (y ∷ sides) (suc i) seat new_seat side new_side h g all now zero = all zero
both_set P (x ∷ seats) (y ∷ sides) (suc i) seat new_seat side new_side h g all now (suc j) =
    both_set (λ k. P (suc k)) seats sides i seat new_seat side new_side h g (λ k. all (suc k)) now j

-- ---- seats at the beginning, and after memory was lost

later : (device j : ℕ) → device + 1 + j ≡ device + suc j
later device j = omega arith

seated : (devices device j count : ℕ) (first : Stage) → 1 ≤ device → device + suc count ≡ 33 → IsSeated devices device (seat_of devices first device)
seated devices device j count first low high = record { numbered = numbered device count low high; member = refl }
  where
    numbered : (device count : ℕ) → 1 ≤ device → device + suc count ≡ 33 → is_device device ≡ true
    numbered device count low high = grind (arith, nat_tests)

pub from_pairs : (devices : ℕ) (decided : Option Verdict) (first : Stage) (change : SideState → SideState) → ((device : ℕ) (side : SideState) → GoesWith decided (seat_of devices first device) (change side))
    → (sides : List SideState) (device count j : ℕ) → length sides ≡ count → 1 ≤ device → device + count ≡ 33
    → GoWith devices decided (device + j) (slice_get (seats_from devices first device count) j) (slice_get (map change sides) j)
unfolding seats_from
from_pairs devices decided first change goes [] device zero j l low high = tt
from_pairs devices decided first change goes [] device (suc count) j l low high = absurd (omega (arith, l))
from_pairs devices decided first change goes (side ∷ sides) device zero j l low high = absurd (omega (arith, l))
from_pairs devices decided first change goes (side ∷ sides) device (suc count) zero l low high =
    subst (λ d. GoWith devices decided d (Some (seat_of devices first device)) (Some (change side))) (omega arith) (seated devices device zero count first low high, goes device side)
from_pairs devices decided first change goes (side ∷ sides) device (suc count) (suc j) l low high =
    subst (λ d. GoWith devices decided d (slice_get (seats_from devices first (device + 1) count) j) (slice_get (map change sides) j)) (later device j)
    (from_pairs devices decided first change goes sides (device + 1) count j (omega (arith, l)) (omega arith) (omega (arith, high)))

pub map_replicate : (change : SideState → SideState) (n : ℕ) (side : SideState) → map change (replicate n side) ≡ replicate n (change side)
map_replicate change zero side = refl
map_replicate change (suc n) side = ap (λ rest. change side ∷ rest) (map_replicate change n side)

pub length_replicate : (n : ℕ) (side : SideState) → length (replicate n side) ≡ n
length_replicate zero side = refl
length_replicate (suc n) side = ap suc (length_replicate n side)

-- what stands at a place of these
pub seat_from : (devices : ℕ) (first : Stage) (device count j : ℕ) → j < count → slice_get (seats_from devices first device count) j ≡ Some (seat_of devices first (device + j))
unfolding seats_from
seat_from devices first device zero j h = absurd (omega (arith, h))
seat_from devices first device (suc count) zero h = ap (λ d. Some (seat_of devices first d)) (no_more device)
  where
    no_more : (device : ℕ) → device ≡ device + 0
    no_more device = omega arith
seat_from devices first device (suc count) (suc j) h =
    seat_from devices first (device + 1) count j (omega (arith, h)) ∙ ap (λ d. Some (seat_of devices first d)) (later device j)

-- ---- entries

or_none : {A : Type 0} (o : Option A) → option_or o None ≡ o
or_none None = refl
or_none (Some x) = refl

skip : {A : Type 0} (b : Bool) (x : A) → b ≡ false → cond b (Some x) None ≡ None
skip true x h = absurd (let e : true ≡ false = h in cc)
skip false x h = refl

pub verdict_same : (change : ℕ) (entries : List Entry) (entry : Entry) → decides change entry ≡ false → verdict_in change (entries ++ entry ∷ []) ≡ verdict_in change entries
verdict_same change entries entry h =
    ap (option_and_then verdict_of) (find-append (decides change) entries (entry ∷ [])
    ∙ ap (option_or (find (decides change) entries)) (skip (decides change entry) entry h) ∙ or_none (find (decides change) entries))

none_first : (test : Entry → Bool) (entry : Entry) (entries : List Entry) (b : Bool) → test entry ≡ b → (list_any test entries ≡ false → find test entries ≡ None)
    → list_any test (entry ∷ entries) ≡ false → find test (entry ∷ entries) ≡ None
none_first test entry entries true e rest h = absurd (let g : (true || list_any test entries) ≡ false = ap (λ b. b || list_any test entries) (sym e) ∙ h in cc)
none_first test entry entries false e rest h =
    ap (λ b. cond b (Some entry) (find test entries)) e ∙ rest (ap (λ b. b || list_any test entries) (sym e) ∙ h)

none_found : (test : Entry → Bool) (entries : List Entry) → list_any test entries ≡ false → find test entries ≡ None
none_found test [] h = refl
none_found test (entry ∷ entries) h = none_first test entry entries (test entry) refl (none_found test entries) h

takes : {A : Type 0} (b : Bool) (x : A) → b ≡ true → cond b (Some x) None ≡ Some x
takes true x h = refl
takes false x h = absurd (let e : false ≡ true = h in cc)

itself : (n : ℕ) (v : Verdict) → decides n (Decided n v) ≡ true
itself n v = grind (arith, nat_tests)

pub verdict_new : (change : ℕ) (entries : List Entry) (v : Verdict) → list_any (decides change) entries ≡ false → verdict_in change (entries ++ Decided change v ∷ []) ≡ Some v
verdict_new change entries v h =
    ap (option_and_then verdict_of) (find-append (decides change) entries (Decided change v ∷ [])
    ∙ ap (λ o. option_or o (cond (decides change (Decided change v)) (Some (Decided change v)) None)) (none_found (decides change) entries h)
    ∙ takes (decides change (Decided change v)) (Decided change v) (itself change v))

or_false : (a b : Bool) → (a || b) ≡ false → a ≡ false
or_false true b h = absurd (let e : true ≡ false = h in cc)
or_false false b h = refl

pub not_ended_before : (change : ℕ) (entries : List Entry) (entry : Entry) → is_ended_in change (entries ++ entry ∷ []) ≡ false → is_ended_in change entries ≡ false
not_ended_before change entries entry h =
    or_false (is_ended_in change entries) (list_any (ends change) (entry ∷ [])) (sym (list_any-append (ends change) entries (entry ∷ [])) ∙ h)
