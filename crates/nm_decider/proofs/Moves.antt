-- What a move changes of a seat, place by place.
use Rattle.std.proofs.Common.{◌≡◌, ℕ, zero, suc, List, [], ◌∷◌, map, slice_get, slice_set, Option, Some, None, refl, ap}
use Rattle.nm_decider.specs.declared.seat.Seat.{Seat}

module _ (R : Option Seat → Option Seat → Type 0) (same : (o : Option Seat) → R o o) where
  -- one seat is another
  pub at_set : (seats : List Seat) (i j : ℕ) (old new : Seat) → slice_get seats i ≡ Some old → (i ≡ j → R (Some old) (Some new)) → R (slice_get seats j) (slice_get (slice_set seats i new) j)
  at_set [] i j old new h r = absurd (let e : None ≡ Some old = h in cc)
  at_set (x ∷ seats) zero zero old new h r = let e : x ≡ old = cc in rw e (r refl)
  at_set (x ∷ seats) zero (suc j) old new h r = same (slice_get seats j)
  at_set (x ∷ seats) (suc i) zero old new h r = same (Some x)
  at_set (x ∷ seats) (suc i) (suc j) old new h r = at_set seats i j old new h (λ e. r (ap (λ n. suc n) e))

  -- each seat is another
  pub at_map : (change : Seat → Seat) → ((seat : Seat) → R (Some seat) (Some (change seat))) → (seats : List Seat) (j : ℕ) → R (slice_get seats j) (slice_get (map change seats) j)
  at_map change r [] j = same None
  at_map change r (x ∷ seats) zero = r x
  at_map change r (x ∷ seats) (suc j) = at_map change r seats j

-- what stands where it was set
pub set_there : (seats : List Seat) (i : ℕ) (old new : Seat) → slice_get seats i ≡ Some old → slice_get (slice_set seats i new) i ≡ Some new
set_there [] i old new h = absurd (let e : None ≡ Some old = h in cc)
set_there (x ∷ seats) zero old new h = refl
set_there (x ∷ seats) (suc i) old new h = set_there seats i old new h
