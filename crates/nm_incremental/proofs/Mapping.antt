-- What a list was mapped from.
use Rattle.std.proofs.Common.{◌≡◌, List, [], ◌∷◌, map, refl, inl, inr}
use Rattle.nm_validate_rules.proofs.Among.{Among}

-- what a list was mapped from
pub record Mapped {X Y : Type 0} (f : X → Y) (xs : List X) (y : Y) : Type 0 where
  pub x : X
  pub among : Among xs x
  pub is : y ≡ f x

mapped_later : {X Y : Type 0} (f : X → Y) (z : X) (xs : List X) (y : Y) → Mapped f xs y → Mapped f (z ∷ xs) y
mapped_later f z xs y h = record { x = h.x; among = inr h.among; is = h.is }

pub mapped : {X Y : Type 0} (f : X → Y) (xs : List X) (y : Y) → Among (map f xs) y → Mapped f xs y
mapped f [] y a = absurd a
mapped f (x ∷ xs) y (inl e) = record { x = x; among = inl refl; is = e }
mapped f (x ∷ xs) y (inr a) = mapped_later f x xs y (mapped f xs y a)
