-- Loops that make lists.
use Rattle.std.proofs.Common.{◌≡◌, ℕ, suc, ◌+◌, ◌-◌, ◌<◌, List, [], ◌∷◌, ◌++◌, replicate, refl, ap, arith}

-- one of the values that are left
pub replicate_left : {A : Type 0} (value : A) (n k : ℕ) → k < n → replicate (n - k) value ≡ value ∷ replicate (n - (k + 1)) value
replicate_left value n k h = let e : n - k ≡ suc (n - (k + 1)) = omega arith in rw e refl

pub append_nil : {A : Type 0} (xs : List A) → xs ++ [] ≡ xs
append_nil [] = refl
append_nil (x ∷ xs) = ap (λ rest. x ∷ rest) (append_nil xs)
