-- Whether a text has a byte, and where it first is.
use Rattle.std.proofs.Common.{◌≡◌, ℕ, List, [], ◌∷◌, length, Bool, false, refl, arith}
use Rattle.std.proofs.lemmas.Grind.{common_steps}
use Rattle.std.specs.List.{list_any, position_or_len}

pub any-past : (p : ℕ → Bool) (xs : List ℕ) → position_or_len p xs ≡ length xs → list_any p xs ≡ false
any-past p [] e = refl
any-past p (x ∷ xs) e = grind (arith, common_steps, any-past p xs)
