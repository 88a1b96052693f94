-- Where the first line feed stands.
use Rattle.std.proofs.Common.{◌≡◌, ℕ, ◌≤◌, List, length, Option, Some, None, cond, ap, ◌∙◌, arith}
use Rattle.std.specs.Prelude.{nat_lt, not}
use Rattle.std.specs.Option.{unwrap_or}
use Rattle.std.specs.List.{position_or_len}
use Rattle.std.proofs.lemmas.Bool.Decides.{nat_tests}
use Rattle.std.proofs.lemmas.List.Sums.{prefix_len-le-length}
use Rattle.nm_explain.specs.Lines.{is_break}

place_is : (p n : ℕ) → p ≤ n → unwrap_or (cond (nat_lt p n) (Some p) None) n ≡ p
place_is p n h = grind (arith, nat_tests)

pub first_break : (xs : List ℕ) (r : ℕ) (o : Option ℕ) → o ≡ cond (nat_lt (position_or_len is_break xs) (length xs)) (Some (position_or_len is_break xs)) None → r ≡ unwrap_or o (length xs) → r ≡ position_or_len is_break xs
first_break xs r o p e = e ∙ ap (λ o. unwrap_or o (length xs)) p ∙ place_is (position_or_len is_break xs) (length xs) (prefix_len-le-length (λ b. not (is_break b)) xs)
