-- Tokens of change sets are told apart by comparing their bytes.
use Rattle.std.proofs.Common.{◌≡◌, ℕ, ◌<◌, ◌^◌, ◌==◌, drop, ap, arith}
use Rattle.std.specs.Str.{bytes_eq}
use Rattle.std.proofs.lemmas.Fmt.{decimal_injective}
use Rattle.std.proofs.lemmas.Slice.Eq.{bytes_eq-Decides}
use Rattle.std.proofs.lemmas.Bool.Decides.{same_from_decides, Decides-like, Decides-eqb}
use Rattle.nm_base.specs.Token.{token_of}

pub token_its_own : (c d : ℕ) → c < 2 ^ 32 → d < 2 ^ 32 → token_of c ≡ token_of d → c ≡ d
token_its_own c d small_c small_d e = decimal_injective c d (omega arith) (omega arith) (ap (drop 5) e)

pub token_told : (c d : ℕ) → c < 2 ^ 32 → d < 2 ^ 32 → bytes_eq (token_of c) (token_of d) ≡ (c == d)
token_told c d small_c small_d = same_from_decides _ _
    (Decides-like (bytes_eq (token_of c) (token_of d)) (token_its_own c d small_c small_d) (λ e. ap token_of e) (bytes_eq-Decides (token_of c) (token_of d)))
    (Decides-eqb c d)
