-- Which change set a token names.
use Rattle.std.proofs.Common.{Option, Some, None, ◌≡◌, ℕ, ◌≤◌, ◌==◌, ◌&&◌, ◌++◌, Bool, true, false, codes, nat_le, List, drop, refl, sym, ap, ◌∙◌, arith, if◌then◌else◌}
use Rattle.std.specs.Str.{bytes_eq}
use Rattle.std.proofs.lemmas.Bool.Decides.{nat_tests, Decides-eqb}
use Rattle.std.proofs.lemmas.Slice.Eq.{bytes_eq-Decides, starts_is}
use Rattle.std.proofs.lemmas.Option.{same_Some}
use Rattle.nm_base.specs.Decimal.{number_of}
use Rattle.nm_base.specs.Token.{token_of, is_reserved}
use Rattle.nm_base.proofs.Decimals.{number_spells, decimal_is_read}
use Rattle.nm_base.proofs.Tokens.{token_told}
use Rattle.nm_history.specs.Outcome.{is_token}
use Rattle.nm_chronicle.specs.Phases.{in_range, named, named_by}

-- what the named change set tells: the token is its, or no change set's
pub record IsNamed (change : ℕ) (persist : Option (List ℕ)) : Type 0 where
  pub low : 1 ≤ change
  pub high : change ≤ 64
  pub its : (other : ℕ) → other ≤ 64 → is_token (token_of other) persist ≡ (other == change)

abbrev pub Names : Option (List ℕ) → Option ℕ → Type 0
Names persist None = (change : ℕ) → 1 ≤ change → change ≤ 64 → is_token (token_of change) persist ≡ false
Names persist (Some change) = IsNamed change persist

-- ---- a number in range

ranged : (found : Option ℕ) (change : ℕ) → in_range found ≡ Some change → (found ≡ Some change) × (1 ≤ change) × (change ≤ 64)
ranged None change e = cc
ranged (Some number) change e = by_test (nat_le 1 number && nat_le number 64) refl e
  where
    by_test : (b : Bool) → (nat_le 1 number && nat_le number 64) ≡ b → (if b then Some number else None) ≡ Some change → (Some number ≡ Some change) × (1 ≤ change) × (change ≤ 64)
    by_test true is got =
        let same : number ≡ change = same_Some number change got in
        let low : 1 ≤ number = grind (arith, nat_tests) in
        let high : number ≤ 64 = grind (arith, nat_tests) in
        (got, omega (arith, same, low), omega (arith, same, high))
    by_test false is got = cc

in_range_is : (change : ℕ) → 1 ≤ change → change ≤ 64 → in_range (Some change) ≡ Some change
in_range_is change low high =
    let b : (nat_le 1 change && nat_le change 64) ≡ true = grind (arith, nat_tests) in
    ap (λ t. if t then Some change else None) b

-- ---- the token of a change set names it

named_own : (change : ℕ) → 1 ≤ change → change ≤ 64 → named (token_of change) ≡ Some change
unfolding named
named_own change low high = ap in_range (decimal_is_read change (omega (arith, high))) ∙ in_range_is change low high

-- and no other token does
named_only : (token : List ℕ) (change : ℕ) → named token ≡ Some change → (token ≡ token_of change) × (1 ≤ change) × (change ≤ 64)
unfolding named
named_only token change e = by_test (is_reserved token) refl e
  where
    by_test : (b : Bool) → is_reserved token ≡ b → (if b then in_range (number_of (drop 5 token)) else None) ≡ Some change → (token ≡ token_of change) × (1 ≤ change) × (change ≤ 64)
    by_test true is got =
        let read = ranged (number_of (drop 5 token)) change got in
        let front : token ≡ codes "netm:" ++ drop 5 token = (starts_is Decides-eqb token (codes "netm:") (is_reserved token) refl).0 is in
        (front ∙ ap (λ rest. codes "netm:" ++ rest) (number_spells (drop 5 token) change read.0), read.1, read.2)
    by_test false is got = cc

is_false : (b : Bool) → (b ≡ true → ⊥) → b ≡ false
is_false true none = absurd (none refl)
is_false false none = refl

unnamed : (token : List ℕ) (change : ℕ) → named token ≡ None → 1 ≤ change → change ≤ 64 → is_token (token_of change) (Some token) ≡ false
unnamed token change none low high = is_false (bytes_eq (token_of change) token) (λ same.
    let e : token_of change ≡ token = (bytes_eq-Decides (token_of change) token).0 same in
    let got : named token ≡ Some change = sym (ap named e) ∙ named_own change low high in
    let both : None ≡ Some change = sym none ∙ got in cc)

is_its : (token : List ℕ) (change : ℕ) → named token ≡ Some change → IsNamed change (Some token)
is_its token change e =
    let it = named_only token change e in
    let high = it.2 in record {
      low = it.1;
      high = high;
      its = λ other few. ap (bytes_eq (token_of other)) it.0 ∙ token_told other change (omega (arith, few)) (omega (arith, high));
    }

names_token : (token : List ℕ) (found : Option ℕ) → named token ≡ found → Names (Some token) found
names_token token None e = λ change low high. unnamed token change e low high
names_token token (Some change) e = is_its token change e

pub names_at : (persist : Option (List ℕ)) → Names persist (named_by persist)
names_at None = λ change low high. refl
names_at (Some token) = names_token token (named token) refl
