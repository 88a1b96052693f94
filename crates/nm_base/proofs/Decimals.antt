-- What `number_of` reads is the one decimal of the number, and each decimal is read.
use Rattle.std.proofs.Common.{Option, Some, None, Bool, true, false, cond, ◌≡◌, ◌≢◌, ℕ, ◌+◌, ◌-◌, ◌*◌, ◌^◌, ◌<◌, ◌≤◌, List, [], ◌∷◌, length, get_or, ◌&&◌, nat_lt, nat_eq, refl, sym, ap, subst, ◌∙◌, arith, rules, decimal, inl, inr, IfSome}
use Rattle.std.specs.Char.{is_ascii_digit, digit_value}
use Rattle.std.specs.Str.Parse.{AllDigits, digits_value, digits_value_after}
use Rattle.std.proofs.lemmas.Str.{digit_value_digit}
use Rattle.std.proofs.lemmas.Str.Parse.{IsNumeralModel, numerals_by_value, tells_digits, digit_from_value}
use Rattle.std.proofs.lemmas.Fmt.{decimal-digits_value, digits_decimal, digits_value-decimal, decimal_nonempty, first_decimal, decimal_digit}
use Rattle.std.proofs.lemmas.Bool.{cases_eq}
use Rattle.std.proofs.lemmas.Bool.Decides.{nat_tests}
use Rattle.nm_base.specs.Decimal.{digits_after, number_of}

own : IsNumeralModel (AllDigits 10) (digits_value 10)
own = numerals_by_value (AllDigits 10) tells_digits

some_from : (t : Bool) (x : Option ℕ) (y : ℕ) → cond t x None ≡ Some y → (t ≡ true) × (x ≡ Some y)
some_from true x y e = (refl, e)
some_from false x y e = cc

some_from_else : (t : Bool) (x : Option ℕ) (y : ℕ) → cond t None x ≡ Some y → (t ≡ false) × (x ≡ Some y)
some_from_else true x y e = cc
some_from_else false x y e = (refl, e)

same_some : (m n : ℕ) → Some m ≡ Some n → m ≡ n
same_some m n e = cc

tested : (n b : ℕ) → (is_ascii_digit b && nat_lt (n * 10 + (b - 48)) (2 ^ 64)) ≡ true → (48 ≤ b) × (b ≤ 57) × (n * 10 + (b - 48) < 2 ^ 64)
tested n b e = grind (arith, nat_tests)

tests : (n b : ℕ) → 48 ≤ b → b ≤ 57 → n * 10 + (b - 48) < 2 ^ 64 → (is_ascii_digit b && nat_lt (n * 10 + (b - 48)) (2 ^ 64)) ≡ true
tests n b low high fits = grind (arith, nat_tests)

value_of_digit : (b : ℕ) → 48 ≤ b → b ≤ 57 → digit_value b ≡ b - 48
value_of_digit b low high = omega (arith, digit_value_digit b (low, high))

after_takes : (n : ℕ) (bs : List ℕ) (m : ℕ) → n < 2 ^ 64 → digits_after n bs ≡ Some m → AllDigits 10 bs × (digits_value_after 10 n bs ≡ m) × (m < 2 ^ 64)
after_takes n [] m fits e = let same = same_some n m e in (tt, same, subst (λ k. k < 2 ^ 64) same fits)
after_takes n (b ∷ bs) m fits e =
    let chosen = some_from _ _ m e in
    let range = tested n b chosen.0 in
    let value = value_of_digit b range.0 range.1 in
    let rest = after_takes (n * 10 + (b - 48)) bs m range.2 chosen.1 in
    ((omega arith, rest.0), ap (λ d. digits_value_after 10 (n * 10 + d) bs) value ∙ rest.1, rest.2)

after_ge : (n : ℕ) (bs : List ℕ) → n ≤ digits_value_after 10 n bs
after_ge n [] = omega arith
after_ge n (b ∷ bs) = omega (arith, after_ge (n * 10 + digit_value b) bs)

after_gives : (n : ℕ) (bs : List ℕ) → AllDigits 10 bs → digits_value_after 10 n bs < 2 ^ 64 → digits_after n bs ≡ Some (digits_value_after 10 n bs)
after_gives n [] all fits = refl
after_gives n (b ∷ bs) all fits =
    let range = digit_from_value b all.0 in
    let value = value_of_digit b range.0 range.1 in
    let ge = after_ge (n * 10 + digit_value b) bs in
    let within : n * 10 + (b - 48) < 2 ^ 64 = omega arith in
    ap (λ t. cond t (digits_after (n * 10 + (b - 48)) bs) None) (tests n b range.0 range.1 within)
    ∙ ap (λ d. digits_after (n * 10 + d) bs) (sym value)
    ∙ after_gives (n * 10 + digit_value b) bs all.1 fits

spelt : (text : List ℕ) (n : ℕ) → 0 < length text → (get_or text 0 0 ≡ 48 → length text ≡ 1) → digits_after 0 text ≡ Some n → text ≡ decimal n
spelt text n some first e =
    let takes = after_takes 0 text n (omega arith) e in
    sym (decimal-digits_value own text takes.0 some first (subst (λ k. k < 2 ^ 64) (sym takes.1) takes.2)) ∙ ap decimal takes.1

pub number_spells : (text : List ℕ) (n : ℕ) → number_of text ≡ Some n → text ≡ decimal n
unfolding number_of
number_spells [] n e = cc
number_spells (b ∷ []) n e = spelt (b ∷ []) n (omega arith) (λ _. refl) e
number_spells (b ∷ c ∷ bs) n e =
    let chosen = some_from_else _ _ n e in
    spelt (b ∷ c ∷ bs) n (omega arith) (λ zero. absurd (differs b chosen.0 zero)) chosen.1
  where
    differs : (b : ℕ) → nat_eq b 48 ≡ false → b ≡ 48 → ⊥
    differs b off on = grind (arith, nat_tests)

number_again : (ds : List ℕ) → AllDigits 10 ds → 0 < length ds → (get_or ds 0 0 ≡ 48 → length ds ≡ 1) → digits_value 10 ds < 2 ^ 64 → number_of ds ≡ Some (digits_value 10 ds)
unfolding number_of
number_again [] all some first fits = absurd (omega arith)
number_again (b ∷ []) all some first fits = after_gives 0 (b ∷ []) all fits
number_again (b ∷ c ∷ bs) all some first fits = ap (λ t. cond t None (digits_after 0 (b ∷ c ∷ bs))) (other b (λ e. long (first e))) ∙ after_gives 0 (b ∷ c ∷ bs) all fits
  where
    long : length (b ∷ c ∷ bs) ≡ 1 → ⊥
    long e = omega arith

    other : (b : ℕ) → b ≢ 48 → nat_eq b 48 ≡ false
    other b n = grind (arith, nat_tests)

one_zero : (n : ℕ) → n < 2 ^ 64 → get_or (decimal n) 0 0 ≡ 48 → length (decimal n) ≡ 1
one_zero n fits e = elim (cases_eq n 0) [
  | inl zero ↦ ap (λ k. length (decimal k)) zero ∙ ap length (decimal_digit 0 (omega arith))
  | inr some ↦ absurd (omega (arith, first_decimal n (omega arith) fits))
]

pub decimal_is_read : (n : ℕ) → n < 2 ^ 64 → number_of (decimal n) ≡ Some n
decimal_is_read n fits =
    let value = digits_value-decimal own n fits in
    number_again (decimal n) (digits_decimal own n fits) (decimal_nonempty n fits) (one_zero n fits) (subst (λ k. k < 2 ^ 64) (sym value) fits) ∙ ap Some value

pub spells_if : (text : List ℕ) (found : Option ℕ) → found ≡ number_of text → IfSome found (λ n. text ≡ decimal n)
spells_if text None e = tt
spells_if text (Some n) e = number_spells text n (sym e)
