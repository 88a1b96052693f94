-- What is printed has no line feed.
use Rattle.std.proofs.Common.{◌≡◌, ℕ, zero, suc, ◌≤◌, ◌+◌, ◌/◌, ◌%◌, List, [], ◌∷◌, ◌++◌, false, eqb, ltb, Option, Some, None, refl, arith, inl, inr}
use Rattle.std.specs.Prelude.{◌||◌}
use Rattle.std.specs.List.{list_any}
use Rattle.std.proofs.lemmas.Bool.{cases_Bool, false_from_ne_true, eqb-true}
use Rattle.nm_lines.specs.Printed.{is_break, hex_digit, digits_of, escape_of, control_at, piece_of, done_with, printed_behind}

-- a byte above that of a line feed isn't one
above : (byte : ℕ) → 11 ≤ byte → is_break byte ≡ false
above byte h = false_from_ne_true (eqb byte 10) (λ t. omega (arith, h, eqb-true byte 10 t))

digit_solid : (number : ℕ) → is_break (hex_digit number) ≡ false
digit_solid number = elim (cases_Bool (ltb number 10)) [
  | inl y ↦ rw y (above (48 + number) (omega arith))
  | inr n ↦ rw n (above (87 + number) (omega arith))
]

digits_solid : (code : ℕ) → list_any is_break (digits_of code) ≡ false
digits_solid code =
    let a = digit_solid (code / 4096 % 16) in
    let b = digit_solid (code / 256 % 16) in
    let c = digit_solid (code / 16 % 16) in
    let d = digit_solid (code % 16) in
    rw (a, b, c, d) refl

escape_solid : (code : ℕ) → list_any is_break (escape_of code) ≡ false
escape_solid code = elim (cases_Bool (eqb code 10)) [
  | inl y ↦ rw y refl
  | inr n ↦ elim (cases_Bool (eqb code 13)) [
    | inl y ↦ rw (n, y) refl
    | inr m ↦ elim (cases_Bool (eqb code 9)) [
      | inl y ↦ rw (n, m, y) refl
      | inr k ↦ rw (n, m, k) (digits_solid code)
    ]
  ]
]

-- a byte that begins no control character is no line feed
plain_solid : (byte : ℕ) (behind : List ℕ) → control_at byte behind ≡ None → is_break byte ≡ false
plain_solid byte behind e = elim (cases_Bool (ltb byte 32 || eqb byte 127)) [
  | inl y ↦ (let f = rw y at e in absurd (cc))
  | inr n ↦ elim (cases_Bool (eqb byte 10)) [
    | inl ten ↦ (let same = eqb-true byte 10 ten in let f = rw same at n in absurd (cc))
    | inr other ↦ other
  ]
]

piece_solid : (byte : ℕ) (behind : List ℕ) (o : Option ℕ) → control_at byte behind ≡ o → list_any is_break (piece_of byte o) ≡ false
piece_solid byte behind None e = let p = plain_solid byte behind e in rw p refl
piece_solid byte behind (Some code) e = escape_solid code

pub any_append : (xs ys : List ℕ) → list_any is_break xs ≡ false → list_any is_break ys ≡ false → list_any is_break (xs ++ ys) ≡ false
any_append [] ys a b = b
any_append (x ∷ xs) ys a b = elim (cases_Bool (is_break x)) [
  | inl y ↦ (let f = rw y at a in absurd (cc))
  | inr n ↦ (let f = rw n at a in rw n (any_append xs ys f b))
]

pub no_break : (done : ℕ) (text : List ℕ) → list_any is_break (printed_behind done text) ≡ false
unfolding printed_behind
no_break done [] = refl
no_break zero (byte ∷ bytes) =
    any_append (piece_of byte (control_at byte bytes)) (printed_behind (done_with byte (control_at byte bytes)) bytes)
    (piece_solid byte bytes (control_at byte bytes) refl) (no_break (done_with byte (control_at byte bytes)) bytes)
no_break (suc done) (byte ∷ bytes) = no_break done bytes
