-- Texts that are UTF-8, and columns.
use Rattle.std.proofs.Common.{◌≡◌, ℕ, List, [], ◌∷◌, ◌++◌, ◌+◌, ◌≤◌, ◌-◌, Bool, true, false, refl, sym, ap, ◌∙◌, take, drop, arith}
use Rattle.std.specs.Prelude.{IsUtf8}
use Rattle.std.specs.Str.{is_utf8}
use Rattle.std.proofs.lemmas.Str.{IsUtf8-from_is_utf8}
use Rattle.std.proofs.Math.Seq.{take-add}
use Rattle.nm_yang.specs.Page.{next_column, column_from}

no_test : (b : Bool) → (b ≡ true → ⊥) → b ≡ false
no_test true h = absurd (h refl)
no_test false h = refl

pub is_utf8-false : (bs : List ℕ) → ¬ (IsUtf8 bs) → is_utf8 bs ≡ false
is_utf8-false bs not = no_test (is_utf8 bs) (λ h. not (IsUtf8-from_is_utf8 bs h))

pub column_from-append : (c : ℕ) (a b : List ℕ) → column_from c (a ++ b) ≡ column_from (column_from c a) b
column_from-append c [] b = refl
column_from-append c (x ∷ a) b = column_from-append (next_column c x) a b

-- from a place whose column is known to a later one
pub columns_over : (text : List ℕ) (marked place column : ℕ) → marked ≤ place → column ≡ column_from 0 (take marked text) → column_from column (take (place - marked) (drop marked text)) ≡ column_from 0 (take place text)
columns_over text marked place column le is =
    let k : marked + (place - marked) ≡ place = omega arith in
    let t : take place text ≡ take marked text ++ take (place - marked) (drop marked text) = ap (λ (n : ℕ). take n text) (sym k) ∙ take-add marked (place - marked) text in
    rw (is, t, column_from-append) refl
