-- Sets that have the rows of lists.
use Rattle.std.proofs.Common.{◌≡◌, ◌∙◌, ℕ, List, [], ◌∷◌, ◌++◌, Bool, true, false, ◌||◌, ◌==◌, cond, refl, sym, ap, arith}
use Rattle.std.proofs.lemmas.Bool.Decides.{nat_tests}
use Rattle.std.specs.Ordering.{is_eq, nat_cmp}
use Rattle.std.specs.BTreeSet.{BTreeSet, contains}
use Rattle.nm_schema_keys.specs.Keys.{has_row}
use Rattle.nm_schema_keys.specs.Leafs.{HasSame}

or_turn : (a b c : Bool) → ((a || b) || c) ≡ (a || (b || c))
or_turn true b c = refl
or_turn false b c = refl

pub has_row-append : (ns ms : List ℕ) (i : ℕ) → has_row (ns ++ ms) i ≡ (has_row ns i || has_row ms i)
has_row-append [] ms i = refl
has_row-append (n ∷ ns) ms i = ap (λ b. i == n || b) (has_row-append ns ms i) ∙ sym (or_turn (i == n) (has_row ns i) (has_row ms i))

or_last : (a b : Bool) → cond a true b ≡ (b || (a || false))
or_last true true = refl
or_last true false = refl
or_last false true = refl
or_last false false = refl

tied : (i n : ℕ) → is_eq (nat_cmp n i) ≡ (i == n)
tied i n = grind (arith, nat_tests)

-- a row more
pub pushed : (old new : BTreeSet ℕ) (rows : List ℕ) (row : ℕ) → HasSame old rows → ((i : ℕ) → contains nat_cmp new i ≡ cond (is_eq (nat_cmp row i)) true (contains nat_cmp old i)) → HasSame new (rows ++ row ∷ [])
unfolding HasSame
pushed old new rows row same put = λ i.
    put i ∙ ap (λ b. cond b true (contains nat_cmp old i)) (tied i row) ∙ ap (λ b. cond (i == row) true b) (same i) ∙ or_last (i == row) (has_row rows i) ∙ sym (has_row-append rows (row ∷ []) i)
