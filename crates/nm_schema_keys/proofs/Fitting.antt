-- What fits is a row.
use Rattle.std.proofs.Common.{◌≡◌, ◌<◌, ℕ, List, [], ◌∷◌, length, Bool, true, false, ◌&&◌, cond, Option, Some, None, refl, All, slice_get}
use Rattle.std.proofs.lemmas.List.Elements.{All-nil, All-cons, All-append}
use Rattle.std.proofs.lemmas.Option.{slice_get_within}
use Rattle.nm_schema_statements.specs.declared.word.Word.{Word}
use Rattle.nm_schema_statements.specs.declared.word.Word.TheVariants as word
use Rattle.nm_schema_statements.specs.declared.row.Row.{Row}
use Rattle.nm_schema_statements.specs.Rows.{has_word}
use Rattle.nm_schema_keys.specs.declared.found.Found.{Found}
use Rattle.nm_schema_keys.specs.declared.found.Found.TheVariants as found
use Rattle.nm_schema_keys.specs.Words.{own_name}
use Rattle.nm_schema_keys.specs.Found.{is_fit, fitting, named_among, fit_among}
use Rattle.nm_schema_keys.specs.Keys.{key_leaf, row_found, leafs_named}

word_within : (rows : List Row) (w : Word) (i : ℕ) (o : Option Row) → slice_get rows i ≡ o → has_word w o ≡ true → i < length rows
word_within rows w i None e h = cc
word_within rows w i (Some r) e h = slice_get_within rows i r e

first_true : (a b : Bool) → (a && b) ≡ true → a ≡ true
first_true true b e = refl
first_true false b e = cc

row_found-within : (rows : List Row) (i : ℕ) (b : Bool) → (b ≡ true → i < length rows) → All (λ n. n < length rows) (row_found (cond b (found.Row i) found.Missing))
row_found-within rows i true h = All-cons (λ n. n < length rows) i [] (h refl) (All-nil (λ n. n < length rows))
row_found-within rows i false h = All-nil (λ n. n < length rows)

fitting-within : (rows : List Row) (loses : Bool) (w : Word) (found : Found) → All (λ n. n < length rows) (row_found (fitting rows loses w found))
unfolding is_fit
fitting-within rows loses w (found.Row i) = row_found-within rows i (is_fit rows loses w i) (λ e. word_within rows w i (slice_get rows i) refl (first_true _ _ e))
fitting-within rows loses w found.Missing = All-nil (λ n. n < length rows)
fitting-within rows loses w found.Unknown = All-nil (λ n. n < length rows)

leaf-within : (rows : List Row) (nodes : Option (List ℕ)) (loses : Bool) (m : ℕ) (text : List ℕ) → All (λ n. n < length rows) (row_found (key_leaf rows nodes loses m text))
unfolding key_leaf fit_among
leaf-within rows nodes loses m text = fitting-within rows loses word.Leaf (named_among rows nodes (own_name rows m text))

-- the leafs of a key are rows
pub leafs_within : (rows : List Row) (nodes : Option (List ℕ)) (loses : Bool) (m : ℕ) (texts : List (List ℕ)) → All (λ n. n < length rows) (leafs_named (key_leaf rows nodes loses m) texts)
leafs_within rows nodes loses m [] = All-nil (λ n. n < length rows)
leafs_within rows nodes loses m (text ∷ texts) =
    All-append (λ n. n < length rows) (row_found (key_leaf rows nodes loses m text)) (leafs_named (key_leaf rows nodes loses m) texts) (leaf-within rows nodes loses m text) (leafs_within rows nodes loses m texts)
