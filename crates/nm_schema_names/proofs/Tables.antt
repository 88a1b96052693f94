-- Tables, as they are filled from the last row to the first.
use Rattle.std.proofs.Common.{◌≡◌, ℕ, ◌+◌, ◌<◌, List, length, get_or, drop, Bool, false, cond, Option, Some, None, refl, sym, ap, ◌∙◌, slice_get, drop-cons, add-one, arith, ◌&&◌, ◌==◌}
use Rattle.std.proofs.Math.Bool.{and-false}
use Rattle.std.proofs.lemmas.Option.{slice_get_within, get_or_from_slice_get}
use Rattle.std.proofs.lemmas.Map.Text.{is_eq-slice_cmp}
use Rattle.std.proofs.lemmas.Bool.Decides.{nat_tests}
use Rattle.std.specs.Cmp.{tied_then}
use Rattle.std.specs.List.{position_from}
use Rattle.std.specs.Option.{option_cmp}
use Rattle.std.specs.Ordering.{is_eq, nat_cmp, ordering_then}
use Rattle.std.specs.Cmp.Lexicographic.{slice_cmp}
use Rattle.std.specs.Str.{bytes_eq}
use Rattle.std.specs.BTreeMap.{is_at}
use Rattle.nm_schema_statements.specs.declared.row.Row.{Row}
use Rattle.nm_schema_statements.specs.Word.{word_number}
use Rattle.nm_schema_statements.specs.Rows.{same_parent}
use Rattle.nm_schema_names.specs.declared.key.Reach.{Reach}
use Rattle.nm_schema_names.specs.declared.key.Key.{Key}
use Rattle.nm_schema_names.specs.Named.{space_of, has_key, first_keyed}
use Rattle.nm_schema_names.specs.Table.{key_cmp}

-- one row more in front
position_from-drop : {X : Type 0} (test : X → Bool) (xs : List X) (i : ℕ) (x : X) → slice_get xs i ≡ Some x
    → position_from test i (drop i xs) ≡ cond (test x) (Some i) (position_from test (i + 1) (drop (i + 1) xs))
position_from-drop test xs i x e =
    let lt : i < length xs = slice_get_within xs i x e in
    let is : get_or xs i x ≡ x = get_or_from_slice_get xs i x x e in
    rw (drop-cons xs i x, is, add-one) refl

tied_numbers : (x y : ℕ) → is_eq (nat_cmp x y) ≡ (x == y)
tied_numbers x y = grind (arith, nat_tests)

tied_spaces : (x y : Option ℕ) → is_eq (option_cmp nat_cmp x y) ≡ same_parent x y
tied_spaces None None = refl
tied_spaces None (Some y) = refl
tied_spaces (Some x) None = refl
tied_spaces (Some x) (Some y) = tied_numbers x y

-- keys tie where all their parts are equal
tied_keys : (k q : Key) → is_at (key_cmp k) q ≡ (same_parent k.space q.space && (k.number == q.number && bytes_eq k.name.now q.name.now))
tied_keys k q =
    sym (tied_then (option_cmp nat_cmp k.space q.space) (ordering_then (nat_cmp k.number q.number) (slice_cmp nat_cmp k.name.now q.name.now)))
    ∙ ap (λ b. b && is_eq (ordering_then (nat_cmp k.number q.number) (slice_cmp nat_cmp k.name.now q.name.now))) (tied_spaces k.space q.space)
    ∙ ap (λ b. same_parent k.space q.space && b) (sym (tied_then (nat_cmp k.number q.number) (slice_cmp nat_cmp k.name.now q.name.now)))
    ∙ ap (λ b. same_parent k.space q.space && (b && is_eq (slice_cmp nat_cmp k.name.now q.name.now))) (tied_numbers k.number q.number)
    ∙ ap (λ b. same_parent k.space q.space && (k.number == q.number && b)) (is_eq-slice_cmp k.name.now q.name.now)

-- the key of a row ties with those that the row has
key_ties : (reach : Reach) (r : Row) (k q : Key) → k.space ≡ space_of reach r → k.number ≡ word_number r.word → r.argument ≡ Some k.name.now
    → is_at (key_cmp k) q ≡ has_key reach q.space q.number q.name.now r
key_ties reach r k q space number name =
    tied_keys k q ∙ rw (space, number, name) refl

-- a row without an argument has no key
keyless : (reach : Reach) (r : Row) (q : Key) → r.argument ≡ None → has_key reach q.space q.number q.name.now r ≡ false
keyless reach r q name = rw name (rw and-false (and-false _))

-- what a key finds after a row is put in
pub put_at : (reach : Reach) (r : Row) (at : ℕ) (k q : Key) (before after : Option ℕ) → k.space ≡ space_of reach r → k.number ≡ word_number r.word → r.argument ≡ Some k.name.now
    → after ≡ cond (is_at (key_cmp k) q) (Some at) before → after ≡ cond (has_key reach q.space q.number q.name.now r) (Some at) before
put_at reach r at k q before after space number name put = put ∙ ap (λ b. cond b (Some at) before) (key_ties reach r k q space number name)

-- what it finds after a row without an argument
pub left_at : (reach : Reach) (r : Row) (at : ℕ) (q : Key) (before : Option ℕ) → r.argument ≡ None
    → before ≡ cond (has_key reach q.space q.number q.name.now r) (Some at) before
left_at reach r at q before name = sym (ap (λ b. cond b (Some at) before) (keyless reach r q name))

-- what it finds once the row before is put in
pub filled : (reach : Reach) (rows : List Row) (at next : ℕ) (r : Row) (q : Key) (before after : Option ℕ)
    → slice_get rows at ≡ Some r → next ≡ at + 1
    → before ≡ position_from (has_key reach q.space q.number q.name.now) next (drop next rows)
    → after ≡ cond (has_key reach q.space q.number q.name.now r) (Some at) before
    → after ≡ position_from (has_key reach q.space q.number q.name.now) at (drop at rows)
filled reach rows at next r q before after here on is put =
    put
    ∙ ap (λ o. cond (has_key reach q.space q.number q.name.now r) (Some at) o) is
    ∙ ap (λ n. cond (has_key reach q.space q.number q.name.now r) (Some at) (position_from (has_key reach q.space q.number q.name.now) n (drop n rows))) on
    ∙ sym (position_from-drop (has_key reach q.space q.number q.name.now) rows at r here)

-- what it finds once all rows are put in
pub whole : (reach : Reach) (rows : List Row) (at : ℕ) (q : Key) (all : Option ℕ) → at ≡ 0
    → all ≡ position_from (has_key reach q.space q.number q.name.now) at (drop at rows)
    → all ≡ first_keyed reach rows q.space q.number q.name.now
unfolding first_keyed
whole reach rows at q all none is = is ∙ ap (λ n. position_from (has_key reach q.space q.number q.name.now) n (drop n rows)) none
