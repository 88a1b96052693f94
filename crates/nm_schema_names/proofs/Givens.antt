-- The first module of each name, as a map is filled from the first row to the last.
use Rattle.std.proofs.Common.{◌≡◌, ◌∙◌, ◌+◌, ◌<◌, ◌≤◌, ℕ, List, [], ◌∷◌, ◌++◌, length, take, Bool, true, false, ◌&&◌, cond, Option, Some, None, is_some, refl, sym, ap, slice_get, arith}
use Rattle.std.proofs.lemmas.List.{take_more, take_all, length-take}
use Rattle.std.proofs.lemmas.Option.{slice_get_within, get_or_from_slice_get}
use Rattle.std.proofs.lemmas.Slice.Eq.{bytes_eq-Decides}
use Rattle.std.specs.List.{position_from}
use Rattle.std.specs.Option.{option_or}
use Rattle.std.specs.Str.{bytes_eq}
use Rattle.nm_schema_statements.specs.declared.word.Word.TheVariants as word
use Rattle.nm_schema_statements.specs.declared.row.Row.{Row}
use Rattle.nm_schema_statements.specs.Word.{word_number, same_word}
use Rattle.nm_schema_statements.specs.Rows.{same_parent}
use Rattle.nm_schema_names.specs.declared.key.Reach.TheVariants as reach
use Rattle.nm_schema_names.specs.Named.{is_called, has_key, first_keyed, named}

-- a row is a module of a name
abbrev pub is_given : List ℕ → Row → Bool
is_given name r = has_key reach.Statement None (word_number word.Module) name r

-- ---- a module

or_none : (o : Option ℕ) → o ≡ option_or o None
or_none None = refl
or_none (Some i) = refl

outermost : (parent : Option ℕ) → is_some parent ≡ false → same_parent parent None ≡ true
outermost None e = refl
outermost (Some i) e = cc

given_is : (r : Row) (name text : List ℕ) → same_word r.word word.Module ≡ true → is_some r.parent ≡ false → r.argument ≡ Some text → is_given name r ≡ bytes_eq text name
given_is r name text w p a =
    ap (λ b. b && (same_word r.word word.Module && is_called r.argument name)) (outermost r.parent p)
    ∙ ap (λ b. b && is_called r.argument name) w
    ∙ ap (λ (a : Option (List ℕ)). is_called a name) a

empty : (o : Option ℕ) → is_some o ≡ false → o ≡ None
empty None e = refl
empty (Some i) e = cc

new : (found : List ℕ → Option ℕ) (text name : List ℕ) (at : ℕ) → is_some (found text) ≡ false → cond (bytes_eq text name) (Some at) (found name) ≡ option_or (found name) (cond (bytes_eq text name) (Some at) None)
new found text name at e =
    (elim (bytes_eq text name) as (λ b. bytes_eq text name ≡ b → cond b (Some at) (found name) ≡ option_or (found name) (cond b (Some at) None)) [
      | true ↦ λ same. sym (ap (λ (o : Option ℕ). option_or o (Some at)) (ap found (sym ((bytes_eq-Decides text name).0 same)) ∙ empty (found text) e))
      | false ↦ λ other. or_none (found name)
    ]) refl

-- a module of a new name
pub new_module : (r : Row) (at : ℕ) (name text : List ℕ) (found : List ℕ → Option ℕ) (after : Option ℕ) → same_word r.word word.Module ≡ true → is_some r.parent ≡ false → r.argument ≡ Some text
    → is_some (found text) ≡ false → after ≡ cond (bytes_eq text name) (Some at) (found name) → after ≡ option_or (found name) (cond (is_given name r) (Some at) None)
new_module r at name text found after w p a e put = put ∙ new found text name at e ∙ ap (λ b. option_or (found name) (cond b (Some at) None)) (sym (given_is r name text w p a))

-- ---- all rows

position_from-append : {X : Type 0} (test : X → Bool) (n : ℕ) (xs ys : List X) → position_from test n (xs ++ ys) ≡ option_or (position_from test n xs) (position_from test (n + length xs) ys)
position_from-append test n [] ys = let e : n ≡ n + 0 = omega arith in ap (λ m. position_from test m ys) e
position_from-append test n (x ∷ xs) ys =
    elim (test x) as (λ b. cond b (Some n) (position_from test (n + 1) (xs ++ ys)) ≡ option_or (cond b (Some n) (position_from test (n + 1) xs)) (position_from test (n + length (x ∷ xs)) ys)) [
      | true ↦ refl
      | false ↦ position_from-append test (n + 1) xs ys ∙ ap (λ m. option_or (position_from test (n + 1) xs) (position_from test m ys)) (omega arith)
    ]

-- a row more
pub given_more : (rows : List Row) (at : ℕ) (r : Row) (name : List ℕ) (before after : Option ℕ) → slice_get rows at ≡ Some r → before ≡ position_from (is_given name) 0 (take at rows)
    → after ≡ option_or before (cond (is_given name r) (Some at) None) → after ≡ position_from (is_given name) 0 (take (at + 1) rows)
given_more rows at r name before after here is put =
    let lt : at < length rows = slice_get_within rows at r here in
    let at_is : 0 + length (take at rows) ≡ at = omega (arith, length-take at rows) in
    put
    ∙ ap (λ o. option_or o (cond (is_given name r) (Some at) None)) is
    ∙ ap (λ m. option_or (position_from (is_given name) 0 (take at rows)) (cond (is_given name r) (Some m) None)) (sym at_is)
    ∙ sym (position_from-append (is_given name) 0 (take at rows) (r ∷ []))
    ∙ ap (λ (l : List Row). position_from (is_given name) 0 l) (sym (take_more rows at r lt ∙ ap (λ (x : Row). take at rows ++ x ∷ []) (get_or_from_slice_get rows at r r here)))

pub given_all : (rows : List Row) (at : ℕ) (name : List ℕ) (found : Option ℕ) → length rows ≤ at → found ≡ position_from (is_given name) 0 (take at rows) → found ≡ named rows None word.Module name
unfolding first_keyed
given_all rows at name found all is = is ∙ ap (λ (l : List Row). position_from (is_given name) 0 l) (take_all at rows all)
