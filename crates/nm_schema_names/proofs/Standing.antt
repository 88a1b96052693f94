-- What a name leads to stands where the name is looked for.
use Rattle.std.proofs.Common.{◌≡◌, ℕ, suc, ◌+◌, List, [], ◌∷◌, Bool, true, false, cond, ◌&&◌, ◌==◌, Option, Some, None, refl, sym, ap, ◌∙◌, subst, arith, slice_get, inl, inr, Contains}
use Rattle.std.proofs.lemmas.Bool.{eqb-true}
use Rattle.std.proofs.lemmas.Slice.Eq.{bytes_eq-Decides}
use Rattle.std.specs.Option.{option_or, IfSome}
use Rattle.std.specs.List.{position_from}
use Rattle.nm_schema_statements.specs.declared.word.Word.{Word}
use Rattle.nm_schema_statements.specs.declared.row.Row.{Row}
use Rattle.nm_schema_statements.specs.Word.{word_number}
use Rattle.nm_schema_statements.specs.Text.{prefix_of, name_of}
use Rattle.nm_schema_statements.specs.Rows.{same_parent, module_at, module_in}
use Rattle.nm_schema_statements.proofs.Words.{same_words}
use Rattle.nm_schema_names.specs.declared.key.Reach.TheVariants as reach
use Rattle.nm_schema_names.specs.Named.{is_called, has_key, first_keyed, named, named_in, is_own, prefix_leads}
use Rattle.nm_schema_names.specs.Leads.{enclosing, innermost, scoped, definition_by, definition_for, definition}
use Rattle.nm_schema_names.specs.Standing.{Stands}

-- an element of a list, of which the first is number n, that passes a test
record Passes {X : Type 0} (test : X → Bool) (n : ℕ) (xs : List X) (i : ℕ) : Type 0 where
  index : ℕ
  value : X
  number : i ≡ n + index
  there : slice_get xs index ≡ Some value
  passes : test value ≡ true

passes_later : {X : Type 0} (test : X → Bool) (n : ℕ) (x : X) (xs : List X) (o : Option ℕ) → IfSome o (Passes test (n + 1) xs) → IfSome o (Passes test n (x ∷ xs))
passes_later test n x xs None h = tt
passes_later test n x xs (Some i) h = record { index = suc h.index; value = h.value; number = h.number ∙ omega arith; there = h.there; passes = h.passes }

position_from-passes : {X : Type 0} (test : X → Bool) (n : ℕ) (xs : List X) → IfSome (position_from test n xs) (Passes test n xs)
position_from-passes test n [] = tt
position_from-passes test n (x ∷ xs) =
    (elim (test x) as (λ b. test x ≡ b → IfSome (cond b (Some n) (position_from test (n + 1) xs)) (Passes test n (x ∷ xs))) [
      | true ↦ λ e. record { index = 0; value = x; number = omega arith; there = refl; passes = e }
      | false ↦ λ e. passes_later test n x xs (position_from test (n + 1) xs) (position_from-passes test (n + 1) xs)
    ]) refl

both : (a b : Bool) → (a && b) ≡ true → (a ≡ true) × (b ≡ true)
both true b e = (refl, e)
both false b e = cc

parent_is : (p : Option ℕ) (i : ℕ) → same_parent p (Some i) ≡ true → p ≡ Some i
parent_is None i e = cc
parent_is (Some p) i e = ap Some (eqb-true p i e)

argument_is : (argument : Option (List ℕ)) (name : List ℕ) → is_called argument name ≡ true → argument ≡ Some name
argument_is None name e = cc
argument_is (Some text) name e = ap Some ((bytes_eq-Decides text name).0 e)

-- a row that has a word and a name, and stands directly in another
record StandsIn (rows : List Row) (w : Word) (name : List ℕ) (around : ℕ) (found : ℕ) : Type 0 where
  row : Row
  there : slice_get rows found ≡ Some row
  word : row.word ≡ w
  called : row.argument ≡ Some name
  within : row.parent ≡ Some around

stands_in : (rows : List Row) (around : ℕ) (w : Word) (name : List ℕ) (i : ℕ) → Passes (has_key reach.Statement (Some around) (word_number w) name) 0 rows i → StandsIn rows w name around i
stands_in rows around w name i h =
    let first = both (same_parent h.value.parent (Some around)) (word_number h.value.word == word_number w && is_called h.value.argument name) h.passes in
    let second = both (word_number h.value.word == word_number w) (is_called h.value.argument name) first.1 in
    let same : i ≡ h.index = h.number ∙ omega arith in
    record {
      row = h.value;
      there = ap (slice_get rows) same ∙ h.there;
      word = same_words h.value.word w second.0;
      called = argument_is h.value.argument name second.1;
      within = parent_is h.value.parent around first.0;
    }

some_stands : (rows : List Row) (around : ℕ) (w : Word) (name : List ℕ) (o : Option ℕ) → IfSome o (Passes (has_key reach.Statement (Some around) (word_number w) name) 0 rows) → IfSome o (StandsIn rows w name around)
some_stands rows around w name None h = tt
some_stands rows around w name (Some i) h = stands_in rows around w name i h

named-stands : (rows : List Row) (around : ℕ) (w : Word) (name : List ℕ) → IfSome (named rows (Some around) w name) (StandsIn rows w name around)
unfolding first_keyed
named-stands rows around w name =
    let test : Row → Bool = has_key reach.Statement (Some around) (word_number w) name in
    some_stands rows around w name (position_from test 0 rows) (position_from-passes test 0 rows)

-- the same in one of these statements
record StandsAmong (rows : List Row) (w : Word) (name : List ℕ) (is : List ℕ) (found : ℕ) : Type 0 where
  around : ℕ
  among : Contains is around
  stands : StandsIn rows w name around found

among_first : (rows : List Row) (w : Word) (name : List ℕ) (i : ℕ) (is : List ℕ) (o : Option ℕ) → IfSome o (StandsIn rows w name i) → IfSome o (StandsAmong rows w name (i ∷ is))
among_first rows w name i is None h = tt
among_first rows w name i is (Some found) h = record { around = i; among = (0, omega arith, refl); stands = h }

among_rest : (rows : List Row) (w : Word) (name : List ℕ) (i : ℕ) (is : List ℕ) (o : Option ℕ) → IfSome o (StandsAmong rows w name is) → IfSome o (StandsAmong rows w name (i ∷ is))
among_rest rows w name i is None h = tt
among_rest rows w name i is (Some found) h = record { around = h.around; among = (suc h.among.0, omega (arith, h.among.1), h.among.2); stands = h.stands }

either : (P : ℕ → Type 0) (x y : Option ℕ) → IfSome x P → IfSome y P → IfSome (option_or x y) P
either P None y p q = q
either P (Some i) y p q = p

innermost-stands : (rows : List Row) (w : Word) (name is : List ℕ) → IfSome (innermost rows w name is) (StandsAmong rows w name is)
innermost-stands rows w name [] = tt
innermost-stands rows w name (i ∷ is) =
    either (StandsAmong rows w name (i ∷ is)) (named rows (Some i) w name) (innermost rows w name is)
    (among_first rows w name i is (named rows (Some i) w name) (named-stands rows i w name))
    (among_rest rows w name i is (innermost rows w name is) (innermost-stands rows w name is))

scoped-stands : (rows : List Row) (at : ℕ) (w : Word) (name : List ℕ) → IfSome (scoped rows at w name) (StandsAmong rows w name (enclosing rows at))
unfolding scoped
scoped-stands rows at w name = innermost-stands rows w name (enclosing rows at)

-- ---- the definition of a name

around_stands : (rows : List Row) (at : ℕ) (w : Word) (text : List ℕ) (o : Option ℕ) → IfSome o (StandsAmong rows w (name_of text) (enclosing rows at)) → IfSome o (Stands rows at w text)
around_stands rows at w text None h = tt
around_stands rows at w text (Some found) h = record {
  row = h.stands.row;
  around = h.around;
  there = h.stands.there;
  word = h.stands.word;
  called = h.stands.called;
  within = h.stands.within;
  scope = inl h.among;
}

led_stands : (rows : List Row) (at : ℕ) (w : Word) (text : List ℕ) (m : ℕ) (prefix : List ℕ) (around : ℕ) (o : Option ℕ) → module_at rows at ≡ Some m → prefix_of text ≡ Some prefix
    → prefix_leads rows m prefix ≡ Some around → IfSome o (StandsIn rows w (name_of text) around) → IfSome o (Stands rows at w text)
led_stands rows at w text m prefix around None owner is leads h = tt
led_stands rows at w text m prefix around (Some found) owner is leads h = record {
  row = h.row;
  around = around;
  there = h.there;
  word = h.word;
  called = h.called;
  within = h.within;
  scope = inr (record { owner = m; prefix = prefix; owner_is = owner; prefix_is = is; leads = leads });
}

module_stands : (rows : List Row) (at : ℕ) (w : Word) (text : List ℕ) (m : ℕ) (prefix : List ℕ) (target : Option ℕ) → module_at rows at ≡ Some m → prefix_of text ≡ Some prefix
    → prefix_leads rows m prefix ≡ target → IfSome (named_in rows target w (name_of text)) (Stands rows at w text)
module_stands rows at w text m prefix None owner is leads = tt
module_stands rows at w text m prefix (Some around) owner is leads =
    led_stands rows at w text m prefix around (named rows (Some around) w (name_of text)) owner is leads (named-stands rows around w (name_of text))

choice : (P : Option ℕ → Type 0) (b : Bool) (x y : Option ℕ) → P x → P y → P (cond b x y)
choice P true x y p q = p
choice P false x y p q = q

by_stands : (rows : List Row) (at : ℕ) (w : Word) (text : List ℕ) (m : ℕ) (o : Option (List ℕ)) → module_at rows at ≡ Some m → prefix_of text ≡ o → IfSome (definition_by rows at w m o (name_of text)) (Stands rows at w text)
by_stands rows at w text m None owner is = around_stands rows at w text (scoped rows at w (name_of text)) (scoped-stands rows at w (name_of text))
by_stands rows at w text m (Some prefix) owner is =
    choice (λ x. IfSome x (Stands rows at w text)) (is_own rows m prefix) (scoped rows at w (name_of text)) (named_in rows (prefix_leads rows m prefix) w (name_of text))
    (around_stands rows at w text (scoped rows at w (name_of text)) (scoped-stands rows at w (name_of text)))
    (module_stands rows at w text m prefix (prefix_leads rows m prefix) owner is refl)

for_stands : (rows : List Row) (at : ℕ) (w : Word) (text : List ℕ) (o : Option Row) → slice_get rows at ≡ o → IfSome (definition_for rows at w text o) (Stands rows at w text)
for_stands rows at w text None e = tt
for_stands rows at w text (Some r) e = by_stands rows at w text r.«module» (prefix_of text) (ap module_in e) refl

definition_stands : (rows : List Row) (at : ℕ) (w : Word) (text : List ℕ) → IfSome (definition rows at w text) (Stands rows at w text)
unfolding definition
definition_stands rows at w text = for_stands rows at w text (slice_get rows at) refl

pub found_stands : (rows : List Row) (at : ℕ) (w : Word) (text : List ℕ) (o : Option ℕ) → o ≡ definition rows at w text → IfSome o (Stands rows at w text)
found_stands rows at w text o e = subst (λ (x : Option ℕ). IfSome x (Stands rows at w text)) (sym e) (definition_stands rows at w text)
