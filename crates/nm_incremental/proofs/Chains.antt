-- Nodes above a node, one after another.
use Rattle.std.proofs.Common.{◌≡◌, ℕ, List, [], ◌∷◌, ◌++◌, Bool, true, false, ◌||◌, ◌==◌, Option, Some, None, refl, sym, ap, ◌∙◌}
use Rattle.std.proofs.lemmas.Grind.{common_steps}
use Rattle.std.proofs.Common.{arith}
use Rattle.std.specs.List.{list_any}
use Rattle.nm_base.specs.Numbers.{is_among}
use Rattle.nm_schema_tree.specs.Nodes.{SchemaTree, parent_of}
use Rattle.nm_schema_tree.specs.Levels.{IsTree}
use Rattle.nm_validate_rules.specs.Places.{chain}
use Rattle.nm_validate_places.proofs.InUse.{chain_more}

or_or : (a b c : Bool) → (a || (b || c)) ≡ ((a || b) || c)
or_or true b c = refl
or_or false b c = refl

any_append : {X : Type 0} (test : X → Bool) (xs ys : List X) → list_any test (xs ++ ys) ≡ (list_any test xs || list_any test ys)
any_append test [] ys = refl
any_append test (x ∷ xs) ys = ap (λ b. test x || b) (any_append test xs ys) ∙ or_or (test x) (list_any test xs) (list_any test ys)

or_none : (b : Bool) → (b || false) ≡ b
or_none true = refl
or_none false = refl

or_last : (a b : Bool) → b ≡ true → (a || b) ≡ true
or_last true b e = refl
or_last false b e = e

or_first : (a b : Bool) → b ≡ false → (a || b) ≡ a
or_first true b e = refl
or_first false b e = e

module _ (t : SchemaTree) (tree : IsTree t.nodes) (test : ℕ → Bool) (x : ℕ) (at : Option ℕ) (is : at ≡ Some x) where
  any_chain : list_any test (chain t.nodes at) ≡ (list_any test (chain t.nodes (parent_of t.nodes x)) || test x)
  any_chain =
      ap (λ o. list_any test (chain t.nodes o)) is ∙ ap (list_any test) (sym (chain_more t tree x)) ∙ any_append test (chain t.nodes (parent_of t.nodes x)) (x ∷ [])
      ∙ ap (λ b. list_any test (chain t.nodes (parent_of t.nodes x)) || b) (or_none (test x))

  -- the node itself passes
  pub passes_here : test x ≡ true → true ≡ list_any test (chain t.nodes at)
  passes_here e = sym (any_chain ∙ or_last (list_any test (chain t.nodes (parent_of t.nodes x))) (test x) e)

  -- it doesn't
  pub passes_above : test x ≡ false → list_any test (chain t.nodes (parent_of t.nodes x)) ≡ list_any test (chain t.nodes at)
  passes_above e = sym (any_chain ∙ or_first (list_any test (chain t.nodes (parent_of t.nodes x))) (test x) e)

same : (x z : ℕ) → x ≡ z → (x == z) ≡ true
same x z e = ap (λ (k : ℕ). k == z) e ∙ itself z
  where
    itself : (i : ℕ) → (i == i) ≡ true
    itself i = grind (arith, common_steps)

same_number : (i j : ℕ) → (i == j) ≡ true → i ≡ j
same_number i j e = grind (arith, common_steps)

told_apart : (b : Bool) (i j : ℕ) → (i == j) ≡ b → ¬ (i ≡ j) → b ≡ false
told_apart true i j e h = absurd (h (same_number i j e))
told_apart false i j e h = refl

other : (x z : ℕ) → ¬ (x ≡ z) → (x == z) ≡ false
other x z e = told_apart (x == z) x z refl e

module _ (t : SchemaTree) (tree : IsTree t.nodes) (z x : ℕ) (at : Option ℕ) (is : at ≡ Some x) where
  pub on_here : x ≡ z → true ≡ is_among z (chain t.nodes at)
  unfolding is_among
  on_here e = passes_here t tree (λ (j : ℕ). j == z) x at is (same x z e)

  pub on_above : ¬ (x ≡ z) → is_among z (chain t.nodes (parent_of t.nodes x)) ≡ is_among z (chain t.nodes at)
  unfolding is_among
  on_above e = passes_above t tree (λ (j : ℕ). j == z) x at is (other x z e)

-- above the top there is none
pub on_none : (t : SchemaTree) (z : ℕ) (at : Option ℕ) → at ≡ None → false ≡ is_among z (chain t.nodes at)
unfolding is_among
on_none t z at e = sym (ap (λ o. list_any (λ (j : ℕ). j == z) (chain t.nodes o)) e)
