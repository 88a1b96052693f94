-- What goes, one node after another.
use Rattle.std.proofs.Common.{◌≡◌, ℕ, suc, ◌+◌, ◌-◌, ◌<◌, List, [], ◌∷◌, ◌++◌, length, Bool, true, false, ◌&&◌, None, if◌then◌else◌, refl, sym, ap, ◌∙◌, append_assoc, arith}
use Rattle.std.specs.List.{flat_map, list_any, range_with_len}
use Rattle.nm_types.specs.Path.{PathStep}
use Rattle.nm_schema_tree.specs.Nodes.{SchemaTree, same_parent, parent_of, case_at}
use Rattle.nm_validate_rules.specs.Cases.{bare, numbers, outwards, cases_over}
use Rattle.nm_edit.specs.Rivals.{is_in_other, are_rivals, rival_at, rivals_of}

-- one number more is looked at
range_step : (i n : ℕ) → i < n → range_with_len i (n - i) ≡ i ∷ range_with_len (i + 1) (n - (i + 1))
range_step i n lt = let e : n - i ≡ suc (n - (i + 1)) = omega (arith, lt) in ap (range_with_len i) e

-- what a number more says goes, and what those that are left say
pub one_more : (f : ℕ → List (List PathStep)) (i n : ℕ) (nodes after : List (List PathStep)) → i < n → after ≡ nodes ++ f i
    → after ++ flat_map f (range_with_len (i + 1) (n - (i + 1))) ≡ nodes ++ flat_map f (range_with_len i (n - i))
one_more f i n nodes after lt e =
    let rest = flat_map f (range_with_len (i + 1) (n - (i + 1))) in
    ap (λ (ns : List (List PathStep)). ns ++ rest) e ∙ append_assoc nodes (f i) rest ∙ ap (λ ns. nodes ++ flat_map f ns) (sym (range_step i n lt))

false_second : (b c : Bool) → c ≡ false → (b && c) ≡ false
false_second true c e = e
false_second false c e = refl

-- a node that stands in no case has no rivals
no_rivals : (t : SchemaTree) (x y : ℕ) → case_at t.nodes x ≡ None → are_rivals t x y ≡ false
unfolding are_rivals cases_over
no_rivals t x y e = false_second (same_parent (parent_of t.nodes x) (parent_of t.nodes y)) _ (ap (λ o. list_any (is_in_other t y) (outwards t (length t.cases) o)) e)

none_gone : (t : SchemaTree) (above : List PathStep) (x : ℕ) → case_at t.nodes x ≡ None → (ys : List ℕ) → flat_map (rival_at t above x) ys ≡ []
none_gone t above x e [] = refl
none_gone t above x e (y ∷ ys) = ap (λ b. (if b then (above ++ bare t.nodes y ∷ []) ∷ [] else []) ++ flat_map (rival_at t above x) ys) (no_rivals t x y e) ∙ none_gone t above x e ys

pub none_goes : (t : SchemaTree) (above : List PathStep) (x : ℕ) → case_at t.nodes x ≡ None → rivals_of t above x ≡ []
none_goes t above x e = none_gone t above x e (numbers t.nodes)
