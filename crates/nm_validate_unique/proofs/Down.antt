-- Ways down to leafs, one more at a time and each of them.
use Rattle.std.proofs.Common.{◌≡◌, ℕ, zero, suc, ◌+◌, ◌<◌, List, [], ◌∷◌, ◌++◌, map, drop, length, get_or, Some, refl, sym, ap, ◌∙◌, subst, append_assoc, arith}
use Rattle.std.proofs.lemmas.List.{drop_more}
use Rattle.nm_schema_tree.specs.Nodes.{SchemaTree}
use Rattle.nm_validate_rules.specs.Places.{chain}
use Rattle.nm_validate_unique.specs.declared.ways.Way.{Way}
use Rattle.nm_validate_unique.specs.Ways.{AreWays}

leafs_push : (ways : List Way) (way : Way) → map (λ w. w.leaf) (ways ++ way ∷ []) ≡ map (λ w. w.leaf) ways ++ way.leaf ∷ []
leafs_push [] way = refl
leafs_push (w ∷ ways) way = ap (λ l. w.leaf ∷ l) (leafs_push ways way)

ways_push : (t : SchemaTree) (ways : List Way) (way : Way) → AreWays t ways → way.nodes.items ≡ chain t.nodes (Some way.leaf) → AreWays t (ways ++ way ∷ [])
ways_push t [] way h e = (e, tt)
ways_push t (w ∷ ways) way h e = (h.0, ways_push t ways way h.1 e)

-- the leafs of these ways and those that are left are all leafs
pub record AreFound (t : SchemaTree) (left all : List ℕ) (ways : List Way) : Type 0 where
  pub leafs : map (λ w. w.leaf) ways ++ left ≡ all
  pub down : AreWays t ways

-- a way more is found
pub found_on : (t : SchemaTree) (all : List ℕ) (i : ℕ) (before after : List Way) (way : Way) → i < length all → way.leaf ≡ get_or all i 0 → way.nodes.items ≡ chain t.nodes (Some (get_or all i 0)) → after ≡ before ++ way ∷ []
    → AreFound t (drop i all) all before → AreFound t (drop (i + 1) all) all after
found_on t all i before after way lt same is e h = record {
  leafs = ap (λ l. map (λ (w : Way). w.leaf) l ++ drop (i + 1) all) e ∙ ap (λ l. l ++ drop (i + 1) all) (leafs_push before way) ∙ append_assoc (map (λ (w : Way). w.leaf) before) (way.leaf ∷ []) (drop (i + 1) all)
      ∙ ap (λ x. map (λ (w : Way). w.leaf) before ++ x ∷ drop (i + 1) all) same ∙ ap (λ l. map (λ (w : Way). w.leaf) before ++ l) (sym (drop_more all i 0 lt)) ∙ h.leafs;
  down = subst (AreWays t) (sym e) (ways_push t before way h.down (is ∙ ap (λ x. chain t.nodes (Some x)) (sym same)));
}

-- each of these is a way down to its leaf
pub way_at : (t : SchemaTree) (ways : List Way) (i : ℕ) (way : Way) → i < length ways → way ≡ get_or ways i way → AreWays t ways → way.nodes.items ≡ chain t.nodes (Some way.leaf)
way_at t [] i way lt is h = absurd (omega (arith, lt))
way_at t (w ∷ ways) zero way lt is h = ap (λ (v : Way). v.nodes.items) is ∙ h.0 ∙ ap (λ (v : Way). chain t.nodes (Some v.leaf)) (sym is)
way_at t (w ∷ ways) (suc i) way lt is h = way_at t ways i way (omega (arith, lt)) is h.1
