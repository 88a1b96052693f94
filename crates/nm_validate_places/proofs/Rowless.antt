-- Nodes have nowhere more entries than rows in all.
use Rattle.std.proofs.Common.{◌≡◌, ℕ, ◌<◌, ◌≤◌, List, [], ◌∷◌, map, get_or, length, Bool, true, false, cond, ◌==◌, Option, Some, None, Bor, refl, sym, ap, ◌∙◌, subst, inl, inr, arith}
use Rattle.std.proofs.lemmas.Grind.{common_steps}
use Rattle.std.proofs.lemmas.Bool.{false≢true}
use Rattle.std.proofs.lemmas.Bool.Decides.{nat_tests}
use Rattle.std.proofs.lemmas.List.{length-map}
use Rattle.std.proofs.lemmas.List.Sums.{length-filter}
use Rattle.std.specs.Prelude.{filter, nat_lt}
use Rattle.std.specs.FinMap.{keys}
use Rattle.nm_types.specs.Path.{PathStep}
use Rattle.nm_schema_tree.specs.declared.node.Node.{Node}
use Rattle.nm_schema_tree.specs.Nodes.{SchemaTree, elements_at}
use Rattle.nm_path.specs.declared.place.Place.{Place}
use Rattle.nm_path.specs.declared.place.Place.TheVariants.{Top}
use Rattle.nm_path.specs.Spelling.{found_of, below, node_from, node_of}
use Rattle.nm_path.specs.Sound.{IsSound}
use Rattle.nm_config.specs.Rows.{Rows}
use Rattle.nm_config.specs.Under.{is_under}
use Rattle.nm_config.proofs.Contiguous.{stands_parts, one_step}
use Rattle.nm_validate_rules.specs.declared.rule.Rule.TheVariants.{MaxElements}
use Rattle.nm_validate_rules.specs.Guards.{is_node, leads_to}
use Rattle.nm_validate_rules.specs.Places.{places}
use Rattle.nm_validate_rules.specs.Values.{count_at}
use Rattle.nm_validate_rules.specs.Violated.{is_above, violated}
use Rattle.nm_validate_rules.proofs.Among.{Among, both, among_contains}
use Rattle.nm_validate_rules.proofs.Leading.{itself}
use Rattle.nm_validate_rules.proofs.Placed.{placed_law}
use Rattle.nm_validate_places.specs.Counts.{is_entry_of}
use Rattle.nm_validate_places.specs.Groups.{Group, paths_in, AreOf}
use Rattle.nm_validate_places.proofs.Grouped.{at_index}
use Rattle.nm_validate_places.proofs.Elements.{at_place}
use Rattle.nm_validate_places.proofs.Leasts.{filter_none}

-- ---- the path of an entry leads where that of its list leads

-- a step that has the same module and name leads to the same node
same_found : (nodes : List Node) (place : Place) (s t : PathStep) → s.module ≡ t.module → s.name ≡ t.name → found_of nodes place t.module t.name ≡ found_of nodes place s.module s.name
same_found nodes place s t m n = ap (λ a. found_of nodes place a t.name) (sym m) ∙ ap (found_of nodes place s.module) (sym n)

steps_lead : (nodes : List Node) (place : Place) (last : Option ℕ) (ss ts : List PathStep) → is_under ss ts ≡ true → length ts ≡ length ss → node_from nodes place last ts ≡ node_from nodes place last ss
unfolding is_under
steps_lead nodes place last [] [] h e = refl
steps_lead nodes place last [] (t ∷ ts) h e = absurd (omega (arith, e))
steps_lead nodes place last (s ∷ ss) [] h e = absurd (cc)
steps_lead nodes place last (s ∷ []) (t ∷ []) h e =
    let p = stands_parts s t (both _ _ h).0 in
    same_found nodes place s t p.module_same p.name_same
steps_lead nodes place last (s ∷ []) (t ∷ u ∷ ts) h e = absurd (omega (arith, e))
steps_lead nodes place last (s ∷ r ∷ ss) (t ∷ ts) h e =
    let same : s ≡ t = one_step s t (both _ _ h).0 in
    let shorter : length ts ≡ length (r ∷ ss) = omega (arith, e) in
    let led = same_found nodes place s t (ap (λ (q : PathStep). q.module) same) (ap (λ (q : PathStep). q.name) same) in
    ap (λ o. node_from nodes (below o) o ts) led
    ∙ steps_lead nodes (below (found_of nodes place s.module s.name)) (found_of nodes place s.module s.name) (r ∷ ss) ts (both _ _ h).1 shorter

entry_leads : (t : SchemaTree) (path other : List PathStep) → is_under path other ≡ true → length other ≡ length path → node_of t other ≡ node_of t path
unfolding node_of
entry_leads t path other h e = steps_lead t.nodes Top None path other h e

-- ---- no more entries than rows

as_long : (a b : ℕ) → (a == b) ≡ true → a ≡ b
as_long a b e = grind (arith, common_steps, nat_tests)

at_most : (max c n : ℕ) → c ≤ n → nat_lt max n ≡ false → is_above c (Some max) ≡ false
at_most max c n less e = grind (arith, common_steps, nat_tests)

one_more : {X : Type 0} (f g : X → Bool) (x : X) (xs : List X) (a b : Bool) → (a ≡ true → b ≡ true) → length (filter f xs) ≤ length (filter g xs)
    → length (cond a (x ∷ filter f xs) (filter f xs)) ≤ length (cond b (x ∷ filter g xs) (filter g xs))
one_more f g x xs true true h rest = omega (arith, rest)
one_more f g x xs true false h rest = absurd (false≢true (h refl))
one_more f g x xs false true h rest = omega (arith, rest)
one_more f g x xs false false h rest = rest

-- what passes one test only where it passes another does so no more often
no_more : {X : Type 0} (f g : X → Bool) (xs : List X) → ((x : X) → Among xs x → f x ≡ true → g x ≡ true) → length (filter f xs) ≤ length (filter g xs)
no_more f g [] h = omega arith
no_more f g (x ∷ xs) h = one_more f g x xs (f x) (g x) (h x (inl refl)) (no_more f g xs (λ y a. h y (inr a)))

module _ (t : SchemaTree) (rows : Rows) (sound : IsSound t.nodes) (x : ℕ) (lt : x < length t.nodes) where
  entry_is : (p k : List PathStep) → node_of t p ≡ Some x → is_entry_of p k ≡ true → leads_to t x k ≡ true
  entry_is p k at e =
      let h = both (length k == length p) (is_under p k) e in
      ap (is_node x) (entry_leads t p k h.1 (as_long (length k) (length p) h.0) ∙ at) ∙ itself x

  -- a node has nowhere more entries than rows in all
  count_within : (p : List PathStep) → node_of t p ≡ Some x → count_at rows p ≤ length (filter (leads_to t x) (keys rows))
  count_within p at =
      let all = no_more (is_entry_of p) (leads_to t x) (keys rows) (λ k a. entry_is p k at) in
      let count : length (filter (is_entry_of p) (keys rows)) ≡ count_at rows p = length-filter (is_entry_of p) (keys rows) in
      omega (arith, all, count)

  -- a node that has no more rows in all than it may have entries has nowhere too many
  pub never_above : (max : ℕ) → (elements_at t.nodes x).max ≡ Some max → nat_lt max (length (filter (leads_to t x) (keys rows))) ≡ false → filter (violated t rows MaxElements) (places t rows x) ≡ []
  never_above max is few = filter_none (violated t rows MaxElements) (places t rows x) (λ p a.
      let at = ((placed_law t rows x p sound lt).0 (among_contains (places t rows x) p a)).0 in
      at_place t rows sound x lt p a ∙ ap (is_above (count_at rows p)) is ∙ at_most max (count_at rows p) (length (filter (leads_to t x) (keys rows))) (count_within p at) few)

module _ (t : SchemaTree) (rows : Rows) (sound : IsSound t.nodes) (groups : List Group) (x : ℕ) (lt : x < length t.nodes) (of : AreOf t (keys rows) groups) where
  -- the group of its rows has no more
  pub small_group : (g : Group) → g ≡ get_or groups x g → (max : ℕ) → (elements_at t.nodes x).max ≡ Some max → nat_lt max (length g.items) ≡ false → filter (violated t rows MaxElements) (places t rows x) ≡ []
  small_group g is max most few =
      let there = at_index groups x g (subst (λ (n : ℕ). x < n) (sym of.count) lt) is in
      let all : map (λ (p : Bor (List PathStep)). p.now) g.items ≡ filter (leads_to t x) (keys rows) = sym (ap paths_in there) ∙ of.each x lt in
      let long : length g.items ≡ length (filter (leads_to t x) (keys rows)) = sym (length-map g.items (λ (p : Bor (List PathStep)). p.now)) ∙ ap length all in
      never_above t rows sound x lt max most (sym (ap (nat_lt max) long) ∙ few)
