-- The choices of the places of a tree, one place after another.
use Rattle.std.proofs.Common.{◌≡◌, ◌∙◌, ◌<◌, ◌≤◌, ◌+◌, ◌⊎◌, inl, inr, ℕ, zero, suc, List, [], ◌∷◌, ◌++◌, length, map, take, drop, replicate, get_or, Bool, true, false, cond, ◌==◌, Option, Some, None, IfSome, slice_get, slice_index_or, slice_set, refl, sym, ap, subst, arith, length-append, append-nil}
use Rattle.std.specs.Prelude.{Contains, unwrap_or}
use Rattle.std.specs.List.{position_from, range_with_len}
use Rattle.std.proofs.lemmas.Bool.Decides.{nat_tests}
use Rattle.std.proofs.lemmas.List.{length-map, length-set, length-replicate, get_or-set_same, get_or-set_other, get_or-replicate, append_assoc, take_more, take_all, drop_more, drop_all}
use Rattle.std.proofs.lemmas.List.FromFn.{length-map-range_with_len, get_or-map-range_with_len}
use Rattle.std.proofs.lemmas.Option.{slice_get-get_or}
use Rattle.nm_schema_statements.specs.declared.row.Row.{Row}
use Rattle.nm_schema_statements.specs.Rows.{roots}
use Rattle.nm_schema_uses.specs.Sizes.{total_of}
use Rattle.nm_schema_tree.specs.declared.choice.ChoiceNode.{ChoiceNode}
use Rattle.nm_schema_tree.specs.declared.choice.CaseNode.{CaseNode}
use Rattle.nm_schema_tree.specs.Nodes.{SchemaTree}
use Rattle.nm_schema_nodes.specs.declared.instance.Instance.{Instance}
use Rattle.nm_schema_nodes.specs.Expansion.{IsExpansion, children, tops, owner_of}
use Rattle.nm_schema_nodes.proofs.Places.{slice_get-left}
use Rattle.nm_schema_nodes.specs.Forks.{Forking, no_forks, shifted}
use Rattle.nm_schema_nodes.specs.Choices.{forks_of}
use Rattle.nm_schema_faults.specs.Facts.{Facts, definitions}
use Rattle.nm_schema.specs.Choices.{Place, top_place, place_in, node_place, place_for, places, forks_in, choice_count, case_count, choice_node, case_node, choices_in, cases_in, choices_from, cases_from, tree_choices, tree_cases, place_of, beside, spot_at, cases_before, spots_at, case_of, case_of_node, AreChosen, AreCases, with_forks, cased, with_spots}
use Rattle.nm_schema.proofs.Elements.{here, later, nothing, first_or_later}
use Rattle.nm_schema.proofs.Faultless.{within}
use Rattle.nm_schema.proofs.Beside.{AreAscending, ascending_each, children_ascend, tops_ascend, in_children, in_tops, of_children, of_tops}

-- ---- the cases of nodes

pub spots_none : (case_in : List (Option ℕ)) (xs : List ℕ) (n : ℕ) → with_spots case_in xs [] n ≡ case_in
spots_none case_in [] n = refl
spots_none case_in (x ∷ xs) n = refl

-- a node gets its case, and the nodes after it theirs
pub spots_next : (case_in : List (Option ℕ)) (xs : List ℕ) (spots : List (Option ℕ)) (n i : ℕ) (x : ℕ) (o : Option ℕ) → i < length xs → i < length spots
    → with_spots (slice_set case_in (get_or xs i x) (shifted n (get_or spots i o))) (drop (i + 1) xs) (drop (i + 1) spots) n ≡ with_spots case_in (drop i xs) (drop i spots) n
spots_next case_in xs spots n i x o lt also = rw (drop_more xs i x lt, drop_more spots i o also) refl

pub spots_past : (case_in : List (Option ℕ)) (xs : List ℕ) (spots : List (Option ℕ)) (n i : ℕ) → length spots ≤ i
    → with_spots case_in (drop (i + 1) xs) (drop (i + 1) spots) n ≡ with_spots case_in (drop i xs) (drop i spots) n
spots_past case_in xs spots n i le =
    rw (drop_all i spots le, drop_all (i + 1) spots (omega (arith, le))) (spots_none case_in (drop (i + 1) xs) n ∙ sym (spots_none case_in (drop i xs) n))

spots_size : (case_in : List (Option ℕ)) (xs : List ℕ) (spots : List (Option ℕ)) (n : ℕ) → length (with_spots case_in xs spots n) ≡ length case_in
spots_size case_in [] spots n = refl
spots_size case_in (x ∷ xs) [] n = refl
spots_size case_in (x ∷ xs) (c ∷ cs) n = spots_size (slice_set case_in x (shifted n c)) xs cs n ∙ length-set case_in x (shifted n c)

-- another node keeps its case
spots_other : (case_in : List (Option ℕ)) (xs : List ℕ) (spots : List (Option ℕ)) (n y : ℕ) → (Contains xs y → ⊥) → slice_index_or (with_spots case_in xs spots n) y None ≡ slice_index_or case_in y None
spots_other case_in [] spots n y out = refl
spots_other case_in (x ∷ xs) [] n y out = refl
spots_other case_in (x ∷ xs) (c ∷ cs) n y out =
    spots_other (slice_set case_in x (shifted n c)) xs cs n y (λ d. out (later x y xs d))
    ∙ get_or-set_other case_in x y (shifted n c) None (λ e. out (here x y xs (sym e)))

is_first : (x y : ℕ) → x ≡ y → (x == y) ≡ true
is_first x y e = grind (arith, nat_tests)

is_another : (x y : ℕ) → (x ≡ y → ⊥) → (x == y) ≡ false
is_another x y ne = grind (arith, nat_tests, ne)

-- no spot is told of a node
no_spot : (all : List (Option ℕ)) (y i : ℕ) (xs : List ℕ) → ((j : ℕ) → slice_index_or all (i + j) None ≡ None) → spot_at all (position_from (λ x. x == y) i xs) ≡ None
no_spot all y i [] none = refl
no_spot all y i (x ∷ xs) none = by (x == y) (no_spot all y (i + 1) xs (λ j. ap (λ (k : ℕ). slice_index_or all k None) (omega arith) ∙ none (suc j)))
  where
    at_first : slice_index_or all i None ≡ None
    at_first = ap (λ (k : ℕ). slice_index_or all k None) (omega arith) ∙ none 0

    by : (b : Bool) → spot_at all (position_from (λ x. x == y) (i + 1) xs) ≡ None → spot_at all (cond b (Some i) (position_from (λ x. x == y) (i + 1) xs)) ≡ None
    by true rest = at_first
    by false rest = rest

past_nil : (l : List (Option ℕ)) (j : ℕ) → l ≡ [] → slice_index_or l j None ≡ None
past_nil [] j e = refl
past_nil (o ∷ l) j e = absurd (cc)

-- a node that stands there once gets the case that is told of it
spots_at_node : (case_in : List (Option ℕ)) (xs : List ℕ) (spots all : List (Option ℕ)) (n m i y : ℕ) → AreAscending m xs → Contains xs y → y < length case_in → slice_index_or case_in y None ≡ None
    → ((j : ℕ) → slice_index_or all (i + j) None ≡ slice_index_or spots j None)
    → slice_index_or (with_spots case_in xs spots n) y None ≡ shifted n (spot_at all (position_from (λ x. x == y) i xs))
spots_at_node case_in [] spots all n m i y are c lt none same = absurd (nothing y c)
spots_at_node case_in (x ∷ xs) [] all n m i y are c lt none same = none ∙ ap (shifted n) (sym (no_spot all y i (x ∷ xs) (λ j. same j ∙ past_nil [] j refl)))
spots_at_node case_in (x ∷ xs) (s ∷ spots) all n m i y are c lt none same =
    elim (first_or_later x y xs c) [
      | inl e ↦ first e
      | inr d ↦ other (λ e. apart e d) (λ kept. spots_at_node (slice_set case_in x (shifted n s)) xs spots all n (suc x) (i + 1) y are.1 d (omega (arith, lt, length-set case_in x (shifted n s))) kept
          (λ j. ap (λ (k : ℕ). slice_index_or all k None) (omega arith) ∙ same (suc j)))
    ]
  where
    apart : x ≡ y → Contains xs y → ⊥
    apart e d = omega (arith, e, ascending_each (suc x) xs y are.1 d)

    first : x ≡ y → slice_index_or (with_spots (slice_set case_in x (shifted n s)) xs spots n) y None ≡ shifted n (spot_at all (cond (x == y) (Some i) (position_from (λ x. x == y) (i + 1) xs)))
    first e =
        let spot : slice_index_or all i None ≡ s = ap (λ (k : ℕ). slice_index_or all k None) (omega arith) ∙ same 0 in
        let put : slice_index_or (slice_set case_in x (shifted n s)) y None ≡ shifted n s = ap (λ (k : ℕ). slice_index_or (slice_set case_in x (shifted n s)) k None) (sym e) ∙ get_or-set_same case_in x (shifted n s) None (omega (arith, e, lt)) in
        spots_other (slice_set case_in x (shifted n s)) xs spots n y (apart e) ∙ put ∙ ap (shifted n) (sym spot) ∙ ap (λ (b : Bool). shifted n (spot_at all (cond b (Some i) (position_from (λ x. x == y) (i + 1) xs)))) (sym (is_first x y e))

    other : (x ≡ y → ⊥)
        → (slice_index_or (slice_set case_in x (shifted n s)) y None ≡ None → slice_index_or (with_spots (slice_set case_in x (shifted n s)) xs spots n) y None ≡ shifted n (spot_at all (position_from (λ x. x == y) (i + 1) xs)))
        → slice_index_or (with_spots (slice_set case_in x (shifted n s)) xs spots n) y None ≡ shifted n (spot_at all (cond (x == y) (Some i) (position_from (λ x. x == y) (i + 1) xs)))
    other ne rest =
        let kept : slice_index_or (slice_set case_in x (shifted n s)) y None ≡ None = get_or-set_other case_in x y (shifted n s) None (λ e. ne (sym e)) ∙ none in
        rest kept ∙ ap (λ (b : Bool). shifted n (spot_at all (cond b (Some i) (position_from (λ x. x == y) (i + 1) xs)))) (sym (is_another x y ne))

-- ---- the tables

module _ (rows : List Row) where
  pub choices_size : (ps : List Place) (n : ℕ) → length (choices_from rows n ps) ≡ total_of (map (choice_count rows) ps)
  unfolding choices_from choice_count
  choices_size [] n = refl
  choices_size (p ∷ ps) n =
      length-append (choices_in rows n p) (choices_from rows (n + case_count rows p) ps)
      ∙ (let first = length-map (forks_in rows p.row).choices (choice_node rows p n) in omega (arith, first, choices_size ps (n + case_count rows p)))

  pub cases_size : (ps : List Place) (n : ℕ) → length (cases_from rows n ps) ≡ total_of (map (case_count rows) ps)
  unfolding cases_from case_count
  cases_size [] n = refl
  cases_size (p ∷ ps) n =
      length-append (cases_in rows n p) (cases_from rows (n + choice_count rows p) ps)
      ∙ (let first = length-map (forks_in rows p.row).cases (case_node rows n) in omega (arith, first, cases_size ps (n + choice_count rows p)))

  choices_more : (ps : List Place) (n : ℕ) (p : Place) → choices_from rows n (ps ++ p ∷ []) ≡ choices_from rows n ps ++ choices_in rows (n + total_of (map (case_count rows) ps)) p
  unfolding choices_from
  choices_more [] n p = append-nil (choices_in rows n p) ∙ ap (λ (k : ℕ). choices_in rows k p) (omega arith)
  choices_more (q ∷ ps) n p =
      let m = n + case_count rows q in
      ap (λ (l : List ChoiceNode). choices_in rows n q ++ l) (choices_more ps m p ∙ ap (λ (k : ℕ). choices_from rows m ps ++ choices_in rows k p) (omega arith))
      ∙ sym (append_assoc (choices_in rows n q) (choices_from rows m ps) (choices_in rows (n + total_of (map (case_count rows) (q ∷ ps))) p))

  cases_more : (ps : List Place) (n : ℕ) (p : Place) → cases_from rows n (ps ++ p ∷ []) ≡ cases_from rows n ps ++ cases_in rows (n + total_of (map (choice_count rows) ps)) p
  unfolding cases_from
  cases_more [] n p = append-nil (cases_in rows n p) ∙ ap (λ (k : ℕ). cases_in rows k p) (omega arith)
  cases_more (q ∷ ps) n p =
      let m = n + choice_count rows q in
      ap (λ (l : List CaseNode). cases_in rows n q ++ l) (cases_more ps m p ∙ ap (λ (k : ℕ). cases_from rows m ps ++ cases_in rows k p) (omega arith))
      ∙ sym (append_assoc (cases_in rows n q) (cases_from rows m ps) (cases_in rows (n + total_of (map (choice_count rows) (q ∷ ps))) p))

  -- what is not known gives no choices
  pub none_placed : (p : Place) (t : SchemaTree) → forks_of rows (definitions rows) p.row ≡ None → t ≡ with_forks rows p t
  unfolding forks_in
  none_placed p t none = rw (none, append-nil t.choices, append-nil t.cases) refl

  pub none_cased : (i : ℕ) (t : SchemaTree) (nodes : List ℕ) (case_in : List (Option ℕ)) → forks_of rows (definitions rows) i ≡ None → case_in ≡ cased rows i t nodes case_in
  unfolding forks_in
  none_cased i t nodes case_in none = rw none (sym (spots_none case_in nodes (length t.cases)))

  pub forks_known : (i : ℕ) (f : Forking) → forks_of rows (definitions rows) i ≡ Some f → forks_in rows i ≡ f
  unfolding forks_in
  forks_known i f known = ap (λ (o : Option Forking). unwrap_or o no_forks) known

placed_next : (ps : List Place) (n : ℕ) (p : Place) → slice_get ps n ≡ Some p → take (n + 1) ps ≡ take n ps ++ p ∷ []
placed_next ps n p at =
    let lt = within ps n p at in
    let same : get_or ps n p ≡ p = (let both : Some (get_or ps n p) ≡ Some p = sym (slice_get-get_or ps n p lt) ∙ at in cc) in
    take_more ps n p lt ∙ ap (λ (q : Place). take n ps ++ q ∷ []) same

-- these are the nodes that stand in place n
pub record AreBeside (rows : List Row) (facts : Facts) (n : ℕ) (ns : List ℕ) : Type 0 where
  pub all : (x : ℕ) (node : Instance) → slice_get facts.nodes x ≡ Some node → place_of rows node node.parent ≡ n → (beside facts node node.parent ≡ ns) × Contains ns x
  pub only : (x : ℕ) (node : Instance) → slice_get facts.nodes x ≡ Some node → Contains ns x → place_of rows node node.parent ≡ n
  pub ascending : AreAscending 0 ns

before_or_at : (k n : ℕ) → k < n + 1 → (k < n) ⊎ (k ≡ n)
before_or_at k n lt = grind (arith, nat_tests)

module _ (rows : List Row) (facts : Facts) where
  -- the choices of a place more
  pub chosen_next : (n : ℕ) (p : Place) (ns : List ℕ) (before after : SchemaTree) (case_in further : List (Option ℕ)) → AreChosen rows facts n before.choices before.cases case_in → slice_get (places rows facts) n ≡ Some p
      → AreBeside rows facts n ns → after ≡ with_forks rows p before → further ≡ cased rows p.row before ns case_in → AreChosen rows facts (n + 1) after.choices after.cases further
  unfolding cases_before spots_at case_of
  chosen_next n p ns before after case_in further are at stand is gives = record {
    size = ap (λ (l : List (Option ℕ)). length l) gives ∙ spots_size case_in ns spots (length before.cases) ∙ are.size;
    choices_are =
        ap (λ (t : SchemaTree). t.choices) is ∙ ap (λ (l : List ChoiceNode). l ++ choices_in rows (length before.cases) p) are.choices_are ∙ ap (λ (k : ℕ). choices_from rows 0 done_places ++ choices_in rows k p) (count ∙ omega arith)
        ∙ sym (ap (choices_from rows 0) (placed_next (places rows facts) n p at) ∙ choices_more rows done_places 0 p);
    cases_are =
        ap (λ (t : SchemaTree). t.cases) is ∙ ap (λ (l : List CaseNode). l ++ cases_in rows (length before.choices) p) are.cases_are ∙ ap (λ (k : ℕ). cases_from rows 0 done_places ++ cases_in rows k p) (choice_total ∙ omega arith)
        ∙ sym (ap (cases_from rows 0) (placed_next (places rows facts) n p at) ∙ cases_more rows done_places 0 p);
    done = λ x node there lt. elim (before_or_at (place_of rows node node.parent) n lt) [
      | inl earlier ↦ kept x (λ c. (let same = stand.only x node there c in omega (arith, same, earlier))) ∙ are.done x node there earlier
      | inr here ↦ put x node there here
    ];
    rest = λ x node there le. kept x (λ c. (let same = stand.only x node there c in omega (arith, same, le))) ∙ are.rest x node there (omega (arith, le));
  }
    where
      spots : List (Option ℕ)
      spots = (forks_in rows p.row).spots

      done_places : List Place
      done_places = take n (places rows facts)

      count : length before.cases ≡ total_of (map (case_count rows) done_places)
      count = ap (λ (l : List CaseNode). length l) are.cases_are ∙ cases_size rows done_places 0

      choice_total : length before.choices ≡ total_of (map (choice_count rows) done_places)
      choice_total = ap (λ (l : List ChoiceNode). length l) are.choices_are ∙ choices_size rows done_places 0

      kept : (x : ℕ) → (Contains ns x → ⊥) → slice_index_or further x None ≡ slice_index_or case_in x None
      kept x out = ap (λ (l : List (Option ℕ)). slice_index_or l x None) gives ∙ spots_other case_in ns spots (length before.cases) x out

      put : (x : ℕ) (node : Instance) → slice_get facts.nodes x ≡ Some node → place_of rows node node.parent ≡ n → slice_index_or further x None ≡ case_of rows facts x node
      put x node there here =
          let b = stand.all x node there here in
          let own = spots_at_node case_in ns spots spots (length before.cases) 0 0 x stand.ascending b.1 (omega (arith, are.size, within facts.nodes x node there)) (are.rest x node there (omega (arith, here))) (λ j. ap (λ (k : ℕ). slice_index_or spots k None) (omega arith)) in
          ap (λ (l : List (Option ℕ)). slice_index_or l x None) gives ∙ own ∙ rw (here, b.0, at, count) refl

  chosen_none : (case_in : List (Option ℕ)) → case_in ≡ replicate (length facts.nodes) None → AreChosen rows facts 0 [] [] case_in
  unfolding choices_from cases_from
  chosen_none case_in is = record {
    size = ap (λ (l : List (Option ℕ)). length l) is ∙ length-replicate (length facts.nodes) None;
    choices_are = refl;
    cases_are = refl;
    done = λ x node there lt. absurd (omega (arith, lt));
    rest = λ x node there le. ap (λ (l : List (Option ℕ)). slice_index_or l x None) is ∙ get_or-replicate (length facts.nodes) x None None (within facts.nodes x node there);
  }

  pub chosen_start : (t : SchemaTree) (case_in : List (Option ℕ)) → t.choices ≡ [] → t.cases ≡ [] → case_in ≡ replicate (length facts.nodes) None → AreChosen rows facts 0 t.choices t.cases case_in
  chosen_start t case_in none neither is = rw (none, neither) (chosen_none case_in is)

  -- ---- places

  top_at : (m : ℕ) → m < length (roots rows) → slice_get (places rows facts) m ≡ Some (top_place rows m)
  unfolding places
  top_at m lt =
      let tops = map (top_place rows) (range_with_len 0 (length (roots rows))) in
      let long : m < length tops = omega (arith, lt, length-map-range_with_len (top_place rows) 0 (length (roots rows))) in
      slice_get-left tops (map (node_place facts) (range_with_len 0 (length facts.nodes))) m long
      ∙ slice_get-get_or tops m (top_place rows m) long
      ∙ ap (λ (p : Place). Some p) (get_or-map-range_with_len (top_place rows) 0 (length (roots rows)) m m (top_place rows m) lt (omega arith))

  pub top_there : (m : ℕ) (owner row : ℕ) → m < length (roots rows) → owner ≡ m → row ≡ get_or (roots rows) m 0 → slice_get (places rows facts) m ≡ Some (place_for None owner row)
  unfolding top_place
  top_there m owner row lt same is = top_at m lt ∙ rw (same, is) refl

  behind : (xs ys : List Place) (k : ℕ) → slice_get (xs ++ ys) (length xs + k) ≡ slice_get ys k
  behind [] ys k = ap (slice_get ys) (omega arith)
  behind (x ∷ xs) ys k =
      let at : length (x ∷ xs) + k ≡ suc (length xs + k) = omega arith in
      ap (slice_get (x ∷ xs ++ ys)) at ∙ behind xs ys k

  pub node_there : (x : ℕ) (node : Instance) → slice_get facts.nodes x ≡ Some node → slice_get (places rows facts) (length (roots rows) + x) ≡ Some (place_for (Some x) node.owner node.row)
  unfolding places node_place
  node_there x node there =
      let tops = map (top_place rows) (range_with_len 0 (length (roots rows))) in
      let others = map (node_place facts) (range_with_len 0 (length facts.nodes)) in
      let lt = within facts.nodes x node there in
      let long : x < length others = omega (arith, lt, length-map-range_with_len (node_place facts) 0 (length facts.nodes)) in
      let size : length tops ≡ length (roots rows) = length-map-range_with_len (top_place rows) 0 (length (roots rows)) in
      ap (λ (k : ℕ). slice_get (tops ++ others) (k + x)) (sym size) ∙ behind tops others x
      ∙ slice_get-get_or others x (node_place facts x) long
      ∙ ap (λ (p : Place). Some p) (get_or-map-range_with_len (node_place facts) 0 (length facts.nodes) x x (node_place facts x) lt (omega arith) ∙ ap (place_in x) there)

  places_size : length (places rows facts) ≡ length (roots rows) + length facts.nodes
  unfolding places
  places_size =
      let tops = map (top_place rows) (range_with_len 0 (length (roots rows))) in
      let others = map (node_place facts) (range_with_len 0 (length facts.nodes)) in
      omega (arith, length-append tops others, length-map-range_with_len (top_place rows) 0 (length (roots rows)), length-map-range_with_len (node_place facts) 0 (length facts.nodes))

  module _ (expansion : IsExpansion rows (definitions rows) facts.nodes) where
    pub tops_beside : (m : ℕ) → m < length (roots rows) → AreBeside rows facts m (tops facts.nodes m)
    tops_beside m lt = record {
      all = λ x node there is. all x node node.parent there refl is;
      only = λ x node there c. only node (of_tops facts.nodes x m node there c);
      ascending = tops_ascend facts.nodes m;
    }
      where
        all : (x : ℕ) (node : Instance) (o : Option ℕ) → slice_get facts.nodes x ≡ Some node → node.parent ≡ o → place_of rows node o ≡ m → (beside facts node o ≡ tops facts.nodes m) × Contains (tops facts.nodes m) x
        all x node None there top is = (ap (tops facts.nodes) is, subst (λ k. Contains (tops facts.nodes k) x) is (in_tops facts.nodes x node there top))
        all x node (Some p) there top is = absurd (omega (arith, is, lt))

        only : (node : Instance) → (node.parent ≡ None) × (node.owner ≡ m) → place_of rows node node.parent ≡ m
        only node is = ap (place_of rows node) is.0 ∙ is.1

    pub children_beside : (n y : ℕ) → n ≡ length (roots rows) + y → AreBeside rows facts n (children facts.nodes y)
    children_beside n y at = record {
      all = λ x node there is. all x node node.parent there refl is;
      only = λ x node there c. ap (place_of rows node) (of_children facts.nodes x y node there c) ∙ sym at;
      ascending = children_ascend facts.nodes y;
    }
      where
        all : (x : ℕ) (node : Instance) (o : Option ℕ) → slice_get facts.nodes x ≡ Some node → node.parent ≡ o → place_of rows node o ≡ n → (beside facts node o ≡ children facts.nodes y) × Contains (children facts.nodes y) x
        all x node None there top is = absurd (omega (arith, is, at, expansion.owners x node there))
        all x node (Some p) there top is =
            let same : p ≡ y = omega (arith, is, at) in
            (ap (children facts.nodes) same, subst (λ k. Contains (children facts.nodes k) x) same (in_children facts.nodes x p node there top))

    stands_by : (x : ℕ) (node : Instance) (o : Option ℕ) → slice_get facts.nodes x ≡ Some node → IfSome o (λ p. (p < x) × (owner_of facts.nodes p ≡ Some node.owner)) → place_of rows node o < length (roots rows) + length facts.nodes
    stands_by x node None there before = omega (arith, expansion.owners x node there)
    stands_by x node (Some p) there before = omega (arith, before.0, within facts.nodes x node there)

    -- the place that a node stands in
    pub place_there : (x : ℕ) (node : Instance) → slice_get facts.nodes x ≡ Some node → (p : Place) × (slice_get (places rows facts) (place_of rows node node.parent) ≡ Some p)
    place_there x node is =
        let n = place_of rows node node.parent in
        let lt = stands_by x node node.parent is (expansion.parents x node is) in
        (get_or (places rows facts) n (top_place rows 0), slice_get-get_or (places rows facts) n (top_place rows 0) (omega (arith, lt, places_size)))

    -- all places are done
    pub chosen_all : (choices : List ChoiceNode) (cases : List CaseNode) (case_in : List (Option ℕ)) → AreChosen rows facts (length (roots rows) + length facts.nodes) choices cases case_in
        → (choices ≡ tree_choices rows facts) × (cases ≡ tree_cases rows facts) × AreCases rows facts case_in
    chosen_all choices cases case_in are =
        let whole = take_all (length (roots rows) + length facts.nodes) (places rows facts) (omega (arith, places_size)) in
        (are.choices_are ∙ ap (choices_from rows 0) whole, are.cases_are ∙ ap (cases_from rows 0) whole, λ x. each x (slice_get facts.nodes x) refl)
      where
        past : (x : ℕ) (l : List (Option ℕ)) → length l ≤ x → slice_index_or l x None ≡ None
        past x [] le = past_nil [] x refl
        past zero (o ∷ l) le = absurd (omega (arith, le))
        past (suc x) (o ∷ l) le = past x l (omega (arith, le))

        out : (nodes : List Instance) (x : ℕ) → slice_get nodes x ≡ None → length nodes ≤ x
        out [] x e = omega arith
        out (z ∷ nodes) zero e = absurd (cc)
        out (z ∷ nodes) (suc x) e = omega (arith, out nodes x e)

        each : (x : ℕ) (o : Option Instance) → slice_get facts.nodes x ≡ o → slice_index_or case_in x None ≡ case_of_node rows facts x o
        each x None is = past x case_in (omega (arith, are.size, out facts.nodes x is))
        each x (Some node) is = are.done x node is (stands_by x node node.parent is (expansion.parents x node is))
