-- The case of each node of a tree is there.
use Rattle.std.proofs.Common.{◌≡◌, ◌∙◌, ◌<◌, ◌≤◌, ◌+◌, ◌==◌, ℕ, zero, suc, List, [], ◌∷◌, length, map, take, Option, Some, None, IfSome, Ok, slice_get, slice_index_or, refl, sym, ap, subst, arith}
use Rattle.std.specs.Prelude.{All, unwrap_or}
use Rattle.std.specs.List.{filter_map, cons_option, position_from, range_with_len}
use Rattle.std.proofs.lemmas.List.Elements.{All-nil, All-cons, All-append}
use Rattle.nm_yang.specs.Tree.{Tree}
use Rattle.nm_schema_statements.specs.declared.row.Row.{Row}
use Rattle.nm_schema_statements.specs.Rows.{rows_of}
use Rattle.nm_schema_uses.specs.Arguments.{argument_at}
use Rattle.nm_schema_uses.specs.Sizes.{total_of}
use Rattle.nm_schema_tree.specs.declared.node.Node.{Node}
use Rattle.nm_schema_tree.specs.declared.node.NodeKind.{NodeKind}
use Rattle.nm_schema_tree.specs.Nodes.{SchemaTree, case_at}
use Rattle.nm_schema_nodes.specs.declared.instance.Instance.{Instance}
use Rattle.nm_schema_nodes.specs.Expansion.{IsExpansion}
use Rattle.nm_schema_nodes.specs.Forks.{Forking, no_forks, shifted, IsWalked}
use Rattle.nm_schema_nodes.specs.Choices.{forks_of}
use Rattle.nm_schema_faults.specs.declared.fault.Fault.{Fault}
use Rattle.nm_schema_faults.specs.Facts.{Facts, AreFacts, definitions}
use Rattle.nm_schema_faults.specs.Fault.{first_fault}
use Rattle.nm_schema.specs.Kind.{kind_of}
use Rattle.nm_schema.specs.Choices.{Place, places, forks_in, case_count, cases_before, spot_at, spots_in, spots_at, place_of, beside, case_of, tree_cases, module_name}
use Rattle.nm_schema.specs.Node.{node_with, node_by, node_in, node_of, known_nodes}
use Rattle.nm_schema.specs.Marker.{changes_node, applied_node, change_node, marker_nodes}
use Rattle.nm_schema.specs.Built.{tree_of, outcome, built, AreBuilt, Builds}
use Rattle.nm_schema.proofs.Walking.{none_walked, forks_walked}
use Rattle.nm_schema.proofs.Chosen.{cases_size, place_there}

-- ---- the cases of a place

forks_by : (rows : List Row) (i : ℕ) (o : Option Forking) → forks_of rows (definitions rows) i ≡ o → IsWalked (unwrap_or o no_forks)
forks_by rows i None is = none_walked
forks_by rows i (Some f) is = forks_walked rows (definitions rows) i f is

in_walked : (rows : List Row) (i : ℕ) → IsWalked (forks_in rows i)
unfolding forks_in
in_walked rows i = forks_by rows i (forks_of rows (definitions rows) i) refl

-- the places up to one have no more cases than all
total_upto : (f : Place → ℕ) (ps : List Place) (n : ℕ) (p : Place) → slice_get ps n ≡ Some p → total_of (map f (take n ps)) + f p ≤ total_of (map f ps)
total_upto f [] n p at = absurd (cc)
total_upto f (q ∷ ps) zero p at = let same : q ≡ p = cc in omega (arith, ap f same)
total_upto f (q ∷ ps) (suc n) p at = omega (arith, total_upto f ps n p at)

some_at : (spots : List (Option ℕ)) (n k d : ℕ) → ((i : ℕ) (o : Option ℕ) → i < length spots → IfSome (slice_index_or spots i o) (λ c. c < n)) → slice_index_or spots k None ≡ Some d → d < n
some_at [] n k d each e = absurd (cc)
some_at (o ∷ spots) n zero d each e = subst (λ (p : Option ℕ). IfSome p (λ c. c < n)) e (each 0 None (omega arith))
some_at (o ∷ spots) n (suc k) d each e = some_at spots n k d (λ i q lt. each (suc i) q (omega (arith, lt))) e

spot_within : (rows : List Row) (p : Place) (o : Option ℕ) (d : ℕ) → spot_at (forks_in rows p.row).spots o ≡ Some d → d < case_count rows p
unfolding case_count
spot_within rows p None d e = absurd (cc)
spot_within rows p (Some k) d e = some_at (forks_in rows p.row).spots (length (forks_in rows p.row).cases) k d (in_walked rows p.row).of_nodes e

-- a case behind others is one of them further on
shifted_is : (n : ℕ) (o : Option ℕ) (c : ℕ) → shifted n o ≡ Some c → (d : ℕ) × (o ≡ Some d) × (c ≡ n + d)
shifted_is n None c e = absurd (cc)
shifted_is n (Some d) c e = (d, refl, cc)

-- ---- the cases of nodes

module _ (rows : List Row) (facts : Facts) (expansion : IsExpansion rows (definitions rows) facts.nodes) where
  case_within : (x : ℕ) (node : Instance) (c : ℕ) → slice_get facts.nodes x ≡ Some node → case_of rows facts x node ≡ Some c → c < length (tree_cases rows facts)
  unfolding case_of spots_at cases_before
  case_within x node c there e =
      let n = place_of rows node node.parent in
      let p = place_there rows facts expansion x node there in
      let s = shifted_is (cases_before rows facts n) (spot_at (spots_at rows facts n) (position_from (λ y. y == x) 0 (beside facts node node.parent))) c e in
      let spot : spot_at (forks_in rows p.0.row).spots (position_from (λ y. y == x) 0 (beside facts node node.parent)) ≡ Some s.0 =
      ap (λ (o : Option Place). spot_at (spots_in rows o) (position_from (λ y. y == x) 0 (beside facts node node.parent))) (sym p.1) ∙ s.1 in
      let all : length (tree_cases rows facts) ≡ total_of (map (case_count rows) (places rows facts)) = cases_size rows (places rows facts) 0 in
      omega (arith, s.2, spot_within rows p.0 (position_from (λ y. y == x) 0 (beside facts node node.parent)) s.0 spot, total_upto (case_count rows) (places rows facts) n p.0 p.1, all)

  abbrev IsCased : Node → Type 0
  IsCased n = IfSome n.case_in (λ c. c < length (tree_cases rows facts))

  some_within : (o : Option ℕ) → ((c : ℕ) → o ≡ Some c → c < length (tree_cases rows facts)) → IfSome o (λ c. c < length (tree_cases rows facts))
  some_within None given = tt
  some_within (Some c) given = given c refl

  with_cased : (x : ℕ) (place : Instance) (k : Option NodeKind) (n : Node) → slice_get facts.nodes x ≡ Some place → node_with rows facts x place k ≡ Some n → IsCased n
  with_cased x place None n there e = absurd (cc)
  with_cased x place (Some k) n there e =
      let made : Node = record { parent = place.parent; case_in = case_of rows facts x place; «module» = module_name rows place.owner; name = argument_at rows place.row; kind = k } in
      let same : made ≡ n = cc in
      subst (λ (m : Node). IsCased m) same (some_within (case_of rows facts x place) (λ c is. case_within x place c there is))

  by_cased : (x : ℕ) (place : Instance) (o : Option Row) (n : Node) → slice_get facts.nodes x ≡ Some place → node_by rows facts x place o ≡ Some n → IsCased n
  by_cased x place None n there e = absurd (cc)
  by_cased x place (Some r) n there e = with_cased x place (kind_of rows facts x place r.word) n there e

  in_cased : (x : ℕ) (o : Option Instance) (n : Node) → slice_get facts.nodes x ≡ o → node_in rows facts x o ≡ Some n → IsCased n
  in_cased x None n there e = absurd (cc)
  in_cased x (Some place) n there e = by_cased x place (slice_get rows place.row) n there e

  node_cased : (x : ℕ) (n : Node) → node_of rows facts x ≡ Some n → IsCased n
  unfolding node_of
  node_cased x n e = in_cased x (slice_get facts.nodes x) n refl e

  kept_cased : (x : ℕ) (o : Option Node) (rest : List Node) → node_of rows facts x ≡ o → All IsCased rest → All IsCased (cons_option o rest)
  kept_cased x None rest is all = all
  kept_cased x (Some n) rest is all = All-cons IsCased n rest (node_cased x n is) all

  all_cased : (xs : List ℕ) → All IsCased (filter_map (node_of rows facts) xs)
  all_cased [] = All-nil IsCased
  all_cased (x ∷ xs) = kept_cased x (node_of rows facts x) (filter_map (node_of rows facts) xs) refl (all_cased xs)

  marker_cased : (k : ℕ) → All IsCased (marker_nodes k)
  unfolding changes_node applied_node change_node
  marker_cased k = All-cons IsCased changes_node (applied_node k ∷ change_node k ∷ []) tt (All-cons IsCased (applied_node k) (change_node k ∷ []) tt (All-cons IsCased (change_node k) [] tt (All-nil IsCased)))

  tree_cased : All IsCased (tree_of rows facts).nodes
  unfolding known_nodes
  tree_cased = All-append IsCased (known_nodes rows facts) (marker_nodes (length (known_nodes rows facts))) (all_cased (range_with_len 0 (length facts.nodes))) (marker_cased (length (known_nodes rows facts)))

-- ---- the law

at_cased : (count : ℕ) (nodes : List Node) → All (λ (n : Node). IfSome n.case_in (λ c. c < count)) nodes → (x c : ℕ) → case_at nodes x ≡ Some c → c < count
at_cased count [] all x c e = absurd (cc)
at_cased count (n ∷ nodes) all zero c e = subst (λ (o : Option ℕ). IfSome o (λ c. c < count)) e (all 0 n (omega arith))
at_cased count (n ∷ nodes) all (suc x) c e = at_cased count nodes (λ k d lt. all (suc k) d (omega (arith, lt))) x c e

of_outcome : (rows : List Row) (facts : Facts) (t : SchemaTree) → AreFacts rows facts → (f : Option Fault) → Ok t ≡ outcome rows facts f → (y c : ℕ) → case_at t.nodes y ≡ Some c → c < length t.cases
of_outcome rows facts t are (Some f) e = absurd (cc)
of_outcome rows facts t are None e =
    let same : tree_of rows facts ≡ t = cc in
    subst (λ (s : SchemaTree). (y c : ℕ) → case_at s.nodes y ≡ Some c → c < length s.cases) same (at_cased (length (tree_cases rows facts)) (tree_of rows facts).nodes (tree_cased rows facts are.nodes))

rows_cased : (rows : List Row) (t : SchemaTree) → AreBuilt rows (Ok t) → (x c : ℕ) → case_at t.nodes x ≡ Some c → c < length t.cases
unfolding built
rows_cased rows t b = of_outcome rows b.facts t b.facts_are (first_fault rows b.facts) b.given_is

-- the cases that nodes of a tree stand in are there
pub modules_cased : (modules : List Tree) (t : SchemaTree) → Builds modules (Ok t) → (x c : ℕ) → case_at t.nodes x ≡ Some c → c < length t.cases
modules_cased modules t b = rows_cased (rows_of modules) t b
