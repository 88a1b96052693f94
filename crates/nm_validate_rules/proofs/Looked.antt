-- Where a rule is violated is among the paths that are looked at for it.
use Rattle.std.proofs.Common.{◌≡◌, ℕ, zero, suc, ◌<◌, List, [], ◌∷◌, ◌++◌, map, take, length, Bool, true, false, not, ◌&&◌, ◌==◌, Option, Some, None, is_some, if◌then◌else◌, slice_get, refl, sym, ap, ◌∙◌, subst, inr, arith}
use Rattle.std.proofs.lemmas.Bool.Decides.{nat_tests}
use Rattle.std.proofs.lemmas.Option.{none-some}
use Rattle.std.specs.Prelude.{filter, nat_lt}
use Rattle.std.specs.List.{list_any, flat_map, range_with_len}
use Rattle.std.specs.FinMap.{get, contains_key, keys}
use Rattle.nm_types.specs.declared.value.Value.{Value}
use Rattle.nm_types.specs.Path.{PathStep}
use Rattle.nm_types.specs.PathLaws.{same_path_decides}
use Rattle.nm_schema_tree.specs.declared.choice.ChoiceNode.{ChoiceNode}
use Rattle.nm_schema_tree.specs.Nodes.{SchemaTree, is_mandatory_at, elements_at, case_at}
use Rattle.nm_schema_tree.specs.Levels.{IsTree}
use Rattle.nm_path.specs.Spelling.{node_of}
use Rattle.nm_config.specs.Rows.{Rows}
use Rattle.nm_config.specs.Under.{is_under}
use Rattle.nm_validate_rules.specs.declared.rule.Rule.{Rule}
use Rattle.nm_validate_rules.specs.declared.rule.Rule.TheVariants.{ValueType, Key, Mandatory, Leafref, Unique, MinElements, MaxElements, MandatoryChoice, OneCase}
use Rattle.nm_validate_rules.specs.Cases.{numbers, is_allowed}
use Rattle.nm_validate_rules.specs.Guards.{front, stands, holds_at}
use Rattle.nm_validate_rules.specs.Places.{areas, places, choice_step, choice_places, choice_places_of}
use Rattle.nm_validate_rules.specs.Values.{claims_by, is_reached, unique_values, is_repeated, is_same_path, count_at}
use Rattle.nm_validate_rules.specs.Violated.{fits_row, has_keys, is_mandatory_node, uniques_of_node, is_below, is_above, has_beside, wants_elements, has_too_few, has_too_many, is_area_of, has_node, is_choice_path, is_missing, Child, child_by, case_of_node, child_over, children_of, first_other, is_path_of, violated}
use Rattle.nm_validate_rules.specs.Violation.{fronts, looked_at}
use Rattle.nm_validate_rules.proofs.Among.{Among, any_passes, found_among, both, among_filter, among_map, among_flat, among_numbers, among_given}
use Rattle.nm_validate_rules.proofs.Leading.{by_last}
use Rattle.nm_validate_rules.proofs.Areas.{key_among, ends, among_areas, among_places}

pub get_within : {X : Type 0} (xs : List X) (i : ℕ) (x : X) → slice_get xs i ≡ Some x → i < length xs
get_within [] i x e = absurd (none-some x e)
get_within (y ∷ ys) zero x e = omega arith
get_within (y ∷ ys) (suc i) x e = let h = get_within ys i x e in omega (arith, h)

same_path : (p q : List PathStep) → is_same_path p q ≡ true → p ≡ q
same_path p q e = (same_path_decides p q (is_same_path p q) refl).0 e

some_is : {X : Type 0} (a b : X) → ◌≡◌ {A = Option X} (Some a) (Some b) → a ≡ b
some_is a b e = cc

module _ (t : SchemaTree) (rows : Rows) where
  -- ---- rows

  row_by : (o : Option Value) (path : List PathStep) → list_any (λ claim. not (is_reached t rows claim)) (claims_by t path o) ≡ true → is_some o ≡ true
  row_by None path e = absurd (cc)
  row_by (Some v) path e = refl

  -- ---- places of nodes

  known : (x : ℕ) (path : List PathStep) → node_of t path ≡ Some x → (s : PathStep) (ss : List PathStep) → path ≡ s ∷ ss → x < length t.nodes
  known x path at s ss is =
      let e = ends s ss in
      let leads = by_last t e.above e.step x (ap (node_of t) (sym (is ∙ e.is)) ∙ at) in
      get_within t.nodes x leads.node leads.there

  nowhere : stands t rows [] ≡ true → ⊥
  nowhere e = cc

  in_places : IsTree t.nodes → (x : ℕ) (path : List PathStep) → node_of t path ≡ Some x → stands t rows path ≡ true → Among (flat_map (places t rows) (numbers t.nodes)) path
  in_places tree x [] at there = absurd (nowhere there)
  in_places tree x (s ∷ ss) at there =
      among_flat (places t rows) (numbers t.nodes) x (s ∷ ss) (among_numbers (length t.nodes) x (known x (s ∷ ss) at s ss refl)) (among_places t rows tree x (s ∷ ss) at there)

  mandatory : IsTree t.nodes → (o : Option ℕ) (path : List PathStep) → node_of t path ≡ o → (is_mandatory_node t o && stands t rows path && not (contains_key rows path)) ≡ true
      → Among (flat_map (places t rows) (numbers t.nodes)) path
  mandatory tree None path at e = absurd (cc)
  mandatory tree (Some x) path at e =
      let h = both (is_mandatory_at t.nodes x && stands t rows path) (not (contains_key rows path)) e in
      in_places tree x path at (both (is_mandatory_at t.nodes x) (stands t rows path) h.0).1

  too_few : IsTree t.nodes → (o : Option ℕ) (path : List PathStep) → node_of t path ≡ o → has_too_few t rows path o ≡ true → Among (flat_map (places t rows) (numbers t.nodes)) path
  too_few tree None path at e = absurd (cc)
  too_few tree (Some x) path at e =
      let h = both (wants_elements t rows path x) (is_below (count_at rows path) (elements_at t.nodes x).min) e in
      in_places tree x path at (both (stands t rows path) (has_beside t rows (front path) x (case_at t.nodes x)) h.0).0

  too_many : IsTree t.nodes → (o : Option ℕ) (path : List PathStep) → node_of t path ≡ o → has_too_many t rows path o ≡ true → Among (flat_map (places t rows) (numbers t.nodes)) path
  too_many tree None path at e = absurd (cc)
  too_many tree (Some x) path at e = in_places tree x path at (both (stands t rows path) (is_above (count_at rows path) (elements_at t.nodes x).max) e).0

  -- ---- places of choices

  choice_by : IsTree t.nodes → (path : List PathStep) (at : ℕ) (o : Option ChoiceNode) → slice_get t.choices at ≡ o → is_missing t rows path at o ≡ true → Among (choice_places t rows at) path
  unfolding choice_places
  choice_by tree path at None there e = absurd (cc)
  choice_by tree path at (Some k) there e =
      let a = both (k.mandatory && is_choice_path t k path && holds_at t rows (front path) && is_allowed t rows (front path) k.case_in) (not (has_node t rows (front path) at)) e in
      let b = both (k.mandatory && is_choice_path t k path && holds_at t rows (front path)) (is_allowed t rows (front path) k.case_in) a.0 in
      let c = both (k.mandatory && is_choice_path t k path) (holds_at t rows (front path)) b.0 in
      let d = both k.mandatory (is_choice_path t k path) c.0 in
      let p = both (is_same_path path (front path ++ choice_step k ∷ [])) (is_area_of t k.parent (front path)) d.1 in
      let allowed = λ (above : List PathStep). is_allowed t rows above k.case_in in
      let kept = among_filter allowed (areas t rows k.parent) (front path) (among_areas t rows tree k.parent (front path) p.1 c.1) b.1 in
      let put = among_map (λ (above : List PathStep). above ++ choice_step k ∷ []) (filter allowed (areas t rows k.parent)) (front path) kept in
      subst (λ o. Among (choice_places_of t rows o) path) (sym there)
      (subst (λ q. Among (choice_places_of t rows (Some k)) q) (sym (same_path path (front path ++ choice_step k ∷ []) p.0)) put)

  choice_missing : IsTree t.nodes → (path : List PathStep) → list_any (λ k. is_missing t rows path k (slice_get t.choices k)) (range_with_len 0 (length t.choices)) ≡ true
      → Among (flat_map (choice_places t rows) (range_with_len 0 (length t.choices))) path
  choice_missing tree path e =
      let h = any_passes (λ k. is_missing t rows path k (slice_get t.choices k)) (range_with_len 0 (length t.choices)) e in
      among_flat (choice_places t rows) (range_with_len 0 (length t.choices)) h.x path h.among (choice_by tree path h.x (slice_get t.choices h.x) refl h.passes)

  -- ---- children

  begins_row : (path r : List PathStep) (n : ℕ) → Among (keys rows) r → n < length r → path ≡ take (suc n) r → Among (fronts rows) path
  begins_row path r n a lt is =
      among_flat (λ row. map (λ k. take (suc k) row) (range_with_len 0 (length row))) (keys rows) r path a
      (subst (λ q. Among (map (λ k. take (suc k) r) (range_with_len 0 (length r))) q) (sym is) (among_map (λ k. take (suc k) r) (range_with_len 0 (length r)) n (among_numbers (length r) n lt)))

  child_is : (path : List PathStep) (o : Option ℕ) (e : Child) → child_by path o ≡ Some e → e.path ≡ path
  child_is path None e is = absurd (cc)
  child_is path (Some c) e is =
      let made : Child = record { path = path; case_is = c } in
      let same : made ≡ e = cc in
      ap (λ (x : Child). x.path) (sym same)

  child_row : (b : Bool) (k : ℕ) (above r : List PathStep) (e : Child) → (if b then child_by (take (suc (length above)) r) (case_of_node t k (node_of t (take (suc (length above)) r))) else None) ≡ Some e
      → (b ≡ true) × (e.path ≡ take (suc (length above)) r)
  child_row true k above r e is = (refl, child_is (take (suc (length above)) r) (case_of_node t k (node_of t (take (suc (length above)) r))) e is)
  child_row false k above r e is = absurd (cc)

  below_length : (a b : ℕ) → nat_lt a b ≡ true → a < b
  below_length a b e = grind (arith, nat_tests)

  child_looked : (k : ℕ) (above : List PathStep) (e : Child) → Among (children_of t rows k above) e → Among (fronts rows) e.path
  unfolding children_of
  child_looked k above e a =
      let h = among_given (child_over t k above) (keys rows) e a in
      let c = child_row (is_under above h.x && nat_lt (length above) (length h.x)) k above h.x e h.gives in
      begins_row e.path h.x (length above) h.among (below_length (length above) (length h.x) (both (is_under above h.x) (nat_lt (length above) (length h.x)) c.0).1) c.1

  other_among : (es : List Child) (e : Child) → first_other es ≡ Some e → Among es e
  other_among [] e is = absurd (cc)
  other_among (c ∷ cs) e is = inr (found_among (λ other. not (other.case_is == c.case_is)) cs e is)

  child_by_path : (path : List PathStep) (k : ℕ) (above : List PathStep) (o : Option Child) → first_other (children_of t rows k above) ≡ o → is_path_of path o ≡ true → Among (fronts rows) path
  child_by_path path k above None is e = absurd (cc)
  child_by_path path k above (Some c) is e =
      subst (λ q. Among (fronts rows) q) (sym (same_path path c.path e)) (child_looked k above c (other_among (children_of t rows k above) c is))

  two_cases : (path : List PathStep) → list_any (λ k. is_path_of path (first_other (children_of t rows k (front path)))) (range_with_len 0 (length t.choices)) ≡ true → Among (fronts rows) path
  two_cases path e =
      let h = any_passes (λ k. is_path_of path (first_other (children_of t rows k (front path)))) (range_with_len 0 (length t.choices)) e in
      child_by_path path h.x (front path) (first_other (children_of t rows h.x (front path))) refl h.passes

  -- ---- each rule

  pub looked : IsTree t.nodes → (rule : Rule) (path : List PathStep) → violated t rows rule path ≡ true → Among (looked_at t rows rule) path
  looked tree ValueType path e = key_among rows path (both (contains_key rows path) (not (fits_row t path (get rows path))) e).0
  looked tree Key path e = key_among rows path (both (contains_key rows path) (not (has_keys t.nodes (node_of t path) path)) e).0
  looked tree Mandatory path e = mandatory tree (node_of t path) path refl e
  looked tree Leafref path e = key_among rows path (row_by (get rows path) path e)
  looked tree Unique path e =
      key_among rows path (both (contains_key rows path) (list_any (λ leafs. is_repeated t rows path leafs (unique_values t rows path leafs)) (uniques_of_node t (node_of t path))) e).0
  looked tree MinElements path e = too_few tree (node_of t path) path refl e
  looked tree MaxElements path e = too_many tree (node_of t path) path refl e
  looked tree MandatoryChoice path e = choice_missing tree path e
  looked tree OneCase path e = two_cases path e
