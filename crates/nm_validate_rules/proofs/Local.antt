-- The rules on values, keys, leafs, numbers of entries and choices: each hangs on the rows that it reads.
use Rattle.std.proofs.Common.{◌≡◌, ℕ, List, [], ◌∷◌, ◌++◌, length, take, Bool, true, false, not, ◌&&◌, ◌||◌, ◌==◌, Option, Some, None, is_some, if◌then◌else◌, slice_get, refl, sym, ap, ◌∙◌, inr}
use Rattle.std.proofs.lemmas.Option.{same_Some}
use Rattle.std.specs.Prelude.{suc, nat_lt}
use Rattle.std.specs.List.{range_with_len}
use Rattle.std.specs.FinMap.{contains_key, keys}
use Rattle.nm_schema_tree.specs.declared.choice.ChoiceNode.{ChoiceNode}
use Rattle.nm_schema_tree.specs.Nodes.{SchemaTree, case_at, elements_at}
use Rattle.nm_path.specs.Spelling.{node_of}
use Rattle.nm_config.specs.Rows.{Rows}
use Rattle.nm_config.specs.Under.{is_whole, is_under}
use Rattle.nm_validate_rules.specs.declared.rule.Rule.TheVariants.{ValueType, Key, Mandatory, MinElements, MaxElements, MandatoryChoice, OneCase}
use Rattle.nm_validate_rules.specs.Cases.{is_allowed}
use Rattle.nm_validate_rules.specs.Guards.{front, is_allowed_at, holds_below, holds_at, stands_from, stands}
use Rattle.nm_validate_rules.specs.Values.{is_same_path, count_at}
use Rattle.nm_validate_rules.specs.Violated.{fits_row, last_chosen, has_keys, is_mandatory_node, is_below, is_above, has_beside, has_too_few, has_too_many, is_choice_path, has_node, is_missing, Child, child_by, case_of_node, child_over, children_of, first_other, is_path_of, violated}
use Rattle.nm_validate_rules.proofs.Among.{Among, found_among, among_given}
use Rattle.nm_validate_rules.specs.Reads.{allowed_reads, beside_reads, choice_reads, holds_reads, stands_reads, is_counted, min_reads, max_reads, missing_reads, child_reads, reads}
use Rattle.nm_validate_rules.specs.Reaches.{AgreeOn}
use Rattle.nm_validate_rules.proofs.Lists.{and_never, not_true, contrary}
use Rattle.nm_validate_rules.proofs.Agreeing.{Path, path_is, left, right, any_agrees, value_agrees, row_agrees, count_agrees, given_keys_agree}
use Rattle.nm_validate_rules.proofs.Guarded.{allowed_agrees, beside_agrees, choice_agrees, holds_agrees, stands_agrees}

-- ---- what ends with an entry stands nowhere

closed_from : (t : SchemaTree) (rows : Rows) (holds : Bool) (above ss : Path) → is_whole (last_chosen ss) ≡ false → stands_from t rows holds above ss ≡ false
closed_from t rows holds above [] e = refl
closed_from t rows holds above (s ∷ []) e = ap (λ w. holds && (w && is_allowed_at t rows above (node_of t (above ++ s ∷ [])))) e ∙ and_never holds
closed_from t rows holds above (s ∷ r ∷ ss) e = closed_from t rows (holds_below t rows holds above s) (above ++ s ∷ []) (r ∷ ss) e

closed : (t : SchemaTree) (rows : Rows) (path : Path) → is_whole (last_chosen path) ≡ false → stands t rows path ≡ false
closed t rows path e = closed_from t rows true [] path e

none_is : {Y : Type 0} (o : Option Y) → is_some o ≡ false → o ≡ None
none_is None e = refl
none_is (Some y) e = absurd (cc)

-- the first child of another case is one of the children
pub first_among : (es : List Child) (e : Child) → first_other es ≡ Some e → Among es e
first_among [] e is = absurd (cc)
first_among (d ∷ ds) e is = inr (found_among (λ (c : Child). not (c.case_is == d.case_is)) ds e is)

module _ (t : SchemaTree) (one other : Rows) (path : Path) where
  -- ---- values and keys

  pub types_agree : AgreeOn (reads t ValueType path) one other → violated t one ValueType path ≡ violated t other ValueType path
  types_agree agree = ap (λ o. is_some o && not (fits_row t path o)) (value_agrees one other path agree)

  pub key_agrees : AgreeOn (reads t Key path) one other → violated t one Key path ≡ violated t other Key path
  key_agrees agree = ap (λ b. b && not (has_keys t.nodes (node_of t path) path)) (row_agrees one other path agree)

  -- ---- mandatory leafs

  mandatory_by : (m w : Bool) → is_whole (last_chosen path) ≡ w → AgreeOn (λ row. m && w && (is_same_path path row || stands_reads t path row)) one other
      → (m && stands t one path && not (contains_key one path)) ≡ (m && stands t other path && not (contains_key other path))
  mandatory_by false w is agree = refl
  mandatory_by true false is agree = ap (λ s. s && not (contains_key one path)) (closed t one path is) ∙ sym (ap (λ s. s && not (contains_key other path)) (closed t other path is))
  mandatory_by true true is agree =
      let there = row_agrees one other path (left one other (is_same_path path) (stands_reads t path) agree) in
      let stand = stands_agrees t one other path (right one other (is_same_path path) (stands_reads t path) agree) in
      λ i. stand i && not (there i)

  pub mandatory_agrees : AgreeOn (reads t Mandatory path) one other → violated t one Mandatory path ≡ violated t other Mandatory path
  mandatory_agrees agree = mandatory_by (is_mandatory_node t (node_of t path)) (is_whole (last_chosen path)) refl agree

  -- ---- numbers of entries

  counts_agree : AgreeOn (is_counted path) one other → count_at one path ≡ count_at other path
  counts_agree agree = count_agrees one other (is_counted path) (is_counted path) (λ row e. e) agree

  min_by : (x : ℕ) (min : Option ℕ) (w : Bool) → is_whole (last_chosen path) ≡ w
      → AgreeOn (λ row. is_some min && w && (stands_reads t path row || beside_reads t (front path) x (case_at t.nodes x) row || is_counted path row)) one other
      → (stands t one path && has_beside t one (front path) x (case_at t.nodes x) && is_below (count_at one path) min)
      ≡ (stands t other path && has_beside t other (front path) x (case_at t.nodes x) && is_below (count_at other path) min)
  min_by x None w is agree =
      and_never (stands t one path && has_beside t one (front path) x (case_at t.nodes x)) ∙ sym (and_never (stands t other path && has_beside t other (front path) x (case_at t.nodes x)))
  min_by x (Some min) false is agree =
      ap (λ s. s && has_beside t one (front path) x (case_at t.nodes x) && is_below (count_at one path) (Some min)) (closed t one path is)
      ∙ sym (ap (λ s. s && has_beside t other (front path) x (case_at t.nodes x) && is_below (count_at other path) (Some min)) (closed t other path is))
  min_by x (Some min) true is agree =
      let stand_reads = stands_reads t path in
      let beside = beside_reads t (front path) x (case_at t.nodes x) in
      let first = left one other (λ row. stands_reads t path row || beside_reads t (front path) x (case_at t.nodes x) row) (is_counted path) agree in
      let stand = stands_agrees t one other path (left one other (stands_reads t path) (beside_reads t (front path) x (case_at t.nodes x)) first) in
      let others = beside_agrees t one other (front path) x (case_at t.nodes x) (right one other (stands_reads t path) (beside_reads t (front path) x (case_at t.nodes x)) first) in
      let count = counts_agree (right one other (λ row. stands_reads t path row || beside_reads t (front path) x (case_at t.nodes x) row) (is_counted path) agree) in
      λ i. stand i && others i && is_below (count i) (Some min)

  few_agree : (o : Option ℕ) → AgreeOn (min_reads t path o) one other → has_too_few t one path o ≡ has_too_few t other path o
  few_agree None agree = refl
  few_agree (Some x) agree = min_by x (elements_at t.nodes x).min (is_whole (last_chosen path)) refl agree

  pub min_agrees : AgreeOn (reads t MinElements path) one other → violated t one MinElements path ≡ violated t other MinElements path
  min_agrees agree = few_agree (node_of t path) agree

  max_by : (max : Option ℕ) (w : Bool) → is_whole (last_chosen path) ≡ w → AgreeOn (λ row. is_some max && w && (stands_reads t path row || is_counted path row)) one other
      → (stands t one path && is_above (count_at one path) max) ≡ (stands t other path && is_above (count_at other path) max)
  max_by None w is agree = and_never (stands t one path) ∙ sym (and_never (stands t other path))
  max_by (Some max) false is agree =
      ap (λ s. s && is_above (count_at one path) (Some max)) (closed t one path is) ∙ sym (ap (λ s. s && is_above (count_at other path) (Some max)) (closed t other path is))
  max_by (Some max) true is agree =
      let stand = stands_agrees t one other path (left one other (stands_reads t path) (is_counted path) agree) in
      let count = counts_agree (right one other (stands_reads t path) (is_counted path) agree) in
      λ i. stand i && is_above (count i) (Some max)

  many_agree : (o : Option ℕ) → AgreeOn (max_reads t path o) one other → has_too_many t one path o ≡ has_too_many t other path o
  many_agree None agree = refl
  many_agree (Some x) agree = max_by (elements_at t.nodes x).max (is_whole (last_chosen path)) refl agree

  pub max_agrees : AgreeOn (reads t MaxElements path) one other → violated t one MaxElements path ≡ violated t other MaxElements path
  max_agrees agree = many_agree (node_of t path) agree

  -- ---- choices

  missing_by : (b : Bool) (at : ℕ) (case_in : Option ℕ) → AgreeOn (λ row. b && (holds_reads t (front path) row || allowed_reads t (front path) case_in row || choice_reads t (front path) at row)) one other
      → (b && holds_at t one (front path) && is_allowed t one (front path) case_in && not (has_node t one (front path) at))
      ≡ (b && holds_at t other (front path) && is_allowed t other (front path) case_in && not (has_node t other (front path) at))
  missing_by false at case_in agree = refl
  missing_by true at case_in agree =
      let first = left one other (λ row. holds_reads t (front path) row || allowed_reads t (front path) case_in row) (choice_reads t (front path) at) agree in
      let holds = holds_agrees t one other (front path) (left one other (holds_reads t (front path)) (allowed_reads t (front path) case_in) first) in
      let allowed = allowed_agrees t one other (front path) case_in (right one other (holds_reads t (front path)) (allowed_reads t (front path) case_in) first) in
      let node = choice_agrees t one other (front path) at (right one other (λ row. holds_reads t (front path) row || allowed_reads t (front path) case_in row) (choice_reads t (front path) at) agree) in
      λ i. holds i && allowed i && not (node i)

  missing_agrees : (at : ℕ) (o : Option ChoiceNode) → AgreeOn (missing_reads t path at o) one other → is_missing t one path at o ≡ is_missing t other path at o
  missing_agrees at None agree = refl
  missing_agrees at (Some k) agree = missing_by (k.mandatory && is_choice_path t k path) at k.case_in agree

  pub choice_agrees_at : AgreeOn (reads t MandatoryChoice path) one other → violated t one MandatoryChoice path ≡ violated t other MandatoryChoice path
  choice_agrees_at agree =
      any_agrees one other (λ k. is_missing t one path k (slice_get t.choices k)) (λ k. is_missing t other path k (slice_get t.choices k)) (λ k row. missing_reads t path k (slice_get t.choices k) row)
      (range_with_len 0 (length t.choices)) (λ k. missing_agrees k (slice_get t.choices k)) agree

  -- ---- cases of one choice

  case_by : (k : ℕ) (p : Path) (e : Child) (o : Option ℕ) → case_of_node t k (node_of t p) ≡ o → child_by p o ≡ Some e → is_some (case_of_node t k (node_of t e.path)) ≡ true
  case_by k p e None is given = absurd (cc)
  case_by k p e (Some c) is given =
      let same : p ≡ e.path = ap (λ (d : Child). d.path) (same_Some (record { path = p; case_is = c }) e given) in
      ap is_some (ap (λ (q : Path). case_of_node t k (node_of t q)) (sym same) ∙ is)

  case_if : (k : ℕ) (b : Bool) (p : Path) (e : Child) → (if b then child_by p (case_of_node t k (node_of t p)) else None) ≡ Some e → is_some (case_of_node t k (node_of t e.path)) ≡ true
  case_if k true p e given = case_by k p e (case_of_node t k (node_of t p)) refl given
  case_if k false p e given = absurd (cc)

  no_other : (es : List Child) → ((e : Child) → Among es e → is_same_path path e.path ≡ true → ⊥) → (o : Option Child) → first_other es ≡ o → is_path_of path o ≡ true → ⊥
  no_other es h None is e = cc
  no_other es h (Some c) is e = h c (first_among es c is) e

  -- a path that is no child of a choice isn't told for it
  no_child : (rows : Rows) (k : ℕ) → case_of_node t k (node_of t path) ≡ None → is_path_of path (first_other (children_of t rows k (front path))) ≡ false
  unfolding children_of
  no_child rows k none =
      let above = front path in
      not_true (is_path_of path (first_other (children_of t rows k (front path)))) (no_other (children_of t rows k (front path)) (λ e a same.
      let h = among_given (child_over t k above) (keys rows) e a in
      let child = case_if k (is_under above h.x && nat_lt (length above) (length h.x)) (take (suc (length above)) h.x) e h.gives in
      let at : is_some (case_of_node t k (node_of t e.path)) ≡ false = ap is_some (ap (λ (q : Path). case_of_node t k (node_of t q)) (sym (path_is path e.path same)) ∙ none) in
      contrary (is_some (case_of_node t k (node_of t e.path))) child at)
      (first_other (children_of t rows k (front path))) refl)

  children_agree : (k : ℕ) → AgreeOn (λ row. is_some (child_over t k (front path) row)) one other → children_of t one k (front path) ≡ children_of t other k (front path)
  unfolding children_of
  children_agree k agree = given_keys_agree one other (child_over t k (front path)) (λ row. is_some (child_over t k (front path) row)) (λ p e. none_is (child_over t k (front path) p) e) agree

  child_agrees : (k : ℕ) (o : Option ℕ) → case_of_node t k (node_of t path) ≡ o → AgreeOn (λ row. child_reads t k path row) one other
      → is_path_of path (first_other (children_of t one k (front path))) ≡ is_path_of path (first_other (children_of t other k (front path)))
  child_agrees k None is agree = no_child one k is ∙ sym (no_child other k is)
  child_agrees k (Some c) is agree =
      ap (λ (es : List Child). is_path_of path (first_other es)) (children_agree k (λ row e. agree row (ap (λ (o : Option ℕ). is_some o && is_some (child_over t k (front path) row)) is ∙ e)))

  pub cases_agree : AgreeOn (reads t OneCase path) one other → violated t one OneCase path ≡ violated t other OneCase path
  cases_agree agree =
      any_agrees one other (λ k. is_path_of path (first_other (children_of t one k (front path)))) (λ k. is_path_of path (first_other (children_of t other k (front path)))) (λ k row. child_reads t k path row)
      (range_with_len 0 (length t.choices)) (λ k. child_agrees k (case_of_node t k (node_of t path)) refl) agree
