-- Where two cases of a choice have nodes.
use Rattle.std.proofs.Common.{◌≡◌, ℕ, zero, suc, ◌-◌, ◌<◌, List, [], ◌∷◌, ◌++◌, take, length, Bool, true, false, not, ◌&&◌, ◌==◌, Option, Some, None, is_some, if◌then◌else◌, refl, sym, ap, ◌∙◌, subst, inl, inr, arith}
use Rattle.std.proofs.lemmas.Grind.{common_steps}
use Rattle.std.proofs.lemmas.Bool.Decides.{nat_tests}
use Rattle.std.specs.Prelude.{filter, nat_lt}
use Rattle.std.specs.List.{list_any, flat_map, range_with_len}
use Rattle.std.specs.FinMap.{keys}
use Rattle.nm_types.specs.Path.{PathStep}
use Rattle.nm_types.specs.PathLaws.{same_path_decides}
use Rattle.nm_schema_tree.specs.declared.node.Node.{Node}
use Rattle.nm_schema_tree.specs.Nodes.{SchemaTree, same_parent, parent_in, parent_of}
use Rattle.nm_schema_tree.specs.Levels.{IsTree}
use Rattle.nm_path.specs.Spelling.{node_of}
use Rattle.nm_config.specs.Rows.{Rows}
use Rattle.nm_config.specs.Under.{is_under}
use Rattle.nm_validate_rules.specs.declared.rule.Rule.TheVariants.{OneCase}
use Rattle.nm_validate_rules.specs.Cases.{numbers}
use Rattle.nm_validate_rules.specs.Guards.{front}
use Rattle.nm_validate_rules.specs.Values.{is_same_path}
use Rattle.nm_validate_rules.specs.Violated.{is_area_of, is_of_choice, Child, child_by, case_of_node, child_over, children_of, first_other, is_path_of, violated}
use Rattle.nm_validate_rules.specs.Violation.{fronts, least_of, least_at}
use Rattle.nm_validate_rules.proofs.Among.{Among, any_passes, both, found_among, among_filter, filter_passes, among_flat, among_given, among_numbers}
use Rattle.nm_validate_rules.proofs.Leading.{node_is, by_last}
use Rattle.nm_validate_rules.proofs.Areas.{ends}
use Rattle.nm_validate_rules.proofs.Looked.{get_within, looked}
use Rattle.nm_validate_rules.proofs.Placed.{any_at}
use Rattle.nm_validate_places.specs.Least.{least_with}
use Rattle.nm_validate_places.proofs.Choosing.{front_last}
use Rattle.nm_validate_places.proofs.Gathered.{flat_among, same_least}
use Rattle.nm_validate_places.proofs.Leasts.{filter_none, least_is_found}
use Rattle.nm_validate.specs.Places.{places_after}
use Rattle.nm_validate.specs.Others.{path_if_at, other_at, any_below, other_below, others_of}
use Rattle.nm_validate.proofs.Placed.{all_placed}

same_path : (p q : List PathStep) → is_same_path p q ≡ true → p ≡ q
same_path p q e = (same_path_decides p q (is_same_path p q) refl).0 e

path_same : (p q : List PathStep) → p ≡ q → is_same_path p q ≡ true
path_same p q e = (same_path_decides p q (is_same_path p q) refl).1 e

lower_by : (a b : ℕ) → nat_lt a b ≡ true → a < b
lower_by a b e = grind (arith, nat_tests)

same_number : (q : ℕ) → (q == q) ≡ true
same_number q = grind (arith, common_steps)

-- the path without its last step of the first steps of a path
front_take : (n : ℕ) (path : List PathStep) → n < length path → front (take (suc n) path) ≡ take n path
front_take n [] lt = absurd (omega (arith, lt))
front_take zero (s ∷ ss) lt = refl
front_take (suc n) (s ∷ []) lt = absurd (omega (arith, lt))
front_take (suc n) (s ∷ r ∷ ss) lt = ap (λ p. s ∷ p) (front_take n (r ∷ ss) (omega (arith, lt)))

module _ (t : SchemaTree) (rows : Rows) where
  -- ---- children

  -- a child of a choice at a place: the first steps of a row below it, which lead to a node that stands in the choice
  record IsChild (k : ℕ) (above : List PathStep) (e : Child) : Type 0 where
    row : List PathStep
    among : Among (keys rows) row
    long : length above < length row
    path_is : e.path ≡ take (suc (length above)) row
    case_is : case_of_node t k (node_of t e.path) ≡ Some e.case_is

  child_is : (k : ℕ) (path : List PathStep) (o : Option ℕ) (e : Child) → case_of_node t k (node_of t path) ≡ o → child_by path o ≡ Some e → (e.path ≡ path) × (case_of_node t k (node_of t e.path) ≡ Some e.case_is)
  child_is k path None e at is = absurd (cc)
  child_is k path (Some c) e at is =
      let made : Child = record { path = path; case_is = c } in
      let same : made ≡ e = cc in
      let path_is : path ≡ e.path = ap (λ (x : Child). x.path) same in
      (sym path_is, ap (λ (p : List PathStep). case_of_node t k (node_of t p)) (sym path_is) ∙ at ∙ ap (λ (x : Child). Some x.case_is) same)

  child_row : (b : Bool) (k : ℕ) (above row : List PathStep) (e : Child) → (is_under above row && nat_lt (length above) (length row)) ≡ b → Among (keys rows) row
      → (if b then child_by (take (suc (length above)) row) (case_of_node t k (node_of t (take (suc (length above)) row))) else None) ≡ Some e → IsChild k above e
  child_row true k above row e test a is =
      let h = child_is k (take (suc (length above)) row) (case_of_node t k (node_of t (take (suc (length above)) row))) e refl is in
      record { row = row; among = a; long = lower_by (length above) (length row) (both (is_under above row) (nat_lt (length above) (length row)) test).1; path_is = h.0; case_is = h.1 }
  child_row false k above row e test a is = absurd (cc)

  other_among : (es : List Child) (e : Child) → first_other es ≡ Some e → Among es e
  other_among [] e is = absurd (cc)
  other_among (c ∷ cs) e is = inr (found_among (λ other. not (other.case_is == c.case_is)) cs e is)

  other_is : (k : ℕ) (above : List PathStep) (e : Child) → first_other (children_of t rows k above) ≡ Some e → IsChild k above e
  unfolding children_of
  other_is k above e is =
      let h = among_given (child_over t k above) (keys rows) e (other_among (children_of t rows k above) e is) in
      child_row (is_under above h.x && nat_lt (length above) (length h.x)) k above h.x e refl h.among h.gives

  -- ---- the node that a child leads to

  parent_by : (o : Option ℕ) (above : List PathStep) → is_area_of t o above ≡ true → same_parent o (node_of t above) ≡ true
  unfolding node_of
  parent_by None [] e = refl
  parent_by None (s ∷ ss) e = absurd (cc)
  parent_by (Some q) above e = ap (same_parent (Some q)) (node_is q (node_of t above) e) ∙ same_number q

  below_by : (k : ℕ) (above path : List PathStep) (s : PathStep) (o : Option ℕ) (c : ℕ) → path ≡ above ++ s ∷ [] → node_of t path ≡ o → case_of_node t k o ≡ Some c
      → any_below t (filter (is_of_choice t k) (numbers t.nodes)) above ≡ true
  below_by k above path s None c is at of = absurd (cc)
  below_by k above path s (Some x) c is at of =
      let leads = by_last t above s x (ap (node_of t) (sym is) ∙ at) in
      let parent : same_parent (parent_of t.nodes x) (node_of t above) ≡ true =
      ap (λ (n : Option Node). same_parent (parent_in n) (node_of t above)) leads.there ∙ parent_by leads.node.parent above leads.area in
      any_at (λ y. same_parent (parent_of t.nodes y) (node_of t above)) (filter (is_of_choice t k) (numbers t.nodes)) x
      (among_filter (is_of_choice t k) (numbers t.nodes) x (among_numbers (length t.nodes) x (get_within t.nodes x leads.node leads.there)) (ap is_some of)) parent

  by_end : (path : List PathStep) → 0 < length path → (s : PathStep) × (path ≡ front path ++ s ∷ [])
  by_end [] lt = absurd (omega (arith, lt))
  by_end (s ∷ ss) lt =
      let e = ends s ss in
      (e.step, e.is ∙ ap (λ (p : List PathStep). p ++ e.step ∷ []) (sym (ap front e.is ∙ front_last e.above e.step)))

  take_some : (n : ℕ) (row : List PathStep) → n < length row → 0 < length (take (suc n) row)
  take_some n [] lt = absurd (omega (arith, lt))
  take_some n (s ∷ ss) lt = omega arith

  -- where a child stands directly below a place, a node of its choice stands below what the place leads to
  child_below : (k : ℕ) (above : List PathStep) (e : Child) → IsChild k above e → front e.path ≡ above → any_below t (filter (is_of_choice t k) (numbers t.nodes)) above ≡ true
  child_below k above e h at =
      let last = by_end e.path (subst (λ (p : List PathStep). 0 < length p) (sym h.path_is) (take_some (length above) h.row h.long)) in
      below_by k above e.path last.0 (node_of t e.path) e.case_is (last.1 ∙ ap (λ (p : List PathStep). p ++ last.0 ∷ []) at) refl h.case_is

  contrary : true ≡ false → ⊥
  contrary e = cc

  none_at : (k : ℕ) (above : List PathStep) (o : Option Child) → first_other (children_of t rows k above) ≡ o → any_below t (filter (is_of_choice t k) (numbers t.nodes)) above ≡ false → path_if_at above o ≡ []
  none_at k above None is out = refl
  none_at k above (Some e) is out = by (is_same_path (front e.path) above) refl
    where
      by : (b : Bool) → is_same_path (front e.path) above ≡ b → (if b then e.path ∷ [] else []) ≡ []
      by true same = absurd (contrary (sym (child_below k above e (other_is k above e is) (same_path (front e.path) above same)) ∙ out))
      by false same = refl

  -- where no node of a choice may stand below a place, it has no child there
  below_is : (k : ℕ) (above : List PathStep) → other_below t rows k (filter (is_of_choice t k) (numbers t.nodes)) above ≡ other_at t rows k above
  below_is k above = by (any_below t (filter (is_of_choice t k) (numbers t.nodes)) above) refl
    where
      by : (b : Bool) → any_below t (filter (is_of_choice t k) (numbers t.nodes)) above ≡ b → (if b then other_at t rows k above else []) ≡ other_at t rows k above
      by true e = refl
      by false e = sym (none_at k above (first_other (children_of t rows k above)) refl e)

  pub all_below : (k : ℕ) (nodes : List ℕ) → nodes ≡ filter (is_of_choice t k) (numbers t.nodes) → (places : List (List PathStep)) → flat_map (other_below t rows k nodes) places ≡ others_of t rows k places
  all_below k nodes is [] = refl
  all_below k nodes is (above ∷ places) =
      ap (λ l. l ++ flat_map (other_below t rows k nodes) places) (ap (λ ns. other_below t rows k ns above) is ∙ below_is k above) ∙ ap (λ l. other_at t rows k above ++ l) (all_below k nodes is places)

  -- ---- what is found is where the rule is violated

  -- the first child of another case, which stands directly below a place
  record IsOther (k : ℕ) (above path : List PathStep) : Type 0 where
    child : Child
    is : first_other (children_of t rows k above) ≡ Some child
    path_is : path ≡ child.path
    at : front child.path ≡ above

  other_by : (k : ℕ) (above : List PathStep) (o : Option Child) → first_other (children_of t rows k above) ≡ o → (path : List PathStep) → Among (path_if_at above o) path → IsOther k above path
  other_by k above None is path a = absurd a
  other_by k above (Some e) is path a = by (is_same_path (front e.path) above) refl a
    where
      by : (b : Bool) → is_same_path (front e.path) above ≡ b → Among (if b then e.path ∷ [] else []) path → IsOther k above path
      by true same (inl here) = record { child = e; is = is; path_is = here; at = same_path (front e.path) above same }
      by true same (inr more) = absurd more
      by false same more = absurd more

  other_violated : (k : ℕ) (above path : List PathStep) → Among (range_with_len 0 (length t.choices)) k → IsOther k above path → violated t rows OneCase path ≡ true
  other_violated k above path among h =
      any_at (λ c. is_path_of path (first_other (children_of t rows c (front path)))) (range_with_len 0 (length t.choices)) k among
      (ap (λ (p : List PathStep). is_path_of path (first_other (children_of t rows k p))) (ap front h.path_is ∙ h.at) ∙ ap (is_path_of path) h.is ∙ path_same path h.child.path h.path_is)

  to_violated : IsTree t.nodes → (places : List (List PathStep)) (path : List PathStep) → Among (flat_map (λ k. others_of t rows k places) (range_with_len 0 (length t.choices))) path
      → Among (filter (violated t rows OneCase) (fronts rows)) path
  to_violated tree places path a =
      let g = flat_among (λ k. others_of t rows k places) (range_with_len 0 (length t.choices)) path a in
      let f = flat_among (other_at t rows g.x) places path g.within in
      let v = other_violated g.x f.x path g.among (other_by g.x f.x (first_other (children_of t rows g.x f.x)) refl path f.within) in
      among_filter (violated t rows OneCase) (fronts rows) path (looked t rows tree OneCase path v) v

  -- ---- where the rule is violated is found

  here_by : (k : ℕ) (path : List PathStep) (o : Option Child) → first_other (children_of t rows k (front path)) ≡ o → is_path_of path o ≡ true
      → Among (path_if_at (front path) o) path × Among (places_after [] (keys rows)) (front path)
  here_by k path None is e = absurd (cc)
  here_by k path (Some c) is e =
      let same = same_path path c.path e in
      let h = other_is k (front path) c is in
      let at : front path ≡ take (length (front path)) h.row = ap front (same ∙ h.path_is) ∙ front_take (length (front path)) h.row h.long in (
        subst (λ (b : Bool). Among (if b then c.path ∷ [] else []) path) (sym (path_same (front c.path) (front path) (ap front (sym same)))) (inl same),
        subst (λ (p : List PathStep). Among (places_after [] (keys rows)) p) (sym at) (all_placed (keys rows) h.row h.among (length (front path)) h.long),
      )

  from_violated : (path : List PathStep) → Among (filter (violated t rows OneCase) (fronts rows)) path → Among (flat_map (λ k. others_of t rows k (places_after [] (keys rows))) (range_with_len 0 (length t.choices))) path
  from_violated path a =
      let v = filter_passes (violated t rows OneCase) (fronts rows) path a in
      let h = any_passes (λ k. is_path_of path (first_other (children_of t rows k (front path)))) (range_with_len 0 (length t.choices)) v in
      let here = here_by h.x path (first_other (children_of t rows h.x (front path))) refl h.passes in
      among_flat (λ k. others_of t rows k (places_after [] (keys rows))) (range_with_len 0 (length t.choices)) h.x path h.among
      (among_flat (other_at t rows h.x) (places_after [] (keys rows)) (front path) path here.1 here.0)

  -- ---- all choices

  all_found : IsTree t.nodes → least_with None (flat_map (λ k. others_of t rows k (places_after [] (keys rows))) (range_with_len 0 (length t.choices))) ≡ least_at t rows OneCase
  unfolding least_at
  all_found tree =
      let found = flat_map (λ k. others_of t rows k (places_after [] (keys rows))) (range_with_len 0 (length t.choices)) in
      least_is_found found ∙ same_least found (filter (violated t rows OneCase) (fronts rows)) (to_violated tree (places_after [] (keys rows))) from_violated

  -- once all choices are looked at, what is found is the least
  pub all_choices : IsTree t.nodes → (places : List (List PathStep)) → places ≡ places_after [] (keys rows) → (i : ℕ) (found : Option (List PathStep)) → length t.choices - i ≡ 0
      → least_with found (flat_map (λ k. others_of t rows k places) (range_with_len i (length t.choices - i))) ≡ least_with None (flat_map (λ k. others_of t rows k places) (range_with_len 0 (length t.choices)))
      → found ≡ least_at t rows OneCase
  all_choices tree places is i found done h =
      ap (λ (n : ℕ). least_with found (flat_map (λ k. others_of t rows k places) (range_with_len i n))) (sym done) ∙ h
      ∙ ap (λ ps. least_with None (flat_map (λ k. others_of t rows k ps) (range_with_len 0 (length t.choices)))) is ∙ all_found tree

  -- without choices there is none
  pub no_choices : length t.choices ≡ 0 → least_at t rows OneCase ≡ None
  unfolding least_at
  no_choices e =
      ap least_of (filter_none (violated t rows OneCase) (fronts rows) (λ path a. ap (λ (n : ℕ). list_any (λ k. is_path_of path (first_other (children_of t rows k (front path)))) (range_with_len 0 n)) e))
