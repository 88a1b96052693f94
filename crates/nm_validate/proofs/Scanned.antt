-- The children of a choice at a place, come to one after another in path order.
use Rattle.std.proofs.Common.{◌≡◌, ℕ, suc, List, [], ◌∷◌, length, take, Bool, true, false, cond, not, ◌&&◌, ◌==◌, Option, Some, None, if◌then◌else◌, refl, sym, ap, ◌∙◌, subst, arith}
use Rattle.std.proofs.lemmas.Grind.{common_steps}
use Rattle.std.proofs.lemmas.Bool.Decides.{nat_tests}
use Rattle.std.specs.Prelude.{nat_lt}
use Rattle.std.specs.List.{filter_map, cons_option, find}
use Rattle.std.specs.Ordering.{is_lt, is_gt}
use Rattle.std.specs.FinMap.{keys}
use Rattle.std.specs.declared.cmp.Ordering.{Ordering}
use Rattle.std.specs.declared.cmp.Ordering.TheVariants.{Less, Equal, Greater}
use Rattle.nm_types.specs.Path.{PathStep, path_cmp}
use Rattle.nm_types.specs.PathLaws.{path_cmp-IsAntisymmetric}
use Rattle.nm_schema_tree.specs.Nodes.{SchemaTree}
use Rattle.nm_path.specs.Spelling.{node_of}
use Rattle.nm_config.specs.Rows.{Rows, next_path}
use Rattle.nm_config.specs.Under.{is_under}
use Rattle.nm_config.proofs.Contiguous.{under-later, under-between}
use Rattle.nm_validate_rules.specs.Violated.{Child, child_by, case_of_node, child_over, children_of, first_other}
use Rattle.nm_validate_places.specs.Counts.{behind}
use Rattle.nm_validate_places.proofs.Counting.{IsBehind, from_first, from_next, in_order}
use Rattle.nm_validate.specs.Others.{is_other, first_case, other_from}

-- ---- the first child of another case, once one child more was come to

pub other_here : (first : Option ℕ) (child : Option Child) (es : List Child) → is_other first child ≡ true → other_from first (cons_option child es) ≡ child
other_here None child es h = absurd (cc)
other_here (Some c) None es h = absurd (cc)
other_here (Some c) (Some e) es h = ap (λ b. cond b (Some e) (find (λ (other : Child). not (other.case_is == c)) es)) h

pub other_later : (first : Option ℕ) (child : Option Child) (es : List Child) → is_other first child ≡ false → other_from first (cons_option child es) ≡ other_from (first_case first child) es
other_later None None es h = refl
other_later None (Some e) es h = refl
other_later (Some c) None es h = refl
other_later (Some c) (Some e) es h = ap (λ b. cond b (Some e) (find (λ (other : Child). not (other.case_is == c)) es)) h

pub other_none : (first : Option ℕ) (es : List Child) → es ≡ [] → other_from first es ≡ None
other_none None es e = ap first_other e
other_none (Some c) es e = ap (find (λ (other : Child). not (other.case_is == c))) e

-- ---- rows that aren't over a child

never : (b : Bool) → (b && false) ≡ false
never true = refl
never false = refl

not_less : (n : ℕ) → nat_lt n n ≡ false
not_less n = grind (arith, common_steps, nat_tests)

module _ (t : SchemaTree) (k : ℕ) (above : List PathStep) where
  abbrev child_if : Bool → List PathStep → Option Child
  child_if b path = if b then child_by (take (suc (length above)) path) (case_of_node t k (node_of t (take (suc (length above)) path))) else None

  outside : (path : List PathStep) → is_under above path ≡ false → child_over t k above path ≡ None
  outside path e = ap (λ b. child_if (b && nat_lt (length above) (length path)) path) e

  itself : child_over t k above above ≡ None
  itself = ap (λ b. child_if (is_under above above && b) above) (not_less (length above)) ∙ ap (λ b. child_if b above) (never (is_under above above))

  before : (path : List PathStep) → path_cmp above path ≡ Greater → is_under above path ≡ false
  before path e = by (is_under above path) refl
    where
      by : (b : Bool) → is_under above path ≡ b → is_under above path ≡ false
      by false h = h
      by true h = let g = under-later above path h in let f : is_gt (path_cmp above path) ≡ true = ap is_gt e in absurd (cc)

  not_gt : (r : Ordering) → is_lt r ≡ true → is_gt r ≡ false
  not_gt Less h = refl
  not_gt Equal h = refl
  not_gt Greater h = absurd (cc)

  beyond : (n path : List PathStep) → path_cmp above n ≡ Less → is_under above n ≡ false → is_lt (path_cmp n path) ≡ true → is_under above path ≡ false
  beyond n path e out later = by (is_under above path) refl
    where
      by : (b : Bool) → is_under above path ≡ b → is_under above path ≡ false
      by false h = h
      by true h = let g = under-between above n path h (ap is_gt e) (not_gt (path_cmp n path) later) in absurd (cc)

  passes : (path : List PathStep) (ks : List (List PathStep)) → child_over t k above path ≡ None → filter_map (child_over t k above) (path ∷ ks) ≡ filter_map (child_over t k above) ks
  passes path ks e = ap (λ o. cons_option o (filter_map (child_over t k above) ks)) e

  -- all children stand behind their place
  from_behind : (ks : List (List PathStep)) → filter_map (child_over t k above) ks ≡ filter_map (child_over t k above) (behind above ks)
  from_behind [] = refl
  from_behind (path ∷ ks) = by (path_cmp above path) refl (from_behind ks)
    where
      dropped : is_lt (path_cmp above path) ≡ false → child_over t k above path ≡ None → filter_map (child_over t k above) ks ≡ filter_map (child_over t k above) (behind above ks)
          → filter_map (child_over t k above) (path ∷ ks) ≡ filter_map (child_over t k above) (behind above (path ∷ ks))
      dropped f none rest = passes path ks none ∙ rest ∙ sym (ap (λ b. filter_map (child_over t k above) (cond b (path ∷ behind above ks) (behind above ks))) f)

      by : (r : Ordering) → path_cmp above path ≡ r → filter_map (child_over t k above) ks ≡ filter_map (child_over t k above) (behind above ks)
          → filter_map (child_over t k above) (path ∷ ks) ≡ filter_map (child_over t k above) (behind above (path ∷ ks))
      by Less e rest =
          ap (cons_option (child_over t k above path)) rest ∙ sym (ap (λ r. filter_map (child_over t k above) (cond (is_lt r) (path ∷ behind above ks) (behind above ks))) e)
      by Equal e rest = dropped (ap is_lt e) (ap (child_over t k above) (sym (path_cmp-IsAntisymmetric above path e)) ∙ itself) rest
      by Greater e rest = dropped (ap is_lt e) (outside path (before path e)) rest

  none_beyond : (n : List PathStep) (ks : List (List PathStep)) → path_cmp above n ≡ Less → is_under above n ≡ false → filter_map (child_over t k above) (behind n ks) ≡ []
  none_beyond n [] e out = refl
  none_beyond n (path ∷ ks) e out = by (is_lt (path_cmp n path)) refl (none_beyond n ks e out)
    where
      by : (b : Bool) → is_lt (path_cmp n path) ≡ b → filter_map (child_over t k above) (behind n ks) ≡ [] → filter_map (child_over t k above) (behind n (path ∷ ks)) ≡ []
      by true h rest =
          ap (λ b. filter_map (child_over t k above) (cond b (path ∷ behind n ks) (behind n ks))) h ∙ passes path (behind n ks) (outside path (beyond n path e out h)) ∙ rest
      by false h rest = ap (λ b. filter_map (child_over t k above) (cond b (path ∷ behind n ks) (behind n ks))) h ∙ rest

  -- ---- a walk along the rows behind a place

  -- the children that are to come on a walk that has come to a path
  abbrev pub to_come : Rows → Option (List PathStep) → List Child
  to_come rows at = filter_map (child_over t k above) (from_first (keys rows) at)

  pub at_start : (rows : Rows) → to_come rows (next_path rows above) ≡ children_of t rows k above
  unfolding children_of
  at_start rows = ap (filter_map (child_over t k above)) (from_next above (keys rows) (in_order rows)) ∙ sym (from_behind (keys rows))

  pub next_come : (rows : Rows) (n : List PathStep) → to_come rows (Some n) ≡ cons_option (child_over t k above n) (to_come rows (next_path rows n))
  next_come rows n = ap (λ l. cons_option (child_over t k above n) (filter_map (child_over t k above) l)) (sym (from_next n (keys rows) (in_order rows)))

  -- once a path isn't below the place, no children are to come
  pub none_come : (rows : Rows) (n : List PathStep) (at : Option (List PathStep)) → at ≡ Some n → IsBehind above at → is_under above n ≡ false → to_come rows at ≡ []
  none_come rows n at is h out =
      let behind_it : path_cmp above n ≡ Less = subst (IsBehind above) is h in
      ap (to_come rows) is ∙ passes n (behind n (keys rows)) (outside n out) ∙ none_beyond n (keys rows) behind_it out

module _ (t : SchemaTree) (k : ℕ) (above : List PathStep) (rows : Rows) (first : Option ℕ) (n : List PathStep) (at : Option (List PathStep)) (child : Option Child) where
  -- a child of another case was come to
  pub found_here : at ≡ Some n → child ≡ child_over t k above n → is_other first child ≡ true → other_from first (to_come t k above rows at) ≡ child
  found_here is made other =
      ap (λ o. other_from first (to_come t k above rows o)) is ∙ ap (other_from first) (next_come t k above rows n)
      ∙ ap (λ c. other_from first (cons_option c (to_come t k above rows (next_path rows n)))) (sym made) ∙ other_here first child (to_come t k above rows (next_path rows n)) other

  -- the walk goes on
  pub found_later : (next : Option (List PathStep)) (after : Option ℕ) → at ≡ Some n → next ≡ next_path rows n → child ≡ child_over t k above n → is_other first child ≡ false → after ≡ first_case first child
      → other_from after (to_come t k above rows next) ≡ other_from first (to_come t k above rows at)
  found_later next after is come made other first_is =
      ap (λ o. other_from after (to_come t k above rows o)) come
      ∙ ap (λ f. other_from f (to_come t k above rows (next_path rows n))) first_is
      ∙ sym (ap (λ o. other_from first (to_come t k above rows o)) is ∙ ap (other_from first) (next_come t k above rows n)
      ∙ ap (λ c. other_from first (cons_option c (to_come t k above rows (next_path rows n)))) (sym made) ∙ other_later first child (to_come t k above rows (next_path rows n)) other)
