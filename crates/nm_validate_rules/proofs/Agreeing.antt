-- Configurations that agree on the rows of a test have the same rows that pass it.
use Rattle.std.proofs.Common.{◌≡◌, List, [], ◌∷◌, map, Bool, true, false, cond, ◌&&◌, ◌||◌, Option, None, is_some, refl, sym, ap, ◌∙◌}
use Rattle.std.specs.Prelude.{filter}
use Rattle.std.specs.List.{list_any, filter_map, count_by}
use Rattle.std.specs.Ordering.{eq_by_cmp}
use Rattle.std.specs.FinMap.{get, contains_key, entries, keys, get-entries, entries_sorted}
use Rattle.std.specs.FinMap.Entries.{find, same_entries, find-where_key, is_sorted-where_key}
use Rattle.nm_types.specs.declared.value.Value.{Value}
use Rattle.nm_types.specs.Path.{PathStep, path_cmp}
use Rattle.nm_types.specs.PathLaws.{paths_total, paths_equiv, path_cmp-IsAntisymmetric, same_path_decides}
use Rattle.nm_config.specs.Rows.{Rows}
use Rattle.nm_validate_rules.specs.Values.{is_same_path}
use Rattle.nm_validate_rules.specs.Reaches.{AgreeOn}
use Rattle.nm_validate_rules.proofs.Lists.{Within, or_left, or_right, any_within, count_within, given_within, keys_kept}

abbrev pub Path : Type 0
Path = List PathStep

abbrev pub Test : Type 0
Test = List PathStep → Bool

pub same_path : (p : Path) → is_same_path p p ≡ true
same_path p = paths_equiv.refl p

pub path_is : (p q : Path) → is_same_path p q ≡ true → p ≡ q
path_is p q e = (same_path_decides p q (eq_by_cmp path_cmp p q) refl).0 e

module _ (one other : Rows) where
  -- ---- tests within tests

  pub narrowed : (inner outer : Test) → Within inner outer → AgreeOn outer one other → AgreeOn inner one other
  narrowed inner outer h agree = λ row e. agree row (h row e)

  pub left : (a b : Test) → AgreeOn (λ row. a row || b row) one other → AgreeOn a one other
  left a b agree = λ row e. agree row (or_left (a row) (b row) e)

  pub right : (a b : Test) → AgreeOn (λ row. a row || b row) one other → AgreeOn b one other
  right a b agree = λ row e. agree row (or_right (a row) (b row) e)

  -- what is the same where rows of a test agree is so behind a test that no row decides
  pub and_agrees : (b f g : Bool) (r : Test) → (AgreeOn r one other → f ≡ g) → AgreeOn (λ row. b && r row) one other → (b && f) ≡ (b && g)
  and_agrees true f g r h agree = h agree
  and_agrees false f g r h agree = refl

  pub any_agrees : {X : Type 0} (f g : X → Bool) (r : X → Test) (xs : List X) → ((x : X) → AgreeOn (r x) one other → f x ≡ g x) → AgreeOn (λ row. list_any (λ x. r x row) xs) one other
      → list_any f xs ≡ list_any g xs
  any_agrees f g r [] h agree = refl
  any_agrees f g r (x ∷ xs) h agree =
      let here = h x (left (r x) (λ row. list_any (λ x. r x row) xs) agree) in
      let more = any_agrees f g r xs h (right (r x) (λ row. list_any (λ x. r x row) xs) agree) in
      λ i. here i || more i

  -- ---- rows

  pub value_agrees : (p : Path) → AgreeOn (is_same_path p) one other → get one p ≡ get other p
  value_agrees p agree = agree p (same_path p)

  pub row_agrees : (p : Path) → AgreeOn (is_same_path p) one other → contains_key one p ≡ contains_key other p
  row_agrees p agree = ap is_some (value_agrees p agree)

  found_alike : (test : Test) (q : Path) (b : Bool) → test q ≡ b → AgreeOn test one other → cond b (get one q) None ≡ cond b (get other q) None
  found_alike test q true e agree = agree q e
  found_alike test q false e agree = refl

  found_kept : (test : Test) (rows : Rows) (q : Path) → find path_cmp q (filter (λ e. test e.0) (entries rows)) ≡ cond (test q) (get rows q) None
  found_kept test rows q =
      find-where_key path_cmp test q (λ x e. ap test (sym (path_cmp-IsAntisymmetric q x e))) (entries rows)
      ∙ ap (λ o. cond (test q) o None) (sym (get-entries rows q))

  -- the rows that pass the test
  pub entries_agree : (test : Test) → AgreeOn test one other → filter (λ e. test e.0) (entries one) ≡ filter (λ e. test e.0) (entries other)
  entries_agree test agree =
      same_entries path_cmp paths_total path_cmp-IsAntisymmetric (filter (λ e. test e.0) (entries one)) (filter (λ e. test e.0) (entries other))
      (is_sorted-where_key path_cmp test (entries one) (entries_sorted one)) (is_sorted-where_key path_cmp test (entries other) (entries_sorted other))
      (λ q. found_kept test one q ∙ found_alike test q (test q) refl agree ∙ sym (found_kept test other q))

  pub keys_agree : (test : Test) → AgreeOn test one other → filter test (keys one) ≡ filter test (keys other)
  keys_agree test agree = sym (keys_kept test (entries one)) ∙ ap (λ es. map (λ e. e.0) es) (entries_agree test agree) ∙ keys_kept test (entries other)

  pub any_key_agrees : (inner outer : Test) → Within inner outer → AgreeOn outer one other → list_any inner (keys one) ≡ list_any inner (keys other)
  any_key_agrees inner outer h agree =
      any_within inner outer (keys one) h ∙ ap (list_any inner) (keys_agree outer agree) ∙ sym (any_within inner outer (keys other) h)

  pub count_agrees : (inner outer : Test) → Within inner outer → AgreeOn outer one other → count_by inner (keys one) ≡ count_by inner (keys other)
  count_agrees inner outer h agree =
      count_within inner outer (keys one) h ∙ ap (count_by inner) (keys_agree outer agree) ∙ sym (count_within inner outer (keys other) h)

  pub given_keys_agree : {Y : Type 0} (f : Path → Option Y) (outer : Test) → ((p : Path) → outer p ≡ false → f p ≡ None) → AgreeOn outer one other → filter_map f (keys one) ≡ filter_map f (keys other)
  given_keys_agree f outer h agree =
      given_within f outer (keys one) h ∙ ap (filter_map f) (keys_agree outer agree) ∙ sym (given_within f outer (keys other) h)

  pub given_entries_agree : {Y : Type 0} (f : Path × Value → Option Y) (outer : Test) → ((e : Path × Value) → outer e.0 ≡ false → f e ≡ None) → AgreeOn outer one other
      → filter_map f (entries one) ≡ filter_map f (entries other)
  given_entries_agree f outer h agree =
      given_within f (λ e. outer e.0) (entries one) h ∙ ap (filter_map f) (entries_agree outer agree) ∙ sym (given_within f (λ e. outer e.0) (entries other) h)
