-- A walk along the rows at or below a path.
use Rattle.std.proofs.Common.{◌≡◌, List, [], ◌∷◌, ◌++◌, Bool, true, false, cond, ◌||◌, Option, Some, refl, sym, ap, ◌∙◌, subst, append-nil, append_assoc, inl}
use Rattle.std.specs.Prelude.{filter}
use Rattle.std.specs.List.{list_any}
use Rattle.std.specs.Ordering.{is_lt, is_gt, is_eq, eq_by_cmp}
use Rattle.std.specs.FinMap.{contains_key, contains_key-keys, keys}
use Rattle.std.specs.declared.cmp.Ordering.{Ordering}
use Rattle.std.specs.declared.cmp.Ordering.TheVariants.{Less, Equal, Greater}
use Rattle.nm_types.specs.Path.{PathStep, path_cmp}
use Rattle.nm_types.specs.PathLaws.{paths_total, path_cmp-IsAntisymmetric}
use Rattle.nm_config.specs.Rows.{Rows, next_path}
use Rattle.nm_config.specs.Under.{is_under}
use Rattle.nm_config.proofs.Contiguous.{under-later, under-between}
use Rattle.nm_config.proofs.Meaning.{under-means}
use Rattle.nm_validate_places.specs.Counts.{behind}
use Rattle.nm_validate_places.proofs.Counting.{AllAfter, InOrder, IsBehind, in_order, from_first, from_next}
use Rattle.nm_incremental.specs.Differing.{rows_at}

kept : (p k : List PathStep) (ks : List (List PathStep)) (b : Bool) → is_under p k ≡ b → filter (is_under p) (k ∷ ks) ≡ cond b (k ∷ filter (is_under p) ks) (filter (is_under p) ks)
kept p k ks b e = ap (λ c. cond c (k ∷ filter (is_under p) ks) (filter (is_under p) ks)) e

stands : (p k : List PathStep) (ks : List (List PathStep)) (b : Bool) → is_lt (path_cmp p k) ≡ b → behind p (k ∷ ks) ≡ cond b (k ∷ behind p ks) (behind p ks)
stands p k ks b e = ap (λ c. cond c (k ∷ behind p ks) (behind p ks)) e

module _ (p : List PathStep) where
  before : (k : List PathStep) → path_cmp p k ≡ Greater → is_under p k ≡ false
  before k e = by (is_under p k) refl
    where
      by : (b : Bool) → is_under p k ≡ b → is_under p k ≡ false
      by false h = h
      by true h = let g = under-later p k h in let f : is_gt (path_cmp p k) ≡ true = ap is_gt e in absurd (cc)

  lt_gt : (r : Ordering) → is_lt r ≡ true → is_gt r ≡ false
  lt_gt Less h = refl
  lt_gt Equal h = absurd (cc)
  lt_gt Greater h = absurd (cc)

  beyond : (n k : List PathStep) → path_cmp p n ≡ Less → is_under p n ≡ false → is_lt (path_cmp n k) ≡ true → is_under p k ≡ false
  beyond n k e out later = by (is_under p k) refl
    where
      by : (b : Bool) → is_under p k ≡ b → is_under p k ≡ false
      by false h = h
      by true h = let g = under-between p n k h (ap is_gt e) (lt_gt (path_cmp n k) later) in absurd (cc)

  none_beyond : (n : List PathStep) (ks : List (List PathStep)) → path_cmp p n ≡ Less → is_under p n ≡ false → filter (is_under p) (behind n ks) ≡ []
  none_beyond n [] e out = refl
  none_beyond n (k ∷ ks) e out = by (is_lt (path_cmp n k)) refl (none_beyond n ks e out)
    where
      by : (b : Bool) → is_lt (path_cmp n k) ≡ b → filter (is_under p) (behind n ks) ≡ [] → filter (is_under p) (behind n (k ∷ ks)) ≡ []
      by true h rest = ap (filter (is_under p)) (stands n k ks true h) ∙ kept p k (behind n ks) false (beyond n k e out h) ∙ rest
      by false h rest = ap (filter (is_under p)) (stands n k ks false h) ∙ rest

  under_itself : is_under p p ≡ true
  under_itself = (under-means p p).1 (inl (record { rest = []; begins = sym (append-nil p) }))

  abbrev own : Bool → List (List PathStep)
  own b = cond b (p ∷ []) []

  none_same : (ks : List (List PathStep)) → AllAfter p ks → list_any (eq_by_cmp path_cmp p) ks ≡ false
  none_same [] h = refl
  none_same (k ∷ ks) h = ap (λ r. is_eq r || list_any (eq_by_cmp path_cmp p) ks) h.0 ∙ none_same ks h.1

  all_behind : (ks : List (List PathStep)) → AllAfter p ks → behind p ks ≡ ks
  all_behind [] h = refl
  all_behind (k ∷ ks) h = stands p k ks true (ap is_lt h.0) ∙ ap (λ l. k ∷ l) (all_behind ks h.1)

  after_later : (k : List PathStep) (ks : List (List PathStep)) → path_cmp p k ≡ Less → AllAfter k ks → AllAfter p ks
  after_later k [] e h = tt
  after_later k (l ∷ ks) e h = (paths_total.trans p k l e h.0, after_later k ks e h.1)

  split : (ks : List (List PathStep)) → InOrder ks → filter (is_under p) ks ≡ own (list_any (eq_by_cmp path_cmp p) ks) ++ filter (is_under p) (behind p ks)
  split [] h = refl
  split (k ∷ ks) h = by (path_cmp p k) refl (split ks h.1)
    where
      by : (r : Ordering) → path_cmp p k ≡ r → filter (is_under p) ks ≡ own (list_any (eq_by_cmp path_cmp p) ks) ++ filter (is_under p) (behind p ks)
          → filter (is_under p) (k ∷ ks) ≡ own (is_eq (path_cmp p k) || list_any (eq_by_cmp path_cmp p) ks) ++ filter (is_under p) (behind p (k ∷ ks))
      by Less e rest =
          let after : AllAfter p (k ∷ ks) = (e, after_later k ks e h.0) in
          ap (filter (is_under p)) (sym (all_behind (k ∷ ks) after)) ∙ ap (λ b. own b ++ filter (is_under p) (behind p (k ∷ ks))) (sym (none_same (k ∷ ks) after))
      by Equal e rest =
          let same : p ≡ k = path_cmp-IsAntisymmetric p k e in
          let after : AllAfter p ks = subst (λ q. AllAfter q ks) (sym same) h.0 in
          kept p k ks true (ap (is_under p) (sym same) ∙ under_itself) ∙ ap (λ q. q ∷ filter (is_under p) ks) (sym same)
          ∙ ap (λ l. p ∷ filter (is_under p) l) (sym (stands p k ks false (ap is_lt e) ∙ all_behind ks after))
          ∙ ap (λ r. own (is_eq r || list_any (eq_by_cmp path_cmp p) ks) ++ filter (is_under p) (behind p (k ∷ ks))) (sym e)
      by Greater e rest =
          kept p k ks false (before k e) ∙ rest
          ∙ ap (λ l. own (list_any (eq_by_cmp path_cmp p) ks) ++ filter (is_under p) l) (sym (stands p k ks false (ap is_lt e)))
          ∙ ap (λ r. own (is_eq r || list_any (eq_by_cmp path_cmp p) ks) ++ filter (is_under p) (behind p (k ∷ ks))) (sym e)

  -- the rows at or below a path are that at the path itself, if there is one, and those that stand behind it
  pub rows_are : (rows : Rows) (b : Bool) → contains_key rows p ≡ b → cond b (p ∷ []) [] ++ filter (is_under p) (behind p (keys rows)) ≡ rows_at rows p
  rows_are rows b e = ap (λ c. own c ++ filter (is_under p) (behind p (keys rows))) (sym e ∙ contains_key-keys rows p) ∙ sym (split (keys rows) (in_order rows))

-- the walk begins with what stands behind the path
pub at_start : (rows : Rows) (p n : List PathStep) (all : List (List PathStep)) (o : Option (List PathStep)) → o ≡ next_path rows n
    → all ++ filter (is_under p) (from_first (keys rows) o) ≡ all ++ filter (is_under p) (behind n (keys rows))
at_start rows p n all o e = ap (λ q. all ++ filter (is_under p) (from_first (keys rows) q)) e ∙ ap (λ l. all ++ filter (is_under p) l) (from_next n (keys rows) (in_order rows))

module _ (rows : Rows) (p n : List PathStep) (o : Option (List PathStep)) (is : o ≡ Some n) where
  -- one row more is below
  pub one_more : (next : Option (List PathStep)) (all after whole : List (List PathStep)) → next ≡ next_path rows n → is_under p n ≡ true → after ≡ all ++ n ∷ []
      → all ++ filter (is_under p) (from_first (keys rows) o) ≡ whole → after ++ filter (is_under p) (from_first (keys rows) next) ≡ whole
  one_more next all after whole e under put h =
      at_start rows p n after next e
      ∙ ap (λ l. l ++ filter (is_under p) (behind n (keys rows))) put ∙ append_assoc all (n ∷ []) (filter (is_under p) (behind n (keys rows)))
      ∙ ap (λ l. all ++ l) (sym (kept p n (behind n (keys rows)) true under)) ∙ ap (λ q. all ++ filter (is_under p) (from_first (keys rows) q)) (sym is) ∙ h

  -- it isn't, and no more is
  pub no_more : (all whole : List (List PathStep)) → IsBehind p o → is_under p n ≡ false → all ++ filter (is_under p) (from_first (keys rows) o) ≡ whole → all ≡ whole
  no_more all whole behind_it out h =
      let less : path_cmp p n ≡ Less = subst (IsBehind p) is behind_it in
      sym (append-nil all) ∙ ap (λ l. all ++ l) (sym (kept p n (behind n (keys rows)) false out ∙ none_beyond p n (keys rows) less out))
      ∙ ap (λ q. all ++ filter (is_under p) (from_first (keys rows) q)) (sym is) ∙ h
