-- The first row after a path, in a configuration with changes.
use Rattle.std.proofs.lemmas.List.{drop_more}
use Rattle.std.proofs.Common.{◌≡◌, ℕ, ◌+◌, ◌<◌, length, get_or, drop, Bool, true, false, List, [], ◌∷◌, refl, sym, ap, ◌∙◌}
use Rattle.std.specs.Prelude.{Option, Some, None, is_some}
use Rattle.std.specs.Ordering.{is_lt}
use Rattle.std.specs.declared.cmp.Ordering.{Ordering}
use Rattle.std.specs.declared.cmp.Ordering.TheVariants.{Less, Equal, Greater}
use Rattle.std.specs.FinMap.{get, entries, find, entries_sorted, get-entries}
use Rattle.nm_types.specs.Path.{path_cmp}
use Rattle.nm_types.specs.PathLaws.{paths_total, path_cmp-IsAntisymmetric}
use Rattle.nm_types.specs.declared.value.Value.{Value}
use Rattle.nm_config.specs.Rows.{Rows, next_of}
use Rattle.nm_overlay.specs.Differences.{Changes, overridden}
use Rattle.nm_overlay.specs.Places.{Pair, is_after, comes_before}
use Rattle.nm_overlay.proofs.Order.{Place, lt_less, greater_less, less_up_to, not_before}
use Rattle.nm_overlay.proofs.Changed.{seen, get_overridden}
use Rattle.nm_overlay.proofs.Following.{clash, after, after_trans, Follows, follows, after_first, after_none, found_after, none_follows, next_means, no_next_means, next_is, no_next_is}

module _ (base : Rows) (changes : Changes) where
  abbrev rows : Rows
  rows = overridden base changes

  -- a path of which nothing is said has the row of the base
  as_base : (q : Place) → find path_cmp q (entries changes) ≡ None → get rows q ≡ get base q
  as_base q h = get_overridden base changes q ∙ ap (λ o. seen o (get base q)) (get-entries changes q ∙ h)

  as_said : (q : Place) (o : Option Value) → find path_cmp q (entries changes) ≡ Some o → get rows q ≡ o
  as_said q o h = get_overridden base changes q ∙ ap (λ x. seen x (get base q)) (get-entries changes q ∙ h)

  -- where nothing is said of what stands after, the first row after is that of the base
  pub seek_end : (p : Option Place) → after p (entries changes) ≡ [] → next_of rows p ≡ next_of base p
  seek_end p h = by (next_of base p) refl
    where
      unsaid : (y : Place) → is_after p y ≡ true → get rows y ≡ get base y
      unsaid y a = as_base y (none_follows p (entries changes) (after_none p (entries changes) h) y a)

      by : (o : Option Place) → next_of base p ≡ o → next_of rows p ≡ o
      by None e = no_next_is rows p (λ y a. unsaid y a ∙ no_next_means base p e y a)
      by (Some n) e = let g = next_means base p n e in next_is rows p n (record {
        later = g.later;
        there = ap is_some (unsaid n g.later) ∙ g.there;
        no_other = λ y a l. unsaid y a ∙ g.no_other y a l;
      })

  module _ (p : Option Place) (e : Pair) (rest : List Pair) (h : after p (entries changes) ≡ e ∷ rest) where
    said : find path_cmp e.0 (entries changes) ≡ Some e.1
    said = found_after p (entries changes) (entries_sorted changes) e rest h

    first_said : Follows p (entries changes) e.0
    first_said = follows p (entries changes) (entries_sorted changes) e.0 (after_first p (entries changes) e rest h)

    -- before the first path of which something is said stand rows of the base
    unsaid : (y : Place) → is_after p y ≡ true → path_cmp y e.0 ≡ Less → get rows y ≡ get base y
    unsaid y a l = as_base y (first_said.no_other y a l)

    -- a row of the base that comes before it is the first
    pub seek_base : comes_before (next_of base p) e.0 ≡ true → next_of rows p ≡ next_of base p
    seek_base b = by (next_of base p) refl b
      where
        by : (o : Option Place) → next_of base p ≡ o → comes_before o e.0 ≡ true → next_of rows p ≡ o
        by None i b = cc
        by (Some n) i b =
            let g = next_means base p n i in
            let l = lt_less (path_cmp n e.0) b in
            next_is rows p n (record {
              later = g.later;
              there = ap is_some (unsaid n g.later l) ∙ g.there;
              no_other = λ y a m. unsaid y a (paths_total.trans y n e.0 m l) ∙ g.no_other y a m;
            })

    -- else no row comes before it
    none_earlier : comes_before (next_of base p) e.0 ≡ false → (y : Place) → is_after p y ≡ true → path_cmp y e.0 ≡ Less → get rows y ≡ None
    none_earlier b y a l = unsaid y a l ∙ by (next_of base p) refl b
      where
        by : (o : Option Place) → next_of base p ≡ o → comes_before o e.0 ≡ false → get base y ≡ None
        by None i b = no_next_means base p i y a
        by (Some n) i b = let g = next_means base p n i in g.no_other y a (less_up_to y e.0 n l (not_before e.0 n b))

    pub seek_there : comes_before (next_of base p) e.0 ≡ false → is_some e.1 ≡ true → next_of rows p ≡ Some e.0
    seek_there b v = next_is rows p e.0 (record {
      later = first_said.later;
      there = ap is_some (as_said e.0 e.1 said) ∙ v;
      no_other = none_earlier b;
    })

    gone : is_some e.1 ≡ false → get rows e.0 ≡ None
    gone v = as_said e.0 e.1 said ∙ by e.1 v
      where
        by : (o : Option Value) → is_some o ≡ false → o ≡ None
        by None v = refl
        by (Some x) v = cc

    -- where it is gone, the first row is the first after it
    pub seek_gone : comes_before (next_of base p) e.0 ≡ false → is_some e.1 ≡ false → next_of rows (Some e.0) ≡ next_of rows p
    seek_gone b v = sym (by (next_of rows (Some e.0)) refl)
      where
        up_to : (y : Place) → is_after p y ≡ true → is_after (Some e.0) y ≡ false → (o : Ordering) → path_cmp y e.0 ≡ o → get rows y ≡ None
        up_to y a n Less i = none_earlier b y a i
        up_to y a n Equal i = ap (get rows) (path_cmp-IsAntisymmetric y e.0 i) ∙ gone v
        up_to y a n Greater i = clash (is_lt (path_cmp e.0 y)) (ap is_lt (greater_less y e.0 i)) n

        none_of : ((y : Place) → is_after (Some e.0) y ≡ true → get rows y ≡ None) → (y : Place) → is_after p y ≡ true → (c : Bool)
            → is_after (Some e.0) y ≡ c → get rows y ≡ None
        none_of f y a true i = f y i
        none_of f y a false i = up_to y a i (path_cmp y e.0) refl

        between : (n : Place) → ((y : Place) → is_after (Some e.0) y ≡ true → path_cmp y n ≡ Less → get rows y ≡ None) → (y : Place)
            → is_after p y ≡ true → path_cmp y n ≡ Less → (c : Bool) → is_after (Some e.0) y ≡ c → get rows y ≡ None
        between n f y a l true i = f y i l
        between n f y a l false i = up_to y a i (path_cmp y e.0) refl

        by : (o : Option Place) → next_of rows (Some e.0) ≡ o → next_of rows p ≡ o
        by None i = no_next_is rows p (λ y a. none_of (no_next_means rows (Some e.0) i) y a (is_after (Some e.0) y) refl)
        by (Some n) i = let g = next_means rows (Some e.0) n i in next_is rows p n (record {
          later = after_trans p e.0 n first_said.later (lt_less (path_cmp e.0 n) g.later);
          there = g.there;
          no_other = λ y a l. between n g.no_other y a l (is_after (Some e.0) y) refl;
        })

-- the pairs left begin with the one that is come to
pub turn : (es later : List Pair) (i : ℕ) (r : Pair) → es ≡ drop i later → i < length later → r ≡ get_or later i r → es ≡ r ∷ drop (i + 1) later
turn es later i r h l is = h ∙ drop_more later i r l ∙ ap (λ (x : Pair). x ∷ drop (i + 1) later) (sym is)
