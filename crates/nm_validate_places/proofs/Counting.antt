-- How many entries a list has, one after another in path order.
use Rattle.std.proofs.Common.{◌≡◌, ℕ, zero, suc, ◌+◌, ◌-◌, ◌<◌, List, [], ◌∷◌, length, map, Bool, true, false, cond, ◌&&◌, ◌||◌, ◌==◌, Option, Some, None, slice_get, refl, sym, ap, ◌∙◌, subst, append-nil, inl, arith}
use lib.Dec.{T}
use Rattle.std.proofs.lemmas.Grind.{common_steps}
use Rattle.std.proofs.lemmas.Bool.Decides.{nat_tests}
use Rattle.std.proofs.lemmas.Cmp.{tied_itself}
use Rattle.std.proofs.lemmas.List.Sums.{length-filter}
use Rattle.std.specs.Prelude.{filter, nat_lt}
use Rattle.std.specs.List.{AllByRecursion, count_by, list_any}
use Rattle.std.specs.Ordering.{is_lt, is_gt, is_eq, eq_by_cmp, ordering_reverse}
use Rattle.std.specs.FinMap.{contains_key, contains_key-keys, keys, entries, entries_sorted}
use Rattle.std.specs.FinMap.Entries.{is_sorted, below_all}
use Rattle.std.specs.declared.cmp.Ordering.{Ordering}
use Rattle.std.specs.declared.cmp.Ordering.TheVariants.{Less, Equal, Greater}
use Rattle.nm_types.specs.Path.{PathStep, path_cmp}
use Rattle.nm_types.specs.PathLaws.{paths_total, path_cmp-IsAntisymmetric}
use Rattle.nm_config.specs.Rows.{Rows, next_path}
use Rattle.nm_config.specs.Under.{is_under}
use Rattle.nm_config.proofs.Contiguous.{under-later, under-between}
use Rattle.nm_config.proofs.Meaning.{under-means}
use Rattle.nm_validate_rules.specs.Values.{count_at}
use Rattle.nm_validate_places.specs.Listed.{Row}
use Rattle.nm_validate_places.specs.Counts.{is_entry_of, behind, count_behind}
use Rattle.nm_validate_places.proofs.Firsts.{first_of, second_of}

-- ---- paths in order

abbrev pub AllAfter : List PathStep → List (List PathStep) → Type 0
AllAfter p ks = AllByRecursion (λ k. path_cmp p k ≡ Less) ks

abbrev pub InOrder : List (List PathStep) → Type 0
InOrder [] = Unit {0}
InOrder (k ∷ ks) = AllAfter k ks × InOrder ks

less : (r : Ordering) → T (is_lt r) → r ≡ Less
less Less h = refl
less Equal h = absurd h
less Greater h = absurd h

after_by : (p : List PathStep) (es : List Row) → T (below_all path_cmp p es) → AllAfter p (map (λ e. e.0) es)
after_by p [] h = tt
after_by p (e ∷ es) h = (less _ (first_of _ _ h), after_by p es (second_of _ _ h))

order_by : (es : List Row) → T (is_sorted path_cmp es) → InOrder (map (λ e. e.0) es)
order_by [] h = tt
order_by (e ∷ es) h = (after_by e.0 es (first_of _ _ h), order_by es (second_of _ _ h))

-- the paths of rows are in order
pub in_order : (rows : Rows) → InOrder (keys rows)
in_order rows = order_by (entries rows) (entries_sorted rows)

after_later : (p k : List PathStep) (ks : List (List PathStep)) → path_cmp p k ≡ Less → AllAfter k ks → AllAfter p ks
after_later p k [] e h = tt
after_later p k (l ∷ ks) e h = (paths_total.trans p k l e h.0, after_later p k ks e h.1)

-- ---- what stands behind

keeps : (p k : List PathStep) (ks : List (List PathStep)) → is_lt (path_cmp p k) ≡ true → behind p (k ∷ ks) ≡ k ∷ behind p ks
keeps p k ks e = ap (λ b. cond b (k ∷ behind p ks) (behind p ks)) e

drops : (p k : List PathStep) (ks : List (List PathStep)) → is_lt (path_cmp p k) ≡ false → behind p (k ∷ ks) ≡ behind p ks
drops p k ks e = ap (λ b. cond b (k ∷ behind p ks) (behind p ks)) e

all_behind : (p : List PathStep) (ks : List (List PathStep)) → AllAfter p ks → behind p ks ≡ ks
all_behind p [] h = refl
all_behind p (k ∷ ks) h = keeps p k ks (ap is_lt h.0) ∙ ap (λ l. k ∷ l) (all_behind p ks h.1)

not_itself : (p : List PathStep) → is_lt (path_cmp p p) ≡ false
not_itself p = ap is_lt (tied_itself paths_total p)

turned : (p k : List PathStep) → path_cmp p k ≡ Less → path_cmp k p ≡ Greater
turned p k e = paths_total.antisymm k p ∙ ap ordering_reverse e

-- the first path and what stands behind it
abbrev pub from_first : List (List PathStep) → Option (List PathStep) → List (List PathStep)
from_first ks None = []
from_first ks (Some n) = n ∷ behind n ks

-- what comes behind some paths is after a path where they are
kept_after : (p q : List PathStep) (ks : List (List PathStep)) → AllAfter p ks → AllAfter p (behind q ks)
kept_after p q [] h = tt
kept_after p q (k ∷ ks) h = elim (is_lt (path_cmp q k)) as (λ b. AllAfter p (cond b (k ∷ behind q ks) (behind q ks))) [
  | true ↦ (h.0, kept_after p q ks h.1)
  | false ↦ kept_after p q ks h.1
]

one_more : (k : List PathStep) (ks ls : List (List PathStep)) → AllAfter k ls → from_first (k ∷ ks) (slice_get ls 0) ≡ from_first ks (slice_get ls 0)
one_more k ks [] h = refl
one_more k ks (n ∷ ls) h = ap (λ l. n ∷ l) (drops n k ks (ap is_lt (turned k n h.0)))

-- what stands behind a path is the next one and what stands behind that
pub from_next : (p : List PathStep) (ks : List (List PathStep)) → InOrder ks → from_first ks (slice_get (behind p ks) 0) ≡ behind p ks
from_next p [] h = refl
from_next p (k ∷ ks) h = by (path_cmp p k) refl (from_next p ks h.1)
  where
    passed : is_lt (path_cmp p k) ≡ false → from_first ks (slice_get (behind p ks) 0) ≡ behind p ks → from_first (k ∷ ks) (slice_get (behind p (k ∷ ks)) 0) ≡ behind p (k ∷ ks)
    passed f rest =
        ap (λ l. from_first (k ∷ ks) (slice_get l 0)) (drops p k ks f) ∙ one_more k ks (behind p ks) (kept_after k p ks h.0) ∙ rest ∙ sym (drops p k ks f)

    by : (r : Ordering) → path_cmp p k ≡ r → from_first ks (slice_get (behind p ks) 0) ≡ behind p ks → from_first (k ∷ ks) (slice_get (behind p (k ∷ ks)) 0) ≡ behind p (k ∷ ks)
    by Less e rest =
        let kept : behind p (k ∷ ks) ≡ k ∷ ks = keeps p k ks (ap is_lt e) ∙ ap (λ l. k ∷ l) (all_behind p ks (after_later p k ks e h.0)) in
        ap (λ l. from_first (k ∷ ks) (slice_get l 0)) kept ∙ ap (λ l. k ∷ l) (drops k k ks (not_itself k) ∙ all_behind k ks h.0) ∙ sym kept
    by Equal e rest = passed (ap is_lt e) rest
    by Greater e rest = passed (ap is_lt e) rest

-- ---- counts

module _ (p : List PathStep) where
  counts_yes : (k : List PathStep) (ks : List (List PathStep)) → is_entry_of p k ≡ true → count_by (is_entry_of p) (k ∷ ks) ≡ 1 + count_by (is_entry_of p) ks
  counts_yes k ks e =
      let kept = filter (is_entry_of p) ks in
      let long : length (cond (is_entry_of p k) (k ∷ kept) kept) ≡ length (k ∷ kept) = ap (λ b. length (cond b (k ∷ kept) kept)) e in
      let all = length-filter (is_entry_of p) (k ∷ ks) in
      let rest = length-filter (is_entry_of p) ks in
      omega (arith, long, all, rest)

  counts_no : (k : List PathStep) (ks : List (List PathStep)) → is_entry_of p k ≡ false → count_by (is_entry_of p) (k ∷ ks) ≡ count_by (is_entry_of p) ks
  counts_no k ks e =
      let kept = filter (is_entry_of p) ks in
      sym (length-filter (is_entry_of p) (k ∷ ks)) ∙ ap (λ b. length (cond b (k ∷ kept) kept)) e ∙ length-filter (is_entry_of p) ks

  not_under : (k : List PathStep) → is_under p k ≡ false → is_entry_of p k ≡ false
  not_under k e = ap (λ b. length k == length p && b) e ∙ never (length k == length p)
    where
      never : (b : Bool) → (b && false) ≡ false
      never true = refl
      never false = refl

  before : (k : List PathStep) → path_cmp p k ≡ Greater → is_under p k ≡ false
  before k e = by (is_under p k) refl
    where
      by : (b : Bool) → is_under p k ≡ b → is_under p k ≡ false
      by false h = h
      by true h = let g = under-later p k h in let f : is_gt (path_cmp p k) ≡ true = ap is_gt e in absurd (cc)

  -- once a path behind isn't below, none that comes after it is
  beyond : (n k : List PathStep) → path_cmp p n ≡ Less → is_under p n ≡ false → is_lt (path_cmp n k) ≡ true → is_under p k ≡ false
  beyond n k e out later = by (is_under p k) refl
    where
      lt_gt : (r : Ordering) → is_lt r ≡ true → is_gt r ≡ false
      lt_gt Less h = refl
      lt_gt Equal h = refl
      lt_gt Greater h = absurd (cc)

      by : (b : Bool) → is_under p k ≡ b → is_under p k ≡ false
      by false h = h
      by true h = let g = under-between p n k h (ap is_gt e) (lt_gt (path_cmp n k) later) in absurd (cc)

  none_beyond : (n : List PathStep) (ks : List (List PathStep)) → path_cmp p n ≡ Less → is_under p n ≡ false → count_by (is_entry_of p) (behind n ks) ≡ 0
  none_beyond n [] e out = refl
  none_beyond n (k ∷ ks) e out = by (is_lt (path_cmp n k)) refl (none_beyond n ks e out)
    where
      by : (b : Bool) → is_lt (path_cmp n k) ≡ b → count_by (is_entry_of p) (behind n ks) ≡ 0 → count_by (is_entry_of p) (behind n (k ∷ ks)) ≡ 0
      by true h rest = ap (count_by (is_entry_of p)) (keeps n k ks h) ∙ counts_no k (behind n ks) (not_under k (beyond n k e out h)) ∙ rest
      by false h rest = ap (count_by (is_entry_of p)) (drops n k ks h) ∙ rest

  -- of a path that isn't below and what comes behind it nothing counts
  pub none_counts : (n : List PathStep) (ks : List (List PathStep)) → path_cmp p n ≡ Less → is_under p n ≡ false → count_by (is_entry_of p) (n ∷ behind n ks) ≡ 0
  none_counts n ks e out = counts_no n (behind n ks) (not_under n out) ∙ none_beyond n ks e out

  none_same : (ks : List (List PathStep)) → AllAfter p ks → list_any (eq_by_cmp path_cmp p) ks ≡ false
  none_same [] h = refl
  none_same (k ∷ ks) h = ap (λ r. is_eq r || list_any (eq_by_cmp path_cmp p) ks) h.0 ∙ none_same ks h.1

  same_length : (n : ℕ) → (n == n) ≡ true
  same_length n = grind (arith, common_steps, nat_tests)

  -- a path is below itself
  under_itself : is_under p p ≡ true
  under_itself = (under-means p p).1 (inl (record { rest = []; begins = sym (append-nil p) }))

  itself : is_entry_of p p ≡ true
  itself = ap (λ b. b && is_under p p) (same_length (length p)) ∙ under_itself

  abbrev told : Bool → List (List PathStep) → ℕ
  told b ls = cond b (1 + count_by (is_entry_of p) ls) (count_by (is_entry_of p) ls)

  split : (ks : List (List PathStep)) → InOrder ks → count_by (is_entry_of p) ks ≡ cond (list_any (eq_by_cmp path_cmp p) ks) (1 + count_by (is_entry_of p) (behind p ks)) (count_by (is_entry_of p) (behind p ks))
  split [] h = refl
  split (k ∷ ks) h = by (path_cmp p k) refl (split ks h.1)
    where
      by : (r : Ordering) → path_cmp p k ≡ r → count_by (is_entry_of p) ks ≡ told (list_any (eq_by_cmp path_cmp p) ks) (behind p ks)
          → count_by (is_entry_of p) (k ∷ ks) ≡ told (is_eq (path_cmp p k) || list_any (eq_by_cmp path_cmp p) ks) (behind p (k ∷ ks))
      by Less e rest =
          let after : AllAfter p (k ∷ ks) = (e, after_later p k ks e h.0) in
          ap (count_by (is_entry_of p)) (sym (all_behind p (k ∷ ks) after))
          ∙ ap (λ b. told b (behind p (k ∷ ks))) (sym (none_same (k ∷ ks) after))
      by Equal e rest =
          let same : p ≡ k = path_cmp-IsAntisymmetric p k e in
          let after : AllAfter p ks = subst (λ q. AllAfter q ks) (sym same) h.0 in
          counts_yes k ks (ap (is_entry_of p) (sym same) ∙ itself)
          ∙ ap (λ l. told true l) (sym (drops p k ks (ap is_lt e) ∙ all_behind p ks after))
          ∙ ap (λ r. told (is_eq r || list_any (eq_by_cmp path_cmp p) ks) (behind p (k ∷ ks))) (sym e)
      by Greater e rest =
          counts_no k ks (not_under k (before k e)) ∙ rest
          ∙ ap (λ l. told (list_any (eq_by_cmp path_cmp p) ks) l) (sym (drops p k ks (ap is_lt e)))
          ∙ ap (λ r. told (is_eq r || list_any (eq_by_cmp path_cmp p) ks) (behind p (k ∷ ks))) (sym e)

-- a list has as many entries as stand after its path, and one more where a row is at the path itself
pub count_is : (rows : Rows) (p : List PathStep) (b : Bool) → contains_key rows p ≡ b → count_at rows p ≡ cond b (1 + count_behind rows p) (count_behind rows p)
count_is rows p b e =
    split p (keys rows) (in_order rows) ∙ ap (λ c. cond c (1 + count_behind rows p) (count_behind rows p)) (sym (contains_key-keys rows p) ∙ e)

-- ---- a walk along the paths that stand behind

-- there is no path, or it stands behind another
abbrev pub IsBehind : List PathStep → Option (List PathStep) → Type 0
IsBehind p None = Unit {0}
IsBehind p (Some n) = path_cmp p n ≡ Less

pub next_behind : (p : List PathStep) (ks : List (List PathStep)) → IsBehind p (slice_get (behind p ks) 0)
next_behind p [] = tt
next_behind p (k ∷ ks) = by (is_lt (path_cmp p k)) refl (next_behind p ks)
  where
    lt_less : (r : Ordering) → is_lt r ≡ true → r ≡ Less
    lt_less Less h = refl
    lt_less Equal h = absurd (cc)
    lt_less Greater h = absurd (cc)

    by : (b : Bool) → is_lt (path_cmp p k) ≡ b → IsBehind p (slice_get (behind p ks) 0) → IsBehind p (slice_get (behind p (k ∷ ks)) 0)
    by true e rest = subst (λ l. IsBehind p (slice_get l 0)) (sym (keeps p k ks e)) (lt_less (path_cmp p k) e)
    by false e rest = subst (λ l. IsBehind p (slice_get l 0)) (sym (drops p k ks e)) rest

still_behind : (p n : List PathStep) (o : Option (List PathStep)) → path_cmp p n ≡ Less → IsBehind n o → IsBehind p o
still_behind p n None e h = tt
still_behind p n (Some m) e h = paths_total.trans p n m e h

-- how many are to come on a walk that has come to a path
abbrev pub to_come : Rows → List PathStep → Option (List PathStep) → ℕ
to_come rows p o = count_by (is_entry_of p) (from_first (keys rows) o)

pub at_start : (rows : Rows) (p : List PathStep) → to_come rows p (next_path rows p) ≡ count_behind rows p
at_start rows p = ap (count_by (is_entry_of p)) (from_next p (keys rows) (in_order rows))

pub next_counts : (rows : Rows) (p n : List PathStep) → is_under p n ≡ true → (length n == length p) ≡ true → to_come rows p (Some n) ≡ 1 + to_come rows p (next_path rows n)
next_counts rows p n under long =
    counts_yes p n (behind n (keys rows)) (ap (λ b. b && is_under p n) long ∙ under) ∙ ap (λ l. 1 + count_by (is_entry_of p) l) (sym (from_next n (keys rows) (in_order rows)))

pub next_passes : (rows : Rows) (p n : List PathStep) → (length n == length p) ≡ false → to_come rows p (Some n) ≡ to_come rows p (next_path rows n)
next_passes rows p n long =
    counts_no p n (behind n (keys rows)) (ap (λ b. b && is_under p n) long) ∙ ap (count_by (is_entry_of p)) (sym (from_next n (keys rows) (in_order rows)))

pub none_to_come : (rows : Rows) (p n : List PathStep) → path_cmp p n ≡ Less → is_under p n ≡ false → to_come rows p (Some n) ≡ 0
none_to_come rows p n e out = none_counts p n (keys rows) e out

pub next_still : (rows : Rows) (p n : List PathStep) → path_cmp p n ≡ Less → IsBehind p (next_path rows n)
next_still rows p n e = still_behind p n (next_path rows n) e (next_behind n (keys rows))

-- the walk ends
pub walk_shorter : (rows : Rows) (n : List PathStep) (o next : Option (List PathStep)) → o ≡ Some n → next ≡ next_path rows n → length (from_first (keys rows) next) < length (from_first (keys rows) o)
walk_shorter rows n o next is e =
    let here = ap (λ q. length (from_first (keys rows) q)) is in
    let there = ap (λ q. length (from_first (keys rows) q)) e ∙ ap length (from_next n (keys rows) (in_order rows)) in
    omega (arith, here, there)

never_less : (n : ℕ) → nat_lt n 0 ≡ false
never_less n = grind (arith, common_steps, nat_tests)

none_left : (m : ℕ) → nat_lt 0 (1 + m) ≡ true
none_left m = grind (arith, common_steps, nat_tests)

one_less : (n m : ℕ) → (n ≡ 0 → ⊥) → nat_lt (n - 1) m ≡ nat_lt n (1 + m)
one_less zero m e = absurd (e refl)
one_less (suc n) m e = grind (arith, common_steps, nat_tests)

module _ (rows : Rows) (p n : List PathStep) (o next : Option (List PathStep)) (left after : ℕ) where
  -- an entry more was come to
  pub turn_counts : o ≡ Some n → next ≡ next_path rows n → is_under p n ≡ true → (length n == length p) ≡ true → (left ≡ 0 → ⊥) → after ≡ left - 1 → nat_lt after (to_come rows p next) ≡ nat_lt left (to_come rows p o)
  turn_counts is e under long more fewer =
      ap (λ q. nat_lt after (to_come rows p q)) e ∙ ap (λ k. nat_lt k (to_come rows p (next_path rows n))) fewer ∙ one_less left (to_come rows p (next_path rows n)) more
      ∙ ap (nat_lt left) (sym (ap (to_come rows p) is ∙ next_counts rows p n under long))

  -- what was come to is no entry
  pub turn_passes : o ≡ Some n → next ≡ next_path rows n → (length n == length p) ≡ false → after ≡ left → nat_lt after (to_come rows p next) ≡ nat_lt left (to_come rows p o)
  turn_passes is e long same =
      ap (λ q. nat_lt after (to_come rows p q)) e ∙ ap (λ k. nat_lt k (to_come rows p (next_path rows n))) same
      ∙ ap (nat_lt left) (sym (ap (to_come rows p) is ∙ next_passes rows p n long))

  pub turn_behind : o ≡ Some n → next ≡ next_path rows n → IsBehind p o → IsBehind p next
  turn_behind is e h = subst (IsBehind p) (sym e) (next_still rows p n (subst (IsBehind p) is h))

module _ (rows : Rows) (p n : List PathStep) (o : Option (List PathStep)) (left : ℕ) where
  -- one entry more than let through
  pub too_many : o ≡ Some n → is_under p n ≡ true → (length n == length p) ≡ true → left ≡ 0 → nat_lt left (to_come rows p o) ≡ true
  too_many is under long none =
      ap (λ k. nat_lt k (to_come rows p o)) none ∙ ap (nat_lt 0) (ap (to_come rows p) is ∙ next_counts rows p n under long) ∙ none_left (to_come rows p (next_path rows n))

  -- no more entries come
  pub no_more : o ≡ Some n → IsBehind p o → is_under p n ≡ false → nat_lt left (to_come rows p o) ≡ false
  no_more is h out = ap (nat_lt left) (ap (to_come rows p) is ∙ none_to_come rows p n (subst (IsBehind p) is h) out) ∙ never_less left

-- a row at the path itself
pub own_more : (rows : Rows) (p : List PathStep) (most : ℕ) → contains_key rows p ≡ true → most ≡ 0 → nat_lt most (count_at rows p) ≡ true
own_more rows p most e none = ap (λ k. nat_lt k (count_at rows p)) none ∙ ap (nat_lt 0) (count_is rows p true e) ∙ none_left (count_behind rows p)

pub own_less : (rows : Rows) (p : List PathStep) (most : ℕ) → contains_key rows p ≡ true → (most ≡ 0 → ⊥) → nat_lt (most - 1) (count_behind rows p) ≡ nat_lt most (count_at rows p)
own_less rows p most e more = one_less most (count_behind rows p) more ∙ ap (nat_lt most) (sym (count_is rows p true e))
