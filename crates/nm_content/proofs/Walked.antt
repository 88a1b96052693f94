-- What walks over rows find of marks, and of rows outside the module of the marks, is what all rows have.
use Rattle.std.proofs.Common.{◌≡◌, ℕ, ◌+◌, ◌-◌, ◌^◌, ◌≤◌, ◌<◌, List, [], ◌∷◌, length, Bool, true, false, cond, not, ◌&&◌, ◌||◌, Option, Some, None, is_some, inl, refl, sym, ap, subst, ◌∙◌, arith}
use Rattle.std.specs.List.{list_all, list_any, count_by}
use Rattle.std.proofs.lemmas.List.Sums.{sum_by-cons}
use Rattle.std.specs.FinMap.{get, entries, keys, contains_key, entries_sorted}
use Rattle.nm_types.specs.declared.value.Value.{Value}
use Rattle.nm_config.specs.Rows.{Rows, next_of}
use Rattle.nm_config.specs.Under.{is_under}
use Rattle.nm_config.proofs.Meaning.{under-means}
use Rattle.nm_overlay.proofs.Order.{Place}
use Rattle.nm_overlay.proofs.Following.{come, come_next, come_end, next-first}
use Rattle.nm_proto.specs.Content.{counted_rows}
use Rattle.nm_content_place.specs.Walk.{below_after}
use Rattle.nm_content_place.proofs.Walked.{all_below, any_below, begins}
use Rattle.nm_content.specs.Mark.{mark_path, mark_at, is_mark, is_mark_of, is_given, has_mark, has_marks_of, marks_path, entry_step, is_outside, is_counted, outside_rows}
use Rattle.nm_content.specs.MarkLaws.{at_is}
use Rattle.nm_content.proofs.Looking.{has_mark_keys}

-- ---- marks

under_marks : (n : ℕ) → is_under marks_path (mark_path n) ≡ true
under_marks n = (under-means marks_path (mark_path n)).1 (inl (record { rest = entry_step n ∷ []; begins = refl }))

mark_under : (q : Place) (o : Option ℕ) → mark_at q ≡ o → is_under marks_path q ≡ false → o ≡ None
mark_under q None is out = refl
mark_under q (Some n) is out = let e : is_under marks_path q ≡ true = ap (is_under marks_path) (at_is q n is) ∙ under_marks n in absurd (cc)

no_mark : (q : Place) → is_under marks_path q ≡ false → mark_at q ≡ None
no_mark q out = mark_under q (mark_at q) refl out

any_own : (f : Place → Bool) (b : Bool) (node : Place) (left : List Place) → f node ≡ false → list_any f (cond b (node ∷ left) left) ≡ list_any f left
any_own f true node left h = ap (λ b. b || list_any f left) h
any_own f false node left h = refl

all_own : (f : Place → Bool) (b : Bool) (node : Place) (left : List Place) → f node ≡ true → list_all f (cond b (node ∷ left) left) ≡ list_all f left
all_own f true node left h = ap (λ b. b && list_all f left) h
all_own f false node left h = refl

pub mark_walked : (rows : Rows) (n : ℕ) → list_any (is_mark_of n) (below_after rows marks_path marks_path) ≡ has_mark rows n
mark_walked rows n =
    sym (any_own (is_mark_of n) (is_some (get rows marks_path)) marks_path (below_after rows marks_path marks_path) refl)
    ∙ sym (ap (list_any (is_mark_of n)) (begins rows marks_path))
    ∙ sym (any_below (is_mark_of n) marks_path (keys rows) (λ q out. ap (is_given n) (no_mark q out)))
    ∙ has_mark_keys rows n

-- each mark of the one is a mark of the other
abbrev pub is_marked : Rows → Place → Bool
is_marked other path = not (is_mark path) || contains_key other path

pub marks_walked : (one other : Rows) → list_all (is_marked other) (below_after one marks_path marks_path) ≡ has_marks_of other one
marks_walked one other =
    sym (all_own (is_marked other) (is_some (get one marks_path)) marks_path (below_after one marks_path marks_path) refl)
    ∙ sym (ap (list_all (is_marked other)) (begins one marks_path))
    ∙ sym (all_below (is_marked other) marks_path (keys one) (λ q out. ap (λ (o : Option ℕ). not (is_some o) || contains_key other q) (no_mark q out)))

-- ---- rows outside the module of the marks

pub counted_head : (q : Place) (qs : List Place) → cond (is_outside q) 1 0 + count_by is_outside qs ≡ count_by is_outside (q ∷ qs)
counted_head q qs = sym (sum_by-cons (λ p. cond (is_outside p) 1 0) q qs)

counted_paths : (es : List (Place × Value)) → count_by is_outside (come None es) ≡ count_by is_counted es
counted_paths [] = refl
counted_paths (e ∷ es) =
    sum_by-cons (λ q. cond (is_outside q) 1 0) e.0 (come None es)
    ∙ ap (λ n. cond (is_outside e.0) 1 0 + n) (counted_paths es)
    ∙ sym (sum_by-cons (λ (row : Place × Value). cond (is_counted row) 1 0) e es)

pub all_come : (rows : Rows) → count_by is_outside (come None (entries rows)) ≡ outside_rows rows
all_come rows = counted_paths (entries rows)

pub come_on : (rows : Rows) (passed : Option Place) (n : Place) → next_of rows passed ≡ Some n → come passed (entries rows) ≡ n ∷ come (Some n) (entries rows)
come_on rows passed n h = come_next passed (entries rows) (entries_sorted rows) n (sym (next-first rows passed) ∙ h)

pub come_out : (rows : Rows) (passed : Option Place) → next_of rows passed ≡ None → come passed (entries rows) ≡ []
come_out rows passed h = come_end passed (entries rows) (sym (next-first rows passed) ∙ h)

pub comes_shorter : (rows : Rows) (passed : Option Place) (n : Place) → next_of rows passed ≡ Some n → length (come (Some n) (entries rows)) < length (come passed (entries rows))
comes_shorter rows passed n h = let e = ap length (come_on rows passed n h) in omega (arith, e)

pub counted_from : (n all : ℕ) → n ≡ all → counted_rows (0 + n) ≡ counted_rows all
counted_from n all is = omega (arith, is)

-- a count goes on with one more row, or with none
pub counted_on : (count more next rest all : ℕ) → next ≡ counted_rows (count + more) → counted_rows (count + (more + rest)) ≡ all → counted_rows (next + rest) ≡ all
counted_on count more next rest all is goes_on = omega (arith, is, goes_on)

pub counted_small : (next n : ℕ) → next ≡ counted_rows n → next ≤ 2 ^ 32 - 1
counted_small next n is = omega (arith, is)

-- where no row is left, the count is whole
pub all_passed : (count rows : ℕ) (rest : List Place) → rest ≡ [] → count ≤ 2 ^ 32 - 1 → counted_rows (count + count_by is_outside rest) ≡ counted_rows rows → count ≡ counted_rows rows
all_passed count rows rest none small is =
    let whole : counted_rows (count + 0) ≡ counted_rows rows = subst (λ r. counted_rows (count + count_by is_outside r) ≡ counted_rows rows) none is in
    omega (arith, whole, small)
