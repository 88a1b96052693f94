-- The laws of the order of paths: it is total, and paths that it doesn't tell apart are one path.
use Rattle.std.specs.Prelude.{◌≡◌, ◌↔◌, IsTrue, ℕ, Bool, List, [], ◌∷◌, ◌++◌, map, Some, refl}
use Rattle.std.proofs.Common.{ap, sym, ◌∙◌}
use Rattle.std.specs.Ordering.{eq_by_cmp, ordering_then}
use Rattle.std.specs.Cmp.Lexicographic.{slice_cmp}
use Rattle.std.specs.Cmp.{IsTotalOrder, IsEquivalence, IsPartialOrder, po}
use Rattle.std.proofs.lemmas.List.{append_cancel_left}
use Rattle.std.proofs.lemmas.Cmp.{nat_cmp_total, nat_list_cmp_total, lists_total, on_total, then_total, eq_by_cmp_equiv, tied_itself}
use Rattle.std.proofs.lemmas.Map.Lookups.{CmpEqualImpliesEq, exact_unsigned, exact_bytes}
use Rattle.std.specs.declared.cmp.Ordering.{Ordering}
use Rattle.std.specs.declared.cmp.Ordering.TheVariants.{Less, Equal, Greater}
use Rattle.nm_types.specs.declared.value.Value.{Value}
use Rattle.nm_types.specs.Value.{value_cmp}
use Rattle.nm_types.specs.ValueLaws.{values_total, value_cmp-IsAntisymmetric, then_parts, decides_from_exact}
use Rattle.nm_types.specs.Path.{PrintedStep, Choice, whole, keys, entry, PathStep, choice_rank, choice_values, choice_cmp, at_top, below_top, printed_steps, printed_cmp, step_cmp, path_cmp}

choices_total : IsTotalOrder choice_cmp
choices_total = then_total (on_total choice_rank nat_cmp_total) (on_total choice_values (lists_total values_total))

printed_total : IsTotalOrder printed_cmp
unfolding printed_cmp
printed_total = then_total (on_total (λ s. s.printed) nat_list_cmp_total)
    (then_total (on_total (λ s. s.module) nat_list_cmp_total) (on_total (λ s. s.chosen) choices_total))

-- the order of steps is total
pub steps_total : IsTotalOrder step_cmp
steps_total = on_total below_top printed_total

-- the order of paths is total
pub paths_total : IsTotalOrder path_cmp
unfolding path_cmp
paths_total = on_total printed_steps (lists_total printed_total)

-- lists that the order of their elements doesn't tell apart are one, where that order tells elements apart
exact_lists : {K : Type 0} (R : K → K → Ordering) → CmpEqualImpliesEq R → CmpEqualImpliesEq (slice_cmp R)
exact_lists R exact [] [] e = refl
exact_lists R exact [] (y ∷ ys) e = cc
exact_lists R exact (x ∷ xs) [] e = cc
exact_lists R exact (x ∷ xs) (y ∷ ys) e =
    let p = then_parts _ _ e in
    let head = exact x y p.0 in
    let tail = exact_lists R exact xs ys p.1 in
    cc

one_choice : (x y : Choice) → choice_rank x ≡ choice_rank y → choice_values x ≡ choice_values y → x ≡ y
one_choice whole whole k v = refl
one_choice (keys vs) (keys ws) k v = ap keys v
one_choice (entry a) (entry b) k v = cc
one_choice _ _ k v = cc

exact_choices : CmpEqualImpliesEq choice_cmp
exact_choices x y e =
    let p = then_parts _ _ e in
    one_choice x y (exact_unsigned _ _ p.0) (exact_lists value_cmp value_cmp-IsAntisymmetric _ _ p.1)

exact_printed : CmpEqualImpliesEq printed_cmp
unfolding printed_cmp
exact_printed x y e =
    let p = then_parts _ _ e in
    let q = then_parts _ _ p.1 in
    let same_printed = exact_bytes x.printed y.printed p.0 in
    let same_module = exact_bytes x.module y.module q.0 in
    let same_chosen = exact_choices x.chosen y.chosen q.1 in
    λ i. record { printed = same_printed i; «module» = same_module i; chosen = same_chosen i }

one_step : (s t : PathStep) → s.module ≡ t.module → s.name ≡ t.name → s.chosen ≡ t.chosen → s ≡ t
one_step s t m n c = λ i. record { «module» = m i; name = n i; chosen = c i }

-- steps that are printed alike below the top are one step
one_below : (s t : PathStep) → below_top s ≡ below_top t → s ≡ t
one_below s t e = one_step s t (ap (λ p. p.module) e) (ap (λ p. p.printed) e) (ap (λ p. p.chosen) e)

one_at_top : (s t : PathStep) → at_top s ≡ at_top t → s ≡ t
one_at_top s t e =
    let m : s.module ≡ t.module = ap (λ p. p.module) e in
    let p : s.module ++ 58 ∷ s.name ≡ t.module ++ 58 ∷ t.name = ap (λ p. p.printed) e in
    let q : s.module ++ 58 ∷ s.name ≡ s.module ++ 58 ∷ t.name = p ∙ ap (λ (n : List ℕ). n ++ 58 ∷ t.name) (sym m) in
    let r : 58 ∷ s.name ≡ 58 ∷ t.name = append_cancel_left s.module (58 ∷ s.name) (58 ∷ t.name) q in
    let n : s.name ≡ t.name = cc in
    one_step s t m n (ap (λ p. p.chosen) e)

all_below : (ss ts : List PathStep) → map below_top ss ≡ map below_top ts → ss ≡ ts
all_below [] [] e = refl
all_below [] (t ∷ ts) e = cc
all_below (s ∷ ss) [] e = cc
all_below (s ∷ ss) (t ∷ ts) e =
    let h : below_top s ≡ below_top t = cc in
    let r : map below_top ss ≡ map below_top ts = cc in
    let head = one_below s t h in
    let tail = all_below ss ts r in
    λ i. head i ∷ tail i

one_path : (ss ts : List PathStep) → printed_steps ss ≡ printed_steps ts → ss ≡ ts
one_path [] [] e = refl
one_path [] (t ∷ ts) e = cc
one_path (s ∷ ss) [] e = cc
one_path (s ∷ ss) (t ∷ ts) e =
    let h : at_top s ≡ at_top t = cc in
    let r : map below_top ss ≡ map below_top ts = cc in
    let head = one_at_top s t h in
    let tail = all_below ss ts r in
    λ i. head i ∷ tail i

-- steps that the order doesn't tell apart are one step
pub step_cmp-IsAntisymmetric : CmpEqualImpliesEq step_cmp
step_cmp-IsAntisymmetric s t e = one_below s t (exact_printed _ _ e)

-- paths that the order doesn't tell apart are one path
pub path_cmp-IsAntisymmetric : CmpEqualImpliesEq path_cmp
unfolding path_cmp
path_cmp-IsAntisymmetric ss ts e = one_path ss ts (exact_lists printed_cmp exact_printed _ _ e)

-- steps that their order doesn't tell apart are equivalent
pub steps_equiv : IsEquivalence (eq_by_cmp step_cmp)
steps_equiv = eq_by_cmp_equiv steps_total

-- steps are partly ordered, and any two can be compared
pub steps_po : IsPartialOrder (eq_by_cmp step_cmp) (λ x y. Some (step_cmp x y))
steps_po = po steps_total (λ x y. refl)

-- paths that their order doesn't tell apart are equivalent
pub paths_equiv : IsEquivalence (eq_by_cmp path_cmp)
paths_equiv = eq_by_cmp_equiv paths_total

-- paths are partly ordered, and any two can be compared
pub paths_po : IsPartialOrder (eq_by_cmp path_cmp) (λ x y. Some (path_cmp x y))
paths_po = po paths_total (λ x y. refl)

-- the test of `==` tells whether two steps are one
pub same_step_decides : (x y : PathStep) (b : Bool) → b ≡ eq_by_cmp step_cmp x y → IsTrue b ↔ (x ≡ y)
same_step_decides = decides_from_exact steps_total step_cmp-IsAntisymmetric

-- the test of `==` tells whether two paths are one
pub same_path_decides : (x y : List PathStep) (b : Bool) → b ≡ eq_by_cmp path_cmp x y → IsTrue b ↔ (x ≡ y)
same_path_decides = decides_from_exact paths_total path_cmp-IsAntisymmetric

-- steps below the top are ordered as they are printed
pub slice_cmp-below : (ss ts : List PathStep) → slice_cmp step_cmp ss ts ≡ slice_cmp printed_cmp (map below_top ss) (map below_top ts)
slice_cmp-below [] [] = refl
slice_cmp-below [] (t ∷ ts) = refl
slice_cmp-below (s ∷ ss) [] = refl
slice_cmp-below (s ∷ ss) (t ∷ ts) = ap (ordering_then (step_cmp s t)) (slice_cmp-below ss ts)

-- a list of one element is ordered as that element
then-Equal : (o : Ordering) → ordering_then o Equal ≡ o
then-Equal Less = refl
then-Equal Equal = refl
then-Equal Greater = refl

-- entries of a leaf-list are ordered as their values are
pub choice_cmp-entry : (v w : Value) → choice_cmp (entry v) (entry w) ≡ value_cmp v w
choice_cmp-entry v w = then-Equal (value_cmp v w)

-- the test of an order tells whether two choices are one
pub same_choice_decides : (x y : Choice) (b : Bool) → b ≡ eq_by_cmp choice_cmp x y → IsTrue b ↔ (x ≡ y)
same_choice_decides = decides_from_exact choices_total exact_choices

-- the order of paths by their first steps and by what is below
pub path_cmp-cons : (s t : PathStep) (ss ts : List PathStep)
    → path_cmp (s ∷ ss) (t ∷ ts) ≡ ordering_then (printed_cmp (at_top s) (at_top t)) (slice_cmp step_cmp ss ts)
unfolding path_cmp
path_cmp-cons s t ss ts = ap (ordering_then (printed_cmp (at_top s) (at_top t))) (sym (slice_cmp-below ss ts))

-- a printed step ties with itself
pub printed_cmp-same : (s : PrintedStep) → printed_cmp s s ≡ Equal
printed_cmp-same = tied_itself printed_total
