-- What is at or below a node is contiguous in path order.
use Rattle.std.proofs.Common.{◌≡◌, ℕ, Bool, true, false, List, [], ◌∷◌, ◌++◌, refl, sym, ap, ◌∙◌}
use Rattle.std.specs.Prelude.{◌&&◌, nat_eq}
use Rattle.std.specs.Ordering.{nat_cmp, eq_by_cmp, is_gt, is_eq, ordering_then, ordering_reverse}
use Rattle.std.specs.Cmp.{IsTotalOrder}
use Rattle.std.specs.Cmp.Lexicographic.{slice_cmp, pointwise, bytes_decides}
use Rattle.std.proofs.lemmas.Cmp.{nat_cmp_total, nat_list_cmp_total, lists_total, on_total, then_total, tied_itself}
use Rattle.std.proofs.lemmas.Map.Lookups.{exact_bytes}
use Rattle.std.proofs.lemmas.List.{append_cancel_left}
use Rattle.std.specs.declared.cmp.Ordering.{Ordering}
use Rattle.std.specs.declared.cmp.Ordering.TheVariants.{Less, Equal, Greater}
use Rattle.nm_types.specs.ValueLaws.{values_total}
use Rattle.nm_types.specs.Path.{Choice, whole, keys, entry, choice_rank, choice_values, choice_cmp, PathStep, PrintedStep, at_top, below_top, printed_cmp, step_cmp, path_cmp}
use Rattle.nm_types.specs.PathLaws.{steps_total, step_cmp-IsAntisymmetric, path_cmp-IsAntisymmetric, path_cmp-cons}
use Rattle.nm_config.specs.Under.{takes_in, stands_for, goes_along, is_end, is_under}

first_le : (a b : Ordering) → is_gt (ordering_then a b) ≡ false → is_gt a ≡ false
first_le Less b h = refl
first_le Equal b h = refl
first_le Greater b h = h

second_le : (a b : Ordering) → a ≡ Equal → is_gt (ordering_then a b) ≡ false → is_gt b ≡ false
second_le Less b e h = cc
second_le Equal b e h = h
second_le Greater b e h = cc

le_then : (a b : Ordering) → is_gt a ≡ false → is_gt b ≡ false → is_gt (ordering_then a b) ≡ false
le_then Less b p q = refl
le_then Equal b p q = q
le_then Greater b p q = p

both_le : (a b : Ordering) → a ≡ ordering_reverse b → is_gt a ≡ false → is_gt b ≡ false → a ≡ Equal
both_le Less Less e p q = cc
both_le Less Equal e p q = cc
both_le Less Greater e p q = cc
both_le Equal b e p q = refl
both_le Greater b e p q = cc

equal : (o : Ordering) → is_eq o ≡ true → o ≡ Equal
equal Less h = cc
equal Equal h = refl
equal Greater h = cc

no_later : (o : Ordering) → o ≡ Equal → is_gt o ≡ false
no_later o e = ap is_gt e

pub first_holds : (a b : Bool) → (a && b) ≡ true → a ≡ true
first_holds true b h = refl
first_holds false b h = h

pub second_holds : (a b : Bool) → (a && b) ≡ true → b ≡ true
second_holds true b h = h
second_holds false b h = cc

pub both_hold : (a b : Bool) → a ≡ true → b ≡ true → (a && b) ≡ true
both_hold true b p q = q
both_hold false b p q = p

module _ {K : Type 0} {R : K → K → Ordering} (o : IsTotalOrder R) where
  -- what stands between two that tie ties with them
  between : (x y z : K) → R x z ≡ Equal → is_gt (R x y) ≡ false → is_gt (R y z) ≡ false → R x y ≡ Equal
  between x y z e p q =
      let f : R x y ≡ R z y = o.congr x z y e in
      f ∙ both_le (R z y) (R y z) (o.antisymm z y) (sym (ap is_gt f) ∙ p) q

  ties_on : (x y z : K) → R x z ≡ Equal → R x y ≡ Equal → R y z ≡ Equal
  ties_on x y z e f = sym (o.congr x y z f) ∙ e

choices_total : IsTotalOrder choice_cmp
choices_total = then_total (on_total choice_rank nat_cmp_total) (on_total choice_values (lists_total values_total))

printed_total : IsTotalOrder printed_cmp
unfolding printed_cmp
printed_total = then_total (on_total (λ s. s.printed) nat_list_cmp_total) (then_total (on_total (λ s. s.module) nat_list_cmp_total) (on_total (λ s. s.chosen) choices_total))

tied_texts : (a b : List ℕ) → a ≡ b → slice_cmp nat_cmp a b ≡ Equal
tied_texts a b e = ap (slice_cmp nat_cmp a) (sym e) ∙ tied_itself nat_list_cmp_total a

taken_between : (x y z : Choice) → is_gt (choice_cmp x y) ≡ false → is_gt (choice_cmp y z) ≡ false → takes_in x z ≡ true → takes_in x y ≡ true
taken_between whole y z p q h = refl
taken_between (keys vs) y z p q h = ap is_eq (between choices_total (keys vs) y z (equal _ h) p q)
taken_between (entry v) y z p q h = ap is_eq (between choices_total (entry v) y z (equal _ h) p q)

taken_later : (x z : Choice) → takes_in x z ≡ true → is_gt (choice_cmp x z) ≡ false
taken_later whole whole h = refl
taken_later whole (keys vs) h = refl
taken_later whole (entry v) h = refl
taken_later (keys vs) z h = no_later _ (equal _ h)
taken_later (entry v) z h = no_later _ (equal _ h)

-- a printed step takes another in: it has that name, and its choice takes in that choice
record TakesIn (x z : PrintedStep) : Type 0 where
  printed_same : x.printed ≡ z.printed
  module_same : x.module ≡ z.module
  taken : takes_in x.chosen z.chosen ≡ true

step_later : (x z : PrintedStep) → TakesIn x z → is_gt (printed_cmp x z) ≡ false
unfolding printed_cmp
step_later x z h = le_then _ _ (no_later _ (tied_texts _ _ h.printed_same)) (le_then _ _ (no_later _ (tied_texts _ _ h.module_same)) (taken_later x.chosen z.chosen h.taken))

step_between : (x y z : PrintedStep) → TakesIn x z → is_gt (printed_cmp x y) ≡ false → is_gt (printed_cmp y z) ≡ false → TakesIn x y
unfolding printed_cmp
step_between x y z h p q =
    let n = tied_texts _ _ h.printed_same in
    let m = tied_texts _ _ h.module_same in
    let n1 = between nat_list_cmp_total x.printed y.printed z.printed n (first_le _ _ p) (first_le _ _ q) in
    let n2 = ties_on nat_list_cmp_total x.printed y.printed z.printed n n1 in
    let p1 = second_le _ _ n1 p in
    let q1 = second_le _ _ n2 q in
    let m1 = between nat_list_cmp_total x.module y.module z.module m (first_le _ _ p1) (first_le _ _ q1) in
    let m2 = ties_on nat_list_cmp_total x.module y.module z.module m m1 in
    record {
      printed_same = exact_bytes _ _ n1;
      module_same = exact_bytes _ _ m1;
      taken = taken_between x.chosen y.chosen z.chosen (second_le _ _ m1 p1) (second_le _ _ m2 q1) h.taken;
    }

same_bytes : (a b : List ℕ) → pointwise nat_eq a b ≡ true → a ≡ b
same_bytes a b h = (bytes_decides a b).0 h

bytes_same : (a b : List ℕ) → a ≡ b → pointwise nat_eq a b ≡ true
bytes_same a b e = (bytes_decides a b).1 e

-- the parts of a step that stands for another
pub record Stands (s t : PathStep) : Type 0 where
  pub module_same : s.module ≡ t.module
  pub name_same : s.name ≡ t.name
  pub taken : takes_in s.chosen t.chosen ≡ true

pub stands_parts : (s t : PathStep) → stands_for s t ≡ true → Stands s t
stands_parts s t h =
    let front = first_holds _ _ h in
    record {
      module_same = same_bytes _ _ (first_holds _ _ front);
      name_same = same_bytes _ _ (second_holds _ _ front);
      taken = second_holds _ _ h;
    }

pub stands_again : (s t : PathStep) → Stands s t → stands_for s t ≡ true
stands_again s t h = both_hold _ _ (both_hold _ _ (bytes_same _ _ h.module_same) (bytes_same _ _ h.name_same)) h.taken

-- an order of steps in which a step stands right before all that it stands for
record IsStepOrder (R : PathStep → PathStep → Ordering) : Type 0 where
  total : IsTotalOrder R
  exact : (s t : PathStep) → R s t ≡ Equal → s ≡ t
  later : (s t : PathStep) → Stands s t → is_gt (R s t) ≡ false
  convex : (s q t : PathStep) → Stands s t → is_gt (R s q) ≡ false → is_gt (R q t) ≡ false → Stands s q

below_order : IsStepOrder step_cmp
below_order = record {
  total = steps_total;
  exact = step_cmp-IsAntisymmetric;
  later = λ s t h. step_later (below_top s) (below_top t) (record { printed_same = h.name_same; module_same = h.module_same; taken = h.taken });
  convex = λ s q t h a b.
      let r = step_between (below_top s) (below_top q) (below_top t) (record { printed_same = h.name_same; module_same = h.module_same; taken = h.taken }) a b in
      record { module_same = r.module_same; name_same = r.printed_same; taken = r.taken };
}

-- the order of steps at the top
abbrev top_cmp : PathStep → PathStep → Ordering
top_cmp s t = printed_cmp (at_top s) (at_top t)

top_exact : (s t : PathStep) → top_cmp s t ≡ Equal → s ≡ t
top_exact s t e =
    let f : path_cmp (s ∷ []) (t ∷ []) ≡ Equal = path_cmp-cons s t [] [] ∙ ap (λ r. ordering_then r Equal) e in
    let g : s ∷ [] ≡ t ∷ [] = path_cmp-IsAntisymmetric (s ∷ []) (t ∷ []) f in
    cc

top_printed : (s t : PathStep) → s.module ≡ t.module → s.name ≡ t.name → s.module ++ 58 ∷ s.name ≡ t.module ++ 58 ∷ t.name
top_printed s t m n = cc

top_names : (s t : PathStep) → s.module ≡ t.module → s.module ++ 58 ∷ s.name ≡ t.module ++ 58 ∷ t.name → s.name ≡ t.name
top_names s t m p =
    let q : s.module ++ 58 ∷ s.name ≡ s.module ++ 58 ∷ t.name = p ∙ ap (λ (n : List ℕ). n ++ 58 ∷ t.name) (sym m) in
    let r : 58 ∷ s.name ≡ 58 ∷ t.name = append_cancel_left s.module (58 ∷ s.name) (58 ∷ t.name) q in
    cc

top_taken : (s t : PathStep) → Stands s t → TakesIn (at_top s) (at_top t)
top_taken s t h = record { printed_same = top_printed s t h.module_same h.name_same; module_same = h.module_same; taken = h.taken }

top_order : IsStepOrder top_cmp
top_order = record {
  total = on_total at_top printed_total;
  exact = top_exact;
  later = λ s t h. step_later (at_top s) (at_top t) (top_taken s t h);
  convex = λ s q t h a b.
      let r = step_between (at_top s) (at_top q) (at_top t) (top_taken s t h) a b in
      record { module_same = r.module_same; name_same = top_names s q r.module_same r.printed_same; taken = r.taken };
}

pub one_step : (s t : PathStep) → eq_by_cmp step_cmp s t ≡ true → s ≡ t
one_step s t h = step_cmp-IsAntisymmetric s t (equal _ h)

module _ {R : PathStep → PathStep → Ordering} (w : IsStepOrder R) where
  tied : (s t : PathStep) → s ≡ t → R s t ≡ Equal
  tied s t e = ap (R s) (sym e) ∙ tied_itself w.total s

  along_later : (last : Bool) (s t : PathStep) → goes_along last s t ≡ true → is_gt (R s t) ≡ false
  along_later true s t h = w.later s t (stands_parts s t h)
  along_later false s t h = no_later _ (tied s t (one_step s t h))

  later_step : (s t : PathStep) (ss ts : List PathStep) → (goes_along (is_end ss) s t && is_under ss ts) ≡ true
      → (is_under ss ts ≡ true → is_gt (slice_cmp step_cmp ss ts) ≡ false) → is_gt (ordering_then (R s t) (slice_cmp step_cmp ss ts)) ≡ false
  later_step s t ss ts h tail = le_then _ _ (along_later (is_end ss) s t (first_holds _ _ h)) (tail (second_holds _ _ h))

  convex_step : (s q t : PathStep) (ss qs ts : List PathStep) → (goes_along (is_end ss) s t && is_under ss ts) ≡ true
      → is_gt (ordering_then (R s q) (slice_cmp step_cmp ss qs)) ≡ false → is_gt (ordering_then (R q t) (slice_cmp step_cmp qs ts)) ≡ false
      → (is_under ss ts ≡ true → is_gt (slice_cmp step_cmp ss qs) ≡ false → is_gt (slice_cmp step_cmp qs ts) ≡ false → is_under ss qs ≡ true)
      → (goes_along (is_end ss) s q && is_under ss qs) ≡ true
  unfolding is_under
  convex_step s q t [] qs ts h a b tail =
      both_hold _ _ (stands_again s q (w.convex s q t (stands_parts s t (first_holds _ _ h)) (first_le _ _ a) (first_le _ _ b))) refl
  convex_step s q t (r ∷ ss) qs ts h a b tail =
      let e = tied s t (one_step s t (first_holds _ _ h)) in
      let f = between w.total s q t e (first_le _ _ a) (first_le _ _ b) in
      let g = ties_on w.total s q t e f in
      let same : eq_by_cmp step_cmp s q ≡ true = ap (λ (z : PathStep). eq_by_cmp step_cmp s z) (sym (w.exact s q f)) ∙ ap is_eq (tied_itself steps_total s) in
      both_hold _ _ same (tail (second_holds _ _ h) (second_le _ _ f a) (second_le _ _ g b))

later_below : (ss ts : List PathStep) → is_under ss ts ≡ true → is_gt (slice_cmp step_cmp ss ts) ≡ false
unfolding is_under
later_below [] [] h = refl
later_below [] (t ∷ ts) h = refl
later_below (s ∷ ss) [] h = cc
later_below (s ∷ ss) (t ∷ ts) h = later_step below_order s t ss ts h (later_below ss ts)

convex_below : (ss qs ts : List PathStep) → is_under ss ts ≡ true → is_gt (slice_cmp step_cmp ss qs) ≡ false → is_gt (slice_cmp step_cmp qs ts) ≡ false → is_under ss qs ≡ true
unfolding is_under
convex_below [] qs ts h a b = refl
convex_below (s ∷ ss) [] ts h a b = cc
convex_below (s ∷ ss) (q ∷ qs) [] h a b = cc
convex_below (s ∷ ss) (q ∷ qs) (t ∷ ts) h a b = convex_step below_order s q t ss qs ts h a b (convex_below ss qs ts)

-- a path at or below a node stands at or after it
pub under-later : (ss ts : List PathStep) → is_under ss ts ≡ true → is_gt (path_cmp ss ts) ≡ false
unfolding is_under path_cmp
under-later [] [] h = refl
under-later [] (t ∷ ts) h = refl
under-later (s ∷ ss) [] h = cc
under-later (s ∷ ss) (t ∷ ts) h = ap is_gt (path_cmp-cons s t ss ts) ∙ later_step top_order s t ss ts h (later_below ss ts)

-- what stands between a node and a path at or below it is at or below it
pub under-between : (ss qs ts : List PathStep) → is_under ss ts ≡ true → is_gt (path_cmp ss qs) ≡ false → is_gt (path_cmp qs ts) ≡ false → is_under ss qs ≡ true
unfolding is_under path_cmp
under-between [] qs ts h a b = refl
under-between (s ∷ ss) [] ts h a b = cc
under-between (s ∷ ss) (q ∷ qs) [] h a b = cc
under-between (s ∷ ss) (q ∷ qs) (t ∷ ts) h a b =
    convex_step top_order s q t ss qs ts h (sym (ap is_gt (path_cmp-cons s q ss qs)) ∙ a) (sym (ap is_gt (path_cmp-cons q t qs ts)) ∙ b) (convex_below ss qs ts)
