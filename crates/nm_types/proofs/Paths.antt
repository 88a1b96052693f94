-- The order of paths by their parts.
use Rattle.std.proofs.Common.{◌≡◌, ℕ, ◌<◌, ◌-◌, List, [], ◌∷◌, length, get_or, take, drop, ◌++◌, refl, sym, ap, ◌∙◌, arith, Ordering, ◌⊎◌, inl, inr}
use Rattle.std.proofs.lemmas.List.{take_all}
use Rattle.std.proofs.lemmas.Bool.Decides.{nat_tests}
use Rattle.std.specs.Ordering.{ordering_then, nat_cmp}
use Rattle.std.specs.Cmp.Lexicographic.{slice_cmp, nat_list_cmp_total}
use Rattle.std.proofs.lemmas.Cmp.{tied_itself}
use Rattle.std.specs.declared.cmp.Ordering.TheVariants.{Less, Equal, Greater}
use Rattle.nm_types.specs.Path.{PathStep, at_top, choice_cmp, printed_cmp, step_cmp, path_cmp}
use Rattle.nm_types.specs.PathLaws.{path_cmp-cons}

shorter : (m n : ℕ) → m < n → nat_cmp m n ≡ Less
shorter m n h = grind (arith, nat_tests)

longer : (m n : ℕ) → n < m → nat_cmp m n ≡ Greater
longer m n h = grind (arith, nat_tests)

-- where either path is empty, their lengths decide
pub path_cmp-empty : (ss ts : List PathStep) → (length ss ≡ 0) ⊎ (length ts ≡ 0) → nat_cmp (length ss) (length ts) ≡ path_cmp ss ts
unfolding path_cmp
path_cmp-empty [] [] h = refl
path_cmp-empty [] (t ∷ ts) h = shorter 0 (length (t ∷ ts)) (omega arith)
path_cmp-empty (s ∷ ss) [] h = longer (length (s ∷ ss)) 0 (omega arith)
path_cmp-empty (s ∷ ss) (t ∷ ts) (inl h) = absurd (omega (arith, h))
path_cmp-empty (s ∷ ss) (t ∷ ts) (inr h) = absurd (omega (arith, h))

pub path_cmp-parts : (ss ts : List PathStep) (s t : PathStep) → 0 < length ss → 0 < length ts → s ≡ get_or ss 0 s → t ≡ get_or ts 0 t → ordering_then (printed_cmp (at_top s) (at_top t)) (slice_cmp step_cmp (take (length ss - 1) (drop 1 ss)) (take (length ts - 1) (drop 1 ts))) ≡ path_cmp ss ts
path_cmp-parts [] ts s t a b p q = absurd (omega arith)
path_cmp-parts (x ∷ xs) [] s t a b p q = absurd (omega arith)
path_cmp-parts (x ∷ xs) (y ∷ ys) s t a b p q =
    let e : take (length (x ∷ xs) - 1) xs ≡ xs = take_all (length (x ∷ xs) - 1) xs (omega arith) in
    let f : take (length (y ∷ ys) - 1) ys ≡ ys = take_all (length (y ∷ ys) - 1) ys (omega arith) in
    let g : s ≡ x = p in
    let h : t ≡ y = q in
    rw (g, h, e, f) (sym (path_cmp-cons x y xs ys))

-- texts with one beginning are in the order of what follows
pub slice_cmp-same_front : (p xs ys : List ℕ) → slice_cmp nat_cmp (p ++ xs) (p ++ ys) ≡ slice_cmp nat_cmp xs ys
slice_cmp-same_front [] xs ys = refl
slice_cmp-same_front (n ∷ p) xs ys =
    let e : nat_cmp n n ≡ Equal = grind (arith, nat_tests) in
    rw e (slice_cmp-same_front p xs ys)

-- two steps at the top with one module are in the order of their names, and then of what they choose
pub printed_cmp-one_module : (s t : PathStep) → s.module ≡ t.module → ordering_then (slice_cmp nat_cmp s.name t.name) (choice_cmp s.chosen t.chosen) ≡ printed_cmp (at_top s) (at_top t)
unfolding printed_cmp
printed_cmp-one_module s t e =
    let names : slice_cmp nat_cmp (s.module ++ 58 ∷ s.name) (t.module ++ 58 ∷ t.name) ≡ slice_cmp nat_cmp s.name t.name =
    ap (λ m. slice_cmp nat_cmp (s.module ++ 58 ∷ s.name) (m ++ 58 ∷ t.name)) (sym e) ∙ slice_cmp-same_front s.module (58 ∷ s.name) (58 ∷ t.name) in
    let modules : slice_cmp nat_cmp s.module t.module ≡ Equal = ap (slice_cmp nat_cmp s.module) (sym e) ∙ tied_itself nat_list_cmp_total s.module in
    λ i. ordering_then (sym names i) (ordering_then (sym modules i) (choice_cmp s.chosen t.chosen))

-- where two orders stand one after the other, the second decides what is equal to the first, and the first the rest
pub decided_later : (o p q : Ordering) → o ≡ Equal → ordering_then o p ≡ q → p ≡ q
decided_later Less p q h e = cc
decided_later Equal p q h e = e
decided_later Greater p q h e = cc

pub decided_first : (o p q : Ordering) → (o ≡ Equal → ⊥) → ordering_then o p ≡ q → o ≡ q
decided_first Less p q h e = e
decided_first Equal p q h e = absurd (h refl)
decided_first Greater p q h e = e
