-- What is among lists that are made, and the least of paths, which depends only on which paths there are.
use Rattle.std.proofs.Common.{◌≡◌, ◌⊎◌, List, [], ◌∷◌, ◌++◌, Bool, true, false, cond, Some, refl, sym, ap, ◌∙◌, inl, inr}
use Rattle.std.specs.Prelude.{filter}
use Rattle.std.specs.List.{fold, flat_map}
use Rattle.std.specs.Ordering.{is_gt, ordering_reverse}
use Rattle.std.specs.declared.cmp.Ordering.{Ordering}
use Rattle.std.specs.declared.cmp.Ordering.TheVariants.{Less, Equal, Greater}
use Rattle.nm_types.specs.Path.{PathStep, path_cmp}
use Rattle.nm_types.specs.PathLaws.{paths_total, path_cmp-IsAntisymmetric}
use Rattle.nm_validate_rules.specs.Violation.{lesser, least_of}
use Rattle.nm_validate_rules.proofs.Among.{Among}
use Rattle.nm_validate_rules.proofs.Least.{least_is}

-- ---- lists that are made

kept_by : {X : Type 0} (b : Bool) (y : X) (kept ys : List X) (x : X) → (Among kept x → Among ys x) → Among (cond b (y ∷ kept) kept) x → Among (y ∷ ys) x
kept_by true y kept ys x more (inl same) = inl same
kept_by true y kept ys x more (inr a) = inr (more a)
kept_by false y kept ys x more a = inr (more a)

-- what is kept was there
pub filter_among : {X : Type 0} (test : X → Bool) (xs : List X) (x : X) → Among (filter test xs) x → Among xs x
filter_among test [] x a = a
filter_among test (y ∷ ys) x a = kept_by (test y) y (filter test ys) ys x (filter_among test ys x) a

-- what a list was made of
pub record Gathered {X Y : Type 0} (f : X → List Y) (xs : List X) (y : Y) : Type 0 where
  pub x : X
  pub among : Among xs x
  pub within : Among (f x) y

gathered_later : {X Y : Type 0} (f : X → List Y) (z : X) (xs : List X) (y : Y) → Gathered f xs y → Gathered f (z ∷ xs) y
gathered_later f z xs y h = record { x = h.x; among = inr h.among; within = h.within }

later : {A B C : Type 0} → A ⊎ B → (C ⊎ A) ⊎ B
later (inl a) = inl (inr a)
later (inr b) = inr b

pub either : {X : Type 0} (xs ys : List X) (x : X) → Among (xs ++ ys) x → Among xs x ⊎ Among ys x
either [] ys x a = inr a
either (z ∷ zs) ys x (inl same) = inl (inl same)
either (z ∷ zs) ys x (inr a) = later (either zs ys x a)

pub flat_among : {X Y : Type 0} (f : X → List Y) (xs : List X) (y : Y) → Among (flat_map f xs) y → Gathered f xs y
flat_among f [] y a = absurd a
flat_among f (z ∷ zs) y a = elim (either (f z) (flat_map f zs) y a) [
  | inl here ↦ record { x = z; among = inl refl; within = here }
  | inr more ↦ gathered_later f z zs y (flat_among f zs y more)
]

-- ---- the least

by_order : (r : Ordering) (p q : List PathStep) → path_cmp p q ≡ r → is_gt r ≡ false → is_gt (ordering_reverse r) ≡ false → p ≡ q
by_order Less p q is e f = absurd (cc)
by_order Equal p q is e f = path_cmp-IsAntisymmetric p q is
by_order Greater p q is e f = absurd (cc)

-- paths of which neither stands behind the other are one
one_path : (p q : List PathStep) → is_gt (path_cmp p q) ≡ false → is_gt (path_cmp q p) ≡ false → p ≡ q
one_path p q e f = by_order (path_cmp p q) p q refl e (ap is_gt (sym (paths_total.antisymm q p)) ∙ f)

-- lists that have the same paths have the same least
pub same_least : (ps qs : List (List PathStep)) → ((p : List PathStep) → Among ps p → Among qs p) → ((p : List PathStep) → Among qs p → Among ps p) → least_of ps ≡ least_of qs
same_least [] [] to from = refl
same_least [] (q ∷ qs) to from = absurd (from q (inl refl))
same_least (p ∷ ps) [] to from = absurd (to p (inl refl))
same_least (p ∷ ps) (q ∷ qs) to from =
    let ours = fold lesser p ps in
    let theirs = fold lesser q qs in
    let h = least_is (p ∷ ps) ours refl in
    let k = least_is (q ∷ qs) theirs refl in
    ap Some (one_path ours theirs (h.first theirs (from theirs k.among)) (k.first ours (to ours h.among)))
