-- The least of some paths, and of those that pass a test.
use Rattle.std.proofs.Common.{◌≡◌, ◌⊎◌, List, [], ◌∷◌, Bool, true, false, Some, None, if◌then◌else◌, refl, sym, ap, ◌∙◌, subst, inl, inr}
use Rattle.std.specs.Prelude.{filter}
use Rattle.std.specs.List.{fold}
use Rattle.std.specs.Ordering.{is_lt, is_gt, ordering_reverse}
use Rattle.std.specs.declared.cmp.Ordering.{Ordering}
use Rattle.std.specs.declared.cmp.Ordering.TheVariants.{Less, Equal, Greater}
use Rattle.std.proofs.lemmas.Cmp.{upto, tied_itself}
use Rattle.nm_types.specs.Path.{PathStep, path_cmp}
use Rattle.nm_types.specs.PathLaws.{paths_total}
use Rattle.nm_validate_rules.specs.Violation.{lesser, least_of}
use Rattle.nm_validate_rules.proofs.Among.{Among, among_filter, filter_passes}

-- a path doesn't stand behind another
abbrev pub IsFirst : List PathStep → List PathStep → Type 0
IsFirst p q = is_gt (path_cmp p q) ≡ false

turned : (r : Ordering) → is_gt (ordering_reverse r) ≡ is_lt r
turned Less = refl
turned Equal = refl
turned Greater = refl

not_both : (r : Ordering) → is_lt r ≡ true → is_gt r ≡ false
not_both Less e = refl
not_both Equal e = refl
not_both Greater e = absurd (cc)

first_itself : (p : List PathStep) → IsFirst p p
first_itself p = ap is_gt (tied_itself paths_total p)

first_less : (p q : List PathStep) → is_lt (path_cmp p q) ≡ true → IsFirst p q
first_less p q e = not_both (path_cmp p q) e

first_not : (p q : List PathStep) → is_lt (path_cmp q p) ≡ false → IsFirst p q
first_not p q e = ap is_gt (paths_total.antisymm p q) ∙ turned (path_cmp q p) ∙ e

chain : (p q r : List PathStep) → IsFirst p q → IsFirst q r → IsFirst p r
chain = upto paths_total

record Found (m : List PathStep) (ps : List (List PathStep)) (f : List PathStep) : Type 0 where
  among : (f ≡ m) ⊎ Among ps f
  first : IsFirst f m
  others : (p : List PathStep) → Among ps p → IsFirst f p

further : {A B C : Type 0} → A ⊎ B → A ⊎ (C ⊎ B)
further (inl a) = inl a
further (inr b) = inr (inr b)

found_by : (b : Bool) (m g : List PathStep) (ps : List (List PathStep)) → is_lt (path_cmp g m) ≡ b → Found g ps (fold lesser g ps) → Found m ps (fold lesser m ps)
    → Found m (g ∷ ps) (fold lesser (if b then g else m) ps)
found_by true m g ps e ours theirs = record {
  among = inr ours.among;
  first = chain (fold lesser g ps) g m ours.first (first_less g m e);
  others = λ p a. elim a [
    | inl same ↦ subst (λ q. IsFirst (fold lesser g ps) q) (sym same) ours.first
    | inr more ↦ ours.others p more
  ];
}
found_by false m g ps e ours theirs = record {
  among = further theirs.among;
  first = theirs.first;
  others = λ p a. elim a [
    | inl same ↦ subst (λ q. IsFirst (fold lesser m ps) q) (sym same) (chain (fold lesser m ps) m g theirs.first (first_not m g e))
    | inr more ↦ theirs.others p more
  ];
}

found : (m : List PathStep) (ps : List (List PathStep)) → Found m ps (fold lesser m ps)
found m [] = record { among = inl refl; first = first_itself m; others = λ p a. absurd a }
found m (g ∷ ps) = found_by (is_lt (path_cmp g m)) m g ps refl (found g ps) (found m ps)

-- the least of some paths is one of them, and none stands before it
pub record IsLeast (ps : List (List PathStep)) (f : List PathStep) : Type 0 where
  pub among : Among ps f
  pub first : (p : List PathStep) → Among ps p → IsFirst f p

pub least_is : (ps : List (List PathStep)) (f : List PathStep) → least_of ps ≡ Some f → IsLeast ps f
least_is [] f e = absurd (cc)
least_is (m ∷ ps) f e =
    let h = found m ps in
    let same : fold lesser m ps ≡ f = cc in
    subst (λ g. IsLeast (m ∷ ps) g) same (record {
      among = h.among;
      first = λ p a. elim a [
        | inl is ↦ subst (λ q. IsFirst (fold lesser m ps) q) (sym is) h.first
        | inr more ↦ h.others p more
      ];
    })

none_among : (ps : List (List PathStep)) (p : List PathStep) → least_of ps ≡ None → Among ps p → ⊥
none_among [] p e a = a
none_among (m ∷ ps) p e a = cc

not_passing : (b : Bool) → (b ≡ true → ⊥) → b ≡ false
not_passing true h = absurd (h refl)
not_passing false h = refl

-- ---- of those that pass a test

pub least_passes : (test : List PathStep → Bool) (ps : List (List PathStep)) (f : List PathStep) → least_of (filter test ps) ≡ Some f → test f ≡ true
least_passes test ps f e = filter_passes test ps f (least_is (filter test ps) f e).among

pub least_first : (test : List PathStep → Bool) (ps : List (List PathStep)) (f p : List PathStep) → least_of (filter test ps) ≡ Some f → Among ps p → test p ≡ true → IsFirst f p
least_first test ps f p e a passes = (least_is (filter test ps) f e).first p (among_filter test ps p a passes)

pub none_passes : (test : List PathStep → Bool) (ps : List (List PathStep)) (p : List PathStep) → least_of (filter test ps) ≡ None → Among ps p → test p ≡ false
none_passes test ps p e a = not_passing (test p) (λ passes. none_among (filter test ps) p e (among_filter test ps p a passes))
