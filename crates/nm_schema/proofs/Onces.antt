-- Names that come once.
use Rattle.std.proofs.Common.{◌≡◌, ◌∙◌, ◌⊎◌, inl, inr, ℕ, List, [], ◌∷◌, ◌++◌, map, filter, Bool, true, false, cond, ◌||◌, refl, sym, ap, subst}
use Rattle.std.specs.Prelude.{Contains}
use Rattle.std.specs.Str.{bytes_eq}
use Rattle.std.proofs.lemmas.List.Elements.{Contains-append_cases}
use Rattle.std.proofs.lemmas.Slice.Eq.{bytes_eq-Decides}
use Rattle.nm_types.specs.Spells.{IsOnce}
use Rattle.nm_schema_names.specs.Clash.{has_name}
use Rattle.nm_schema.proofs.Elements.{here, later, nothing, first_or_later, of_map, in_map, of_filter}

pub once_both : (xs ys : List (List ℕ)) → IsOnce xs → IsOnce ys → ((w : List ℕ) → Contains xs w → Contains ys w → ⊥) → IsOnce (xs ++ ys)
once_both [] ys one other apart = other
once_both (x ∷ xs) ys one other apart = (
  λ c. elim (Contains-append_cases xs ys x c) [
    | inl d ↦ one.0 d
    | inr d ↦ apart x (here x x xs refl) d
  ],
  once_both xs ys one.1 other (λ w c d. apart w (later x w xs c) d),
)

kept_once : (f : ℕ → List ℕ) (p : ℕ → Bool) (x : ℕ) (xs : List ℕ) (b : Bool) → p x ≡ b → IsOnce (map f (x ∷ xs)) → IsOnce (map f (filter p xs)) → IsOnce (map f (cond b (x ∷ filter p xs) (filter p xs)))
kept_once f p x xs true is once rest = (
  λ c. (let r = of_map f (filter p xs) (f x) c in once.0 (subst (λ (w : List ℕ). Contains (map f xs) w) r.2 (in_map f xs r.0 (of_filter p xs r.0 r.1).0))),
  rest,
)
kept_once f p x xs false is once rest = rest

pub once_kept : (f : ℕ → List ℕ) (p : ℕ → Bool) (xs : List ℕ) → IsOnce (map f xs) → IsOnce (map f (filter p xs))
once_kept f p [] once = once
once_kept f p (x ∷ xs) once = kept_once f p x xs (p x) refl once (once_kept f p xs once.1)

-- of these, one has a name
pub same_named : (f : ℕ → List ℕ) (xs : List ℕ) (x y : ℕ) → IsOnce (map f xs) → Contains xs x → Contains xs y → f x ≡ f y → x ≡ y
same_named f [] x y once c d e = absurd (nothing x c)
same_named f (z ∷ xs) x y once c d e = by (λ c d. same_named f xs x y once.1 c d e) (first_or_later z x xs c) (first_or_later z y xs d)
  where
    by : (Contains xs x → Contains xs y → x ≡ y) → (z ≡ x) ⊎ Contains xs x → (z ≡ y) ⊎ Contains xs y → x ≡ y
    by rest (inl i) (inl j) = sym i ∙ j
    by rest (inl i) (inr d) = absurd (once.0 (subst (λ (w : List ℕ). Contains (map f xs) w) (sym e ∙ ap f (sym i)) (in_map f xs y d)))
    by rest (inr c) (inl j) = absurd (once.0 (subst (λ (w : List ℕ). Contains (map f xs) w) (e ∙ ap f (sym j)) (in_map f xs x c)))
    by rest (inr c) (inr d) = rest c d

-- ---- names that are found by a test

pub own_bytes : (a : List ℕ) → bytes_eq a a ≡ true
own_bytes a = (bytes_eq-Decides a a).1 refl

pub same_bytes : (a b : List ℕ) → bytes_eq a b ≡ true → a ≡ b
same_bytes a b e = (bytes_eq-Decides a b).0 e

or_right : (a b : Bool) → b ≡ true → a || b ≡ true
or_right true b e = refl
or_right false b e = e

or_left : (a b : Bool) → a ≡ true → a || b ≡ true
or_left a b e = rw e refl

pub has_named : (names : List (List ℕ)) (name : List ℕ) → Contains names name → has_name names name ≡ true
has_named [] name c = absurd (nothing name c)
has_named (n ∷ names) name c = elim (first_or_later n name names c) [
  | inl e ↦ or_left (bytes_eq name n) (has_name names name) ((bytes_eq-Decides name n).1 (sym e))
  | inr d ↦ or_right (bytes_eq name n) (has_name names name) (has_named names name d)
]
