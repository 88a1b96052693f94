-- The canonical text of bits is a spelling of them.
use Rattle.std.proofs.Common.{◌≡◌, ℕ, Bool, true, false, List, [], ◌∷◌, filter, ap, refl, sym, ◌∙◌, subst, inl, inr}
use Rattle.std.specs.Prelude.{◌&&◌, not, ◌||◌}
use Rattle.std.specs.List.{list_all}
use Rattle.std.specs.Str.{bytes_eq}
use Rattle.std.proofs.lemmas.Bool.{cases_Bool}
use Rattle.nm_types.specs.Names.{has_text, is_once}
use Rattle.std.specs.Cmp.Lexicographic.{bytes_decides}
use Rattle.nm_types.specs.Reading.{are_bits}
use Rattle.nm_types.proofs.Decimals.{and_parts}

-- ---- membership as a test

same_text : (x : List ℕ) → bytes_eq x x ≡ true
same_text x = (bytes_decides x x).1 refl

or_true : (a : Bool) → a || true ≡ true
or_true true = refl
or_true false = refl

-- each text of a list has what the texts have that are found in it
pub list_all-from : (f : List ℕ → Bool) (ts : List (List ℕ)) → ((x : List ℕ) → has_text ts x ≡ true → f x ≡ true) → list_all f ts ≡ true
list_all-from f [] h = refl
list_all-from f (t ∷ ts) h =
    let e : has_text (t ∷ ts) t ≡ true = rw (same_text t) refl in
    rw (h t e) (list_all-from f ts (λ x m. h x (let g : bytes_eq t x || has_text ts x ≡ true = rw m (or_true (bytes_eq t x)) in g)))

pub list_all-at : (f : List ℕ → Bool) (ts : List (List ℕ)) → list_all f ts ≡ true → (x : List ℕ) → has_text ts x ≡ true → f x ≡ true
list_all-at f [] h x m = cc
list_all-at f (t ∷ ts) h x m =
    let p = and_parts (f t) (list_all f ts) h in
    elim (cases_Bool (bytes_eq t x)) [
      | inl e ↦ subst (λ (y : List ℕ). f y ≡ true) ((bytes_decides t x).0 e) p.0
      | inr n ↦ list_all-at f ts p.1 x (rw n at m)
    ]

and_false : (a : Bool) → false ≡ a && false
and_false true = refl
and_false false = refl

pub not_parts : (a : Bool) → not a ≡ true → a ≡ false
not_parts true e = cc
not_parts false e = refl

-- ---- names that are chosen

pub chosen-has : (p : List ℕ → Bool) (ts : List (List ℕ)) (x : List ℕ) → has_text (filter p ts) x ≡ has_text ts x && p x
chosen-has p [] x = refl
chosen-has p (t ∷ ts) x = elim (cases_Bool (bytes_eq t x)) [
  | inl e ↦ (let same : t ≡ x = (bytes_decides t x).0 e in subst (λ (y : List ℕ). has_text (filter p (t ∷ ts)) y ≡ has_text (t ∷ ts) y && p y) same (own t ts (chosen-has p ts t)))
  | inr n ↦ elim (cases_Bool (p t)) [
    | inl y ↦ rw (y, n) (chosen-has p ts x)
    | inr m ↦ rw (m, n) (chosen-has p ts x)
  ]
]
  where
    own : (u : List ℕ) (us : List (List ℕ)) → has_text (filter p us) u ≡ has_text us u && p u → has_text (filter p (u ∷ us)) u ≡ has_text (u ∷ us) u && p u
    own u us g = elim (cases_Bool (p u)) [
      | inl y ↦ (let s = same_text u in rw (y, s) refl)
      | inr m ↦ (let s = same_text u in rw (m, s) (g ∙ rw m (sym (and_false (has_text us u)))))
    ]

pub chosen-once : (p : List ℕ → Bool) (ts : List (List ℕ)) → is_once ts ≡ true → is_once (filter p ts) ≡ true
unfolding is_once
chosen-once p [] h = refl
chosen-once p (t ∷ ts) h =
    let q = and_parts (not (has_text ts t)) (is_once ts) h in
    let none = not_parts (has_text ts t) q.0 in
    elim (cases_Bool (p t)) [
      | inl y ↦ (let g : has_text (filter p ts) t ≡ false = chosen-has p ts t ∙ rw none refl in rw y (rw g (chosen-once p ts q.1)))
      | inr m ↦ rw m (chosen-once p ts q.1)
    ]

pub chosen-same : (p q : List ℕ → Bool) (ts : List (List ℕ)) → ((x : List ℕ) → has_text ts x ≡ true → q x ≡ p x) → filter q ts ≡ filter p ts
chosen-same p q [] h = refl
chosen-same p q (t ∷ ts) h =
    let e : q t ≡ p t = h t (rw (same_text t) refl) in
    let r = chosen-same p q ts (λ x m. h x (let g : bytes_eq t x || has_text ts x ≡ true = rw m (or_true (bytes_eq t x)) in g)) in
    elim (cases_Bool (p t)) [
      | inl y ↦ (let z = e ∙ y in rw (z, y) (ap (λ (l : List (List ℕ)). t ∷ l) r))
      | inr n ↦ (let z = e ∙ n in rw (z, n) r)
    ]

pub bits-from : (names ts : List (List ℕ)) → ((x : List ℕ) → has_text ts x ≡ true → has_text names x ≡ true) → is_once ts ≡ true → are_bits names ts ≡ true
unfolding are_bits is_once
bits-from names [] h o = refl
bits-from names (t ∷ ts) h o =
    let q = and_parts (not (has_text ts t)) (is_once ts) o in
    let none = not_parts (has_text ts t) q.0 in
    let here : has_text names t ≡ true = h t (rw (same_text t) refl) in
    rw (here, none) (bits-from names ts (λ x m. h x (let g : bytes_eq t x || has_text ts x ≡ true = rw m (or_true (bytes_eq t x)) in g)) q.1)
