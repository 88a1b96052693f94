-- Where names stand, each once.
use Rattle.std.proofs.Common.{◌≡◌, ℕ, zero, suc, ◌+◌, ◌<◌, Bool, true, false, cond, List, [], ◌∷◌, ◌++◌, take, length, get_or, length-take, Option, Some, None, option_map, is_some, nat_cmp, arith, ap, refl, sym, ◌∙◌, inl, inr}
use Rattle.std.specs.Prelude.{◌||◌, not}
use Rattle.std.specs.Option.{IfSome}
use Rattle.std.specs.Str.{bytes_eq}
use Rattle.std.specs.BTreeMap.{is_at}
use Rattle.std.specs.Cmp.Lexicographic.{slice_cmp, texts_ties, bytes_decides}
use Rattle.std.proofs.lemmas.Bool.{cases_Bool, and_parts, false_from_ne_true, true≢false}
use Rattle.std.proofs.lemmas.List.{take_more}
use Rattle.std.proofs.lemmas.Option.{same_Some}
use Rattle.nm_types.specs.Names.{has_text, is_once, place_in}
use Rattle.nm_types.proofs.BitNames.{not_parts}

other_text : (x y : List ℕ) → bytes_eq x y ≡ false → bytes_eq y x ≡ false
other_text x y e = false_from_ne_true (bytes_eq y x) (λ t. true≢false (sym ((bytes_decides x y).1 (sym ((bytes_decides y x).0 t))) ∙ e))

-- the text at a place is there
pub has_at : (ts : List (List ℕ)) (i : ℕ) (d : List ℕ) → i < length ts → has_text ts (get_or ts i d) ≡ true
has_at [] i d h = absurd (omega (arith, h))
has_at (t ∷ ts) zero d h = let e = (bytes_decides t t).1 refl in rw e refl
has_at (t ∷ ts) (suc i) d h = let e = has_at ts i d (omega (arith, h)) in elim (cases_Bool (bytes_eq t (get_or ts i d))) [ inl y ↦ rw y refl | inr n ↦ rw n e ]

absent : (ts : List (List ℕ)) (t : List ℕ) (i : ℕ) (d : List ℕ) → has_text ts t ≡ false → i < length ts → bytes_eq t (get_or ts i d) ≡ false
absent ts t i d a h = false_from_ne_true (bytes_eq t (get_or ts i d)) (λ e. true≢false (sym (ap (has_text ts) ((bytes_decides t (get_or ts i d)).0 e) ∙ has_at ts i d h) ∙ a))

-- the text at a place is none of those before it
pub fresh : (ts : List (List ℕ)) (i : ℕ) (d : List ℕ) → is_once ts ≡ true → i < length ts → has_text (take i ts) (get_or ts i d) ≡ false
unfolding is_once
fresh [] i d o h = absurd (omega (arith, h))
fresh (t ∷ ts) zero d o h = refl
fresh (t ∷ ts) (suc i) d o h =
    let q = and_parts (not (has_text ts t)) (is_once ts) o in
    let l : i < length ts = omega (arith, h) in
    let other = absent ts t i d (not_parts (has_text ts t) q.0) l in
    rw other (fresh ts i d q.1 l)

one_behind : (t : Bool) (n : ℕ) (x : Option ℕ) → option_map (λ place. 1 + place) (cond t (Some n) x) ≡ cond t (Some (suc n)) (option_map (λ place. 1 + place) x)
one_behind true n x = ap Some (omega arith)
one_behind false n x = refl

-- one name more
place_in-push : (name more : List ℕ) (names : List (List ℕ)) → has_text names more ≡ false → place_in name (names ++ more ∷ []) ≡ cond (bytes_eq more name) (Some (length names)) (place_in name names)
unfolding place_in
place_in-push name more [] a = refl
place_in-push name more (n ∷ names) a = elim (cases_Bool (bytes_eq n more)) [
  | inl y ↦ absurd (true≢false (let h : true ≡ bytes_eq n more || has_text names more = rw y refl in h ∙ a))
  | inr other ↦ elim (cases_Bool (bytes_eq n name)) [
    | inl here ↦
        let e : bytes_eq more name ≡ false = ap (bytes_eq more) (sym ((bytes_decides n name).0 here)) ∙ other_text n more other in
        rw (here, e) refl
    | inr not_here ↦
        let rest = place_in-push name more names (rw other at a) in
        rw not_here (ap (option_map (λ place. 1 + place)) rest ∙ one_behind (bytes_eq more name) (length names) (place_in name names))
  ]
]

-- what a map says of the names with one more
pub place_pushed : (names : List (List ℕ)) (i : ℕ) (more name : List ℕ) (old new : Option ℕ) → is_once names ≡ true → i < length names → more ≡ get_or names i more
    → new ≡ cond (is_at (slice_cmp nat_cmp more) name) (Some i) old → old ≡ place_in name (take i names) → new ≡ place_in name (take (i + 1) names)
place_pushed names i more name old new o h g u e =
    let none = ap (has_text (take i names)) g ∙ fresh names i more o h in
    let long : length (take i names) ≡ i = omega (arith, length-take i names, h) in
    u ∙ ap (λ (t : Bool). cond t (Some i) old) (sym (texts_ties more name))
    ∙ ap (cond (bytes_eq more name) (Some i)) e
    ∙ ap (λ (n : ℕ). cond (bytes_eq more name) (Some n) (place_in name (take i names))) (sym long)
    ∙ sym (place_in-push name more (take i names) none)
    ∙ ap (λ (n : List ℕ). place_in name (take i names ++ n ∷ [])) g
    ∙ ap (place_in name) (sym (take_more names i more h))

-- a text that has a place is among the names
pub is_placed : (text : List ℕ) (names : List (List ℕ)) → is_some (place_in text names) ≡ has_text names text
unfolding place_in
is_placed text [] = refl
is_placed text (n ∷ names) = elim (cases_Bool (bytes_eq n text)) [ inl y ↦ rw y refl | inr other ↦ rw other (later (place_in text names) ∙ is_placed text names) ]
  where
    later : (o : Option ℕ) → is_some (option_map (λ place. 1 + place) o) ≡ is_some o
    later None = refl
    later (Some p) = refl

-- and it stands there
pub stands_at : (text : List ℕ) (names : List (List ℕ)) (p : ℕ) → place_in text names ≡ Some p → (p < length names) × ((d : List ℕ) → get_or names p d ≡ text)
unfolding place_in
stands_at text [] p e = cc
stands_at text (n ∷ names) p e = elim (cases_Bool (bytes_eq n text)) [
  | inl y ↦
      let f = rw y at e in
      let zero_is : 0 ≡ p = cc in
      let same = (bytes_decides n text).0 y in
      rw (← zero_is) (omega arith, λ d. same)
  | inr other ↦ behind (λ k f. stands_at text names k f) (place_in text names) refl (rw other at e)
]
  where
    behind : ((k : ℕ) → place_in text names ≡ Some k → (k < length names) × ((d : List ℕ) → get_or names k d ≡ text)) → (o : Option ℕ) → place_in text names ≡ o → option_map (λ place. 1 + place) o ≡ Some p → (p < length (n ∷ names)) × ((d : List ℕ) → get_or (n ∷ names) p d ≡ text)
    behind stands None f g = cc
    behind stands (Some k) f g =
        let rest = stands k f in
        let next : suc k ≡ p = omega (arith, same_Some (1 + k) p g) in
        rw (← next) (omega (arith, rest.0), rest.1)

-- each name is at its place alone
pub place_at : (names : List (List ℕ)) (i : ℕ) (d : List ℕ) → is_once names ≡ true → i < length names → place_in (get_or names i d) names ≡ Some i
unfolding is_once place_in
place_at [] i d o h = absurd (omega (arith, h))
place_at (n ∷ names) zero d o h = let e = (bytes_decides n n).1 refl in rw e refl
place_at (n ∷ names) (suc i) d o h =
    let q = and_parts (not (has_text names n)) (is_once names) o in
    let l : i < length names = omega (arith, h) in
    let other = absent names n i d (not_parts (has_text names n) q.0) l in
    let next : 1 + i ≡ suc i = omega arith in
    rw other (ap (option_map (λ place. 1 + place)) (place_at names i d q.1 l) ∙ ap Some next)

-- a place is one of the names'
pub placed_within : (text : List ℕ) (names : List (List ℕ)) (o : Option ℕ) → o ≡ place_in text names → IfSome o (λ place. place < length names)
placed_within text names None e = tt
placed_within text names (Some p) e = (stands_at text names p (sym e)).0
