-- The relation of spelling and the limits, and the functions that decide them.
use Rattle.std.proofs.Common.{◌≡◌, ℕ, zero, suc, ◌<◌, Bool, true, false, List, [], ◌∷◌, length, get_or, Option, Some, None, option_map, ℤ, ap, refl, sym, ◌∙◌, subst, arith, inl, inr}
use Rattle.std.specs.Prelude.{◌&&◌, not, ◌==◌, int_le, T, Any, Contains, codes, IfSome}
use Rattle.std.specs.List.{list_any}
use Rattle.std.specs.Option.{option_map_or}
use Rattle.std.specs.Int.Signed.{le_z_yes}
use Rattle.std.specs.Str.{bytes_eq}
use Rattle.std.specs.Cmp.Lexicographic.{bytes_decides}
use Rattle.std.proofs.lemmas.Bool.{cases_Bool, false_from_ne_true, false≢true}
use Rattle.std.proofs.lemmas.List.Folds.{Any-from_list_any, list_any-from_Any}
use borrow.Author.Tests.{eqb-true}
use Rattle.nm_types.specs.declared.value.Value.{Value}
use Rattle.nm_types.specs.declared.value.Value.TheVariants.{Int, Decimal, Text, Name, Bits, Empty, Bool as Flag}
use Rattle.nm_types.specs.LeafType.{Kind, integer, decimal, boolean, string, enumeration, bits, empty, TypeOfLeaf}
use Rattle.nm_types.specs.Limits.{IsWithin, MeetsRange, IsWithinKind, measured, MeetsLimits, is_within, meets_range, is_within_kind, meets_limits, i64_part}
use Rattle.nm_types.specs.Spells.{AreNames, SpellsBits, SpellsValue}
use Rattle.nm_types.specs.Names.{has_text}
use Rattle.nm_types.specs.Reading.{integer_of, decimal_of, are_characters, words, are_bits, bits_text, bits_of, spelled}
use Rattle.nm_types.proofs.Decimals.{and_parts}
use Rattle.nm_types.proofs.Signs.{integer-sound, integer-complete}
use Rattle.nm_types.proofs.Spelling.{decimal-sound, decimal-complete}

-- names among names
pub has_text-sound : (ts : List (List ℕ)) (t : List ℕ) → has_text ts t ≡ true → Contains ts t
has_text-sound [] t e = cc
has_text-sound (x ∷ xs) t e = elim (cases_Bool (bytes_eq x t)) [
  | inl here ↦ (zero, omega arith, (bytes_decides x t).0 here)
  | inr other ↦ (let p = has_text-sound xs t (rw other at e) in (suc p.0, omega (arith, p.1), p.2))
]

pub has_text-complete : (ts : List (List ℕ)) (t : List ℕ) → Contains ts t → has_text ts t ≡ true
has_text-complete ts t c = at ts c.0 c.1 c.2
  where
    at : (us : List (List ℕ)) (k : ℕ) → k < length us → get_or us k t ≡ t → has_text us t ≡ true
    at [] k h e = absurd (omega (arith, h))
    at (x ∷ xs) zero h e = let f : bytes_eq x t ≡ true = (bytes_decides x t).1 e in rw f refl
    at (x ∷ xs) (suc k) h e =
        let p = at xs k (omega (arith, h)) e in
        elim (cases_Bool (bytes_eq x t)) [ inl f ↦ rw f refl | inr f ↦ rw f p ]

pub are_bits-sound : (names ws : List (List ℕ)) → are_bits names ws ≡ true → AreNames names ws
unfolding are_bits
are_bits-sound names [] e = tt
are_bits-sound names (w ∷ ws) e =
    let p = and_parts (has_text names w && not (has_text ws w)) (are_bits names ws) e in
    let q = and_parts (has_text names w) (not (has_text ws w)) p.0 in
    (has_text-sound names w q.0, (λ c. let h = has_text-complete ws w c in false≢true (rw h at q.1)), are_bits-sound names ws p.1)

pub are_bits-complete : (names ws : List (List ℕ)) → AreNames names ws → are_bits names ws ≡ true
unfolding are_bits
are_bits-complete names [] h = refl
are_bits-complete names (w ∷ ws) h =
    let a = has_text-complete names w h.0 in
    let b = false_from_ne_true (has_text ws w) (λ t. h.1 (has_text-sound ws w t)) in
    rw (a, b) (are_bits-complete names ws h.2)

bits-sound : (names : List (List ℕ)) (text t : List ℕ) → bits_of names text ≡ Some t → SpellsBits names text t
unfolding bits_of
bits-sound names text t e = elim (cases_Bool (are_bits names (words text))) [
  | inl y ↦ (let f = rw y at e in
      let g : t ≡ bits_text names (words text) = cc in
      record { named = are_bits-sound names (words text) y; canonical = g })
  | inr n ↦ (let f = rw n at e in cc)
]

bits-complete : (names : List (List ℕ)) (text t : List ℕ) → SpellsBits names text t → bits_of names text ≡ Some t
unfolding bits_of
bits-complete names text t s = let n = are_bits-complete names (words text) s.named in rw n (ap Some (sym s.canonical))

-- what the function finds, the relation relates
pub spelled-sound : (k : Kind) (text : List ℕ) (v : Value) → spelled k text ≡ Some v → SpellsValue k text v
unfolding spelled
spelled-sound (integer low high) text v e = found (integer_of text) refl e
  where
    found : (o : Option ℤ) → integer_of text ≡ o → option_map Int o ≡ Some v → SpellsValue (integer low high) text v
    found None f g = cc
    found (Some z) f g = let h : Int z ≡ v = cc in subst (SpellsValue (integer low high) text) h (integer-sound text z f)
spelled-sound (decimal d) text v e = found (decimal_of d text) refl e
  where
    found : (o : Option ℤ) → decimal_of d text ≡ o → option_map (λ z. Decimal z d) o ≡ Some v → SpellsValue (decimal d) text v
    found None f g = cc
    found (Some z) f g = let h : Decimal z d ≡ v = cc in subst (SpellsValue (decimal d) text) h (refl, decimal-sound d text z f)
spelled-sound boolean text v e = elim (cases_Bool (bytes_eq text (codes "true"))) [
  | inl y ↦ (let f = rw y at e in let h : Flag true ≡ v = cc in subst (SpellsValue boolean text) h ((bytes_decides text (codes "true")).0 y))
  | inr n ↦ (let f = rw n at e in elim (cases_Bool (bytes_eq text (codes "false"))) [
    | inl y ↦ (let g = rw y at f in let h : Flag false ≡ v = cc in subst (SpellsValue boolean text) h ((bytes_decides text (codes "false")).0 y))
    | inr m ↦ (let g = rw m at f in cc)
  ])
]
spelled-sound string text v e = elim (cases_Bool (are_characters text)) [
  | inl y ↦ (let f = rw y at e in let h : Text text ≡ v = cc in subst (SpellsValue string text) h (refl, y))
  | inr n ↦ (let f = rw n at e in cc)
]
spelled-sound (enumeration names) text v e = elim (cases_Bool (has_text names text)) [
  | inl y ↦ (let f = rw y at e in let h : Name text ≡ v = cc in subst (SpellsValue (enumeration names) text) h (refl, has_text-sound names text y))
  | inr n ↦ (let f = rw n at e in cc)
]
spelled-sound (bits all) text v e = found (bits_of all text) refl e
  where
    found : (o : Option (List ℕ)) → bits_of all text ≡ o → option_map Bits o ≡ Some v → SpellsValue (bits all) text v
    found None f g = cc
    found (Some t) f g = let h : Bits t ≡ v = cc in subst (SpellsValue (bits all) text) h (bits-sound all text t f)
spelled-sound empty [] v e = let h : Empty ≡ v = cc in subst (SpellsValue empty []) h refl
spelled-sound empty (b ∷ bs) v e = let f : (length (b ∷ bs) == 0) ≡ false = false_from_ne_true (length (b ∷ bs) == 0) (λ t. omega (arith, eqb-true (length (b ∷ bs)) 0 t)) in let g = rw f at e in cc

-- what the relation relates, the function finds
pub spelled-complete : (k : Kind) (text : List ℕ) (v : Value) → SpellsValue k text v → spelled k text ≡ Some v
unfolding spelled
spelled-complete (integer low high) text (Int z) s = ap (option_map Int) (integer-complete text z s)
spelled-complete (decimal d) text (Decimal z e) s = ap (option_map (λ w. Decimal w d)) (decimal-complete d text z s.1) ∙ ap (λ (f : ℕ). Some (Decimal z f)) (sym s.0)
spelled-complete boolean text (Flag true) s = let f : bytes_eq text (codes "true") ≡ true = (bytes_decides text (codes "true")).1 s in rw f refl
spelled-complete boolean text (Flag false) s = subst (λ (t : List ℕ). spelled boolean t ≡ Some (Flag false)) (sym s) refl
spelled-complete string text (Text t) s = let y = s.1 in rw y (ap (λ (u : List ℕ). Some (Text u)) (sym s.0))
spelled-complete (enumeration names) text (Name t) s = let f = has_text-complete names text s.1 in rw f (ap (λ (u : List ℕ). Some (Name u)) (sym s.0))
spelled-complete (bits all) text (Bits t) s = ap (option_map Bits) (bits-complete all text t s)
spelled-complete empty text Empty s = subst (λ (t : List ℕ). spelled empty t ≡ Some Empty) (sym s) refl
spelled-complete _ text _ s = absurd s

-- limits
T-true : (b : Bool) → T b → b ≡ true
T-true true h = refl
T-true false h = absurd h

within-sound : (z : ℤ) (p : ℤ × ℤ) → is_within z p ≡ true → IsWithin z p
within-sound z p e = let q = and_parts (int_le p.0 z) (int_le z p.1) e in (le_z_yes (subst T (sym q.0) tt), le_z_yes (subst T (sym q.1) tt))

within-complete : (z : ℤ) (p : ℤ × ℤ) → IsWithin z p → is_within z p ≡ true
within-complete z p h = let a = T-true _ h.0.le in let b = T-true _ h.1.le in rw (a, b) refl

parts-sound : (z : ℤ) (parts : List (ℤ × ℤ)) → list_any (is_within z) parts ≡ true → Any (IsWithin z) parts
parts-sound z parts e = let a = Any-from_list_any (is_within z) parts e in (a.0, a.1, a.2, a.3, within-sound z a.1 a.4)

parts-complete : (z : ℤ) (parts : List (ℤ × ℤ)) → Any (IsWithin z) parts → list_any (is_within z) parts ≡ true
parts-complete z parts a = list_any-from_Any (is_within z) parts (a.0, a.1, a.2, a.3, within-complete z a.1 a.4)

range-sound : (z : ℤ) (range : Option (List (ℤ × ℤ))) → meets_range range z ≡ true → MeetsRange range z
range-sound z None e = tt
range-sound z (Some parts) e = parts-sound z parts e

range-complete : (z : ℤ) (range : Option (List (ℤ × ℤ))) → MeetsRange range z → meets_range range z ≡ true
range-complete z None h = refl
range-complete z (Some parts) h = parts-complete z parts h

kind-sound : (k : Kind) (v : Value) → is_within_kind k v ≡ true → IsWithinKind k v
kind-sound (integer low high) (Int z) e = within-sound z (low, high) e
kind-sound (decimal d) (Decimal z c) e = within-sound z i64_part e
kind-sound _ _ e = tt

kind-complete : (k : Kind) (v : Value) → IsWithinKind k v → is_within_kind k v ≡ true
kind-complete (integer low high) (Int z) h = within-complete z (low, high) h
kind-complete (decimal d) (Decimal z c) h = within-complete z i64_part h
kind-complete _ _ h = refl

pub limits-sound : (t : TypeOfLeaf) (v : Value) → meets_limits t v ≡ true → MeetsLimits t v
limits-sound t v e =
    let p = and_parts (is_within_kind t.kind v) (option_map_or (meets_range t.limits) (measured v) true) e in
    (kind-sound t.kind v p.0, rest (measured v) p.1)
  where
    rest : (o : Option ℤ) → option_map_or (meets_range t.limits) o true ≡ true → IfSome o (MeetsRange t.limits)
    rest None e = tt
    rest (Some z) e = range-sound z t.limits e

pub limits-complete : (t : TypeOfLeaf) (v : Value) → MeetsLimits t v → meets_limits t v ≡ true
limits-complete t v h = let a = kind-complete t.kind v h.0 in let b = rest (measured v) h.1 in rw (a, b) refl
  where
    rest : (o : Option ℤ) → IfSome o (MeetsRange t.limits) → option_map_or (meets_range t.limits) o true ≡ true
    rest None e = refl
    rest (Some z) e = range-complete z t.limits e
