-- What is written of a text means that text.
use Rattle.std.proofs.Common.{◌≡◌, ℕ, List, [], ◌∷◌, ◌++◌, false, true, eqb, refl, inl, inr, subst, sym}
use Rattle.std.specs.Prelude.{◌||◌}
use Rattle.std.proofs.lemmas.Bool.{cases_Bool, eqb-true}
use Rattle.nm_picture_svg.specs.Spelt.{Means}
use Rattle.nm_picture_svg.specs.Spelt.Means.{nothing, itself, less, greater, ampersand, quote, apostrophe, lost}
use Rattle.nm_picture_svg.specs.Xml.{is_markup, is_forbidden, entity_of, escaped_byte, escaped}

-- a byte that stands for itself, or may not stand
plain : (byte : ℕ) (text bytes : List ℕ) → eqb byte 60 ≡ false → eqb byte 62 ≡ false → eqb byte 38 ≡ false → eqb byte 34 ≡ false → eqb byte 39 ≡ false
    → Means text bytes → Means (byte ∷ text) (escaped_byte byte ++ bytes)
plain byte text bytes a b c d e rest = elim (cases_Bool (is_forbidden byte)) [
  | inl y ↦ rw (a, b, c, d, e, y) (lost byte text bytes y rest)
  | inr n ↦ rw (a, b, c, d, e, n) (itself byte text bytes (rw (a, b, c, d, e) refl) n rest)
]

-- a byte that has a meaning, or may not stand
step : (byte : ℕ) (text bytes : List ℕ) → Means text bytes → Means (byte ∷ text) (escaped_byte byte ++ bytes)
step byte text bytes rest = elim (cases_Bool (eqb byte 60)) [
  | inl y ↦ (let same = eqb-true byte 60 y in rw same (less text bytes rest))
  | inr a ↦ elim (cases_Bool (eqb byte 62)) [
    | inl y ↦ (let same = eqb-true byte 62 y in rw same (greater text bytes rest))
    | inr b ↦ elim (cases_Bool (eqb byte 38)) [
      | inl y ↦ (let same = eqb-true byte 38 y in rw same (ampersand text bytes rest))
      | inr c ↦ elim (cases_Bool (eqb byte 34)) [
        | inl y ↦ (let same = eqb-true byte 34 y in rw same (quote text bytes rest))
        | inr d ↦ elim (cases_Bool (eqb byte 39)) [
          | inl y ↦ (let same = eqb-true byte 39 y in rw same (apostrophe text bytes rest))
          | inr e ↦ plain byte text bytes a b c d e rest
        ]
      ]
    ]
  ]
]

pub means_itself : (text : List ℕ) → Means text (escaped text)
means_itself [] = nothing
means_itself (byte ∷ text) = step byte text (escaped text) (means_itself text)
