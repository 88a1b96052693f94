-- Reading texts, names and bits.
use Rattle.std.proofs.Common.{◌≡◌, ℕ, ◌<◌, ◌^◌, Bool, true, false, List, length, Option, Ok, Err, ℤ, pos, to_z, ap, refl, sym, ◌∙◌, arith}
use Rattle.std.specs.Int.{w128}
use Rattle.std.specs.Str.{chars}
use Rattle.std.proofs.lemmas.Int.{to_z_pos}
use Rattle.nm_types.specs.declared.value.Value.TheVariants.{Text, Name, Bits}
use Rattle.nm_types.specs.declared.fault.ValueFault.TheVariants.{BadText, OutOfRange}
use Rattle.nm_types.specs.LeafType.{string, enumeration, bits, TypeOfLeaf}
use Rattle.nm_types.specs.Limits.{meets_range}
use Rattle.nm_types.specs.Names.{has_text}
use Rattle.nm_types.specs.Reading.{are_characters, words, are_bits, bits_text, bits_of, spelled, reading}
use Rattle.nm_types.proofs.Integers.{reading_none, reading_some, reading_out}

module _ (range : Option (List (ℤ × ℤ))) (text : List ℕ) where
  abbrev t : TypeOfLeaf
  t = record { kind = string; limits = range }

  -- the test of the count of characters
  count_alike : (test : Bool) (n : ℕ) → n ≡ length (chars text) → n < 2 ^ 64 → test ≡ meets_range range (to_z w128 n) → meets_range range (pos (length (chars text))) ≡ test
  count_alike test n e h m =
      let wide : n < 2 ^ 127 = omega arith in
      let p : to_z w128 n ≡ pos (length (chars text)) = to_z_pos w128 n wide ∙ ap pos e in
      sym (m ∙ ap (meets_range range) p)

  pub text_bad : false ≡ are_characters text → reading t text ≡ Err BadText
  unfolding spelled
  text_bad e = let s = sym e in reading_none t text (rw s refl)

  pub text_out : true ≡ are_characters text → (n : ℕ) → n ≡ length (chars text) → n < 2 ^ 64 → false ≡ meets_range range (to_z w128 n) → reading t text ≡ Err OutOfRange
  unfolding spelled
  text_out k n e h m = let s = sym k in reading_out t text (Text text) (rw s refl) (count_alike false n e h m)

  pub text_in : true ≡ are_characters text → (n : ℕ) → n ≡ length (chars text) → n < 2 ^ 64 → true ≡ meets_range range (to_z w128 n) → reading t text ≡ Ok (Text text)
  unfolding spelled
  text_in k n e h m = let s = sym k in reading_some t text (Text text) (rw s refl) (count_alike true n e h m)

-- reading a name
module _ (names : List (List ℕ)) (limits : Option (List (ℤ × ℤ))) (text : List ℕ) where
  abbrev n : TypeOfLeaf
  n = record { kind = enumeration names; limits = limits }

  pub name_known : has_text names text ≡ true → reading n text ≡ Ok (Name text)
  unfolding spelled
  name_known e = reading_some n text (Name text) (rw e refl) refl

  pub name_unknown : has_text names text ≡ false → reading n text ≡ Err BadText
  unfolding spelled
  name_unknown e = reading_none n text (rw e refl)

-- reading bits
module _ (names : List (List ℕ)) (limits : Option (List (ℤ × ℤ))) (text : List ℕ) where
  abbrev b : TypeOfLeaf
  b = record { kind = bits names; limits = limits }

  pub bits_bad : false ≡ are_bits names (words text) → reading b text ≡ Err BadText
  unfolding spelled bits_of
  bits_bad e = let s = sym e in reading_none b text (rw s refl)

  pub bits_good : true ≡ are_bits names (words text) → reading b text ≡ Ok (Bits (bits_text names (words text)))
  unfolding spelled bits_of
  bits_good e = let s = sym e in reading_some b text (Bits (bits_text names (words text))) (rw s refl) refl
