-- The canonical text of a value spells it.
use Rattle.std.proofs.Common.{◌≡◌, ℕ, true, false, List, Result, Ok, Err, refl, sym, ap, ◌∙◌, subst}
use Rattle.std.specs.Prelude.{Contains, IfOk}
use Rattle.nm_types.specs.declared.value.Value.{Value}
use Rattle.nm_types.specs.declared.value.Value.TheVariants.{Int, Decimal, Text, Name, Bits, Empty, Bool as Flag}
use Rattle.nm_types.specs.LeafType.{Kind, integer, decimal, boolean, string, enumeration, bits, empty}
use Rattle.nm_types.specs.Spells.{SpellsDecimal, SpellsValue, HasDistinctNames}
use Rattle.nm_types.specs.Reading.{are_characters}
use Rattle.nm_types.specs.Canonical.{canonical, decimal_text, IsHeld}
use Rattle.nm_types.proofs.Canonicals.{integer-canonical, decimal-canonical}
use Rattle.nm_types.proofs.BitTexts.{bits-canonical}

pub canonical-spells : (k : Kind) (text : List ℕ) (v : Value) → IsHeld v → HasDistinctNames k → SpellsValue k text v → SpellsValue k (canonical v) v
unfolding canonical
canonical-spells (integer low high) text (Int z) h d s = integer-canonical z h
canonical-spells (decimal c) text (Decimal z e) h d s = (s.0, subst (λ (n : ℕ). SpellsDecimal n (decimal_text z e) z) s.0 (decimal-canonical z e h))
canonical-spells boolean text (Flag true) h d s = refl
canonical-spells boolean text (Flag false) h d s = refl
canonical-spells string text (Text t) h d s = (refl, ap are_characters s.0 ∙ s.1)
canonical-spells (enumeration names) text (Name t) h d s = (refl, subst (Contains names) (sym s.0) s.1)
canonical-spells (bits all) text (Bits t) h d s = bits-canonical all text t d s
canonical-spells empty text Empty h d s = refl
canonical-spells _ text _ h d s = absurd s

pub written : {E : Type 0} (r : Result (List ℕ) E) (k : Kind) (v : Value) → IsHeld v → IfOk r (λ label. label ≡ canonical v) → IfOk r (λ label. (text : List ℕ) → HasDistinctNames k → SpellsValue k text v → SpellsValue k label v)
written (Ok label) k v h e = λ text d s. subst (λ (l : List ℕ). SpellsValue k l v) (sym e) (canonical-spells k text v h d s)
written (Err x) k v h e = tt
