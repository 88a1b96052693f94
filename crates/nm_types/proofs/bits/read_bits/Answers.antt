use Rattle.std.proofs.Common.{List, ℕ, Ok, is_some, Bor, map, ap, ◌∙◌, sym}
use Rattle.nm_types.specs.declared.value.Value.TheVariants.{Bits}
use Rattle.nm_types.specs.Reading.{are_bits, bits_text}
use Rattle.nm_types.proofs.Texts.{bits_bad, bits_good}
use Rattle.nm_types.proofs.ChosenBits.{chosen_within, chosen_text}
use Rattle.nm_types.proofs.bits.read_bits.Goals as goal

pub returns-in_default : goal.returns-in_default
returns-in_default c =
    let found = ap (map (λ (w : Bor (List ℕ)). w.now)) c.deref.ensures.value ∙ c.in_ok-words.ensures in
    λ limits. bits_bad c.args.names.now limits c.args.text.now (sym (ap is_some c.in_default.is) ∙ c.in_ok-places.ensures.bits ∙ ap (are_bits c.args.names.now) found)

pub bits_text-requires : goal.bits_text-requires
bits_text-requires c = chosen_within c.args.names.now _ c.in_ok-places.field-0 c.in-Some.places c.in-Some.is c.in_ok-places.ensures.places

pub returns : goal.returns
returns c =
    let found = ap (map (λ (w : Bor (List ℕ)). w.now)) c.deref.ensures.value ∙ c.in_ok-words.ensures in
    let text = c.in_ok-bits_text.ensures ∙ chosen_text c.args.names.now _ c.in_ok-places.field-0 c.in-Some.places c.in-Some.is c.in_ok-places.ensures.places c.in_ok-places.ensures.ordered ∙ ap (bits_text c.args.names.now) found in
    λ limits. bits_good c.args.names.now limits c.args.text.now (sym (ap is_some c.in-Some.is) ∙ c.in_ok-places.ensures.bits ∙ ap (are_bits c.args.names.now) found)
    ∙ ap (λ (t : List ℕ). Ok (Bits t)) (sym text)
