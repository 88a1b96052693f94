-- Steps of derivations, with restrictions as they lie in memory and without.
use Rattle.std.proofs.Common.{◌≡◌, refl, arith, List, [], ◌∷◌, ℕ, Option, Some, None, Result, Ok, Err, Bool, true, false}
use Rattle.nm_schema_derive.specs.declared.restrictions.Restrictions.{Restrictions}
use Rattle.nm_schema_derive.specs.declared.derived.StepFault.{StepFault}
use Rattle.nm_schema_derive.specs.declared.members.Listed.{Listed}
use Rattle.nm_schema_derive.specs.Built.{Derivation}
use Rattle.nm_schema_derive.specs.Restricted as derive
use Rattle.nm_schema_typing.specs.Restricting.{TypeRestrictions, restrictions_in}
use Rattle.nm_schema_typing.specs.Meaning.{then_bits, then_names, then_length, then_range, restricted, is_unrestricted}

bits_same : (r : Restrictions) (m : Result Derivation StepFault) → derive.then_bits r m ≡ then_bits (restrictions_in r) m
bits_same r (Err fault) = refl
bits_same r (Ok d) = refl

names_same : (r : Restrictions) (m : Result Derivation StepFault) → derive.then_names r m ≡ then_names (restrictions_in r) m
names_same r (Err fault) = refl
names_same r (Ok d) = bits_same r (derive.names_if d r.names.items)

length_same : (r : Restrictions) (m : Result Derivation StepFault) → derive.then_length r m ≡ then_length (restrictions_in r) m
length_same r (Err fault) = refl
length_same r (Ok d) = names_same r (derive.length_if d r.length)

range_same : (r : Restrictions) (m : Result Derivation StepFault) → derive.then_range r m ≡ then_range (restrictions_in r) m
range_same r (Err fault) = refl
range_same r (Ok d) = length_same r (derive.range_if d r.range)

-- the two steps are one
pub step_same : (r : Restrictions) (d : Derivation) → derive.step d r ≡ restricted (restrictions_in r) d
unfolding restricted
step_same r d = range_same r (derive.digits_if d r.digits)

never : false ≡ true → ⊥
never e = grind (arith, e)

-- without restrictions a type stays
stays : (a b c : Option (List ℕ)) (e f : List Listed) (d : Derivation) → is_unrestricted (record { digits = a; range = b; length = c; names = e; bits = f }) ≡ true → restricted (record { digits = a; range = b; length = c; names = e; bits = f }) d ≡ Ok d
unfolding restricted
stays None None None [] [] d h = refl
stays (Some t) b c e f d h = absurd (never h)
stays None (Some t) c e f d h = absurd (never h)
stays None None (Some t) e f d h = absurd (never h)
stays None None None (s ∷ ss) f d h = absurd (never h)
stays None None None [] (s ∷ ss) d h = absurd (never h)

pub unrestricted_stays : (r : TypeRestrictions) (d : Derivation) → is_unrestricted r ≡ true → restricted r d ≡ Ok d
unrestricted_stays r d h = stays r.digits r.range r.length r.names r.bits d h
