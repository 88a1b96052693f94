-- What an answer says of a text's spellings.
use Rattle.std.proofs.Common.{◌≡◌, List, ℕ, Option, Some, None, Result, Ok, Err, refl, sym, ◌∙◌, subst, inl, inr}
use Rattle.std.specs.Prelude.{IfOk, IsErrOf}
use Rattle.std.proofs.lemmas.Bool.{cases_Bool, false_from_ne_true, true≢false}
use Rattle.nm_types.specs.declared.value.Value.{Value}
use Rattle.nm_types.specs.declared.fault.ValueFault.{ValueFault}
use Rattle.nm_types.specs.declared.fault.ValueFault.TheVariants.{BadText, OutOfRange, NoMemory}
use Rattle.nm_types.specs.LeafType.{TypeOfLeaf}
use Rattle.nm_types.specs.Limits.{MeetsLimits, meets_limits}
use Rattle.nm_types.specs.Spells.{SpellsValue}
use Rattle.nm_types.specs.Reading.{spelled, judged, reading, Gives}
use Rattle.nm_types.proofs.Integers.{reading_none, reading_some, reading_out}
use Rattle.nm_types.proofs.Readings.{spelled-sound, spelled-complete, limits-sound, limits-complete}

module _ (t : TypeOfLeaf) (text : List ℕ) where
  judged-ok : (o : Option Value) (v : Value) → spelled t.kind text ≡ o → judged t o ≡ Ok v → SpellsValue t.kind text v × MeetsLimits t v
  judged-ok None v s e = cc
  judged-ok (Some w) v s e = elim (cases_Bool (meets_limits t w)) [
    | inl y ↦ (let f = rw y at e in let g : w ≡ v = cc in subst (λ (x : Value). SpellsValue t.kind text x × MeetsLimits t x) g (spelled-sound t.kind text w s, limits-sound t w y))
    | inr n ↦ (let f = rw n at e in cc)
  ]

  judged-bad : (o : Option Value) → spelled t.kind text ≡ o → judged t o ≡ Err BadText → spelled t.kind text ≡ None
  judged-bad None s e = s
  judged-bad (Some w) s e = elim (cases_Bool (meets_limits t w)) [
    | inl y ↦ (let f = rw y at e in cc)
    | inr n ↦ (let f = rw n at e in cc)
  ]

  judged-out : (o : Option Value) → spelled t.kind text ≡ o → judged t o ≡ Err OutOfRange → (v : Value) × SpellsValue t.kind text v × (MeetsLimits t v → ⊥)
  judged-out None s e = cc
  judged-out (Some w) s e = elim (cases_Bool (meets_limits t w)) [
    | inl y ↦ (let f = rw y at e in cc)
    | inr n ↦ (w, spelled-sound t.kind text w s, λ m. true≢false (sym (limits-complete t w m) ∙ n))
  ]

  pub found_law : (r : Result Value ValueFault) → Gives r (reading t text) → IfOk r (λ v. SpellsValue t.kind text v × MeetsLimits t v)
  found_law (Ok v) g = judged-ok (spelled t.kind text) v refl g
  found_law (Err e) g = tt

  same_answer : (r a : Result Value ValueFault) → Gives r (reading t text) → reading t text ≡ a → Gives r a
  same_answer r a g e = subst (Gives r) e g

  pub read_law : (r : Result Value ValueFault) → Gives r (reading t text) → (v : Value) → SpellsValue t.kind text v → MeetsLimits t v → Gives r (Ok v)
  read_law r g v s m = same_answer r (Ok v) g (reading_some t text v (spelled-complete t.kind text v s) (limits-complete t v m))

  pub beyond_law : (r : Result Value ValueFault) → Gives r (reading t text) → (v : Value) → SpellsValue t.kind text v → (MeetsLimits t v → ⊥) → Gives r (Err OutOfRange)
  beyond_law r g v s m = same_answer r (Err OutOfRange) g (reading_out t text v (spelled-complete t.kind text v s) (false_from_ne_true (meets_limits t v) (λ y. m (limits-sound t v y))))

  none-spelled : (o : Option Value) → spelled t.kind text ≡ o → ((v : Value) → SpellsValue t.kind text v → ⊥) → spelled t.kind text ≡ None
  none-spelled None s h = s
  none-spelled (Some w) s h = absurd (h w (spelled-sound t.kind text w s))

  pub not_spelled_law : (r : Result Value ValueFault) → Gives r (reading t text) → ((v : Value) → SpellsValue t.kind text v → ⊥) → Gives r (Err BadText)
  not_spelled_law r g h = same_answer r (Err BadText) g (reading_none t text (none-spelled (spelled t.kind text) refl h))

  pub bad_text_law : (r : Result Value ValueFault) → Gives r (reading t text) → IsErrOf r BadText → (v : Value) → SpellsValue t.kind text v → ⊥
  bad_text_law (Ok v) g h = cc
  bad_text_law (Err BadText) g h = λ v s. let n = judged-bad (spelled t.kind text) refl g in let p = spelled-complete t.kind text v s in cc
  bad_text_law (Err OutOfRange) g h = cc
  bad_text_law (Err NoMemory) g h = cc

  pub out_of_range_law : (r : Result Value ValueFault) → Gives r (reading t text) → IsErrOf r OutOfRange → (v : Value) × SpellsValue t.kind text v × (MeetsLimits t v → ⊥)
  out_of_range_law (Ok v) g h = cc
  out_of_range_law (Err BadText) g h = cc
  out_of_range_law (Err OutOfRange) g h = judged-out (spelled t.kind text) refl g
  out_of_range_law (Err NoMemory) g h = cc
