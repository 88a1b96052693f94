-- Each device of a change set has an edit, and is one that there is.
use Rattle.std.proofs.Common.{◌≡◌, ◌∙◌, ℕ, suc, ◌+◌, ◌-◌, ◌*◌, ◌%◌, ◌^◌, ◌≤◌, ◌<◌, ◌==◌, Bool, true, false, ◌||◌, cond, List, [], ◌∷◌, fold, find, is_some, Some, bit_or, refl, sym, ap, arith}
use Rattle.std.specs.Int.{w32}
use Rattle.std.specs.List.{All}
use Rattle.std.proofs.lemmas.Bool.Decides.{nat_tests}
use Rattle.std.proofs.lemmas.Nat.Bits.{bit_at-zero}
use Rattle.nm_base.specs.Mask.{mask_contains}
use Rattle.nm_base.proofs.Masks.{with_is}
use Rattle.nm_proto.specs.declared.plan.PlannedEdit.{PlannedEdit}
use Rattle.nm_proto.specs.declared.plan.ChangePlan.{ChangePlan}
use Rattle.nm_proto.specs.Plan.{is_planned, devices_in}
use Rattle.nm_manager.specs.Requests.{is_of_device}
use Rattle.nm_safety.specs.Step.{IsPlanned}
use Rattle.nm_rest_laws.specs.Rest.{IsWithin}
use Rattle.nm_safety.proofs.Basics.{either}

empty_mask : (d : ℕ) → mask_contains 0 d ≡ false
unfolding mask_contains
empty_mask d = ap (λ b. b == 1) (bit_at-zero (d - 1))

module _ (count : ℕ) (few : count ≤ 32) where
  -- each of these edits is of a device that there is
  abbrev AreWithin : List PlannedEdit → Type 0
  AreWithin edits = All (IsWithin count) edits

  first_within : (edit : PlannedEdit) (edits : List PlannedEdit) → AreWithin (edit ∷ edits) → IsWithin count edit
  first_within edit edits all = all 0 edit (omega arith)

  rest_within : (edit : PlannedEdit) (edits : List PlannedEdit) → AreWithin (edit ∷ edits) → AreWithin edits
  rest_within edit edits all k d below = all (suc k) d (omega (arith, below))

  -- a mask that edits are added to has their devices, and what it had
  added : (edits : List PlannedEdit) (mask : ℕ) → AreWithin edits → (d : ℕ) → 0 < d → (P : Type 0) → (mask_contains mask d ≡ true → P) → (is_planned d edits ≡ true → P)
      → mask_contains (fold (λ mask edit. bit_or mask (1 * 2 ^ (edit.device - 1) % 2 ^ 32)) mask edits) d ≡ true → P
  added [] mask all d pos P before planned h = before h
  added (edit ∷ edits) mask all d pos P before planned h =
      let first = first_within edit edits all in
      let one = first.0 in
      let within = first.1 in
      added edits (bit_or mask (1 * 2 ^ (edit.device - 1) % 2 ^ 32)) (rest_within edit edits all) d pos P
      (λ now. either (mask_contains mask d) (d == edit.device) P before (λ is. planned (ap (λ b. b || is_planned d edits) is))
      (sym (with_is w32 mask (edit.device - 1) edit.device refl one (omega (arith, one, within, few)) d pos) ∙ now))
      (λ is. planned (or_right (d == edit.device) (is_planned d edits) is)) h
    where
      or_right : (a b : Bool) → b ≡ true → (a || b) ≡ true
      or_right true b e = refl
      or_right false b e = e

  is_member : (edits : List PlannedEdit) → AreWithin edits → (d : ℕ) → 0 < d → mask_contains (devices_in edits) d ≡ true → is_planned d edits ≡ true
  is_member edits all d pos h = added edits 0 all d pos (is_planned d edits ≡ true) (λ none. absurd (let f : false ≡ true = sym (empty_mask d) ∙ none in cc)) (λ is. is) h

  -- it is a device that there is
  there : (edits : List PlannedEdit) → AreWithin edits → (d : ℕ) → is_planned d edits ≡ true → d ≤ count
  there [] all d h = absurd (let f : false ≡ true = h in cc)
  there (edit ∷ edits) all d h = either (d == edit.device) (is_planned d edits) (d ≤ count)
      (λ is. let same : d ≡ edit.device = number d edit.device is in let within = (first_within edit edits all).1 in omega (arith, same, within))
      (λ is. there edits (rest_within edit edits all) d is) h
    where
      number : (a b : ℕ) → (a == b) ≡ true → a ≡ b
      number a b e = grind (arith, nat_tests)

  pub devices_within : (edits : List PlannedEdit) → AreWithin edits → (d : ℕ) → 0 < d → mask_contains (devices_in edits) d ≡ true → d ≤ count
  devices_within edits all d pos h = there edits all d (is_member edits all d pos h)

  -- and has an edit
  found : (edits : List PlannedEdit) (d : ℕ) → is_planned d edits ≡ true → is_some (find (is_of_device d) edits) ≡ true
  found [] d h = absurd (let f : false ≡ true = h in cc)
  found (edit ∷ edits) d h = by_first (d == edit.device) (edit.device == d) refl refl h (found edits d)
    where
      turned : (a b : ℕ) → (a == b) ≡ true → (b == a) ≡ false → ⊥
      turned a b e f = grind (arith, nat_tests)

      by_first : (b c : Bool) → (d == edit.device) ≡ b → (edit.device == d) ≡ c → (b || is_planned d edits) ≡ true → (is_planned d edits ≡ true → is_some (find (is_of_device d) edits) ≡ true) → is_some (cond c (Some edit) (find (is_of_device d) edits)) ≡ true
      by_first b true e f h later = refl
      by_first true false e f h later = absurd (turned d edit.device e f)
      by_first false false e f h later = later h

  pub each_planned : (plan : ChangePlan) → AreWithin plan.edits → IsPlanned plan (devices_in plan.edits)
  each_planned plan all place h = found plan.edits (place + 1) (is_member plan.edits all (place + 1) (omega arith) h)
