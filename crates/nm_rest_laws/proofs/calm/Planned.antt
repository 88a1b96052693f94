-- The devices of a change set, and the edit of each.
use Rattle.std.proofs.Common.{◌≡◌, ◌∙◌, ℕ, zero, suc, ◌-◌, ◌*◌, ◌%◌, ◌^◌, ◌≤◌, ◌<◌, ◌==◌, nat_lt, Bool, true, false}
use Rattle.std.proofs.Common.{◌||◌, ◌&&◌, cond, List, [], ◌∷◌, length, fold, find, get_or, Some, bit_or, refl, ap, arith}
use Rattle.std.specs.Int.{w32}
use Rattle.std.specs.List.{All}
use Rattle.std.proofs.lemmas.Bool.Decides.{nat_tests}
use Rattle.std.proofs.lemmas.Nat.Bits.{bit_at-zero}
use Rattle.nm_base.specs.Mask.{mask_contains}
use Rattle.nm_base.proofs.Masks.{with_is}
use Rattle.nm_proto.specs.declared.plan.PlannedEdit.{PlannedEdit}
use Rattle.nm_proto.specs.Plan.{is_planned, devices_in}
use Rattle.nm_manager.specs.Requests.{is_of_device, ascend_above}

number_same : (a b : ℕ) → (a == b) ≡ true → a ≡ b
number_same a b e = grind (arith, nat_tests)

itself : (a : ℕ) → (a == a) ≡ true
itself a = grind (arith, nat_tests)

pub empty_mask : (d : ℕ) → mask_contains 0 d ≡ false
unfolding mask_contains
empty_mask d = ap (λ b. b == 1) (bit_at-zero (d - 1))

-- an edit is of a device that there may be
abbrev pub IsNumbered : PlannedEdit → Type 0
IsNumbered edit = (1 ≤ edit.device) × (edit.device ≤ 32)

-- ---- what stands first, and the rest

module _ (P : PlannedEdit → Type 0) (edit : PlannedEdit) (edits : List PlannedEdit) (all : All P (edit ∷ edits)) where
  here : P edit
  here = all 0 edit (omega arith)

  rest : All P edits
  rest k d below = all (suc k) d (omega (arith, below))

-- ---- the mask

or_rest : (a b c : Bool) → ((a || b) || c) ≡ (a || (b || c))
or_rest true b c = refl
or_rest false b c = refl

or_none : (a : Bool) → a ≡ (a || false)
or_none true = refl
or_none false = refl

-- a mask that edits are added to has their devices, and what it had
planned_from : (edits : List PlannedEdit) (mask : ℕ) → All IsNumbered edits → (d : ℕ) → 0 < d
    → mask_contains (fold (λ mask edit. bit_or mask (1 * 2 ^ (edit.device - 1) % 2 ^ 32)) mask edits) d ≡ (mask_contains mask d || is_planned d edits)
planned_from [] mask all d pos = or_none (mask_contains mask d)
planned_from (edit ∷ edits) mask all d pos =
    let first = here IsNumbered edit edits all in
    let low = first.0 in
    let high = first.1 in
    planned_from edits (bit_or mask (1 * 2 ^ (edit.device - 1) % 2 ^ 32)) (rest IsNumbered edit edits all) d pos
    ∙ ap (λ b. b || is_planned d edits) (with_is w32 mask (edit.device - 1) edit.device refl low (omega (arith, low, high)) d pos)
    ∙ or_rest (mask_contains mask d) (d == edit.device) (is_planned d edits)

pub mask_is : (edits : List PlannedEdit) → All IsNumbered edits → (d : ℕ) → 0 < d → mask_contains (devices_in edits) d ≡ is_planned d edits
mask_is edits all d pos = planned_from edits 0 all d pos ∙ ap (λ b. b || is_planned d edits) (empty_mask d)

-- ---- the edit of a device

-- it has one
pub record HasEdit (P : PlannedEdit → Type 0) (edits : List PlannedEdit) (d : ℕ) : Type 0 where
  pub planned : PlannedEdit
  pub found : find (is_of_device d) edits ≡ Some planned
  pub same : planned.device ≡ d
  pub holds : P planned

pub has_edit : (P : PlannedEdit → Type 0) (edits : List PlannedEdit) → All P edits → (d : ℕ) → is_planned d edits ≡ true → HasEdit P edits d
has_edit P [] all d h = absurd (let f : false ≡ true = h in cc)
has_edit P (edit ∷ edits) all d h = by_first (edit.device == d) refl (has_edit P edits (rest P edit edits all) d)
  where
    other : (a b : ℕ) (c : Bool) → (b == a) ≡ false → ((a == b) || c) ≡ true → c ≡ true
    other a b c e h = grind (arith, nat_tests)

    by_first : (c : Bool) → (edit.device == d) ≡ c → (is_planned d edits ≡ true → HasEdit P edits d) → HasEdit P (edit ∷ edits) d
    by_first true e later = record {
      planned = edit;
      found = ap (λ b. cond b (Some edit) (find (is_of_device d) edits)) e;
      same = number_same edit.device d e;
      holds = here P edit edits all;
    }
    by_first false e later =
        let one = later (other d edit.device (is_planned d edits) e h) in
        record { planned = one.planned; found = ap (λ b. cond b (Some edit) (find (is_of_device d) edits)) e ∙ one.found; same = one.same; holds = one.holds }

-- ---- the devices of edits, which ascend

ascends : (a b : Bool) → (a && b) ≡ true → (a ≡ true) × (b ≡ true)
ascends true b h = (refl, h)
ascends false b h = absurd (let f : false ≡ true = h in cc)

pub above : (edits : List PlannedEdit) (low : ℕ) → ascend_above low edits ≡ true → (k : ℕ) (e : PlannedEdit) → k < length edits
    → low < (get_or edits k e).device
above [] low h k e within = absurd (omega (arith, within))
above (edit ∷ edits) low h zero e within = less low edit.device (ascends (nat_lt low edit.device) (ascend_above edit.device edits) h).0
  where
    less : (a b : ℕ) → nat_lt a b ≡ true → a < b
    less a b e = grind (arith, nat_tests)
above (edit ∷ edits) low h (suc k) e within =
    let both = ascends (nat_lt low edit.device) (ascend_above edit.device edits) h in
    let later = above edits edit.device both.1 k e (omega (arith, within)) in
    further low edit.device (get_or edits k e).device both.0 later
  where
    further : (a b c : ℕ) → nat_lt a b ≡ true → b < c → a < c
    further a b c e h = grind (arith, nat_tests)

pub planned_there : (edits : List PlannedEdit) (k : ℕ) (e : PlannedEdit) → k < length edits → is_planned (get_or edits k e).device edits ≡ true
planned_there [] k e within = absurd (omega (arith, within))
planned_there (edit ∷ edits) zero e within = ap (λ b. b || is_planned edit.device edits) (itself edit.device)
planned_there (edit ∷ edits) (suc k) e within =
    or_right ((get_or edits k e).device == edit.device) (is_planned (get_or edits k e).device edits) (planned_there edits k e (omega (arith, within)))
  where
    or_right : (a b : Bool) → b ≡ true → (a || b) ≡ true
    or_right true b e = refl
    or_right false b e = e

-- each is found by its device
pub found_there : (edits : List PlannedEdit) (low : ℕ) → ascend_above low edits ≡ true → (k : ℕ) (e : PlannedEdit) → k < length edits
    → find (is_of_device (get_or edits k e).device) edits ≡ Some (get_or edits k e)
found_there [] low h k e within = absurd (omega (arith, within))
found_there (edit ∷ edits) low h zero e within = ap (λ b. cond b (Some edit) (find (is_of_device edit.device) edits)) (itself edit.device)
found_there (edit ∷ edits) low h (suc k) e within =
    let both = ascends (nat_lt low edit.device) (ascend_above edit.device edits) h in
    let one = get_or edits k e in
    ap (λ b. cond b (Some edit) (find (is_of_device one.device) edits))
    (differs edit.device one.device (above edits edit.device both.1 k e (omega (arith, within))))
    ∙ found_there edits edit.device both.1 k e (omega (arith, within))
  where
    differs : (a b : ℕ) → a < b → (a == b) ≡ false
    differs a b h = grind (arith, nat_tests)
