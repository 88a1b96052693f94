-- Where all agree, an audit finds nothing.
use Rattle.std.proofs.Common.{◌≡◌, ◌<◌, ◌⊎◌, inl, inr, ℕ, zero, suc, ◌-◌, ◌==◌, ◌||◌, Bool, true, false, cond, nat_lt, List, [], ◌∷◌, length, take, fold, slice_get, slice_index_or, Some, None, refl, sym, ap, subst, ◌∙◌, arith, if◌then◌else◌}
use Rattle.std.proofs.lemmas.Bool.{cases_eq}
use Rattle.std.proofs.lemmas.Bool.Decides.{nat_tests}
use Rattle.std.proofs.lemmas.List.{get_or-replicate, length-replicate, length-set}
use Rattle.std.proofs.lemmas.Option.{none-some}
use Rattle.nm_cells.specs.declared.pass.PassEntry.{PassEntry}
use Rattle.nm_cells.specs.Pass.{PassState}
use Rattle.nm_cells.specs.State.{CellView}
use Rattle.nm_audit.specs.declared.slot.SlotRecord.{SlotRecord}
use Rattle.nm_audit.specs.First.{FitTo}
use Rattle.nm_audit.specs.Audited.{Audited, history_of, noted_at, noted_in, number_of}
use Rattle.nm_audit.specs.Passes.{IsDevice, no_places, place_on, passed, raised_by, raised, raised_by_slot, heights, PassFits, SlotFits, OperatorFits}
use Rattle.nm_audit.specs.Held.{is_advance, CellKept, held_of}
use Rattle.nm_audit.specs.Audits.{Audits}
use Rattle.nm_audit.specs.Agree.{Agree, AllStand, Ascends, Precedes}
use Rattle.nm_audit.proofs.Bounds.{AreDevices, passed_here, passed_there, length_raised_by, length_raised}
use Rattle.nm_audit.proofs.Holders.{holders_told}

-- ---- the places that are kept are those of entries

-- a place is that of an entry of the device, or none
record IsOf (entries : List PassEntry) (device place : ℕ) : Type 0 where
  index : ℕ
  it : PassEntry
  at : slice_get entries index ≡ Some it
  device_is : it.device ≡ device
  place_is : place ≡ it.position

in_front : {A : Type 0} (xs : List A) (n i : ℕ) (x : A) → slice_get (take n xs) i ≡ Some x → slice_get xs i ≡ Some x
in_front xs zero i x e = absurd (none-some x e)
in_front [] (suc n) i x e = absurd (none-some x e)
in_front (y ∷ xs) (suc n) zero x e = e
in_front (y ∷ xs) (suc n) (suc i) x e = in_front xs n i x e

shorter : {A : Type 0} (xs : List A) (n i : ℕ) (x : A) → slice_get (take n xs) i ≡ Some x → i < n
shorter xs zero i x e = absurd (none-some x e)
shorter [] (suc n) i x e = absurd (none-some x e)
shorter (y ∷ xs) (suc n) zero x e = omega arith
shorter (y ∷ xs) (suc n) (suc i) x e = let less = shorter xs n i x e in omega (arith, less)

no_place : (device : ℕ) → IsDevice device → place_on no_places device ≡ 0
no_place device is = let low = is.low in let high = is.high in get_or-replicate 32 (device - 1) 0 0 (omega (arith, low, high))

-- the last place, along the entries that are left
lasts_from : (entries : List PassEntry) (places : List ℕ) (device : ℕ) → length places ≡ 32 → IsDevice device → AreDevices entries → (place_on (fold passed places entries) device ≡ place_on places device) ⊎ IsOf entries device (place_on (fold passed places entries) device)
lasts_from [] places device long is are = inl refl
lasts_from (entry ∷ entries) places device long is are =
    elim (lasts_from entries (passed places entry) device (length-set places (entry.device - 1) entry.position ∙ long) is (λ k it at. are (suc k) it at)) [
      | inl same ↦ (elim (cases_eq device entry.device) [
        | inl here ↦ inr (record {
          index = 0;
          it = entry;
          at = refl;
          device_is = sym here;
          place_is = same ∙ (ap (place_on (passed places entry)) here ∙ passed_here places entry long (are 0 entry refl));
        })
        | inr other ↦ inl (same ∙ passed_there places entry device (are 0 entry refl) is other)
      ])
      | inr later ↦ inr (record { index = suc later.index; it = later.it; at = later.at; device_is = later.device_is; place_is = later.place_is })
    ]

-- the highest place
raised_from : (entries : List PassEntry) (places : List ℕ) (device : ℕ) → length places ≡ 32 → IsDevice device → AreDevices entries → (place_on (raised places entries) device ≡ place_on places device) ⊎ IsOf entries device (place_on (raised places entries) device)
raised_from [] places device long is are = inl refl
raised_from (entry ∷ entries) places device long is are =
    elim (raised_from entries (raised_by places entry) device (length_raised_by places entry ∙ long) is (λ k it at. are (suc k) it at)) [
      | inl same ↦ (elim (one (nat_lt (place_on places entry.device) entry.position)) [
        | inl stays ↦ inl (same ∙ stays)
        | inr here ↦ inr (record { index = 0; it = entry; at = refl; device_is = here.0; place_is = same ∙ here.1 })
      ])
      | inr later ↦ inr (record { index = suc later.index; it = later.it; at = later.at; device_is = later.device_is; place_is = later.place_is })
    ]
  where
    one : (b : Bool) → (place_on (if b then passed places entry else places) device ≡ place_on places device) ⊎ ((entry.device ≡ device) × (place_on (if b then passed places entry else places) device ≡ entry.position))
    one false = inl refl
    one true = elim (cases_eq device entry.device) [
      | inl here ↦ inr (sym here, ap (place_on (passed places entry)) here ∙ passed_here places entry long (are 0 entry refl))
      | inr other ↦ inl (passed_there places entry device (are 0 entry refl) is other)
    ]

-- a place is that of an entry of some of the slots
record IsOfSlots (slots : List SlotRecord) (device place : ℕ) : Type 0 where
  number : ℕ
  slot : SlotRecord
  there : slice_get slots number ≡ Some slot
  of : IsOf slot.pass.entries device place

heights_from : (slots : List SlotRecord) (places : List ℕ) (device : ℕ) → length places ≡ 32 → IsDevice device → ((n : ℕ) (slot : SlotRecord) → slice_get slots n ≡ Some slot → AreDevices slot.pass.entries)
    → (place_on (fold raised_by_slot places slots) device ≡ place_on places device) ⊎ IsOfSlots slots device (place_on (fold raised_by_slot places slots) device)
heights_from [] places device long is are = inl refl
heights_from (slot ∷ slots) places device long is are =
    elim (heights_from slots (raised_by_slot places slot) device (length_raised slot.pass.entries places ∙ long) is (λ n it at. are (suc n) it at)) [
      | inl same ↦ (elim (raised_from slot.pass.entries places device long is (are 0 slot refl)) [
        | inl stays ↦ inl (same ∙ stays)
        | inr here ↦ inr (record { number = 0; slot = slot; there = refl; of = subst (IsOf slot.pass.entries device) (sym same) here })
      ])
      | inr later ↦ inr (record { number = suc later.number; slot = later.slot; there = later.there; of = later.of })
    ]

-- ---- passes

module _ {Config Node : Type 0} (cells : List (CellView Config Node)) where
  -- an entry that stands has a place
  has_place : (entry : PassEntry) → noted_at cells entry.device entry.position ≡ Some entry.noted → 0 < entry.position
  has_place entry told = by_zero (entry.position == 0) refl
    where
      by_zero : (b : Bool) → (entry.position == 0) ≡ b → 0 < entry.position
      by_zero true e = absurd (none-some entry.noted (sym (ap (λ c. cond c None (noted_in (slice_get cells (entry.device - 1)) entry.position)) e) ∙ told))
      by_zero false e = grind (arith, nat_tests, e)

  devices_stand : (entries : List PassEntry) → AllStand cells entries → AreDevices entries
  devices_stand entries stand k it at = (stand k it at).device_is

  pass_fits : (highest : List ℕ) (entries : List PassEntry) → AllStand cells entries → Ascends entries → ((k : ℕ) (it : PassEntry) → slice_get entries k ≡ Some it → place_on highest it.device < it.position) → PassFits cells highest entries
  pass_fits highest entries stand ascends behind place it less at =
      let stands = stand place it at in
      record {
        device_is = stands.device_is;
        stands = stands.there;
        ascends = elim (lasts_from (take place entries) no_places it.device (length-replicate {A = ℕ} 32 0) stands.device_is (λ k one there. devices_stand entries stand k one (in_front entries place k one there))) [
          | inl none ↦ (let zero_ = none ∙ no_place it.device stands.device_is in let some = has_place it stands.there in omega (arith, zero_, some))
          | inr of ↦ (
              let before = shorter entries place of.index of.it of.at in
              let first = ascends of.index place of.it it before (in_front entries place of.index of.it of.at) at of.device_is in
              let its = of.place_is in
              omega (arith, first, its))
        ];
        in_order = behind place it at;
      }

  slot_fits : (slots : List SlotRecord) → ((n : ℕ) (slot : SlotRecord) → slice_get slots n ≡ Some slot → AllStand cells slot.pass.entries) → ((n : ℕ) (slot : SlotRecord) → slice_get slots n ≡ Some slot → Ascends slot.pass.entries)
      → ((i j : ℕ) (lower higher : SlotRecord) → i < j → slice_get slots i ≡ Some lower → slice_get slots j ≡ Some higher → Precedes lower.pass.entries higher.pass.entries) → FitTo (SlotFits cells slots) slots (length slots)
  slot_fits slots stand ascends in_order n slot less at =
      pass_fits (heights (take n slots)) slot.pass.entries (stand n slot at) (ascends n slot at) (λ k it there.
      let stands = stand n slot at k it there in
      elim (heights_from (take n slots) no_places it.device (length-replicate {A = ℕ} 32 0) stands.device_is (λ i lower here. devices_stand lower.pass.entries (stand i lower (in_front slots n i lower here)))) [
        | inl none ↦ (let zero_ = none ∙ no_place it.device stands.device_is in let some = has_place it stands.there in omega (arith, zero_, some))
        | inr from ↦ (
            let below = shorter slots n from.number from.slot from.there in
            let first = in_order from.number n from.slot slot below (in_front slots n from.number from.slot from.there) at from.of.index k from.of.it it from.of.at there from.of.device_is in
            let its = from.of.place_is in
            omega (arith, first, its))
      ])

  operator_fits : (operators : List PassState) → ((n : ℕ) (pass : PassState) → slice_get operators n ≡ Some pass → AllStand cells pass.entries) → ((n : ℕ) (pass : PassState) → slice_get operators n ≡ Some pass → Ascends pass.entries)
      → FitTo (OperatorFits cells) operators (length operators)
  operator_fits operators stand ascends n pass less at =
      pass_fits no_places pass.entries (stand n pass at) (ascends n pass at) (λ k it there.
      let stands = stand n pass at k it there in
      let zero_ = no_place it.device stands.device_is in
      let some = has_place it stands.there in
      omega (arith, zero_, some))

-- ---- histories

right_if : (advance held : Bool) → (advance ≡ false → held ≡ true) → (advance || held) ≡ true
right_if true held is = refl
right_if false held is = is refl

kept_if : {Config Node : Type 0} (a : Audited Config Node) → Agree a → FitTo (CellKept a.slots a.operators) a.cells (length a.cells)
kept_if a agree n cell less at place entry within there =
    right_if (is_advance entry.event) (slice_index_or (held_of a.slots a.operators cell) place false) (λ asked.
    holders_told (number_of cell) place a.slots a.operators (length (history_of cell)) within ∙ agree.held n place cell entry at there asked)

-- ---- all of it

pub agree_audits : {Config Node : Type 0} (a : Audited Config Node) → Agree a → Audits a None
agree_audits a agree = (
  ((λ place cell less at. agree.cells_placed place cell at), (λ place slot less at. agree.slots_placed place slot at)),
  (
    (
      (slot_fits a.cells a.slots agree.stand.of_slots agree.ascend.of_slots agree.in_order, operator_fits a.cells a.operators agree.stand.of_operators agree.ascend.of_operators),
      kept_if a agree,
    ),
    ((λ n slot less at. (λ place cell within there. agree.phases n place slot cell at there)), (λ n slot less at. agree.verdicts n slot at)),
  ),
)
