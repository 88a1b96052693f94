-- What every world keeps, at each step of the manager.
use Rattle.std.proofs.Common.{ℕ, ◌≡◌, zero, suc, ◌-◌, ◌+◌, ◌≤◌, Bool, true, false, nat_eq, List, [], ◌∷◌, ◌++◌, Option, Some, None, slice_get, slice_set, refl, sym, subst, arith}
use Rattle.nm_proto.specs.declared.journal.Entry.{Entry}
use Rattle.nm_proto.specs.declared.journal.Entry.TheVariants.{Decided}
use Rattle.nm_proto.specs.declared.journal.Verdict.{Verdict}
use Rattle.nm_proto.specs.declared.plan.ChangePlan.{ChangePlan}
use Rattle.nm_proto.specs.Content.{Meaning}
use Rattle.nm_proto.specs.Plan.{devices_in}
use Rattle.nm_journal.specs.Entries.{decides, may_follow}
use Rattle.nm_history.specs.History.{RecordedState}
use Rattle.nm_manager.specs.Slot.{SlotState}
use Rattle.nm_manager.specs.Manager.{ManagerState, with_slot, with_entry, start_anew, starts_anew}
use Rattle.nm_world.specs.World.{Setting, CoreState, manager_in, with_manager}
use Rattle.nm_safety.specs.Support.{Owners, IsKept, KeptAt, IsOrdered, IsSupported}
use Rattle.nm_safety.proofs.Entries.{ordered_next, nat_same}
use Rattle.nm_safety.proofs.Keeps.{entered_kept}
use Rattle.nm_safety.proofs.Anew.{anew_kept}

-- one of a list is another
pub others_stay : {A : Type 0} (R : ℕ → Option A → Type 0) (xs : List A) (i : ℕ) (old new : A) → slice_get xs i ≡ Some old → R i (Some new) → ((j : ℕ) → (j ≡ i → ⊥) → R j (slice_get xs j))
    → (j : ℕ) → R j (slice_get (slice_set xs i new) j)
others_stay R [] i old new h now all j = absurd (let g : None ≡ Some old = h in cc)
others_stay R (x ∷ xs) zero old new h now all zero = now
others_stay R (x ∷ xs) zero old new h now all (suc j) = all (suc j) (λ e. absurd (omega (arith, e)))
others_stay R (x ∷ xs) (suc i) old new h now all zero = all zero (λ e. absurd (omega (arith, e)))
others_stay R (x ∷ xs) (suc i) old new h now all (suc j) = others_stay (λ k. R (suc k)) xs i old new h now (λ k ne. all (suc k) (λ e. ne (omega (arith, e)))) j

pub not_same : (j c : ℕ) → (suc j ≡ c → ⊥) → (b : Bool) → nat_eq (suc j) c ≡ b → b ≡ false
not_same j c ne false e = refl
not_same j c ne true e = absurd (ne (nat_same (suc j) c e))

module _ {Config Node : Type 0} (owners : ℕ → Owners) (devices : List (RecordedState Config Node)) where
  kept_map : (change : ℕ) (before after : List Entry) → ((members : ℕ) (slot : SlotState) → IsKept change members before owners devices slot → IsKept change members after owners devices slot)
      → (plan : Option ChangePlan) (slot : Option SlotState) → KeptAt change before owners devices plan slot → KeptAt change after owners devices plan slot
  kept_map change before after step None None k = k
  kept_map change before after step None (Some slot) k = k
  kept_map change before after step (Some plan) None k = k
  kept_map change before after step (Some plan) (Some slot) k = step (devices_in plan.edits) slot k

  -- the manager starts anew
  pub all_anew : (entries : List Entry) → ((change : ℕ) → IsOrdered change entries) → (base : ℕ) (plans : List ChangePlan) (slots : List SlotState)
      → ((place : ℕ) → KeptAt (base + place) entries owners devices (slice_get plans place) (slice_get slots place))
      → (place : ℕ) → KeptAt (base + place) entries owners devices (slice_get plans place) (slice_get (start_anew entries base plans slots) place)
  all_anew entries ordered base [] slots all place = all place
  all_anew entries ordered base (plan ∷ plans) [] all place = absurd (all 0)
  all_anew entries ordered base (plan ∷ plans) (slot ∷ slots) all zero =
      let same : base ≡ base + 0 = omega arith in
      subst (λ change. IsKept change (devices_in plan.edits) entries owners devices (starts_anew entries base (devices_in plan.edits) slot)) same
      (anew_kept base (devices_in plan.edits) owners devices entries (ordered base) slot (subst (λ change. IsKept change (devices_in plan.edits) entries owners devices slot) (sym same) (all 0)))
  all_anew entries ordered base (plan ∷ plans) (slot ∷ slots) all (suc place) =
      let same : suc base + place ≡ base + suc place = omega arith in
      subst (λ change. KeptAt change entries owners devices (slice_get plans place) (slice_get (start_anew entries (suc base) plans slots) place)) same
      (all_anew entries ordered (suc base) plans slots
      (λ j. subst (λ change. KeptAt change entries owners devices (slice_get plans j) (slice_get slots j)) (one_on base j) (all (suc j))) place)
    where
      one_on : (base j : ℕ) → base + suc j ≡ suc base + j
      one_on base j = omega arith

module _ {Config TheEdit Node : Type 0} (m : Meaning Config TheEdit Node) (setting : Setting TheEdit) (w : CoreState Config Node) (s : IsSupported m setting w) where
  abbrev state : ManagerState
  state = manager_in w

  abbrev After : ManagerState → Type 0
  After now = IsSupported m setting (with_manager w now)

  same_after : After state
  same_after = record { owners = s.owners; entries = s.entries; devices = s.devices; slots = s.slots; operators = s.operators }

  -- an entry comes that decides nothing
  pub entry_moves : (entry : Entry) → may_follow w.entries entry ≡ true → ((k : ℕ) → decides k entry ≡ false) → After (with_entry state entry)
  entry_moves entry may plain = record {
    owners = s.owners;
    entries = λ k. ordered_next k w.entries (s.entries k) entry may;
    devices = s.devices;
    slots = λ place.
        kept_map s.owners w.devices (suc place) w.entries (w.entries ++ entry ∷ []) (λ members slot k. entered_kept (suc place) members s.owners w.devices w.entries slot k entry (plain (suc place)))
        (slice_get setting.plans place) (slice_get w.slots place) (s.slots place);
    operators = s.operators;
  }

  module _ (change : ℕ) (numbered : 1 ≤ change) where
    abbrev p : ℕ
    p = change - 1

    same_number : suc (change - 1) ≡ change
    same_number = omega (arith, numbered)

    pub kept_here : (plan : ChangePlan) (slot : SlotState) → slice_get setting.plans p ≡ Some plan → slice_get w.slots p ≡ Some slot → IsKept change (devices_in plan.edits) w.entries s.owners w.devices slot
    kept_here plan slot planned there =
        subst (λ c. IsKept c (devices_in plan.edits) w.entries s.owners w.devices slot) same_number
        (subst (λ o. KeptAt (suc p) w.entries s.owners w.devices (Some plan) o) there (subst (λ o. KeptAt (suc p) w.entries s.owners w.devices o (slice_get w.slots p)) planned (s.slots p)))

    pub slot_moves : (plan : ChangePlan) (slot new : SlotState) → slice_get setting.plans p ≡ Some plan → slice_get w.slots p ≡ Some slot → IsKept change (devices_in plan.edits) w.entries s.owners w.devices new
        → After (with_slot state change new)
    slot_moves plan slot new planned there now = record {
      owners = s.owners;
      entries = s.entries;
      devices = s.devices;
      slots = others_stay (λ j found. KeptAt (suc j) w.entries s.owners w.devices (slice_get setting.plans j) found) w.slots p slot new there
          (subst (λ o. KeptAt (suc p) w.entries s.owners w.devices o (Some new)) (sym planned) (subst (λ c. IsKept c (devices_in plan.edits) w.entries s.owners w.devices new) (sym same_number) now)) (λ j ne. s.slots j);
      operators = s.operators;
    }

    pub decision_moves : (plan : ChangePlan) (slot new : SlotState) (v : Verdict) → slice_get setting.plans p ≡ Some plan → slice_get w.slots p ≡ Some slot → may_follow w.entries (Decided change v) ≡ true
        → IsKept change (devices_in plan.edits) (w.entries ++ Decided change v ∷ []) s.owners w.devices new → After (with_slot (with_entry state (Decided change v)) change new)
    decision_moves plan slot new v planned there may now = record {
      owners = s.owners;
      entries = λ k. ordered_next k w.entries (s.entries k) (Decided change v) may;
      devices = s.devices;
      slots = others_stay (λ j found. KeptAt (suc j) (w.entries ++ Decided change v ∷ []) s.owners w.devices (slice_get setting.plans j) found) w.slots p slot new there
          (subst (λ o. KeptAt (suc p) (w.entries ++ Decided change v ∷ []) s.owners w.devices o (Some new)) (sym planned)
          (subst (λ c. IsKept c (devices_in plan.edits) (w.entries ++ Decided change v ∷ []) s.owners w.devices new) (sym same_number) now))
          (λ j ne.
          kept_map s.owners w.devices (suc j) w.entries (w.entries ++ Decided change v ∷ [])
          (λ members one k. entered_kept (suc j) members s.owners w.devices w.entries one k (Decided change v) (not_same j change (λ e. ne (before j e)) (nat_eq (suc j) change) refl))
          (slice_get setting.plans j) (slice_get w.slots j) (s.slots j));
      operators = s.operators;
    }
      where
        before : (j : ℕ) → suc j ≡ change → j ≡ change - 1
        before j e = omega (arith, e)

    -- a slot has its plan
    pub planned_by : (slot : SlotState) (P : Type 0) → slice_get w.slots p ≡ Some slot → ((plan : ChangePlan) → slice_get setting.plans p ≡ Some plan → P) → (plan : Option ChangePlan) → slice_get setting.plans p ≡ plan → P
    planned_by slot P there step None planned =
        absurd (subst (λ o. KeptAt (suc p) w.entries s.owners w.devices None o) there (subst (λ o. KeptAt (suc p) w.entries s.owners w.devices o (slice_get w.slots p)) planned (s.slots p)))
    planned_by slot P there step (Some plan) planned = step plan planned

  -- ---- the manager starts anew

  pub crashed_moves : IsSupported m setting (record w { slots = start_anew w.entries 1 setting.plans w.slots })
  crashed_moves = record {
    owners = s.owners;
    entries = s.entries;
    devices = s.devices;
    slots = λ place.
        subst (λ c. KeptAt c w.entries s.owners w.devices (slice_get setting.plans place) (slice_get (start_anew w.entries 1 setting.plans w.slots) place)) (next_of place)
        (all_anew s.owners w.devices w.entries s.entries 1 setting.plans w.slots
        (λ j. subst (λ c. KeptAt c w.entries s.owners w.devices (slice_get setting.plans j) (slice_get w.slots j)) (sym (next_of j)) (s.slots j)) place);
    operators = s.operators;
  }
    where
      next_of : (place : ℕ) → 1 + place ≡ suc place
      next_of place = omega arith
