-- What is kept of each change set.
use Rattle.std.proofs.Common.{◌≡◌, ℕ, zero, suc, ◌+◌, ◌<◌, List, [], ◌∷◌, ◌++◌, length, take, drop, set, get_or, refl, ap, ◌∙◌, add-one, arith}
use Rattle.nm_proto.specs.declared.plan.ChangePlan.{ChangePlan}
use Rattle.nm_proto.specs.declared.journal.Entry.{Entry}
use Rattle.nm_proto.specs.Plan.{devices_in}
use Rattle.nm_manager.specs.Slot.{SlotState}
use Rattle.nm_manager.specs.Manager.{slots_from, starts_anew, start_anew}

pub slots_length : (plans : List ChangePlan) (change : ℕ) → length (slots_from change plans) ≡ length plans
slots_length [] change = refl
slots_length (plan ∷ plans) change = ap suc (slots_length plans (suc change))

-- one more change set goes on anew
anew_more : (entries : List Entry) (change : ℕ) (plans : List ChangePlan) (slots : List SlotState) (i : ℕ) (plan : ChangePlan) (slot new : SlotState) → i < length plans → length slots ≡ length plans
    → plan ≡ get_or plans i plan → slot ≡ get_or slots i slot → new ≡ starts_anew entries change (devices_in plan.edits) slot
    → take (suc i) (set slots i new) ++ start_anew entries (suc change) (drop (suc i) plans) (drop (suc i) (set slots i new)) ≡ take i slots ++ start_anew entries change (drop i plans) (drop i slots)
anew_more entries change [] slots i plan slot new h l p s n = absurd (omega arith)
anew_more entries change (first ∷ plans) [] i plan slot new h l p s n = absurd (omega arith)
anew_more entries change (first ∷ plans) (old ∷ slots) zero plan slot new h l p s n =
    ap (λ x. x ∷ start_anew entries (suc change) plans slots) (n ∙ ap (λ (q : ChangePlan). starts_anew entries change (devices_in q.edits) slot) p ∙ ap (starts_anew entries change (devices_in first.edits)) s)
anew_more entries change (first ∷ plans) (old ∷ slots) (suc i) plan slot new h l p s n =
    ap (λ rest. old ∷ rest) (anew_more entries change plans slots i plan slot new (omega arith) (omega arith) p s n)

pub anew_step : (entries : List Entry) (change : ℕ) (plans : List ChangePlan) (slots : List SlotState) (i : ℕ) (plan : ChangePlan) (slot new : SlotState) → i < length plans → length slots ≡ length plans
    → plan ≡ get_or plans i plan → slot ≡ get_or slots i slot → new ≡ starts_anew entries change (devices_in plan.edits) slot
    → take (i + 1) (set slots i new) ++ start_anew entries (change + 1) (drop (i + 1) plans) (drop (i + 1) (set slots i new)) ≡ take i slots ++ start_anew entries change (drop i plans) (drop i slots)
anew_step entries change plans slots i plan slot new h l p s n = rw add-one (rw add-one (anew_more entries change plans slots i plan slot new h l p s n))

pub length_same : (slots : List SlotState) (i : ℕ) (new : SlotState) → length (set slots i new) ≡ length slots
length_same [] i new = refl
length_same (slot ∷ slots) zero new = refl
length_same (slot ∷ slots) (suc i) new = ap suc (length_same slots i new)
