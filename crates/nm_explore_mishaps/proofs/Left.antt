-- What is listed and what is left of it, where one more is listed.
use Rattle.std.proofs.Common.{◌≡◌, ◌<◌, ◌+◌, ◌-◌, ℕ, suc, List, ◌++◌, ap, ◌∙◌, arith, append_assoc}
use Rattle.nm_proto.specs.declared.plan.ChangePlan.{ChangePlan}
use Rattle.nm_explore_mishaps.specs.declared.mishap.Mishap.{Mishap}
use Rattle.nm_explore_mishaps.specs.Mishaps.{device_mishaps, each_device}

-- one more is listed
pub listed : (so_far one rest after whole : List Mishap) → after ≡ so_far ++ one → so_far ++ (one ++ rest) ≡ whole → after ++ rest ≡ whole
listed so_far one rest after whole is left = ap (λ (xs : List Mishap). xs ++ rest) is ∙ append_assoc so_far one rest ∙ left

-- of so many devices one is left or more
pub devices_left : (plans : List ChangePlan) (place devices : ℕ) → place < devices
    → each_device plans (place + 1) (devices - place) ≡ device_mishaps plans (place + 1) ++ each_device plans (place + 1 + 1) (devices - (place + 1))
devices_left plans place devices within = let e : devices - place ≡ suc (devices - (place + 1)) = omega (arith, within) in ap (each_device plans (place + 1)) e
