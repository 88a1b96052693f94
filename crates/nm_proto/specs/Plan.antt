-- Change sets and what they plan (this project's own).
use Rattle.std.specs.Prelude.{ℕ, ◌-◌, ◌*◌, ◌%◌, ◌^◌, ◌==◌, List, Bool, fold, bit_or}
use Rattle.std.specs.List.{list_any}
use Rattle.nm_proto.specs.declared.plan.PlannedEdit.{PlannedEdit}

-- one of these edits is of the device
abbrev pub is_planned : ℕ → List PlannedEdit → Bool
is_planned device edits = list_any (λ edit. device == edit.device) edits

-- the mask of the devices of these edits: bit d - 1 stands for device d
abbrev pub devices_in : List PlannedEdit → ℕ
devices_in edits = fold (λ mask edit. bit_or mask (1 * 2 ^ (edit.device - 1) % 2 ^ 32)) 0 edits
