use Rattle.std.proofs.Common.{◌≡◌, ℕ, ◌<◌, ◌≤◌, ◌-◌, ◌*◌, ◌%◌, ◌^◌, ◌==◌, ◌||◌, ap, sym, ◌∙◌, arith, Bool, take, bit_or, rules}
use Rattle.std.specs.Int.{w32}
use Rattle.std.specs.List.{list_any}
use Rattle.std.proofs.lemmas.Nat.Bits.{bit_at-zero}
use Rattle.std.proofs.lemmas.Grind.{common_steps}
use Rattle.std.proofs.lemmas.List.Folds.{list_any_more}
use Rattle.nm_base.specs.Mask.{mask_contains}
use Rattle.nm_base.proofs.Masks.{with_is}
use Rattle.nm_proto.specs.Plan.{devices_in, is_planned}
use Rattle.nm_proto.proofs.plan.ChangePlan.devices.Goals as goal

pub loop-edit-init : goal.loop-edit-init
unfolding mask_contains
loop-edit-init c = record { value = search rules; contains = λ device h. ap (λ b. b == 1) (bit_at-zero (device - 1)) }

pub loop-edit-preserved : goal.loop-edit-preserved
loop-edit-preserved c =
    let added = with_is w32 c.loop-edit.devices c.from.result c.edit-item.result.device (omega arith) (omega arith) (omega arith) in
    record {
      value = grind (arith, common_steps);
      contains = λ device h. grind (arith, common_steps, added device h, c.loop-edit.invariant.contains device h);
    }
