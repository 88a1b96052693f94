use Rattle.std.proofs.Common.{◌≡◌, ℕ, ◌<◌, take}
use Rattle.nm_base.specs.Mask.{mask_contains}
use Rattle.nm_proto.specs.Plan.{devices_in, is_planned}
use Rattle.nm_proto.proofs.plan.ChangePlan.devices.Given as goal

-- the devices of the edits so far
abbrev pub invariant-loop-edit : goal.invariant-loop-edit
invariant-loop-edit l = record {
  value : l.devices ≡ devices_in (take l.edit-index l.self.edits);
  contains : (device : ℕ) → 0 < device → mask_contains l.devices device ≡ is_planned device (take l.edit-index l.self.edits);
}
