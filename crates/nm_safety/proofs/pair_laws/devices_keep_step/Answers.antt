use Rattle.std.proofs.Common.{◌≡◌, refl, true, Option, Some, None, IfSome, ℕ}
use Rattle.nm_proto.specs.declared.message.Request.{Request}
use Rattle.nm_proto.specs.declared.message.Reply.{Reply}
use Rattle.nm_wire.specs.Wire.{WireState, outstanding_at, restarted}
use Rattle.nm_manager.specs.Slot.{SideState, side_at, wire_of_side, told_wire, lost_wire}
use Rattle.nm_safety.specs.Step.{is_fair}
use Rattle.nm_safety.proofs.Pairs.{IsAsBefore}
use Rattle.nm_safety.proofs.PairSteps.{wires_stay, told_as_before, lost_as_before, restarted_as_before}
use Rattle.nm_safety.proofs.pair_laws.devices_keep_step.Goals as goal

told_side : (found : Option SideState) (link : ℕ) (request : Request) (reply : Reply) → outstanding_at (wire_of_side found) link ≡ Some request → is_fair (record { request = request; reply = reply }) ≡ true
    → IfSome found (λ side. IsAsBefore side.wire (told_wire link reply side.wire))
told_side None link request reply h f = search
told_side (Some side) link request reply h f = told_as_before side.wire link request reply h f

each_side : (happens : WireState → WireState) → ((wire : WireState) → IsAsBefore wire (happens wire)) → (found : Option SideState) → IfSome found (λ side. IsAsBefore side.wire (happens side.wire))
each_side happens same None = search
each_side happens same (Some side) = same side.wire

pub returns-clause-told : goal.returns-clause-told
returns-clause-told c = λ change devices entries slot device link request reply in_step h f.
    wires_stay change devices entries slot (told_wire link reply) device in_step (side_at slot device) refl (told_side (side_at slot device) link request reply h f)

pub returns-clause-lost : goal.returns-clause-lost
returns-clause-lost c = λ change devices entries slot device link in_step.
    wires_stay change devices entries slot (lost_wire link) device in_step (side_at slot device) refl (each_side (lost_wire link) (λ wire. lost_as_before wire link) (side_at slot device))

pub returns-clause-restarted : goal.returns-clause-restarted
returns-clause-restarted c = λ change devices entries slot device in_step.
    wires_stay change devices entries slot restarted device in_step (side_at slot device) refl (each_side restarted restarted_as_before (side_at slot device))
