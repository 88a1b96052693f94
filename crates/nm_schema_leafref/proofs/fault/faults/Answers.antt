use Rattle.std.proofs.Common.{◌≡◌, sym, subst, length, None, false, Option, slice_index_or, arith}
use Rattle.nm_schema_leafref.specs.declared.fault.PathFault.{PathFault}
use Rattle.nm_schema_leafref.specs.Known.{fault_of}
use Rattle.nm_schema_leafref.proofs.Faults.{IsFaultOf, HasFaultBelow, fault-is, fault-all, noted-all}
use Rattle.nm_schema_leafref.proofs.fault.faults.Goals as goal

pub loop-node-preserved : goal.loop-node-preserved
loop-node-preserved c =
    let f : c.fault_of-fault.result ≡ fault_of (slice_index_or c.args.leds.now c.loop-node.node None) (slice_index_or c.args.circular.now c.loop-node.node false) = rw (sym c.led_at.ensures, sym c.is_marked.ensures) c.fault_of-fault.ensures in
    let fault = fault-is c.args.scene.now.typedefs c.args.scene.now.tree c.loop-node.node (slice_index_or c.args.leds.now c.loop-node.node None) (slice_index_or c.args.circular.now c.loop-node.node false) (sym (c.requires.leds c.loop-node.node)) (c.requires.circular c.loop-node.node) in
    noted-all c.args.scene.now.typedefs c.args.scene.now.tree c.loop-node.node c.loop-node.faults.items c.note.new.faults.items c.path_row-row.result c.fault_of-fault.result (sym c.path_row-row.ensures)
    (subst (λ (found : Option PathFault). IsFaultOf c.args.scene.now.typedefs c.args.scene.now.tree c.loop-node.node found) (sym f) fault) c.loop-node.invariant c.note.ensures.size c.note.ensures.noted

pub returns-clause-faults : goal.returns-clause-faults
returns-clause-faults c =
    let all : c.loop-node.node ≡ length c.args.scene.now.tree.nodes = omega (arith, c.requires.leds_size) in
    λ p lt. fault-all c.args.scene.now.typedefs c.args.scene.now.tree p (slice_index_or c.loop-node.faults.items p None)
    (subst (λ n. HasFaultBelow c.args.scene.now.typedefs c.args.scene.now.tree n p (slice_index_or c.loop-node.faults.items p None)) all (c.loop-node.invariant.each p lt))
