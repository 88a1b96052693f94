use Rattle.std.proofs.Common.{None, length, get_or}
use Rattle.nm_schema_nodes.specs.declared.instance.Instance.{Instance}
use Rattle.nm_schema_nodes.specs.Expansion.{is_below}
use Rattle.nm_schema_nodes.proofs.Indexing.{listed_none, listed_more, listed_all, below-tests, children-are}
use Rattle.nm_schema_nodes.proofs.index.below_each.Goals as goal

pub loop-at-init : goal.loop-at-init
loop-at-init c = listed_none is_below (length c.args.nodes.now) c.in_ok-below.below.items c.in_ok-below.ensures

pub loop-at-preserved : goal.loop-at-preserved
loop-at-preserved c =
    let d : Instance = record { parent = None; row = 0; owner = 0 } in
    rw c.in_ok-add_number.ensures
    (listed_more is_below (length c.args.nodes.now) c.args.nodes.now c.loop-at.at d c.loop-at.below.items (get_or c.args.nodes.now c.loop-at.at d).parent c.loop-at-test.true (c.requires c.loop-at.at d c.loop-at-test.true) (λ i. below-tests i (get_or c.args.nodes.now c.loop-at.at d)) c.loop-at.invariant)

pub returns : goal.returns
returns c = children-are c.args.nodes.now c.loop-at.below.items (listed_all is_below (length c.args.nodes.now) c.args.nodes.now c.loop-at.at c.loop-at.below.items c.loop-at-test.false c.loop-at.invariant)
