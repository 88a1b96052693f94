use Rattle.std.proofs.Common.{◌≡◌, None, get_or}
use Rattle.nm_schema_nodes.specs.declared.instance.Instance.{Instance}
use Rattle.nm_schema_nodes.specs.Expansion.{is_top}
use Rattle.nm_schema_nodes.specs.Index.{module_above}
use Rattle.nm_schema_nodes.proofs.Indexing.{listed_none, listed_more, listed_all, top-tests, tops-are, module_above-within}
use Rattle.nm_schema_nodes.proofs.index.tops_each.Goals as goal

pub loop-at-init : goal.loop-at-init
loop-at-init c = listed_none is_top c.args.count c.in_ok-tops.tops.items c.in_ok-tops.ensures

pub loop-at-preserved : goal.loop-at-preserved
loop-at-preserved c =
    let d : Instance = record { parent = None; row = 0; owner = 0 } in
    let above : c.module_above.result ≡ module_above (get_or c.args.nodes.now c.loop-at.at d).parent (get_or c.args.nodes.now c.loop-at.at d).owner = c.module_above.ensures in
    rw (c.in_ok-add_number.ensures, above)
    (listed_more is_top c.args.count c.args.nodes.now c.loop-at.at d c.loop-at.tops.items (module_above (get_or c.args.nodes.now c.loop-at.at d).parent (get_or c.args.nodes.now c.loop-at.at d).owner) c.loop-at-test.true
    (module_above-within (get_or c.args.nodes.now c.loop-at.at d).parent (get_or c.args.nodes.now c.loop-at.at d).owner c.args.count (c.requires c.loop-at.at d c.loop-at-test.true))
    (λ m. top-tests m (get_or c.args.nodes.now c.loop-at.at d)) c.loop-at.invariant)

pub returns : goal.returns
returns c = tops-are c.args.count c.args.nodes.now c.loop-at.tops.items (listed_all is_top c.args.count c.args.nodes.now c.loop-at.at c.loop-at.tops.items c.loop-at-test.false c.loop-at.invariant)
