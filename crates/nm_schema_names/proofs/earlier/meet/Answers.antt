use Rattle.std.proofs.Common.{◌≡◌, ◌∙◌, List, get_or, sym, ap}
use Rattle.nm_schema_statements.specs.declared.row.Row.{Row}
use Rattle.nm_schema_uses.specs.Arguments.{argument_at}
use Rattle.nm_schema_names.specs.Clash.{brought_by, brings}
use Rattle.nm_schema_names.proofs.Naming.{any_found, any_passed, any_end}
use Rattle.nm_schema_names.proofs.earlier.meet.Goals as goal

pub loop-node-preserved : goal.loop-node-preserved
unfolding brings
loop-node-preserved c =
    let k = c.args.known.now in
    let nodes = c.nodes-node-items.result.now in
    let i = c.loop-node.node-index in
    let name : c.in_ok-name.name ≡ argument_at k.rows (get_or nodes i 0) = c.in_ok-name.ensures ∙ ap (λ (rows : List Row). argument_at rows (get_or nodes i 0)) c.rows.ensures in
    any_passed (brought_by k c.args.at) k.rows nodes i _ c.loop-node-test.true c.loop-node.invariant (ap (brought_by k c.args.at) (sym name) ∙ sym c.brings.ensures ∙ c.if-brings.false)

pub returns-then-brings : goal.returns-then-brings
unfolding brings
returns-then-brings c =
    let k = c.args.known.now in
    let nodes = c.nodes-node-items.result.now in
    let i = c.loop-node.node-index in
    let name : c.in_ok-name.name ≡ argument_at k.rows (get_or nodes i 0) = c.in_ok-name.ensures ∙ ap (λ (rows : List Row). argument_at rows (get_or nodes i 0)) c.rows.ensures in
    any_found (brought_by k c.args.at) k.rows nodes i _ c.loop-node-test.true c.loop-node.invariant (ap (brought_by k c.args.at) (sym name) ∙ sym c.brings.ensures ∙ c.if-brings.true)

pub returns : goal.returns
returns c = any_end (brought_by c.args.known.now c.args.at) c.args.known.now.rows c.nodes-node-items.result.now c.loop-node.node-index _ c.loop-node-test.false c.loop-node.invariant
