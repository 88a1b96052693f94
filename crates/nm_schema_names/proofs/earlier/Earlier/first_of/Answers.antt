use Rattle.std.proofs.Common.{◌≡◌, ◌∙◌, ℕ, List, get_or, Some, sym, ap}
use Rattle.nm_schema_statements.specs.declared.row.Row.{Row}
use Rattle.nm_schema_uses.specs.Arguments.{argument_at}
use Rattle.nm_schema_names.specs.Clash.{has_part}
use Rattle.nm_schema_names.proofs.Naming.{find_found, find_passed, find_end}
use Rattle.nm_schema_names.proofs.earlier.Earlier.first_of.Goals as goal

pub loop-node-preserved : goal.loop-node-preserved
loop-node-preserved c =
    let k = c.args.known.now in
    let nodes = c.nodes-node-items.result.now in
    let i = c.loop-node.node-index in
    let name : c.in_ok-name.name ≡ argument_at k.rows (get_or nodes i 0) = c.in_ok-name.ensures ∙ ap (λ (rows : List Row). argument_at rows (get_or nodes i 0)) c.rows.ensures in
    find_passed (has_part k c.args.self.now) k.rows nodes i _ c.loop-node-test.true c.loop-node.invariant (ap (has_part k c.args.self.now) (sym name) ∙ sym c.has.ensures ∙ c.if-has.false)

pub returns-then-has : goal.returns-then-has
returns-then-has c =
    let k = c.args.known.now in
    let nodes = c.nodes-node-items.result.now in
    let i = c.loop-node.node-index in
    let name : c.in_ok-name.name ≡ argument_at k.rows (get_or nodes i 0) = c.in_ok-name.ensures ∙ ap (λ (rows : List Row). argument_at rows (get_or nodes i 0)) c.rows.ensures in
    ap (λ (n : List ℕ). Some n) name ∙ find_found (has_part k c.args.self.now) k.rows nodes i _ c.loop-node-test.true c.loop-node.invariant (ap (has_part k c.args.self.now) (sym name) ∙ sym c.has.ensures ∙ c.if-has.true)

pub returns : goal.returns
returns c = find_end (has_part c.args.known.now c.args.self.now) c.args.known.now.rows c.nodes-node-items.result.now c.loop-node.node-index _ c.loop-node-test.false c.loop-node.invariant
