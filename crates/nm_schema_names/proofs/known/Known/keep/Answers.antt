use Rattle.std.proofs.Common.{◌≡◌, ◌∙◌, sym, ap, arith}
use Rattle.nm_schema_names.specs.Clash.{Knowledge, knowledge, nodes_at}
use Rattle.nm_schema_names.proofs.Parts.{kept_more, made-names}
use Rattle.nm_schema_names.proofs.known.Known.keep.Goals as goal

pub invariant_of-self : goal.invariant_of-self
invariant_of-self c =
    let here : c.nodes.result.now ≡ nodes_at (knowledge c.self.inside.rows.now c.self.inside.brought.now) c.args.at = c.nodes.ensures ∙ ap (λ (k : Knowledge). nodes_at k c.args.at) (sym c.self.view_is) in
    kept_more (knowledge c.self.inside.rows.now c.self.inside.brought.now) c.self.inside.sets.items c.args.at c.add_names.new.names c.self.invariant (omega arith)
    (λ n. made-names (knowledge c.self.inside.rows.now c.self.inside.brought.now) c.new-names.result c.add_names.new.names c.nodes.result.now c.args.at n c.new-names.ensures here (c.in_ok-add_names.ensures n))
