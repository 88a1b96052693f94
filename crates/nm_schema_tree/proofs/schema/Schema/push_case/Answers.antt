use Rattle.std.proofs.Common.{◌<◌, length, sym, subst}
use Rattle.nm_schema_tree.specs.Nodes.{SchemaTree}
use Rattle.nm_schema_tree.proofs.Nesting.{nested_case}
use Rattle.nm_schema_tree.proofs.schema.Schema.push_case.Goals as goal

pub invariant_of-self-2 : goal.invariant_of-self-2
invariant_of-self-2 c =
    let there = subst (λ (t : SchemaTree). c.args.case.choice < length t.choices) (sym c.self.view_is) c.requires in
    rw c.in_ok-push.ensures.items (c.self.invariant.0, c.self.invariant.1, nested_case c.self.inside.choices.items c.self.inside.cases.items c.args.case c.self.invariant.2 there)
