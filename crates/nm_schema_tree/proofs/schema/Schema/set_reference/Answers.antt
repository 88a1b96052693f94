use Rattle.std.proofs.Common.{slice_get, refl}
use Rattle.nm_schema_tree.proofs.Indexes.{referred}
use Rattle.nm_schema_tree.proofs.schema.Schema.set_reference.Goals as goal

pub invariant_of-self : goal.invariant_of-self
invariant_of-self c =
    let both = referred c.self.inside.nodes.items c.self.inside.levels.items c.self.inside.top c.args.at c.args.to (slice_get c.self.inside.nodes.items c.args.at) refl c.self.invariant.0 c.self.invariant.1 in
    rw c.refer.ensures (both.0, both.1, c.self.invariant.2)
