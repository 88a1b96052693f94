use Rattle.std.proofs.Common.{◌≡◌, ◌+◌}
use Rattle.nm_schema.specs.Choices as spec
use Rattle.nm_schema.proofs.choice.add_nodes.Given as goal

-- the choices in the nodes so far are put
abbrev pub invariant-loop-at : goal.invariant-loop-at
invariant-loop-at l =
    spec.HasChosen l.grounds (spec.top_count l.grounds + l.at) l.schema l.case_in.items × (l.schema.nodes ≡ l.fn.schema.nodes) × (l.schema.modules ≡ l.fn.schema.modules)
