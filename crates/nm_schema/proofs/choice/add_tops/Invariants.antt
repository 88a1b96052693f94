use Rattle.std.proofs.Common.{◌≡◌}
use Rattle.nm_schema.specs.Choices as spec
use Rattle.nm_schema.proofs.choice.add_tops.Given as goal

-- the choices at the tops of the modules so far are put
abbrev pub invariant-loop-owner : goal.invariant-loop-owner
invariant-loop-owner l =
    spec.HasChosen l.grounds l.owner l.schema l.case_in.items × (l.schema.nodes ≡ l.fn.schema.nodes) × (l.schema.modules ≡ l.fn.schema.modules)
