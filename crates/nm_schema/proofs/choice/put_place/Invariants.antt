use Rattle.nm_schema.specs.Choices as spec
use Rattle.nm_schema.proofs.Placing.{IsPlacing}
use Rattle.nm_schema.proofs.choice.put_place.Given as goal

-- the choices so far are put, and so many cases
abbrev pub invariant-loop-fork : goal.invariant-loop-fork
invariant-loop-fork l = IsPlacing l.rows (spec.place_for l.place.parent l.place.owner l.place.row) l.forks l.fn.schema l.fork-index l.done l.schema
