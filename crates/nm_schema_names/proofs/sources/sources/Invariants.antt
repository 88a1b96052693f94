use Rattle.nm_schema_names.specs.Sharing.{AreSources}
use Rattle.nm_schema_names.proofs.sources.sources.Given as goal

abbrev pub invariant-loop-node : goal.invariant-loop-node
invariant-loop-node l = AreSources l.brought l.sources.items
