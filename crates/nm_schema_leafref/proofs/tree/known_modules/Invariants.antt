use Rattle.std.proofs.Common.{false}
use Rattle.nm_schema_leafref.specs.Place.{is_known_module}
use Rattle.nm_schema_leafref.proofs.Lists.{Lists}
use Rattle.nm_schema_leafref.proofs.tree.known_modules.Given as goal

abbrev pub invariant-loop-owner : goal.invariant-loop-owner
invariant-loop-owner l = Lists (is_known_module l.expansion) false l.owner l.known.items
