use Rattle.std.proofs.Common.{None}
use Rattle.nm_schema_leafref.specs.Known.{AreOwnTypes}
use Rattle.nm_schema_leafref.proofs.Lists.{Lists}
use Rattle.nm_schema_leafref.proofs.Typings.{own_type}
use Rattle.nm_schema_leafref.proofs.types.plain_types.Given as goal

abbrev pub invariant-loop-node : goal.invariant-loop-node
invariant-loop-node l = record {
  kept : AreOwnTypes l.types.meanings l.kept.items;
  listed : Lists (own_type l.scene.typedefs l.scene.tree) None l.node l.all.items;
}
