use Rattle.std.proofs.Common.{rules}
use Rattle.nm_schema_typing.proofs.Valuing.{meanings_are}
use Rattle.nm_schema_typing.proofs.Cycles.{cycle_is, acyclic_is}
use Rattle.nm_schema_typing.proofs.types.types_of.Goals as goal

pub returns-clause-meanings : goal.returns-clause-meanings
returns-clause-meanings c = meanings_are c.args.rows.now c.args.typedefs.now c.in_ok-graph.graph.items c.in_ok-meanings.meanings.items c.in_ok-graph.ensures.exact (search rules)

pub returns-clause-cycle : goal.returns-clause-cycle
returns-clause-cycle c = cycle_is c.args.rows.now c.args.typedefs.now c.in_ok-graph.graph.items c.in_ok-graph.ensures.exact c.in_ok-ordered.ordered.cycle (search rules)

pub returns-clause-acyclic : goal.returns-clause-acyclic
returns-clause-acyclic c = acyclic_is c.args.rows.now c.args.typedefs.now c.in_ok-graph.graph.items c.in_ok-graph.ensures.exact c.in_ok-ordered.ordered.cycle (search rules)
