use Rattle.std.proofs.Common.{rules}
use Rattle.nm_schema_typing.proofs.Defaulting.{defaults_are}
use Rattle.nm_schema_typing.proofs.defaults.defaults_of.Goals as goal

pub returns : goal.returns
returns c = record { exact = defaults_are c.args.rows.now c.args.typedefs.now c.in_ok-graph.graph.items c.in_ok-texts.texts.items c.in_ok-graph.ensures.exact (search rules) }
