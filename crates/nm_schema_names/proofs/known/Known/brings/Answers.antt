use Rattle.std.proofs.Common.{◌∙◌, map, ap, arith}
use Rattle.nm_schema_uses.specs.Arguments.{argument_at}
use Rattle.nm_schema_names.specs.Clash.{Knowledge, knowledge, brings, has_name}
use Rattle.nm_schema_names.proofs.Parts.{kept-read, scanned}
use Rattle.nm_schema_names.proofs.known.Known.brings.Goals as goal

pub returns : goal.returns
returns c = c.has.ensures ∙ kept-read (knowledge c.self.inside.rows.now c.self.inside.brought.now) c.self.inside.sets.items c.args.at c.index.result.now c.in-Some.names c.args.name.now c.self.invariant (omega arith) c.index.ensures c.in-Some.is
    ∙ ap (λ (k : Knowledge). brings k c.args.name.now c.args.at) c.self.view_is

pub returns-2 : goal.returns-2
returns-2 c = c.has_name.ensures ∙ ap (λ (k : Knowledge). has_name (map (argument_at k.rows) c.nodes.result.now) c.args.name.now) c.self.view_is ∙ scanned c.args.self.now c.nodes.result.now c.args.at c.args.name.now c.nodes.ensures
