use Rattle.std.proofs.Common.{◌||◌, ◌∙◌, List, map, ap}
use Rattle.nm_schema_statements.specs.declared.row.Row.{Row}
use Rattle.nm_schema_uses.specs.Arguments.{argument_at}
use Rattle.nm_schema_names.specs.Clash.{Knowledge, Parts, has_name, nodes_at, has_part, brought_by}
use Rattle.nm_schema_names.proofs.Parts.{few_more}
use Rattle.nm_schema_names.proofs.earlier.Earlier.take_few.Goals as goal

pub returns-clause-taken : goal.returns-clause-taken
returns-clause-taken c = λ n.
    few_more c.args.known.now c.self.inside.names c.add_names.new.names c.self.inside.wide.items c.nodes-2.result.now c.args.at n
    (c.nodes-2.ensures ∙ ap (λ (k : Knowledge). nodes_at k c.args.at) c.in_ok-prepare.ensures)
    (c.in_ok-add_names.ensures n ∙ ap (λ (rows : List Row). has_name (map (argument_at rows) c.nodes-2.result.now) n || has_name c.self.inside.names n) (c.rows.ensures ∙ ap (λ (k : Knowledge). k.rows) c.in_ok-prepare.ensures))
    ∙ ap (λ (p : Parts). brought_by c.args.known.now c.args.at n || has_part c.args.known.now p n) c.self.view_is
