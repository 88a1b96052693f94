use Rattle.std.proofs.Common.{◌∙◌, None, length, replicate, ap, subst}
use Rattle.nm_schema_nodes.specs.Expansion.{Expanded, IsExpansion}
use Rattle.nm_schema.proofs.Chosen.{chosen_start, chosen_all}
use Rattle.nm_schema.proofs.choice.put_choices.Goals as goal

pub add_tops-requires-clause-none : goal.add_tops-requires-clause-none
add_tops-requires-clause-none c =
    let size = ap length c.nodes.ensures ∙ ap (λ (t : Expanded). length t.nodes) c.expansion-2.ensures in
    chosen_start c.args.grounds.now.rows c.args.grounds.now.facts c.args.schema.now c.in_ok-case_in.case_in.items c.requires.choices c.requires.cases (c.in_ok-case_in.ensures ∙ ap (λ n. replicate n None) size)

pub returns-clause-choices : goal.returns-clause-choices
returns-clause-choices c =
    let expansion = subst (λ (t : Expanded). IsExpansion t.rows t.groupings t.nodes) c.expansion.ensures c.laws.ensures in
    (chosen_all c.args.grounds.now.rows c.args.grounds.now.facts expansion c.add_nodes.new.schema.choices c.add_nodes.new.schema.cases c.add_nodes.new.case_in.items c.in_ok-add_nodes.ensures.chosen).0

pub returns-clause-cases : goal.returns-clause-cases
returns-clause-cases c =
    let expansion = subst (λ (t : Expanded). IsExpansion t.rows t.groupings t.nodes) c.expansion.ensures c.laws.ensures in
    (chosen_all c.args.grounds.now.rows c.args.grounds.now.facts expansion c.add_nodes.new.schema.choices c.add_nodes.new.schema.cases c.add_nodes.new.case_in.items c.in_ok-add_nodes.ensures.chosen).1

pub returns-clause-case_in : goal.returns-clause-case_in
returns-clause-case_in c =
    let expansion = subst (λ (t : Expanded). IsExpansion t.rows t.groupings t.nodes) c.expansion.ensures c.laws.ensures in
    (chosen_all c.args.grounds.now.rows c.args.grounds.now.facts expansion c.add_nodes.new.schema.choices c.add_nodes.new.schema.cases c.add_nodes.new.case_in.items c.in_ok-add_nodes.ensures.chosen).2
