use Rattle.std.proofs.Common.{◌≡◌, ◌+◌, List, ◌∷◌, None, drop, sym, ap, ◌∙◌}
use Rattle.std.proofs.lemmas.List.{drop_all, drop_more}
use Rattle.nm_schema_tree.specs.Nodes.{SchemaTree}
use Rattle.nm_config.specs.Rows.{Rows}
use Rattle.nm_validate_rules.specs.declared.rule.Rule.{Rule}
use Rattle.nm_validate_rules.specs.Violation.{least_at, told, first_told, violation}
use Rattle.nm_validate.proofs.violation.violation_of.Goals as goal

-- a rule that isn't violated tells nothing
none_told : (t : SchemaTree) (rows : Rows) (rule : Rule) (others : List Rule) → least_at t rows rule ≡ None → first_told t rows (rule ∷ others) ≡ first_told t rows others
none_told t rows rule others e = ap (λ o. told rule o (first_told t rows others)) e

pub loop-rule-preserved : goal.loop-rule-preserved
loop-rule-preserved g c =
    let t = c.args.schema.now in
    let rows = g.M.RowMap.rows c.args.config.now in
    let rules = c.rules-rule-items.result.now in
    let i = c.loop-rule.rule-index in
    sym (ap (first_told t rows) (drop_more rules i _ c.loop-rule-test.true) ∙ none_told t rows _ (drop (i + 1) rules) (sym c.in_ok-path.ensures ∙ c.in_default.is)) ∙ c.loop-rule.invariant

pub returns : goal.returns
unfolding violation
returns g c =
    ap (first_told c.args.schema.now (g.M.RowMap.rows c.args.config.now)) (sym (drop_all c.loop-rule.rule-index c.rules-rule-items.result.now c.loop-rule-test.false)) ∙ c.loop-rule.invariant
