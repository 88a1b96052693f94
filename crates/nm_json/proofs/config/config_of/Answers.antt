use Rattle.std.proofs.Common.{◌≡◌, ◌∙◌, length, fold, rules, ap, sym, subst}
use Rattle.std.specs.FinMap.{empty}
use Rattle.serde_json.specs.View.{view}
use Rattle.nm_json.specs.Places.{lesser}
use Rattle.nm_json.specs.Noted.{repeated}
use Rattle.nm_json.specs.Whole.{Gives, answered, config_read}
use Rattle.nm_json.proofs.Noting.{whole_is, none_repeated}
use Rattle.nm_json.proofs.Only.{given_law}
use Rattle.nm_json.proofs.config.config_of.Goals as goal

pub returns-then-len-count-clause-given : goal.returns-then-len-count-clause-given
returns-then-len-count-clause-given c =
    let t = c.args.schema.now in
    let rows = c.rows.inside.rows.items in
    let least = c.rows.inside.least in
    let held : c.len-count.result ≡ length rows = search rules in
    let none = none_repeated rows c.in-Ok.config c.in-Ok.ensures (sym c.len.ensures ∙ c.if-len-count.true ∙ held) in
    let is : answered t least c.in-Ok.config ≡ config_read t (view c.args.value.now) =
    ap (λ fs. answered t (fold lesser least fs) c.in-Ok.config) (sym none)
    ∙ ap (answered t (fold lesser least (repeated empty rows))) c.in-Ok.ensures
    ∙ whole_is t (view c.args.value.now) rows least (c.rows.view_is ∙ c.in_ok-rows.ensures) in
    subst (Gives c.answer-answered.result) is c.answer-answered.ensures

pub returns-then-len-count-clause-configuration : goal.returns-then-len-count-clause-configuration
returns-then-len-count-clause-configuration c = given_law c.answer-answered.result c.args.schema.now (view c.args.value.now) (returns-then-len-count-clause-given c)

pub returns-clause-configuration : goal.returns-clause-configuration
returns-clause-configuration c = given_law c.row_by_row.result c.args.schema.now (view c.args.value.now) c.row_by_row.ensures
