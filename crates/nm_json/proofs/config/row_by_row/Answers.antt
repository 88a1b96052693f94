use Rattle.std.proofs.Common.{◌≡◌, ◌∙◌, subst}
use Rattle.serde_json.specs.View.{view}
use Rattle.nm_json.specs.Whole.{Gives, answered, config_read}
use Rattle.nm_json.proofs.Noting.{whole_is}
use Rattle.nm_json.proofs.config.row_by_row.Goals as goal

pub returns-in-Ok : goal.returns-in-Ok
returns-in-Ok c =
    let t = c.args.schema.now in
    let rows = c.rows.inside.rows.items in
    let is : answered t c.put_rows.new.least c.in-Ok.config ≡ config_read t (view c.args.value.now) =
    (λ i. answered t (c.in-Ok.ensures.least i) (c.in-Ok.ensures.rows i))
    ∙ whole_is t (view c.args.value.now) rows c.rows.inside.least (c.rows.view_is ∙ c.in_ok-rows.ensures) in
    subst (Gives c.answer-answered.result) is c.answer-answered.ensures
