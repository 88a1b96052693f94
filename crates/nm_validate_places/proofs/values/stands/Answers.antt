use Rattle.std.proofs.Common.{ap, sym, ◌∙◌}
use Rattle.nm_validate_rules.specs.Guards.{front, holds_at}
use Rattle.nm_validate_places.specs.Leafs.{is_open}
use Rattle.nm_validate_places.proofs.InUse.{stands_top, stands_last, never, as_first}
use Rattle.nm_validate_places.proofs.values.stands.Goals as goal

pub returns-then-is_top : goal.returns-then-is_top
returns-then-is_top g c = sym (stands_top c.args.schema.now (g.M.RowMap.rows c.args.config.now) c.args.path.now (sym c.is_top.ensures ∙ c.if-is_top.true))

pub returns-then-not-opens : goal.returns-then-not-opens
returns-then-not-opens g c =
    let t = c.args.schema.now in
    let rows = g.M.RowMap.rows c.args.config.now in
    let path = c.args.path.now in
    let shut = sym (c.in_ok-opens.ensures ∙ ap (λ a. is_open t rows a path) c.in_ok-above.ensures) ∙ c.if-not-opens.true in
    sym (stands_last t rows path (sym c.is_top.ensures ∙ c.if-is_top.false) ∙ never (holds_at t rows (front path)) (is_open t rows (front path) path) shut)

pub returns : goal.returns
returns g c =
    let t = c.args.schema.now in
    let rows = g.M.RowMap.rows c.args.config.now in
    let path = c.args.path.now in
    let opens = sym (c.in_ok-opens.ensures ∙ ap (λ a. is_open t rows a path) c.in_ok-above.ensures) ∙ c.if-not-opens.false in
    c.in_ok-holds.ensures ∙ ap (holds_at t rows) c.in_ok-above.ensures
    ∙ sym (stands_last t rows path (sym c.is_top.ensures ∙ c.if-is_top.false) ∙ as_first (holds_at t rows (front path)) (is_open t rows (front path) path) opens)
