use Rattle.std.proofs.Common.{ap, sym, ◌∙◌, arith, rules}
use Rattle.nm_validate_rules.specs.Guards.{front, holds_at}
use Rattle.nm_validate_places.specs.Leafs.{is_open}
use Rattle.nm_validate_places.proofs.InUse.{front_less, some_steps, holds_top, holds_own, holds_other, never, as_first}
use Rattle.nm_validate_places.proofs.values.+holds_at.Goals as goal

pub returns-then-is_top : goal.returns-then-is_top
returns-then-is_top g t c = sym (holds_top c.args.schema.now (g.M.RowMap.rows c.args.config.now) c.args.path.now (sym c.is_top.ensures ∙ c.if-is_top.true))

pub returns-then-is_own : goal.returns-then-is_own
returns-then-is_own g t c =
    c.has_row.ensures ∙ sym (holds_own c.args.schema.now (g.M.RowMap.rows c.args.config.now) c.args.path.now (sym c.is_top.ensures ∙ c.if-is_top.false) (sym c.is_own.ensures ∙ c.if-is_own.true))

pub returns-then-not-opens : goal.returns-then-not-opens
returns-then-not-opens g t c =
    let tree = c.args.schema.now in
    let rows = g.M.RowMap.rows c.args.config.now in
    let path = c.args.path.now in
    let shut = sym (c.in_ok-opens.ensures ∙ ap (λ a. is_open tree rows a path) c.in_ok-above.ensures) ∙ c.if-not-opens.true in
    sym (holds_other tree rows path (sym c.is_top.ensures ∙ c.if-is_top.false) (sym c.is_own.ensures ∙ c.if-is_own.false) ∙ never (holds_at tree rows (front path)) (is_open tree rows (front path) path) shut)

pub returns : goal.returns
returns g t c =
    let tree = c.args.schema.now in
    let rows = g.M.RowMap.rows c.args.config.now in
    let path = c.args.path.now in
    let opens = sym (c.in_ok-opens.ensures ∙ ap (λ a. is_open tree rows a path) c.in_ok-above.ensures) ∙ c.if-not-opens.false in
    c.in_ok-holds.ensures ∙ ap (holds_at tree rows) c.in_ok-above.ensures
    ∙ sym (holds_other tree rows path (sym c.is_top.ensures ∙ c.if-is_top.false) (sym c.is_own.ensures ∙ c.if-is_own.false) ∙ as_first (holds_at tree rows (front path)) (is_open tree rows (front path) path) opens)

pub holds_at-requires : goal.holds_at-requires
holds_at-requires g t c κs h =
    let some = sym c.is_top.ensures ∙ c.if-is_top.false in
    let less = c.decreases in
    let more = some_steps c.args.count c.args.path.now c.requires.counted some in
    (omega (arith, less, more), (search rules, (c.requires.cases, (c.requires.rows, front_less c.args.count c.args.path.now c.in_ok-above.above c.requires.counted some c.in_ok-above.ensures))))
