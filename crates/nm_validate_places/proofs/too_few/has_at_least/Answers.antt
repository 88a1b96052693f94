use Rattle.std.proofs.Common.{ap, sym, ◌∙◌, not}
use Rattle.std.specs.Prelude.{nat_lt}
use Rattle.nm_validate_rules.specs.Values.{count_at}
use Rattle.nm_validate_places.proofs.Elements.{at_least_one, at_least}
use Rattle.nm_validate_places.proofs.too_few.has_at_least.Goals as goal

pub returns-then-min-eq0 : goal.returns-then-min-eq0
returns-then-min-eq0 g c =
    let count = count_at (g.M.RowMap.rows c.args.config.now) c.args.path.now in
    at_least_one count ∙ ap (λ m. not (nat_lt count m)) (sym c.if-min-eq0.true)

pub returns : goal.returns
returns g c = c.has_more.ensures ∙ at_least c.args.min (count_at (g.M.RowMap.rows c.args.config.now) c.args.path.now) c.if-min-eq0.false
