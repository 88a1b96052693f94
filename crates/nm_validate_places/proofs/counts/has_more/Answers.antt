use Rattle.std.proofs.Common.{sym, ap, ◌∙◌, false, is_some}
use Rattle.std.specs.Prelude.{nat_lt, option_copied}
use Rattle.nm_validate_places.proofs.Counting.{count_is, own_more, own_less}
use Rattle.nm_validate_places.proofs.counts.has_more.Goals as goal

pub returns-in_default : goal.returns-in_default
returns-in_default g c =
    let rows = g.M.RowMap.rows c.args.config.now in
    c.has_more_behind.ensures ∙ ap (nat_lt c.args.most) (sym (count_is rows c.args.path.now false (ap is_some (sym c.value.ensures ∙ ap option_copied c.in_default.is))))

pub returns-then-most-eq0 : goal.returns-then-most-eq0
returns-then-most-eq0 g c =
    let rows = g.M.RowMap.rows c.args.config.now in
    sym (own_more rows c.args.path.now c.args.most (ap is_some (sym c.value.ensures ∙ ap option_copied c.in-Some.is)) c.if-most-eq0.true)

pub returns : goal.returns
returns g c =
    let rows = g.M.RowMap.rows c.args.config.now in
    c.has_more_behind-2.ensures ∙ own_less rows c.args.path.now c.args.most (ap is_some (sym c.value.ensures ∙ ap option_copied c.in-Some.is)) c.if-most-eq0.false
