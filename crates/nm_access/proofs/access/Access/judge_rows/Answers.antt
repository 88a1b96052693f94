use Rattle.std.proofs.Common.{sym, ◌∙◌}
use Rattle.nm_access.proofs.Rows.{rows_on, rows_end}
use Rattle.nm_access.proofs.access.Access.judge_rows.Goals as goal

pub rows-preserved : goal.rows-preserved
rows-preserved c =
    rows_on c.args.self.now c.args.user.now c.rows.rest.now c.row-item.result _ c.in-len1-up.len_at_least c.row-item.is (sym c.in_ok-row_denial.ensures ∙ c.in-None.is)
    c.rows.invariant

pub returns : goal.returns
returns c = sym (rows_end c.args.self.now c.args.user.now c.rows.rest.now _ c.in_default.len_below c.rows.invariant)
