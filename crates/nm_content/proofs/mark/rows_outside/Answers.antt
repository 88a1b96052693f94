use Rattle.std.proofs.Common.{◌+◌, cond, List, Some, ap, sym, ◌∙◌, arith}
use Rattle.std.specs.Prelude.{option_copied}
use Rattle.std.specs.List.{count_by}
use Rattle.std.specs.FinMap.{entries}
use Rattle.nm_proto.specs.Content.{counted_rows}
use Rattle.nm_overlay.proofs.Order.{Place}
use Rattle.nm_overlay.proofs.Following.{come}
use Rattle.nm_content.specs.Mark.{is_outside, outside_rows}
use Rattle.nm_content.proofs.Walked.{all_come, come_on, come_out, comes_shorter, counted_from, counted_head, counted_on, counted_small, all_passed}
use Rattle.nm_content.proofs.mark.rows_outside.Goals as goal

pub walk-init : goal.walk-init
walk-init g c = record { goes_on = counted_from _ (outside_rows (g.M.RowMap.rows c.args.rows.now)) (all_come (g.M.RowMap.rows c.args.rows.now)); small = omega arith }

pub walk-smaller : goal.walk-smaller
walk-smaller g c =
    comes_shorter (g.M.RowMap.rows c.args.rows.now) (option_copied c.walk.passed) c.in-Some.next.now (sym c.next_after.ensures ∙ ap option_copied c.in-Some.is)

pub walk-preserved : goal.walk-preserved
walk-preserved g c =
    let rows = g.M.RowMap.rows c.args.rows.now in
    let next = c.in-Some.next.now in
    let left = come (Some next) (entries rows) in
    let on = come_on rows (option_copied c.walk.passed) next (sym c.next_after.ensures ∙ ap option_copied c.in-Some.is) in
    record {
      goes_on = counted_on c.walk.count (cond (is_outside next) 1 0) c.counted_with-count.result (count_by is_outside left) (counted_rows (outside_rows rows)) c.counted_with-count.ensures
          (ap (λ n. counted_rows (c.walk.count + n)) (counted_head next left)
          ∙ (ap (λ (l : List Place). counted_rows (c.walk.count + count_by is_outside l)) (sym on) ∙ c.walk.invariant.goes_on));
      small = counted_small c.counted_with-count.result (c.walk.count + cond (is_outside next) 1 0) c.counted_with-count.ensures;
    }

pub returns : goal.returns
returns g c =
    let rows = g.M.RowMap.rows c.args.rows.now in
    all_passed c.walk.count (outside_rows rows) (come (option_copied c.walk.passed) (entries rows)) (come_out rows (option_copied c.walk.passed) (sym c.next_after.ensures
    ∙ ap option_copied c.in_default.is)) c.walk.invariant.small c.walk.invariant.goes_on
