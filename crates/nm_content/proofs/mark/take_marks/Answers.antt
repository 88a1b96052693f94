use Rattle.std.proofs.Common.{◌≡◌, ◌<◌, ◌^◌, sym, ap, refl, ◌∙◌, arith}
use Rattle.nm_config.specs.Under.{without_under}
use Rattle.nm_content.specs.Mark.{mark_path}
use Rattle.nm_content.proofs.Taking.{taken_none, taken_one, taken_no_more, taken_all}
use Rattle.nm_content.proofs.mark.take_marks.Goals as goal
use Rattle.nm_content.proofs.mark.take_marks.Goals.{then-takes+in_ok-take_mark, else-takes}

pub loop-number-init : goal.loop-number-init
loop-number-init g c = record { taken = taken_none c.args.marks (g.M.RowMap.rows c.args.rows.now); base = refl }

pub loop-number-preserved : goal.loop-number-preserved
loop-number-preserved g c = elim c.if-takes.branch [
  | then-takes+in_ok-take_mark w ↦
      let e : g.M.RowMap.rows c.if-takes.rows ≡ without_under (g.M.RowMap.rows c.loop-number.rows) (mark_path c.loop-number.number) = ap g.M.RowMap.rows w.rows-is ∙ w.in_ok-take_mark.ensures.rows in
      record {
        taken = rw e (taken_one c.args.marks c.loop-number.number (g.M.RowMap.rows c.args.rows.now) (g.M.RowMap.rows c.loop-number.rows) (sym c.takes.ensures ∙ w.if-takes.true) c.loop-number.invariant.taken);
        base = ap g.M.RowMap.base w.rows-is ∙ w.in_ok-take_mark.ensures.base ∙ c.loop-number.invariant.base;
      }
  | else-takes w ↦
      record {
        taken = rw w.rows-is (taken_no_more c.args.marks c.loop-number.number (g.M.RowMap.rows c.args.rows.now) (g.M.RowMap.rows c.loop-number.rows) (sym c.takes.ensures ∙ w.if-takes.false) c.loop-number.invariant.taken);
        base = ap g.M.RowMap.base w.rows-is ∙ c.loop-number.invariant.base;
      }
]

pub returns : goal.returns
returns g c =
    let small : c.args.marks.remove.0 < 2 ^ 64 = omega arith in
    let e : c.loop-number.number ≡ 65 = omega arith in
    record {
      rows = taken_all c.args.marks (g.M.RowMap.rows c.args.rows.now) (g.M.RowMap.rows c.loop-number.rows) small (rw e at c.loop-number.invariant.taken);
      base = c.loop-number.invariant.base;
    }
