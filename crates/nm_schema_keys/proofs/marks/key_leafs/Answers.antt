use Rattle.std.proofs.Common.{◌≡◌, ◌∙◌, List, length, ap, subst, arith}
use Rattle.nm_schema_statements.specs.declared.row.Row.{Row}
use Rattle.nm_schema_statements.specs.Rows.{AreRows}
use Rattle.nm_schema_keys.proofs.Marking.{marked_next, marked_all}
use Rattle.nm_schema_keys.proofs.marks.key_leafs.Goals as goal

pub loop-list-preserved : goal.loop-list-preserved
loop-list-preserved c = record {
  size = c.in-Ok.ensures.size ∙ c.loop-list.invariant.size;
  marked = λ standing is. marked_next c.args.shape.now.rows c.args.shape.now.groupings standing c.loop-list.list c.loop-list.marks.items c.mark_list.new.marks.items (c.in-Ok.ensures.marked standing is) (c.loop-list.invariant.marked standing is);
}

pub returns-clause-marks : goal.returns-clause-marks
returns-clause-marks c =
    let end : c.len-list-end.result ≡ length c.args.shape.now.rows = c.len-list-end.ensures ∙ ap (λ (rows : List Row). length rows) (c.rows-3.ensures ∙ c.requires) in
    let bound = c.loop-list.auto.list-end in
    let all : c.loop-list.list ≡ length c.args.shape.now.rows = omega (arith, end, bound, c.loop-list-test.false) in
    λ standing is. marked_all c.args.shape.now.rows c.args.shape.now.groupings standing c.loop-list.list c.loop-list.marks.items (subst AreRows (c.rows.ensures ∙ c.requires) c.laws.ensures) all (c.loop-list.invariant.marked standing is)
