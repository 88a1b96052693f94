use Rattle.std.proofs.Common.{List}
use Rattle.nm_types.specs.Path.{PathStep}
use Rattle.nm_types.specs.declared.value.Value.{Value}
use Rattle.nm_edit.specs.Rivals.{ousted_by}
use Rattle.nm_edit.proofs.Steps.{put_one, put_all}
use Rattle.nm_edit.proofs.clear.put_ousted.Goals as goal

pub loop-path-preserved : goal.loop-path-preserved
loop-path-preserved c =
    put_one (λ (row : List PathStep × Value). ousted_by c.args.schema.now row.0) c.args.rows.now c.loop-path.path-index c.loop-path-item.result _ _ _ c.loop-path-test.true c.loop-path-item.is c.in_ok-put_along.ensures
    c.loop-path.invariant

pub returns : goal.returns
returns c = put_all (λ (row : List PathStep × Value). ousted_by c.args.schema.now row.0) c.args.rows.now c.loop-path.path-index _ _ c.loop-path-test.false c.loop-path.invariant
