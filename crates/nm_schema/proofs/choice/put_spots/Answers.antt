use Rattle.std.proofs.Common.{◌∙◌, None}
use Rattle.nm_schema.proofs.Chosen.{spots_next, spots_past}
use Rattle.nm_schema.proofs.choice.put_spots.Goals.{then-at-spots, else-at-spots}
use Rattle.nm_schema.proofs.choice.put_spots.Goals as goal

pub loop-at-preserved : goal.loop-at-preserved
loop-at-preserved c = elim c.if-at-spots.branch [
  | then-at-spots w ↦ rw (w.case_in-is, w.put_spot.ensures, w.shifted.ensures) (spots_next c.loop-at.case_in.items c.args.nodes.now c.args.spots.now c.args.cases c.loop-at.at 0 None c.loop-at-test.true w.if-at-spots.true ∙ c.loop-at.invariant)
  | else-at-spots w ↦ rw w.case_in-is (spots_past c.loop-at.case_in.items c.args.nodes.now c.args.spots.now c.args.cases c.loop-at.at w.if-at-spots.false ∙ c.loop-at.invariant)
]
