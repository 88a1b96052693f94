use Rattle.nm_content.specs.Mark.{outside_rows}
use Rattle.nm_content.proofs.Counted.{all_counted}
use Rattle.nm_content.proofs.mark.outside_rows.Goals as goal

pub returns : goal.returns
returns c = all_counted c.loop-path.count (outside_rows c.args.config.now) c.loop-path.path-iterator c.in-None.ensures.steps.0 c.loop-path.invariant.small c.loop-path.invariant.goes_on
