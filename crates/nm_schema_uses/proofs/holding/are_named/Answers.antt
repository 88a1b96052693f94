use Rattle.std.proofs.Common.{None, All, refl, subst}
use Rattle.std.proofs.lemmas.List.{take_all}
use Rattle.std.proofs.lemmas.List.Elements.{All-more}
use Rattle.nm_schema_uses.proofs.Graphs.{IsNamed}
use Rattle.nm_schema_uses.proofs.holding.are_named.Goals as goal

pub loop-grouping-preserved : goal.loop-grouping-preserved
loop-grouping-preserved c = All-more (IsNamed c.args.rows.now) c.args.groupings.now c.loop-grouping.grouping-index None c.loop-grouping-test.true c.loop-grouping.invariant (c.is_named.ensures.0 c.if-not-is_named.false)

pub returns : goal.returns
returns c = (
  (λ _. subst (λ l. All (IsNamed c.args.rows.now) l) (take_all c.loop-grouping.grouping-index c.args.groupings.now c.loop-grouping-test.false) c.loop-grouping.invariant),
  (λ _. refl),
)
