use Rattle.std.proofs.Common.{subst}
use Rattle.nm_schema_uses.specs.Holding.{AreLeading}
use Rattle.nm_schema_uses.specs.Outline.{Outline}
use Rattle.nm_schema_uses.proofs.Graphs.{all-leading}
use Rattle.nm_schema_uses.proofs.shape.Shape.laws.Goals as goal

pub returns : goal.returns
returns c = subst (λ (s : Outline). AreLeading s.rows s.groupings) c.self.view_is (all-leading c.self.inside.rows.now c.self.inside.groupings.now c.self.inside.graph.items c.self.invariant.leads c.self.invariant.within)
