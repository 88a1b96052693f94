use Rattle.std.proofs.Common.{◌≡◌, ◌∙◌, [], subst, arith}
use Rattle.nm_schema_uses.specs.Holding.{holding}
use Rattle.nm_schema_uses.specs.Outline.{Outline}
use Rattle.nm_schema_uses.proofs.Bringing.{holding-read, holding-none}
use Rattle.nm_schema_uses.proofs.shape.Shape.leads_to.Goals as goal

pub returns-then-at-len : goal.returns-then-at-len
returns-then-at-len c = subst (λ (s : Outline). c.as_slice.result.now ≡ holding s.rows s.groupings c.args.at) c.self.view_is
    (c.as_slice.ensures.value ∙ holding-read c.self.inside.rows.now c.self.inside.groupings.now c.self.inside.graph.items c.args.at c.index.result.now c.self.invariant.leads (omega arith) c.index.ensures)

pub returns : goal.returns
returns c = subst (λ (s : Outline). [] ≡ holding s.rows s.groupings c.args.at) c.self.view_is (holding-none c.self.inside.rows.now c.self.inside.groupings.now c.self.inside.graph.items c.args.at c.self.invariant.leads (omega arith))
