use Rattle.std.proofs.Common.{◌≡◌, ◌↔◌, true, subst}
use Rattle.nm_schema_uses.specs.Config.{IsConfiguration}
use Rattle.nm_schema_uses.specs.Outline.{Outline}
use Rattle.nm_schema_uses.proofs.shape.Shape.is_configuration.Goals as goal

pub returns : goal.returns
returns c = subst (λ (s : Outline). (c.is_marked.result ≡ true) ↔ IsConfiguration s.rows s.groupings c.args.at) c.self.view_is (rw (c.is_marked.ensures, c.deref.ensures.value) (c.self.invariant.settled.configured c.args.at))
