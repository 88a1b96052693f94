use Rattle.std.proofs.Common.{◌≡◌, None, subst, arith}
use Rattle.nm_schema_uses.specs.Members.{brought}
use Rattle.nm_schema_uses.specs.Outline.{Outline}
use Rattle.nm_schema_uses.proofs.Bringing.{brought-past}
use Rattle.nm_schema_uses.proofs.shape.Shape.brought.Goals as goal

pub returns : goal.returns
returns c = subst (λ (s : Outline). brought s.rows s.groupings c.args.at ≡ None) c.self.view_is
    (let size = c.self.invariant.bring.size in brought-past c.self.inside.rows.now c.self.inside.groupings.now c.args.at (omega arith))
