use Rattle.std.proofs.Common.{◌≡◌, subst}
use Rattle.nm_schema_uses.specs.Outline.{Outline}
use Rattle.nm_schema_keys.specs.Found.{member_named}
use Rattle.nm_schema_keys.proofs.Keeping.{kept-found}
use Rattle.nm_schema_keys.proofs.finder.Finder.named_kept.Goals as goal

pub returns-in-Some : goal.returns-in-Some
returns-in-Some c =
    let shape = c.self.inside.shape.now in
    subst (λ (o : Outline). c.named.result ≡ member_named o.rows o.groupings c.args.loses c.args.at c.args.name.now) c.self.view_is
    (kept-found shape.rows shape.groupings c.self.inside.members c.args.loses c.args.at c.in-Some.members.now c.args.name.now c.named.result c.self.invariant.1 c.in-Some.ensures.value c.named.ensures)
