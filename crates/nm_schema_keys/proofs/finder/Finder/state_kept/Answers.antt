use Rattle.std.proofs.Common.{◌≡◌, ◌∙◌, IfSome, subst}
use Rattle.nm_schema_uses.specs.Outline.{Outline}
use Rattle.nm_schema_uses.specs.Config.{is_state}
use Rattle.nm_schema_keys.proofs.Keeping.{kept_if}
use Rattle.nm_schema_keys.proofs.finder.Finder.state_kept.Goals as goal

pub returns : goal.returns
returns c =
    subst (λ (o : Outline). IfSome c.copied.result (λ state. state ≡ is_state o.rows c.args.at)) c.self.view_is
    (kept_if (is_state c.self.inside.shape.now.rows) c.self.inside.states c.args.at c.copied.result c.self.invariant.2 (c.copied.ensures ∙ c.get.ensures.value))
