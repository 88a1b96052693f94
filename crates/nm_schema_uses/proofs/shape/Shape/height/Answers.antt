use Rattle.std.proofs.Common.{◌≡◌, ◌<◌, ◌∙◌, ℕ, List, Option, None, length, slice_index_or, sym, ap, subst}
use Rattle.nm_schema_uses.specs.Outline.{Outline}
use Rattle.nm_schema_uses.specs.Sizes.{capped, height_of}
use Rattle.nm_schema_uses.proofs.Sizing.{heights-capped}
use Rattle.nm_schema_uses.proofs.shape.Shape.height.Goals as goal

pub returns : goal.returns
returns c =
    let lt : c.args.at < length c.self.inside.rows.now = subst (λ (s : Outline). c.args.at < length s.rows) (sym c.self.view_is) c.requires in
    subst (λ (s : Outline). c.number_at.result ≡ capped 66 (height_of s.rows s.groupings c.args.at)) c.self.view_is
    (c.number_at.ensures ∙ ap (λ (l : List (Option ℕ)). slice_index_or l c.args.at None) c.deref.ensures.value ∙ c.self.invariant.settled.heights.each c.args.at lt ∙ heights-capped c.self.inside.rows.now c.self.inside.groupings.now 66 c.args.at)
