use Rattle.std.proofs.Common.{◌≡◌, ◌∙◌, sym, ap}
use Rattle.nm_schema_uses.specs.Outline.{Outline}
use Rattle.nm_schema_uses.specs.Config.{is_state}
use Rattle.nm_schema_keys.proofs.Keeping.{keeps_more, keeps_same}
use Rattle.nm_schema_keys.proofs.finder.Finder.keep_state.Goals as goal

pub invariant_of-self-2 : goal.invariant_of-self-2
invariant_of-self-2 c =
    let rows = c.self.inside.shape.now.rows in
    let is : c.args.state ≡ is_state rows c.args.at = c.requires ∙ ap (λ (o : Outline). is_state o.rows c.args.at) (sym c.self.view_is) in
    (c.self.invariant.0, c.self.invariant.1, keeps_more (is_state rows) c.self.inside.states c.insert.new.self c.args.at c.args.state c.self.invariant.2 c.in_ok-insert.ensures.updates.0 is)

pub invariant_of-self : goal.invariant_of-self
invariant_of-self c =
    (c.self.invariant.0, c.self.invariant.1, keeps_same (is_state c.self.inside.shape.now.rows) c.self.inside.states c.insert.new.self c.self.invariant.2 c.in_err-insert.ensures.err)
