use Rattle.std.proofs.Common.{◌==◌, ap, ◌∙◌}
use Rattle.std.specs.List.{list_any}
use Rattle.nm_cells.specs.Kept.{is_managers}
use Rattle.nm_cells.proofs.kept.KeptDevice.is_managers.Goals as goal

pub returns : goal.returns
returns g c =
    c.has_session.ensures
    ∙ (ap (list_any (λ other. other == c.args.session)) c.as_slice.ensures.value
    ∙ (c.self.invariant.4.are c.args.session ∙ ap (λ s. is_managers c.args.session s.recorded.history) c.self.view_is))
