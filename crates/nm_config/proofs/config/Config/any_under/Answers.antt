use Rattle.std.proofs.Common.{ap, sym, ◌∙◌}
use Rattle.std.specs.List.{list_any}
use Rattle.nm_config.specs.Under.{is_under, has_under}
use Rattle.nm_config.proofs.Ranges.{paths-from_entries}
use Rattle.nm_config.proofs.config.Config.any_under.Goals as goal

pub returns : goal.returns
returns c = c.begins_under.ensures.found ∙ ap (list_any (is_under c.args.node.now)) (sym (paths-from_entries c.self.inside.tree.entries c.begins_under.ensures.ordered))
    ∙ ap (λ m. has_under m c.args.node.now) c.self.view_is
