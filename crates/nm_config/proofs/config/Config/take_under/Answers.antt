use Rattle.std.proofs.Common.{ap, sym, ◌∙◌}
use Rattle.std.specs.FinMap as map
use Rattle.nm_config.specs.Under.{under, without_rows, without_under}
use Rattle.nm_config.proofs.Ranges.{without_under_rows, entries-under}
use Rattle.nm_config.proofs.config.Config.take_under.Goals as goal

pub returns-clause-taken : goal.returns-clause-taken
returns-clause-taken c = c.in_ok-rows.ensures.copies ∙ sym (entries-under c.args.node.now c.self.inside.tree.entries c.in_ok-rows.ensures.ordered)
    ∙ ap (λ m. map.entries (under m c.args.node.now)) c.self.view_is

pub returns-clause-ok : goal.returns-clause-ok
returns-clause-ok c = c.remove_rows.ensures ∙ ap (without_rows (map.from_entries c.self.inside.tree.entries)) (c.deref.ensures.value ∙ c.in_ok-rows.ensures.copies)
    ∙ without_under_rows c.args.node.now c.self.inside.tree.entries ∙ ap (λ m. without_under m c.args.node.now) c.self.view_is
