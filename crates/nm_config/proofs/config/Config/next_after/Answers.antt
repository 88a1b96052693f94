use Rattle.std.proofs.Common.{ap, sym, ◌∙◌}
use Rattle.std.specs.Prelude.{filter, slice_get}
use Rattle.std.specs.Map.{keys_of}
use Rattle.std.specs.Ordering.{is_lt}
use Rattle.nm_types.specs.Path.{path_cmp}
use Rattle.nm_config.specs.Rows.{next_path}
use Rattle.nm_config.proofs.Ranges.{next_in_range, paths-from_entries}
use Rattle.nm_config.proofs.config.Config.next_after.Goals as goal

pub returns-in-Some : goal.returns-in-Some
returns-in-Some c = let h = c.in-Some.ensures.steps in
    sym (ap (λ es. slice_get (keys_of es) 0) (sym (c.range.ensures.between tt) ∙ h))
    ∙ next_in_range c.args.path.now c.self.inside.tree.entries
    ∙ ap (λ ks. slice_get (filter (λ other. is_lt (path_cmp c.args.path.now other)) ks) 0) (sym (paths-from_entries c.self.inside.tree.entries c.range.ensures.ordered))
    ∙ ap (λ m. next_path m c.args.path.now) c.self.view_is

pub returns-in-None : goal.returns-in-None
returns-in-None c = let h = c.in-None.ensures.steps in
    sym (ap (λ es. slice_get (keys_of es) 0) (sym (c.range.ensures.between tt) ∙ h.0))
    ∙ next_in_range c.args.path.now c.self.inside.tree.entries
    ∙ ap (λ ks. slice_get (filter (λ other. is_lt (path_cmp c.args.path.now other)) ks) 0) (sym (paths-from_entries c.self.inside.tree.entries c.range.ensures.ordered))
    ∙ ap (λ m. next_path m c.args.path.now) c.self.view_is
