use Rattle.std.proofs.Common.{sym, ◌∙◌}
use Rattle.nm_config.proofs.Ranges.{first_under, none_under}
use Rattle.nm_config.proofs.config.begins_under.Goals as goal

pub returns-in-Some-clause-found : goal.returns-in-Some-clause-found
returns-in-Some-clause-found c = let h = c.in-Some.ensures.steps in
    c.is_under.ensures ∙ sym (first_under c.args.node.now c.args.tree.now.entries _ _ c.range.ensures.ordered (sym (c.range.ensures.between tt) ∙ h))

pub returns-in-None-clause-found : goal.returns-in-None-clause-found
returns-in-None-clause-found c = let h = c.in-None.ensures.steps in
    sym (none_under c.args.node.now c.args.tree.now.entries (sym (c.range.ensures.between tt) ∙ h.0))
