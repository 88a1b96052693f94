use Rattle.std.proofs.Common.{ap, sym, ◌∙◌}
use Rattle.std.specs.Prelude.{is_some, option_copied}
use Rattle.nm_overlay.specs.Differences.{overridden}
use Rattle.nm_overlay.proofs.Order.{under_itself}
use Rattle.nm_overlay.proofs.Below.{has_row, has_next, has_none, copied_some}
use Rattle.nm_overlay.proofs.rows.any_under.Goals as goal

pub returns-then-is_some : goal.returns-then-is_some
returns-then-is_some c =
    let there = ap is_some (sym c.value_of.ensures) ∙ copied_some c.value_of.result ∙ sym c.is_some.ensures in
    sym (has_row (overridden c.args.base.now c.args.pairs.now) c.args.node.now c.args.node.now (under_itself c.args.node.now) (there ∙ c.if-is_some.true))

pub returns-in-Some : goal.returns-in-Some
returns-in-Some c =
    let there = ap is_some (sym c.value_of.ensures) ∙ copied_some c.value_of.result ∙ sym c.is_some.ensures in
    c.is_under.ensures ∙ sym (has_next (overridden c.args.base.now c.args.pairs.now) c.args.node.now _ (there ∙ c.if-is_some.false) (sym c.next_after.ensures ∙ ap option_copied c.in-Some.is))

pub returns-in-None : goal.returns-in-None
returns-in-None c =
    let there = ap is_some (sym c.value_of.ensures) ∙ copied_some c.value_of.result ∙ sym c.is_some.ensures in
    sym (has_none (overridden c.args.base.now c.args.pairs.now) c.args.node.now (there ∙ c.if-is_some.false) (sym c.next_after.ensures ∙ ap option_copied c.in-None.is))
