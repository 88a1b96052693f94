use Rattle.std.proofs.Common.{ap, ◌∙◌}
use Rattle.nm_base.specs.Numbers.{is_among}
use Rattle.nm_validate_rules.specs.Places.{chain}
use Rattle.nm_incremental.proofs.Chains.{on_none, on_here, on_above}
use Rattle.nm_incremental.proofs.paths.+is_on_chain.Goals as goal

pub returns-in_default : goal.returns-in_default
returns-in_default t c = on_none c.args.schema.now c.args.above c.args.at c.in_default.is

pub returns-then-node-above : goal.returns-then-node-above
returns-then-node-above t c = on_here c.args.schema.now c.laws.ensures c.args.above c.in-Some.node c.args.at c.in-Some.is c.if-node-above.true

pub returns : goal.returns
returns t c =
    c.is_on_chain.ensures ∙ ap (λ o. is_among c.args.above (chain c.args.schema.now.nodes o)) c.parent.ensures
    ∙ on_above c.args.schema.now c.laws.ensures c.args.above c.in-Some.node c.args.at c.in-Some.is c.if-node-above.false
