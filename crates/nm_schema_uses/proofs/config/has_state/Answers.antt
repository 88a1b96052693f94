use Rattle.std.proofs.Common.{◌∙◌, sym, arith}
use Rattle.nm_schema_uses.specs.Config.{is_state}
use Rattle.nm_schema_uses.proofs.Without.{none_more, no-state}
use Rattle.nm_schema_uses.proofs.config.has_state.Goals as goal

pub loop-at-preserved : goal.loop-at-preserved
loop-at-preserved c = none_more (is_state c.args.rows.now) c.loop-at.at c.loop-at.invariant (sym c.is_state.ensures ∙ c.if-is_state.false)

pub returns : goal.returns
returns c = λ _. no-state c.args.rows.now c.loop-at.at c.loop-at.invariant (omega arith)
