use Rattle.std.proofs.Common.{◌∙◌, sym, arith}
use Rattle.nm_schema_uses.specs.Holding.{is_fork_at}
use Rattle.nm_schema_uses.proofs.Without.{none_more, no-fork}
use Rattle.nm_schema_uses.proofs.passing.has_fork.Goals as goal

pub loop-at-preserved : goal.loop-at-preserved
loop-at-preserved c = none_more (is_fork_at c.args.rows.now) c.loop-at.at c.loop-at.invariant (sym c.is_fork_at.ensures ∙ c.if-is_fork_at.false)

pub returns : goal.returns
returns c = λ _. no-fork c.args.rows.now c.loop-at.at c.loop-at.invariant (omega arith)
