use Rattle.std.proofs.Common.{◌≡◌}
use Rattle.std.proofs.lemmas.Result.{IfOk-weaker}
use Rattle.nm_schema_uses.specs.Passing.{ArePlain}
use Rattle.nm_schema_uses.proofs.Without.{plain-same}
use Rattle.nm_schema_uses.proofs.passing.brought_plain.Goals as goal

pub returns-then-not-has_fork : goal.returns-then-not-has_fork
returns-then-not-has_fork c = IfOk-weaker c.copied.result (λ copies. copies.items ≡ c.args.known.now) (λ copies. ArePlain c.args.rows.now c.args.groupings.now copies.items)
    (λ copies e. plain-same c.args.rows.now c.args.groupings.now copies.items c.args.known.now c.requires.known e (c.has_fork.ensures c.if-not-has_fork.true)) c.copied.ensures
