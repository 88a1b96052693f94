use Rattle.std.proofs.Common.{◌≡◌}
use Rattle.std.proofs.lemmas.Result.{IfOk-weaker}
use Rattle.nm_schema_uses.specs.Passing.{AreWithoutState}
use Rattle.nm_schema_uses.proofs.Without.{kept-same}
use Rattle.nm_schema_uses.proofs.passing.brought_kept.Goals as goal

pub returns-then-not-has_state : goal.returns-then-not-has_state
returns-then-not-has_state c = IfOk-weaker c.copied.result (λ copies. copies.items ≡ c.args.known.now) (λ copies. AreWithoutState c.args.rows.now c.args.groupings.now copies.items)
    (λ copies e. kept-same c.args.rows.now c.args.groupings.now copies.items c.args.known.now c.requires.known e (c.has_state.ensures c.if-not-has_state.true)) c.copied.ensures
