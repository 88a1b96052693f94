use Rattle.std.proofs.Common.{◌∷◌, ◌++◌}
use Rattle.nm_json.proofs.Long.{long_next, long_end}
use Rattle.nm_json.proofs.names.may_have_long.Goals as goal

pub loop-own-preserved : goal.loop-own-preserved
loop-own-preserved c =
    long_next (c.args.module.now ++ 58 ∷ c.args.name.now) (c.in-Some.own.now, c.in-Some.field-0-1.now) c.next.new.self c.loop-own.own-iterator _ c.as_str.result.now c.may_be_long.result c.in-Some.ensures.steps c.as_str.ensures.value
    c.may_be_long.ensures c.if-may_be_long.false c.loop-own.invariant

pub returns : goal.returns
returns c = λ none. long_end (c.args.module.now ++ 58 ∷ c.args.name.now) c.loop-own.own-iterator _ c.in-None.ensures.steps.0 c.loop-own.invariant
