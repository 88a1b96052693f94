use Rattle.std.proofs.Common.{◌∙◌, sym, arith}
use Rattle.nm_yang.proofs.Skips.{after_short, bare_on}
use Rattle.nm_yang.proofs.word.bare_end.Goals as goal

pub loop-rest-preserved : goal.loop-rest-preserved
loop-rest-preserved c =
    let rest = c.loop-rest.rest.now in
    (sym (bare_on rest c.in-len1-up.len_at_least (sym c.if-is_ending.ensures) (sym c.if-opens_comment.ensures) (sym c.if-closes_comment.ensures)) ∙ c.loop-rest.invariant.0, omega (arith, after_short rest, c.loop-rest.invariant.1))
