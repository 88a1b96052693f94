use Rattle.std.proofs.Common.{◌≡◌, ◌∙◌, false, eqb, get_or, arith}
use Rattle.std.proofs.lemmas.Bool.Decides.{nat_tests}
use Rattle.nm_yang.proofs.Skips.{after_short, line_on, line_end}
use Rattle.nm_yang.proofs.blank.after_line.Goals as goal

pub loop-rest-preserved : goal.loop-rest-preserved
loop-rest-preserved c =
    let rest = c.loop-rest.rest.now in
    let on : eqb (get_or rest 0 0) 10 ≡ false = grind (arith, nat_tests) in
    (λ page. c.loop-rest.invariant.0 page ∙ line_on page rest c.in-len1-up.len_at_least on, omega (arith, after_short rest, c.loop-rest.invariant.1))

pub returns-clause-rest : goal.returns-clause-rest
returns-clause-rest c = λ page. c.loop-rest.invariant.0 page ∙ line_end page c.loop-rest.rest.now c.in_default.len_below
