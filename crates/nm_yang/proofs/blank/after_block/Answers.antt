use Rattle.std.proofs.Common.{◌≡◌, ◌∙◌, false, eqb, get_or, refl, arith}
use Rattle.std.specs.Prelude.{◌&&◌}
use Rattle.std.proofs.lemmas.Bool.Decides.{nat_tests}
use Rattle.nm_yang.proofs.Quotes.{and_false}
use Rattle.nm_yang.proofs.Skips.{after_short, block_on, block_end}
use Rattle.nm_yang.proofs.blank.after_block.Goals as goal
use Rattle.nm_yang.proofs.blank.after_block.Goals.{else-starred-via-then-starred+else-byte-eq47, else-starred-via-else-starred}

pub loop-rest-preserved : goal.loop-rest-preserved
loop-rest-preserved c =
    let rest = c.loop-rest.rest.now in
    let on : (c.loop-rest.starred && eqb (get_or rest 0 0) 47) ≡ false =
    elim c.else-starred.branch [
      | else-starred-via-then-starred+else-byte-eq47 w ↦ (let e : eqb (get_or rest 0 0) 47 ≡ false = grind (arith, nat_tests) in and_false c.loop-rest.starred _ e)
      | else-starred-via-else-starred w ↦ rw w.if-starred.false refl
    ] in
    (λ page opener. c.loop-rest.invariant.0 page opener ∙ block_on page opener c.loop-rest.starred rest c.in-len1-up.len_at_least on, omega (arith, after_short rest, c.loop-rest.invariant.1))

pub returns-clause-rest : goal.returns-clause-rest
returns-clause-rest c = λ page opener. c.loop-rest.invariant.0 page opener ∙ block_end page opener c.loop-rest.starred c.loop-rest.rest.now c.in_default.len_below
