use Rattle.std.proofs.Common.{◌-◌, ap, sym, ◌∙◌, arith}
use Rattle.nm_base.specs.Numbers.{is_among}
use Rattle.nm_validate_rules.specs.Cases.{outwards}
use Rattle.nm_validate_places.proofs.Outwards.{out_none, out_zero, out_here, out_on}
use Rattle.nm_incremental.proofs.members.is_outwards.Goals as goal

pub returns-in_default : goal.returns-in_default
returns-in_default c =
    sym (out_none c.args.schema.now c.args.case c.outwards.left) ∙ ap (λ o. is_among c.args.case (outwards c.args.schema.now c.outwards.left o)) (sym c.in_default.is) ∙ c.outwards.invariant

pub returns-then-own-case : goal.returns-then-own-case
returns-then-own-case c =
    sym (out_here c.args.schema.now c.args.case c.outwards.left c.in-Some.own c.outwards-test.true c.if-own-case.true)
    ∙ ap (λ o. is_among c.args.case (outwards c.args.schema.now c.outwards.left o)) (sym c.in-Some.is) ∙ c.outwards.invariant

pub outwards-preserved : goal.outwards-preserved
outwards-preserved c =
    ap (λ o. is_among c.args.case (outwards c.args.schema.now (c.outwards.left - 1) o)) c.outer_case-over.ensures.outer
    ∙ sym (out_on c.args.schema.now c.args.case c.outwards.left c.in-Some.own c.outwards-test.true c.if-own-case.false)
    ∙ ap (λ o. is_among c.args.case (outwards c.args.schema.now c.outwards.left o)) (sym c.in-Some.is) ∙ c.outwards.invariant

pub returns : goal.returns
returns c =
    let none = c.outwards-test.false in
    sym (out_zero c.args.schema.now c.args.case c.outwards.left c.outwards.over (omega (arith, none))) ∙ c.outwards.invariant
