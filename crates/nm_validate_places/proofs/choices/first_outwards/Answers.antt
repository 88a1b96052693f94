use Rattle.std.proofs.Common.{◌-◌, ap, sym, ◌∙◌, arith}
use Rattle.nm_validate_places.proofs.Choosing.{first_case, case_none, case_zero, case_here, case_on}
use Rattle.nm_validate_places.proofs.choices.first_outwards.Goals as goal

pub returns-in_default : goal.returns-in_default
returns-in_default c =
    sym (case_none c.args.schema.now c.args.choice c.outwards.left) ∙ ap (first_case c.args.schema.now c.args.choice c.outwards.left) (sym c.in_default.is) ∙ c.outwards.invariant

pub returns-then-is_of : goal.returns-then-is_of
returns-then-is_of c =
    sym (case_here c.args.schema.now c.args.choice c.outwards.left c.in-Some.own c.outwards-test.true (sym c.is_of.ensures ∙ c.if-is_of.true))
    ∙ ap (first_case c.args.schema.now c.args.choice c.outwards.left) (sym c.in-Some.is) ∙ c.outwards.invariant

pub outwards-preserved : goal.outwards-preserved
outwards-preserved c =
    ap (first_case c.args.schema.now c.args.choice (c.outwards.left - 1)) c.outer_case-over.ensures.outer
    ∙ sym (case_on c.args.schema.now c.args.choice c.outwards.left c.in-Some.own c.outwards-test.true (sym c.is_of.ensures ∙ c.if-is_of.false))
    ∙ ap (first_case c.args.schema.now c.args.choice c.outwards.left) (sym c.in-Some.is) ∙ c.outwards.invariant

pub returns : goal.returns
returns c =
    let none = c.outwards-test.false in
    sym (case_zero c.args.schema.now c.args.choice c.outwards.left c.outwards.over (omega (arith, none))) ∙ c.outwards.invariant
