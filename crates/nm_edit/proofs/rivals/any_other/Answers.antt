use Rattle.std.proofs.Common.{◌-◌, ap, sym, ◌∙◌, arith}
use Rattle.std.specs.List.{list_any}
use Rattle.nm_validate_rules.specs.Cases.{outwards}
use Rattle.nm_edit.specs.Rivals.{is_other_case}
use Rattle.nm_edit.proofs.Outwards.{any_none, any_zero, any_here, any_on}
use Rattle.nm_edit.proofs.rivals.any_other.Goals as goal

pub returns-in_default : goal.returns-in_default
returns-in_default c =
    let t = c.args.schema.now in
    let test = is_other_case c.args.schema.now c.args.case in
    sym (any_none t test c.outwards.left) ∙ ap (λ o. list_any test (outwards t c.outwards.left o)) (sym c.in_default.is) ∙ c.outwards.invariant

pub returns-then-is_other_case : goal.returns-then-is_other_case
returns-then-is_other_case c =
    let t = c.args.schema.now in
    let test = is_other_case c.args.schema.now c.args.case in
    sym (any_here t test c.outwards.left c.in-Some.own c.outwards-test.true (sym c.is_other_case.ensures ∙ c.if-is_other_case.true))
    ∙ ap (λ o. list_any test (outwards t c.outwards.left o)) (sym c.in-Some.is) ∙ c.outwards.invariant

pub outwards-preserved : goal.outwards-preserved
outwards-preserved c =
    let t = c.args.schema.now in
    let test = is_other_case c.args.schema.now c.args.case in
    ap (λ o. list_any test (outwards t (c.outwards.left - 1) o)) c.outer_case-over.ensures.outer
    ∙ sym (any_on t test c.outwards.left c.in-Some.own c.outwards-test.true (sym c.is_other_case.ensures ∙ c.if-is_other_case.false))
    ∙ ap (λ o. list_any test (outwards t c.outwards.left o)) (sym c.in-Some.is) ∙ c.outwards.invariant

pub returns : goal.returns
returns c =
    let t = c.args.schema.now in
    let none = c.outwards-test.false in
    sym (any_zero t (is_other_case c.args.schema.now c.args.case) c.outwards.left c.outwards.over (omega (arith, none))) ∙ c.outwards.invariant
