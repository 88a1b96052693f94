use Rattle.std.proofs.Common.{◌-◌, ap, sym, ◌∙◌, arith}
use Rattle.std.specs.List.{list_any}
use Rattle.nm_validate_rules.specs.Cases.{outwards}
use Rattle.nm_edit.specs.Rivals.{is_in_other}
use Rattle.nm_edit.proofs.Outwards.{any_none, any_zero, any_here, any_on}
use Rattle.nm_edit.proofs.rivals.any_rival.Goals as goal

pub returns-in_default : goal.returns-in_default
returns-in_default c =
    let t = c.args.schema.now in
    let test = is_in_other c.args.schema.now c.args.other in
    sym (any_none t test c.outwards.left) ∙ ap (λ o. list_any test (outwards t c.outwards.left o)) (sym c.in_default.is) ∙ c.outwards.invariant

pub returns-then-is_in_other : goal.returns-then-is_in_other
returns-then-is_in_other c =
    let t = c.args.schema.now in
    let test = is_in_other c.args.schema.now c.args.other in
    sym (any_here t test c.outwards.left c.in-Some.own c.outwards-test.true (sym c.is_in_other.ensures ∙ c.if-is_in_other.true))
    ∙ ap (λ o. list_any test (outwards t c.outwards.left o)) (sym c.in-Some.is) ∙ c.outwards.invariant

pub outwards-preserved : goal.outwards-preserved
outwards-preserved c =
    let t = c.args.schema.now in
    let test = is_in_other c.args.schema.now c.args.other in
    ap (λ o. list_any test (outwards t (c.outwards.left - 1) o)) c.outer_case-over.ensures.outer
    ∙ sym (any_on t test c.outwards.left c.in-Some.own c.outwards-test.true (sym c.is_in_other.ensures ∙ c.if-is_in_other.false))
    ∙ ap (λ o. list_any test (outwards t c.outwards.left o)) (sym c.in-Some.is) ∙ c.outwards.invariant

pub returns : goal.returns
returns c =
    let t = c.args.schema.now in
    let none = c.outwards-test.false in
    sym (any_zero t (is_in_other c.args.schema.now c.args.other) c.outwards.left c.outwards.over (omega (arith, none))) ∙ c.outwards.invariant
