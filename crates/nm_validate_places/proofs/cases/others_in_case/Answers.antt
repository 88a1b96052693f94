use Rattle.std.proofs.Common.{◌==◌, ◌<◌, not, ℕ, ap, ◌∙◌, subst}
use Rattle.std.specs.Prelude.{filter}
use Rattle.nm_validate_rules.specs.Cases.{is_in_case, numbers}
use Rattle.nm_validate_places.proofs.Below.{filter_twice}
use Rattle.nm_validate_places.proofs.cases.others_in_case.Goals as goal

pub returns-then-case-cases : goal.returns-then-case-cases
returns-then-case-cases c =
    let t = c.args.schema.now in
    let test = λ (y : ℕ). not (y == c.args.at) in
    let lt = subst (λ (n : ℕ). c.args.case < n) c.requires.count c.if-case-cases.true in
    c.in_ok-all.ensures ∙ ap (filter test) (c.nodes_in.ensures ∙ c.requires.each c.args.case lt) ∙ filter_twice test (is_in_case t c.args.case) (numbers t.nodes)

pub returns : goal.returns
returns c =
    let t = c.args.schema.now in
    let test = λ (y : ℕ). not (y == c.args.at) in
    c.in_ok-all-2.ensures ∙ ap (filter test) (c.deref.ensures.value ∙ c.in_ok-nodes.ensures) ∙ filter_twice test (is_in_case t c.args.case) (numbers t.nodes)
