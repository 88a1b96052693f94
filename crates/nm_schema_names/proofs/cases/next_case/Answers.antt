use Rattle.std.proofs.Common.{◌≡◌, ◌∙◌, ◌||◌, [], ℕ, List, get_or, ap, arith}
use Rattle.std.proofs.lemmas.List.{get_or_default}
use Rattle.std.specs.Str.{bytes_eq}
use Rattle.nm_schema_uses.specs.Arguments.{argument_at}
use Rattle.nm_schema_names.specs.Clash.{has_name}
use Rattle.nm_schema_names.proofs.Casing.{cases_none, cases_same, cases_more, had-name}
use Rattle.nm_schema_names.proofs.cases.next_case.Goals as goal

pub returns-in-None-clause-taken : goal.returns-in-None-clause-taken
returns-in-None-clause-taken c = cases_none c.args.rows.now c.args.taken.now.items c.args.at c.requires.taken c.in-None.ensures.choice

pub returns-then-has-clause-taken : goal.returns-then-has-clause-taken
returns-then-has-clause-taken c =
    let size = c.requires.taken.size in
    let within = c.in-Some.ensures.within in
    let here : c.index.result.now ≡ get_or c.args.taken.now.items c.in-Some.choice [] = c.index.ensures ∙ get_or_default c.args.taken.now.items c.in-Some.choice c.index.result.now [] (omega arith) in
    cases_same c.args.rows.now c.args.taken.now.items c.args.at c.in-Some.choice c.requires.taken c.in-Some.ensures.choice
    (had-name c.args.rows.now c.args.taken.now.items c.args.at c.in-Some.choice c.index.result.now c.in_ok-name.name c.has.result _ here c.in_ok-name.ensures c.has.ensures c.if-has.true)

pub returns-clause-taken : goal.returns-clause-taken
returns-clause-taken c =
    let size = c.requires.taken.size in
    let within = c.in-Some.ensures.within in
    let here : c.index_mut.result.now ≡ get_or c.args.taken.now.items c.in-Some.choice [] = c.index_mut.ensures.value ∙ get_or_default c.args.taken.now.items c.in-Some.choice c.index_mut.result.now [] (omega arith) in
    cases_more c.args.rows.now c.args.taken.now.items c.args.at c.in-Some.choice c.add.new.self c.requires.taken c.in-Some.ensures.choice within
    (λ n. c.in_ok-add.ensures n ∙ ap (λ (m : List ℕ). bytes_eq n m || has_name c.index_mut.result.now n) c.in_ok-name.ensures
    ∙ ap (λ (names : List (List ℕ)). bytes_eq n (argument_at c.args.rows.now c.args.at) || has_name names n) here)
