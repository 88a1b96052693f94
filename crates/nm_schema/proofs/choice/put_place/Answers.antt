use Rattle.std.proofs.Common.{◌≡◌, ◌∙◌, ◌<◌, ◌≤◌, ◌+◌, ◌^◌, List, None, length, map, get_or, slice_range, sym, ap, subst, arith}
use Rattle.nm_schema_nodes.specs.declared.fork.Fork.{Fork}
use Rattle.nm_schema_nodes.specs.declared.fork.Branch.{Branch}
use Rattle.nm_schema_nodes.specs.Forks.{IsRoom}
use Rattle.nm_schema.specs.Choices.{place_for, case_node, choice_node, until, with_cases, with_place, AreOfChoices}
use Rattle.nm_schema.proofs.Placing.{next_room, case_room, fork_bounds, next_cases, last_cases, placing_size, placing_next, placing_all, choice_stands, on_ok}
use Rattle.nm_schema.proofs.choice.put_place.Goals as goal

pub cases_until-until-requires : goal.cases_until-until-requires
cases_until-until-requires c =
    let none : Fork = record { row = 0; case_in = None } in
    let lt = subst (λ (xs : List Fork). c.loop-fork.fork-index < length xs) c.choices-fork-items.ensures c.loop-fork-test.true in
    let few : length c.args.forks.now.cases < 2 ^ 64 = omega (arith, c.count_branches-count.ensures.count, c.count_branches-count.ensures.few, ap (λ (l : List Branch). length l) c.cases-branches.ensures) in
    subst (λ (xs : List Fork). IsRoom 1 (get_or xs c.loop-fork.fork-index none).case_in) (sym c.choices-fork-items.ensures) (next_room c.args.forks.now c.laws.ensures c.loop-fork.fork-index none lt few)

pub between-cases-requires : goal.between-cases-requires
between-cases-requires c =
    let none : Fork = record { row = 0; case_in = None } in
    let i = c.loop-fork.fork-index in
    let lt = subst (λ (xs : List Fork). i < length xs) c.choices-fork-items.ensures c.loop-fork-test.true in
    let bounds = fork_bounds c.args.forks.now c.laws.ensures i c.loop-fork.done none lt c.loop-fork.invariant.few in
    let to = c.cases_until-until.ensures ∙ ap (λ (xs : List Fork). until c.loop-fork.done (get_or xs i none).case_in) c.choices-fork-items.ensures in
    let size = ap (λ (l : List Branch). length l) c.cases-branches.ensures in
    (omega (arith, to, bounds.0), omega (arith, to, bounds.1, size))

pub put_cases-requires : goal.put_cases-requires
put_cases-requires c =
    let none : Fork = record { row = 0; case_in = None } in
    let f = c.args.forks.now in
    let i = c.loop-fork.fork-index in
    let done = c.loop-fork.done in
    let lt = subst (λ (xs : List Fork). i < length xs) c.choices-fork-items.ensures c.loop-fork-test.true in
    let to = c.cases_until-until.ensures ∙ ap (λ (xs : List Fork). until done (get_or xs i none).case_in) c.choices-fork-items.ensures in
    let size = placing_size c.args.rows.now (place_for c.args.place.parent c.args.place.owner c.args.place.row) f c.args.schema.now i done c.loop-fork.schema c.loop-fork.invariant (omega (arith, lt)) in
    let before = ap length c.choices-first_choice.ensures in
    let part = c.between-cases.ensures ∙ ap (λ (l : List Branch). slice_range l done c.cases_until-until.result) c.cases-branches.ensures ∙ ap (slice_range f.cases done) to in
    subst (λ (l : List Branch). AreOfChoices (length c.choices-first_choice.result.now) (length c.loop-fork.schema.choices) l) (sym part)
    (next_cases f c.laws.ensures i done (length c.choices-first_choice.result.now) (length c.loop-fork.schema.choices) none lt c.loop-fork.invariant.few (omega (arith, size, before)))

pub choice_node-requires-clause-room : goal.choice_node-requires-clause-room
choice_node-requires-clause-room c =
    let none : Fork = record { row = 0; case_in = None } in
    let i = c.loop-fork.fork-index in
    let lt = subst (λ (xs : List Fork). i < length xs) c.choices-fork-items.ensures c.loop-fork-test.true in
    let few : c.count_cases-first_case.result + length c.args.forks.now.cases ≤ 2 ^ 64 =
    omega (arith, c.count_cases-first_case.ensures.few, c.count_branches-count.ensures.count, c.count_branches-count.ensures.few, ap (λ (l : List Branch). length l) c.cases-branches.ensures) in
    subst (λ (xs : List Fork). IsRoom c.count_cases-first_case.result (get_or xs i none).case_in) (sym c.choices-fork-items.ensures) (case_room c.args.forks.now c.laws.ensures i c.count_cases-first_case.result none lt few)

pub push_choice-requires : goal.push_choice-requires
push_choice-requires c =
    let none : Fork = record { row = 0; case_in = None } in
    let f = c.args.forks.now in
    let p = place_for c.args.place.parent c.args.place.owner c.args.place.row in
    let i = c.loop-fork.fork-index in
    let done = c.loop-fork.done in
    let lt = subst (λ (xs : List Fork). i < length xs) c.choices-fork-items.ensures c.loop-fork-test.true in
    let to = c.cases_until-until.ensures ∙ ap (λ (xs : List Fork). until done (get_or xs i none).case_in) c.choices-fork-items.ensures in
    let part = c.between-cases.ensures ∙ ap (λ (l : List Branch). slice_range l done c.cases_until-until.result) c.cases-branches.ensures ∙ ap (slice_range f.cases done) to in
    let first_choice = ap length c.choices-first_choice.ensures in
    let first_case = c.count_cases-first_case.ensures.count ∙ ap length c.cases.ensures in
    let put = c.in_ok-put_cases.ensures ∙ ap (λ (l : List Branch). with_cases c.loop-fork.schema (map (case_node c.args.rows.now (length c.choices-first_choice.result.now)) l)) part
    ∙ ap (λ n. with_cases c.loop-fork.schema (map (case_node c.args.rows.now n) (slice_range f.cases done (until done (get_or f.choices i none).case_in)))) first_choice in
    let made = c.in_ok-choice.ensures ∙ ap (λ n. choice_node c.args.rows.now p n (get_or c.choices-fork-items.result.now i none)) first_case
    ∙ ap (λ (xs : List Fork). choice_node c.args.rows.now p (length c.args.schema.now.cases) (get_or xs i none)) c.choices-fork-items.ensures in
    choice_stands c.args.rows.now p f c.args.schema.now i done none c.loop-fork.schema c.put_cases.new.schema c.in_ok-choice.choice c.laws.ensures c.loop-fork.invariant lt put made

pub loop-fork-preserved : goal.loop-fork-preserved
loop-fork-preserved c =
    let none : Fork = record { row = 0; case_in = None } in
    let f = c.args.forks.now in
    let p = place_for c.args.place.parent c.args.place.owner c.args.place.row in
    let i = c.loop-fork.fork-index in
    let done = c.loop-fork.done in
    let lt = subst (λ (xs : List Fork). i < length xs) c.choices-fork-items.ensures c.loop-fork-test.true in
    let bounds = fork_bounds f c.laws.ensures i done none lt c.loop-fork.invariant.few in
    let to = c.cases_until-until.ensures ∙ ap (λ (xs : List Fork). until done (get_or xs i none).case_in) c.choices-fork-items.ensures in
    let part = c.between-cases.ensures ∙ ap (λ (l : List Branch). slice_range l done c.cases_until-until.result) c.cases-branches.ensures in
    let first_choice = ap length c.choices-first_choice.ensures in
    let first_case = c.count_cases-first_case.ensures.count ∙ ap length c.cases.ensures in
    let put = c.in_ok-put_cases.ensures ∙ ap (λ (l : List Branch). with_cases c.loop-fork.schema (map (case_node c.args.rows.now (length c.choices-first_choice.result.now)) l)) part
    ∙ ap (λ n. with_cases c.loop-fork.schema (map (case_node c.args.rows.now n) (slice_range f.cases done c.cases_until-until.result))) first_choice in
    let made = c.in_ok-choice.ensures ∙ ap (λ n. choice_node c.args.rows.now p n (get_or c.choices-fork-items.result.now i none)) first_case
    ∙ ap (λ (xs : List Fork). choice_node c.args.rows.now p (length c.args.schema.now.cases) (get_or xs i none)) c.choices-fork-items.ensures in
    placing_next c.args.rows.now p f c.args.schema.now i done c.cases_until-until.result none c.loop-fork.schema c.put_cases.new.schema c.push_choice.new.self c.in_ok-choice.choice c.loop-fork.invariant lt
    (omega (arith, to, bounds.0)) (omega (arith, to, bounds.1)) put made c.in_ok-push_choice.ensures.pushed

pub put_cases-requires-2 : goal.put_cases-requires-2
put_cases-requires-2 c =
    let f = c.args.forks.now in
    let i = c.loop-fork.fork-index in
    let done = c.loop-fork.done in
    let end = subst (λ (xs : List Fork). (i ≤ length xs) × (length xs ≤ i)) c.choices-fork-items.ensures (c.loop-fork.auto.fork-index-end, c.loop-fork-test.false) in
    let size = placing_size c.args.rows.now (place_for c.args.place.parent c.args.place.owner c.args.place.row) f c.args.schema.now i done c.loop-fork.schema c.loop-fork.invariant (omega (arith, end.0)) in
    let before = ap length c.choices-first_choice.ensures in
    let whole = c.count_branches-count.ensures.count ∙ ap length c.cases-branches.ensures in
    let part = c.between-cases-2.ensures ∙ ap (λ (l : List Branch). slice_range l done c.count_branches-count.result) c.cases-branches.ensures ∙ ap (slice_range f.cases done) whole in
    subst (λ (l : List Branch). AreOfChoices (length c.choices-first_choice.result.now) (length c.loop-fork.schema.choices) l) (sym part)
    (last_cases f c.laws.ensures done (length c.choices-first_choice.result.now) (length c.loop-fork.schema.choices) (omega (arith, size, before, end.0, end.1)))

pub returns : goal.returns
returns c =
    let f = c.args.forks.now in
    let p = place_for c.args.place.parent c.args.place.owner c.args.place.row in
    let i = c.loop-fork.fork-index in
    let done = c.loop-fork.done in
    let end = subst (λ (xs : List Fork). length xs ≤ i) c.choices-fork-items.ensures c.loop-fork-test.false in
    let whole = c.count_branches-count.ensures.count ∙ ap length c.cases-branches.ensures in
    let part = c.between-cases-2.ensures ∙ ap (λ (l : List Branch). slice_range l done c.count_branches-count.result) c.cases-branches.ensures ∙ ap (slice_range f.cases done) whole in
    let first_choice = ap length c.choices-first_choice.ensures in
    on_ok (c.put_cases-2.new.schema ≡ with_cases c.loop-fork.schema (map (case_node c.args.rows.now (length c.choices-first_choice.result.now)) c.between-cases-2.result.now)) (c.put_cases-2.new.schema ≡ with_place c.args.rows.now p f c.args.schema.now) c.put_cases-2.result
    (λ (put : c.put_cases-2.new.schema ≡ with_cases c.loop-fork.schema (map (case_node c.args.rows.now (length c.choices-first_choice.result.now)) c.between-cases-2.result.now)).
    placing_all c.args.rows.now p f c.args.schema.now i done c.loop-fork.schema c.put_cases-2.new.schema c.loop-fork.invariant end
    (put ∙ ap (λ (l : List Branch). with_cases c.loop-fork.schema (map (case_node c.args.rows.now (length c.choices-first_choice.result.now)) l)) part
    ∙ ap (λ n. with_cases c.loop-fork.schema (map (case_node c.args.rows.now n) (slice_range f.cases done (length f.cases)))) first_choice))
    c.put_cases-2.ensures
