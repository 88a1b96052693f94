use Rattle.std.proofs.Common.{◌≡◌, ◌-◌, ◌<◌, ℕ, length, sym, ap, ◌∙◌, arith}
use Rattle.nm_validate_rules.specs.Guards.{front}
use Rattle.nm_validate_rules.specs.Violated.{is_path_of, first_other, children_of}
use Rattle.nm_incremental.proofs.Loops.{any_here, any_on, any_done}
use Rattle.nm_incremental.proofs.choices.is_other_case.Goals as goal

pub returns-then-is : goal.returns-then-is
returns-then-is g c =
    let t = c.args.schema.now in
    let rows = g.M.RowMap.rows c.args.config.now in
    let path = c.args.path.now in
    let test_is = c.loop-choice-test.true in
    let end_is = c.choice_count-choice-end.ensures in
    let lt : c.loop-choice.choice < length t.choices = omega (arith, test_is, end_is) in
    let is = c.in_ok-is.ensures ∙ ap (λ a. is_path_of path (first_other (children_of t rows c.loop-choice.choice a))) c.in_ok-above.ensures in
    any_here (λ (k : ℕ). is_path_of path (first_other (children_of t rows k (front path)))) c.loop-choice.choice (length t.choices) _ lt
    (sym is ∙ c.if-is.true) c.loop-choice.invariant

pub loop-choice-preserved : goal.loop-choice-preserved
loop-choice-preserved g c =
    let t = c.args.schema.now in
    let rows = g.M.RowMap.rows c.args.config.now in
    let path = c.args.path.now in
    let test_is = c.loop-choice-test.true in
    let end_is = c.choice_count-choice-end.ensures in
    let lt : c.loop-choice.choice < length t.choices = omega (arith, test_is, end_is) in
    let is = c.in_ok-is.ensures ∙ ap (λ a. is_path_of path (first_other (children_of t rows c.loop-choice.choice a))) c.in_ok-above.ensures in
    any_on (λ (k : ℕ). is_path_of path (first_other (children_of t rows k (front path)))) c.loop-choice.choice (length t.choices) _ lt
    (sym is ∙ c.if-is.false) c.loop-choice.invariant

pub returns : goal.returns
returns g c =
    let t = c.args.schema.now in
    let rows = g.M.RowMap.rows c.args.config.now in
    let path = c.args.path.now in
    let test_is = c.loop-choice-test.false in
    let end_is = c.choice_count-choice-end.ensures in
    let done : length t.choices - c.loop-choice.choice ≡ 0 = omega (arith, test_is, end_is) in
    any_done (λ (k : ℕ). is_path_of path (first_other (children_of t rows k (front path)))) c.loop-choice.choice (length t.choices) _ done c.loop-choice.invariant
