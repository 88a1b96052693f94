use Rattle.std.proofs.Common.{◌≡◌, ◌-◌, ◌<◌, ℕ, length, slice_get, sym, ◌∙◌, arith}
use Rattle.nm_validate_rules.specs.Violated.{is_missing}
use Rattle.nm_incremental.proofs.Loops.{any_here, any_on, any_done}
use Rattle.nm_incremental.proofs.choices.is_missing_choice.Goals as goal

pub returns-then-is : goal.returns-then-is
returns-then-is g c =
    let t = c.args.schema.now in
    let test_is = c.loop-at-test.true in
    let end_is = c.choice_count-at-end.ensures in
    let lt : c.loop-at.at < length t.choices = omega (arith, test_is, end_is) in
    any_here (λ (k : ℕ). is_missing t (g.M.RowMap.rows c.args.config.now) c.args.path.now k (slice_get t.choices k)) c.loop-at.at (length t.choices) _ lt (sym c.in_ok-is.ensures ∙ c.if-is.true) c.loop-at.invariant

pub loop-at-preserved : goal.loop-at-preserved
loop-at-preserved g c =
    let t = c.args.schema.now in
    let test_is = c.loop-at-test.true in
    let end_is = c.choice_count-at-end.ensures in
    let lt : c.loop-at.at < length t.choices = omega (arith, test_is, end_is) in
    any_on (λ (k : ℕ). is_missing t (g.M.RowMap.rows c.args.config.now) c.args.path.now k (slice_get t.choices k)) c.loop-at.at (length t.choices) _ lt (sym c.in_ok-is.ensures ∙ c.if-is.false) c.loop-at.invariant

pub returns : goal.returns
returns g c =
    let t = c.args.schema.now in
    let test_is = c.loop-at-test.false in
    let end_is = c.choice_count-at-end.ensures in
    let done : length t.choices - c.loop-at.at ≡ 0 = omega (arith, test_is, end_is) in
    any_done (λ (k : ℕ). is_missing t (g.M.RowMap.rows c.args.config.now) c.args.path.now k (slice_get t.choices k)) c.loop-at.at (length t.choices) _ done c.loop-at.invariant
