use Rattle.std.proofs.Common.{◌≡◌, suc, ◌-◌, ◌<◌, ℕ, List, length, take, sym, ap, ◌∙◌, arith}
use Rattle.nm_types.specs.Path.{PathStep}
use Rattle.nm_incremental.specs.Hanging.{tells_case}
use Rattle.nm_incremental.proofs.Loops.{any_here, any_on, any_done}
use Rattle.nm_incremental.proofs.concerned.case_hangs_in.Goals as goal

pub returns-then-is : goal.returns-then-is
returns-then-is c =
    let t = c.args.schema.now in
    let test_is = c.loop-count-test.true in
    let end_is = c.front_count-count-end.ensures in
    let lt : c.loop-count.count < suc (length c.args.row.now) = omega (arith, test_is, end_is) in
    any_here (λ (n : ℕ). tells_case t c.args.at c.args.case (take n c.args.row.now) c.args.row.now) c.loop-count.count (suc (length c.args.row.now)) _ lt (sym (c.in_ok-is.ensures ∙ ap (λ (p : List PathStep). tells_case t c.args.at c.args.case p c.args.row.now) c.in_ok-front.ensures) ∙ c.if-is.true) c.loop-count.invariant

pub loop-count-preserved : goal.loop-count-preserved
loop-count-preserved c =
    let t = c.args.schema.now in
    let test_is = c.loop-count-test.true in
    let end_is = c.front_count-count-end.ensures in
    let lt : c.loop-count.count < suc (length c.args.row.now) = omega (arith, test_is, end_is) in
    any_on (λ (n : ℕ). tells_case t c.args.at c.args.case (take n c.args.row.now) c.args.row.now) c.loop-count.count (suc (length c.args.row.now)) _ lt (sym (c.in_ok-is.ensures ∙ ap (λ (p : List PathStep). tells_case t c.args.at c.args.case p c.args.row.now) c.in_ok-front.ensures) ∙ c.if-is.false) c.loop-count.invariant

pub returns : goal.returns
returns c =
    let t = c.args.schema.now in
    let test_is = c.loop-count-test.false in
    let end_is = c.front_count-count-end.ensures in
    let done : suc (length c.args.row.now) - c.loop-count.count ≡ 0 = omega (arith, test_is, end_is) in
    any_done (λ (n : ℕ). tells_case t c.args.at c.args.case (take n c.args.row.now) c.args.row.now) c.loop-count.count (suc (length c.args.row.now)) _ done c.loop-count.invariant
