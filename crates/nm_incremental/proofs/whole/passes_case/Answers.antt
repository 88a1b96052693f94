use Rattle.std.proofs.Common.{◌≡◌, suc, ◌-◌, ◌<◌, ℕ, length, take, sym, ap, ◌∙◌, arith}
use Rattle.nm_path.specs.Spelling.{node_of}
use Rattle.nm_incremental.specs.Whole.{is_cased, passes_case}
use Rattle.nm_incremental.proofs.Loops.{any_here, any_on, any_done}
use Rattle.nm_incremental.proofs.whole.passes_case.Goals as goal

pub returns-then-is_cased : goal.returns-then-is_cased
unfolding passes_case
returns-then-is_cased c =
    let t = c.args.schema.now in
    let test_is = c.loop-count-test.true in
    let end_is = c.front_count-count-end.ensures in
    let lt : c.loop-count.count < suc (length c.args.row.now) = omega (arith, test_is, end_is) in
    any_here (λ (n : ℕ). is_cased t (node_of t (take n c.args.row.now))) c.loop-count.count (suc (length c.args.row.now)) _ lt (sym (c.is_cased.ensures ∙ ap (λ p. is_cased t (node_of t p)) c.in_ok-front.ensures) ∙ c.if-is_cased.true) c.loop-count.invariant

pub loop-count-preserved : goal.loop-count-preserved
loop-count-preserved c =
    let t = c.args.schema.now in
    let test_is = c.loop-count-test.true in
    let end_is = c.front_count-count-end.ensures in
    let lt : c.loop-count.count < suc (length c.args.row.now) = omega (arith, test_is, end_is) in
    any_on (λ (n : ℕ). is_cased t (node_of t (take n c.args.row.now))) c.loop-count.count (suc (length c.args.row.now)) _ lt (sym (c.is_cased.ensures ∙ ap (λ p. is_cased t (node_of t p)) c.in_ok-front.ensures) ∙ c.if-is_cased.false) c.loop-count.invariant

pub returns : goal.returns
unfolding passes_case
returns c =
    let t = c.args.schema.now in
    let test_is = c.loop-count-test.false in
    let end_is = c.front_count-count-end.ensures in
    let done : suc (length c.args.row.now) - c.loop-count.count ≡ 0 = omega (arith, test_is, end_is) in
    any_done (λ (n : ℕ). is_cased t (node_of t (take n c.args.row.now))) c.loop-count.count (suc (length c.args.row.now)) _ done c.loop-count.invariant
