use Rattle.std.proofs.Common.{◌≡◌, suc, ◌-◌, ◌<◌, ℕ, length, take, sym, ap, ◌∙◌, arith}
use Rattle.nm_validate_rules.specs.Guards.{leads_to}
use Rattle.nm_validate_rules.specs.Concerns.{passes}
use Rattle.nm_incremental.proofs.Loops.{any_here, any_on, any_done}
use Rattle.nm_incremental.proofs.concerned.passes.Goals as goal

pub returns-then-leads_to : goal.returns-then-leads_to
unfolding passes
returns-then-leads_to c =
    let t = c.args.schema.now in
    let test_is = c.loop-count-test.true in
    let end_is = c.front_count-count-end.ensures in
    let lt : c.loop-count.count < suc (length c.args.row.now) = omega (arith, test_is, end_is) in
    any_here (λ (n : ℕ). leads_to t c.args.at (take n c.args.row.now)) c.loop-count.count (suc (length c.args.row.now)) _ lt (sym (c.leads_to.ensures ∙ ap (leads_to t c.args.at) c.in_ok-front.ensures) ∙ c.if-leads_to.true) c.loop-count.invariant

pub loop-count-preserved : goal.loop-count-preserved
loop-count-preserved c =
    let t = c.args.schema.now in
    let test_is = c.loop-count-test.true in
    let end_is = c.front_count-count-end.ensures in
    let lt : c.loop-count.count < suc (length c.args.row.now) = omega (arith, test_is, end_is) in
    any_on (λ (n : ℕ). leads_to t c.args.at (take n c.args.row.now)) c.loop-count.count (suc (length c.args.row.now)) _ lt (sym (c.leads_to.ensures ∙ ap (leads_to t c.args.at) c.in_ok-front.ensures) ∙ c.if-leads_to.false) c.loop-count.invariant

pub returns : goal.returns
unfolding passes
returns c =
    let t = c.args.schema.now in
    let test_is = c.loop-count-test.false in
    let end_is = c.front_count-count-end.ensures in
    let done : suc (length c.args.row.now) - c.loop-count.count ≡ 0 = omega (arith, test_is, end_is) in
    any_done (λ (n : ℕ). leads_to t c.args.at (take n c.args.row.now)) c.loop-count.count (suc (length c.args.row.now)) _ done c.loop-count.invariant
