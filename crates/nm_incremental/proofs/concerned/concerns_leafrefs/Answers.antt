use Rattle.std.proofs.Common.{◌≡◌, ◌-◌, ◌<◌, ℕ, length, sym, ap, ◌∙◌, arith}
use Rattle.nm_schema_tree.specs.Nodes.{reference_at}
use Rattle.nm_validate_rules.specs.Concerns.{concerns, reference_concerns}
use Rattle.nm_incremental.proofs.Loops.{any_here, any_on, any_done}
use Rattle.nm_incremental.proofs.concerned.concerns_leafrefs.Goals as goal

pub returns-then-is : goal.returns-then-is
unfolding concerns
returns-then-is c =
    let t = c.args.schema.now in
    let test_is = c.loop-at-test.true in
    let end_is = c.len-at-end.ensures in
    let lt : c.loop-at.at < length t.nodes = omega (arith, test_is, end_is) in
    any_here (λ (z : ℕ). reference_concerns t z (reference_at t.nodes z) c.args.row.now) c.loop-at.at (length t.nodes) _ lt (sym (c.in_ok-is.ensures ∙ ap (λ r. reference_concerns t c.loop-at.at r c.args.row.now) c.reference-reference.ensures) ∙ c.if-is.true) c.loop-at.invariant

pub loop-at-preserved : goal.loop-at-preserved
loop-at-preserved c =
    let t = c.args.schema.now in
    let test_is = c.loop-at-test.true in
    let end_is = c.len-at-end.ensures in
    let lt : c.loop-at.at < length t.nodes = omega (arith, test_is, end_is) in
    any_on (λ (z : ℕ). reference_concerns t z (reference_at t.nodes z) c.args.row.now) c.loop-at.at (length t.nodes) _ lt (sym (c.in_ok-is.ensures ∙ ap (λ r. reference_concerns t c.loop-at.at r c.args.row.now) c.reference-reference.ensures) ∙ c.if-is.false) c.loop-at.invariant

pub returns : goal.returns
unfolding concerns
returns c =
    let t = c.args.schema.now in
    let test_is = c.loop-at-test.false in
    let end_is = c.len-at-end.ensures in
    let done : length t.nodes - c.loop-at.at ≡ 0 = omega (arith, test_is, end_is) in
    any_done (λ (z : ℕ). reference_concerns t z (reference_at t.nodes z) c.args.row.now) c.loop-at.at (length t.nodes) _ done c.loop-at.invariant
