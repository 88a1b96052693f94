use Rattle.std.proofs.Common.{◌≡◌, ◌-◌, ◌<◌, ℕ, ◌++◌, length, slice_get, ap, ◌∙◌, arith}
use Rattle.nm_validate_rules.specs.Candidates.{fronts_of}
use Rattle.nm_incremental.specs.Candidates.{mandatory_at}
use Rattle.nm_incremental.proofs.Listed.{put_some, put_whole}
use Rattle.nm_incremental.proofs.Mandatory.{all_choices}
use Rattle.nm_incremental.proofs.candidates.of_choices.Goals as goal

pub loop-at-preserved : goal.loop-at-preserved
loop-at-preserved c =
    let t = c.args.schema.now in
    let row = c.args.row.now in
    let test_is = c.loop-at-test.true in
    let end_is = c.choice_count-at-end.ensures in
    let lt : c.loop-at.at < length t.choices = omega (arith, test_is, end_is) in
    put_some (λ (k : ℕ). mandatory_at t (fronts_of row) (slice_get t.choices k)) c.loop-at.at (length t.choices) _ _ _ lt
    (c.in_ok-put_mandatory.ensures ∙ ap (λ fs. c.loop-at.paths.items ++ mandatory_at t fs (slice_get t.choices c.loop-at.at)) (c.deref.ensures.value ∙ c.in_ok-fronts.ensures)) c.loop-at.invariant

pub returns : goal.returns
returns c =
    let t = c.args.schema.now in
    let row = c.args.row.now in
    let test_is = c.loop-at-test.false in
    let end_is = c.choice_count-at-end.ensures in
    let done : length t.choices - c.loop-at.at ≡ 0 = omega (arith, test_is, end_is) in
    put_whole (λ (k : ℕ). mandatory_at t (fronts_of row) (slice_get t.choices k)) c.loop-at.at (length t.choices) _ _ done c.loop-at.invariant ∙ all_choices t row
