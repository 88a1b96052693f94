use Rattle.std.proofs.Common.{◌≡◌, List, ◌-◌, ◌<◌, ◌++◌, length, map, ap, sym, ◌∙◌, arith}
use Rattle.std.specs.Prelude.{filter}
use Rattle.nm_types.specs.Path.{PathStep}
use Rattle.nm_validate_rules.specs.Values.{path_in}
use Rattle.nm_validate_rules.specs.Candidates.{below_fronts, is_above}
use Rattle.nm_incremental.specs.Candidates.{has_rule}
use Rattle.nm_incremental.proofs.Listed.{put_kept, put_none, put_kept_all}
use Rattle.nm_incremental.proofs.candidates.of_nodes.Goals as goal
use Rattle.nm_incremental.proofs.candidates.of_nodes.Goals.{then-has_rule+in_ok-put_below, else-has_rule}

pub loop-at-preserved : goal.loop-at-preserved
loop-at-preserved c =
    let t = c.args.schema.now in
    let row = c.args.row.now in
    let test_is = c.loop-at-test.true in
    let end_is = c.len-at-end.ensures in
    let lt : c.loop-at.at < length t.nodes = omega (arith, test_is, end_is) in
    elim c.if-has_rule.branch [
      | then-has_rule+in_ok-put_below w ↦ put_kept (below_fronts t row) (has_rule t c.args.rule) c.loop-at.at (length t.nodes) _ _ _ lt (sym c.has_rule.ensures ∙ w.if-has_rule.true)
          (ap (λ v. v.items) w.paths-is ∙ w.in_ok-put_below.ensures
          ∙ ap (λ fs. c.loop-at.paths.items ++ map (λ (above : List PathStep). path_in t above c.loop-at.at) (filter (is_above t c.loop-at.at) fs)) (w.deref.ensures.value ∙ c.in_ok-fronts.ensures)) c.loop-at.invariant
      | else-has_rule w ↦ put_none (below_fronts t row) (has_rule t c.args.rule) c.loop-at.at (length t.nodes) _ _ _ lt (sym c.has_rule.ensures ∙ w.if-has_rule.false) (ap (λ v. v.items) w.paths-is) c.loop-at.invariant
    ]

pub returns : goal.returns
returns c =
    let t = c.args.schema.now in
    let test_is = c.loop-at-test.false in
    let end_is = c.len-at-end.ensures in
    let done : length t.nodes - c.loop-at.at ≡ 0 = omega (arith, test_is, end_is) in
    put_kept_all (below_fronts t c.args.row.now) (has_rule t c.args.rule) c.loop-at.at (length t.nodes) _ _ done c.loop-at.invariant
