use Rattle.std.proofs.Common.{◌<◌, length, ap, sym, ◌∙◌, arith}
use Rattle.nm_validate_rules.specs.Cases.{is_in_case}
use Rattle.nm_validate_places.proofs.Below.{kept_in, kept_out}
use Rattle.nm_incremental.proofs.members.nodes_of.Goals as goal
use Rattle.nm_incremental.proofs.members.nodes_of.Goals.{then-is_in_case+in_ok-push, else-is_in_case}

pub loop-at-preserved : goal.loop-at-preserved
loop-at-preserved c =
    let test = is_in_case c.args.schema.now c.args.case in
    let test_is = c.loop-at-test.true in
    let end_is = c.len-at-end.ensures in
    let lt : c.loop-at.at < length c.args.schema.now.nodes = omega (arith, test_is, end_is) in
    elim c.if-is_in_case.branch [
      | then-is_in_case+in_ok-push w ↦ kept_in test c.loop-at.at _ _ _ _ lt (sym c.is_in_case.ensures ∙ w.if-is_in_case.true) (ap (λ v. v.items) w.all-is ∙ w.in_ok-push.ensures.items) c.loop-at.invariant
      | else-is_in_case w ↦ kept_out test c.loop-at.at _ _ _ _ lt (sym c.is_in_case.ensures ∙ w.if-is_in_case.false) (ap (λ v. v.items) w.all-is) c.loop-at.invariant
    ]
