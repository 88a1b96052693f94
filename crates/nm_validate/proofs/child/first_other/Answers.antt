use Rattle.std.proofs.Common.{sym, ap, ◌∙◌, subst}
use Rattle.std.specs.Prelude.{option_copied}
use Rattle.std.specs.FinMap.{keys}
use Rattle.nm_validate_rules.specs.Violated.{first_other}
use Rattle.nm_validate_places.proofs.Counting.{IsBehind, next_behind, walk_shorter, turn_behind}
use Rattle.nm_validate.proofs.Scanned.{to_come, at_start, none_come, other_none, found_later}
use Rattle.nm_validate.proofs.child.first_other.Goals as goal

pub rows-init : goal.rows-init
rows-init g c =
    let rows = g.M.RowMap.rows c.args.config.now in
    let above = c.args.above.now in (
      ap (λ o. first_other (to_come c.args.schema.now c.args.choice above rows o)) c.next_after-at.ensures ∙ ap first_other (at_start c.args.schema.now c.args.choice above rows),
      subst (IsBehind above) (sym c.next_after-at.ensures) (next_behind above (keys rows)),
    )

pub returns-then-not-is_under : goal.returns-then-not-is_under
returns-then-not-is_under g c =
    let rows = g.M.RowMap.rows c.args.config.now in
    sym (other_none c.rows.first _ (none_come c.args.schema.now c.args.choice c.args.above.now rows c.in-Some.path.now (option_copied c.rows.at) (ap option_copied c.in-Some.is) c.rows.invariant.1 (sym c.is_under.ensures ∙ c.if-not-is_under.true))) ∙ c.rows.invariant.0

pub rows-smaller-else-is_other : goal.rows-smaller-else-is_other
rows-smaller-else-is_other g c = walk_shorter (g.M.RowMap.rows c.args.config.now) c.in-Some.path.now _ _ (ap option_copied c.in-Some.is) c.next_after-at-in-Some.ensures

pub rows-preserved-else-is_other : goal.rows-preserved-else-is_other
rows-preserved-else-is_other g c =
    let rows = g.M.RowMap.rows c.args.config.now in
    let above = c.args.above.now in
    let is = ap option_copied c.in-Some.is in (
      found_later c.args.schema.now c.args.choice above rows c.rows.first c.in-Some.path.now _ c.in_ok-child.child _ _ is c.next_after-at-in-Some.ensures c.in_ok-child.ensures (sym c.is_other.ensures ∙ c.if-is_other.false) c.first_case-first.ensures
          ∙ c.rows.invariant.0,
      turn_behind rows above c.in-Some.path.now _ _ 0 0 is c.next_after-at-in-Some.ensures c.rows.invariant.1,
    )

pub rows-smaller : goal.rows-smaller
rows-smaller g c = walk_shorter (g.M.RowMap.rows c.args.config.now) c.in-Some.path.now _ _ (ap option_copied c.in-Some.is) c.next_after-at-in-Some.ensures

pub rows-preserved : goal.rows-preserved
rows-preserved g c =
    let rows = g.M.RowMap.rows c.args.config.now in
    let above = c.args.above.now in
    let is = ap option_copied c.in-Some.is in (
      found_later c.args.schema.now c.args.choice above rows c.rows.first c.in-Some.path.now _ c.in_ok-child.child _ _ is c.next_after-at-in-Some.ensures c.in_ok-child.ensures (sym c.is_other.ensures ∙ c.if-is_other.false) c.first_case-first.ensures
          ∙ c.rows.invariant.0,
      turn_behind rows above c.in-Some.path.now _ _ 0 0 is c.next_after-at-in-Some.ensures c.rows.invariant.1,
    )
