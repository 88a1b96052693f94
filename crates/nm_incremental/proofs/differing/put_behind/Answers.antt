use Rattle.std.proofs.Common.{[], ◌∷◌, ◌++◌, sym, ap, ◌∙◌, subst, append-nil}
use Rattle.std.specs.Prelude.{filter, option_copied}
use Rattle.std.specs.FinMap.{keys}
use Rattle.nm_config.specs.Under.{is_under}
use Rattle.nm_validate_places.proofs.Counting.{IsBehind, from_first, next_behind, walk_shorter, turn_behind}
use Rattle.nm_incremental.proofs.Walks.{at_start, one_more, no_more}
use Rattle.nm_incremental.proofs.differing.put_behind.Goals as goal

pub rows-init : goal.rows-init
rows-init g c =
    let rows = g.M.RowMap.rows c.args.config.now in
    let node = c.args.node.now in (
      at_start rows node node c.args.all.now.items _ c.next_after-at.ensures,
      subst (IsBehind node) (sym c.next_after-at.ensures) (next_behind node (keys rows)),
    )

pub returns-then-not-is_under : goal.returns-then-not-is_under
returns-then-not-is_under g c =
    let rows = g.M.RowMap.rows c.args.config.now in
    no_more rows c.args.node.now c.in-Some.path.now (option_copied c.rows.at) (ap option_copied c.in-Some.is) _ _ c.rows.invariant.1 (sym c.is_under.ensures ∙ c.if-not-is_under.true) c.rows.invariant.0

pub rows-smaller : goal.rows-smaller
rows-smaller g c = walk_shorter (g.M.RowMap.rows c.args.config.now) c.in-Some.path.now _ _ (ap option_copied c.in-Some.is) c.next_after-at-in-Some.ensures

pub rows-preserved : goal.rows-preserved
rows-preserved g c =
    let rows = g.M.RowMap.rows c.args.config.now in
    let node = c.args.node.now in
    let is = ap option_copied c.in-Some.is in (
      one_more rows node c.in-Some.path.now (option_copied c.rows.at) is _ _ _ _ c.next_after-at-in-Some.ensures (sym c.is_under.ensures ∙ c.if-not-is_under.false) (c.in_ok-push.ensures.items ∙ ap (λ p. c.rows.all.items ++ p ∷ []) c.in_ok-copy.ensures) c.rows.invariant.0,
      turn_behind rows node c.in-Some.path.now _ _ 0 0 is c.next_after-at-in-Some.ensures c.rows.invariant.1,
    )

pub returns : goal.returns
returns g c =
    let rows = g.M.RowMap.rows c.args.config.now in
    sym (append-nil _) ∙ ap (λ o. c.rows.all.items ++ filter (is_under c.args.node.now) (from_first (keys rows) o)) (sym (ap option_copied c.in_default.is)) ∙ c.rows.invariant.0
