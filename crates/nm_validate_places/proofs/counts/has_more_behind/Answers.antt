use Rattle.std.proofs.Common.{sym, ap, ◌∙◌, subst}
use Rattle.std.specs.Prelude.{nat_lt, option_copied}
use Rattle.std.specs.FinMap.{keys}
use Rattle.nm_validate_places.proofs.Counting.{IsBehind, to_come, at_start, next_behind, walk_shorter, turn_counts, turn_passes, turn_behind, no_more}
use Rattle.nm_validate_places.proofs.counts.has_more_behind.Goals as goal
use Rattle.nm_validate_places.proofs.counts.has_more_behind.Goals.{then-is_as_long+else-left-eq0, else-is_as_long}

pub entries-init : goal.entries-init
entries-init g c =
    let rows = g.M.RowMap.rows c.args.config.now in
    let path = c.args.path.now in (
      ap (λ o. nat_lt c.args.most (to_come rows path o)) c.next_after-at.ensures ∙ ap (nat_lt c.args.most) (at_start rows path),
      subst (IsBehind path) (sym c.next_after-at.ensures) (next_behind path (keys rows)),
    )

pub returns-then-not-is_under : goal.returns-then-not-is_under
returns-then-not-is_under g c =
    let rows = g.M.RowMap.rows c.args.config.now in
    sym (no_more rows c.args.path.now c.in-Some.other.now (option_copied c.entries.at) c.entries.left (ap option_copied c.in-Some.is) c.entries.invariant.1 (sym c.is_under.ensures ∙ c.if-not-is_under.true)) ∙ c.entries.invariant.0

pub entries-smaller : goal.entries-smaller
entries-smaller g c = walk_shorter (g.M.RowMap.rows c.args.config.now) c.in-Some.other.now _ _ (ap option_copied c.in-Some.is) c.next_after-at-in-Some.ensures

pub entries-preserved : goal.entries-preserved
entries-preserved g c =
    let rows = g.M.RowMap.rows c.args.config.now in
    let path = c.args.path.now in
    let is = ap option_copied c.in-Some.is in
    let under = sym c.is_under.ensures ∙ c.if-not-is_under.false in
    let behind = turn_behind rows path c.in-Some.other.now _ _ c.entries.left c.if-is_as_long.left is c.next_after-at-in-Some.ensures c.entries.invariant.1 in
    elim c.if-is_as_long.branch [
      | then-is_as_long+else-left-eq0 w ↦
          (turn_counts rows path c.in-Some.other.now _ _ c.entries.left c.if-is_as_long.left is c.next_after-at-in-Some.ensures under (sym c.is_as_long.ensures ∙ w.if-is_as_long.true) w.if-left-eq0.false w.left-is ∙ c.entries.invariant.0, behind)
      | else-is_as_long w ↦
          (turn_passes rows path c.in-Some.other.now _ _ c.entries.left c.if-is_as_long.left is c.next_after-at-in-Some.ensures (sym c.is_as_long.ensures ∙ w.if-is_as_long.false) w.left-is ∙ c.entries.invariant.0, behind)
    ]
