use Rattle.std.proofs.Common.{List, ◌++◌, ◌∷◌, [], Some, ap, sym, ◌∙◌, append-nil, append_assoc, map as each}
use Rattle.std.specs.Prelude.{filter, option_copied}
use Rattle.std.specs.FinMap.{entries}
use Rattle.nm_config.specs.Under.{is_under}
use Rattle.nm_overlay.specs.Places.{Pair, gone_at}
use Rattle.nm_overlay.proofs.Order.{Place}
use Rattle.nm_overlay.proofs.Following.{come}
use Rattle.nm_overlay.proofs.Below.{walk_begins, walk_in, walk_out, walk_end, walk_shorter, still_behind, not_before_itself}
use Rattle.nm_overlay.proofs.rows.gone_under.Goals as goal

pub rows-init : goal.rows-init
rows-init g c =
    let node = c.args.node.now in
    record {
      told = ap (λ (l : List Pair). l ++ each gone_at (filter (is_under node) (come (Some node) (entries (g.M.RowMap.rows c.args.base.now))))) c.in_ok-gone.ensures
          ∙ walk_begins (g.M.RowMap.rows c.args.base.now) node;
      behind = not_before_itself node;
    }

pub returns-then-not-is_under : goal.returns-then-not-is_under
returns-then-not-is_under g c =
    let next = sym c.next_after.ensures ∙ ap option_copied c.in-Some.is in
    let none = walk_out (g.M.RowMap.rows c.args.base.now) c.args.node.now c.rows.passed.now c.rows.invariant.behind c.in-Some.next.now next (sym c.is_under.ensures
    ∙ c.if-not-is_under.true) in
    sym (append-nil c.rows.gone.items) ∙ ap (λ (l : List Place). c.rows.gone.items ++ each gone_at l) (sym none) ∙ c.rows.invariant.told

pub rows-smaller : goal.rows-smaller
rows-smaller g c = walk_shorter (g.M.RowMap.rows c.args.base.now) c.args.node.now c.rows.passed.now c.rows.invariant.behind c.in-Some.next.now (sym c.next_after.ensures
    ∙ ap option_copied c.in-Some.is)

pub rows-preserved : goal.rows-preserved
rows-preserved g c =
    let node = c.args.node.now in
    let n = c.in-Some.next.now in
    let gone = c.rows.gone.items in
    let next = sym c.next_after.ensures ∙ ap option_copied c.in-Some.is in
    let left = filter (is_under node) (come (Some n) (entries (g.M.RowMap.rows c.args.base.now))) in
    let pushed = c.in_ok-put_gone.ensures in
    let on = walk_in (g.M.RowMap.rows c.args.base.now) node c.rows.passed.now c.rows.invariant.behind n next (sym c.is_under.ensures ∙ c.if-not-is_under.false) in
    record {
      told = ap (λ (l : List Pair). l ++ each gone_at left) pushed ∙ append_assoc gone (gone_at n ∷ []) (each gone_at left)
          ∙ ap (λ (l : List Place). gone ++ each gone_at l) (sym on) ∙ c.rows.invariant.told;
      behind = still_behind (g.M.RowMap.rows c.args.base.now) node c.rows.passed.now c.rows.invariant.behind n next;
    }

pub returns : goal.returns
returns g c =
    let none = walk_end (g.M.RowMap.rows c.args.base.now) c.args.node.now c.rows.passed.now c.rows.invariant.behind (sym c.next_after.ensures
    ∙ ap option_copied c.in_default.is) in
    sym (append-nil c.rows.gone.items) ∙ ap (λ (l : List Place). c.rows.gone.items ++ each gone_at l) (sym none) ∙ c.rows.invariant.told
