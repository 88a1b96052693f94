use Rattle.std.proofs.Common.{◌++◌, drop, refl, ap, sym, ◌∙◌, map as each}
use Rattle.std.specs.Map.Iter.{deref_pair}
use Rattle.nm_overlay.specs.Places.{front, is_before, rows_before}
use Rattle.nm_overlay.proofs.Merge.{merged, merged-entries, merge_turn}
use Rattle.nm_overlay.proofs.rows.list.Goals as goal

pub loop-path-init : goal.loop-path-init
loop-path-init c =
    ap (λ l. each deref_pair l ++ merged c.into_iter-path-iterator.result c.args.pairs.now) c.in_ok-all.ensures.items
    ∙ ap (λ l. merged l c.args.pairs.now) (c.into_iter-path-iterator.ensures.into_iter_gives ∙ c.iter-path-items.ensures.entries)
    ∙ merged-entries c.args.base.now c.args.pairs.now c.requires

pub loop-path-preserved : goal.loop-path-preserved
loop-path-preserved c =
    let path = c.in-Some.path.now in
    let all = each deref_pair c.loop-path.all.items in
    let pairs = c.loop-path.rest.now in
    merge_turn all (all ++ rows_before path pairs) (each deref_pair c.list_turn.new.all.items) (path, c.in-Some.value.now) c.next.new.self
    pairs (drop (front (is_before path) pairs) pairs) c.in_ok-rest.rest.now refl refl c.in_ok-rest.ensures.rest c.in_ok-rest.ensures.items _
    (ap (λ l. each deref_pair c.loop-path.all.items ++ merged l c.loop-path.rest.now) (sym c.in-Some.ensures.steps) ∙ c.loop-path.invariant)
