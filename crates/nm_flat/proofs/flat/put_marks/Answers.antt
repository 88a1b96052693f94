use Rattle.std.proofs.Common.{◌≡◌, ◌∷◌, ◌++◌, decimal, ap, sym, ◌∙◌}
use Rattle.std.specs.List.{flat_map}
use Rattle.std.specs.FinMap as map
use Rattle.nm_flat.proofs.MarkLemmas.{later_mark, marks_begin}
use Rattle.nm_flat.proofs.flat.put_marks.Goals as goal

pub loop-mark-init : goal.loop-mark-init
loop-mark-init c =
    let all : map.entries c.args.marks.now ≡ (c.in-Some.first.now, tt) ∷ c.next.new.self = sym c.iter-rest.ensures.entries ∙ c.in-Some.ensures.steps in
    ap (λ es. c.write_decimal.new.to.items ++ flat_map later_mark es) c.into_iter-mark-iterator.ensures.into_iter_gives
    ∙ marks_begin c.args.out.now.items c.write_decimal.new.to.items (c.in-Some.first.now, tt) c.next.new.self _ all
    (c.in_ok-write_decimal.ensures.ok ∙ ap (λ n. c.args.out.now.items ++ decimal n) c.from.ensures)
