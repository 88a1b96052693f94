use Rattle.std.proofs.Common.{◌&&◌, ap, sym, ◌∙◌}
use Rattle.std.specs.List.{list_all}
use Rattle.nm_content_place.specs.Place.{is_shared}
use Rattle.nm_content_place.specs.Walk.{below_after}
use Rattle.nm_content_place.proofs.Walked.{part_walked}
use Rattle.nm_content_place.proofs.place.has_part_of.Goals as goal

pub returns-then-is_kept : goal.returns-then-is_kept
returns-then-is_kept g c =
    let one = g.M.RowMap.rows c.args.one.now in
    let other = g.M.RowMap.rows c.args.other.now in
    let path = c.args.path.now in
    c.has_rest_of.ensures
    ∙ ap (λ b. b && list_all (is_shared one other path) (below_after one path path)) (sym (sym c.is_kept.ensures ∙ c.if-is_kept.true))
    ∙ part_walked one other path

pub returns-else-is_kept : goal.returns-else-is_kept
returns-else-is_kept g c =
    let one = g.M.RowMap.rows c.args.one.now in
    let other = g.M.RowMap.rows c.args.other.now in
    let path = c.args.path.now in
    c.if-is_kept.false
    ∙ ap (λ b. b && list_all (is_shared one other path) (below_after one path path)) (sym (sym c.is_kept.ensures ∙ c.if-is_kept.false))
    ∙ part_walked one other path
