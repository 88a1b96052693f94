use Rattle.std.proofs.Common.{ap, sym, ◌∙◌}
use Rattle.nm_validate_rules.specs.Places.{areas, placed}
use Rattle.nm_validate_places.specs.Groups.{in_group}
use Rattle.nm_validate_places.proofs.Below.{guard_areas, other_areas}
use Rattle.nm_validate_places.proofs.areas.+areas.Goals as goal

pub returns-then-is_guard : goal.returns-then-is_guard
returns-then-is_guard g t c =
    let rows = g.M.RowMap.rows c.args.config.now in
    c.in_ok-paths.ensures ∙ ap (λ gs. in_group gs c.in-Some.at) c.deref.ensures.value
    ∙ guard_areas c.args.schema.now c.laws.ensures rows c.in-Some.at c.args.grouped.now.groups.items c.requires.groups_are (sym c.is_guard.ensures ∙ c.if-is_guard.true)
    ∙ ap (areas c.args.schema.now rows) (sym c.in-Some.is)

pub returns : goal.returns
returns g t c =
    let s = c.args.schema.now in
    let rows = g.M.RowMap.rows c.args.config.now in
    c.in_ok-paths-2.ensures
    ∙ ap (λ ps. placed s rows ps c.in-Some.at) (c.deref-2.ensures.value ∙ c.in_ok-above.ensures ∙ ap (areas s rows) c.parent.ensures)
    ∙ other_areas s c.laws.ensures rows c.in-Some.at (sym c.is_guard.ensures ∙ c.if-is_guard.false)
    ∙ ap (areas s rows) (sym c.in-Some.is)
