use Rattle.std.proofs.Common.{◌+◌, List, Option, drop, sym, ap, ◌∙◌}
use Rattle.std.specs.List.{flat_map}
use Rattle.nm_types.specs.Path.{PathStep}
use Rattle.nm_validate_places.specs.Least.{least_with}
use Rattle.nm_validate_places.proofs.Leasts.{least_append}
use Rattle.nm_validate.specs.declared.places.NodePlace.{NodePlace}
use Rattle.nm_validate.specs.Led.{paths_of}
use Rattle.nm_validate.specs.Others.{other_below}
use Rattle.nm_validate.proofs.Lead.{led_at}
use Rattle.nm_validate.proofs.Steps.{step_on, end_on}
use Rattle.nm_validate.proofs.one_case.least_among.Goals as goal

pub with_other_below-requires : goal.with_other_below-requires
with_other_below-requires g c = led_at c.args.schema.now c.args.places.now c.loop-place.place-index c.place-item.result c.loop-place-test.true c.place-item.is c.requires

pub loop-place-preserved : goal.loop-place-preserved
loop-place-preserved g c =
    let others = other_below c.args.schema.now (g.M.RowMap.rows c.args.config.now) c.args.choice c.args.nodes.now in
    let i = c.loop-place.place-index in
    let place = c.place-item.result in
    let left = flat_map others (paths_of (drop (i + 1) c.args.places.now)) in
    step_on (λ (o : Option (List PathStep)) (ps : List NodePlace). least_with o (flat_map others (paths_of ps))) c.args.places.now i place c.loop-place.least c.in_ok-least.least _ c.loop-place-test.true c.place-item.is
    (ap (λ (o : Option (List PathStep)). least_with o left) c.in_ok-least.ensures ∙ sym (least_append c.loop-place.least (others place.path.now) left)) c.loop-place.invariant

pub returns : goal.returns
returns g c =
    let others = other_below c.args.schema.now (g.M.RowMap.rows c.args.config.now) c.args.choice c.args.nodes.now in
    end_on (λ (ps : List NodePlace). least_with c.loop-place.least (flat_map others (paths_of ps))) c.args.places.now c.loop-place.place-index _ c.loop-place-test.false c.loop-place.invariant
