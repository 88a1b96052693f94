use Rattle.std.proofs.Common.{List, ◌++◌, ◌+◌, map, drop, sym, ap, ◌∙◌, append-nil, append_assoc}
use Rattle.std.proofs.lemmas.List.{drop_all}
use Rattle.nm_types.specs.Path.{PathStep}
use Rattle.nm_validate_places.specs.declared.areas.NodeRow.{NodeRow}
use Rattle.nm_validate.specs.Places.{shared_places, places_from, places_after}
use Rattle.nm_validate.proofs.Steps.{one_taken}
use Rattle.nm_validate.proofs.places.places_of.Goals as goal

pub loop-row-preserved : goal.loop-row-preserved
loop-row-preserved c =
    let rows = c.args.rows.now in
    let i = c.loop-row.row-index in
    let row = c.row-item.result in
    let path = row.path.now in
    let before = c.loop-row.before.now in
    let places = c.loop-row.places.items in
    let left = map (λ (r : NodeRow). r.path.now) (drop (i + 1) rows) in
    let here = places_from (shared_places before path) path in
    ap (λ (ss : List PathStep). c.put_places.new.places.items ++ places_after ss left) (c.as_slice-before.ensures.value ∙ c.path.view_is)
    ∙ ap (λ ps. ps ++ places_after path left) c.in_ok-put_places.ensures
    ∙ append_assoc places here (places_after path left)
    ∙ ap (λ rs. places ++ places_after before (map (λ (r : NodeRow). r.path.now) rs)) (sym (one_taken rows i row c.loop-row-test.true c.row-item.is))
    ∙ c.loop-row.invariant

pub returns : goal.returns
returns c =
    let places = c.loop-row.places.items in
    sym (append-nil places) ∙ ap (λ rs. places ++ places_after c.loop-row.before.now (map (λ (r : NodeRow). r.path.now) rs)) (sym (drop_all c.loop-row.row-index c.args.rows.now c.loop-row-test.false))
    ∙ c.loop-row.invariant
