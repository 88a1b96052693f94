use Rattle.std.proofs.Common.{◌≡◌, OnOk, subst, ap, ◌∙◌, option_map}
use Rattle.serde_json.specs.View.{items_view}
use Rattle.nm_json.specs.Spots.{spot_of}
use Rattle.nm_edit_json.proofs.Gathering.{none_noted, some_noted}
use Rattle.nm_edit_json.proofs.value.read_noted.Goals as goal

pub returns-in_ok-note_misplaced-in-None : goal.returns-in_ok-note_misplaced-in-None
returns-in_ok-note_misplaced-in-None c =
    let whole = none_noted (spot_of c.args.spot.now) c.args.leaf_type.now c.args.held (items_view c.args.items.now) c.as_slice.result.now c.args.gathered.now c.note_misplaced.new.gathered
    (option_map (λ notes. items_view notes.now) c.args.notes) (ap (option_map (λ notes. items_view notes.now)) c.in-None.is) (c.as_slice.ensures.value ∙ c.new-none.ensures.items)
    c.in_ok-note_misplaced-in-None.ensures in
    subst (λ u. OnOk c.read_values-read.result (c.read_values-read.new.gathered ≡ u)) whole c.read_values-read.ensures

pub returns-in_ok-note_misplaced-in-Some : goal.returns-in_ok-note_misplaced-in-Some
returns-in_ok-note_misplaced-in-Some c =
    let whole = some_noted (spot_of c.args.spot.now) c.args.leaf_type.now c.args.held c.args.items.now c.in-Some.notes.now c.args.gathered.now c.note_misplaced-in-Some.new.gathered
    (option_map (λ notes. items_view notes.now) c.args.notes) (ap (option_map (λ notes. items_view notes.now)) c.in-Some.is) c.in_ok-note_misplaced-in-Some.ensures in
    subst (λ u. OnOk c.read_values.result (c.read_values.new.gathered ≡ u)) whole c.read_values.ensures
