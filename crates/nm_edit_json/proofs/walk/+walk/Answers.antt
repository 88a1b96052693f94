use Rattle.std.proofs.Common.{◌≡◌, length, rules, OnOk, subst, sym, ap, ◌∙◌}
use Rattle.serde_json.specs.View.{view, members_view}
use Rattle.serde_json.proofs.Views.{view-Object}
use Rattle.nm_types.specs.Path.{keys}
use Rattle.nm_json.specs.Spots.{spot_of}
use Rattle.nm_json.specs.Findings.{bare, step_below}
use Rattle.nm_edit_json.specs.Around.{around_of}
use Rattle.nm_edit_json.specs.Findings.{list_item}
use Rattle.nm_edit_json.proofs.Gathering.{items_step, items_end, members_step, members_end, member_plain, container_all, entry_all, child_ignored, wanted_nowhere, wanted_key, wanted_past}
use Rattle.nm_edit_json.proofs.walk.+walk.Goals as goal

pub read_entries-loop-item-preserved : goal.read_entries-loop-item-preserved
read_entries-loop-item-preserved t c =
    items_step c.args.schema.now (list_item (spot_of c.args.spot.now) c.args.keys.now c.args.held) c.args.items.now c.loop-item.item-index c.item-item.result c.loop-item.gathered c.read_entry.new.gathered _
    c.loop-item-test.true c.item-item.is c.in_ok-read_entry.ensures c.loop-item.invariant

pub read_entries-returns : goal.read_entries-returns
read_entries-returns t c =
    items_end c.args.schema.now (list_item (spot_of c.args.spot.now) c.args.keys.now c.args.held) c.args.items.now c.loop-item.item-index c.loop-item.gathered _ c.loop-item-test.false c.loop-item.invariant

pub read_members-loop-name-preserved : goal.read_members-loop-name-preserved
read_members-loop-name-preserved t c =
    members_step c.args.schema.now (around_of c.args.around.now) (c.in-Some.name.now, c.in-Some.part.now) c.next.new.self c.loop-name.name-iterator c.as_str.result.now c.loop-name.gathered c.read_member.new.gathered _
    c.in-Some.ensures.steps c.as_str.ensures.value c.in_ok-read_member.ensures c.loop-name.invariant

pub read_members-returns : goal.read_members-returns
read_members-returns t c =
    members_end c.args.schema.now (around_of c.args.around.now) c.loop-name.name-iterator c.loop-name.gathered _ c.in-None.ensures.steps.0 c.loop-name.invariant

pub read_child-returns-in_default : goal.read_child-returns-in_default
read_child-returns-in_default t c =
    child_ignored c.args.schema.now _ (view c.args.part.now) c.args.gathered.now (wanted_nowhere c.args.schema.now (around_of c.args.around.now) c.args.at c.in_default.is)

pub read_child-returns-then-is_key : goal.read_child-returns-then-is_key
read_child-returns-then-is_key t c =
    child_ignored c.args.schema.now _ (view c.args.part.now) c.args.gathered.now
    (wanted_key c.args.schema.now (around_of c.args.around.now) c.args.at c.in-Some.number c.in-Some.is (sym c.is_key.ensures ∙ c.if-is_key.true))

pub read_child-returns-in-None : goal.read_child-returns-in-None
read_child-returns-in-None t c =
    child_ignored c.args.schema.now _ (view c.args.part.now) c.args.gathered.now
    (wanted_past c.args.schema.now (around_of c.args.around.now) c.args.at c.in-Some.number c.in-Some.is (sym c.is_key.ensures ∙ c.if-is_key.false) c.in-None.ensures)

pub read_member-returns-in_ok-note_name-in-None : goal.read_member-returns-in_ok-note_name-in-None
read_member-returns-in_ok-note_name-in-None t c =
    let whole = member_plain c.args.schema.now (around_of c.args.around.now) c.args.name.now c.node_named-at.result (view c.args.part.now) c.args.gathered.now c.note_name.new.gathered
    c.in-None.ensures c.node_named-at.ensures c.in_ok-note_name-in-None.ensures in
    subst (λ u. OnOk c.read_child.result (c.read_child.new.gathered ≡ u)) whole c.read_child.ensures

pub read_container-returns-in_ok-path-in-Object : goal.read_container-returns-in_ok-path-in-Object
read_container-returns-in_ok-path-in-Object t c =
    let is = ap view c.in-Object.is ∙ view-Object c.in-Object.members in
    let noted = c.in_ok-path-in-Object.ensures in
    let whole = container_all c.args.schema.now (spot_of c.args.spot.now) c.args.presence c.args.held (view c.args.part.now) (members_view c.in-Object.members.entries) c.args.gathered.now c.note_step.new.gathered
    c.own_said-said.result c.presence_value-value.result (bare (spot_of c.args.spot.now)) c.in_ok-path-in-Object.path c.held_by.result
    is c.own_said-said.ensures c.presence_value-value.ensures noted.path (sym noted.path) c.held_by.ensures noted.noted in
    subst (λ u. OnOk c.read_members-read.result (c.read_members-read.new.gathered ≡ u)) whole c.read_members-read.ensures

pub read_entry-returns-in_ok-path-in-Object : goal.read_entry-returns-in_ok-path-in-Object
read_entry-returns-in_ok-path-in-Object t c =
    let is = ap view c.in-Object.is ∙ view-Object c.in-Object.members in
    let read = c.in_ok-values-in-Object.ensures in
    let noted = c.in_ok-path-in-Object.ensures in
    let held : c.len.result ≡ length c.in_ok-values-in-Object.values.items = search rules in
    let at = step_below c.args.spot.now.above.now c.args.spot.now.node.now (keys c.in_ok-values-in-Object.values.items) in
    let whole = entry_all c.args.schema.now (spot_of c.args.spot.now) c.args.keys.now c.args.held (view c.args.part.now) (members_view c.in-Object.members.entries) c.args.gathered.now c.read_keys.new.gathered
    c.note_step.new.gathered c.own_said-said.result at c.in_ok-path-in-Object.path c.held_by.result c.in_ok-values-in-Object.values.items
    is read.values read.faults (sym held ∙ c.if-len-keys.false) noted.path (sym noted.path) c.own_said-said.ensures c.held_by.ensures noted.noted in
    subst (λ u. OnOk c.read_members-read.result (c.read_members-read.new.gathered ≡ u)) whole c.read_members-read.ensures
