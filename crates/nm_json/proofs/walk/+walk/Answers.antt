use Rattle.std.proofs.Common.{◌≡◌, OnOk, subst, sym, ap, ◌∙◌}
use Rattle.serde_json.specs.View.{view, members_view}
use Rattle.serde_json.proofs.Views.{view-Object}
use Rattle.nm_json.specs.Findings.{list_item}
use Rattle.nm_json.specs.Spots.{spot_of}
use Rattle.nm_json.proofs.Gathering.{items_step, items_end, members_next, members_end, member_ignored, wanted_nowhere, wanted_key, wanted_past, container_whole}
use Rattle.nm_json.proofs.walk.+walk.Goals as goal

pub read_container-returns-in_ok-path-in-Object : goal.read_container-returns-in_ok-path-in-Object
read_container-returns-in_ok-path-in-Object t c =
    let is = ap view c.in-Object.is ∙ view-Object c.in-Object.members in
    let whole = container_whole c.args.schema.now (spot_of c.args.spot.now) c.args.presence (view c.args.part.now) (members_view c.in-Object.members.entries) c.args.gathered.now c.note_presence.new.gathered
    c.in_ok-path-in-Object.path is c.in_ok-note_presence-in-Object.ensures c.in_ok-path-in-Object.ensures in
    subst (λ u. OnOk c.read_members-read.result (c.read_members-read.new.gathered ≡ u)) whole c.read_members-read.ensures

pub read_entries-loop-item-preserved : goal.read_entries-loop-item-preserved
read_entries-loop-item-preserved t c =
    items_step c.args.schema.now (list_item (spot_of c.args.spot.now) c.args.keys.now) c.args.items.now c.loop-item.item-index c.item-item.result c.loop-item.gathered c.read_entry.new.gathered _
    c.loop-item-test.true c.item-item.is c.in_ok-read_entry.ensures c.loop-item.invariant

pub read_entries-returns : goal.read_entries-returns
read_entries-returns t c =
    items_end c.args.schema.now (list_item (spot_of c.args.spot.now) c.args.keys.now) c.args.items.now c.loop-item.item-index c.loop-item.gathered _ c.loop-item-test.false c.loop-item.invariant

pub read_member-returns-in_default : goal.read_member-returns-in_default
read_member-returns-in_default t c =
    member_ignored c.args.schema.now _ (view c.args.part.now) c.args.gathered.now (wanted_nowhere c.args.schema.now c.args.above.now c.args.at c.in_default.is)

pub read_member-returns-then-is_key : goal.read_member-returns-then-is_key
read_member-returns-then-is_key t c =
    member_ignored c.args.schema.now _ (view c.args.part.now) c.args.gathered.now
    (wanted_key c.args.schema.now c.args.above.now c.args.at c.in-Some.number c.in-Some.is (sym c.is_key.ensures ∙ c.if-is_key.true))

pub read_member-returns-in-None : goal.read_member-returns-in-None
read_member-returns-in-None t c =
    member_ignored c.args.schema.now _ (view c.args.part.now) c.args.gathered.now
    (wanted_past c.args.schema.now c.args.above.now c.args.at c.in-Some.number c.in-Some.is (sym c.is_key.ensures ∙ c.if-is_key.false) c.in-None.ensures)

pub read_members-loop-name-preserved : goal.read_members-loop-name-preserved
read_members-loop-name-preserved t c =
    members_next c.args.schema.now c.args.above.now c.args.within (members_view c.args.all.now.entries) (c.in-Some.name.now, c.in-Some.part.now) c.next.new.self c.loop-name.name-iterator
    c.loop-name.gathered c.note_name.new.gathered c.read_member.new.gathered _ c.as_str-name.result.now c.is_twice-twice.result c.node_named-at.result c.in-Some.ensures.steps c.as_str-name.ensures.value
    c.is_twice-twice.ensures c.node_named-at.ensures c.in_ok-note_name.ensures c.in_ok-read_member.ensures c.loop-name.invariant

pub read_members-returns : goal.read_members-returns
read_members-returns t c =
    members_end c.args.schema.now c.args.above.now c.args.within (members_view c.args.all.now.entries) c.loop-name.name-iterator c.loop-name.gathered _ c.in-None.ensures.steps.0 c.loop-name.invariant
