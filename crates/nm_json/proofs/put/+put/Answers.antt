use Rattle.std.proofs.Common.{◌≡◌, IfOk, OnOk, option_map, subst, sym, ◌∙◌}
use Rattle.serde_json.specs.View.{view, members_view}
use Rattle.nm_path.specs.Spelling.{below}
use Rattle.nm_json.specs.Writing.{put_steps}
use Rattle.nm_json.proofs.Putting.{put_whole, entries_after, begins_with, behind}
use Rattle.nm_json.proofs.put.+put.Goals as goal

pub put_steps-returns : goal.put_steps-returns
put_steps-returns t c =
    let is = begins_with c.args.steps.now c.step-item.result c.in-len1-up.len_at_least c.step-item.is in
    let whole = put_whole c.args.schema.now c.args.place c.step-item.result (behind c.args.steps.now) c.args.steps.now c.args.value.now (members_view c.args.members.now.entries)
    (members_view c.take_member.new.members.entries) c.as_str-name.result.now c.node_of-at.result (option_map view c.in-Ok.before) (view c.in-Ok-step_data.part) is
    (c.as_str-name.ensures ∙ c.in_ok-label.ensures) c.node_of-at.ensures c.in-Ok.ensures.before c.in-Ok.ensures.after c.in-Ok-step_data.ensures in
    subst (λ u. OnOk c.put_member-put.result (members_view c.put_member-put.new.members.entries ≡ u)) whole c.put_member-put.ensures

pub keys_data-returns-in-Ok : goal.keys_data-returns-in-Ok
keys_data-returns-in-Ok t c =
    let whole = entries_after c.args.schema.now.nodes c.args.at c.args.values.now c.args.rest.now c.args.value.now (option_map view c.args.before)
    (put_steps c.args.schema.now (below c.args.at) c.args.rest.now c.args.value.now) c.items_in-items.result.items c.pop.new.self.items c.in-Some.last c.in-Ok.part
    (sym c.is_empty.ensures ∙ c.if-is_empty.false) c.items_in-items.ensures c.in-Some.ensures.items c.in-Ok.ensures in
    subst (λ u. IfOk c.array_with.result (λ all. view all ≡ u)) whole c.array_with.ensures
