use Rattle.std.proofs.Common.{rules, [], ◌≡◌, ◌++◌, ◌∷◌, ◌+◌, ◌∙◌, OnOk, drop, refl, sym, ap, subst, arith}
use Rattle.std.proofs.Common.{map as each}
use Rattle.std.proofs.lemmas.List.{nil_from_length}
use Rattle.std.specs.List.{list_all}
use Rattle.std.specs.Map.Iter.{deref_pair}
use Rattle.json.specs.Token.{Token}
use Rattle.nm_types.specs.Path.{PathStep}
use Rattle.nm_types.specs.Chosen.{choice_of}
use Rattle.nm_schema_tree.specs.Nodes.{keys_at}
use Rattle.nm_json.specs.Writing.{key_members}
use Rattle.serde_json.specs.Data.{no_members}
use Rattle.nm_json_text.specs.Passing as spec
use Rattle.nm_json_text.proofs.Behind.{held_members}
use Rattle.nm_json_text.proofs.Calls.{on_ok, object_text, first_rest, is_container, is_list, entry_item, own_row, group_alike, group_passed}
use Rattle.nm_json_text.proofs.Lists.{itemed_start, itemed_on, itemed_end, split_rests, counted_pass}
use Rattle.nm_json_text.proofs.Passed.{passed_start, passed_end}
use Rattle.nm_json_text.proofs.pass.+pass.Goals as goal

pub write_object-returns : goal.write_object-returns
write_object-returns t c =
    subst (λ u. OnOk c.write_members.result (c.write_members.new.out ≡ u))
    (object_text c.args.schema.now c.args.at c.below.result c.args.depth c.in-Some.deeper _ _ (each deref_pair c.args.rows.now) c.args.out.now c.begin_object.new.self
    c.in_ok-begin_object.ensures c.below.ensures c.in-Some.ensures.1 refl) c.write_members.ensures

pub write_entry-returns-then-ascends : goal.write_entry-returns-then-ascends
write_entry-returns-then-ascends t c =
    let nodes = c.args.schema.now.nodes in
    let vs = c.args.values.now in
    let rows = spec.rests c.args.depth (each deref_pair c.args.inner.now) in
    let held = held_members nodes c.keys_of-keys.result.now vs (sym c.ascends.ensures ∙ c.if-ascends.true) ∙ ap (λ xs. key_members nodes xs vs no_members) c.keys_of-keys.ensures in
    subst (λ u. OnOk c.write_object.result (c.write_object.new.out ≡ u))
    (ap (λ ms. c.args.out.now ++ spec.tokens_of (spec.object_of c.args.schema.now c.args.at ms rows)) held) c.write_object.ensures

pub write_entry-returns : goal.write_entry-returns
write_entry-returns t c =
    let nodes = c.args.schema.now.nodes in
    let vs = c.args.values.now in
    let rows = spec.rests c.args.depth (each deref_pair c.args.inner.now) in
    let held = ap (λ xs. spec.held nodes xs c.deref-2.result.now) c.deref.ensures.value ∙ ap (spec.held nodes c.in_ok-sorted.sorted.keys.items) c.deref-2.ensures.value
    ∙ c.in_ok-sorted.ensures ∙ ap (λ xs. key_members nodes xs vs no_members) c.keys_of-keys.ensures in
    subst (λ u. OnOk c.write_object-2.result (c.write_object-2.new.out ≡ u))
    (ap (λ ms. c.args.out.now ++ spec.tokens_of (spec.object_of c.args.schema.now c.args.at ms rows)) held) c.write_object-2.ensures

pub write_items-items-init : goal.write_items-items-init
write_items-items-init t c = (itemed_start c.args.schema.now c.args.at (spec.rests c.args.depth (each deref_pair c.args.group.now)) c.begin_array.new.self, omega arith)

pub write_members-groups-init : goal.write_members-groups-init
write_members-groups-init t c =
    (passed_start c.args.schema.now c.args.place (spec.held c.args.schema.now.nodes c.args.keys.now c.args.values.now) (spec.rests c.args.depth (each deref_pair c.args.rows.now)) c.args.out.now, omega arith)

pub write_group-returns-in-Whole : goal.write_group-returns-in-Whole
write_group-returns-in-Whole t c =
    let rows = each deref_pair c.args.group.now in
    let first = first_rest c.args.depth rows _ (each deref_pair c.in-Some.field-0-1.now) (c.in-Some-split_first.step.now ∷ c.in-Some-split_first.field-0-1.now)
    (ap (λ xs. each deref_pair xs) c.in-Some.ensures.cases.0) (sym c.steps_from.ensures ∙ c.in-Some-split_first.ensures.cases.0) in
    let kind = ap (λ (x : PathStep). spec.is_whole x.chosen) (sym c.step.view_is) ∙ ap (λ x. spec.is_whole (choice_of x)) c.in-Whole.is in
    subst (λ u. OnOk c.write_whole.result (c.write_whole.new.out ≡ u))
    (ap (λ d. c.args.out.now ++ spec.tokens_of d) (is_container c.args.schema.now c.args.place c.node_of-at.result c.in-Some-split_first.step.now c.in-Some-split_first.field-0-1.now _ _ _ first
    c.node_of-at.ensures kind c.requires)) c.write_whole.ensures

pub write_group-returns-in-Keys : goal.write_group-returns-in-Keys
write_group-returns-in-Keys t c =
    let rows = each deref_pair c.args.group.now in
    let first = first_rest c.args.depth rows _ (each deref_pair c.in-Some.field-0-1.now) (c.in-Some-split_first.step.now ∷ c.in-Some-split_first.field-0-1.now)
    (ap (λ xs. each deref_pair xs) c.in-Some.ensures.cases.0) (sym c.steps_from.ensures ∙ c.in-Some-split_first.ensures.cases.0) in
    let kind = ap (λ (x : PathStep). spec.is_whole x.chosen) (sym c.step.view_is) ∙ ap (λ x. spec.is_whole (choice_of x)) c.in-Keys.is in
    subst (λ u. OnOk c.write_items.result (c.write_items.new.out ≡ u))
    (ap (λ d. c.args.out.now ++ spec.tokens_of d) (is_list c.args.schema.now c.args.place c.node_of-at.result c.in-Some-split_first.step.now c.in-Some-split_first.field-0-1.now _ _ _ first
    c.node_of-at.ensures kind c.requires)) c.write_items.ensures

pub write_group-returns-in-Entry : goal.write_group-returns-in-Entry
write_group-returns-in-Entry t c =
    let rows = each deref_pair c.args.group.now in
    let first = first_rest c.args.depth rows _ (each deref_pair c.in-Some.field-0-1.now) (c.in-Some-split_first.step.now ∷ c.in-Some-split_first.field-0-1.now)
    (ap (λ xs. each deref_pair xs) c.in-Some.ensures.cases.0) (sym c.steps_from.ensures ∙ c.in-Some-split_first.ensures.cases.0) in
    let kind = ap (λ (x : PathStep). spec.is_whole x.chosen) (sym c.step.view_is) ∙ ap (λ x. spec.is_whole (choice_of x)) c.in-Entry.is in
    subst (λ u. OnOk c.write_items-in-Entry.result (c.write_items-in-Entry.new.out ≡ u))
    (ap (λ d. c.args.out.now ++ spec.tokens_of d) (is_list c.args.schema.now c.args.place c.node_of-at.result c.in-Some-split_first.step.now c.in-Some-split_first.field-0-1.now _ _ _ first
    c.node_of-at.ensures kind c.requires)) c.write_items-in-Entry.ensures

pub write_item-returns-else-not-is_empty : goal.write_item-returns-else-not-is_empty
write_item-returns-else-not-is_empty t c =
    let inner = spec.rests c.args.depth (each deref_pair c.args.inner.now) in
    let vs = c.in-Keys.values.items in
    let chosen = ap (λ (x : PathStep). x.chosen) (sym c.step.view_is) ∙ ap choice_of c.in-Keys.is in
    on_ok c.write_entry.result
    (λ text. entry_item c.args.schema.now c.args.at (drop c.args.depth c.args.path.now) c.in-Some.step.now c.in-Some.steps.now vs inner c.args.out.now c.write_entry.new.out
    (sym c.steps_from.ensures ∙ c.in-Some.ensures.cases.0) (sym c.is_empty.ensures ∙ c.if-not-is_empty.false) chosen c.requires
    (text ∙ ap (λ xs. c.args.out.now ++ spec.tokens_of (spec.object_of c.args.schema.now c.args.at (key_members c.args.schema.now.nodes (keys_at c.args.schema.now.nodes c.args.at) xs no_members) inner)) c.deref.ensures.value)) c.write_entry.ensures

pub write_items-write_item-requires : goal.write_items-write_item-requires
write_items-write_item-requires t c = (
  search rules,
  ap (λ xs. list_all spec.is_below (spec.rests c.args.depth (each deref_pair xs))) c.rows_to.ensures
      ∙ counted_pass deref_pair c.args.depth spec.is_below c.below_count-count.result c.in-Some.more.now c.below_count-count.ensures.value,
)

pub write_items-items-preserved : goal.write_items-items-preserved
write_items-items-preserved t c =
    let d = c.args.depth in
    let count = c.below_count-count.result in
    let cases = c.in-Some.ensures.cases in
    let split = split_rests deref_pair d c.items.done (1 + count) count c.args.group.now c.rows_from.result.now c.in-Some.row.now c.in-Some.more.now _ c.rows_from.ensures.value refl cases.0 refl in
    let inner = ap (λ xs. spec.rests d (each deref_pair xs)) c.rows_to.ensures in (
      itemed_on c.args.schema.now c.args.at _ _ _ _ c.items.invariant.0 _ _ _ _ _ c.write_item.new.out split inner c.in_ok-write_item.ensures,
      omega (arith, c.items.invariant.1, c.rows_from.ensures.within c.items.invariant.1, cases.1, c.below_count-count.ensures.within),
    )

pub write_items-returns : goal.write_items-returns
write_items-returns t c =
    let none = ap (λ xs. spec.rests c.args.depth (each deref_pair xs)) (sym c.rows_from.ensures.value ∙ nil_from_length c.rows_from.result.now c.in_default.ensures.cases) in
    subst (λ u. OnOk c.end_array.result (c.end_array.new.self ≡ u)) (itemed_end c.args.schema.now c.args.at _ c.args.out.now c.begin_array.new.self c.items.out _ c.in_ok-begin_array.ensures c.items.invariant.0 none) c.end_array.ensures

pub write_members-write_group-requires : goal.write_members-write_group-requires
write_members-write_group-requires t c =
    let k = c.alike_count-count.result in
    let rows = c.rows_from-in-Some-split_first.result.now in
    let rows_are = c.rows_from-in-Some-split_first.ensures.value ∙ sym c.rows_from.ensures.value ∙ c.in-Some-split_first.ensures.cases.0 in (
      search rules,
      ap (λ xs. spec.are_alike (spec.rests c.args.depth (each deref_pair xs))) c.rows_to.ensures
          ∙ group_alike deref_pair c.args.depth (1 + k) k rows c.in-Some-split_first.row.now c.in-Some-split_first.more.now c.in-Some-split_first-2.step.now c.in-Some-split_first-2.field-0-1.now
          refl rows_are (sym c.steps_from.ensures ∙ c.in-Some-split_first-2.ensures.cases.0) c.alike_count-count.ensures.value,
    )

pub write_members-groups-preserved : goal.write_members-groups-preserved
write_members-groups-preserved t c =
    let k = c.alike_count-count.result in
    let schema = c.args.schema.now in
    let nodes = schema.nodes in
    let name = c.in_ok-name.name in
    let ks = c.groups.keys_left.now in
    let vs = c.groups.values_left.now in
    let left = c.in_ok-left.left in
    let rows = c.rows_from-in-Some-split_first.result.now in
    let again = c.rows_from-in-Some-split_first.ensures.value in
    let rows_are = again ∙ sym c.rows_from.ensures.value ∙ c.in-Some-split_first.ensures.cases.0 in
    let q = c.as_str.ensures in
    let kept = c.groups.out ++ spec.front (spec.taken nodes name ks vs) in
    let over = c.in_ok-left.ensures.left ∙ ap (λ n. spec.left_over nodes n ks vs) q in
    let before = ap (λ n. spec.is_before_all nodes n left.0.now) (sym q) ∙ c.in_ok-left.ensures.later in
    let named = c.in_ok-left.ensures.text ∙ ap (λ n. (c.groups.out ++ spec.front (spec.taken nodes n ks vs)) ++ Token.key n ∷ []) q in (
      group_passed deref_pair schema c.args.place c.args.depth _ _ _ _ ks vs left.0.now left.1.now c.groups.done (1 + k) k c.args.rows.now rows c.in-Some-split_first.row.now
          c.in-Some-split_first.more.now c.rows_to.result.now c.in-Some-split_first-2.step.now c.in-Some-split_first-2.field-0-1.now name kept c.begin_member.new.out c.write_group.new.out c.groups.invariant.0 again
          refl rows_are (sym c.steps_from.ensures ∙ c.in-Some-split_first-2.ensures.cases.0) c.alike_count-count.ensures.value c.rows_to.ensures c.in_ok-name.ensures.named c.in_ok-name.ensures.later refl over before named c.in_ok-write_group.ensures,
      omega (arith, c.groups.invariant.1, c.rows_from.ensures.within c.groups.invariant.1, c.in-Some-split_first.ensures.cases.1, c.alike_count-count.ensures.within),
    )

pub write_members-returns : goal.write_members-returns
write_members-returns t c =
    let none = ap (λ xs. spec.rests c.args.depth (each deref_pair xs)) (sym c.rows_from.ensures.value ∙ nil_from_length c.rows_from.result.now c.in_default-split_first.ensures.cases) in
    let kept = c.groups.out ++ spec.front (spec.held c.args.schema.now.nodes c.groups.keys_left.now c.groups.values_left.now) in
    subst (λ u. OnOk c.end_members.result (c.end_members.new.out ≡ u)) (passed_end c.args.schema.now c.args.place _ c.args.out.now c.groups.out c.groups.last _ _ c.groups.invariant.0 none kept refl) c.end_members.ensures

pub write_whole-returns : goal.write_whole-returns
write_whole-returns t c =
    subst (λ u. OnOk c.write_object-2.result (c.write_object-2.new.out ≡ u))
    (ap (λ d. c.args.out.now ++ spec.tokens_of d)
    (own_row deref_pair c.args.schema.now c.args.at c.args.depth (each deref_pair c.args.group.now) (deref_pair c.in-Some.row.now) c.in-Some.others.now c.in-Some-split_first.field-0-0.now c.in-Some-split_first.steps.now
    (ap (λ xs. each deref_pair xs) c.in-Some.ensures.cases.0) (sym c.steps_from.ensures ∙ c.in-Some-split_first.ensures.cases.0) (sym c.is_empty.ensures ∙ c.if-not-is_empty.false)
    (sym c.is_empty-2.ensures ∙ c.if-is_empty.false))) c.write_object-2.ensures
