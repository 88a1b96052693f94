use Rattle.std.proofs.Common.{map, ap, sym, ◌∙◌}
use Rattle.nm_validate_rules.specs.Values.{key_in_entry}
use Rattle.nm_validate_leafref.specs.Kept.{with_values}
use Rattle.nm_validate_leafref.proofs.Grouping.{no_entries, top_no_key, no_group_entries, group_entries}
use Rattle.nm_validate_leafref.proofs.known.keep_keys.Goals as goal

pub returns-then-not-is_key : goal.returns-then-not-is_key
returns-then-not-is_key g c =
    let t = c.args.schema.now in
    let rows = g.M.RowMap.rows c.args.config.now in
    ap (λ ps. with_values c.args.at c.args.depth (key_in_entry t c.args.at) c.args.kept.now ps) (sym (no_entries t rows c.args.at (sym c.is_key.ensures ∙ c.if-not-is_key.true)))

pub returns-in_default : goal.returns-in_default
returns-in_default g c =
    let t = c.args.schema.now in
    let rows = g.M.RowMap.rows c.args.config.now in
    let none = top_no_key t rows c.args.at (sym c.parent.ensures ∙ c.in_default.is) in
    ap (λ ps. with_values c.args.at c.args.depth (key_in_entry t c.args.at) c.args.kept.now ps) (sym (no_entries t rows c.args.at none))

pub returns-in_default-group_of : goal.returns-in_default-group_of
returns-in_default-group_of g c =
    let t = c.args.schema.now in
    let rows = g.M.RowMap.rows c.args.config.now in
    let key = sym c.is_key.ensures ∙ c.if-not-is_key.false in
    let parent = sym c.parent.ensures ∙ c.in-Some.is in
    ap (λ ps. with_values c.args.at c.args.depth (key_in_entry t c.args.at) c.args.kept.now ps)
    (sym (no_group_entries t rows c.args.grouped.now.groups.items c.args.at c.in-Some.list c.requires.groups_are key parent c.in_default-group_of.ensures))

pub returns : goal.returns
returns g c =
    let t = c.args.schema.now in
    let rows = g.M.RowMap.rows c.args.config.now in
    let key = sym c.is_key.ensures ∙ c.if-not-is_key.false in
    let parent = sym c.parent.ensures ∙ c.in-Some.is in
    c.in_ok-keep_all_keys.ensures
    ∙ ap (λ ps. with_values c.args.at c.args.depth (key_in_entry t c.args.at) c.args.kept.now (map (λ entry. entry.now) ps)) c.deref.ensures.value
    ∙ ap (λ ps. with_values c.args.at c.args.depth (key_in_entry t c.args.at) c.args.kept.now ps)
    (group_entries t rows c.args.grouped.now.groups.items c.args.at c.in-Some.list c.in-Some-group_of.entries.now c.requires.groups_are key parent c.in-Some-group_of.ensures)
