use Rattle.std.proofs.Common.{◌≡◌, ◌∙◌, None, Some, if◌then◌else◌, ap, rules}
use Rattle.std.specs.Option.{option_or}
use Rattle.std.specs.Str.{bytes_eq}
use Rattle.std.specs.BTreeMap.{get_by_text}
use Rattle.std.specs.String.{string_bytes}
use Rattle.std.proofs.lemmas.Map.Text.{btree_map_updates_text}
use Rattle.nm_schema_tree.proofs.Changes.{put_level, same_level}
use Rattle.std.proofs.lemmas.Result.{on_ok_weaker, on_err_weaker}
use Rattle.nm_schema_tree.proofs.schema.put_top.Goals as goal

pub returns-in-Some-clause-put : goal.returns-in-Some-clause-put
returns-in-Some-clause-put c =
    let w = c.put.new.self in
    let after = c.get_mut.follows.lender w in
    let updates = (c.get_mut.follows.holds w).3 (search rules) in
    let was : get_by_text c.args.top.now c.args.owner.now ≡ Some c.in-Some.level.now = search rules in
    on_ok_weaker c.put.result (put_level (get_by_text c.args.top.now) (get_by_text after) c.args.owner.now c.args.name.now c.args.at (Some c.in-Some.level.now) w was
    (btree_map_updates_text c.args.owner.now c.args.top.now after (Some w) updates)) c.put.ensures.put

pub returns-in-Some-clause-unchanged : goal.returns-in-Some-clause-unchanged
returns-in-Some-clause-unchanged c =
    let w = c.put.new.self in
    let after = c.get_mut.follows.lender w in
    let updates = (c.get_mut.follows.holds w).3 (search rules) in
    let was : get_by_text c.args.top.now c.args.owner.now ≡ Some c.in-Some.level.now = search rules in
    on_err_weaker c.put.result (λ h. same_level (get_by_text c.args.top.now) (get_by_text after) c.args.owner.now (Some c.in-Some.level.now) w was
    (btree_map_updates_text c.args.owner.now c.args.top.now after (Some w) updates) h.first) c.put.ensures.unchanged

pub returns-clause-put : goal.returns-clause-put
returns-clause-put c =
    let w = c.put-2.new.self in
    let after = c.insert.new.self in
    let was : get_by_text c.args.top.now c.args.owner.now ≡ None = search rules in
    let text : string_bytes c.in_ok-key.key ≡ c.args.owner.now = search rules in
    let same : c.get_mut.follows.lender-at-none ≡ c.args.top.now = search rules in
    let is = rw (text, same) at (btree_map_updates_text (string_bytes c.in_ok-key.key) c.get_mut.follows.lender-at-none after (Some w) c.in_ok-insert.ensures.updates) in
    put_level (get_by_text c.args.top.now) (get_by_text after) c.args.owner.now c.args.name.now c.args.at None w was is
    (λ q. c.in_ok-put.ensures.put q ∙ ap (λ o. option_or o (if bytes_eq c.args.name.now q then Some c.args.at else None)) (c.new-level.ensures.first q))
