use Rattle.std.proofs.Common.{◌≡◌, ◌∙◌, None, Some, ap, sym, rules, arith}
use Rattle.std.specs.BTreeMap.{get_by_text}
use Rattle.std.specs.String.{string_bytes}
use Rattle.std.proofs.lemmas.Map.Text.{btree_map_updates_text}
use Rattle.std.proofs.lemmas.Grind.{common_steps}
use Rattle.nm_schema_tree.proofs.Changes.{put_new}
use Rattle.nm_schema_tree.proofs.level.put_first.Goals as goal

pub returns-clause-put : goal.returns-clause-put
returns-clause-put c = λ q.
    let is = btree_map_updates_text (string_bytes c.in_ok-key.key) c.args.first.now c.insert.new.self (Some c.args.at) c.in_ok-insert.ensures.updates q in
    let text : string_bytes c.in_ok-key.key ≡ c.args.name.now = search rules in
    let none : get_by_text c.args.first.now c.args.name.now ≡ None = grind (arith, common_steps, c.if-contains_key.ensures) in
    rw text at is ∙ put_new (get_by_text c.args.first.now) c.args.name.now q c.args.at none
