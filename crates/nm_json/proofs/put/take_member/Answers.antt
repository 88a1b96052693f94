use Rattle.std.proofs.Common.{◌≡◌, rules, ap, ◌∙◌, option_map, string_bytes}
use Rattle.serde_json.specs.Data.{put, null}
use Rattle.serde_json.specs.Find.{get_member}
use Rattle.serde_json.specs.View.{view, members_view}
use Rattle.serde_json.specs.declared.value.Value.{Null, the_lemmas}
use Rattle.serde_json.proofs.Views.{members_view-insert_entry, view-lookup}
use Rattle.nm_json.proofs.put.take_member.Goals as goal

pub returns-clause-before : goal.returns-clause-before
returns-clause-before c =
    let old = c.args.members.now.entries in
    ap (option_map view) c.in_ok-insert.ensures.old ∙ view-lookup (string_bytes c.in_ok-key.key) old ∙ ap (λ name. get_member name (members_view old)) c.in_ok-key.ensures.ok

pub returns-clause-after : goal.returns-clause-after
returns-clause-after c =
    let old = c.args.members.now.entries in
    let seen : view Null ≡ null = search (rules, the_lemmas) in
    ap members_view c.in_ok-insert.ensures.entries ∙ members_view-insert_entry old c.in_ok-key.key Null ∙ ap (λ d. put (string_bytes c.in_ok-key.key) d (members_view old)) seen ∙ ap (λ name. put name null (members_view old)) c.in_ok-key.ensures.ok
