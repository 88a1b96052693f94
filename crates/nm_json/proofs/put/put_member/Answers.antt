use Rattle.std.proofs.Common.{ap, ◌∙◌}
use Rattle.serde_json.specs.Data.{put}
use Rattle.serde_json.specs.View.{view, members_view}
use Rattle.serde_json.proofs.Views.{members_view-insert_entry}
use Rattle.nm_json.proofs.put.put_member.Goals as goal

pub returns-in-Ok-insert : goal.returns-in-Ok-insert
returns-in-Ok-insert c =
    let old = c.args.members.now.entries in
    ap members_view c.in-Ok-insert.ensures.entries ∙ members_view-insert_entry old c.in-Ok.key c.args.part ∙ ap (λ name. put name (view c.args.part) (members_view old)) c.in-Ok.ensures.ok
