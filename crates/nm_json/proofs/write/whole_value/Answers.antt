use Rattle.std.proofs.Common.{◌∙◌, fold, sym, ap}
use Rattle.serde_json.specs.Data.{object}
use Rattle.serde_json.specs.View.{members_view}
use Rattle.serde_json.proofs.Views.{view-Object}
use Rattle.nm_json.specs.Writing.{put_row, config_data}
use Rattle.nm_json.proofs.write.whole_value.Goals as goal

pub loop-path-preserved : goal.loop-path-preserved
loop-path-preserved c =
    let put = put_row c.args.schema.now in
    ap (λ ms. fold put ms c.next.new.self) c.in-Ok.ensures
    ∙ sym (ap (fold put (members_view c.loop-path.members.entries)) c.in-Some.ensures.steps)
    ∙ c.loop-path.invariant

pub returns : goal.returns
unfolding config_data
returns c =
    view-Object c.loop-path.members
    ∙ ap object (sym (ap (fold (put_row c.args.schema.now) (members_view c.loop-path.members.entries)) c.in-None.ensures.steps.0) ∙ c.loop-path.invariant)
