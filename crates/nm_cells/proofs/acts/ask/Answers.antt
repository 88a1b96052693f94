use Rattle.std.proofs.Common.{ap, ◌∙◌}
use Rattle.nm_history.specs.declared.recorded.Told.{Told}
use Rattle.nm_cells.specs.Asking.{has_plain_tag}
use Rattle.nm_cells.proofs.Tags.{asked_plain}
use Rattle.nm_cells.proofs.acts.ask.Goals as goal

pub returns-clause-plain : goal.returns-clause-plain
returns-clause-plain g c =
    ap (λ (t : Told). has_plain_tag t.reply) c.in_ok-kept.ensures.told
    ∙ (ap has_plain_tag c.in_ok-reply.ensures.stepped.0
    ∙ asked_plain (g.C.Content.meaning c.args.content.now) (g.met.C.Content.laws c.args.content.now) c.args.tables.now c.args.device.now c.args.session c.args.request.now c.requires.sound c.requires.edits_belong)
