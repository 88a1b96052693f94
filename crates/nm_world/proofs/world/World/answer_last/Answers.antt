use Rattle.std.proofs.Common.{◌∙◌, refl, ap}
use Rattle.nm_proto.specs.declared.plan.Event.TheVariants.{Answer}
use Rattle.nm_world.specs.World.{world_step}
use Rattle.nm_world.proofs.Chains.{answer_did, answer_left}
use Rattle.nm_world.proofs.world.World.answer_last.Goals as goal

pub returns-clause-answered : goal.returns-clause-answered
returns-clause-answered g c =
    answer_did g.C.Content.meaning c.args.self.now c.args.change c.replies_on-number.result c.args.sending c.apply.new.self (g.D.Disk.state c.args.disk.now) (g.D.Disk.state c.apply.new.disk)
    c.replies_on-number.ensures c.in_ok-apply.ensures.applied

pub returns-clause-journals : goal.returns-clause-journals
returns-clause-journals g c =
    answer_left g.C.Content.meaning c.args.self.now c.args.change c.replies_on-number.result c.args.sending (g.D.Disk.state c.args.disk.now) (g.D.Disk.state c.apply.new.disk)
    c.replies_on-number.ensures c.apply.ensures.journals

pub returns-in_err-apply-clause-journals : goal.returns-in_err-apply-clause-journals
returns-in_err-apply-clause-journals g c =
    answer_left g.C.Content.meaning c.args.self.now c.args.change c.replies_on-number.result c.args.sending (g.D.Disk.state c.args.disk.now) (g.D.Disk.state c.apply.new.disk)
    c.replies_on-number.ensures c.apply.ensures.journals

pub returns-clause-exact : goal.returns-clause-exact
returns-clause-exact g c =
    let now = c.args.self.now in
    let sending = c.args.sending in
    c.in_ok-apply.ensures.came.does refl
    ∙ ap (λ n. world_step (g.C.Content.meaning now.content) now.setting now.state (Answer c.args.change sending.device sending.link n)) c.replies_on-number.ensures
