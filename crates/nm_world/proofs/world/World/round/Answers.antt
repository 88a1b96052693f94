use Rattle.std.proofs.Common.{◌≤◌, ◌∙◌, Some, refl, sym, ap, subst, length}
use Rattle.nm_proto.specs.declared.plan.Event.TheVariants.{Turn}
use Rattle.nm_world.specs.World.{WorldValue, followed, world_step}
use Rattle.nm_world.proofs.Clocks.{time_still}
use Rattle.nm_world.proofs.Passing.{ok_then, still_ready}
use Rattle.nm_world.proofs.Chains.{turn_left, round_did, round_left}
use Rattle.nm_world.proofs.Rereading.{and_exact}
use Rattle.nm_world.proofs.world.World.round.Goals as goal

pub follow-requires-clause-given : goal.follow-requires-clause-given
follow-requires-clause-given g c =
    subst (λ (w : WorldValue _ _ _ _). c.args.change ≤ length w.setting.plans) (sym c.in_ok-sending.ensures.applied.others) c.requires.given

pub follow-requires-clause-ready : goal.follow-requires-clause-ready
follow-requires-clause-ready g c = still_ready _ c.args.self.now c.apply.new.self (g.D.Disk.state c.args.disk.now) (g.D.Disk.state c.apply.new.disk) c.requires.ready c.in_ok-sending.ensures.applied c.apply.ensures.time

pub returns-in_err-sending-clause-journals : goal.returns-in_err-sending-clause-journals
returns-in_err-sending-clause-journals g c = turn_left g.C.Content.meaning c.args.self.now c.args.change (g.D.Disk.state c.args.disk.now) (g.D.Disk.state c.apply.new.disk) c.apply.ensures.journals

pub returns-clause-went : goal.returns-clause-went
returns-clause-went g c = ok_then c.follow.result c.follow.ensures.followed (λ did.
    round_did g.C.Content.meaning c.args.self.now c.args.change c.in-Some.sending c.apply.new.self c.follow.new.self (g.D.Disk.state c.args.disk.now) (g.D.Disk.state c.apply.new.disk) (g.D.Disk.state c.follow.new.disk)
    (sym c.in-Some.is ∙ c.in_ok-sending.ensures.sent) c.in_ok-sending.ensures.applied did)

pub returns-clause-journals : goal.returns-clause-journals
returns-clause-journals g c =
    round_left g.C.Content.meaning c.args.self.now c.args.change c.in-Some.sending c.apply.new.self (g.D.Disk.state c.args.disk.now) (g.D.Disk.state c.apply.new.disk) (g.D.Disk.state c.follow.new.disk)
    (sym c.in-Some.is ∙ c.in_ok-sending.ensures.sent) c.in_ok-sending.ensures.applied c.follow.ensures.journals

pub returns-clause-time : goal.returns-clause-time
returns-clause-time g c = time_still c.args.self.now.state.devices c.apply.new.self.state.devices c.follow.new.self.state.devices c.apply.ensures.time c.follow.ensures.time

pub returns-clause-exact : goal.returns-clause-exact
returns-clause-exact g c =
    let now = c.args.self.now in
    let m = g.C.Content.meaning now.content in
    let turned = world_step m now.setting now.state (Turn c.args.change) in
    ok_then c.follow.result c.follow.ensures.exact (λ exact.
    and_exact g.C.Content.meaning now c.apply.new.self c.follow.new.self (λ m setting w. followed m setting w c.args.change (Some c.in-Some.sending))
    turned c.in_ok-sending.ensures.applied.others (c.in_ok-sending.ensures.came.does refl) exact
    ∙ ap (followed m now.setting turned c.args.change) (sym c.in-Some.is ∙ c.in_ok-sending.ensures.sent))
