use Rattle.std.proofs.Common.{◌≤◌, refl, sym, subst, length}
use Rattle.nm_proto.specs.declared.plan.Event.TheVariants.{Deliver}
use Rattle.nm_world.specs.World.{WorldValue, last_answered, world_step}
use Rattle.nm_world.proofs.Clocks.{time_still}
use Rattle.nm_world.proofs.Passing.{ok_then, rose_since, still_ready}
use Rattle.nm_world.proofs.Chains.{follow_did, deliver_left, follow_left}
use Rattle.nm_world.proofs.Rereading.{and_exact}
use Rattle.nm_world.proofs.world.World.follow.Goals as goal

pub answer_last-requires-clause-given : goal.answer_last-requires-clause-given
answer_last-requires-clause-given g c =
    subst (λ (w : WorldValue _ _ _ _). c.args.change ≤ length w.setting.plans) (sym c.in_ok-apply.ensures.applied.others) c.requires.given

pub answer_last-requires-clause-ready : goal.answer_last-requires-clause-ready
answer_last-requires-clause-ready g c = still_ready _ c.args.self.now c.apply.new.self (g.D.Disk.state c.args.disk.now) (g.D.Disk.state c.apply.new.disk) c.requires.ready c.in_ok-apply.ensures.applied c.apply.ensures.time

pub returns-in_err-apply-clause-journals : goal.returns-in_err-apply-clause-journals
returns-in_err-apply-clause-journals g c = deliver_left g.C.Content.meaning c.args.self.now c.args.change c.args.sending (g.D.Disk.state c.args.disk.now) (g.D.Disk.state c.apply.new.disk) c.apply.ensures.journals

pub returns-clause-followed : goal.returns-clause-followed
returns-clause-followed g c = ok_then c.answer_last.result c.answer_last.ensures.answered (λ did.
    follow_did g.C.Content.meaning c.args.self.now c.args.change c.args.sending c.apply.new.self c.answer_last.new.self (g.D.Disk.state c.args.disk.now) (g.D.Disk.state c.apply.new.disk) (g.D.Disk.state c.answer_last.new.disk) c.in_ok-apply.ensures.applied did)

pub returns-clause-journals : goal.returns-clause-journals
returns-clause-journals g c =
    follow_left g.C.Content.meaning c.args.self.now c.args.change c.args.sending c.apply.new.self (g.D.Disk.state c.args.disk.now) (g.D.Disk.state c.apply.new.disk) (g.D.Disk.state c.answer_last.new.disk)
    c.in_ok-apply.ensures.applied c.answer_last.ensures.journals

pub returns-clause-disk_fault : goal.returns-clause-disk_fault
returns-clause-disk_fault g c = λ is.
    rose_since (g.D.Disk.state c.args.disk.now).faults (g.D.Disk.state c.apply.new.disk).faults (g.D.Disk.state c.answer_last.new.disk).faults c.in_ok-apply.ensures.applied.journals.keeps.count (c.answer_last.ensures.disk_fault is)

pub returns-clause-time : goal.returns-clause-time
returns-clause-time g c = time_still c.args.self.now.state.devices c.apply.new.self.state.devices c.answer_last.new.self.state.devices c.apply.ensures.time c.answer_last.ensures.time

pub returns-clause-exact : goal.returns-clause-exact
returns-clause-exact g c =
    let now = c.args.self.now in
    let sending = c.args.sending in
    ok_then c.answer_last.result c.answer_last.ensures.exact (λ exact.
    and_exact g.C.Content.meaning now c.apply.new.self c.answer_last.new.self (λ m setting w. last_answered m setting w c.args.change sending)
    (world_step (g.C.Content.meaning now.content) now.setting now.state (Deliver c.args.change sending.device sending.link)) c.in_ok-apply.ensures.applied.others
    (c.in_ok-apply.ensures.came.does refl) exact)
