use Rattle.std.proofs.Common.{◌≡◌, ◌≤◌, ◌+◌, ◌∙◌, suc, refl, sym, ap, subst, length, arith, rules}
use Rattle.nm_world.specs.World.{WorldValue, round, rounds}
use Rattle.nm_world.proofs.Clocks.{time_still, time_stays}
use Rattle.nm_world.proofs.Passing.{none_did, rose_since, rounds_more, still_ready}
use Rattle.nm_world.proofs.Chains.{rounds_did, rounds_left, rounds_end}
use Rattle.nm_world.proofs.Rereading.{and_exact}
use Rattle.nm_world.proofs.world.World.rounds.Goals as goal

pub loop-init : goal.loop-init
loop-init g c = (none_did c.args.self.now (g.D.Disk.state c.args.disk.now) c.requires.ready (g.met.D.Disk.only_now c.args.disk.now), time_stays c.args.self.now.state.devices, omega arith, refl)

pub round-requires-clause-given : goal.round-requires-clause-given
round-requires-clause-given g c = subst (λ (w : WorldValue _ _ _ _). c.args.change ≤ length w.setting.plans) (sym c.loop.invariant.0.others) c.requires.given

pub round-requires-clause-ready : goal.round-requires-clause-ready
round-requires-clause-ready g c = still_ready _ c.args.self.now c.loop.self (g.D.Disk.state c.args.disk.now) (g.D.Disk.state c.loop.disk) c.requires.ready c.loop.invariant.0 c.loop.invariant.1

pub loop-preserved : goal.loop-preserved
loop-preserved g c =
    let now = c.args.self.now in
    let m = g.C.Content.meaning now.content in
    let change = c.args.change in
    let next : c.loop.counter + 1 ≡ suc c.loop.counter = omega arith in (
      rounds_did g.C.Content.meaning c.args.self.now c.loop.counter c.args.change c.loop.self c.round.new.self (g.D.Disk.state c.args.disk.now) (g.D.Disk.state c.loop.disk) (g.D.Disk.state c.round.new.disk) c.loop.invariant.0 c.in_ok-round.ensures.went,
      time_still c.args.self.now.state.devices c.loop.self.state.devices c.round.new.self.state.devices c.loop.invariant.1 c.round.ensures.time,
      omega (arith, c.loop-test.true),
      and_exact g.C.Content.meaning now c.loop.self c.round.new.self (λ m setting w. round m setting w change) (rounds m now.setting c.loop.counter now.state change)
          c.loop.invariant.0.others c.loop.invariant.3 c.in_ok-round.ensures.exact
          ∙ sym (ap (λ n. rounds m now.setting n now.state change) next ∙ rounds_more m now.setting c.loop.counter now.state change),
    )

pub returns-in_err-round-clause-disk_fault : goal.returns-in_err-round-clause-disk_fault
returns-in_err-round-clause-disk_fault g c = λ is.
    rose_since (g.D.Disk.state c.args.disk.now).faults (g.D.Disk.state c.loop.disk).faults (g.D.Disk.state c.round.new.disk).faults c.loop.invariant.0.journals.keeps.count (c.in_err-round.ensures.disk_fault (search (rules, is)))

pub returns-in_err-round-clause-journals : goal.returns-in_err-round-clause-journals
returns-in_err-round-clause-journals g c =
    rounds_left g.C.Content.meaning c.args.self.now c.loop.counter c.args.turns c.args.change c.loop.self (g.D.Disk.state c.args.disk.now) (g.D.Disk.state c.loop.disk) (g.D.Disk.state c.round.new.disk)
    c.loop-test.true c.loop.invariant.0 c.round.ensures.journals

pub returns-in_err-round-clause-time : goal.returns-in_err-round-clause-time
returns-in_err-round-clause-time g c = time_still c.args.self.now.state.devices c.loop.self.state.devices c.round.new.self.state.devices c.loop.invariant.1 c.round.ensures.time

pub returns-clause-went : goal.returns-clause-went
returns-clause-went g c =
    rounds_end g.C.Content.meaning c.args.self.now c.loop.counter c.args.turns c.args.change c.loop.self (g.D.Disk.state c.args.disk.now) (g.D.Disk.state c.loop.disk) (omega (arith, c.loop-test.false, c.loop.invariant.2)) c.loop.invariant.0

pub returns-clause-journals : goal.returns-clause-journals
returns-clause-journals g c =
    (rounds_end g.C.Content.meaning c.args.self.now c.loop.counter c.args.turns c.args.change c.loop.self (g.D.Disk.state c.args.disk.now) (g.D.Disk.state c.loop.disk) (omega (arith, c.loop-test.false, c.loop.invariant.2)) c.loop.invariant.0).journals

pub returns-clause-time : goal.returns-clause-time
returns-clause-time g c = c.loop.invariant.1

pub returns-clause-exact : goal.returns-clause-exact
returns-clause-exact g c =
    let all : c.loop.counter ≡ c.args.turns = omega (arith, c.loop-test.false, c.loop.invariant.2) in
    let now = c.args.self.now in
    c.loop.invariant.3 ∙ ap (λ n. rounds (g.C.Content.meaning now.content) now.setting n now.state c.args.change) all
