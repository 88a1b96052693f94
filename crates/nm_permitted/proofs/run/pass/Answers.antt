use Rattle.std.proofs.Common.{◌∙◌, ◌^◌, sym, subst, arith}
use Rattle.nm_world.specs.World.{event_step}
use Rattle.nm_world.specs.Runs.{Journals}
use Rattle.nm_world.proofs.Clocks.{time_more, time_stays}
use Rattle.nm_world.proofs.Passing.{did_as, none_did, none_left, ok_then}
use Rattle.nm_permitted.specs.Permitted.{judged_step}
use Rattle.nm_permitted.proofs.Judged.{judged_step_grows}
use Rattle.nm_permitted.proofs.Passes.{denied_leads, denied_same, permitted_leads, permitted_same}
use Rattle.nm_permitted.proofs.run.pass.Goals as goal

-- nobody judged
pub returns-in_default-clause-journals : goal.returns-in_default-clause-journals
returns-in_default-clause-journals g c =
    let now = c.args.world.now in
    let m = g.C.Content.meaning now.content in
    let judge = g.J.Judge.judges c.args.judge.now now.content now.setting in
    none_left now (judged_step m now.setting judge now.state c.args.event.now) (g.D.Disk.state c.args.disk.now) c.requires.ready (g.met.D.Disk.only_now c.args.disk.now)
    (judged_step_grows m now.setting judge now.state c.args.event.now)

-- it is permitted
pub returns-in-None-clause-passed : goal.returns-in-None-clause-passed
returns-in-None-clause-passed g c =
    let now = c.args.world.now in
    let m = g.C.Content.meaning now.content in
    let judge = g.J.Judge.judges c.args.judge.now now.content now.setting in
    let none = sym c.in-Ok.ensures ∙ c.in-None.is in
    ok_then c.step.result c.step.ensures.stepped (λ did.
    did_as (λ w. event_step m now.setting w c.args.event.now) (λ w. judged_step m now.setting judge w c.args.event.now) now c.step.new.self (g.D.Disk.state c.args.disk.now) (g.D.Disk.state c.step.new.disk)
    (permitted_same m now.setting judge now.state c.args.event.now none) did)

pub returns-in-None-clause-leads : goal.returns-in-None-clause-leads
returns-in-None-clause-leads g c =
    let now = c.args.world.now in
    let m = g.C.Content.meaning now.content in
    let judge = g.J.Judge.judges c.args.judge.now now.content now.setting in
    let none = sym c.in-Ok.ensures ∙ c.in-None.is in
    ok_then c.step.result c.step.ensures.leads (λ leads. permitted_leads m now.setting judge now.state c.args.event.now none c.step.new.self.state leads)

pub returns-in-None-clause-journals : goal.returns-in-None-clause-journals
returns-in-None-clause-journals g c =
    let now = c.args.world.now in
    let m = g.C.Content.meaning now.content in
    let judge = g.J.Judge.judges c.args.judge.now now.content now.setting in
    let none = sym c.in-Ok.ensures ∙ c.in-None.is in
    subst (λ w. Journals now.state w (g.D.Disk.state c.args.disk.now) (g.D.Disk.state c.step.new.disk)) (permitted_same m now.setting judge now.state c.args.event.now none) c.step.ensures.journals

-- it is denied
pub returns-in-Some-clause-passed : goal.returns-in-Some-clause-passed
returns-in-Some-clause-passed g c =
    let now = c.args.world.now in
    let m = g.C.Content.meaning now.content in
    let judge = g.J.Judge.judges c.args.judge.now now.content now.setting in
    let some = sym c.in-Ok.ensures ∙ c.in-Some.is in
    ok_then c.tell.result c.tell.ensures.told (λ told.
    did_as (λ w. w) (λ w. judged_step m now.setting judge w c.args.event.now) now now (g.D.Disk.state c.args.disk.now) (g.D.Disk.state c.args.disk.now)
    (sym (denied_same m now.setting judge now.state c.args.event.now c.in-Some.denial some)) (none_did now (g.D.Disk.state c.args.disk.now) c.requires.ready (g.met.D.Disk.only_now c.args.disk.now)))

pub returns-in-Some-clause-leads : goal.returns-in-Some-clause-leads
returns-in-Some-clause-leads g c =
    let now = c.args.world.now in
    let some = sym c.in-Ok.ensures ∙ c.in-Some.is in
    ok_then c.tell.result c.tell.ensures.told (λ told.
    denied_leads (g.C.Content.meaning now.content) now.setting (g.J.Judge.judges c.args.judge.now now.content now.setting) now.state c.args.event.now c.in-Some.denial some)

pub returns-in-Some-clause-journals : goal.returns-in-Some-clause-journals
returns-in-Some-clause-journals g c =
    let now = c.args.world.now in
    let m = g.C.Content.meaning now.content in
    let judge = g.J.Judge.judges c.args.judge.now now.content now.setting in
    none_left now (judged_step m now.setting judge now.state c.args.event.now) (g.D.Disk.state c.args.disk.now) c.requires.ready (g.met.D.Disk.only_now c.args.disk.now)
    (judged_step_grows m now.setting judge now.state c.args.event.now)

pub returns-in-Some-clause-time : goal.returns-in-Some-clause-time
returns-in-Some-clause-time g c =
    let devices = c.args.world.now.state.devices in
    ok_then c.tell.result c.tell.ensures.told (λ told. time_more 0 (2 ^ 32) devices devices (omega arith) (time_stays devices))
