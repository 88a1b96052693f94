use Rattle.std.proofs.Common.{◌∙◌, rules}
use Rattle.nm_world.proofs.Passing.{rose_since}
use Rattle.nm_console.proofs.Led.{rest_done, rest_others, rest_reached, rest_straight, ran_left, ran_reached, rest_left}
use Rattle.nm_console.proofs.replay.lead.Goals as goal

pub returns-in_err-last-clause-read : goal.returns-in_err-last-clause-read
returns-in_err-last-clause-read g c = λ calm offset is. c.in_err-last.ensures.read calm offset (search (rules, is))

pub returns-in_err-last-clause-sound : goal.returns-in_err-last-clause-sound
returns-in_err-last-clause-sound g c = λ there offset is. c.in_err-last.ensures.sound there c.requires.straight c.requires.known offset (search (rules, is))

pub returns-in_err-last-clause-any_moment : goal.returns-in_err-last-clause-any_moment
returns-in_err-last-clause-any_moment g c = λ there.
    ran_left g.C.Content.meaning c.args.world c.args.world c.args.events.now c.args.drain (g.D.Disk.state c.args.disk.now) (g.D.Disk.state c.run.new.disk)
    (c.run.ensures.any_moment there c.requires.straight)

pub returns-then-drain-clause-done : goal.returns-then-drain-clause-done
returns-then-drain-clause-done g c =
    rest_done g.C.Content.meaning c.args.world c.in_ok-last.last c.args.events.now c.args.drain c.drain.result c.if-drain.true c.in_ok-last.ensures.others c.in_ok-last.ensures.done c.drain.ensures.done c.drain.ensures.straight

pub returns-then-drain-clause-others : goal.returns-then-drain-clause-others
returns-then-drain-clause-others g c =
    rest_others g.C.Content.meaning c.args.world c.in_ok-last.last c.args.events.now c.drain.result c.in_ok-last.ensures.others c.drain.ensures.others

pub returns-then-drain-clause-reached : goal.returns-then-drain-clause-reached
returns-then-drain-clause-reached g c =
    rest_reached g.C.Content.meaning c.args.world c.in_ok-last.last c.args.events.now c.args.drain c.drain.result c.if-drain.true c.in_ok-last.ensures.others c.in_ok-last.ensures.reached c.drain.ensures.reached

pub returns-then-drain-clause-straight : goal.returns-then-drain-clause-straight
returns-then-drain-clause-straight g c = λ there.
    rest_straight g.C.Content.meaning c.args.world c.in_ok-last.last c.args.events.now c.drain.result (c.in_ok-last.ensures.straight there ∙ c.requires.straight) c.drain.ensures.straight

pub returns-then-drain-clause-calm : goal.returns-then-drain-clause-calm
returns-then-drain-clause-calm g c = λ calm.
    rest_straight g.C.Content.meaning c.args.world c.in_ok-last.last c.args.events.now c.drain.result (c.in_ok-last.ensures.calm calm ∙ c.requires.straight) c.drain.ensures.straight

pub returns-then-drain-clause-disk_fault : goal.returns-then-drain-clause-disk_fault
returns-then-drain-clause-disk_fault g c = λ is.
    rose_since (g.D.Disk.state c.args.disk.now).faults (g.D.Disk.state c.run.new.disk).faults (g.D.Disk.state c.drain.new.disk).faults c.run.ensures.keeps.count (c.drain.ensures.disk_fault is)

pub returns-then-drain-clause-any_moment : goal.returns-then-drain-clause-any_moment
returns-then-drain-clause-any_moment g c = λ there.
    let straight = c.in_ok-last.ensures.straight there ∙ c.requires.straight in
    rest_left g.C.Content.meaning c.args.world c.in_ok-last.last c.args.events.now c.args.drain (g.D.Disk.state c.args.disk.now) (g.D.Disk.state c.run.new.disk) (g.D.Disk.state c.drain.new.disk)
    c.if-drain.true (c.in_ok-last.ensures.done straight) (c.run.ensures.any_moment there c.requires.straight)
    (c.drain.ensures.any_moment (c.run.ensures.keeps.tells ∙ there) straight)

pub returns-else-drain-clause-reached : goal.returns-else-drain-clause-reached
returns-else-drain-clause-reached g c =
    ran_reached g.C.Content.meaning c.args.world c.in_ok-last.last c.args.events.now c.args.drain c.if-drain.false c.in_ok-last.ensures.reached

pub returns-else-drain-clause-calm : goal.returns-else-drain-clause-calm
returns-else-drain-clause-calm g c = λ calm. c.in_ok-last.ensures.calm calm ∙ c.requires.straight

pub returns-else-drain-clause-any_moment : goal.returns-else-drain-clause-any_moment
returns-else-drain-clause-any_moment g c = λ there.
    ran_left g.C.Content.meaning c.args.world c.args.world c.args.events.now c.args.drain (g.D.Disk.state c.args.disk.now) (g.D.Disk.state c.run.new.disk)
    (c.run.ensures.any_moment there c.requires.straight)
