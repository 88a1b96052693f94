use Rattle.std.proofs.Common.{Some, IfOk, sym, subst}
use Rattle.nm_console.specs.Console.{TellsOver}
use Rattle.nm_console.proofs.Replays.{check_over, replays_over}
use Rattle.nm_console.proofs.console.say_bytes.Goals as goal

pub returns-in-Ok-clause-told : goal.returns-in-Ok-clause-told
returns-in-Ok-clause-told g c =
    let said = c.in-Ok.said in
    let stored = (g.D.Disk.state c.args.journal.now).contents in
    subst (λ command. TellsOver (Some command) c.args.bytes.now stored stored said.status said.text.items) (sym c.in-Check.is)
    (check_over c.args.bytes.now stored said.status said.text.items c.in-Ok.ensures.told)

pub returns-in-Replay-clause-told : goal.returns-in-Replay-clause-told
returns-in-Replay-clause-told g c =
    let stored = (g.D.Disk.state c.args.journal.now).contents in
    let after = (g.D.Disk.state c.replay_bytes.new.disk).contents in
    subst (λ command. IfOk c.replay_bytes.result (λ said. TellsOver (Some command) c.args.bytes.now stored after said.status said.text.items)) (sym c.in-Replay.is)
    (replays_over c.args.bytes.now stored after c.replay_bytes.result c.replay_bytes.ensures.told)
