use Rattle.std.proofs.Common.{subst, Some}
use Rattle.nm_disk.specs.Image.{AnyMoment}
use Rattle.nm_console.specs.Console.{LeavesSoFarBy, TellsOver}
use Rattle.nm_console.proofs.Crashes.{input_so, not_read}
use Rattle.nm_console.proofs.Saying.{bytes_say}
use Rattle.nm_console.proofs.console.say_input.Goals as goal

pub returns-in-Ok-say_bytes-clause-says : goal.returns-in-Ok-say_bytes-clause-says
returns-in-Ok-say_bytes-clause-says g c =
    let said = c.in-Ok-say_bytes.said in
    let stored = (g.D.Disk.state c.args.journal.now).contents in
    let after = (g.D.Disk.state c.say_bytes.new.journal).contents in
    bytes_say (record { left = g.S.Source.left c.args.input.now; stored = stored; after = after }) c.args.command c.in-Ok.bytes.items said.status said.text.items c.in-Ok.ensures.whole
    (subst (λ b. TellsOver (Some c.args.command) b stored after said.status said.text.items) c.as_slice.ensures.value c.in-Ok-say_bytes.ensures.told)

pub returns-in-Ok-say_bytes-clause-any_moment : goal.returns-in-Ok-say_bytes-clause-any_moment
returns-in-Ok-say_bytes-clause-any_moment g c = λ replays there empty.
    input_so (g.S.Source.left c.args.input.now) c.in-Ok.bytes.items (g.D.Disk.state c.args.journal.now) (g.D.Disk.state c.say_bytes.new.journal) c.in-Ok.ensures.whole
    (subst (λ b. AnyMoment (g.D.Disk.state c.args.journal.now) (g.D.Disk.state c.say_bytes.new.journal) (LeavesSoFarBy b)) c.as_slice.ensures.value (c.say_bytes.ensures.any_moment replays there empty))

pub returns-in-Ok-say_whole_fault-clause-any_moment : goal.returns-in-Ok-say_whole_fault-clause-any_moment
returns-in-Ok-say_whole_fault-clause-any_moment g c = λ replays there empty.
    not_read (g.S.Source.left c.args.input.now) (g.D.Disk.state c.args.journal.now) (g.met.D.Disk.only_now c.args.journal.now) empty

pub returns-in-Err-TooLong-clause-any_moment : goal.returns-in-Err-TooLong-clause-any_moment
returns-in-Err-TooLong-clause-any_moment g c = λ replays there empty.
    not_read (g.S.Source.left c.args.input.now) (g.D.Disk.state c.args.journal.now) (g.met.D.Disk.only_now c.args.journal.now) empty

pub returns-in-Err-ReadFault-clause-any_moment : goal.returns-in-Err-ReadFault-clause-any_moment
returns-in-Err-ReadFault-clause-any_moment g c = λ replays there empty.
    not_read (g.S.Source.left c.args.input.now) (g.D.Disk.state c.args.journal.now) (g.met.D.Disk.only_now c.args.journal.now) empty

pub returns-clause-any_moment : goal.returns-clause-any_moment
returns-clause-any_moment g c = λ replays there empty.
    not_read (g.S.Source.left c.args.input.now) (g.D.Disk.state c.args.journal.now) (g.met.D.Disk.only_now c.args.journal.now) empty
