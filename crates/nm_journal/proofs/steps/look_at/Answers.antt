use Rattle.std.proofs.Common.{◌≡◌, Ok, Err, List, ℕ, length, take, sym, ◌∙◌, ap}
use Rattle.nm_journal.specs.Entries.{entries_of}
use Rattle.nm_journal.specs.Fits.{ReadsAs, IsDamagedAt}
use Rattle.nm_journal.proofs.Told.{if_told_weaker, of_image}
use Rattle.nm_journal.proofs.Front.{front_read}
use Rattle.nm_journal.proofs.steps.look_at.Goals as goal

pub returns-in-Ok-read_into-clause-read : goal.returns-in-Ok-read_into-clause-read
returns-in-Ok-read_into-clause-read g c =
    if_told_weaker (g.D.Disk.state c.args.disk.now).contents _ _ (λ bytes tells front.
    front_read bytes c.read_some.new.into c.in-Ok.sizes.1 (length c.args.bytes.now) (Ok c.read_into.new.entries.items) c.requires.piece front c.in-Ok-read_into.ensures.entries)
    c.in-Ok.ensures.front

pub returns-in-Err-read_into-clause-damaged : goal.returns-in-Err-read_into-clause-damaged
returns-in-Err-read_into-clause-damaged g c = λ offset is.
    let same : c.in-Err-read_into.offset ≡ offset = cc in
    if_told_weaker (g.D.Disk.state c.args.disk.now).contents _ _ (λ bytes tells front.
    front_read bytes c.read_some.new.into c.in-Ok.sizes.1 (length c.args.bytes.now) (Err offset) c.requires.piece front (c.in-Err-read_into.ensures.damaged ∙ ap Err same))
    c.in-Ok.ensures.front

pub returns-in-Ok-read_into-clause-read_some : goal.returns-in-Ok-read_into-clause-read_some
returns-in-Ok-read_into-clause-read_some g c =
    of_image (g.D.Disk.state c.args.disk.now).contents (ReadsAs c.read_into.new.entries.items) (take c.in-Ok.sizes.1 c.read_some.new.into)
    c.in-Ok-read_into.ensures.entries
    (if_told_weaker (g.D.Disk.state c.args.disk.now).contents _ _ (λ bytes tells front.
    front_read bytes c.read_some.new.into c.in-Ok.sizes.1 (length c.args.bytes.now) (Ok c.read_into.new.entries.items) c.requires.piece front c.in-Ok-read_into.ensures.entries)
    c.in-Ok.ensures.front)

pub returns-in-Err-read_into-clause-damaged_some : goal.returns-in-Err-read_into-clause-damaged_some
returns-in-Err-read_into-clause-damaged_some g c = λ offset is.
    let same : c.in-Err-read_into.offset ≡ offset = cc in
    of_image (g.D.Disk.state c.args.disk.now).contents (IsDamagedAt offset) (take c.in-Ok.sizes.1 c.read_some.new.into)
    (c.in-Err-read_into.ensures.damaged ∙ ap Err same)
    (if_told_weaker (g.D.Disk.state c.args.disk.now).contents _ _ (λ bytes tells front.
    front_read bytes c.read_some.new.into c.in-Ok.sizes.1 (length c.args.bytes.now) (Err offset) c.requires.piece front (c.in-Err-read_into.ensures.damaged ∙ ap Err same))
    c.in-Ok.ensures.front)
