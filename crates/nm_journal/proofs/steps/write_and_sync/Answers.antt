use Rattle.std.proofs.Common.{length}
use Rattle.std.specs.Option.{IsSome}
use Rattle.nm_disk.specs.ImageLaws.{torn_same}
use Rattle.nm_journal.specs.Fits.{MayTear}
use Rattle.nm_disk.specs.Moments.{one_call, and_then}
use Rattle.nm_journal.proofs.Told.{told_still}
use Rattle.nm_journal.proofs.steps.write_and_sync.Goals as goal

-- the write
pub returns-in_err-write_at-clause-any_moment : goal.returns-in_err-write_at-clause-any_moment
returns-in_err-write_at-clause-any_moment g c = λ some.
    let disk = g.D.Disk.state c.args.disk.now in
    one_call disk (g.D.Disk.state c.write_at.new.self) (MayTear disk c.args.at (length c.args.piece.now)) (g.met.D.Disk.only_now c.args.disk.now) c.write_at.ensures.time
    (λ image was. (image, was, torn_same c.args.at (length c.args.piece.now) image)) (c.write_at.ensures.crash some)

-- the write and the sync
pub returns-clause-any_moment : goal.returns-clause-any_moment
returns-clause-any_moment g c = λ some.
    let disk = g.D.Disk.state c.args.disk.now in
    let tears = MayTear disk c.args.at (length c.args.piece.now) in
    let still : IsSome (g.D.Disk.state c.write_at.new.self).contents = told_still disk.contents (g.D.Disk.state c.write_at.new.self).contents c.args.at c.args.piece.now c.in_ok-write_at.ensures.written some in
    let written = one_call disk (g.D.Disk.state c.write_at.new.self) tears (g.met.D.Disk.only_now c.args.disk.now) c.write_at.ensures.time
    (λ image was. (image, was, torn_same c.args.at (length c.args.piece.now) image)) (c.write_at.ensures.crash some) in
    let synced = one_call (g.D.Disk.state c.write_at.new.self) (g.D.Disk.state c.sync.new.self) tears (g.met.D.Disk.only_now c.write_at.new.self) c.sync.ensures.time
    (c.write_at.ensures.crash some) (λ image now. c.write_at.ensures.crash some image (c.sync.ensures.crash still image now)) in
    and_then disk (g.D.Disk.state c.write_at.new.self) (g.D.Disk.state c.sync.new.self) tears written synced
