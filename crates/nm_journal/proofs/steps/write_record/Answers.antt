use Rattle.std.proofs.Common.{inl, length}
use Rattle.nm_journal.specs.Fits.{ReadsWithOrWithout}
use Rattle.nm_disk.specs.Moments.{and_then, weaker}
use Rattle.nm_journal.proofs.Told.{some_told}
use Rattle.nm_journal.proofs.Append.{on_ok_two, within, first_torn, first_done, second_torn, second_done, written_both, has_length_push}
use Rattle.nm_journal.proofs.steps.write_record.Goals as goal

pub write_and_sync-requires : goal.write_and_sync-requires
write_and_sync-requires g c =
    let disk = g.D.Disk.state c.args.disk.now in
    within disk.contents c.args.entries.now (λ bytes tells. c.requires.fits (some_told disk.contents bytes tells) bytes (g.met.D.Disk.as_read c.args.disk.now bytes tells))

-- the first write leaves the entries as they were
pub returns-in_err-write_and_sync-clause-any_moment : goal.returns-in_err-write_and_sync-clause-any_moment
returns-in_err-write_and_sync-clause-any_moment g c = λ some.
    let disk = g.D.Disk.state c.args.disk.now in
    weaker disk (g.D.Disk.state c.write_and_sync.new.disk) _ (ReadsWithOrWithout c.args.entries.now c.args.entry.now)
    (λ image torn. inl (first_torn disk c.args.entries.now (length c.block_of.result) (c.requires.fits some) image torn).reads) (c.write_and_sync.ensures.any_moment some)

-- the second leaves them with the new entry or without
pub returns-clause-any_moment : goal.returns-clause-any_moment
returns-clause-any_moment g c = λ some.
    let disk = g.D.Disk.state c.args.disk.now in
    let mid = g.D.Disk.state c.write_and_sync.new.disk in
    let new = g.D.Disk.state c.write_and_sync-2.new.disk in
    let entries = c.args.entries.now in
    let entry = c.args.entry.now in
    let P = ReadsWithOrWithout entries entry in
    let first = weaker disk mid _ P
    (λ image torn. inl (first_torn disk entries (length c.block_of.result) (c.requires.fits some) image torn).reads) (c.write_and_sync.ensures.any_moment some) in
    let staging = first_done disk.contents mid entries entry c.block_of.result (λ bytes tells. c.requires.fits some bytes (g.met.D.Disk.as_read c.args.disk.now bytes tells))
    c.block_of.ensures.block c.in_ok-write_and_sync.ensures.written c.in_ok-write_and_sync.ensures.durable some in
    let second = weaker mid new _ P
    (second_torn entries entry mid c.requires.may.follows c.block_of.ensures.read_back staging) (c.write_and_sync-2.ensures.any_moment (some_told mid.contents staging.bytes staging.tells)) in
    and_then disk mid new P first second

pub returns-clause-added : goal.returns-clause-added
returns-clause-added g c =
    let disk = g.D.Disk.state c.args.disk.now in
    let mid = g.D.Disk.state c.write_and_sync.new.disk in
    let new = g.D.Disk.state c.write_and_sync-2.new.disk in
    let entries = c.args.entries.now in
    let entry = c.args.entry.now in
    on_ok_two c.write_and_sync-2.result
    (λ written durable some image left.
    let staging = first_done disk.contents mid entries entry c.block_of.result (λ bytes tells. c.requires.fits some bytes (g.met.D.Disk.as_read c.args.disk.now bytes tells))
    c.block_of.ensures.block c.in_ok-write_and_sync.ensures.written c.in_ok-write_and_sync.ensures.durable some in
    second_done entries entry mid new c.requires.may.follows c.block_of.ensures.read_back staging written durable image left)
    c.write_and_sync-2.ensures.written c.write_and_sync-2.ensures.durable

pub returns-clause-written : goal.returns-clause-written
returns-clause-written g c =
    let disk = g.D.Disk.state c.args.disk.now in
    let fits = within disk.contents c.args.entries.now (λ bytes tells. c.requires.fits (some_told disk.contents bytes tells) bytes (g.met.D.Disk.as_read c.args.disk.now bytes tells)) in
    on_ok_two c.write_and_sync-2.result
    (λ written again. written_both disk.contents (g.D.Disk.state c.write_and_sync.new.disk).contents (g.D.Disk.state c.write_and_sync-2.new.disk).contents c.args.entries.now c.args.entry.now c.block_of.result c.block_of.ensures.block fits c.in_ok-write_and_sync.ensures.written written)
    c.write_and_sync-2.ensures.written c.write_and_sync-2.ensures.written

pub returns-clause-length : goal.returns-clause-length
returns-clause-length g c =
    on_ok_two c.write_and_sync-2.result
    (λ written again has. has_length_push (g.D.Disk.state c.args.disk.now).contents (g.D.Disk.state c.write_and_sync-2.new.disk).contents c.args.entries.now c.args.entry.now written has)
    (returns-clause-written g c) (returns-clause-written g c)
