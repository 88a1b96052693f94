use Rattle.std.proofs.Common.{◌≡◌, ◌+◌, ◌*◌, ◌≤◌, [], ◌∷◌, Some, length, take, sym, ◌∙◌, ap, subst}
use Rattle.nm_disk.specs.Image.{with_piece, contents_with_piece, LeavesOnly}
use Rattle.nm_journal.specs.Fits.{EndsAtGate, ReadsAs, closed_behind}
use Rattle.nm_disk.specs.Moments.{and_then, weaker}
use Rattle.nm_journal.proofs.Told.{told_is_some, told_bytes, if_told, if_told_is, if_told_weaker, holds_if_told}
use Rattle.nm_journal.proofs.Append.{on_ok_two}
use Rattle.nm_journal.proofs.Close.{end_within, cut_image, gate_image, gate_closed, told_closed, closed_size}
use Rattle.nm_journal.proofs.steps.close.Goals as goal

-- the cut
pub returns-in_err-cut_behind-clause-any_moment : goal.returns-in_err-cut_behind-clause-any_moment
returns-in_err-cut_behind-clause-any_moment g c = λ some.
    let disk = g.D.Disk.state c.args.disk.now in
    let entries = c.args.entries.now in
    let told = told_bytes disk.contents _ c.requires.read some in
    weaker disk (g.D.Disk.state c.cut_behind.new.disk) _ (ReadsAs entries) (cut_image entries told.bytes told.holds.reads) (c.cut_behind.ensures.any_moment told.bytes told.tells told.holds.only)

pub write_and_sync-requires : goal.write_and_sync-requires
write_and_sync-requires g c =
    let disk = g.D.Disk.state c.args.disk.now in
    let mid = g.D.Disk.state c.cut_behind.new.disk in
    let entries = c.args.entries.now in
    if_told mid.contents _ (λ some.
    let told = told_bytes disk.contents _ c.requires.read (told_is_some mid.contents disk.contents (sym c.cut_behind.ensures.keeps.tells) some) in
    let cut = holds_if_told disk.contents _ told.bytes told.tells c.in_ok-cut_behind.ensures.done in
    if_told_is mid.contents (λ bytes. 16 * length entries ≤ length bytes) (take (16 * length entries + 1) told.bytes) cut (end_within entries told.bytes told.holds.reads))

-- the cut, and the closed gate
pub returns-clause-any_moment : goal.returns-clause-any_moment
returns-clause-any_moment g c = λ some.
    let disk = g.D.Disk.state c.args.disk.now in
    let mid = g.D.Disk.state c.cut_behind.new.disk in
    let new = g.D.Disk.state c.write_and_sync.new.disk in
    let entries = c.args.entries.now in
    let told = told_bytes disk.contents _ c.requires.read some in
    let first = weaker disk mid _ (ReadsAs entries) (cut_image entries told.bytes told.holds.reads) (c.cut_behind.ensures.any_moment told.bytes told.tells told.holds.only) in
    let only = c.in_ok-cut_behind.ensures.durable told.bytes told.tells told.holds.only in
    let still = told_is_some disk.contents mid.contents c.cut_behind.ensures.keeps.tells some in
    let second = weaker mid new _ (ReadsAs entries) (gate_image entries told.bytes told.holds.reads mid only) (c.write_and_sync.ensures.any_moment still) in
    and_then disk mid new (ReadsAs entries) first second

pub returns-clause-closed : goal.returns-clause-closed
returns-clause-closed g c =
    let disk = g.D.Disk.state c.args.disk.now in
    let mid = g.D.Disk.state c.cut_behind.new.disk in
    let new = g.D.Disk.state c.write_and_sync.new.disk in
    let entries = c.args.entries.now in
    on_ok_two c.write_and_sync.result
    (λ written durable some image left.
    let told = told_bytes disk.contents _ c.requires.read some in
    let cut = holds_if_told disk.contents _ told.bytes told.tells c.in_ok-cut_behind.ensures.done in
    let bytes = with_piece (take (16 * length entries + 1) told.bytes) (16 * length entries) (0 ∷ []) in
    let tells : new.contents ≡ Some bytes = written ∙ ap (λ o. contents_with_piece o (16 * length entries) (0 ∷ [])) cut in
    let is : image ≡ bytes = holds_if_told new.contents (λ b. LeavesOnly b new) bytes tells durable image left in
    subst (EndsAtGate entries) (sym is) (gate_closed entries told.bytes told.holds.reads))
    c.write_and_sync.ensures.written c.write_and_sync.ensures.durable

pub returns-clause-written : goal.returns-clause-written
returns-clause-written g c =
    let old = (g.D.Disk.state c.args.disk.now).contents in
    let mid = (g.D.Disk.state c.cut_behind.new.disk).contents in
    let new = (g.D.Disk.state c.write_and_sync.new.disk).contents in
    let entries = c.args.entries.now in
    on_ok_two c.write_and_sync.result
    (λ written again. if_told_weaker old _ (λ bytes. new ≡ Some (closed_behind entries bytes))
    (λ bytes tells read. told_closed entries bytes read.reads mid new (holds_if_told old _ bytes tells c.in_ok-cut_behind.ensures.done) written) c.requires.read)
    c.write_and_sync.ensures.written c.write_and_sync.ensures.written

pub returns-clause-length : goal.returns-clause-length
returns-clause-length g c =
    let old = (g.D.Disk.state c.args.disk.now).contents in
    let mid = (g.D.Disk.state c.cut_behind.new.disk).contents in
    let new = (g.D.Disk.state c.write_and_sync.new.disk).contents in
    let entries = c.args.entries.now in
    on_ok_two c.write_and_sync.result
    (λ written again. if_told new (λ bytes. length bytes ≡ 16 * length entries + 1) (λ some.
    let was = told_is_some new old (sym (c.write_and_sync.ensures.keeps.tells ∙ c.cut_behind.ensures.keeps.tells)) some in
    let told = told_bytes old _ c.requires.read was in
    let tells = told_closed entries told.bytes told.holds.reads mid new (holds_if_told old _ told.bytes told.tells c.in_ok-cut_behind.ensures.done) written in
    if_told_is new (λ bytes. length bytes ≡ 16 * length entries + 1) (closed_behind entries told.bytes) tells (closed_size entries told.bytes told.holds.reads)))
    c.write_and_sync.ensures.written c.write_and_sync.ensures.written
