use Rattle.std.proofs.Common.{inr, [], refl}
use Rattle.nm_disk.specs.Moments.{and_then, weaker}
use Rattle.nm_journal.specs.Fits.{WasThereOrReadsAs}
use Rattle.nm_journal.proofs.Close.{gate_image}
use Rattle.nm_journal.proofs.Told.{told_is_some}
use Rattle.nm_journal.proofs.steps.begin_anew.Goals as goal

-- the taking, and the closed gate
pub returns-clause-any_moment : goal.returns-clause-any_moment
returns-clause-any_moment g c = λ some.
    let disk = g.D.Disk.state c.args.disk.now in
    let mid = g.D.Disk.state c.take_all.new.disk in
    let new = g.D.Disk.state c.write_and_sync.new.disk in
    let left = WasThereOrReadsAs disk [] in
    let still = told_is_some disk.contents mid.contents c.take_all.ensures.keeps.tells some in
    let gate = gate_image [] [] refl mid (c.in_ok-take_all.ensures.durable some) in
    and_then disk mid new left (c.take_all.ensures.any_moment some)
    (weaker mid new _ left (λ image torn. inr ([], refl, gate image torn)) (c.write_and_sync.ensures.any_moment still))
