use Rattle.std.proofs.Common.{length, sym, subst}
use Rattle.nm_disk.specs.Image.{ImageStep, IsTorn}
use Rattle.nm_disk.specs.Memory.{memory_state}
use Rattle.nm_disk.specs.Any.{any_state}
use Rattle.nm_disk.proofs.any.AnyDiskDisk.write_at.Goals as goal

pub returns-in-Memory-clause-crash : goal.returns-in-Memory-clause-crash
returns-in-Memory-clause-crash g c = λ some. subst (λ disk. ImageStep (IsTorn c.args.at (length c.args.piece.now)) (any_state disk) (memory_state c.write_at.new.self)) (sym c.in-Memory.is) c.write_at.ensures.crash
