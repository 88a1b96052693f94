use Rattle.std.proofs.Common.{sym, subst}
use Rattle.nm_disk.specs.Image.{ImageStep, IsPerhapsCut}
use Rattle.nm_disk.specs.Memory.{memory_state}
use Rattle.nm_disk.specs.Any.{any_state}
use Rattle.nm_disk.proofs.any.AnyDiskDisk.cut.Goals as goal

pub returns-in-Memory-clause-crash : goal.returns-in-Memory-clause-crash
returns-in-Memory-clause-crash g c = λ some. subst (λ disk. ImageStep (IsPerhapsCut c.args.to) (any_state disk) (memory_state c.cut.new.self)) (sym c.in-Memory.is) c.cut.ensures.crash
