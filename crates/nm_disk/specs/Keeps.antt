-- What a call keeps of its disk, for the layers above.
use Rattle.std.specs.Prelude.{◌≡◌, ◌≤◌, is_some, refl}
use Rattle.std.proofs.Common.{◌∙◌, arith}
use Rattle.nm_disk.specs.Image.{DiskState}

-- the disk tells its bytes, or doesn't, as before; and its count of faults never falls (this project's own)
pub record KeepsDisk (old new : DiskState) : Type 0 where
  pub tells : is_some new.contents ≡ is_some old.contents
  pub count : old.faults ≤ new.faults

-- no call
pub keeps_itself : (disk : DiskState) → KeepsDisk disk disk
keeps_itself disk = record { tells = refl; count = omega arith }

-- one call after another
pub keeps_then : (old mid new : DiskState) → KeepsDisk old mid → KeepsDisk mid new → KeepsDisk old new
keeps_then old mid new first second = record { tells = second.tells ∙ first.tells; count = omega (arith, first.count, second.count) }
