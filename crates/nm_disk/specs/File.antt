-- A file as a disk.
use Rattle.std.specs.Prelude.{ℕ, Bool, List, None, if◌then◌else◌}
use Rattle.nm_base.specs.Count.{raised}
use Rattle.nm_disk.specs.Image.{DiskState}

-- the path of the file, and how many of its calls failed (this project's own)
pub record FileState : Type 0 where
  pub path : List ℕ
  pub faults : ℕ

-- one call more, which answered Ok or failed (this project's own)
abbrev pub after_call : FileState → Bool → FileState
after_call file ok = if ok then file else record file { faults = raised file.faults }

-- what its callers know of it: its faults alone
abbrev pub file_state : FileState → DiskState
file_state file = record { contents = None; faults = file.faults; crash_images = λ _. Unit {0}; moment = 0; images_since = λ _ _. Unit {0} }
