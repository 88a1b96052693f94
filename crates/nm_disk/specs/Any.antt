-- A disk in memory or over a file.
use Rattle.std.specs.Prelude.{◌≡◌, ◌≤◌, ℕ, List, Some}
use Rattle.nm_disk.specs.Image.{DiskState}
use Rattle.nm_disk.specs.Memory.{memory_state}
use Rattle.nm_disk.specs.MemoryLaws.{reads_image, image_now, image_only_now}
use Rattle.nm_disk.specs.File.{file_state}
use Rattle.nm_disk.specs.declared.any.AnyDisk.{AnyDisk}
use Rattle.nm_disk.specs.declared.any.AnyDisk.TheVariants.{Memory, File}

-- what its callers know of it is what they know of the one that it is
abbrev pub any_state : {R F D : Type 0} → AnyDisk R F D → DiskState
any_state (Memory disk) = memory_state disk
any_state (File disk) = file_state disk

-- the disk as it reads is one of its images
pub any_as_read : {R F D : Type 0} (disk : AnyDisk R F D) (bytes : List ℕ) → (any_state disk).contents ≡ Some bytes → (any_state disk).crash_images bytes
any_as_read (Memory disk) bytes told = reads_image disk bytes told
any_as_read (File disk) bytes told = tt

-- this moment is one of those from an earlier one on
pub any_counts_now : {R F D : Type 0} (disk : AnyDisk R F D) (since : ℕ) (image : List ℕ)
    → since ≤ (any_state disk).moment → (any_state disk).crash_images image → (any_state disk).images_since since image
any_counts_now (Memory disk) since image le now = image_now disk.calls since image le now
any_counts_now (File disk) since image le now = tt

-- from this moment on there was no other
pub any_only_now : {R F D : Type 0} (disk : AnyDisk R F D) (image : List ℕ)
    → (any_state disk).images_since (any_state disk).moment image → (any_state disk).crash_images image
any_only_now (Memory disk) image left = image_only_now disk.calls image left
any_only_now (File disk) image left = tt
