-- What the trait of disks asks of a disk in memory.
use Rattle.std.specs.Prelude.{◌≡◌, ◌≤◌, ℕ, List, [], ◌∷◌, length, Some}
use Rattle.std.proofs.Common.{inl, inr, arith}
use Rattle.nm_disk.specs.Memory.{bytes_after, IsCrashImage, MightHaveLeft, MemoryState}
use Rattle.nm_disk.specs.declared.memory.Call.{Call}

-- the disk as it reads is one of its images
pub reads_image : (disk : MemoryState) (bytes : List ℕ) → Some (bytes_after disk.calls) ≡ Some bytes → IsCrashImage disk.calls bytes
reads_image disk bytes told = let same : bytes ≡ bytes_after disk.calls = cc in inl same

-- what a crash may leave now it might have left since an earlier moment
pub image_now : (calls : List Call) (since : ℕ) (image : List ℕ) → since ≤ length calls → IsCrashImage calls image → MightHaveLeft calls since image
image_now [] since image le now = (le, now)
image_now (call ∷ earlier) since image le now = inl (le, now)

-- a moment since which an image might have been left isn't later than now
pub not_before : (calls : List Call) (since : ℕ) (image : List ℕ) → MightHaveLeft calls since image → since ≤ length calls
not_before [] since image left = left.0
not_before (call ∷ earlier) since image (inl now) = now.0
not_before (call ∷ earlier) since image (inr before) = let le = not_before earlier since image before in omega arith

-- since now there was no other moment
pub image_only_now : (calls : List Call) (image : List ℕ) → MightHaveLeft calls (length calls) image → IsCrashImage calls image
image_only_now [] image left = left.1
image_only_now (call ∷ earlier) image (inl now) = now.1
image_only_now (call ∷ earlier) image (inr before) = let le = not_before earlier (length (call ∷ earlier)) image before in absurd (omega arith)
