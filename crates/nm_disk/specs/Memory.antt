-- A disk in memory: the record of its calls, its bytes and its crash images.
use Rattle.std.specs.Prelude.{◌≡◌, ◌⊎◌, ◌≤◌, ◌+◌, ◌||◌, ℕ, Bool, nat_lt, nat_le, nat_eq, List, [], ◌∷◌, ◌++◌, length, take, drop, replicate, Some, if◌then◌else◌}
use Rattle.std.specs.List.{list_any}
use Rattle.nm_base.specs.Count.{raised}
use Rattle.nm_disk.specs.Image.{DiskState, with_piece, IsTorn, IsCut, IsPerhapsCut}
use Rattle.nm_disk.specs.declared.memory.Call.{Call}
use Rattle.nm_disk.specs.declared.memory.Call.TheVariants.{Asked, Wrote, Tore, Cut, PerhapsCut, Synced}

-- the bytes that a read gives after these calls, of which the newest stands first
abbrev pub bytes_after : List Call → List ℕ
bytes_after [] = []
bytes_after (Asked ∷ earlier) = bytes_after earlier
bytes_after (Wrote at content count ∷ earlier) = with_piece (bytes_after earlier) at (take count content)
bytes_after (Tore at count ∷ earlier) = bytes_after earlier
bytes_after (Cut to ∷ earlier) = take to (bytes_after earlier)
bytes_after (PerhapsCut to ∷ earlier) = bytes_after earlier
bytes_after (Synced ∷ earlier) = bytes_after earlier

-- what a read gave at the last sync, with each write since then torn, and each cut since then done, or done or not done
-- where it failed
abbrev pub IsTornImage : List Call → List ℕ → Type 0
IsTornImage [] image = image ≡ []
IsTornImage (Asked ∷ earlier) image = IsTornImage earlier image
IsTornImage (Wrote at content count ∷ earlier) image = (old : List ℕ) × IsTornImage earlier old × IsTorn at count old image
IsTornImage (Tore at count ∷ earlier) image = (old : List ℕ) × IsTornImage earlier old × IsTorn at count old image
IsTornImage (Cut to ∷ earlier) image = (old : List ℕ) × IsTornImage earlier old × IsCut to old image
IsTornImage (PerhapsCut to ∷ earlier) image = (old : List ℕ) × IsTornImage earlier old × IsPerhapsCut to old image
IsTornImage (Synced ∷ earlier) image = image ≡ bytes_after earlier

-- a crash after these calls may leave this image: the disk as it reads, or one that is torn
abbrev pub IsCrashImage : List Call → List ℕ → Type 0
IsCrashImage calls image = (image ≡ bytes_after calls) ⊎ IsTornImage calls image

-- a crash might have left this image after some number of these calls that is at least the given one
abbrev pub MightHaveLeft : List Call → ℕ → List ℕ → Type 0
MightHaveLeft [] since image = (since ≤ 0) × IsCrashImage [] image
MightHaveLeft (call ∷ earlier) since image = ((since ≤ length (call ∷ earlier)) × IsCrashImage (call ∷ earlier) image) ⊎ MightHaveLeft earlier since image

-- a disk in memory: its calls, the newest first; how many bytes it holds and how many calls it notes, at most; the
-- numbers of the calls that are to fail, from 1; and how many failed
pub record MemoryState : Type 0 where
  pub calls : List Call
  pub limit : ℕ
  pub room : ℕ
  pub failing : List ℕ
  pub faults : ℕ

-- what its callers know of it: the clock counts its calls
abbrev pub memory_state : MemoryState → DiskState
memory_state disk = record {
  contents = Some (bytes_after disk.calls);
  faults = disk.faults;
  crash_images = IsCrashImage disk.calls;
  moment = length disk.calls;
  images_since = MightHaveLeft disk.calls;
}

-- a disk of no bytes and no call
abbrev pub empty_disk : ℕ → ℕ → MemoryState
empty_disk limit room = record { calls = []; limit = limit; room = room; failing = []; faults = 0 }

-- the next call fails: it is past the last that is noted, or it is one of those that are to fail
abbrev pub fails_next : MemoryState → Bool
fails_next disk = nat_le disk.room (length disk.calls) || list_any (nat_eq (length disk.calls + 1)) disk.failing

-- a write fails: the call does, or it has more bytes than a call notes, or it reaches past the limit
abbrev pub fails_write : MemoryState → ℕ → ℕ → Bool
fails_write disk at count = fails_next disk || nat_lt 32 count || nat_lt disk.limit (at + count)

-- one call more, where there is room to note it
abbrev pub noted : MemoryState → Call → MemoryState
noted disk call = if nat_lt (length disk.calls) disk.room then record disk { calls = call ∷ disk.calls } else disk

-- one call more, which failed
abbrev pub failed : MemoryState → Call → MemoryState
failed disk call = record (noted disk call) { faults = raised disk.faults }

-- a write of a piece as it is noted: in the front of 32 bytes
abbrev pub wrote : ℕ → List ℕ → Call
wrote at piece = Wrote at (piece ++ drop (length piece) (replicate 32 0)) (length piece)
