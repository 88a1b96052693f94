-- What a disk may hold of a journal (this project's own).
use Rattle.std.specs.Prelude.{◌≡◌, ◌⊎◌, ℕ, ◌*◌, ◌+◌, ◌<◌, List, [], ◌∷◌, ◌++◌, length, take, Option, Some, None, IsSome, IfSome, Ok, Err, slice_index}
use Rattle.nm_disk.specs.Image.{DiskState, IsTorn, LeavesOnly}
use Rattle.nm_proto.specs.declared.journal.Entry.{Entry}
use Rattle.nm_journal.specs.Entries.{entries_of}

-- a journal: its entries, and the entry that it was to append when its disk failed, where it is stopped
pub record JournalState : Type 0 where
  pub entries : List Entry
  pub failed : Option Entry

-- bytes that read as these entries, with a closed gate after them
pub record EndsAtGate (entries : List Entry) (bytes : List ℕ) : Type 0 where
  pub reads : entries_of bytes ≡ Ok entries
  pub there : 16 * length entries < length bytes
  pub closed : slice_index bytes (16 * length entries) ≡ 0

-- bytes that read as these entries, or as these with one more
abbrev pub ReadsWithOrWithout : List Entry → Entry → List ℕ → Type 0
ReadsWithOrWithout entries entry bytes = (entries_of bytes ≡ Ok entries) ⊎ (entries_of bytes ≡ Ok (entries ++ entry ∷ []))

-- what an image of a disk that a journal fits holds
abbrev pub IsImageOf : Option Entry → List Entry → List ℕ → Type 0
IsImageOf None entries image = EndsAtGate entries image
IsImageOf (Some entry) entries image = ReadsWithOrWithout entries entry image

-- a journal fits each disk that doesn't tell its bytes, and one that tells them where each of its images holds the
-- journal's entries with a closed gate after them, or those and perhaps the entry at which it stopped
abbrev pub Fits : JournalState → DiskState → Type 0
Fits journal disk = IsSome disk.contents → (image : List ℕ) → disk.crash_images image → IsImageOf journal.failed journal.entries image

-- an image that a write of n bytes may leave of those that a crash might have left before
abbrev pub MayTear : DiskState → ℕ → ℕ → List ℕ → Type 0
MayTear before at n image = (old : List ℕ) × before.crash_images old × IsTorn at n old image

-- bytes that read as these entries
abbrev pub ReadsAs : List Entry → List ℕ → Type 0
ReadsAs entries bytes = entries_of bytes ≡ Ok entries

-- what a crash leaves while a journal is reopened over these bytes: an image that was there, or one that reads as they do
-- where they read as a list
abbrev pub WasThereOrReadsAs : DiskState → List ℕ → List ℕ → Type 0
WasThereOrReadsAs before bytes image = before.crash_images image ⊎ ((entries : List Entry) × ReadsAs entries bytes × ReadsAs entries image)

-- what was read of a disk after a sync: so many bytes, which read as these entries, and a crash leaves no others
pub record IsRead (entries : List Entry) (size : ℕ) (disk : DiskState) (bytes : List ℕ) : Type 0 where
  pub size_is : size ≡ length bytes
  pub reads : ReadsAs entries bytes
  pub only : LeavesOnly bytes disk

-- the records of so many entries as they stand in these bytes, and a closed gate behind them
abbrev pub closed_behind : List Entry → List ℕ → List ℕ
closed_behind entries bytes = take (16 * length entries) bytes ++ 0 ∷ []

-- where a disk tells its bytes, they are the records of as many entries and a gate behind them
abbrev pub HasLength : Option (List ℕ) → List Entry → Type 0
HasLength contents entries = IfSome contents (λ bytes. length bytes ≡ 16 * length entries + 1)

-- some bytes of which P holds, those that a disk tells where it tells them
pub record OfImage (contents : Option (List ℕ)) (P : List ℕ → Type 0) : Type 0 where
  pub image : List ℕ
  pub stored : IfSome contents (λ bytes. bytes ≡ image)
  pub holds : P image

-- bytes that are damaged at an offset
abbrev pub IsDamagedAt : ℕ → List ℕ → Type 0
IsDamagedAt offset bytes = entries_of bytes ≡ Err offset
