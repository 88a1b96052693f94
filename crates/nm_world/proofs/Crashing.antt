-- What is left after a crash.
use Rattle.std.proofs.Common.{◌≡◌, ℕ, List, true, false, Option, Some, None, Result, Err, IsSome, IfSome, inl, inr, refl, sym, ◌∙◌, subst}
use Rattle.nm_disk.specs.Image.{DiskState, AnyMoment}
use Rattle.nm_disk.specs.Moments.{weaker}
use Rattle.nm_proto.specs.declared.journal.Entry.{Entry}
use Rattle.nm_journal.specs.Fits.{JournalState, Fits, ReadsAs, WasThereOrReadsAs}
use Rattle.nm_manager.specs.declared.action.TurnFault.{TurnFault}
use Rattle.nm_world.specs.declared.happened.Happened.{Happened}
use Rattle.nm_world.proofs.Order.{same_list, reads_whole}

pub reads_now : (journal : JournalState) (disk : DiskState) (bytes : List ℕ) → disk.contents ≡ Some bytes → journal.failed ≡ None → Fits journal disk
    → ((bytes : List ℕ) → disk.contents ≡ Some bytes → disk.crash_images bytes) → ReadsAs journal.entries bytes
reads_now journal disk bytes is whole fits as_read = reads_whole journal.failed journal.entries bytes whole (fits (subst IsSome (sym is) refl) bytes (as_read bytes is))

-- a disk that tells its bytes gives back what was written
pub same_read : (journal : JournalState) (disk : DiskState) (now : Option (List ℕ)) (entries : List Entry) → disk.contents ≡ now → journal.failed ≡ None → Fits journal disk
    → ((bytes : List ℕ) → disk.contents ≡ Some bytes → disk.crash_images bytes) → IfSome now (ReadsAs entries) → IsSome now → entries ≡ journal.entries
same_read journal disk None entries is whole fits as_read read there = absurd (let no : false ≡ true = there in cc)
same_read journal disk (Some bytes) entries is whole fits as_read read there =
    same_list entries journal.entries (sym read ∙ reads_now journal disk bytes is whole fits as_read)

image_reads : (journal : JournalState) (disk : DiskState) (bytes image : List ℕ) → disk.contents ≡ Some bytes → journal.failed ≡ None → Fits journal disk
    → ((bytes : List ℕ) → disk.contents ≡ Some bytes → disk.crash_images bytes) → WasThereOrReadsAs disk bytes image → ReadsAs journal.entries image
image_reads journal disk bytes image is whole fits as_read (inl was) = reads_whole journal.failed journal.entries image whole (fits (subst IsSome (sym is) refl) image was)
image_reads journal disk bytes image is whole fits as_read (inr read) =
    subst (λ entries. ReadsAs entries image) (same_list read.0 journal.entries (sym read.1 ∙ reads_now journal disk bytes is whole fits as_read)) read.2

-- a crash within it leaves what was written
pub crash_moment : (journal : JournalState) (old new : DiskState) (now : Option (List ℕ)) → old.contents ≡ now → journal.failed ≡ None → Fits journal old
    → ((bytes : List ℕ) → old.contents ≡ Some bytes → old.crash_images bytes)
    → IfSome now (λ bytes. AnyMoment old new (WasThereOrReadsAs old bytes)) → IsSome now
    → AnyMoment old new (ReadsAs journal.entries)
crash_moment journal old new None is whole fits as_read moments there = absurd (let no : false ≡ true = there in cc)
crash_moment journal old new (Some bytes) is whole fits as_read moments there =
    weaker old new (WasThereOrReadsAs old bytes) (ReadsAs journal.entries)
    (λ image was. image_reads journal old bytes image is whole fits as_read was) moments

abbrev Failed : TurnFault → Result Happened TurnFault
Failed why = Err why

-- why a call failed, told in two ways
pub same_fault : (result : Result Happened TurnFault) (why other : TurnFault) → result ≡ Err why → result ≡ Err other → why ≡ other
same_fault result why other is was = let e : Failed why ≡ Failed other = sym is ∙ was in cc
