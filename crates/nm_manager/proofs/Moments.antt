-- What a crash leaves where nothing is written.
use Rattle.std.proofs.Common.{◌≡◌, inl, ℕ, List, Option, Some, None, IsSome, arith}
use Rattle.nm_proto.specs.declared.journal.Entry.{Entry}
use Rattle.nm_disk.specs.Image.{DiskState, AnyMoment}
use Rattle.nm_journal.specs.Fits.{JournalState, Fits, IsImageOf, ReadsAs}
use Rattle.nm_manager.specs.Manager.{MayRead}

-- no call
pub still : (disk : DiskState) (P : List ℕ → Type 0) → ((image : List ℕ) → disk.images_since disk.moment image → disk.crash_images image)
    → ((image : List ℕ) → disk.crash_images image → P image) → AnyMoment disk disk P
still disk P only is = record {
  later = omega arith;
  each = λ image left. is image (only image left);
  before = λ start image le left. inl left;
}

reads_whole : (failed : Option Entry) (entries : List Entry) (image : List ℕ) → failed ≡ None → IsImageOf failed entries image → ReadsAs entries image
reads_whole None entries image h is = is.reads
reads_whole (Some entry) entries image h is = absurd (let e : Some entry ≡ None = h in cc)

may_read_same : (entries : List Entry) (entry : Option Entry) (image : List ℕ) → ReadsAs entries image → MayRead entries entry image
may_read_same entries None image h = h
may_read_same entries (Some entry) image h = inl h

-- a journal that isn't stopped, and nothing is written
pub still_reads : (journal : JournalState) (disk : DiskState) (entry : Option Entry) → journal.failed ≡ None → Fits journal disk
    → ((image : List ℕ) → disk.images_since disk.moment image → disk.crash_images image) → IsSome disk.contents
    → AnyMoment disk disk (MayRead journal.entries entry)
still_reads journal disk entry whole fits only there =
    still disk (MayRead journal.entries entry) only
    (λ image left. may_read_same journal.entries entry image (reads_whole journal.failed journal.entries image whole (fits there image left)))
