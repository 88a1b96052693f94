-- What a crash leaves while a journal is reopened.
use Rattle.std.proofs.Common.{◌≡◌, inl, inr, ◌⊎◌, ℕ, List, Option, Some, None, sym, subst}
use Rattle.std.specs.Option.{IsSome, IfSome}
use Rattle.nm_disk.specs.Image.{DiskState, AnyMoment}
use Rattle.nm_proto.specs.declared.journal.Entry.{Entry}
use Rattle.nm_journal.specs.Fits.{ReadsAs, WasThereOrReadsAs, IsRead}
use Rattle.nm_journal.specs.declared.fault.JournalFault.{JournalFault}
use Rattle.nm_journal.specs.declared.fault.JournalFault.TheVariants.{Damaged, DiskFault, NoMemory}
use Rattle.nm_disk.specs.Moments.{and_then, weaker}
use Rattle.nm_journal.proofs.Told.{if_told, if_told_weaker, some_told}

-- the reading alone
pub while_read : (old mid : DiskState) → (IsSome old.contents → AnyMoment old mid old.crash_images) → IfSome old.contents (λ bytes. AnyMoment old mid (WasThereOrReadsAs old bytes))
while_read old mid reading =
    if_told old.contents _ (λ some. at_bytes old.contents (reading some))
  where
    at_bytes : (o : Option (List ℕ)) → AnyMoment old mid old.crash_images → IfSome o (λ bytes. AnyMoment old mid (WasThereOrReadsAs old bytes))
    at_bytes None run = tt
    at_bytes (Some bytes) run = weaker old mid old.crash_images (WasThereOrReadsAs old bytes) (λ image was. inl was) run

-- the reading, and the closing
pub while_closed : (old mid new : DiskState) (entries : List Entry) (size : ℕ) → IfSome old.contents (IsRead entries size mid) → (IsSome old.contents → AnyMoment old mid old.crash_images) → mid.contents ≡ old.contents
    → (IsSome mid.contents → AnyMoment mid new (ReadsAs entries)) → IfSome old.contents (λ bytes. AnyMoment old new (WasThereOrReadsAs old bytes))
while_closed old mid new entries size is_read reading same closing =
    if_told_weaker old.contents (IsRead entries size mid) (λ bytes. AnyMoment old new (WasThereOrReadsAs old bytes))
    (λ bytes tells read.
    let some : IsSome old.contents = some_told old.contents bytes tells in
    let P = WasThereOrReadsAs old bytes in
    and_then old mid new P
    (weaker old mid old.crash_images P (λ image was. inl was) (reading some))
    (weaker mid new (ReadsAs entries) P (λ image reads. inr (entries, read.reads, reads)) (closing (subst IsSome (sym same) some))))
    is_read

-- a fault of the reading is none of want of memory
pub not_memory : (fault : JournalFault) → (fault ≡ DiskFault) ⊎ ((offset : ℕ) × (fault ≡ Damaged offset)) → fault ≡ NoMemory → ⊥
not_memory fault (inl disk) memory = cc
not_memory fault (inr damaged) memory = let is = damaged.1 in cc
