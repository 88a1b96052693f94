-- What a call keeps of a journal and of its disk.
use Rattle.nm_disk.specs.Image.{DiskState}
use Rattle.nm_disk.specs.Keeps.{KeepsDisk}
use Rattle.nm_journal.specs.Fits.{JournalState, Fits}

-- the journal fits the disk after the call, and the disk is kept (this project's own)
pub record KeepsJournal (journal : JournalState) (old new : DiskState) : Type 0 where
  pub fits : Fits journal new
  pub disk : KeepsDisk old new
