-- What is told of the journal that a disk holds.
use Rattle.std.proofs.Common.{ℕ, List, Option, Result, Ok, Err, IfOk, sym, subst}
use Rattle.nm_proto.specs.declared.journal.Entry.{Entry}
use Rattle.nm_journal.specs.Fits.{OfImage, ReadsAs, IsDamagedAt}
use Rattle.nm_console.specs.declared.status.Status.{Status}
use Rattle.nm_console.specs.declared.said.Said.{Said}
use Rattle.nm_console.specs.declared.journal.JournalStop.{JournalStop}
use Rattle.nm_console.specs.Console.{Tells, TellsJournal, damaged, journalled, listed}

-- the text of what its bytes read as
pub read_tells : (told : Option (List ℕ)) (entries : List Entry) (status : Status) (text : List ℕ) → OfImage told (ReadsAs entries) → Tells (listed entries) status text
    → OfImage told (λ image. TellsJournal image status text)
read_tells told entries status text of tells = record {
  image = of.image;
  stored = of.stored;
  holds = subst (λ read. Tells (journalled read) status text) (sym of.holds) tells;
}

-- or the offset at which they are damaged
pub damaged_tells : (told : Option (List ℕ)) (offset : ℕ) (status : Status) (text : List ℕ) → OfImage told (IsDamagedAt offset) → Tells (damaged offset) status text
    → OfImage told (λ image. TellsJournal image status text)
damaged_tells told offset status text of tells = record {
  image = of.image;
  stored = of.stored;
  holds = subst (λ read. Tells (journalled read) status text) (sym of.holds) tells;
}

-- the same of an answer, where there is one
pub damaged_told : (told : Option (List ℕ)) (offset : ℕ) (result : Result Said JournalStop) → OfImage told (IsDamagedAt offset)
    → IfOk result (λ said. Tells (damaged offset) said.status said.text.items) → IfOk result (λ said. OfImage told (λ image. TellsJournal image said.status said.text.items))
damaged_told told offset (Ok said) of tells = damaged_tells told offset said.status said.text.items of tells
damaged_told told offset (Err stop) of tells = tt

pub ruleset journals = (read_tells, damaged_tells)
