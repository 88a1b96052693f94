-- Texts that stand beside a number in the words of a picture (this project's own).
use Rattle.std.specs.Prelude.{ℕ, List, codes}
use Rattle.nm_picture_words.specs.declared.phrase.Phrase.{Phrase}
use Rattle.nm_picture_words.specs.declared.phrase.Phrase.TheVariants as phrase

-- the text of each
unfoldable pub phrase_text : Phrase → List ℕ
phrase_text phrase.ReleasePart = codes "release partial lock "
phrase_text phrase.LookFor = codes "look for the mark of change set "
phrase_text phrase.Kill = codes "kill session "
phrase_text phrase.Session = codes "session "
phrase_text phrase.PartialLock = codes "partial lock "
phrase_text phrase.TheLink = codes "the link to device "
phrase_text phrase.Broke = codes " broke"
phrase_text phrase.PendingAt = codes "the pending commit of device "
phrase_text phrase.Lapsed = codes " lapsed"
phrase_text phrase.Link = codes "link to device "
phrase_text phrase.Broken = codes " broken"
phrase_text phrase.ChangeSet = codes "change set "
phrase_text phrase.Forgotten = codes " forgotten, and read from the journal"
phrase_text phrase.OperatorSession = codes "session of operator "
phrase_text phrase.Lost = codes " lost"
phrase_text phrase.Device = codes "device "
phrase_text phrase.Refused = codes " refused: "
