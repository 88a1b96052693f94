-- When nothing of a run is left to do (this project's own).
use Rattle.std.specs.Prelude.{◌≡◌, ◌≤◌, ℕ, ◌*◌, ◌&&◌, Bool, true, false, List, length, is_some}
use Rattle.std.specs.List.{All, list_all, list_any}
use Rattle.nm_base.specs.Token.{token_of}
use Rattle.nm_proto.specs.declared.journal.Entry.{Entry}
use Rattle.nm_history.specs.declared.event.Noted.{Noted}
use Rattle.nm_history.specs.Outcome.{outcome_of, is_pending}
use Rattle.nm_journal.specs.Entries.{starts, decides, ends}
use Rattle.nm_slots.specs.Slot.{SlotView}

-- the coordinator has decided
abbrev pub has_verdict : SlotView → Bool
has_verdict slot = is_some slot.shares.verdict

-- a change set is started, decided and ended in a journal
abbrev pub is_whole_in : List Entry → ℕ → Bool
is_whole_in entries change = list_any (starts change) entries && list_any (decides change) entries && list_any (ends change) entries

-- none of so many commits waits at the device with this history to be confirmed
abbrev pub IsSettled : ℕ → List Noted → Type 0
IsSettled count history = (change : ℕ) → 1 ≤ change → change ≤ count → is_pending (outcome_of (token_of change) history) ≡ false

-- each of so many change sets is started, decided and ended in a journal
abbrev pub AreWhole : List Entry → ℕ → Type 0
AreWhole entries count = (change : ℕ) → 1 ≤ change → change ≤ count → is_whole_in entries change ≡ true

-- all of so many change sets are decided, none of their commits waits at a device to be confirmed, and the journal has the
-- start, the verdict and the end of each, and nothing else
pub record IsFinished (count : ℕ) (histories : List (List Noted)) (slots : List SlotView) (entries : List Entry) : Type 0 where
  pub decided : list_all has_verdict slots ≡ true
  pub settled : All (IsSettled count) histories
  pub whole : AreWhole entries count
  pub no_more : length entries ≡ 3 * count
