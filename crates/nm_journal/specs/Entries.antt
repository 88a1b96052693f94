-- The entries that the bytes of a journal stand for (this project's own format).
use Rattle.std.specs.Prelude.{◌≡◌, ℕ, ◌*◌, Bool, true, false, ◌&&◌, ◌||◌, ◌==◌, not, nat_lt, nat_eq, List, [], ◌∷◌, ◌++◌, length, take, drop, Option, Some, None, Result, Ok, Err, if◌then◌else◌, slice_index, bit_and}
use Rattle.std.specs.List.{list_any}
use Rattle.std.proofs.Common.{zero, suc}
use Rattle.nm_base.specs.Mask.{mask_contains}
use Rattle.nm_base.specs.Tag.{tag_number}
use Rattle.nm_proto.specs.declared.journal.AbortCause.TheVariants.{Refused, Broken, Forgotten, Lapsed}
use Rattle.nm_proto.specs.declared.journal.Verdict.{Verdict}
use Rattle.nm_proto.specs.declared.journal.Verdict.TheVariants.{Commit, Abort}
use Rattle.nm_proto.specs.declared.journal.Entry.{Entry}
use Rattle.nm_proto.specs.declared.journal.Entry.TheVariants.{Started, Decided, Ended}
use Rattle.nm_journal.specs.Record.{entry_of, is_change, is_device}

-- an entry starts a change set
abbrev pub starts : ℕ → Entry → Bool
starts change (Started other devices timeout) = nat_eq change other
starts change (Decided other verdict) = false
starts change (Ended other kept) = false

-- an entry decides a change set
abbrev pub decides : ℕ → Entry → Bool
decides change (Started other devices timeout) = false
decides change (Decided other verdict) = nat_eq change other
decides change (Ended other kept) = false

-- an entry decides that a change set is aborted
abbrev pub aborts : ℕ → Entry → Bool
aborts change (Decided other (Abort cause)) = nat_eq change other
aborts change (Decided other Commit) = false
aborts change (Started other devices timeout) = false
aborts change (Ended other kept) = false

-- an entry ends a change set
abbrev pub ends : ℕ → Entry → Bool
ends change (Started other devices timeout) = false
ends change (Decided other verdict) = false
ends change (Ended other kept) = nat_eq change other

-- the device that a verdict names, where it names one, is in a set of devices
abbrev pub has_named : ℕ → Verdict → Bool
has_named devices Commit = true
has_named devices (Abort (Refused device tag)) = mask_contains devices device
has_named devices (Abort (Broken device)) = mask_contains devices device
has_named devices (Abort Forgotten) = true
has_named devices (Abort (Lapsed device)) = mask_contains devices device

-- the devices of one set are all in another
unfoldable pub is_within : ℕ → ℕ → Bool
is_within some devices = bit_and some devices == some

-- an entry starts a change set whose devices have the one that a verdict names
abbrev pub starts_with : ℕ → Verdict → Entry → Bool
starts_with change verdict (Started other devices timeout) = nat_eq change other && has_named devices.0 verdict
starts_with change verdict (Decided other decided) = false
starts_with change verdict (Ended other kept) = false

-- an entry starts a change set whose devices have all these
abbrev pub starts_over : ℕ → ℕ → Entry → Bool
starts_over change kept (Started other devices timeout) = nat_eq change other && is_within kept devices.0
starts_over change kept (Decided other verdict) = false
starts_over change kept (Ended other others) = false

-- a verdict has a record: a device is from 1 to 32, and a tag is one of those numbered 1 to 8
abbrev pub verdict_has_record : Verdict → Bool
verdict_has_record Commit = true
verdict_has_record (Abort (Refused device tag)) = is_device device && nat_lt (tag_number tag) 9
verdict_has_record (Abort (Broken device)) = is_device device
verdict_has_record (Abort Forgotten) = true
verdict_has_record (Abort (Lapsed device)) = is_device device

-- an entry has a record: its change set is from 1 to 64, a change set that starts has some device, and the verdict has one
abbrev pub has_record : Entry → Bool
has_record (Started change devices timeout) = is_change change && not (devices.0 == 0)
has_record (Decided change verdict) = is_change change && verdict_has_record verdict
has_record (Ended change kept) = is_change change

-- an entry may come next after these: a change set is started once; decided once, after it was started, naming devices
-- of its own; and ended once, after it was decided, with devices of its own kept, and none after an abort
abbrev pub comes_next : List Entry → Entry → Bool
comes_next before (Started change devices timeout) = not (list_any (starts change) before)
comes_next before (Decided change verdict) = list_any (starts_with change verdict) before && not (list_any (decides change) before)
comes_next before (Ended change kept) = list_any (starts_over change kept.0) before && list_any (decides change) before
    && not (list_any (ends change) before) && (kept.0 == 0 || not (list_any (aborts change) before))

-- an entry has a record and may come next
abbrev pub may_follow : List Entry → Entry → Bool
may_follow before entry = has_record entry && comes_next before entry

-- the same, as a fact
abbrev pub MayFollow : List Entry → Entry → Type 0
MayFollow before entry = may_follow before entry ≡ true

-- an entry that starts a change set has a timeout of at least a second, as a record of version 2 has
abbrev pub is_timed : Entry → Bool
is_timed (Started change devices None) = false
is_timed (Started change devices (Some seconds)) = nat_lt 0 seconds
is_timed (Decided change verdict) = true
is_timed (Ended change kept) = true

-- an entry may be appended to these: it may follow, and is timed
pub record MayAppend (before : List Entry) (entry : Entry) : Type 0 where
  pub follows : MayFollow before entry
  pub timed : is_timed entry ≡ true

-- each of the later entries may follow those before it
abbrev pub follow_on : List Entry → List Entry → Bool
follow_on before [] = true
follow_on before (entry ∷ later) = may_follow before entry && follow_on (before ++ entry ∷ []) later

-- each entry may follow those before it
abbrev pub IsInOrder : List Entry → Type 0
IsInOrder entries = follow_on [] entries ≡ true

-- the list ends where these bytes begin: fewer than 17 stand from here on, or the gate is closed
abbrev pub ends_here : List ℕ → Bool
ends_here bytes = nat_lt (length bytes) 17 || slice_index bytes 0 == 0

-- an entry, where it may come next
abbrev pub if_follows : List Entry → Option Entry → Option Entry
if_follows before None = None
if_follows before (Some entry) = if may_follow before entry then Some entry else None

-- the entry of the open record where these bytes begin, where it has one that may come next
abbrev pub next_entry : List Entry → List ℕ → Option Entry
next_entry before bytes = if_follows before (entry_of (take 15 (drop 1 bytes)))

-- what comes of the next entry, or the offset of its record where there is none
abbrev pub or_damaged : List Entry → Option Entry → (Entry → Result (List Entry) ℕ) → Result (List Entry) ℕ
or_damaged before None go_on = Err (16 * length before)
or_damaged before (Some entry) go_on = go_on entry

-- the entries of at most so many records, from the one where these bytes begin, behind those before it; or the offset
-- of an open record that has no entry, or one that may not come next
abbrev pub entries_from : ℕ → List Entry → List ℕ → Result (List Entry) ℕ
entries_from zero before bytes = Ok before
entries_from (suc more) before bytes = if ends_here bytes then Ok before else or_damaged before (next_entry before bytes)
    (λ entry. entries_from more (before ++ entry ∷ []) (drop 16 bytes))

-- the entries that the bytes of a journal stand for, or the offset at which they are damaged
abbrev pub entries_of : List ℕ → Result (List Entry) ℕ
entries_of bytes = entries_from (length bytes) [] bytes
