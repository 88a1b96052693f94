-- A record of the journal (this project's own format): a gate byte, and 15 bytes that stand for an entry. Records are written
-- in version 2, and read in version 1 too.
use Rattle.std.specs.Prelude.{ℕ, ◌+◌, Bool, ◌&&◌, ◌||◌, ◌==◌, not, nat_lt, nat_eq, List, [], ◌∷◌, ◌++◌, drop, Option, Some, None, option_map, if◌then◌else◌, slice_index}
use Rattle.std.specs.Int.{to_be_bytes, from_be_bytes}
use Rattle.std.specs.List.{list_all}
use Rattle.std.specs.Int.{w32}
use Rattle.nm_base.specs.Tag.{tag_number, tag_of}
use Rattle.nm_proto.specs.declared.journal.AbortCause.TheVariants.{Refused, Broken, Forgotten, Lapsed}
use Rattle.nm_proto.specs.declared.journal.Verdict.{Verdict}
use Rattle.nm_proto.specs.declared.journal.Verdict.TheVariants.{Commit, Abort}
use Rattle.nm_proto.specs.declared.journal.Entry.{Entry}
use Rattle.nm_proto.specs.declared.journal.Entry.TheVariants.{Started, Decided, Ended}

-- bytes 6 to 9 of the record of a decision: the verdict, the device, the tag, and 0
abbrev pub verdict_bytes : Verdict → List ℕ
verdict_bytes Commit = 1 ∷ 0 ∷ 0 ∷ 0 ∷ []
verdict_bytes (Abort (Refused device tag)) = 2 ∷ device ∷ tag_number tag ∷ 0 ∷ []
verdict_bytes (Abort (Broken device)) = 3 ∷ device ∷ 0 ∷ 0 ∷ []
verdict_bytes (Abort Forgotten) = 4 ∷ 0 ∷ 0 ∷ 0 ∷ []
verdict_bytes (Abort (Lapsed device)) = 5 ∷ device ∷ 0 ∷ 0 ∷ []

-- the seconds of a timeout, where there is one
abbrev pub seconds_of : Option ℕ → ℕ
seconds_of None = 0
seconds_of (Some seconds) = seconds

-- the 15 bytes after the gate, in version 2: the kind, the number of the change set, four bytes by the kind, the version,
-- and four bytes for the timeout of a change set that starts; the others are zeros
abbrev pub record_of : Entry → List ℕ
record_of (Started change devices timeout) =
    1 ∷ to_be_bytes w32 change ++ to_be_bytes w32 devices.0 ++ 2 ∷ to_be_bytes w32 (seconds_of timeout) ++ 0 ∷ []
record_of (Decided change verdict) = 2 ∷ to_be_bytes w32 change ++ verdict_bytes verdict ++ 2 ∷ 0 ∷ 0 ∷ 0 ∷ 0 ∷ 0 ∷ []
record_of (Ended change kept) = 3 ∷ to_be_bytes w32 change ++ to_be_bytes w32 kept.0 ++ 2 ∷ 0 ∷ 0 ∷ 0 ∷ 0 ∷ 0 ∷ []

-- what an appending writes over the closed gate behind the records: an open gate, the record, and a closed gate
abbrev pub open_record : Entry → List ℕ
open_record entry = 1 ∷ record_of entry ++ 0 ∷ []

-- a change set's number is from 1 to 64
abbrev pub is_change : ℕ → Bool
is_change number = nat_lt 0 number && nat_lt number 65

-- a device's number is from 1 to 32
abbrev pub is_device : ℕ → Bool
is_device number = nat_lt 0 number && nat_lt number 33

-- the number that four bytes spell, big-endian, from a place on
abbrev pub number_at : List ℕ → ℕ → ℕ
number_at bytes place =
    from_be_bytes w32 (slice_index bytes place ∷ slice_index bytes (place + 1) ∷ slice_index bytes (place + 2) ∷ slice_index bytes (place + 3) ∷ [])

-- the abort after a refusal: a tag in a record is numbered 1 to 8
abbrev pub refused_of : ℕ → ℕ → Option Verdict
refused_of device tag =
    if is_device device && nat_lt tag 9 then option_map (λ known. Abort (Refused device known)) (tag_of tag)
    else None

-- the verdict that four bytes stand for in a record of a version: the fifth kind is of version 2 alone
abbrev pub verdict_of : ℕ → ℕ → ℕ → ℕ → ℕ → Option Verdict
verdict_of version kind device tag last =
    if not (last == 0) then None
    else (if kind == 1 && device == 0 && tag == 0 then Some Commit
    else (if kind == 2 then refused_of device tag
    else (if kind == 3 && is_device device && tag == 0 then Some (Abort (Broken device))
    else (if kind == 4 && device == 0 && tag == 0 then Some (Abort Forgotten)
    else (if kind == 5 && version == 2 && is_device device && tag == 0 then Some (Abort (Lapsed device))
    else None)))))

-- the same of the last ten bytes of a record: the four bytes, and the version
abbrev pub verdict_at : List ℕ → Option Verdict
verdict_at rest = verdict_of (slice_index rest 4) (slice_index rest 0) (slice_index rest 1) (slice_index rest 2) (slice_index rest 3)

-- the last six bytes of a record name its version, version 1 as 0, and are else zeros
abbrev pub names_version : List ℕ → Bool
names_version last = (slice_index last 0 == 0 || slice_index last 0 == 2) && list_all (nat_eq 0) (drop 1 last)

-- the timeout that the last six bytes of the record of a change set that starts stand for: none in version 1, and one of at
-- least a second in version 2
abbrev pub timeout_of : List ℕ → Option (Option ℕ)
timeout_of last =
    if slice_index last 0 == 0 && list_all (nat_eq 0) (drop 1 last) then Some None
    else (if slice_index last 0 == 2 && not (number_at last 1 == 0) && slice_index last 5 == 0 then Some (Some (number_at last 1))
    else None)

-- a change set that starts: the devices, and the last six bytes
abbrev pub started_of : ℕ → ℕ → List ℕ → Option Entry
started_of change devices last = if devices == 0 then None else option_map (Started change (record { 0 = devices })) (timeout_of last)

-- one that is decided: the last ten bytes
abbrev pub decided_of : ℕ → List ℕ → Option Entry
decided_of change rest =
    if names_version (drop 4 rest) then option_map (Decided change) (verdict_at rest)
    else None

-- one that is ended: the devices that kept it, and the last six bytes
abbrev pub ended_of : ℕ → ℕ → List ℕ → Option Entry
ended_of change kept last = if names_version last then Some (Ended change (record { 0 = kept })) else None

-- the entry that the 15 bytes after a gate stand for, in version 1 or 2
abbrev pub entry_of : List ℕ → Option Entry
entry_of bytes =
    if not (is_change (number_at bytes 1)) then None
    else (if slice_index bytes 0 == 1 then started_of (number_at bytes 1) (number_at bytes 5) (drop 9 bytes)
    else (if slice_index bytes 0 == 2 then decided_of (number_at bytes 1) (drop 5 bytes)
    else (if slice_index bytes 0 == 3 then ended_of (number_at bytes 1) (number_at bytes 5) (drop 9 bytes)
    else None)))
