-- What the entries of a journal say of each change set (this project's own). Reports, the manager and what is proved of it
-- read a change set's standing from here alone.
use Rattle.std.specs.Prelude.{ℕ, ◌-◌, ◌*◌, ◌%◌, ◌^◌, List, [], ◌∷◌, Bool, ◌&&◌, false, find, fold, bit_or, Option, Some, None, option_and_then, nat_eq, if◌then◌else◌}
use Rattle.std.specs.List.{list_any, flat_map}
use Rattle.nm_base.specs.Mask.{mask_contains}
use Rattle.nm_base.specs.declared.mask.DeviceMask.{DeviceMask}
use Rattle.nm_proto.specs.declared.journal.Verdict.{Verdict}
use Rattle.nm_proto.specs.declared.journal.Entry.{Entry}
use Rattle.nm_proto.specs.declared.journal.Entry.TheVariants.{Started, Decided, Ended}
use Rattle.nm_journal.specs.Entries.{starts, decides, ends}
use Rattle.nm_recovery.specs.declared.found.Found.{Found}

-- the devices that an entry starts a change set for, the verdict that it gives, and the devices that it ends one with
abbrev pub devices_of : Entry → Option DeviceMask
devices_of (Started change devices timeout) = Some devices
devices_of (Decided change verdict) = None
devices_of (Ended change kept) = None

-- the verdict that an entry gives
abbrev pub verdict_of : Entry → Option Verdict
verdict_of (Started change devices timeout) = None
verdict_of (Decided change verdict) = Some verdict
verdict_of (Ended change kept) = None

-- the devices that have kept the change set, where an entry ends it
abbrev pub kept_of : Entry → Option DeviceMask
kept_of (Started change devices timeout) = None
kept_of (Decided change verdict) = None
kept_of (Ended change kept) = Some kept

-- a change set was submitted
abbrev pub is_started : ℕ → List Entry → Bool
is_started change entries = list_any (starts change) entries

-- the devices of a change set, where it was submitted
abbrev pub devices_in : ℕ → List Entry → Option DeviceMask
devices_in change entries = option_and_then devices_of (find (starts change) entries)

-- its verdict, where it was decided
abbrev pub verdict_in : ℕ → List Entry → Option Verdict
verdict_in change entries = option_and_then verdict_of (find (decides change) entries)

-- the manager is done with it
abbrev pub is_ended_in : ℕ → List Entry → Bool
is_ended_in change entries = list_any (ends change) entries

-- the devices that kept it, where the manager is done with it
abbrev pub kept_in : ℕ → List Entry → Option DeviceMask
kept_in change entries = option_and_then kept_of (find (ends change) entries)

-- ---- what is ended on a device

-- an entry starts a change set of a device
abbrev pub starts_on : ℕ → ℕ → Entry → Bool
starts_on device change (Started other devices timeout) = nat_eq change other && mask_contains devices.0 device
starts_on device change (Decided other verdict) = false
starts_on device change (Ended other kept) = false

-- a change set of a device is ended
abbrev pub is_ended_on : ℕ → List Entry → ℕ → Bool
is_ended_on device entries change = list_any (ends change) entries && list_any (starts_on device change) entries

-- a set of change sets with one more
unfoldable pub with_change : ℕ → ℕ → ℕ
with_change mask change = bit_or mask (1 * 2 ^ (change - 1) % 2 ^ 64)

-- a set of change sets with another one, where that is to come
abbrev pub with_if : ℕ → Bool → ℕ → ℕ
with_if mask comes change = if comes then with_change mask change else mask

-- a set of change sets with that of an entry which starts one of a device
abbrev pub with_started : ℕ → ℕ → Entry → ℕ
with_started device mask (Started change devices timeout) = with_if mask (mask_contains devices.0 device) change
with_started device mask (Decided change verdict) = mask
with_started device mask (Ended change kept) = mask

-- the change sets of a device, as a set
abbrev pub started_on : ℕ → List Entry → ℕ
started_on device entries = fold (with_started device) 0 entries

-- a set of change sets with that of an entry which ends one of a set
abbrev pub with_ended : ℕ → ℕ → Entry → ℕ
with_ended on mask (Started change devices timeout) = mask
with_ended on mask (Decided change verdict) = mask
with_ended on mask (Ended change kept) = with_if mask (mask_contains on change) change

-- the change sets of a device that are ended, as a set
abbrev pub ended_on : ℕ → List Entry → ℕ
ended_on device entries = fold (with_ended (started_on device entries)) 0 entries

-- ---- what is recovered

-- what is known of a change set of these devices
abbrev pub found_of : List Entry → ℕ → DeviceMask → Found
found_of entries change devices = record { change = change; devices = devices; verdict = verdict_in change entries; kept = kept_in change entries }

-- the same of the change set that an entry starts
abbrev pub found_by : List Entry → Entry → List Found
found_by entries (Started change devices timeout) = found_of entries change devices ∷ []
found_by entries (Decided change verdict) = []
found_by entries (Ended change kept) = []

-- what is known of each change set that was submitted, in the order in which they were
abbrev pub recovered : List Entry → List Found
recovered entries = flat_map (found_by entries) entries
