-- The text of a journal (this project's own). Each line ends with one newline.
use Rattle.std.specs.Prelude.{ℕ, ◌==◌, List, [], ◌++◌, codes, decimal, if◌then◌else◌}
use Rattle.std.specs.List.{flat_map}
use Rattle.std.proofs.Common.{zero, suc}
use Rattle.nm_base.specs.Mask.{mask_contains}
use Rattle.nm_proto.specs.declared.journal.Entry.{Entry}
use Rattle.nm_proto.specs.declared.journal.Entry.TheVariants.{Started, Decided, Ended}
use Rattle.nm_recovery.specs.Recovery.{is_started}
use Rattle.nm_report.specs.Trace.{timeout_text, verdict_text}
use Rattle.nm_report.specs.Text.{change_line}

-- what each number from 1 to the last one writes, in order
unfoldable pub up_to : (ℕ → List ℕ) → ℕ → List ℕ
up_to text zero = []
up_to text (suc n) = up_to text n ++ text (suc n)

-- a device, where it is one of a set
abbrev pub member_text : ℕ → ℕ → List ℕ
member_text mask device = if mask_contains mask device then codes " " ++ decimal device else []

-- the devices of a set, ascending
unfoldable pub members_text : ℕ → List ℕ
members_text mask = up_to (member_text mask) 32

-- the same, or that there is none
abbrev pub kept_text : ℕ → List ℕ
kept_text mask = if mask == 0 then codes " none" else members_text mask

-- an entry of a journal in words
abbrev pub entry_text : Entry → List ℕ
entry_text (Started change devices timeout) = codes "start " ++ decimal change ++ codes " devices" ++ members_text devices.0 ++ timeout_text timeout
entry_text (Decided change verdict) = codes "decide " ++ decimal change ++ codes " " ++ verdict_text verdict
entry_text (Ended change kept) = codes "end " ++ decimal change ++ codes " kept" ++ kept_text kept.0

-- an entry of a journal as a line
abbrev pub entry_line : Entry → List ℕ
entry_line entry = entry_text entry ++ codes "\n"

-- the line of a change set, where it was submitted
abbrev pub line_if_started : List Entry → ℕ → List ℕ
line_if_started entries change = if is_started change entries then change_line change entries else []

-- a line for each entry, and then one for each change set that was submitted, ascending
unfoldable pub journal_text : List Entry → List ℕ
journal_text entries = codes "netm journal 1\n" ++ flat_map entry_line entries ++ up_to (line_if_started entries) 64
