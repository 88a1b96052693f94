-- The marks of change sets: rows of a list in a module that this project adds by itself (this project's own).
use Rattle.std.specs.Prelude.{ℕ, pos, List, [], ◌∷◌, codes, Bool, true, false, not, ◌&&◌, ◌||◌, ◌==◌, Option, Some, None, is_some, Result, Ok, Err, if◌then◌else◌}
use Rattle.std.specs.List.{list_all, list_any, count_by}
use Rattle.std.specs.Str.{bytes_eq}
use Rattle.std.specs.FinMap.{contains_key, insert, retain_keys, keys, entries}
use Rattle.nm_base.specs.Words.{marker_name}
use Rattle.nm_types.specs.Path.{PathStep, Choice, whole, keys as by_keys}
use Rattle.nm_types.specs.declared.value.Value.{Value}
use Rattle.nm_types.specs.declared.value.Value.TheVariants.{Int, Present}
use Rattle.nm_proto.specs.declared.message.Marks.{Marks}
use Rattle.nm_proto.specs.Content.{Refusal, is_taken}
use Rattle.nm_config.specs.Rows.{Rows}
use Rattle.nm_config.specs.Under.{is_whole}
use Rattle.nm_edit.specs.declared.edit.EditNode.{EditNode}

-- ---- the row of a mark

-- the name of the container of the marks
unfoldable pub changes_name : List ℕ
changes_name = codes "changes"

-- the name of the list of the marks
unfoldable pub applied_name : List ℕ
applied_name = codes "applied"

-- container `changes`
abbrev pub changes_step : PathStep
changes_step = record { «module» = marker_name; name = changes_name; chosen = whole }

-- its path, `/netm-marker:changes`: all marks are below it
abbrev pub marks_path : List PathStep
marks_path = changes_step ∷ []

-- the entry of list `applied` with the number of a change set
abbrev pub entry_step : ℕ → PathStep
entry_step n = record { «module» = marker_name; name = applied_name; chosen = by_keys (Int (pos n) ∷ []) }

-- the mark of a change set: `/netm-marker:changes/applied[change='n']`
abbrev pub mark_path : ℕ → List PathStep
mark_path n = changes_step ∷ entry_step n ∷ []

-- the mark of a change set is a row
abbrev pub has_mark : Rows → ℕ → Bool
has_mark rows n = contains_key rows (mark_path n)

-- ---- which paths are marks

-- a step is one of the module that is added
abbrev pub is_of_marker : PathStep → Bool
is_of_marker s = bytes_eq s.«module» marker_name

-- a step to the container of the marks
abbrev pub is_changes : PathStep → Bool
is_changes s = is_of_marker s && bytes_eq s.name changes_name && is_whole s.chosen

-- a step to the list of the marks, or to an entry of it
abbrev pub is_applied : PathStep → Bool
is_applied s = is_of_marker s && bytes_eq s.name applied_name

-- the value that alone is the key of an entry
abbrev pub only_key : Choice → Option Value
only_key (by_keys (value ∷ [])) = Some value
only_key _ = None

-- the key of the mark that two steps lead to, where they lead to one
abbrev pub key_by : PathStep → PathStep → Option Value
key_by s r = if is_changes s && is_applied r then only_key r.chosen else None

-- the only key of the entry of the list of marks that a path leads to
abbrev pub key_at : List PathStep → Option Value
key_at (s ∷ r ∷ []) = key_by s r
key_at _ = None

-- the same for the entry at or below which a path leads
abbrev pub key_over : List PathStep → Option Value
key_over (s ∷ r ∷ more) = key_by s r
key_over _ = None

-- a value is a number that isn't negative
abbrev pub number_in : Value → Option ℕ
number_in (Int (pos n)) = Some n
number_in _ = None

-- the same of a value that may be missing
abbrev pub number_of : Option Value → Option ℕ
number_of None = None
number_of (Some value) = number_in value

-- the number whose mark a path is
abbrev pub mark_at : List PathStep → Option ℕ
mark_at path = number_of (key_at path)

-- the number at or below whose mark a path is
abbrev pub mark_over : List PathStep → Option ℕ
mark_over path = number_of (key_over path)

-- a path is a mark
abbrev pub is_mark : List PathStep → Bool
is_mark path = is_some (mark_at path)

-- it is number n
abbrev pub is_given : ℕ → Option ℕ → Bool
is_given n None = false
is_given n (Some m) = m == n

-- a path is the mark of a number
abbrev pub is_mark_of : ℕ → List PathStep → Bool
is_mark_of n path = is_given n (mark_at path)

-- a path is at or below container `changes`
abbrev pub is_in_marker : List PathStep → Bool
is_in_marker [] = false
is_in_marker (s ∷ ss) = is_changes s

-- an edit names a node at or below container `changes`
abbrev pub names_marks : List EditNode → Bool
names_marks nodes = list_any (λ n. is_in_marker n.path) nodes

-- ---- marks go and come

-- a mark goes: its number is among those that are taken
abbrev pub is_taken_in : Marks → Option ℕ → Bool
is_taken_in marks None = false
is_taken_in marks (Some n) = is_taken marks n

-- a path is at or below a mark that goes
abbrev pub goes_with : Marks → List PathStep → Bool
goes_with marks path = is_taken_in marks (mark_over path)

-- rows without the marks that go
abbrev pub without_marks : Rows → Marks → Rows
without_marks rows marks = retain_keys rows (λ path. not (goes_with marks path))

-- the marks of `remove` go, then the mark of `add` comes
abbrev pub marked : Rows → Option Marks → Rows
marked rows None = rows
marked rows (Some marks) = insert (without_marks rows marks) (mark_path marks.add) Present

-- rows that were made, with marks gone and come; a refusal stays
abbrev pub with_marks : Result Rows Refusal → Option Marks → Result Rows Refusal
with_marks (Ok rows) marks = Ok (marked rows marks)
with_marks (Err refusal) marks = Err refusal

-- ---- marks of two configurations

-- each mark of the one is a mark of the other
abbrev pub has_marks_of : Rows → Rows → Bool
has_marks_of other one = list_all (λ path. not (is_mark path) || contains_key other path) (keys one)

-- two configurations have the same marks
abbrev pub same_marks : Rows → Rows → Bool
same_marks one other = has_marks_of other one && has_marks_of one other

-- ---- what isn't a mark

-- a row stands outside the module of the marks
abbrev pub is_outside : List PathStep → Bool
is_outside [] = true
is_outside (s ∷ ss) = not (is_of_marker s)

-- a row counts as one of the content: it is no mark, nor the container of the marks
abbrev pub is_counted : List PathStep × Value → Bool
is_counted row = is_outside row.0

-- how many rows stand outside the module of the marks
abbrev pub outside_rows : Rows → ℕ
outside_rows rows = count_by is_counted (entries rows)
