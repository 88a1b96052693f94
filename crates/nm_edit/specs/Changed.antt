-- What an edit changes of a configuration (RFC 6241 section 7.2).
use Rattle.std.specs.Prelude.{◌≡◌, nat_lt, List, [], Option, Some, None, Result, Ok, Err, if◌then◌else◌}
use Rattle.std.specs.FinMap.{len, entries}
use Rattle.nm_base.specs.declared.tag.Tag.TheVariants.{ResourceDenied}
use Rattle.nm_proto.specs.Content.{Refusal}
use Rattle.nm_proto.specs.declared.message.DefaultOperation.{DefaultOperation}
use Rattle.nm_schema_tree.specs.Nodes.{SchemaTree}
use Rattle.nm_config.specs.Rows.{Rows}
use Rattle.nm_json.specs.Whole.{row_limit}
use Rattle.nm_edit.specs.declared.edit.EditNode.{EditNode}
use Rattle.nm_edit.specs.declared.fault.EditFault.{EditFault}
use Rattle.nm_edit.specs.declared.fault.EditFault.TheVariants.{Refused, NoMemory}
use Rattle.nm_edit.specs.Edited.{RowMoves, moved, limited, edited_rows}
use Rattle.nm_overlay.specs.Differences.{Changes, differences}
use Rattle.nm_overlay.specs.Places.{Pair}
use Rattle.nm_edit.specs.declared.change.Outcome.{Outcome}

-- the differences of rows from those that were there, or the refusal
abbrev pub changed : Rows → Result Rows Refusal → Result Changes Refusal
changed old (Ok rows) = Ok (differences old rows)
changed old (Err refusal) = Err refusal

-- what an edit changes: at each path at which the configuration that it makes differs from the one that is there, what stands there then; or its refusal
abbrev pub changes_of : SchemaTree → Rows → List EditNode → DefaultOperation → Result Changes Refusal
changes_of t old nodes d = changed old (edited_rows t old nodes d)

-- changes in path order
abbrev pub in_order : Result Changes Refusal → Result (List Pair) Refusal
in_order (Ok changes) = Ok (entries changes)
in_order (Err refusal) = Err refusal

-- an answer: the changes in path order or the refusal, unless memory ran out
abbrev pub Tells : {A : Type 0} → (A → List Pair) → Result A EditFault → Result Changes Refusal → Type 0
Tells pairs_of (Ok told) given = in_order given ≡ Ok (pairs_of told)
Tells pairs_of (Err (Refused tag path)) given = given ≡ Err (record { tag = tag; path = path })
Tells pairs_of (Err NoMemory) given = Unit {0}

-- rows after an edit of them in place: those that the edit makes; a refusal leaves them as they were, and where memory ran out nothing is told of them
abbrev pub Leaves : Rows → Rows → Result Unit EditFault → Result Rows Refusal → Type 0
Leaves old new (Ok _) given = given ≡ Ok new
Leaves old new (Err (Refused tag path)) given = (given ≡ Err (record { tag = tag; path = path })) × (new ≡ old)
Leaves old new (Err NoMemory) given = Unit {0}

-- the refusal of rows of which there are too many: a configuration has at most 20,000 (this project's own)
abbrev pub too_large : Rows → Option Refusal
too_large rows = if nat_lt row_limit (len rows) then Some (record { tag = ResourceDenied; path = [] }) else None

-- an answer: the moves that make what an edit makes, where that isn't too large, or the refusal, unless memory ran out
abbrev pub Judges : Rows → Result RowMoves EditFault → Result Rows Refusal → Type 0
Judges old (Ok moves) given = given ≡ limited (moved old moves)
Judges old (Err (Refused tag path)) given = given ≡ Err (record { tag = tag; path = path })
Judges old (Err NoMemory) given = Unit {0}

-- an answer: the moves that make what an edit makes and what they change, or the refusal, unless memory ran out
abbrev pub Looks : Rows → Result Outcome EditFault → Result Rows Refusal → Type 0
Looks old (Ok outcome) given = (given ≡ Ok (moved old outcome.moves)) × (outcome.changes.items ≡ entries (differences old (moved old outcome.moves)))
Looks old (Err (Refused tag path)) given = given ≡ Err (record { tag = tag; path = path })
Looks old (Err NoMemory) given = Unit {0}
