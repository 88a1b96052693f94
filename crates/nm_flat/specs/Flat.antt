-- Flat contents: numbered cells and marks. Cells, edits and their text are this project's own; the default operations
-- follow RFC 6241 section 7.2. The code walks trees; these definitions speak of finite maps.
use Rattle.std.specs.Prelude.{◌≡◌, ℕ, ◌≤◌, ◌^◌, ◌==◌, ◌&&◌, Bool, true, false, not, nat_lt, List, [], ◌∷◌, ◌++◌, map, Option, Some, None, Result, Ok, Err, codes, decimal, find, refl, if◌then◌else◌}
use Rattle.std.specs.List.{flat_map, join_with_byte, list_all}
use Rattle.std.specs.Option.{option_map}
use Rattle.std.specs.Ordering.{nat_cmp}
use Rattle.std.specs.FinMap.{FinMap, get, contains_key, insert, remove, retain_keys, empty, entries, keys, len, code}
use Rattle.std.specs.Coded.{Coded, code_by, coded×, coded_ℕ}
use base.Stored.{coded_unit}
use Rattle.nm_base.specs.Decimal.{number_of}
use Rattle.nm_base.specs.declared.tag.Tag.TheVariants.{InvalidValue, DataMissing}
use Rattle.nm_flat.specs.declared.flat.FlatNode.{FlatNode}
use Rattle.nm_proto.specs.declared.message.DefaultOperation.{DefaultOperation}
use Rattle.nm_proto.specs.declared.message.DefaultOperation.TheVariants.{Merge, Replace, Nothing}
use Rattle.nm_proto.specs.declared.message.Marks.{Marks}
use Rattle.nm_proto.specs.Content.{Refusal, is_taken}

-- a configuration: the values of cells, and the marks of change sets
pub record FlatState : Type 0 where
  pub cells : FinMap nat_cmp ℕ
  pub marks : FinMap nat_cmp (Unit {0})

-- how a proof tells flat configurations apart: by their cells and their marks
abbrev pub flat_code : Coded FlatState
flat_code = code_by (FinMap nat_cmp ℕ × FinMap nat_cmp (Unit {0})) (coded× (code coded_ℕ coded_ℕ) (code coded_ℕ coded_unit))
    (λ s. (s.cells, s.marks)) (λ p. record { cells = p.0; marks = p.1 }) (λ _. refl)

-- the marks of a configuration are numbers of change sets
abbrev pub MarksInRange : FinMap nat_cmp (Unit {0}) → Type 0
MarksInRange marks = (n : ℕ) → contains_key marks n ≡ true → (1 ≤ n) × (n ≤ 64)

-- what an edit says of one key: its new value, or None to take the cell away
abbrev pub changed : FinMap nat_cmp ℕ → ℕ → Option ℕ → FinMap nat_cmp ℕ
changed cells key None = remove cells key
changed cells key (Some value) = insert cells key value

-- the same for each key of an edit
abbrev pub all_changed : FinMap nat_cmp ℕ → List (ℕ × Option ℕ) → FinMap nat_cmp ℕ
all_changed cells [] = cells
all_changed cells (e ∷ es) = all_changed (changed cells e.0 e.1) es

-- the value of a key after an edit: what the edit says of it, and else the old one. `all_changed` gives it at each key
abbrev pub value_after : Option (Option ℕ) → Option ℕ → Option ℕ
value_after None old = old
value_after (Some change) old = change

-- the least key that an edit names and the cells lack
abbrev pub least_absent : FinMap nat_cmp ℕ → FinMap nat_cmp (Option ℕ) → Option ℕ
least_absent cells edit = option_map (λ e. e.0) (find (λ e. not (contains_key cells e.0)) (entries edit))

-- the cells as they are, or a refusal at a key that is absent
abbrev pub kept_unless : FinMap nat_cmp ℕ → Option ℕ → Result (FinMap nat_cmp ℕ) Refusal
kept_unless cells None = Ok cells
kept_unless cells (Some key) = Err (record { tag = DataMissing; path = decimal key })

-- the cells after an edit. Merge applies it; replace does so after all cells went; nothing asks that each key is
-- present, and else changes nothing (RFC 6241 section 7.2)
abbrev pub cells_edited : FinMap nat_cmp ℕ → FinMap nat_cmp (Option ℕ) → DefaultOperation → Result (FinMap nat_cmp ℕ) Refusal
cells_edited cells edit Merge = Ok (all_changed cells (entries edit))
cells_edited cells edit Replace = Ok (all_changed empty (entries edit))
cells_edited cells edit Nothing = kept_unless cells (least_absent cells edit)

-- the marks after an edit: those of `remove` go, then `add` comes
abbrev pub marked : FinMap nat_cmp (Unit {0}) → Option Marks → FinMap nat_cmp (Unit {0})
marked old None = old
marked old (Some marks) = insert (retain_keys old (λ n. not (is_taken marks n))) marks.add tt

-- a configuration of cells that were edited and of these marks; the refusal where the cells were refused
abbrev pub with_marks : Result (FinMap nat_cmp ℕ) Refusal → FinMap nat_cmp (Unit {0}) → Result FlatState Refusal
with_marks (Ok cells) marks = Ok (record { cells = cells; marks = marks })
with_marks (Err refusal) marks = Err refusal

-- the configuration after an edit: cells first, then marks
abbrev pub flat_edited : FlatState → FinMap nat_cmp (Option ℕ) → DefaultOperation → Option Marks → Result FlatState Refusal
flat_edited config edit operation marks = with_marks (cells_edited config.cells edit operation) (marked config.marks marks)

-- the greatest value of a cell is 1,000,000: the violation at the least key above it
abbrev pub flat_violation : FlatState → Option Refusal
flat_violation config = option_map (λ e. record { tag = InvalidValue; path = decimal e.0 }) (find (λ e. nat_lt 1000000 e.1) (entries config.cells))

-- ---- nodes

-- a node is one key, below 2^32
abbrev pub node_at : Option ℕ → Option FlatNode
node_at None = None
node_at (Some key) = if nat_lt key (2 ^ 32) then Some (record { 0 = key }) else None

-- the node that a text spells, in decimal
abbrev pub flat_found : List ℕ → Option FlatNode
flat_found text = node_at (number_of text)

-- a node exists where its cell does
abbrev pub flat_exists : FlatState → FlatNode → Bool
flat_exists config node = contains_key config.cells node.0

-- nothing lies below a cell
abbrev pub flat_overlaps : FlatNode → FlatNode → Bool
flat_overlaps one other = one.0 == other.0

-- the cell of a node by itself
abbrev pub flat_part : FlatState → FlatNode → FlatState
flat_part config node = record { cells = changed empty node.0 (get config.cells node.0); marks = empty }

-- two cells hold the same value, or neither holds one
abbrev pub same_cell : Option ℕ → Option ℕ → Bool
same_cell None None = true
same_cell None (Some value) = false
same_cell (Some value) None = false
same_cell (Some value) (Some other) = value == other

-- a cell is the same in two configurations
abbrev pub flat_same_at : FlatState → FlatState → FlatNode → Bool
flat_same_at one other node = same_cell (get one.cells node.0) (get other.cells node.0)

-- each mark of the one is a mark of the other
abbrev pub has_marks_of : FinMap nat_cmp (Unit {0}) → FinMap nat_cmp (Unit {0}) → Bool
has_marks_of other one = list_all (contains_key other) (keys one)

-- two configurations have the same marks
abbrev pub flat_same_marks : FlatState → FlatState → Bool
flat_same_marks one other = has_marks_of other.marks one.marks && has_marks_of one.marks other.marks

-- the mark of change set n is in a configuration
abbrev pub flat_has_mark : FlatState → ℕ → Bool
flat_has_mark config n = contains_key config.marks n

-- a row is a cell
abbrev pub flat_rows : FlatState → ℕ
flat_rows config = len config.cells

-- one cell in the text, `"7":2,`
abbrev pub cell_text : ℕ × ℕ → List ℕ
cell_text e = codes "\"" ++ decimal e.0 ++ codes "\":" ++ decimal e.1 ++ codes ","

-- an object with the keys in ascending number, and last the member `marks` with the marks ascending
abbrev pub flat_text : FlatState → List ℕ
flat_text config =
    codes "{" ++ flat_map cell_text (entries config.cells) ++ codes "\"marks\":[" ++ join_with_byte 44 (map decimal (keys config.marks)) ++ codes "]}"
