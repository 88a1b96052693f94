-- What has been changed since an edit was done, of all that taking it back looks at (this project's own).
use Rattle.std.specs.Prelude.{◌≡◌, List, [], ◌∷◌, ◌++◌, Bool, true, false, ◌&&◌, ◌||◌, Option, Some, None, is_some, map as each, if◌then◌else◌}
use Rattle.std.specs.List.{list_any, flat_map}
use Rattle.std.specs.Ordering.{is_gt}
use Rattle.std.specs.FinMap.{get}
use Rattle.nm_types.specs.Path.{PathStep, path_cmp}
use Rattle.nm_types.specs.declared.value.Value.{Value}
use Rattle.nm_proto.specs.declared.message.DefaultOperation.TheVariants as unsaid
use Rattle.nm_schema_tree.specs.Nodes.{SchemaTree}
use Rattle.nm_path.specs.Spelling.{node_of}
use Rattle.nm_config.specs.Rows.{Rows}
use Rattle.nm_validate_rules.specs.Standing.{is_own_at}
use Rattle.nm_validate_rules.specs.Values.{is_same_path}
use Rattle.nm_validate_rules.specs.Violation.{lesser}
use Rattle.nm_overlay.specs.Differences.{differs}
use Rattle.nm_overlay.specs.Places.{Pair, gone_at}
use Rattle.nm_edit.specs.declared.act.Act.{Act}
use Rattle.nm_edit.specs.Acts.{acts, coming}
use Rattle.nm_edit.specs.Edited.{gone, ousted}
use Rattle.nm_edit.specs.Laws.{last_at, goes}
use Rattle.nm_edit.specs.Said.{gone_below}
use Rattle.nm_undo.specs.Inverse.{Undoing}

-- a path is that of one of some rows
abbrev pub is_among : List Pair → List PathStep → Bool
is_among rows path = list_any (λ row. is_same_path path row.0) rows

-- a path is that of a list entry or of a container with presence that acts merge
abbrev pub is_brought : SchemaTree → List Act → List PathStep → Bool
is_brought t done path = is_own_at t.nodes (node_of t path) && is_some (last_at (coming done) path)

-- a path is at or below a node that acts remove, or one of another case of a choice in one of whose cases they merge a row
abbrev pub is_taken : SchemaTree → List Act → List PathStep → Bool
is_taken t done path = goes (gone done ++ ousted t (coming done)) path

-- taking an edit back looks at a path: the edit changed the row there, or acts that take it back merge it above others, or take it away
abbrev pub looks_at : SchemaTree → Undoing → List Act → List PathStep → Bool
looks_at t undoing done path = is_among undoing.rows path || (is_brought t done path || is_taken t done path)

-- what taking an edit back does
abbrev pub acts_of : Undoing → List Act
acts_of undoing = acts undoing.nodes unsaid.Merge

-- what stood at a path once the edit was done isn't what stands there now, and taking the edit back looks at the path
abbrev pub is_changed : SchemaTree → Undoing → Rows → Rows → List PathStep → Bool
is_changed t undoing made now path = looks_at t undoing (acts_of undoing) path && differs (get made path) (get now path)

-- a path passes a test, and none before it does
pub record IsFirst (test : List PathStep → Bool) (path : List PathStep) : Type 0 where
  pub passes : test path ≡ true
  pub least : (other : List PathStep) → test other ≡ true → is_gt (path_cmp path other) ≡ false

-- nothing passes a test
abbrev pub IsNever : (List PathStep → Bool) → Type 0
IsNever test = (path : List PathStep) → test path ≡ false

-- the first path that passes a test, and None where none does
abbrev pub IsFirstOf : (List PathStep → Bool) → Option (List PathStep) → Type 0
IsFirstOf test None = IsNever test
IsFirstOf test (Some path) = IsFirst test path

-- ---- what is gone through

-- a path, of which nothing is said
abbrev pub path_alone : Pair → Pair
path_alone row = gone_at row.0

-- the path of a row that is merged, where it is that of a list entry or of a container with presence
abbrev pub own_alone : SchemaTree → List PathStep × Value → List Pair
own_alone t row = if is_own_at t.nodes (node_of t row.0) then gone_at row.0 ∷ [] else []

-- the paths that taking an edit back looks at and at which a row stood or stands: those of the rows that the edit changed, those of
-- list entries and containers with presence that are merged, and those of rows at or below nodes that are taken away
abbrev pub paths_by : SchemaTree → List Pair → List (List PathStep × Value) → Rows → Rows → List (List PathStep) → List Pair
paths_by t rows comes made now taken =
    each path_alone rows ++ flat_map (own_alone t) comes ++ flat_map (gone_below made) taken ++ flat_map (gone_below now) taken

-- these are such paths, where each node that is taken away may be named once
pub record HasPaths (t : SchemaTree) (rows : List Pair) (taken : List (List PathStep)) (comes : List (List PathStep × Value)) (made now : Rows) (paths : List Pair) : Type 0 where
  pub nodes : List (List PathStep)
  pub once : (path : List PathStep) → goes nodes path ≡ goes taken path
  pub all : paths ≡ paths_by t rows comes made now nodes

-- the same for all that taking an edit back does
abbrev pub ArePaths : SchemaTree → Undoing → Rows → Rows → List Pair → Type 0
ArePaths t undoing made now paths =
    HasPaths t undoing.rows (gone (acts_of undoing) ++ ousted t (coming (acts_of undoing))) (coming (acts_of undoing)) made now paths

-- what stood at a path isn't what stands there
abbrev pub differs_at : Rows → Rows → List PathStep → Bool
differs_at made now path = differs (get made path) (get now path)

-- the lesser of two paths in their order, if there was one before
abbrev pub lesser_of : Option (List PathStep) → List PathStep → List PathStep
lesser_of None path = path
lesser_of (Some least) path = lesser least path

-- the least path so far that passes a test, and one more
abbrev pub noted : (List PathStep → Bool) → Option (List PathStep) → Pair → Option (List PathStep)
noted test least pair = if test pair.0 then Some (lesser_of least pair.0) else least
