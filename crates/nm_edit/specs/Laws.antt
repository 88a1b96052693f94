-- What an edit makes, told path by path (RFC 6241 section 7.2).
use Rattle.std.specs.Prelude.{◌≡◌, List, [], ◌∷◌, ◌++◌, Contains, Bool, true, false, Option, Some, None, is_some, if◌then◌else◌}
use Rattle.std.specs.List.{list_any}
use Rattle.std.specs.Option.{option_or}
use Rattle.std.specs.Ordering.{is_gt}
use Rattle.std.specs.FinMap.{get}
use Rattle.nm_types.specs.Path.{PathStep, path_cmp}
use Rattle.nm_types.specs.declared.value.Value.{Value}
use Rattle.nm_proto.specs.Content.{Refusal}
use Rattle.nm_proto.specs.declared.message.DefaultOperation.{DefaultOperation}
use Rattle.nm_schema_tree.specs.Nodes.{SchemaTree}
use Rattle.nm_path.specs.Written.{path_text}
use Rattle.nm_config.specs.Rows.{Rows}
use Rattle.nm_config.specs.Under.{is_under}
use Rattle.nm_validate_rules.specs.Values.{is_same_path}
use Rattle.nm_edit.specs.declared.edit.EditNode.{EditNode}
use Rattle.nm_edit.specs.declared.act.Act.{Act}
use Rattle.nm_edit.specs.Acts.{acts, coming}
use Rattle.nm_edit.specs.Refusals.{refused_at}
use Rattle.nm_edit.specs.Edited.{gone, ousted, held, base_of}

-- the value that some rows have at a path; the last of them tells
abbrev pub last_at : List (List PathStep × Value) → List PathStep → Option Value
last_at [] path = None
last_at (row ∷ rows) path = option_or (last_at rows path) (if is_same_path path row.0 then Some row.1 else None)

-- a path is at or below one of some nodes
abbrev pub goes : List (List PathStep) → List PathStep → Bool
goes nodes path = list_any (λ node. is_under node path) nodes

-- the value at a path after acts on rows: that of a row that comes, else that of a row that is held, else the one before, unless it goes
abbrev pub value_by : SchemaTree → Rows → Rows → List Act → List PathStep → Option Value
value_by t old base done path =
    option_or (last_at (coming done) path)
    (option_or (last_at (held t old (coming done)) path) (if goes (gone done ++ ousted t (coming done)) path then None else get base path))

-- the value at a path after an edit
abbrev pub value_after : SchemaTree → Rows → List EditNode → DefaultOperation → List PathStep → Option Value
value_after t old nodes d path = value_by t old (base_of d old) (acts nodes d) path

-- a refusal is that of a node that the edit looks at, and no refused node stands before that
pub record IsLeastRefused (t : SchemaTree) (old : Rows) (done : List Act) (refusal : Refusal) : Type 0 where
  pub act : Act
  pub among : Contains done act
  pub tag : refused_at t old act ≡ Some refusal.tag
  pub path : refusal.path ≡ path_text t act.path
  pub least : (other : Act) → Contains done other → is_some (refused_at t old other) ≡ true → is_gt (path_cmp act.path other.path) ≡ false
