-- What is known of the targets of leafrefs: which values are reached from where.
use Rattle.std.specs.Prelude.{◌≡◌, ℕ, List, [], ◌∷◌, ◌++◌, length, filter, Bool, false, ◌&&◌, Option, Some, None, if◌then◌else◌}
use Rattle.std.specs.FinMap.{get, insert, contains_key, keys}
use Rattle.nm_types.specs.declared.value.Value.{Value}
use Rattle.nm_types.specs.declared.value.Value.TheVariants.{Present}
use Rattle.nm_types.specs.Value.{is_same_value}
use Rattle.nm_types.specs.Path.{PathStep, keys as by_keys}
use Rattle.nm_schema_tree.specs.Nodes.{SchemaTree, same_parent, parent_of, is_key}
use Rattle.nm_path.specs.Spelling.{node_of}
use Rattle.nm_config.specs.Rows.{Rows}
use Rattle.nm_config.specs.Under.{is_under}
use Rattle.nm_validate_rules.specs.Cases.{bare}
use Rattle.nm_validate_rules.specs.Guards.{front, leads_to}
use Rattle.nm_validate_rules.specs.Places.{places}
use Rattle.nm_validate_rules.specs.Values.{Claim, key_in_entry, default_in_use, path_in, is_reached}
use Rattle.nm_validate_places.specs.Leafs.{row_or_default}
use Rattle.nm_validate_leafref.specs.Kept.{kept_at, mark_of, with_values}

-- the rows of node x
abbrev pub rows_of : SchemaTree → Rows → ℕ → List (List PathStep)
rows_of t rows x = filter (leads_to t x) (keys rows)

-- the entries whose key leaf x is, and none where it is no key
abbrev pub entries_of : SchemaTree → Rows → ℕ → List (List PathStep)
entries_of t rows x = if is_key t.nodes x then filter (λ path. same_parent (parent_of t.nodes x) (node_of t path)) (keys rows) else []

-- the values of the rows of node x are kept for the places of d steps
abbrev pub with_rows : SchemaTree → Rows → ℕ → ℕ → Rows → Rows
with_rows t rows x d kept = with_values x d (get rows) kept (rows_of t rows x)

-- those that key leaf x has in entries
abbrev pub with_keys : SchemaTree → Rows → ℕ → ℕ → Rows → Rows
with_keys t rows x d kept = with_values x d (key_in_entry t x) kept (entries_of t rows x)

-- the defaults of leaf x that are in use
abbrev pub with_defaults : SchemaTree → Rows → ℕ → ℕ → Rows → Rows
with_defaults t rows x d kept = with_values x d (λ path. default_in_use t rows path x) kept (places t rows x)

-- all values of node x (RFC 7950 section 9.9)
abbrev pub with_target : SchemaTree → Rows → ℕ → ℕ → Rows → Rows
with_target t rows x d kept = with_defaults t rows x d (with_keys t rows x d (with_rows t rows x d kept))

-- all values of node x are kept for the places of d steps, unless they are already
abbrev pub with_known : SchemaTree → Rows → ℕ → ℕ → Rows → Rows
with_known t rows x d kept =
    if contains_key kept (mark_of x d) then insert kept (mark_of x d) Present else with_target t rows x d (insert kept (mark_of x d) Present)

-- a value is claimed to be among those of a target below a place
abbrev pub claim_to : ℕ → List PathStep → Value → Claim
claim_to target context value = record { target = target; context = context; value = value }

-- what a claim asks for is kept exactly where all values of its target are, and it is reached
pub record Knows (t : SchemaTree) (rows kept : Rows) : Type 0 where
  pub each : (claim : Claim) → contains_key kept (kept_at claim.context claim.target claim.value)
      ≡ (contains_key kept (mark_of claim.target (length claim.context)) && is_reached t rows claim)

-- ---- what one look-up tells

-- a value is the one that is there
abbrev pub gives : Value → Option Value → Bool
gives v None = false
gives v (Some w) = is_same_value v w

-- a path is below a place and has a value there
abbrev pub has_below : List PathStep → Value → (List PathStep → Option Value) → List PathStep → Bool
has_below context v value path = is_under context path && gives v (value path)

-- a path leads to node x below a place
abbrev pub is_below : SchemaTree → List PathStep → ℕ → List PathStep → Bool
is_below t place x path = leads_to t x path && is_under place path

-- such a path has a value: that of its row, or the default of leaf x in use
abbrev pub is_leaf_with : SchemaTree → Rows → List PathStep → ℕ → Value → List PathStep → Bool
is_leaf_with t rows place x v path = is_below t place x path && gives v (row_or_default t rows path x)

-- the step to the entry of list x whose one key has a value
abbrev pub step_to : SchemaTree → ℕ → Value → PathStep
step_to t x v = record { «module» = (bare t.nodes x).«module»; name = (bare t.nodes x).name; chosen = by_keys (v ∷ []) }

-- the path of that entry below a place
abbrev pub entry_by : SchemaTree → List PathStep → ℕ → Value → List PathStep
entry_by t place x v = front (path_in t place x) ++ step_to t x v ∷ []

-- a path has a row, of an entry below a place that has a value by key leaf x
abbrev pub is_entry_with : SchemaTree → Rows → List PathStep → ℕ → Value → List PathStep → Bool
is_entry_with t rows place x v path =
    contains_key rows path && is_key t.nodes x && same_parent (parent_of t.nodes x) (node_of t path) && has_below place v (key_in_entry t x) path
