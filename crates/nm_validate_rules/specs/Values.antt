-- The values that leafrefs and unique statements read (RFC 7950 sections 7.8.3 and 9.9).
use Rattle.std.specs.Prelude.{ℕ, ◌-◌, List, [], ◌∷◌, ◌++◌, take, drop, length, map, Bool, false, not, ◌&&◌, ◌||◌, ◌==◌, Option, Some, None, option_map, if◌then◌else◌}
use Rattle.std.specs.List.{list_any, filter_map, flat_map, zip, count_by}
use Rattle.std.specs.Option.{option_or}
use Rattle.std.specs.Ordering.{eq_by_cmp, is_lt}
use Rattle.std.specs.Cmp.Lexicographic.{slice_cmp}
use Rattle.std.specs.FinMap.{get, contains_key, entries, keys}
use Rattle.nm_types.specs.declared.value.Value.{Value}
use Rattle.nm_types.specs.Value.{value_cmp, is_same_value}
use Rattle.nm_types.specs.Path.{PathStep, whole, choice_values, path_cmp}
use Rattle.nm_schema_tree.specs.declared.node.Reference.{Reference}
use Rattle.nm_schema_tree.specs.Nodes.{SchemaTree, same_parent, parent_of, keys_at, is_key, default_at, reference_at}
use Rattle.nm_path.specs.Spelling.{node_of}
use Rattle.nm_config.specs.Rows.{Rows}
use Rattle.nm_config.specs.Under.{is_under}
use Rattle.nm_validate_rules.specs.Cases.{bare}
use Rattle.nm_validate_rules.specs.Guards.{front, stands, leads_to}
use Rattle.nm_validate_rules.specs.Places.{chain, places}

-- ---- keys

-- the value that goes with key leaf x among those that an entry is chosen by, in the order of the keys
abbrev pub key_value : List ℕ → ℕ → List Value → Option Value
key_value [] x values = None
key_value (k ∷ ks) x [] = None
key_value (k ∷ ks) x (v ∷ vs) = if k == x then Some v else key_value ks x vs

-- the values by which the last step of a path chooses an entry
abbrev pub chosen_values : List PathStep → List Value
chosen_values [] = []
chosen_values (s ∷ []) = choice_values s.chosen
chosen_values (s ∷ r ∷ ss) = chosen_values (r ∷ ss)

-- the value of key leaf x in an entry, which its path has
abbrev pub key_in_entry : SchemaTree → ℕ → List PathStep → Option Value
key_in_entry t x path = key_value (keys_at t.nodes (parent_of t.nodes x)) x (chosen_values path)

-- ---- values of leafs

-- the default of leaf x where it is in use: the leaf has no row and its guard holds (RFC 7950 section 7.6.1)
abbrev pub default_in_use : SchemaTree → Rows → List PathStep → ℕ → Option Value
default_in_use t rows path x = if stands t rows path && not (contains_key rows path) then default_at t.nodes x else None

-- the value of leaf x at a path: that of a key in the path of its entry, of another leaf that of its row, or its default in use
abbrev pub leaf_value : SchemaTree → Rows → List PathStep → ℕ → Option Value
leaf_value t rows path x =
    if is_key t.nodes x then key_in_entry t x (front path) else option_or (get rows path) (default_in_use t rows path x)

-- ---- leafrefs

-- what has to be reached for a leafref: its value, among those of a target below the place to which the path goes up
pub record Claim : Type 0 where
  pub target : ℕ
  pub context : List PathStep
  pub value : Value

-- the claim of a leafref at a path
abbrev pub claim_of : List PathStep → Value → Option Reference → List Claim
claim_of path value None = []
claim_of path value (Some r) = record { target = r.target; context = take (length path - r.up) path; value = value } ∷ []

-- the claims of the key leafs of an entry
abbrev pub key_claims : SchemaTree → List PathStep → List ℕ → List Value → List Claim
key_claims t path ks vs = flat_map (λ k. claim_of (path ++ bare t.nodes k.0 ∷ []) k.1 (reference_at t.nodes k.0)) (zip ks vs)

-- the values for leafrefs that a row of a node has: its own, and those in its keys
abbrev pub claims_at : SchemaTree → List PathStep → Value → Option ℕ → List Claim
claims_at t path value None = []
claims_at t path value (Some x) = claim_of path value (reference_at t.nodes x) ++ key_claims t path (keys_at t.nodes (Some x)) (chosen_values path)

-- the same of a row, where it is there
abbrev pub claims_by : SchemaTree → List PathStep → Option Value → List Claim
claims_by t path None = []
claims_by t path (Some value) = claims_at t path value (node_of t path)

-- the claims of the row at a path: of a leaf or a leaf-list entry that is a leafref, and of an entry whose keys are leafrefs
abbrev pub claims : SchemaTree → Rows → List PathStep → List Claim
claims t rows path = claims_by t path (get rows path)

-- the values of the rows of node x below a place
abbrev pub row_values : SchemaTree → Rows → List PathStep → ℕ → List Value
row_values t rows context x = filter_map (λ e. if leads_to t x e.0 && is_under context e.0 then Some e.1 else None) (entries rows)

-- the entries whose key leaf x is, below a place
abbrev pub has_key_leaf : SchemaTree → List PathStep → ℕ → List PathStep → Bool
has_key_leaf t context x path = is_key t.nodes x && same_parent (parent_of t.nodes x) (node_of t path) && is_under context path

-- the values of key leaf x in the entries below a place
abbrev pub key_values : SchemaTree → Rows → List PathStep → ℕ → List Value
key_values t rows context x = filter_map (λ path. if has_key_leaf t context x path then key_in_entry t x path else None) (keys rows)

-- the defaults of leaf x in use below a place
abbrev pub default_values : SchemaTree → Rows → List PathStep → ℕ → List Value
default_values t rows context x = filter_map (λ path. if is_under context path then default_in_use t rows path x else None) (places t rows x)

-- what a claim asks for is the value of a row or of a key of its target, or a default of it in use
abbrev pub is_reached : SchemaTree → Rows → Claim → Bool
is_reached t rows claim =
    list_any (is_same_value claim.value) (row_values t rows claim.context claim.target)
    || list_any (is_same_value claim.value) (key_values t rows claim.context claim.target)
    || list_any (is_same_value claim.value) (default_values t rows claim.context claim.target)

-- ---- unique statements

-- the path of node x in an entry above it, by steps without predicates
abbrev pub path_in : SchemaTree → List PathStep → ℕ → List PathStep
path_in t entry x = entry ++ map (bare t.nodes) (drop (length entry) (chain t.nodes (Some x)))

-- all of them, where each is there
abbrev pub all_there : {X : Type 0} → List (Option X) → Option (List X)
all_there [] = Some []
all_there (None ∷ xs) = None
all_there ((Some x) ∷ xs) = option_map (λ ys. x ∷ ys) (all_there xs)

-- the values of these leafs in an entry, where all have one
abbrev pub unique_values : SchemaTree → Rows → List PathStep → List ℕ → Option (List Value)
unique_values t rows entry leafs = all_there (map (λ x. leaf_value t rows (path_in t entry x) x) leafs)

-- these are the same values, all of them there
abbrev pub are_values : List Value → Option (List Value) → Bool
are_values values None = false
are_values values (Some others) = eq_by_cmp (slice_cmp value_cmp) values others

-- the path of the list that a path chooses an entry of
abbrev pub as_list : List PathStep → List PathStep
as_list [] = []
as_list (s ∷ []) = record { «module» = s.«module»; name = s.name; chosen = whole } ∷ []
as_list (s ∷ r ∷ ss) = s ∷ as_list (r ∷ ss)

-- two paths are the same
abbrev pub is_same_path : List PathStep → List PathStep → Bool
is_same_path one other = eq_by_cmp path_cmp one other

-- another entry of the same list stands before an entry
abbrev pub is_before : List PathStep → List PathStep → Bool
is_before entry other = is_lt (path_cmp other entry) && is_same_path (as_list other) (as_list entry)

-- an entry before another has these values
abbrev pub is_repeated : SchemaTree → Rows → List PathStep → List ℕ → Option (List Value) → Bool
is_repeated t rows entry leafs None = false
is_repeated t rows entry leafs (Some values) = list_any (λ other. is_before entry other && are_values values (unique_values t rows other leafs)) (keys rows)

-- ---- numbers of entries

-- how many entries a list or leaf-list has at its path
abbrev pub count_at : Rows → List PathStep → ℕ
count_at rows path = count_by (λ other. length other == length path && is_under path other) (keys rows)
