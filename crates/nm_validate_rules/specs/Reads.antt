-- What the rules read: the rows on which it hangs whether a rule is violated at a path.
-- That is said by the schema alone, the same for all configurations of it.
use Rattle.std.specs.Prelude.{ℕ, suc, List, [], ◌∷◌, ◌++◌, take, length, Bool, false, not, ◌&&◌, ◌||◌, ◌==◌, Option, Some, None}
use Rattle.std.specs.Prelude.{is_some, slice_get, if◌then◌else◌}
use Rattle.std.specs.List.{list_any, range_with_len}
use Rattle.nm_types.specs.declared.value.Value.TheVariants.{Present}
use Rattle.nm_types.specs.Path.{PathStep}
use Rattle.nm_schema_tree.specs.declared.choice.ChoiceNode.{ChoiceNode}
use Rattle.nm_schema_tree.specs.Nodes.{SchemaTree, same_parent, parent_of, case_at, is_key, is_guard_at, default_at, elements_at}
use Rattle.nm_path.specs.Spelling.{node_of}
use Rattle.nm_config.specs.Under.{is_whole, is_under}
use Rattle.nm_validate_rules.specs.declared.rule.Rule.{Rule}
use Rattle.nm_validate_rules.specs.declared.rule.Rule.TheVariants.{ValueType, Key, Mandatory, Leafref, Unique, MinElements, MaxElements, MandatoryChoice, OneCase}
use Rattle.nm_validate_rules.specs.Standing.{is_own_at}
use Rattle.nm_validate_rules.specs.Cases.{bare, numbers, is_in_case}
use Rattle.nm_validate_rules.specs.Guards.{front, leads_to}
use Rattle.nm_validate_rules.specs.Places.{chain}
use Rattle.nm_validate_rules.specs.Values.{Claim, claims_at, path_in, as_list, is_same_path}
use Rattle.nm_validate_rules.specs.Violated.{last_chosen, is_mandatory_node, uniques_of_node, is_area_of, is_of_choice, is_choice_path, case_of_node, child_over}

-- ---- cases

-- a row tells that node x exists at a place: it is at or below it
abbrev pub tells : SchemaTree → List PathStep → ℕ → List PathStep → Bool
tells t above x row = is_under (above ++ bare t.nodes x ∷ []) row

-- whether a case holds at a place is read off the rows at or below its nodes there (RFC 7950 section 7.9.2)
unfoldable pub case_reads : SchemaTree → List PathStep → ℕ → List PathStep → Bool
case_reads t above c row = list_any (λ x. is_in_case t c x && tells t above x row) (numbers t.nodes)

-- a row is read to tell whether the case that something stands in holds; what stands in none reads no row
abbrev pub allowed_reads : SchemaTree → List PathStep → Option ℕ → List PathStep → Bool
allowed_reads t above None row = false
allowed_reads t above (Some c) row = case_reads t above c row

-- whether a case has another node than x at a place
unfoldable pub other_reads : SchemaTree → List PathStep → ℕ → ℕ → List PathStep → Bool
other_reads t above x c row = list_any (λ y. not (y == x) && is_in_case t c y && tells t above y row) (numbers t.nodes)

-- a row is read to tell whether another node of the case of x is there; where x stands in no case, none is
abbrev pub beside_reads : SchemaTree → List PathStep → ℕ → Option ℕ → List PathStep → Bool
beside_reads t above x None row = false
beside_reads t above x (Some c) row = other_reads t above x c row

-- whether choice k has a node at a place
unfoldable pub choice_reads : SchemaTree → List PathStep → ℕ → List PathStep → Bool
choice_reads t above k row = list_any (λ x. is_of_choice t k x && tells t above x row) (numbers t.nodes)

-- ---- guards

-- a step that leads to no node, or to an entry, is open nowhere; another hands on what is read above it, and its case is read
abbrev pub open_reads : SchemaTree → Bool → List PathStep → PathStep → Option ℕ → List PathStep → Bool
open_reads t so_far above s None row = false
open_reads t so_far above s (Some x) row = is_whole s.chosen && (so_far || allowed_reads t above (case_at t.nodes x) row)

-- a list entry and a container with presence are read by themselves, and what is above them no more
abbrev pub guard_reads : SchemaTree → Bool → List PathStep → PathStep → List PathStep → Bool
guard_reads t so_far above s row =
    if is_own_at t.nodes (node_of t (above ++ s ∷ []))
    then is_same_path (above ++ s ∷ []) row
    else open_reads t so_far above s (node_of t (above ++ s ∷ [])) row

-- the same along steps, from what is read above them
abbrev pub holds_reads_from : SchemaTree → Bool → List PathStep → List PathStep → List PathStep → Bool
holds_reads_from t so_far above [] row = so_far
holds_reads_from t so_far above (s ∷ ss) row = holds_reads_from t (guard_reads t so_far above s row) (above ++ s ∷ []) ss row

-- a row is read to tell whether what guards a place holds
abbrev pub holds_reads : SchemaTree → List PathStep → List PathStep → Bool
holds_reads t above row = holds_reads_from t false [] above row

-- the same along steps, the last of which is that of the node itself
abbrev pub stands_reads_from : SchemaTree → Bool → List PathStep → List PathStep → List PathStep → Bool
stands_reads_from t so_far above [] row = false
stands_reads_from t so_far above (s ∷ []) row = open_reads t so_far above s (node_of t (above ++ s ∷ [])) row
stands_reads_from t so_far above (s ∷ r ∷ ss) row = stands_reads_from t (guard_reads t so_far above s row) (above ++ s ∷ []) (r ∷ ss) row

-- a row is read to tell whether a leaf, or a list or leaf-list as a whole, may stand at a path
abbrev pub stands_reads : SchemaTree → List PathStep → List PathStep → Bool
stands_reads t path row = stands_reads_from t false [] path row

-- ---- numbers of entries

-- an entry of the list or leaf-list at a path
abbrev pub is_counted : List PathStep → List PathStep → Bool
is_counted path row = length row == length path && is_under path row

-- a row is read to tell whether there are too few entries at a path
abbrev pub min_reads : SchemaTree → List PathStep → Option ℕ → List PathStep → Bool
min_reads t path None row = false
min_reads t path (Some x) row =
    is_some (elements_at t.nodes x).min && is_whole (last_chosen path)
    && (stands_reads t path row || beside_reads t (front path) x (case_at t.nodes x) row || is_counted path row)

-- a row is read to tell whether there are too many entries at a path
abbrev pub max_reads : SchemaTree → List PathStep → Option ℕ → List PathStep → Bool
max_reads t path None row = false
max_reads t path (Some x) row = is_some (elements_at t.nodes x).max && is_whole (last_chosen path) && (stands_reads t path row || is_counted path row)

-- ---- choices

-- what is read of choice k, whose number is `at`, at a path: that of the choice
abbrev pub missing_reads : SchemaTree → List PathStep → ℕ → Option ChoiceNode → List PathStep → Bool
missing_reads t path at None row = false
missing_reads t path at (Some k) row =
    k.mandatory && is_choice_path t k path
    && (holds_reads t (front path) row || allowed_reads t (front path) k.case_in row || choice_reads t (front path) at row)

-- a row is at or below a child of choice k beside a path that is one too
abbrev pub child_reads : SchemaTree → ℕ → List PathStep → List PathStep → Bool
child_reads t k path row = is_some (case_of_node t k (node_of t path)) && is_some (child_over t k (front path) row)

-- ---- unique statements

-- the value of leaf x at a path is that of its row, or its default where its guard holds; that of a key is in the path
abbrev pub leaf_reads : SchemaTree → List PathStep → ℕ → List PathStep → Bool
leaf_reads t path x row = not (is_key t.nodes x) && (is_same_path path row || is_some (default_at t.nodes x) && stands_reads t path row)

-- an entry and its values of these leafs
abbrev pub entry_reads : SchemaTree → List PathStep → List ℕ → List PathStep → Bool
entry_reads t entry leafs row = is_same_path entry row || list_any (λ x. leaf_reads t (path_in t entry x) x row) leafs

-- the entry that a row is at or below, where it is one of the list that a path chooses an entry of
abbrev pub is_beside : List PathStep → List PathStep → Bool
is_beside path row = is_same_path (as_list (take (length path) row)) (as_list path)

-- ---- leafrefs

-- a row has a value of node x: it leads to it, or to a list whose key it is
abbrev pub has_value_of : SchemaTree → ℕ → List PathStep → Bool
has_value_of t x row = leads_to t x row || is_key t.nodes x && same_parent (parent_of t.nodes x) (node_of t row)

-- a row tells that the case of node z holds at a place at which the node may stand
abbrev pub case_hangs : SchemaTree → ℕ → Option ℕ → List PathStep → Bool
case_hangs t z None row = false
case_hangs t z (Some c) row =
    list_any (λ n. is_area_of t (parent_of t.nodes z) (take n row) && case_reads t (take n row) c row) (range_with_len 0 (suc (length row)))

-- whether something at or below node z stands may hang on a row: on that of a list or a container with presence, and on what tells of the case of the node
abbrev pub hangs : SchemaTree → List PathStep → ℕ → Bool
hangs t row z = is_guard_at t.nodes z && leads_to t z row || case_hangs t z (case_at t.nodes z) row

-- where the default of leaf x is in use may hang on a row, by the leaf and the nodes above it
unfoldable pub default_reads : SchemaTree → ℕ → List PathStep → Bool
default_reads t x row = is_some (default_at t.nodes x) && list_any (hangs t row) (chain t.nodes (Some x))

-- the values of the target below the place that a claim goes up to
abbrev pub claim_reads : SchemaTree → Claim → List PathStep → Bool
claim_reads t claim row = is_under claim.context row && has_value_of t claim.target row || default_reads t claim.target row

-- ---- the rules

-- a row is read by a rule at a path
abbrev pub reads : SchemaTree → Rule → List PathStep → List PathStep → Bool
reads t ValueType path row = is_same_path path row
reads t Key path row = is_same_path path row
reads t Mandatory path row = is_mandatory_node t (node_of t path) && is_whole (last_chosen path) && (is_same_path path row || stands_reads t path row)
-- the row itself, and what each of its claims reads; which claims there are doesn't hang on the value
reads t Leafref path row = list_any (λ claim. is_same_path path row || claim_reads t claim row) (claims_at t path Present (node_of t path))
reads t Unique path row = is_beside path row && list_any (λ leafs. entry_reads t (take (length path) row) leafs row) (uniques_of_node t (node_of t path))
reads t MinElements path row = min_reads t path (node_of t path) row
reads t MaxElements path row = max_reads t path (node_of t path) row
reads t MandatoryChoice path row = list_any (λ k. missing_reads t path k (slice_get t.choices k) row) (range_with_len 0 (length t.choices))
reads t OneCase path row = list_any (λ k. child_reads t k path row) (range_with_len 0 (length t.choices))
