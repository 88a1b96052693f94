-- When a rule is violated at a path: a test for each rule (RFC 7950 sections 7 to 9).
use Rattle.std.specs.Prelude.{ℕ, List, [], ◌∷◌, ◌++◌, take, length, Bool, true, false, not, ◌&&◌, ◌||◌, ◌==◌, nat_lt, Option, Some, None, Result, Ok, Err, is_some, slice_get, suc, if◌then◌else◌}
use Rattle.std.specs.List.{list_any, find, filter_map, range_with_len}
use Rattle.std.specs.FinMap.{get, contains_key, keys}
use Rattle.nm_types.specs.declared.value.Value.{Value}
use Rattle.nm_types.specs.declared.value.Value.TheVariants.{Present}
use Rattle.nm_types.specs.declared.fault.ValueFault.{ValueFault}
use Rattle.nm_types.specs.Value.{is_same_value}
use Rattle.nm_types.specs.LeafType.{TypeOfLeaf}
use Rattle.nm_types.specs.Canonical.{canonical}
use Rattle.nm_types.specs.Reading.{reading}
use Rattle.nm_types.specs.Path.{PathStep, Choice, whole, keys as by_keys, entry}
use Rattle.nm_schema_tree.specs.declared.node.Node.{Node}
use Rattle.nm_schema_tree.specs.declared.node.NodeKind.{NodeKind}
use Rattle.nm_schema_tree.specs.declared.node.NodeKind.TheVariants.{Container, Leaf, LeafList, List as ListOf}
use Rattle.nm_schema_tree.specs.declared.choice.ChoiceNode.{ChoiceNode}
use Rattle.nm_schema_tree.specs.Nodes.{SchemaTree, type_at, keys_at, uniques_at, is_mandatory_at, elements_at, case_at}
use Rattle.nm_path.specs.Spelling.{node_of}
use Rattle.nm_config.specs.Rows.{Rows}
use Rattle.nm_config.specs.Under.{is_under}
use Rattle.nm_validate_rules.specs.declared.rule.Rule.{Rule}
use Rattle.nm_validate_rules.specs.declared.rule.Rule.TheVariants.{ValueType, Key, Mandatory, Leafref, Unique, MinElements, MaxElements, MandatoryChoice, OneCase}
use Rattle.nm_validate_rules.specs.Cases.{numbers, case_of_choice, exists_at, has_other, is_allowed}
use Rattle.nm_validate_rules.specs.Guards.{front, stands, holds_at, leads_to}
use Rattle.nm_validate_rules.specs.Places.{choice_step}
use Rattle.nm_validate_rules.specs.Values.{chosen_values, claims, is_reached, unique_values, is_repeated, is_same_path, count_at}

-- ---- types and keys

-- a text was read as this value
abbrev pub is_read : Value → Result Value ValueFault → Bool
is_read v (Ok w) = is_same_value v w
is_read v (Err e) = false

-- a value is of a type: its canonical text is read as that value (RFC 7950 section 9.1)
unfoldable pub is_of_type : Value → TypeOfLeaf → Bool
is_of_type v t = is_read v (reading t (canonical v))

-- a value is of a type, where the node has one
abbrev pub fits_type : Value → Option TypeOfLeaf → Bool
fits_type v None = false
fits_type v (Some t) = is_of_type v t

-- the value of an entry of a leaf-list is what it is chosen by
abbrev pub is_entry : Choice → Value → Bool
is_entry (entry w) v = is_same_value w v
is_entry whole v = false
is_entry (by_keys values) v = false

-- a row of a kind of node has a value that such rows have
abbrev pub fits_kind : Option TypeOfLeaf → NodeKind → Choice → Value → Bool
fits_kind leaf_type (Container presence) chosen v = is_same_value Present v
fits_kind leaf_type (ListOf ks u e) chosen v = is_same_value Present v
fits_kind leaf_type (Leaf t d m r) chosen v = fits_type v leaf_type
fits_kind leaf_type (LeafList t r e) chosen v = is_entry chosen v && fits_type v leaf_type

-- a value is what rows of a node have, and the step chooses what its kind does
abbrev pub fits_node : Option TypeOfLeaf → Option Node → Choice → Value → Bool
fits_node leaf_type None chosen v = false
fits_node leaf_type (Some n) chosen v = fits_kind leaf_type n.kind chosen v

-- the same of a node that a path leads to; no row may stand where it leads to none
abbrev pub fits_at : List Node → Option ℕ → Choice → Value → Bool
fits_at nodes None chosen v = false
fits_at nodes (Some x) chosen v = fits_node (type_at nodes x) (slice_get nodes x) chosen v

-- what the last step of a path chooses
abbrev pub last_chosen : List PathStep → Choice
last_chosen [] = whole
last_chosen (s ∷ []) = s.chosen
last_chosen (s ∷ r ∷ ss) = last_chosen (r ∷ ss)

-- a row has a value that its node may have; a missing row has nothing wrong
abbrev pub fits_row : SchemaTree → List PathStep → Option Value → Bool
fits_row t path None = true
fits_row t path (Some v) = fits_at t.nodes (node_of t path) (last_chosen path) v

-- there is a value for each key, of its type
abbrev pub fit_keys : List Node → List ℕ → List Value → Bool
fit_keys nodes [] [] = true
fit_keys nodes (k ∷ ks) (v ∷ vs) = fits_type v (type_at nodes k) && fit_keys nodes ks vs
fit_keys nodes _ _ = false

-- the node is a list
abbrev pub is_list_kind : NodeKind → Bool
is_list_kind (ListOf ks u e) = true
is_list_kind _ = false

-- a node is a list
abbrev pub is_list : Option Node → Bool
is_list None = false
is_list (Some n) = is_list_kind n.kind

-- an entry of a list has a good value for each key; other nodes need none
abbrev pub has_keys : List Node → Option ℕ → List PathStep → Bool
has_keys nodes None path = true
has_keys nodes (Some x) path = not (is_list (slice_get nodes x)) || fit_keys nodes (keys_at nodes (Some x)) (chosen_values path)

-- ---- leafs, lists and leaf-lists

-- a node is a leaf that has to be there
abbrev pub is_mandatory_node : SchemaTree → Option ℕ → Bool
is_mandatory_node t None = false
is_mandatory_node t (Some x) = is_mandatory_at t.nodes x

-- the leafs that each unique statement of a node names
abbrev pub uniques_of_node : SchemaTree → Option ℕ → List (List ℕ)
uniques_of_node t None = []
uniques_of_node t (Some x) = uniques_at t.nodes x

-- fewer than wanted, where a number is wanted
abbrev pub is_below : ℕ → Option ℕ → Bool
is_below n None = false
is_below n (Some min) = nat_lt n min

-- more than allowed, where a number is
abbrev pub is_above : ℕ → Option ℕ → Bool
is_above n None = false
is_above n (Some max) = nat_lt max n

-- another node of the case of x is there; where x stands in no case, nothing is asked
abbrev pub has_beside : SchemaTree → Rows → List PathStep → ℕ → Option ℕ → Bool
has_beside t rows above x None = true
has_beside t rows above x (Some c) = has_other t rows above x c

-- min-elements of a node are wanted: its guard holds, and where that is its case, another node of the case is there
abbrev pub wants_elements : SchemaTree → Rows → List PathStep → ℕ → Bool
wants_elements t rows path x = stands t rows path && has_beside t rows (front path) x (case_at t.nodes x)

-- there are fewer entries at a path than min-elements wants, where it is wanted (RFC 7950 section 7.7.5)
abbrev pub has_too_few : SchemaTree → Rows → List PathStep → Option ℕ → Bool
has_too_few t rows path None = false
has_too_few t rows path (Some x) = wants_elements t rows path x && is_below (count_at rows path) (elements_at t.nodes x).min

-- there are more entries at a path than max-elements allows, where the guard of the path holds (RFC 7950 section 7.7.6)
abbrev pub has_too_many : SchemaTree → Rows → List PathStep → Option ℕ → Bool
has_too_many t rows path None = false
has_too_many t rows path (Some x) = stands t rows path && is_above (count_at rows path) (elements_at t.nodes x).max

-- ---- choices

-- a path is that of a node, or the empty one for the top
abbrev pub is_area_of : SchemaTree → Option ℕ → List PathStep → Bool
is_area_of t None [] = true
is_area_of t None (s ∷ ss) = false
is_area_of t (Some x) path = leads_to t x path

-- node x stands in choice k
abbrev pub is_of_choice : SchemaTree → ℕ → ℕ → Bool
is_of_choice t k x = is_some (case_of_choice t k x)

-- a node of choice k exists at a place
unfoldable pub has_node : SchemaTree → Rows → List PathStep → ℕ → Bool
has_node t rows above k = list_any (λ x. is_of_choice t k x && exists_at t rows above x) (numbers t.nodes)

-- a path is that of a choice: that of its parent followed by its name
abbrev pub is_choice_path : SchemaTree → ChoiceNode → List PathStep → Bool
is_choice_path t k path = is_same_path path (front path ++ choice_step k ∷ []) && is_area_of t k.parent (front path)

-- a mandatory choice has no node of any case where its guard holds (RFC 7950 section 7.9.4)
abbrev pub is_missing : SchemaTree → Rows → List PathStep → ℕ → Option ChoiceNode → Bool
is_missing t rows path at None = false
is_missing t rows path at (Some k) =
    k.mandatory && is_choice_path t k path && holds_at t rows (front path) && is_allowed t rows (front path) k.case_in && not (has_node t rows (front path) at)

-- a child that exists at a place, and the case of a choice that it is of
pub record Child : Type 0 where
  pub path : List PathStep
  pub case_is : ℕ

-- a child with its case, if it stands in one
abbrev pub child_by : List PathStep → Option ℕ → Option Child
child_by path None = None
child_by path (Some c) = Some (record { path = path; case_is = c })

-- the case of choice k that a node stands in
abbrev pub case_of_node : SchemaTree → ℕ → Option ℕ → Option ℕ
case_of_node t k None = None
case_of_node t k (Some x) = case_of_choice t k x

-- the child of choice k at a place that a row is at or below
abbrev pub child_over : SchemaTree → ℕ → List PathStep → List PathStep → Option Child
child_over t k above path =
    if is_under above path && nat_lt (length above) (length path)
    then child_by (take (suc (length above)) path) (case_of_node t k (node_of t (take (suc (length above)) path)))
    else None

-- the children of choice k that exist at a place, in path order; one comes for each of its rows
unfoldable pub children_of : SchemaTree → Rows → ℕ → List PathStep → List Child
children_of t rows k above = filter_map (child_over t k above) (keys rows)

-- the first child of another case than the first child
abbrev pub first_other : List Child → Option Child
first_other [] = None
first_other (e ∷ es) = find (λ other. not (other.case_is == e.case_is)) es

-- a path is that of a child
abbrev pub is_path_of : List PathStep → Option Child → Bool
is_path_of path None = false
is_path_of path (Some e) = is_same_path path e.path

-- ---- the rules

-- a rule is violated at a path
abbrev pub violated : SchemaTree → Rows → Rule → List PathStep → Bool
-- a row whose value isn't of its type (RFC 7950 sections 9.1, 7.6.3 and 7.7.3)
violated t rows ValueType path = contains_key rows path && not (fits_row t path (get rows path))
-- an entry whose path lacks a key or has a bad one (RFC 7950 section 7.8.2)
violated t rows Key path = contains_key rows path && not (has_keys t.nodes (node_of t path) path)
-- a mandatory leaf that isn't there, where its guard holds (RFC 7950 section 7.6.5)
violated t rows Mandatory path = is_mandatory_node t (node_of t path) && stands t rows path && not (contains_key rows path)
-- a leafref whose value its target doesn't have, in a leaf, in an entry of a leaf-list or among the keys of an entry (RFC 7950 section 9.9)
violated t rows Leafref path = list_any (λ claim. not (is_reached t rows claim)) (claims t rows path)
-- an entry that has the same values as an entry before it, in all leafs that a unique statement names (RFC 7950 section 7.8.3)
violated t rows Unique path =
    contains_key rows path && list_any (λ leafs. is_repeated t rows path leafs (unique_values t rows path leafs)) (uniques_of_node t (node_of t path))
-- a list or a leaf-list with too few entries, where its guard holds (RFC 7950 section 7.7.5)
violated t rows MinElements path = has_too_few t rows path (node_of t path)
-- a list or a leaf-list with too many entries (RFC 7950 section 7.7.6)
violated t rows MaxElements path = has_too_many t rows path (node_of t path)
-- a mandatory choice without any node, where its guard holds (RFC 7950 section 7.9.4)
violated t rows MandatoryChoice path = list_any (λ k. is_missing t rows path k (slice_get t.choices k)) (range_with_len 0 (length t.choices))
-- the first child that is of another case than the first child of its choice (RFC 7950 section 7.9)
violated t rows OneCase path = list_any (λ k. is_path_of path (first_other (children_of t rows k (front path)))) (range_with_len 0 (length t.choices))
