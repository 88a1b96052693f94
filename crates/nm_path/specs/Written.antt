-- The one text that is written of a path (this project's own, after RFC 7951 section 6.11).
use Rattle.std.specs.Prelude.{◌≡◌, ℕ, List, [], ◌∷◌, codes, true, map, Option, Some, None, slice_get, ⊤}
use Rattle.nm_types.specs.declared.value.Value.{Value}
use Rattle.nm_types.specs.Canonical.{canonical, IsHeld}
use Rattle.nm_types.specs.LeafType.{TypeOfLeaf}
use Rattle.nm_types.specs.Spells.{HasDistinctNames, IsOnce}
use Rattle.nm_types.specs.Path.{Choice, whole, keys, entry, PathStep}
use Rattle.nm_schema_tree.specs.declared.node.Node.{Node}
use Rattle.nm_schema_tree.specs.Nodes.{SchemaTree, keys_at, keys_of, type_at}
use Rattle.nm_path.specs.declared.place.Place.{Place}
use Rattle.nm_path.specs.declared.place.Place.TheVariants.{Top, Within, Nowhere}
use Rattle.nm_path.specs.declared.form.Quote.TheVariants.{Single}
use Rattle.nm_path.specs.declared.form.Predicate.{Predicate}
use Rattle.nm_path.specs.Form.{WrittenStep, steps_text, is_identifier}
use Rattle.nm_path.specs.Spelling.{found_of, below, name_at}

-- a predicate that is written: single quotes round the canonical text of a value
abbrev pub written_key : List ℕ → Value → Predicate
written_key key v = record { key = key; quote = Single; value = canonical v }

-- the predicates of an entry, in the order of the keys, each by the name of its leaf; values without a key are left out
abbrev pub written_keys : List Node → List ℕ → List Value → List Predicate
written_keys nodes [] vs = []
written_keys nodes (k ∷ ks) [] = []
written_keys nodes (k ∷ ks) (v ∷ vs) = written_key (name_at nodes k) v ∷ written_keys nodes ks vs

-- the predicates of what is chosen of a node
abbrev pub written_choice : List Node → Option ℕ → Choice → List Predicate
written_choice nodes at whole = []
written_choice nodes at (keys vs) = written_keys nodes (keys_at nodes at) vs
written_choice nodes at (entry v) = written_key (codes ".") v ∷ []

-- the module is written at the top alone
abbrev pub written_owner : Place → List ℕ → Option (List ℕ)
written_owner Top owner = Some owner
written_owner (Within i) owner = None
written_owner Nowhere owner = None

-- a step as it is written: with its module at the top, and with predicates in the order of the keys
abbrev pub written_step : List Node → Place → Option ℕ → PathStep → WrittenStep
written_step nodes place at s = record { owner = written_owner place s.«module»; name = s.name; predicates = written_choice nodes at s.chosen }

-- The steps of a path as they are written. A step that chooses nothing is its name alone. Where a step isn't in the
-- schema, it and those below are written as they are, without the keys of entries, since no names are known for them.
abbrev pub written : List Node → Place → List PathStep → List WrittenStep
written nodes place [] = []
written nodes place (s ∷ ss) =
    written_step nodes place (found_of nodes place s.«module» s.name) s ∷ written nodes (below (found_of nodes place s.«module» s.name)) ss

-- the text of a path
unfoldable pub path_text : SchemaTree → List PathStep → List ℕ
path_text tree path = steps_text (written tree.nodes Top path)

-- a schema as modules have it: the names of nodes and modules are identifiers, the keys of a list have names of their own,
-- and so have the bits of a type (RFC 7950 sections 6.2, 7.8.2 and 9.7.4)
pub record IsWellNamed (nodes : List Node) : Type 0 where
  pub names : (i : ℕ) (n : Node) → slice_get nodes i ≡ Some n → (is_identifier n.name ≡ true) × (is_identifier n.«module» ≡ true)
  pub keys : (i : ℕ) (n : Node) → slice_get nodes i ≡ Some n → IsOnce (map (λ k. name_at nodes k) (keys_of n.kind))
  pub bits : (i : ℕ) (t : TypeOfLeaf) → type_at nodes i ≡ Some t → HasDistinctNames t.kind

-- ---- which numbers a path holds

-- the values for keys hold numbers that a `Value` can
abbrev pub AreHeld : List ℕ → List Value → Type 0
AreHeld [] vs = ⊤
AreHeld (k ∷ ks) [] = ⊤
AreHeld (k ∷ ks) (v ∷ vs) = IsHeld v × AreHeld ks vs

-- the values by which a step chooses an entry hold numbers that a `Value` can
abbrev pub IsHeldChoice : List Node → Option ℕ → Choice → Type 0
IsHeldChoice nodes at whole = ⊤
IsHeldChoice nodes at (keys vs) = AreHeld (keys_at nodes at) vs
IsHeldChoice nodes at (entry v) = IsHeld v

-- the values in all steps of a path do
abbrev pub IsHeldPath : List Node → Place → List PathStep → Type 0
IsHeldPath nodes place [] = ⊤
IsHeldPath nodes place (s ∷ ss) =
    IsHeldChoice nodes (found_of nodes place s.«module» s.name) s.chosen × IsHeldPath nodes (below (found_of nodes place s.«module» s.name)) ss
