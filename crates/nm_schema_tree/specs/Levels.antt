-- What finds the nodes of a schema tree by their names.
use Rattle.std.specs.Prelude.{◌≡◌, ℕ, ◌+◌, ◌<◌, List, [], length, Bool, Option, Some, None, if◌then◌else◌, slice_get, String, ◌++◌, ◌∷◌, ◌&&◌, ◌==◌}
use Rattle.std.specs.Option.{option_or}
use Rattle.std.specs.Str.{bytes_eq}
use Rattle.std.specs.BTreeMap.{BTreeMap, get_by_text}
use Rattle.std.specs.declared.alloc.Global.{Global}
use Rattle.nm_schema_tree.specs.declared.node.Node.{Node}
use Rattle.nm_schema_tree.specs.declared.level.Level.{Level}
use Rattle.nm_schema_tree.specs.Nodes.{same_parent, is_named, is_top, first_named, first_top, children, may_follow, module_at, with_node}

-- the first node of a name in a level
abbrev pub found : Level → List ℕ → Option ℕ
found level name = get_by_text level.first name

-- it has no names
abbrev pub FindsNone : Level → Type 0
FindsNone level = (name : List ℕ) → found level name ≡ None

-- a name leads to node `at` unless it led to one before, and others lead where they led
abbrev pub Puts : List ℕ → ℕ → BTreeMap (String Global) ℕ → BTreeMap (String Global) ℕ → Type 0
Puts name at before after = (q : List ℕ) → get_by_text after q ≡ option_or (get_by_text before q) (if bytes_eq name q then Some at else None)

-- all names lead where they led
abbrev pub FindsSame : BTreeMap (String Global) ℕ → BTreeMap (String Global) ℕ → Type 0
FindsSame before after = (q : List ℕ) → get_by_text after q ≡ get_by_text before q

-- a level has what it had
pub record IsSame (before after : Level) : Type 0 where
  pub order : after.order.items ≡ before.order.items
  pub first : FindsSame before.first after.first

-- ---- the levels of a tree

-- the nodes of a level, in their order
abbrev pub order_in : Option Level → List ℕ
order_in None = []
order_in (Some level) = level.order.items

-- the node that a name leads to at a level, where there is the level
abbrev pub found_in : Option Level → List ℕ → Option ℕ
found_in None name = None
found_in (Some level) name = found level name

-- what is found at the top of a module
abbrev pub found_top : BTreeMap (String Global) Level → List ℕ → List ℕ → Option ℕ
found_top top owner name = found_in (get_by_text top owner) name

-- each node stands at the top, or in an earlier node, which has its module
pub record IsTree (nodes : List Node) : Type 0 where
  pub parents : (i p : ℕ) (n : Node) → slice_get nodes i ≡ Some n → n.parent ≡ Some p → p < i
  pub modules : (i p : ℕ) (n : Node) → slice_get nodes i ≡ Some n → n.parent ≡ Some p → module_at nodes p ≡ Some n.«module»

-- the levels have, for each node and for the top of each module, what stands there and the first of each name
pub record IsIndexed (nodes : List Node) (levels : List Level) (top : BTreeMap (String Global) Level) : Type 0 where
  pub count : length levels ≡ length nodes
  pub order : (i : ℕ) → order_in (slice_get levels i) ≡ children nodes i
  pub first : (i : ℕ) (name : List ℕ) → found_in (slice_get levels i) name ≡ first_named nodes i name
  pub tops : (owner name : List ℕ) → found_top top owner name ≡ first_top nodes owner name

-- ---- a node more

-- a node of the number `at` is put into the level of what it stands in
pub record IsPutBelow (n : Node) (at : ℕ) (before after : List Level) : Type 0 where
  pub count : length after ≡ length before
  pub order : (i : ℕ) → order_in (slice_get after i) ≡ order_in (slice_get before i) ++ (if same_parent n.parent (Some i) then at ∷ [] else [])
  pub first : (i : ℕ) (name : List ℕ)
      → found_in (slice_get after i) name ≡ option_or (found_in (slice_get before i) name) (if is_named (Some i) name n then Some at else None)

-- it is put into the top of its module, if it stands there
abbrev pub IsPutTop : Node → ℕ → BTreeMap (String Global) Level → BTreeMap (String Global) Level → Type 0
IsPutTop n at before after = (owner name : List ℕ)
    → found_top after owner name ≡ option_or (found_top before owner name) (if is_top owner name n then Some at else None)

-- a node is put into the level of the node `parent`
pub record PutsBelow (parent : ℕ) (name : List ℕ) (at : ℕ) (before after : List Level) : Type 0 where
  pub count : length after ≡ length before
  pub order : (i : ℕ) → order_in (slice_get after i) ≡ order_in (slice_get before i) ++ (if parent == i then at ∷ [] else [])
  pub first : (i : ℕ) (q : List ℕ)
      → found_in (slice_get after i) q ≡ option_or (found_in (slice_get before i) q) (if parent == i && bytes_eq name q then Some at else None)

-- a node is put into the top of a module
abbrev pub PutsTop : List ℕ → List ℕ → ℕ → BTreeMap (String Global) Level → BTreeMap (String Global) Level → Type 0
PutsTop owner name at before after = (o q : List ℕ)
    → found_top after o q ≡ option_or (found_top before o q) (if bytes_eq owner o && bytes_eq name q then Some at else None)

-- the levels have what they had
pub record AreSame (before after : List Level) : Type 0 where
  pub count : length after ≡ length before
  pub order : (i : ℕ) → order_in (slice_get after i) ≡ order_in (slice_get before i)
  pub first : (i : ℕ) (name : List ℕ) → found_in (slice_get after i) name ≡ found_in (slice_get before i) name

-- the names at the tops of the modules lead where they led
abbrev pub IsSameTop : BTreeMap (String Global) Level → BTreeMap (String Global) Level → Type 0
IsSameTop before after = (owner name : List ℕ) → found_top after owner name ≡ found_top before owner name
