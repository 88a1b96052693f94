-- Two small trees, to see what is told of their configurations (RFC 7950 sections 7.8, 7.9 and 9.9).
use Rattle.std.specs.Prelude.{ℕ, pos, List, [], ◌∷◌, ◌++◌, codes, Bool, true, false, Option, Some, None}
use Rattle.std.specs.FinMap.{from_sorted}
use Rattle.nm_types.specs.declared.value.Value.{Value}
use Rattle.nm_types.specs.declared.value.Value.TheVariants.{Int, Text, Empty, Present}
use Rattle.nm_types.specs.LeafType.{Kind, integer, string, empty}
use Rattle.nm_types.specs.Path.{PathStep, whole, keys}
use Rattle.nm_schema_tree.specs.declared.node.Node.{Node}
use Rattle.nm_schema_tree.specs.declared.node.NodeKind.{NodeKind}
use Rattle.nm_schema_tree.specs.declared.node.NodeKind.TheVariants.{Container, Leaf, List as ListOf}
use Rattle.nm_schema_tree.specs.declared.node.Elements.{Elements}
use Rattle.nm_schema_tree.specs.declared.node.Reference.{Reference}
use Rattle.nm_schema_tree.specs.Nodes.{SchemaTree}
use Rattle.nm_validate_rules.specs.declared.rule.Rule.{Rule}
use Rattle.nm_validate_rules.specs.Violation.{Violation, violation}

-- a leaf in a case of the first sample's choice
abbrev pub leaf_node : List ℕ → ℕ → Kind → Option Value → Node
leaf_node name c k d =
    record { parent = Some 0; case_in = Some c; «module» = codes "ez"; name = name; kind = Leaf (record { kind = k; limits = None }) d false None }

-- container addr { choice how { mandatory true; case fixed { leaf ip { type string; } leaf len { type uint8; default 24; } } leaf dhcp { type empty; } } }
unfoldable pub sample_tree : SchemaTree
sample_tree = record {
  modules = codes "ez" ∷ [];
  nodes = record { parent = None; case_in = None; «module» = codes "ez"; name = codes "addr"; kind = Container false }
      ∷ leaf_node (codes "ip") 0 string None ∷ leaf_node (codes "len") 0 (integer (pos 0) (pos 255)) (Some (Int (pos 24)))
      ∷ leaf_node (codes "dhcp") 1 empty None ∷ [];
  choices = record { parent = Some 0; case_in = None; «module» = codes "ez"; name = codes "how"; mandatory = true } ∷ [];
  cases = record { choice = 0; name = codes "fixed" } ∷ record { choice = 0; name = codes "dhcp" } ∷ [];
}

-- a step of the first sample's module, choosing no entry
abbrev pub step_of : List ℕ → PathStep
step_of name = record { «module» = codes "ez"; name = name; chosen = whole }

-- /ez:addr/NAME
abbrev pub in_addr : List ℕ → List PathStep
in_addr name = step_of (codes "addr") ∷ step_of name ∷ []

-- /ez:addr/dhcp and /ez:addr/ip, of two cases
abbrev pub two_rows : List (List PathStep × Value)
two_rows = (in_addr (codes "dhcp"), Empty) ∷ (in_addr (codes "ip"), Text (codes "a")) ∷ []

-- what is told of the configuration that has these rows, which are in path order
abbrev pub told_of : SchemaTree → List (List PathStep × Value) → Option Violation
told_of t given = violation t (from_sorted given)

-- a rule is told at a path
abbrev pub tells : Rule → List PathStep → Option Violation
tells rule path = Some (record { rule = rule; path = path })

-- ---- a list with a leafref to its key

-- any number of entries
abbrev pub no_limit : Elements
no_limit = record { min = None; max = None }

-- a node in no case, of the module of the other samples
abbrev pub node_in : Option ℕ → List ℕ → NodeKind → Node
node_in parent name k = record { parent = parent; case_in = None; «module» = codes "ex"; name = name; kind = k }

-- a leaf of type string, or a leafref
abbrev pub text_leaf : Option Reference → NodeKind
text_leaf to = Leaf (record { kind = string; limits = None }) None false to

-- container sys { leaf uplink { type leafref { path "../iface/name"; } }
--     list iface { key name; unique address; leaf name { type string; } leaf address { type string; } } }
unfoldable pub listed_tree : SchemaTree
listed_tree = record {
  modules = codes "ex" ∷ [];
  nodes = node_in None (codes "sys") (Container false) ∷ node_in (Some 0) (codes "uplink") (text_leaf (Some (record { target = 3; up = 1 })))
      ∷ node_in (Some 0) (codes "iface") (ListOf (3 ∷ []) ((4 ∷ []) ∷ []) no_limit)
      ∷ node_in (Some 2) (codes "name") (text_leaf None) ∷ node_in (Some 2) (codes "address") (text_leaf None) ∷ [];
  choices = [];
  cases = [];
}

-- the step to container `sys`
abbrev pub sys_step : PathStep
sys_step = record { «module» = codes "ex"; name = codes "sys"; chosen = whole }

-- /ex:sys/uplink
abbrev pub uplink : List PathStep
uplink = sys_step ∷ record { «module» = codes "ex"; name = codes "uplink"; chosen = whole } ∷ []

-- /ex:sys/iface[name='NAME']
abbrev pub iface : List ℕ → List PathStep
iface name = sys_step ∷ record { «module» = codes "ex"; name = codes "iface"; chosen = keys (Text name ∷ []) } ∷ []

-- /ex:sys/iface[name='NAME']/address
abbrev pub address_of : List ℕ → List PathStep
address_of name = iface name ++ record { «module» = codes "ex"; name = codes "address"; chosen = whole } ∷ []

-- an entry b and a leafref to c
abbrev pub lost_rows : List (List PathStep × Value)
lost_rows = (iface (codes "b"), Present) ∷ (uplink, Text (codes "c")) ∷ []

-- entries a and b with one address, and a leafref to a
abbrev pub doubled_rows : List (List PathStep × Value)
doubled_rows = (iface (codes "a"), Present) ∷ (address_of (codes "a"), Text (codes "x")) ∷ (iface (codes "b"), Present)
    ∷ (address_of (codes "b"), Text (codes "x")) ∷ (uplink, Text (codes "a")) ∷ []

-- ---- guards and defaults

-- a leaf of texts
abbrev pub leaf_with : Option Value → Bool → NodeKind
leaf_with d mandatory = Leaf (record { kind = string; limits = None }) d mandatory None

-- container box { presence p; container inner { leaf must { type string; mandatory true; } } leaf ref { type leafref { path "../srv/port"; } }
--     list srv { key id; unique port; min-elements 2; leaf id { type string; } leaf port { type string; default "22"; } } }
unfoldable pub guarded_tree : SchemaTree
guarded_tree = record {
  modules = codes "ex" ∷ [];
  nodes = node_in None (codes "box") (Container true) ∷ node_in (Some 0) (codes "inner") (Container false)
      ∷ node_in (Some 1) (codes "must") (leaf_with None true)
      ∷ node_in (Some 0) (codes "ref") (text_leaf (Some (record { target = 5; up = 1 })))
      ∷ node_in (Some 0) (codes "srv") (ListOf (6 ∷ []) ((5 ∷ []) ∷ []) (record { min = Some 2; max = None }))
      ∷ node_in (Some 4) (codes "port") (leaf_with (Some (Text (codes "22"))) false) ∷ node_in (Some 4) (codes "id") (leaf_with None false) ∷ [];
  choices = [];
  cases = [];
}

-- a step of the module of the other samples, choosing no entry
abbrev pub ex_step : List ℕ → PathStep
ex_step name = record { «module» = codes "ex"; name = name; chosen = whole }

-- /ex:box
abbrev pub box : List PathStep
box = ex_step (codes "box") ∷ []

-- /ex:box/NAME
abbrev pub in_box : List ℕ → List PathStep
in_box name = box ++ ex_step name ∷ []

-- /ex:box/inner/must
abbrev pub must : List PathStep
must = in_box (codes "inner") ++ ex_step (codes "must") ∷ []

-- /ex:box/srv[id='ID']
abbrev pub srv : List ℕ → List PathStep
srv id = box ++ record { «module» = codes "ex"; name = codes "srv"; chosen = keys (Text id ∷ []) } ∷ []

-- /ex:box/srv[id='ID']/port
abbrev pub port : List ℕ → List PathStep
port id = srv id ++ ex_step (codes "port") ∷ []

-- the container alone
abbrev pub bare_rows : List (List PathStep × Value)
bare_rows = (box, Present) ∷ []

-- one entry where two are wanted
abbrev pub few_rows : List (List PathStep × Value)
few_rows = (box, Present) ∷ (must, Text (codes "m")) ∷ (srv (codes "a"), Present) ∷ []

-- two entries that have one port, by default and by a row
abbrev pub same_rows : List (List PathStep × Value)
same_rows = (box, Present) ∷ (must, Text (codes "m")) ∷ (srv (codes "a"), Present) ∷ (srv (codes "b"), Present) ∷ (port (codes "b"), Text (codes "22")) ∷ []

-- two entries with two ports, and a leafref to the one in use by default
abbrev pub valid_rows : List (List PathStep × Value)
valid_rows = (box, Present) ∷ (must, Text (codes "m")) ∷ (in_box (codes "ref"), Text (codes "22")) ∷ (srv (codes "a"), Present)
    ∷ (srv (codes "b"), Present) ∷ (port (codes "b"), Text (codes "9")) ∷ []
