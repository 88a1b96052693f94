-- The nodes of a schema tree (RFC 7950 section 3).
use Rattle.std.specs.Prelude.{◌≡◌, ◌<◌, ℕ, List, length, true, Option, Some, None, is_some, slice_get}
use Rattle.std.specs.List.{filter_map, range_with_len}
use Rattle.nm_schema_statements.specs.declared.row.Row.{Row}
use Rattle.nm_schema_uses.specs.Arguments.{argument_at}
use Rattle.nm_schema_tree.specs.declared.node.Node.{Node}
use Rattle.nm_schema_tree.specs.declared.node.NodeKind.{NodeKind}
use Rattle.nm_schema_nodes.specs.declared.instance.Instance.{Instance}
use Rattle.nm_schema_faults.specs.Facts.{Facts}
use Rattle.nm_schema.specs.Kind.{kind_of}
use Rattle.nm_schema.specs.Choices.{module_name, case_of}

-- a node by what it is, where that is known
abbrev pub node_with : List Row → Facts → ℕ → Instance → Option NodeKind → Option Node
node_with rows facts x node None = None
node_with rows facts x node (Some k) =
    Some (record {
      parent = node.parent;
      case_in = case_of rows facts x node;
      «module» = module_name rows node.owner;
      name = argument_at rows node.row;
      kind = k;
    })

-- a node by its row, where there is one
abbrev pub node_by : List Row → Facts → ℕ → Instance → Option Row → Option Node
node_by rows facts x node None = None
node_by rows facts x node (Some r) = node_with rows facts x node (kind_of rows facts x node r.word)

-- the node of an instance, where there is one
abbrev pub node_in : List Row → Facts → ℕ → Option Instance → Option Node
node_in rows facts x None = None
node_in rows facts x (Some node) = node_by rows facts x node (slice_get rows node.row)

-- node x: with its parent, its case, the module whose tree it is in, its name and its kind; none where something that it rests on isn't known
unfoldable pub node_of : List Row → Facts → ℕ → Option Node
node_of rows facts x = node_in rows facts x (slice_get facts.nodes x)

-- the nodes of the given modules that are known, in order: each is where nothing is wrong with the modules
unfoldable pub known_nodes : List Row → Facts → List Node
known_nodes rows facts = filter_map (node_of rows facts) (range_with_len 0 (length facts.nodes))

-- each node is known
abbrev pub AreKnown : List Row → Facts → Type 0
AreKnown rows facts = (x : ℕ) → x < length facts.nodes → is_some (node_of rows facts x) ≡ true

-- these are the first n nodes, all of them known
pub record AreNodes (rows : List Row) (facts : Facts) (n : ℕ) (nodes : List Node) : Type 0 where
  pub size : length nodes ≡ n
  pub each : (x : ℕ) → x < n → slice_get nodes x ≡ node_of rows facts x
  pub all : nodes ≡ filter_map (node_of rows facts) (range_with_len 0 n)
