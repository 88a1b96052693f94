-- The tree that modules give is whole.
use Rattle.std.proofs.Common.{◌≡◌, ◌<◌, ℕ, List, ◌++◌, length, true, Option, Some, None, Result, Ok, Err, IfOk, slice_get, refl, sym, subst}
use Rattle.std.specs.Prelude.{Contains, is_some}
use Rattle.nm_yang.specs.Tree.{Tree}
use Rattle.nm_schema_statements.specs.declared.row.Row.{Row}
use Rattle.nm_schema_statements.specs.Rows.{rows_of}
use Rattle.nm_schema_nodes.specs.Expansion.{IsExpansion}
use Rattle.nm_types.specs.declared.value.Value.{Value}
use Rattle.nm_schema_tree.specs.declared.node.Node.{Node}
use Rattle.nm_schema_tree.specs.declared.node.Reference.{Reference}
use Rattle.nm_schema_tree.specs.Nodes.{SchemaTree, reference_of, reference_in, uniques_of, uniques_in, default_of, default_in, is_key}
use Rattle.nm_schema_faults.specs.declared.fault.Fault.{Fault}
use Rattle.nm_schema_faults.specs.Facts.{Facts, AreFacts, definitions}
use Rattle.nm_schema_faults.specs.Fault.{first_fault}
use Rattle.nm_schema.specs.declared.fault.SchemaFault.{SchemaFault}
use Rattle.nm_schema.specs.Node.{node_of, known_nodes}
use Rattle.nm_schema.specs.Marker.{changes_node, applied_node, change_node, marker_nodes}
use Rattle.nm_schema.specs.Whole.{IsLed, IsLeafBelow, IsDefault, AreWhole}
use Rattle.nm_schema.specs.Built.{tree_of, outcome, built, AreBuilt, Builds, Answered}
use Rattle.nm_schema.proofs.Claims.{AreOrderly}
use Rattle.nm_schema.proofs.Elements.{nothing}
use Rattle.nm_schema.specs.Faultless.{AreFaultless}
use Rattle.nm_schema.proofs.Known.{faultless, order, node_known}
use Rattle.nm_schema.proofs.Sound.{IsCase, given, changes, applied, change, case, at}
use Rattle.nm_schema.proofs.Targets.{led_node}
use Rattle.nm_schema.proofs.Uniques.{unique_leaf}
use Rattle.nm_schema.proofs.Defaults.{default_node, bare_key}

module _ (rows : List Row) (facts : Facts) (all : AreFaultless rows facts) (order : AreOrderly rows (definitions rows)) (expansion : IsExpansion rows (definitions rows) facts.nodes) (known : (x : ℕ) → x < length facts.nodes → is_some (node_of rows facts x) ≡ true) where
  abbrev nodes : List Node
  nodes = known_nodes rows facts ++ marker_nodes (length (known_nodes rows facts))

  there : (x : ℕ) (n : Node) → node_of rows facts x ≡ Some n → slice_get nodes x ≡ Some n
  there x n e = at rows facts all order expansion known x n e

  -- ---- leafrefs

  led_by : (i : ℕ) (n : Node) (r : Reference) → IsCase rows facts (length (known_nodes rows facts)) i n → reference_of n.kind ≡ Some r → IsLed nodes i r
  unfolding changes_node applied_node change_node
  led_by i n r (given e) h = led_node rows facts all order expansion known nodes there i n r e h
  led_by i n r (changes is e) h = absurd (let no = rw e at h in cc)
  led_by i n r (applied is e) h = absurd (let no = rw e at h in cc)
  led_by i n r (change is e) h = absurd (let no = rw e at h in cc)

  led_in : (i : ℕ) (r : Reference) (o : Option Node) → slice_get nodes i ≡ o → reference_in o ≡ Some r → IsLed nodes i r
  led_in i r None is h = absurd (cc)
  led_in i r (Some n) is h = led_by i n r (case rows facts all order expansion known i n is) h

  -- ---- what is unique

  unique_in : (i k : ℕ) (n : Node) (group : List ℕ) → IsCase rows facts (length (known_nodes rows facts)) i n → Contains (uniques_of n.kind) group → Contains group k → IsLeafBelow nodes i k
  unfolding changes_node applied_node change_node
  unique_in i k n group (given e) c d = unique_leaf rows facts all order expansion known nodes there i n group k e c d
  unique_in i k n group (changes is e) c d = absurd (nothing group (subst (λ (m : Node). Contains (uniques_of m.kind) group) e c))
  unique_in i k n group (applied is e) c d = absurd (nothing group (subst (λ (m : Node). Contains (uniques_of m.kind) group) e c))
  unique_in i k n group (change is e) c d = absurd (nothing group (subst (λ (m : Node). Contains (uniques_of m.kind) group) e c))

  unique_at : (i k : ℕ) (group : List ℕ) (o : Option Node) → slice_get nodes i ≡ o → Contains (uniques_in o) group → Contains group k → IsLeafBelow nodes i k
  unique_at i k group None is c d = absurd (nothing group c)
  unique_at i k group (Some n) is c d = unique_in i k n group (case rows facts all order expansion known i n is) c d

  -- ---- defaults

  default_by : (i : ℕ) (n : Node) (v : Value) → IsCase rows facts (length (known_nodes rows facts)) i n → default_of n.kind ≡ Some v → IsDefault nodes i v
  unfolding changes_node applied_node change_node
  default_by i n v (given e) h = default_node rows facts all order expansion known nodes there i n v e h
  default_by i n v (changes is e) h = absurd (let no = rw e at h in cc)
  default_by i n v (applied is e) h = absurd (let no = rw e at h in cc)
  default_by i n v (change is e) h = absurd (let no = rw e at h in cc)

  default_at_node : (i : ℕ) (v : Value) (o : Option Node) → slice_get nodes i ≡ o → default_in o ≡ Some v → IsDefault nodes i v
  default_at_node i v None is h = absurd (cc)
  default_at_node i v (Some n) is h = default_by i n v (case rows facts all order expansion known i n is) h

  bare_by : (i : ℕ) (n : Node) → IsCase rows facts (length (known_nodes rows facts)) i n → is_key nodes i ≡ true → default_of n.kind ≡ None
  unfolding changes_node applied_node change_node
  bare_by i n (given e) key = bare_key rows facts all order expansion known nodes there i n e key
  bare_by i n (changes is e) key = rw e refl
  bare_by i n (applied is e) key = rw e refl
  bare_by i n (change is e) key = rw e refl

  bare_at : (i : ℕ) (o : Option Node) → slice_get nodes i ≡ o → is_key nodes i ≡ true → default_in o ≡ None
  bare_at i None is key = refl
  bare_at i (Some n) is key = bare_by i n (case rows facts all order expansion known i n is) key

  whole : AreWhole (tree_of rows facts).nodes
  whole = record {
    targets = λ i r h. led_in i r (slice_get nodes i) refl h;
    uniques = λ i k group c d. unique_at i k group (slice_get nodes i) refl c d;
    defaults = λ i v h. default_at_node i v (slice_get nodes i) refl h;
    keys = λ i key. bare_at i (slice_get nodes i) refl key;
  }

-- ---- the law

of_outcome : (modules : List Tree) (facts : Facts) (t : SchemaTree) → AreFacts (rows_of modules) facts → (f : Option Fault) → first_fault (rows_of modules) facts ≡ f → Ok t ≡ outcome (rows_of modules) facts f → AreWhole t.nodes
of_outcome modules facts t are (Some f) none e = absurd (cc)
of_outcome modules facts t are None none e =
    let rows = rows_of modules in
    let same : t ≡ tree_of rows facts = cc in
    let all = faultless modules facts none in
    let it : AreWhole (tree_of rows facts).nodes = whole rows facts all (order modules facts are all) are.nodes (node_known modules facts are all) in
    subst (λ (s : SchemaTree). AreWhole s.nodes) (sym same) it

-- the tree that modules give is whole
pub modules_whole : (modules : List Tree) (t : SchemaTree) → Builds modules (Ok t) → AreWhole t.nodes
unfolding built
modules_whole modules t b = of_outcome modules b.facts t b.facts_are (first_fault (rows_of modules) b.facts) refl b.given_is

-- a tree that is answered is whole
pub answer_whole : (modules : List Tree) (rows : List Row) (answer : Result SchemaTree SchemaFault) → rows ≡ rows_of modules → Answered rows answer → IfOk answer (λ t. AreWhole t.nodes)
answer_whole modules rows (Ok t) is a = modules_whole modules t (subst (λ (r : List Row). AreBuilt r (Ok t)) is a)
answer_whole modules rows (Err fault) is a = tt
