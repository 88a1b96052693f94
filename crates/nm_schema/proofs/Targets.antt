-- What the leafrefs of a tree lead to.
use Rattle.std.proofs.Common.{◌≡◌, ◌∙◌, ◌<◌, ℕ, List, length, true, Option, Some, None, slice_get, refl, sym, ap}
use Rattle.std.specs.Prelude.{is_some}
use Rattle.std.proofs.lemmas.Option.{same_Some}
use Rattle.nm_schema_statements.specs.declared.row.Row.{Row}
use Rattle.nm_schema_statements.specs.declared.word.Word.{Word}
use Rattle.nm_types.specs.LeafType.{TypeOfLeaf}
use Rattle.nm_schema_nodes.specs.declared.instance.Instance.{Instance}
use Rattle.nm_schema_nodes.specs.Expansion.{row_in, row_of, IsExpansion}
use Rattle.nm_schema_tree.specs.declared.node.Node.{Node}
use Rattle.nm_schema_tree.specs.declared.node.NodeKind.{NodeKind}
use Rattle.nm_schema_tree.specs.declared.node.Reference.{Reference}
use Rattle.nm_schema_tree.specs.Nodes.{parent_of as above_of, parent_in, type_of, type_in, reference_of as reference_of_node}
use Rattle.nm_schema_leafref.specs.declared.led.Led.{Led}
use Rattle.nm_schema_leafref.specs.declared.led.Led.TheVariants as led
use Rattle.nm_schema_leafref.specs.Place.{is_leaf, is_leaf_in, is_leaf_at, is_leaf_node}
use Rattle.nm_schema_leafref.specs.Walk.{led_to}
use Rattle.nm_schema_leafref.specs.Target.{type_of_node, up_of}
use Rattle.nm_schema_faults.specs.Facts.{Facts, definitions, tree}
use Rattle.nm_schema.specs.Kind.{referred, reference_of}
use Rattle.nm_schema.specs.Node.{node_of}
use Rattle.nm_schema.specs.Whole.{risen, IsLed}
use Rattle.nm_schema.specs.Faultless.{AreFaultless}
use Rattle.nm_schema.proofs.Faultless.{within}
use Rattle.nm_schema.proofs.Claims.{AreOrderly}
use Rattle.nm_schema.proofs.Shapes.{IsShape, container, leaf, leaf_list, listed}
use Rattle.nm_schema.proofs.Nodes.{placed, some_of, given_shape, parent_before, parent_there}
use Rattle.nm_schema.proofs.Leading.{alike, HoldsWithin, turns}

-- ---- what a node says

-- node x is a leafref: its type, and where it leads
record IsReferring (rows : List Row) (facts : Facts) (x : ℕ) (k : NodeKind) (r : Reference) : Type 0 where
  leaf_type : TypeOfLeaf
  of_kind : type_of k ≡ Some leaf_type
  of_node : type_of_node (definitions rows) (tree rows facts) x ≡ Some leaf_type
  leads : reference_of rows facts x ≡ Some (Some r)

referring : (rows : List Row) (facts : Facts) (x : ℕ) (place : Instance) (w : Word) (k : NodeKind) (r : Reference) → IsShape rows facts x place w k → reference_of_node k ≡ Some r → IsReferring rows facts x k r
referring rows facts x place w k r (container p is e) h = let no : None ≡ Some r = sym (ap reference_of_node e) ∙ h in absurd (cc)
referring rows facts x place w k r (listed keys u n is e y z) h = let no : None ≡ Some r = sym (ap reference_of_node e) ∙ h in absurd (cc)
referring rows facts x place w k r (leaf t d m to is e y l f) h =
    let same : to ≡ Some r = sym (ap reference_of_node e) ∙ h in
    record { leaf_type = t; of_kind = ap type_of e; of_node = y; leads = f ∙ ap (λ (o : Option Reference). Some o) same }
referring rows facts x place w k r (leaf_list t to n is e y f) h =
    let same : to ≡ Some r = sym (ap reference_of_node e) ∙ h in
    record { leaf_type = t; of_kind = ap type_of e; of_node = y; leads = f ∙ ap (λ (o : Option Reference). Some o) same }

referred_to : (up : ℕ) (o : Option Led) (r : Reference) → referred up o ≡ Some (Some r) → (o ≡ Some (led.Node r.target)) × (r.up ≡ up)
referred_to up None r e = absurd (cc)
referred_to up (Some led.Missing) r e = absurd (cc)
referred_to up (Some led.Unknown) r e = absurd (cc)
referred_to up (Some (led.Node y)) r e =
    let made : Reference = record { target = y; up = up } in
    let same : made ≡ r = same_Some made r (same_Some (Some made) (Some r) e) in
    (ap (λ (s : Reference). Some (led.Node s.target)) same, ap (λ (s : Reference). s.up) (sym same))

-- a leaf or leaf-list has the type of its node
typed : (rows : List Row) (facts : Facts) (y : ℕ) (place : Instance) (w : Word) (k : NodeKind) → is_leaf w ≡ true → IsShape rows facts y place w k → type_of k ≡ type_of_node (definitions rows) (tree rows facts) y
typed rows facts y place w k has (container p is e) = absurd (let no = rw is at has in cc)
typed rows facts y place w k has (listed keys u n is e s z) = absurd (let no = rw is at has in cc)
typed rows facts y place w k has (leaf t d m r is e s l f) = ap type_of e ∙ sym s
typed rows facts y place w k has (leaf_list t r n is e s f) = ap type_of e ∙ sym s

leaf_row : (rows : List Row) (nodes : List Instance) (o : Option Instance) → is_leaf_at rows (row_in o) ≡ true → (c : Instance) × (o ≡ Some c) × (is_leaf_in (slice_get rows c.row) ≡ true)
leaf_row rows nodes None e = absurd (cc)
leaf_row rows nodes (Some c) e = (c, refl, e)

module _ (rows : List Row) (facts : Facts) (all : AreFaultless rows facts) (order : AreOrderly rows (definitions rows)) (expansion : IsExpansion rows (definitions rows) facts.nodes) (known : (x : ℕ) → x < length facts.nodes → is_some (node_of rows facts x) ≡ true) where
  holds : HoldsWithin facts.nodes
  holds i p c is parent =
      let a = parent_there rows facts all order expansion i p c is parent in
      ((parent_before rows facts all order expansion i p c is parent).0, a.0, a.1)

  module _ (nodes : List Node) (at : (x : ℕ) (n : Node) → node_of rows facts x ≡ Some n → slice_get nodes x ≡ Some n) where
    stand : (x : ℕ) (c : Instance) → slice_get facts.nodes x ≡ Some c → above_of nodes x ≡ c.parent
    stand x c is =
        let n = some_of (node_of rows facts x) (known x (within facts.nodes x c is)) in
        let p = placed rows facts x n.0 n.1 in
        let same : p.place ≡ c = same_Some p.place c (sym p.there ∙ is) in
        ap parent_in (at x n.0 n.1) ∙ p.parent ∙ ap (λ (i : Instance). i.parent) same

    target_typed : (y : ℕ) → is_leaf_node (tree rows facts) y ≡ true → type_in (slice_get nodes y) ≡ type_of_node (definitions rows) (tree rows facts) y
    unfolding is_leaf_node row_of
    target_typed y e =
        let row = leaf_row rows facts.nodes (slice_get facts.nodes y) e in
        let n = some_of (node_of rows facts y) (known y (within facts.nodes y row.0 row.1)) in
        let p = placed rows facts y n.0 n.1 in
        let same : row.0 ≡ p.place = same_Some row.0 p.place (sym row.1 ∙ p.there) in
        let has : is_leaf p.row.word ≡ true = sym (ap is_leaf_in (ap (λ (i : Instance). slice_get rows i.row) same ∙ p.row_there)) ∙ row.2 in
        ap type_in (at y n.0 n.1) ∙ typed rows facts y p.place p.row.word n.0.kind has (given_shape rows facts all order expansion y n.0 p)

    pub led_node : (x : ℕ) (n : Node) (r : Reference) → node_of rows facts x ≡ Some n → reference_of_node n.kind ≡ Some r → IsLed nodes x r
    unfolding reference_of
    led_node x n r e h =
        let p = placed rows facts x n e in
        let is = referring rows facts x p.place p.row.word n.kind r (given_shape rows facts all order expansion x n p) h in
        let to = referred_to (up_of (definitions rows) (tree rows facts) x) (led_to (definitions rows) (tree rows facts) x) r is.leads in
        let turn = turns (tree rows facts) nodes stand holds (definitions rows) x r.target p.place p.there to.0 in
        record {
          leaf_type = is.leaf_type;
          own = ap type_in (at x n e) ∙ is.of_kind;
          target = target_typed r.target turn.leaf ∙ alike (definitions rows) (tree rows facts) x r.target is.leaf_type to.0 is.of_node;
          turn = turn.turn;
          down = turn.down;
          up = ap (λ (k : ℕ). risen nodes k (Some x)) to.1 ∙ turn.up_is;
          above = turn.down_is;
        }
