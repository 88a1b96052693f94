-- The defaults of a tree, and which of its nodes are keys (RFC 7950 sections 7.6.4 and 7.8.2).
use Rattle.std.proofs.Common.{◌≡◌, ◌∙◌, ◌<◌, ℕ, List, [], ◌∷◌, length, Bool, true, false, cond, ◌||◌, ◌==◌, Option, Some, None, Ok, Err, inl, inr, slice_get, refl, sym, ap, subst, arith}
use Rattle.std.specs.Prelude.{Contains, is_some}
use Rattle.std.specs.List.{list_any}
use Rattle.std.proofs.lemmas.Bool.Decides.{nat_tests}
use Rattle.std.proofs.lemmas.Grind.{common_steps}
use Rattle.std.proofs.lemmas.Option.{same_Some}
use Rattle.nm_base.specs.Numbers.{is_among}
use Rattle.nm_schema_statements.specs.declared.row.Row.{Row}
use Rattle.nm_schema_statements.specs.declared.word.Word.{Word}
use Rattle.nm_types.specs.declared.value.Value.{Value}
use Rattle.nm_types.specs.declared.fault.ValueFault.TheVariants.{OutOfRange}
use Rattle.nm_types.specs.LeafType.{TypeOfLeaf}
use Rattle.nm_types.specs.Limits.{meets_limits}
use Rattle.nm_types.specs.Reading.{spelled, judged}
use Rattle.nm_types.proofs.Readings.{spelled-sound, limits-sound}
use Rattle.nm_schema_typing.specs.Defaults.{default_of as default_of_row}
use Rattle.nm_schema_keys.specs.Keys.{has_row, has_known, keys_of}
use Rattle.nm_schema_nodes.specs.declared.instance.Instance.{Instance}
use Rattle.nm_schema_nodes.specs.Expansion.{row_in, row_of, IsExpansion}
use Rattle.nm_schema_tree.specs.declared.node.Node.{Node}
use Rattle.nm_schema_tree.specs.declared.node.NodeKind.{NodeKind}
use Rattle.nm_schema_tree.specs.Nodes.{parent_of as above_of, parent_in, type_of, type_in, default_of, keys_of as keys_of_node, keys_in as keys_in_node, keys_at, is_key}
use Rattle.nm_schema_faults.specs.Facts.{Facts, definitions, standing}
use Rattle.nm_schema_faults.specs.Misfit.{keys_above, row_above, is_key_node}
use Rattle.nm_schema.specs.Kind.{value_in, value_of, default_in, nodes_named, keys_in}
use Rattle.nm_schema.specs.Node.{node_of}
use Rattle.nm_schema.specs.Whole.{IsValueOf, IsDefault}
use Rattle.nm_schema.proofs.Elements.{here, later, nothing, first_or_later}
use Rattle.nm_schema.specs.Faultless.{AreFaultless}
use Rattle.nm_schema.proofs.Faultless.{within}
use Rattle.nm_schema.proofs.Claims.{AreOrderly}
use Rattle.nm_schema.proofs.Shapes.{IsShape, container, leaf, leaf_list, listed}
use Rattle.nm_schema.proofs.Keys.{key_rows}
use Rattle.nm_schema.proofs.Nodes.{placed, some_of, given_shape, parent_there, IsKeyNode, ArePaired, key_nodes}

-- ---- defaults

read_value : (t : TypeOfLeaf) (text : Option (List ℕ)) (v : Value) → value_of t text ≡ Some (Some v) → IsValueOf t v
read_value t None v e = absurd (let no = same_Some None (Some v) e in cc)
read_value t (Some text) v e = by (spelled t.kind text) refl e
  where
    on : (w : Value) (b : Bool) → spelled t.kind text ≡ Some w → meets_limits t w ≡ b → value_in (cond b (Ok w) (Err OutOfRange)) ≡ Some (Some v) → IsValueOf t v
    on w false is meets f = absurd (cc)
    on w true is meets f =
        let same : w ≡ v = same_Some w v (same_Some (Some w) (Some v) f) in
        record { text = text; spelled = spelled-sound t.kind text v (is ∙ ap (λ (x : Value). Some x) same); within = limits-sound t v (sym (ap (meets_limits t) same) ∙ meets) }

    by : (o : Option Value) → spelled t.kind text ≡ o → value_in (judged t o) ≡ Some (Some v) → IsValueOf t v
    by None is f = absurd (cc)
    by (Some w) is f = on w (meets_limits t w) is refl f

keyless_value : (b : Bool) (t : TypeOfLeaf) (text : Option (List ℕ)) (v : Value) → cond b (Some None) (value_of t text) ≡ Some (Some v) → (b ≡ false) × IsValueOf t v
keyless_value true t text v e = absurd (let no = same_Some None (Some v) e in cc)
keyless_value false t text v e = (refl, read_value t text v e)

-- node x has a default: it is no key, and the default is a value of its type
pub record IsDefaulted (rows : List Row) (facts : Facts) (place : Instance) (k : NodeKind) (v : Value) : Type 0 where
  pub leaf_type : TypeOfLeaf
  pub own : type_of k ≡ Some leaf_type
  pub keyless : is_key_node rows facts place ≡ false
  pub value : IsValueOf leaf_type v

pub defaulted : (rows : List Row) (facts : Facts) (x : ℕ) (place : Instance) (w : Word) (k : NodeKind) (v : Value) → IsShape rows facts x place w k → default_of k ≡ Some v → IsDefaulted rows facts place k v
unfolding default_in
defaulted rows facts x place w k v (container p is e) h = let no : None ≡ Some v = sym (ap default_of e) ∙ h in absurd (cc)
defaulted rows facts x place w k v (listed keys u n is e y z) h = let no : None ≡ Some v = sym (ap default_of e) ∙ h in absurd (cc)
defaulted rows facts x place w k v (leaf_list t to n is e y f) h = let no : None ≡ Some v = sym (ap default_of e) ∙ h in absurd (cc)
defaulted rows facts x place w k v (leaf t d m to is e y l f) h =
    let same : d ≡ Some v = sym (ap default_of e) ∙ h in
    let r = keyless_value (is_key_node rows facts place) t (default_of_row rows (definitions rows) place.row) v (l ∙ ap (λ (o : Option Value). Some o) same) in
    record { leaf_type = t; own = ap type_of e; keyless = r.0; value = r.1 }

-- ---- keys

among_these : (x : ℕ) (ys : List ℕ) → is_among x ys ≡ true → Contains ys x
unfolding is_among
among_these x [] e = absurd (cc)
among_these x (y ∷ ys) e = by (y == x) refl (among_these x ys) e
  where
    number : (y == x) ≡ true → y ≡ x
    number f = grind (arith, nat_tests)

    by : (b : Bool) → (y == x) ≡ b → (list_any (λ j. j == x) ys ≡ true → Contains ys x) → (b || list_any (λ j. j == x) ys) ≡ true → Contains (y ∷ ys) x
    by true is rest f = here y x ys (number is)
    by false is rest f = later y x ys (rest f)

pub has_this : (ns : List ℕ) (i : ℕ) → Contains ns i → has_row ns i ≡ true
has_this [] i c = absurd (nothing i c)
has_this (n ∷ ns) i c = elim (first_or_later n i ns c) [
  | inl same ↦ left (i == n) (has_row ns i) (let at : i ≡ n = sym same in grind (arith, common_steps))
  | inr d ↦ right (i == n) (has_row ns i) (has_this ns i d)
]
  where
    left : (a b : Bool) → a ≡ true → (a || b) ≡ true
    left true b e = refl
    left false b e = absurd (cc)

    right : (a b : Bool) → b ≡ true → (a || b) ≡ true
    right true b e = refl
    right false b e = e

-- a row that is one of the key leafs of the list that its node stands in tells that the node is a key
key_told : (rows : List Row) (facts : Facts) (place : Instance) (q : ℕ) (a : Instance) (leafs : List ℕ) → place.parent ≡ Some q → slice_get facts.nodes q ≡ Some a → keys_of rows (definitions rows) (standing facts) a.row ≡ Some leafs → Contains leafs place.row
    → is_key_node rows facts place ≡ true
unfolding is_key_node row_of
key_told rows facts place q a leafs parent there are among =
    ap (λ (o : Option ℕ). has_known (keys_above rows facts (row_above facts.nodes o)) place.row) parent
    ∙ ap (λ (o : Option Instance). has_known (keys_above rows facts (row_in o)) place.row) there
    ∙ ap (λ (o : Option (List ℕ)). has_known o place.row) are
    ∙ has_this leafs place.row among

module _ (rows : List Row) (facts : Facts) (all : AreFaultless rows facts) (order : AreOrderly rows (definitions rows)) (expansion : IsExpansion rows (definitions rows) facts.nodes) (known : (x : ℕ) → x < length facts.nodes → is_some (node_of rows facts x) ≡ true) where
  of_pair : (x z : ℕ) (ks ys : List ℕ) → ArePaired rows facts all order expansion known x ks ys → Contains ys z → (k : ℕ) × Contains ks k × IsKeyNode rows facts all order expansion known x k z
  of_pair x z ks [] pairs c = absurd (nothing z c)
  of_pair x z [] (y ∷ ys) pairs c = absurd pairs
  of_pair x z (k ∷ ks) (y ∷ ys) pairs c = elim (first_or_later y z ys c) [
    | inl same ↦ (k, here k k ks refl, subst (λ (v : ℕ). IsKeyNode rows facts all order expansion known x k v) same pairs.0)
    | inr d ↦ let r = of_pair x z ks ys pairs.1 d in (r.0, later k r.0 ks r.1, r.2)
  ]

  -- the row of a key of list q is one of its key leafs
  pub record IsKeyRow (q z : ℕ) (a : Instance) (place : Instance) : Type 0 where
    pub leafs : List ℕ
    pub leafs_are : keys_of rows (definitions rows) (standing facts) a.row ≡ Some leafs
    pub among : Contains leafs place.row

  key_row : (q z : ℕ) (a place : Instance) (keys : List ℕ) (o : Option (List ℕ)) → slice_get facts.nodes q ≡ Some a → slice_get facts.nodes z ≡ Some place → keys_of rows (definitions rows) (standing facts) a.row ≡ o → nodes_named rows facts q o ≡ Some keys
      → Contains keys z → IsKeyRow q z a place
  key_row q z a place keys None is there of e c = absurd (cc)
  key_row q z a place keys (Some leafs) is there of e c =
      let h = key_rows rows (definitions rows) a.row leafs (standing facts) of in
      let pairs = key_nodes rows facts all order expansion known q a leafs is h leafs keys (λ k d. d) e in
      let r = of_pair q z leafs keys pairs c in
      let same : r.2.place.place ≡ place = same_Some r.2.place.place place (sym r.2.place.there ∙ there) in
      record { leafs = leafs; leafs_are = of; among = subst (λ (k : ℕ). Contains leafs k) (sym r.2.row_is ∙ ap (λ (i : Instance). i.row) same) r.1 }

  key_by : (q z : ℕ) (a place : Instance) (w : Word) (k : NodeKind) → slice_get facts.nodes q ≡ Some a → slice_get facts.nodes z ≡ Some place → IsShape rows facts q a w k → is_among z (keys_of_node k) ≡ true → IsKeyRow q z a place
  unfolding keys_in
  key_by q z a place w k is there (container p i e) h = absurd (nothing z (among_these z [] (sym (ap (λ (m : NodeKind). is_among z (keys_of_node m)) e) ∙ h)))
  key_by q z a place w k is there (leaf t d m to i e y l f) h = absurd (nothing z (among_these z [] (sym (ap (λ (m : NodeKind). is_among z (keys_of_node m)) e) ∙ h)))
  key_by q z a place w k is there (leaf_list t to n i e y f) h = absurd (nothing z (among_these z [] (sym (ap (λ (m : NodeKind). is_among z (keys_of_node m)) e) ∙ h)))
  key_by q z a place w k is there (listed keys u n i e s g) h =
      key_row q z a place keys (keys_of rows (definitions rows) (standing facts) a.row) is there refl s (among_these z keys (sym (ap (λ (m : NodeKind). is_among z (keys_of_node m)) e) ∙ h))

  module _ (nodes : List Node) (at : (x : ℕ) (n : Node) → node_of rows facts x ≡ Some n → slice_get nodes x ≡ Some n) where
    key_below : (x : ℕ) (place : Instance) (o : Option ℕ) → slice_get facts.nodes x ≡ Some place → place.parent ≡ o → is_among x (keys_at nodes o) ≡ true → is_key_node rows facts place ≡ true
    key_below x place None there parent h = absurd (nothing x (among_these x [] h))
    key_below x place (Some q) there parent h =
        let a = parent_there rows facts all order expansion x q place there parent in
        let m = some_of (node_of rows facts q) (known q (within facts.nodes q a.0 a.1)) in
        let p = placed rows facts q m.0 m.1 in
        let same : p.place ≡ a.0 = same_Some p.place a.0 (sym p.there ∙ a.1) in
        let keys : is_among x (keys_of_node m.0.kind) ≡ true = sym (ap (λ (n : Option Node). is_among x (keys_in_node n)) (at q m.0 m.1)) ∙ h in
        let r = key_by q x p.place place p.row.word m.0.kind p.there there (given_shape rows facts all order expansion q m.0 p) keys in
        key_told rows facts place q p.place r.leafs parent p.there r.leafs_are r.among

    pub default_node : (x : ℕ) (n : Node) (v : Value) → node_of rows facts x ≡ Some n → default_of n.kind ≡ Some v → IsDefault nodes x v
    default_node x n v e h =
        let p = placed rows facts x n e in
        let d = defaulted rows facts x p.place p.row.word n.kind v (given_shape rows facts all order expansion x n p) h in
        record { leaf_type = d.leaf_type; own = ap type_in (at x n e) ∙ d.own; value = d.value }

    pub bare_key : (x : ℕ) (n : Node) → node_of rows facts x ≡ Some n → is_key nodes x ≡ true → default_of n.kind ≡ None
    bare_key x n e key = by (default_of n.kind) refl
      where
        by : (o : Option Value) → default_of n.kind ≡ o → o ≡ None
        by None is = refl
        by (Some v) is =
            let p = placed rows facts x n e in
            let d = defaulted rows facts x p.place p.row.word n.kind v (given_shape rows facts all order expansion x n p) is in
            let up : above_of nodes x ≡ p.place.parent = ap parent_in (at x n e) ∙ p.parent in
            let yes = key_below x p.place p.place.parent p.there refl (sym (ap (λ (o : Option ℕ). is_among x (keys_at nodes o)) up) ∙ key) in
            let no : true ≡ false = sym yes ∙ d.keyless in
            absurd (cc)
