-- The nodes of the given modules: their names, what they stand in, their keys and their types.
use Rattle.std.proofs.Common.{◌≡◌, ◌∙◌, ◌<◌, ◌⊎◌, inl, inr, ℕ, suc, List, [], ◌∷◌, length, map, Bool, true, false, cond, Option, Some, None, IfSome, slice_get, refl, sym, ap, subst, arith}
use Rattle.std.specs.Prelude.{Contains, is_some}
use Rattle.std.proofs.lemmas.Bool.{and_parts}
use Rattle.std.proofs.lemmas.Option.{same_Some}
use Rattle.nm_types.specs.LeafType.{TypeOfLeaf}
use Rattle.nm_types.specs.Spells.{IsOnce, HasDistinctNames}
use Rattle.nm_schema_statements.specs.declared.row.Row.{Row}
use Rattle.nm_schema_statements.specs.declared.word.Word.{Word}
use Rattle.nm_schema_statements.specs.declared.word.Word.TheVariants as word
use Rattle.nm_schema_statements.specs.Flaw.{is_data}
use Rattle.nm_schema_statements.specs.Rows.{has_word}
use Rattle.nm_graph.specs.Value.{all_there}
use Rattle.nm_schema_uses.specs.Arguments.{argument_at}
use Rattle.nm_schema_uses.specs.Holding.{is_holder as is_holder_word, is_uses, holding}
use Rattle.nm_schema_nodes.specs.declared.instance.Instance.{Instance}
use Rattle.nm_schema_nodes.specs.Expansion.{kept_below, kept_in, is_grown, module_row, grown_members, is_below, children, tops, row_in, row_of, owner_in, owner_of, IsExpansion}
use Rattle.nm_schema_nodes.specs.Named.{has_name, is_child_named, child_named}
use Rattle.nm_schema_nodes.proofs.Unfolding.{split}
use Rattle.nm_schema_tree.specs.declared.node.Node.{Node}
use Rattle.nm_schema_tree.specs.declared.node.NodeKind.{NodeKind}
use Rattle.nm_schema_tree.specs.Nodes.{type_of, keys_of as keys_of_node}
use Rattle.nm_schema_tree.proofs.Positions.{first_passes}
use Rattle.nm_path.specs.Form as form
use Rattle.nm_path.specs.Spelling.{name_in, name_at}
use Rattle.nm_path.specs.Sound.{HaveOneName, is_holder, is_leaf, IsLeafIn, AreKeys, HasKeys, HasLow, HasHeldBounds}
use Rattle.nm_schema_keys.specs.Keys.{keys_of}
use Rattle.nm_schema_names.specs.Named.{is_marker}
use Rattle.nm_schema_faults.specs.Facts.{Facts, definitions, standing, tree}
use Rattle.nm_schema.specs.Kind.{kind_of, named_as, nodes_named, keys_in}
use Rattle.nm_schema.specs.Choices.{module_name, case_of}
use Rattle.nm_schema.specs.Node.{node_with, node_by, node_in, node_of}
use Rattle.nm_schema.proofs.Elements.{here, later, nothing, first_or_later, of_map, in_map}
use Rattle.nm_schema.proofs.Onces.{same_bytes}
use Rattle.nm_schema.proofs.Valued.{distinct}
use Rattle.nm_schema.specs.Faultless.{AreFaultless}
use Rattle.nm_schema.proofs.Faultless.{within}
use Rattle.nm_schema.proofs.Naming.{node_named}
use Rattle.nm_schema.proofs.Claims.{AreOrderly}
use Rattle.nm_schema.proofs.Siblings.{Stands, plain_stands, kept_stands, one_stands, kept_once}
use Rattle.nm_schema.proofs.Types.{type_yang}
use Rattle.nm_schema.proofs.Givens.{parent_is, module_is, one_module}
use Rattle.nm_schema.proofs.Shapes.{IsShape, container, leaf, leaf_list, listed, shape}
use Rattle.nm_schema.proofs.Keys.{HasKeyRows, key_rows}
use Rattle.nm_schema.proofs.Beside as beside

-- ---- places

-- node n is node x, with its place and its row
pub record IsPlaced (rows : List Row) (facts : Facts) (x : ℕ) (n : Node) : Type 0 where
  pub place : Instance
  pub row : Row
  pub there : slice_get facts.nodes x ≡ Some place
  pub row_there : slice_get rows place.row ≡ Some row
  pub kind_is : kind_of rows facts x place row.word ≡ Some n.kind
  pub parent : n.parent ≡ place.parent
  pub owner : n.«module» ≡ module_name rows place.owner
  pub name : n.name ≡ argument_at rows place.row

module _ (rows : List Row) (facts : Facts) (x : ℕ) (n : Node) where
  with_kind : (place : Instance) (row : Row) (k : Option NodeKind) → slice_get facts.nodes x ≡ Some place → slice_get rows place.row ≡ Some row → kind_of rows facts x place row.word ≡ k
      → node_with rows facts x place k ≡ Some n → IsPlaced rows facts x n
  with_kind place row None there row_there is e = absurd (cc)
  with_kind place row (Some k) there row_there is e =
      let made : Node = record { parent = place.parent; case_in = case_of rows facts x place; «module» = module_name rows place.owner; name = argument_at rows place.row; kind = k } in
      let same : made ≡ n = cc in
      record {
        place = place;
        row = row;
        there = there;
        row_there = row_there;
        kind_is = is ∙ ap (λ (m : Node). Some m.kind) same;
        parent = ap (λ (m : Node). m.parent) (sym same);
        owner = ap (λ (m : Node). m.«module») (sym same);
        name = ap (λ (m : Node). m.name) (sym same);
      }

  by_row : (place : Instance) (o : Option Row) → slice_get facts.nodes x ≡ Some place → slice_get rows place.row ≡ o → node_by rows facts x place o ≡ Some n → IsPlaced rows facts x n
  by_row place None there is e = absurd (cc)
  by_row place (Some row) there is e = with_kind place row (kind_of rows facts x place row.word) there is refl e

  in_place : (o : Option Instance) → slice_get facts.nodes x ≡ o → node_in rows facts x o ≡ Some n → IsPlaced rows facts x n
  in_place None is e = absurd (cc)
  in_place (Some place) is e = by_row place (slice_get rows place.row) is refl e

  pub placed : node_of rows facts x ≡ Some n → IsPlaced rows facts x n
  unfolding node_of
  placed e = in_place (slice_get facts.nodes x) refl e

-- ---- the nodes that stand in one place

-- of the nodes in one place, one has a name
only_one : (rows : List Row) (f : ℕ → Option ℕ) (cs ks : List ℕ) (x y a b : ℕ) → map f cs ≡ map (λ row. Some row) ks → IsOnce (map (argument_at rows) ks) → f x ≡ Some a → f y ≡ Some b → argument_at rows a ≡ argument_at rows b
    → Contains cs x → Contains cs y → x ≡ y
only_one rows f [] ks x y a b e once fx fy same c d = absurd (nothing x c)
only_one rows f (z ∷ cs) [] x y a b e once fx fy same c d = absurd (cc)
only_one rows f (z ∷ cs) (k ∷ ks) x y a b e once fx fy same c d =
    let head : f z ≡ Some k = cc in
    let rest : map f cs ≡ map (λ row. Some row) ks = cc in
    by head rest (only_one rows f cs ks x y a b rest once.1 fx fy same) (first_or_later z x cs c) (first_or_later z y cs d)
  where
    other : (v w : ℕ) → f z ≡ Some k → map f cs ≡ map (λ row. Some row) ks → f v ≡ Some w → Contains cs v → argument_at rows k ≡ argument_at rows w → ⊥
    other v w head rest fv c named =
        let r = of_map (λ (row : ℕ). Some row) ks (Some w) (subst (λ (o : Option ℕ). Contains (map (λ row. Some row) ks) o) fv (subst (λ (l : List (Option ℕ)). Contains l (f v)) rest (in_map f cs v c))) in
        let at : r.0 ≡ w = same_Some r.0 w r.2 in
        once.0 (subst (λ (t : List ℕ). Contains (map (argument_at rows) ks) t) (ap (argument_at rows) at ∙ sym named) (in_map (argument_at rows) ks r.0 r.1))

    by : f z ≡ Some k → map f cs ≡ map (λ row. Some row) ks → (Contains cs x → Contains cs y → x ≡ y) → (z ≡ x) ⊎ Contains cs x → (z ≡ y) ⊎ Contains cs y → x ≡ y
    by head rest more (inl i) (inl j) = sym i ∙ j
    by head rest more (inl i) (inr d) =
        let at : k ≡ a = same_Some k a (sym head ∙ ap f i ∙ fx) in
        absurd (other y b head rest fy d (ap (argument_at rows) at ∙ same))
    by head rest more (inr c) (inl j) =
        let at : k ≡ b = same_Some k b (sym head ∙ ap f j ∙ fy) in
        absurd (other x a head rest fx c (ap (argument_at rows) at ∙ sym same))
    by head rest more (inr c) (inr d) = more c d

pub some_of : {X : Type 0} (o : Option X) → is_some o ≡ true → (x : X) × (o ≡ Some x)
some_of None e = absurd (cc)
some_of (Some x) e = (x, refl)

data_word : {rows : List Row} {facts : Facts} {x : ℕ} {place : Instance} {w : Word} {k : NodeKind} → IsShape rows facts x place w k → is_data w ≡ true
data_word (container p is k) = rw is refl
data_word (leaf t d m r is k y l f) = rw is refl
data_word (leaf_list t r e is k y f) = rw is refl
data_word (listed keys u e is k y z) = rw is refl

-- ---- what holds no nodes

none_led : (rows : List Row) (groupings : List (Option ℕ)) (i : ℕ) (r : Row) → is_holder_word r.word ≡ false → is_uses r.word ≡ false → slice_get rows i ≡ Some r → holding rows groupings i ≡ []
unfolding holding
none_led rows groupings i r h u is = rw (is, h, u) refl

-- ---- the nodes

module _ (rows : List Row) (facts : Facts) (all : AreFaultless rows facts) (order : AreOrderly rows (definitions rows)) (expansion : IsExpansion rows (definitions rows) facts.nodes) where
  pub given_shape : (x : ℕ) (n : Node) (p : IsPlaced rows facts x n) → IsShape rows facts x p.place p.row.word n.kind
  given_shape x n p = shape rows facts x p.place n.kind p.row.word p.kind_is

  pub given_named : (x : ℕ) (n : Node) → node_of rows facts x ≡ Some n → (form.is_identifier n.name ≡ true) × (form.is_identifier n.«module» ≡ true)
  given_named x n e =
      let p = placed rows facts x n e in
      let m = module_is rows facts all p.place.owner (expansion.owners x p.place p.there) in (
        ap form.is_identifier p.name ∙ node_named rows facts p.place.row p.row p.row_there (all.each p.place.row p.row p.row_there) (data_word (given_shape x n p)),
        ap form.is_identifier p.owner ∙ m.0,
      )

  -- no node of a given module is of the module that is added
  pub given_unmarked : (x : ℕ) (n : Node) → node_of rows facts x ≡ Some n → is_marker n.«module» ≡ false
  given_unmarked x n e =
      let p = placed rows facts x n e in
      ap is_marker p.owner ∙ (module_is rows facts all p.place.owner (expansion.owners x p.place p.there)).1

  in_children : (x p : ℕ) (c : Instance) → slice_get facts.nodes x ≡ Some c → c.parent ≡ Some p → Contains (children facts.nodes p) x
  in_children x p c is parent = beside.in_children facts.nodes x p c is parent

  in_tops : (x : ℕ) (c : Instance) → slice_get facts.nodes x ≡ Some c → c.parent ≡ None → Contains (tops facts.nodes c.owner) x
  in_tops x c is parent = beside.in_tops facts.nodes x c is parent

  pub row_at_place : (x : ℕ) (c : Instance) → slice_get facts.nodes x ≡ Some c → row_of facts.nodes x ≡ Some c.row
  unfolding row_of
  row_at_place x c is = ap row_in is

  grown_once : (m : ℕ) → IsOnce (map (argument_at rows) (grown_members rows (definitions rows) m))
  unfolding grown_members
  grown_once m = by (is_grown rows (definitions rows) m) (module_row rows m)
    where
      by : (b : Bool) (o : Option ℕ) → IsOnce (map (argument_at rows) (cond b (kept_in rows (definitions rows) o) []))
      by false o = tt
      by true None = tt
      by true (Some i) = kept_once rows (definitions rows) order i

  apart_top : (x y : ℕ) (c d : Instance) → slice_get facts.nodes x ≡ Some c → slice_get facts.nodes y ≡ Some d → c.parent ≡ None → d.parent ≡ None → c.owner ≡ d.owner → argument_at rows c.row ≡ argument_at rows d.row → x ≡ y
  apart_top x y c d is at top other owner name =
      only_one rows (row_of facts.nodes) (tops facts.nodes c.owner) (grown_members rows (definitions rows) c.owner) x y c.row d.row (expansion.outermost c.owner (expansion.owners x c is)) (grown_once c.owner)
      (row_at_place x c is) (row_at_place y d at) name (in_tops x c is top) (subst (λ (m : ℕ). Contains (tops facts.nodes m) y) (sym owner) (in_tops y d at other))

  pub parent_before : (x p : ℕ) (c : Instance) → slice_get facts.nodes x ≡ Some c → c.parent ≡ Some p → (p < x) × (owner_of facts.nodes p ≡ Some c.owner)
  parent_before x p c is e = subst (λ (o : Option ℕ). IfSome o (λ p. (p < x) × (owner_of facts.nodes p ≡ Some c.owner))) e (expansion.parents x c is)

  -- a node that a node stands in
  pub parent_there : (x p : ℕ) (c : Instance) → slice_get facts.nodes x ≡ Some c → c.parent ≡ Some p → (a : Instance) × (slice_get facts.nodes p ≡ Some a)
  unfolding owner_of
  parent_there x p c is e = by (slice_get facts.nodes p) refl (parent_before x p c is e).1
    where
      by : (o : Option Instance) → slice_get facts.nodes p ≡ o → owner_in o ≡ Some c.owner → (a : Instance) × (slice_get facts.nodes p ≡ Some a)
      by None at f = absurd (cc)
      by (Some a) at f = (a, at)

  apart_below : (x y p : ℕ) (c d : Instance) → slice_get facts.nodes x ≡ Some c → slice_get facts.nodes y ≡ Some d → c.parent ≡ Some p → d.parent ≡ Some p → argument_at rows c.row ≡ argument_at rows d.row → x ≡ y
  apart_below x y p c d is at one other name =
      let a = parent_there x p c is one in
      only_one rows (row_of facts.nodes) (children facts.nodes p) (kept_below rows (definitions rows) a.0.row) x y c.row d.row (expansion.below p a.0 a.1) (kept_once rows (definitions rows) order a.0.row)
      (row_at_place x c is) (row_at_place y d at) name (in_children x p c is one) (in_children y p d at other)

  apart_by : (x y : ℕ) (c d : Instance) (o : Option ℕ) → slice_get facts.nodes x ≡ Some c → slice_get facts.nodes y ≡ Some d → c.parent ≡ o → d.parent ≡ o → c.owner ≡ d.owner → argument_at rows c.row ≡ argument_at rows d.row → x ≡ y
  apart_by x y c d None is at one other owner name = apart_top x y c d is at one other owner name
  apart_by x y c d (Some p) is at one other owner name = apart_below x y p c d is at one other name

  pub given_apart : (x y : ℕ) (n m : Node) → node_of rows facts x ≡ Some n → node_of rows facts y ≡ Some m → HaveOneName n m → x ≡ y
  given_apart x y n m e f h =
      let p = placed rows facts x n e in
      let q = placed rows facts y m f in
      let owner = one_module rows facts all p.place.owner q.place.owner (expansion.owners x p.place p.there) (expansion.owners y q.place q.there) (sym p.owner ∙ h.«module» ∙ q.owner) in
      apart_by x y p.place q.place p.place.parent p.there q.there refl (sym q.parent ∙ sym h.parent ∙ p.parent) owner (sym p.name ∙ h.name ∙ q.name)

  -- what a node stands in comes before it, and is of its module
  pub given_parent : (x p : ℕ) (n : Node) → node_of rows facts x ≡ Some n → n.parent ≡ Some p → p < x
  given_parent x p n e parent = let q = placed rows facts x n e in (parent_before x p q.place q.there (sym q.parent ∙ parent)).0

  pub given_module : (x p : ℕ) (n m : Node) → node_of rows facts x ≡ Some n → n.parent ≡ Some p → node_of rows facts p ≡ Some m → m.«module» ≡ n.«module»
  unfolding owner_of
  given_module x p n m e parent f =
      let q = placed rows facts x n e in
      let a = placed rows facts p m f in
      let owner : Some a.place.owner ≡ Some q.place.owner = sym (ap owner_in a.there) ∙ (parent_before x p q.place q.there (sym q.parent ∙ parent)).1 in
      a.owner ∙ ap (module_name rows) (same_Some a.place.owner q.place.owner owner) ∙ sym q.owner

  -- the row of a node is kept below that of the node that it stands in
  pub kept_in_parent : (x p : ℕ) (c a : Instance) → slice_get facts.nodes x ≡ Some c → c.parent ≡ Some p → slice_get facts.nodes p ≡ Some a → Contains (kept_below rows (definitions rows) a.row) c.row
  kept_in_parent x p c a is parent at =
      let ks = kept_below rows (definitions rows) a.row in
      let shown : Contains (map (λ row. Some row) ks) (row_of facts.nodes x) = subst (λ (l : List (Option ℕ)). Contains l (row_of facts.nodes x)) (expansion.below p a at) (in_map (row_of facts.nodes) (children facts.nodes p) x (in_children x p c is parent)) in
      let r = of_map (λ (row : ℕ). Some row) ks (Some c.row) (subst (λ (o : Option ℕ). Contains (map (λ row. Some row) ks) o) (row_at_place x c is) shown) in
      subst (λ (k : ℕ). Contains ks k) (same_Some r.0 c.row r.2) r.1

  empty_row : (a : Instance) (r : Row) (k : ℕ) → slice_get rows a.row ≡ Some r → is_holder_word r.word ≡ false → is_uses r.word ≡ false → Contains (kept_below rows (definitions rows) a.row) k → ⊥
  empty_row a r k is h u c =
      let m = kept_stands rows (definitions rows) a.row k c in
      nothing m.part (subst (λ (l : List ℕ). Contains l m.part) (none_led rows (definitions rows) a.row r h u is) m.among)

  holder_by : (p : ℕ) (a : Instance) (r : Row) (k : NodeKind) (c : ℕ) → slice_get rows a.row ≡ Some r → Contains (kept_below rows (definitions rows) a.row) c → IsShape rows facts p a r.word k → is_holder k ≡ true
  holder_by p a r k c is in_it (container b w e) = rw e refl
  holder_by p a r k c is in_it (listed keys u n w e y z) = rw e refl
  holder_by p a r k c is in_it (leaf t d m f w e y l z) = absurd (empty_row a r c is (rw w refl) (rw w refl) in_it)
  holder_by p a r k c is in_it (leaf_list t f n w e y z) = absurd (empty_row a r c is (rw w refl) (rw w refl) in_it)

  pub given_holder : (x p : ℕ) (n m : Node) → node_of rows facts x ≡ Some n → n.parent ≡ Some p → node_of rows facts p ≡ Some m → is_holder m.kind ≡ true
  given_holder x p n m e parent f =
      let q = placed rows facts x n e in
      let a = placed rows facts p m f in
      holder_by p a.place a.row m.kind q.place.row a.row_there (kept_in_parent x p q.place a.place q.there (sym q.parent ∙ parent) a.there) (given_shape p m a)

  -- ---- types

  yang_by : (x : ℕ) (place : Instance) (w : Word) (k : NodeKind) (t : TypeOfLeaf) → IsShape rows facts x place w k → type_of k ≡ Some t → HasLow t.kind × HasDistinctNames t.kind × HasHeldBounds t.kind
  yang_by x place w k t (container p is e) h = let no : None ≡ Some t = sym (ap type_of e) ∙ h in absurd (cc)
  yang_by x place w k t (listed keys u n is e y z) h = let no : None ≡ Some t = sym (ap type_of e) ∙ h in absurd (cc)
  yang_by x place w k t (leaf s d m r is e y l f) h = let same : Some s ≡ Some t = sym (ap type_of e) ∙ h in type_yang (definitions rows) (tree rows facts) x t (y ∙ same)
  yang_by x place w k t (leaf_list s r n is e y f) h = let same : Some s ≡ Some t = sym (ap type_of e) ∙ h in type_yang (definitions rows) (tree rows facts) x t (y ∙ same)

  pub given_type : (x : ℕ) (n : Node) (t : TypeOfLeaf) → node_of rows facts x ≡ Some n → type_of n.kind ≡ Some t → HasLow t.kind × HasDistinctNames t.kind × HasHeldBounds t.kind
  given_type x n t e h = let p = placed rows facts x n e in yang_by x p.place p.row.word n.kind t (given_shape x n p) h

  -- ---- keys

  pub leaf_by : (y : ℕ) (c : Instance) (r : Row) (k : NodeKind) → has_word word.Leaf (Some r) ≡ true → IsShape rows facts y c r.word k → is_leaf k ≡ true
  leaf_by y c r k has (leaf t d m f w e u l z) = rw e refl
  leaf_by y c r k has (container p w e) = absurd (let no = rw w at has in cc)
  leaf_by y c r k has (listed keys u n w e s z) = absurd (let no = rw w at has in cc)
  leaf_by y c r k has (leaf_list t f n w e u z) = absurd (let no = rw w at has in cc)

  module _ (known : (x : ℕ) → x < length facts.nodes → is_some (node_of rows facts x) ≡ true) where
    -- node y is that of row k, directly in node x
    pub record IsRowNode (x k y : ℕ) : Type 0 where
      pub node : Node
      pub there : node_of rows facts y ≡ Some node
      pub place : IsPlaced rows facts y node
      pub row_is : place.place.row ≡ k
      pub row_there : slice_get rows k ≡ Some place.row
      pub parent : node.parent ≡ Some x
      pub name : node.name ≡ argument_at rows k

    -- the node in node x that has the name of a row that stands in its row is the node of that row
    pub row_node : (x : ℕ) (a : Instance) (k y : ℕ) → slice_get facts.nodes x ≡ Some a → Stands rows (definitions rows) a.row k → child_named rows facts.nodes x (argument_at rows k) ≡ Some y → IsRowNode x k y
    unfolding child_named is_below has_name
    row_node x a k y at stands e =
        let h = first_passes (is_child_named rows x (argument_at rows k)) facts.nodes y e in
        let both = and_parts (is_below x h.x) (has_name rows (argument_at rows k) h.x) h.passes in
        let parent : h.x.parent ≡ Some x = parent_is h.x.parent x both.0 in
        let named : argument_at rows h.x.row ≡ argument_at rows k = same_bytes (argument_at rows h.x.row) (argument_at rows k) both.1 in
        let n = some_of (node_of rows facts y) (known y (within facts.nodes y h.x h.here)) in
        let p = placed rows facts y n.0 n.1 in
        let same : p.place ≡ h.x = same_Some p.place h.x (sym p.there ∙ h.here) in
        let member = kept_stands rows (definitions rows) a.row h.x.row (kept_in_parent y x h.x a h.here parent at) in
        let row : h.x.row ≡ k = one_stands rows (definitions rows) order a.row h.x.row k member stands named in
        record {
          node = n.0;
          there = n.1;
          place = p;
          row_is = ap (λ (i : Instance). i.row) same ∙ row;
          row_there = ap (slice_get rows) (sym row ∙ ap (λ (i : Instance). i.row) (sym same)) ∙ p.row_there;
          parent = p.parent ∙ ap (λ (i : Instance). i.parent) same ∙ parent;
          name = p.name ∙ ap (λ (i : Instance). argument_at rows i.row) same ∙ named;
        }

    -- node y is the leaf of row k, directly in node x
    pub record IsKeyNode (x k y : ℕ) : Type 0 where
      pub node : Node
      pub there : node_of rows facts y ≡ Some node
      pub place : IsPlaced rows facts y node
      pub row_is : place.place.row ≡ k
      pub leaf_is : is_leaf node.kind ≡ true
      pub parent : node.parent ≡ Some x
      pub name : node.name ≡ argument_at rows k

    key_node : (x : ℕ) (a : Instance) (k y : ℕ) (leafs : List ℕ) → slice_get facts.nodes x ≡ Some a → HasKeyRows rows (definitions rows) a.row leafs → Contains leafs k
        → child_named rows facts.nodes x (argument_at rows k) ≡ Some y → IsKeyNode x k y
    key_node x a k y leafs at keys among e =
        let it = keys.each k among in
        let n = row_node x a k y at (plain_stands rows (definitions rows) a.row keys.nodes keys.known k it.among) e in
        let has : has_word word.Leaf (Some n.place.row) ≡ true = sym (ap (has_word word.Leaf) n.row_there) ∙ it.leaf in
        record {
          node = n.node;
          there = n.there;
          place = n.place;
          row_is = n.row_is;
          leaf_is = leaf_by y n.place.place n.place.row n.node.kind has (given_shape y n.node n.place);
          parent = n.parent;
          name = n.name;
        }

    -- each of these is the node of one of those
    abbrev pub ArePaired : ℕ → List ℕ → List ℕ → Type 0
    ArePaired x [] [] = Unit {0}
    ArePaired x [] (y ∷ ys) = ⊥
    ArePaired x (k ∷ ks) [] = ⊥
    ArePaired x (k ∷ ks) (y ∷ ys) = IsKeyNode x k y × ArePaired x ks ys

    -- the nodes of key leafs
    pub key_nodes : (x : ℕ) (a : Instance) (leafs : List ℕ) → slice_get facts.nodes x ≡ Some a → HasKeyRows rows (definitions rows) a.row leafs
        → (ks ys : List ℕ) → ((k : ℕ) → Contains ks k → Contains leafs k) → all_there (map (named_as rows facts x) ks) ≡ Some ys → ArePaired x ks ys
    unfolding named_as
    key_nodes x a leafs at keys [] ys among e = let none : [] ≡ ys = cc in subst (λ (l : List ℕ). ArePaired x [] l) none tt
    key_nodes x a leafs at keys (k ∷ ks) ys among e =
        let s = split (named_as rows facts x) k ks ys e in
        let first = key_node x a k s.first leafs at keys (among k (here k k ks refl)) s.first_is in
        let rest = key_nodes x a leafs at keys ks s.others (λ j c. among j (later k j ks c)) s.others_are in
        subst (λ (l : List ℕ). ArePaired x (k ∷ ks) l) (sym s.known_is) (first, rest)

    module _ (nodes : List Node) (at : (x : ℕ) (n : Node) → node_of rows facts x ≡ Some n → slice_get nodes x ≡ Some n) where
      names_are : (x : ℕ) (ks ys : List ℕ) → ArePaired x ks ys → map (λ k. name_at nodes k) ys ≡ map (argument_at rows) ks
      names_are x [] [] pairs = refl
      names_are x [] (y ∷ ys) pairs = absurd pairs
      names_are x (k ∷ ks) [] pairs = absurd pairs
      names_are x (k ∷ ks) (y ∷ ys) pairs =
          let first : name_at nodes y ≡ argument_at rows k = ap name_in (at y pairs.0.node pairs.0.there) ∙ pairs.0.name in
          ap (λ (w : List ℕ). w ∷ map (λ k. name_at nodes k) ys) first ∙ ap (λ (l : List (List ℕ)). argument_at rows k ∷ l) (names_are x ks ys pairs.1)

      as_long : (x : ℕ) (ks ys : List ℕ) → ArePaired x ks ys → length ys ≡ length ks
      as_long x [] [] pairs = refl
      as_long x [] (y ∷ ys) pairs = absurd pairs
      as_long x (k ∷ ks) [] pairs = absurd pairs
      as_long x (k ∷ ks) (y ∷ ys) pairs = ap suc (as_long x ks ys pairs.1)

      leaf_in : (x k y z : ℕ) → IsKeyNode x k y → y ≡ z → IsLeafIn nodes x z
      leaf_in x k y z node same = subst (λ (v : ℕ). IsLeafIn nodes x v) same (record { node = node.node; there = at y node.node node.there; leaf = node.leaf_is; within = node.parent })

      each_leaf : (x : ℕ) (ks ys : List ℕ) (z : ℕ) → ArePaired x ks ys → Contains ys z → IsLeafIn nodes x z
      each_leaf x ks [] z pairs c = absurd (nothing z c)
      each_leaf x [] (y ∷ ys) z pairs c = absurd pairs
      each_leaf x (k ∷ ks) (y ∷ ys) z pairs c = elim (first_or_later y z ys c) [
        | inl same ↦ leaf_in x k y z pairs.0 same
        | inr d ↦ each_leaf x ks ys z pairs.1 d
      ]

      listed_keys : (x : ℕ) (leafs keys : List ℕ) → 0 < length leafs → IsOnce (map (argument_at rows) leafs) → ArePaired x leafs keys → AreKeys nodes x keys × IsOnce (map (λ k. name_at nodes k) keys)
      listed_keys x leafs keys some once pairs =
          let names : IsOnce (map (λ k. name_at nodes k) keys) = subst (λ (l : List (List ℕ)). IsOnce l) (sym (names_are x leafs keys pairs)) once in
          (record { some = omega (arith, some, as_long x leafs keys pairs); leafs = λ z c. each_leaf x leafs keys z pairs c; once = distinct (λ k. name_at nodes k) keys names }, names)

      key_list : (x : ℕ) (a : Instance) (keys : List ℕ) (o : Option (List ℕ)) → slice_get facts.nodes x ≡ Some a → keys_of rows (definitions rows) (standing facts) a.row ≡ o → nodes_named rows facts x o ≡ Some keys
          → AreKeys nodes x keys × IsOnce (map (λ k. name_at nodes k) keys)
      key_list x a keys None is of e = absurd (cc)
      key_list x a keys (Some leafs) is of e =
          let h = key_rows rows (definitions rows) a.row leafs (standing facts) of in
          listed_keys x leafs keys h.some h.once (key_nodes x a leafs is h leafs keys (λ k c. c) e)

      keys_by : (x : ℕ) (a : Instance) (w : Word) (k : NodeKind) → slice_get facts.nodes x ≡ Some a → IsShape rows facts x a w k → HasKeys nodes x k × IsOnce (map (λ k. name_at nodes k) (keys_of_node k))
      unfolding keys_in
      keys_by x a w k is (container p i e) = rw e (tt, tt)
      keys_by x a w k is (leaf t d m r i e y l f) = rw e (tt, tt)
      keys_by x a w k is (leaf_list t r n i e y f) = rw e (tt, tt)
      keys_by x a w k is (listed keys u n i e s z) = rw e (key_list x a keys (keys_of rows (definitions rows) (standing facts) a.row) is refl s)

      -- the keys of a list are leafs in it that have names of their own
      pub given_keys : (x : ℕ) (n : Node) → node_of rows facts x ≡ Some n → HasKeys nodes x n.kind × IsOnce (map (λ k. name_at nodes k) (keys_of_node n.kind))
      given_keys x n e = let p = placed rows facts x n e in keys_by x p.place p.row.word n.kind p.there (given_shape x n p)
