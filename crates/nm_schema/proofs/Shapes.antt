-- What nodes are, by the words of their rows.
use Rattle.std.proofs.Common.{◌≡◌, ℕ, List, Bool, true, false, cond, Option, Some, None, refl}
use Rattle.std.specs.Prelude.{is_some}
use Rattle.nm_schema_statements.specs.declared.row.Row.{Row}
use Rattle.nm_schema_statements.specs.declared.word.Word.{Word}
use Rattle.nm_schema_statements.specs.declared.word.Word.TheVariants as word
use Rattle.nm_schema_statements.specs.Rows.{first_below}
use Rattle.nm_types.specs.declared.value.Value.{Value}
use Rattle.nm_types.specs.LeafType.{TypeOfLeaf}
use Rattle.nm_schema_tree.specs.declared.node.Elements.{Elements}
use Rattle.nm_schema_tree.specs.declared.node.NodeKind.{NodeKind}
use Rattle.nm_schema_tree.specs.declared.node.NodeKind.TheVariants as kind
use Rattle.nm_schema_tree.specs.declared.node.Reference.{Reference}
use Rattle.nm_schema_nodes.specs.declared.instance.Instance.{Instance}
use Rattle.nm_schema_leafref.specs.Target.{type_of_node}
use Rattle.nm_schema_faults.specs.Facts.{Facts, definitions, tree}
use Rattle.nm_schema.specs.Kind.{kind_of, container_of, is_filled, leaf_of, leaf_typed, leaf_with, default_in, is_mandatory, reference_of, leaf_list_of, leaf_list_with, elements_of, list_of, list_with, keys_in, groups_in}

-- the word of a row, and what its node is
pub data IsShape (rows : List Row) (facts : Facts) (x : ℕ) (place : Instance) (w : Word) (k : NodeKind) : Type 0 where
  container : (p : Bool) → w ≡ word.Container → k ≡ kind.Container p → IsShape rows facts x place w k
  leaf : (t : TypeOfLeaf) (d : Option Value) (m : Bool) (r : Option Reference) → w ≡ word.Leaf → k ≡ kind.Leaf t d m r → type_of_node (definitions rows) (tree rows facts) x ≡ Some t
      → default_in rows facts place t ≡ Some d → reference_of rows facts x ≡ Some r → IsShape rows facts x place w k
  leaf_list : (t : TypeOfLeaf) (r : Option Reference) (e : Elements) → w ≡ word.LeafList → k ≡ kind.LeafList t r e → type_of_node (definitions rows) (tree rows facts) x ≡ Some t
      → reference_of rows facts x ≡ Some r → IsShape rows facts x place w k
  listed : (keys : List ℕ) (u : List (List ℕ)) (e : Elements) → w ≡ word.List → k ≡ kind.List keys u e → keys_in rows facts x place.row ≡ Some keys
      → groups_in rows facts x place.row ≡ Some u → IsShape rows facts x place w k

module _ (rows : List Row) (facts : Facts) (x : ℕ) (place : Instance) (k : NodeKind) where
  container_shape : (b p : Bool) → cond b (Some (kind.Container p)) None ≡ Some k → IsShape rows facts x place word.Container k
  container_shape true p e = container p refl (cc)
  container_shape false p e = absurd (cc)

  leaf_shape : (t : TypeOfLeaf) (d : Option (Option Value)) (m : Bool) (r : Option (Option Reference)) → type_of_node (definitions rows) (tree rows facts) x ≡ Some t → default_in rows facts place t ≡ d → reference_of rows facts x ≡ r
      → leaf_with t d m r ≡ Some k → IsShape rows facts x place word.Leaf k
  leaf_shape t None m r is of to e = absurd (cc)
  leaf_shape t (Some d) m None is of to e = absurd (cc)
  leaf_shape t (Some d) m (Some r) is of to e = leaf t d m r refl (cc) is of to

  typed_shape : (o : Option TypeOfLeaf) → type_of_node (definitions rows) (tree rows facts) x ≡ o → leaf_typed rows facts x place o ≡ Some k → IsShape rows facts x place word.Leaf k
  typed_shape None is e = absurd (cc)
  typed_shape (Some t) is e = leaf_shape t (default_in rows facts place t) (is_mandatory rows facts place) (reference_of rows facts x) is refl refl e

  leaf_list_shape : (o : Option TypeOfLeaf) (r : Option (Option Reference)) (n : Elements) → type_of_node (definitions rows) (tree rows facts) x ≡ o → reference_of rows facts x ≡ r → leaf_list_with o r n ≡ Some k → IsShape rows facts x place word.LeafList k
  leaf_list_shape None r n is to e = absurd (cc)
  leaf_list_shape (Some t) None n is to e = absurd (cc)
  leaf_list_shape (Some t) (Some r) n is to e = leaf_list t r n refl (cc) is to

  list_shape : (b : Bool) (keys : Option (List ℕ)) (groups : Option (List (List ℕ))) (n : Elements) → keys_in rows facts x place.row ≡ keys → groups_in rows facts x place.row ≡ groups → cond b (list_with keys groups n) None ≡ Some k
      → IsShape rows facts x place word.List k
  list_shape false keys groups n is are e = absurd (cc)
  list_shape true None groups n is are e = absurd (cc)
  list_shape true (Some keys) None n is are e = absurd (cc)
  list_shape true (Some keys) (Some groups) n is are e = listed keys groups n refl (cc) is are

  -- what a node is, by the word of its row
  pub shape : (w : Word) → kind_of rows facts x place w ≡ Some k → IsShape rows facts x place w k
  unfolding container_of leaf_of leaf_list_of list_of
  shape word.Container e = container_shape (is_filled rows place.row) (is_some (first_below rows place.row word.Presence)) e
  shape word.Leaf e = typed_shape (type_of_node (definitions rows) (tree rows facts) x) refl e
  shape word.LeafList e = leaf_list_shape (type_of_node (definitions rows) (tree rows facts) x) (reference_of rows facts x) (elements_of rows place.row) refl refl e
  shape word.List e = list_shape (is_filled rows place.row) (keys_in rows facts x place.row) (groups_in rows facts x place.row) (elements_of rows place.row) refl refl e
  shape _ e = absurd (cc)
