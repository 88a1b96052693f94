-- The nodes of an edit of a schema tree, and the rows that come of them.
use Rattle.std.proofs.Common.{◌≡◌, ◌⊎◌, List, [], ◌∷◌, ◌++◌, Bool, true, false, Option, Some, None, if◌then◌else◌, refl, sym, ap, ◌∙◌, subst, inl, inr, append_assoc}
use Rattle.std.specs.List.{AllByRecursion, flat_map}
use Rattle.std.specs.Option.{option_or}
use Rattle.std.specs.Ordering.{eq_by_cmp}
use Rattle.nm_types.specs.Path.{PathStep, path_cmp, Choice, whole, keys, entry}
use Rattle.nm_types.specs.PathLaws.{same_path_decides}
use Rattle.nm_types.specs.declared.value.Value.{Value}
use Rattle.nm_types.specs.declared.value.Value.TheVariants.{Present}
use Rattle.nm_proto.specs.declared.message.DefaultOperation.{DefaultOperation}
use Rattle.nm_schema_tree.specs.declared.node.NodeKind.{NodeKind}
use Rattle.nm_schema_tree.specs.declared.node.NodeKind.TheVariants.{Container, Leaf, LeafList, List as ListOf}
use Rattle.nm_schema_tree.specs.Nodes.{SchemaTree, is_key}
use Rattle.nm_path.specs.Spelling.{node_of}
use Rattle.nm_validate_rules.specs.Standing.{is_chosen, is_chosen_in, is_chosen_at, is_row, is_row_in, is_row_at, is_row_from, is_row_path}
use Rattle.nm_validate_rules.specs.Values.{is_same_path}
use Rattle.nm_validate_rules.specs.Violated.{last_chosen}
use Rattle.nm_validate_rules.proofs.Among.{Among, any_passes}
use Rattle.nm_validate_rules.proofs.Placed.{any_at, both_true as both_pass}
use Rattle.nm_edit.specs.declared.operation.Operation.{Operation}
use Rattle.nm_edit.specs.declared.edit.EditNode.{EditNode}
use Rattle.nm_edit.specs.declared.standing.Standing.{Standing}
use Rattle.nm_edit.specs.declared.act.Act.{Act}
use Rattle.nm_edit.specs.Words.{brings}
use Rattle.nm_edit.specs.Standing.{Sayings, said, standing}
use Rattle.nm_edit.specs.Acts.{act_of, acts_at, rows_if, coming}
use Rattle.nm_edit.specs.EditOf.{HasWorth, IsNamed, IsEditOf, names}
use Rattle.nm_edit.specs.Laws.{last_at}

-- ---- paths

pub same_path : (p q : List PathStep) → is_same_path p q ≡ true → p ≡ q
same_path p q e = (same_path_decides p q (eq_by_cmp path_cmp p q) refl).0 e

pub path_itself : (p q : List PathStep) → p ≡ q → is_same_path p q ≡ true
path_itself p q e = (same_path_decides p q (eq_by_cmp path_cmp p q) refl).1 e

pub last_step : (above : List PathStep) (s : PathStep) → last_chosen (above ++ s ∷ []) ≡ s.chosen
last_step [] s = refl
last_step (a ∷ []) s = refl
last_step (a ∷ b ∷ above) s = last_step (b ∷ above) s

-- ---- the rows that come

-- a row comes of a node that the edit looks at
pub record Comes (told : Sayings) (d : DefaultOperation) (nodes : List EditNode) (path : List PathStep) (value : Value) : Type 0 where
  pub node : EditNode
  pub among : Among nodes node
  pub at : node.path ≡ path
  pub looked : (standing told d path).is_cut ≡ false
  pub brought : brings (standing told d path).operation ≡ true
  pub worth : node.value ≡ Some value

record Here (s : Standing) (n : EditNode) (path : List PathStep) (value : Value) : Type 0 where
  at : n.path ≡ path
  looked : s.is_cut ≡ false
  brought : brings s.operation ≡ true
  worth : n.value ≡ Some value

module _ (path : List PathStep) (value : Value) where
  by_path : (s : Standing) (n : EditNode) (w : Value) (later : Option Value) (b : Bool) → s.is_cut ≡ false → brings s.operation ≡ true → n.value ≡ Some w → is_same_path path n.path ≡ b
      → option_or later (if b then Some w else None) ≡ Some value → (later ≡ Some value) ⊎ Here s n path value
  by_path s n w (Some y) b cut brought is same e = inl e
  by_path s n w None true cut brought is same e = inr (record { at = sym (same_path path n.path same); looked = cut; brought = brought; worth = is ∙ e })
  by_path s n w None false cut brought is same e = absurd (cc)

  by_value : (s : Standing) (n : EditNode) (rest : List (List PathStep × Value)) (c : Bool) (o : Option Value) → s.is_cut ≡ false → brings s.operation ≡ c → n.value ≡ o
      → last_at (rows_if c n.path o ++ rest) path ≡ Some value → (last_at rest path ≡ Some value) ⊎ Here s n path value
  by_value s n rest false o cut brought is e = inl e
  by_value s n rest true None cut brought is e = inl e
  by_value s n rest true (Some w) cut brought is e = by_path s n w (last_at rest path) (is_same_path path n.path) cut brought is refl e

  by_cut : (s : Standing) (n : EditNode) (more : List Act) (b : Bool) → s.is_cut ≡ b → last_at (coming ((if b then [] else act_of n s ∷ []) ++ more)) path ≡ Some value
      → (last_at (coming more) path ≡ Some value) ⊎ Here s n path value
  by_cut s n more true cut e = inl e
  by_cut s n more false cut e = by_value s n (coming more) (brings s.operation) n.value cut refl refl e

  module _ (told : Sayings) (d : DefaultOperation) where
    further : (n : EditNode) (nodes : List EditNode) → Comes told d nodes path value → Comes told d (n ∷ nodes) path value
    further n nodes h = record { node = h.node; among = inr h.among; at = h.at; looked = h.looked; brought = h.brought; worth = h.worth }

    here : (n : EditNode) (nodes : List EditNode) → Here (standing told d n.path) n path value → Comes told d (n ∷ nodes) path value
    here n nodes h = record {
      node = n;
      among = inl refl;
      at = h.at;
      looked = ap (λ p. (standing told d p).is_cut) (sym h.at) ∙ h.looked;
      brought = ap (λ p. brings (standing told d p).operation) (sym h.at) ∙ h.brought;
      worth = h.worth;
    }

    pub comes_of : (nodes : List EditNode) → last_at (coming (flat_map (acts_at told d) nodes)) path ≡ Some value → Comes told d nodes path value
    comes_of [] e = absurd (cc)
    comes_of (n ∷ nodes) e = elim (by_cut (standing told d n.path) n (flat_map (acts_at told d) nodes) (standing told d n.path).is_cut refl e) [
      | inl later ↦ further n nodes (comes_of nodes later)
      | inr now ↦ here n nodes now
    ]

-- ---- what the nodes of an edit are

pub each_of : {X : Type 0} (P : X → Type 0) (xs : List X) (x : X) → AllByRecursion P xs → Among xs x → P x
each_of P [] x h a = absurd a
each_of P (y ∷ xs) x (p, ps) (inl same) = subst P (sym same) p
each_of P (y ∷ xs) x (p, ps) (inr a) = each_of P xs x ps a

pub names_of : (nodes : List EditNode) (n : EditNode) (path : List PathStep) → Among nodes n → n.path ≡ path → names nodes path ≡ true
names_of nodes n path a e = any_at (λ m. is_same_path m.path path) nodes n a (path_itself n.path path e)

chosen_by : (o : Option Operation) (k : NodeKind) (c : Choice) (v : Option Value) → HasWorth o k c v → is_chosen k c ≡ true
chosen_by o (Container p) whole v h = refl
chosen_by o (Container p) (keys vs) v h = absurd h
chosen_by o (Container p) (entry w) v h = absurd h
chosen_by o (Leaf t d m r) whole v h = refl
chosen_by o (Leaf t d m r) (keys vs) v h = absurd h
chosen_by o (Leaf t d m r) (entry w) v h = absurd h
chosen_by o (LeafList t r e) whole v h = absurd h
chosen_by o (LeafList t r e) (keys vs) v h = absurd h
chosen_by o (LeafList t r e) (entry w) v h = refl
chosen_by o (ListOf ks u e) whole v h = absurd h
chosen_by o (ListOf ks u e) (keys vs) v h = refl
chosen_by o (ListOf ks u e) (entry w) v h = absurd h

present_by : (presence : Bool) (v : Value) → Some v ≡ (if presence then Some Present else None) → presence ≡ true
present_by true v e = refl
present_by false v e = absurd (cc)

row_by : (o : Option Operation) (k : NodeKind) (c : Choice) (v : Value) → HasWorth o k c (Some v) → is_row false k ≡ true
row_by o (Container p) whole v h = present_by p v h
row_by o (Container p) (keys vs) v h = absurd h
row_by o (Container p) (entry w) v h = absurd h
row_by o (Leaf t d m r) c v h = refl
row_by o (LeafList t r e) c v h = refl
row_by o (ListOf ks u e) c v h = refl

module _ (t : SchemaTree) (nodes : List EditNode) (edit : IsEditOf t nodes) where
  -- a node of the edit at a path
  pub record Named (path : List PathStep) : Type 0 where
    pub node : EditNode
    pub among : Among nodes node
    pub at : node.path ≡ path
    pub is : IsNamed t node

  pub named_at : (path : List PathStep) → names nodes path ≡ true → Named path
  named_at path e =
      let h = any_passes (λ m. is_same_path m.path path) nodes e in
      record { node = h.x; among = h.among; at = same_path h.x.path path h.passes; is = each_of (IsNamed t) nodes h.x edit.each h.among }

  chosen_there : (path : List PathStep) → Named path → is_chosen_at t.nodes (node_of t path) (last_chosen path) ≡ true
  chosen_there path h =
      let n = h.is in
      ap (λ p. is_chosen_at t.nodes (node_of t p) (last_chosen p)) (sym h.at)
      ∙ ap (λ o. is_chosen_at t.nodes o (last_chosen h.node.path)) n.leads
      ∙ ap (λ o. is_chosen_in o (last_chosen h.node.path)) n.there
      ∙ chosen_by h.node.operation n.node.kind (last_chosen h.node.path) h.node.value n.worth

  row_there : (path : List PathStep) (h : Named path) (v : Value) → h.node.value ≡ Some v → is_row_at t.nodes (node_of t path) ≡ true
  row_there path h v e =
      let n = h.is in
      ap (λ p. is_row_at t.nodes (node_of t p)) (sym h.at)
      ∙ ap (is_row_at t.nodes) n.leads
      ∙ ap (is_row_in (is_key t.nodes n.at)) n.there
      ∙ ap (λ b. is_row b n.node.kind) n.no_key
      ∙ row_by h.node.operation n.node.kind (last_chosen h.node.path) v (subst (λ o. HasWorth h.node.operation n.node.kind (last_chosen h.node.path) o) e n.worth)

  above_named : (above : List PathStep) (s r : PathStep) (more : List PathStep) → names nodes (above ++ s ∷ r ∷ more) ≡ true → names nodes (above ++ s ∷ []) ≡ true
  above_named [] s r more e = edit.above s [] r more e
  above_named (a ∷ above) s r more e = edit.above a (above ++ s ∷ []) r more (ap (λ (p : List PathStep). names nodes (a ∷ p)) (append_assoc above (s ∷ []) (r ∷ more)) ∙ e)

  leads_from : (above : List PathStep) (s : PathStep) (ss : List PathStep) → names nodes (above ++ s ∷ ss) ≡ true → is_row_at t.nodes (node_of t (above ++ s ∷ ss)) ≡ true → is_row_from t above (s ∷ ss) ≡ true
  leads_from above s [] e row =
      let chosen = ap (λ c. is_chosen_at t.nodes (node_of t (above ++ s ∷ [])) c) (sym (last_step above s)) ∙ chosen_there (above ++ s ∷ []) (named_at (above ++ s ∷ []) e) in
      both_pass _ _ chosen row
  leads_from above s (r ∷ more) e row =
      let named = above_named above s r more e in
      let chosen = ap (λ c. is_chosen_at t.nodes (node_of t (above ++ s ∷ [])) c) (sym (last_step above s)) ∙ chosen_there (above ++ s ∷ []) (named_at (above ++ s ∷ []) named) in
      let one = append_assoc above (s ∷ []) (r ∷ more) in
      both_pass _ _ chosen (leads_from (above ++ s ∷ []) r more (ap (names nodes) one ∙ e) (ap (λ p. is_row_at t.nodes (node_of t p)) one ∙ row))

  pub no_node : node_of t [] ≡ None
  unfolding node_of
  no_node = refl

  -- a row that comes leads to a row of the tree
  pub coming_leads : (d : DefaultOperation) (path : List PathStep) (v : Value) → Comes (said nodes) d nodes path v → is_row_path t path ≡ true
  coming_leads d [] v h =
      let is = each_of (IsNamed t) nodes h.node edit.each h.among in
      let none : None ≡ Some is.at = sym no_node ∙ ap (node_of t) (sym h.at) ∙ is.leads in
      absurd (cc)
  coming_leads d (s ∷ ss) v h =
      let path = s ∷ ss in
      let named : Named path = record { node = h.node; among = h.among; at = h.at; is = each_of (IsNamed t) nodes h.node edit.each h.among } in
      leads_from [] s ss (names_of nodes h.node path h.among h.at) (row_there path named v h.worth)
