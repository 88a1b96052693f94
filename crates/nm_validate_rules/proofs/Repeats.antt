-- Whether an entry repeats another hangs on the entries of its list and on what is read of their leafs.
use Rattle.std.proofs.Common.{◌≡◌, ℕ, List, [], ◌∷◌, ◌++◌, take, length, map, Bool, true, false, not, ◌&&◌, ◌||◌, Option, Some, None, is_some, if◌then◌else◌, slice_get, refl, sym, ap, ◌∙◌, subst, append_assoc, inl, inr}
use Rattle.std.specs.List.{list_any}
use Rattle.std.specs.Option.{option_or}
use Rattle.std.specs.Ordering.{is_lt}
use Rattle.std.specs.FinMap.{get, contains_key, keys}
use Rattle.nm_types.specs.declared.value.Value.{Value}
use Rattle.nm_types.specs.Path.{PathStep, Choice, whole, keys as by_keys, entry, path_cmp}
use Rattle.nm_schema_tree.specs.declared.node.Node.{Node}
use Rattle.nm_schema_tree.specs.declared.node.Elements.{Elements}
use Rattle.nm_schema_tree.specs.declared.node.NodeKind.{NodeKind}
use Rattle.nm_schema_tree.specs.declared.node.NodeKind.TheVariants.{Container, Leaf, LeafList, List as ListOf}
use Rattle.nm_schema_tree.specs.Nodes.{SchemaTree, is_key, default_at, uniques_of, uniques_in, is_guard, is_guard_in}
use Rattle.nm_path.specs.Spelling.{node_of}
use Rattle.nm_config.specs.Rows.{Rows}
use Rattle.nm_config.specs.Under.{is_whole}
use Rattle.nm_validate_rules.specs.declared.rule.Rule.TheVariants.{Unique}
use Rattle.nm_validate_rules.specs.Standing.{is_chosen, is_chosen_in, is_chosen_at, is_own_at, is_row_from, StandsIn}
use Rattle.nm_validate_rules.specs.Guards.{front, stands}
use Rattle.nm_validate_rules.specs.Values.{key_in_entry, leaf_value, path_in, all_there, unique_values, are_values, as_list, is_same_path, is_before, is_repeated}
use Rattle.nm_validate_rules.specs.Violated.{last_chosen, uniques_of_node, violated}
use Rattle.nm_validate_rules.proofs.Among.{Among, both, any_passes}
use Rattle.nm_validate_rules.proofs.Placed.{any_at, both_true, key_there}
use Rattle.nm_validate_rules.specs.Reads.{stands_reads, leaf_reads, entry_reads, is_beside, reads}
use Rattle.nm_validate_rules.specs.Reaches.{AgreeOn}
use Rattle.nm_validate_rules.proofs.Lists.{or_left, or_right, and_never, any_kept, any_alike, take_all}
use Rattle.nm_validate_rules.proofs.Agreeing.{Path, Test, same_path, left, right, value_agrees, keys_agree}
use Rattle.nm_validate_rules.proofs.Guarded.{stands_agrees}
use Rattle.nm_validate_rules.proofs.Entries.{same_length, same_node, leaf_begins, entry_is}

-- ---- lists with unique statements

-- a node is a list: it guards what is below it, and of it entries are chosen
record IsListed (t : SchemaTree) (o : Option ℕ) : Type 0 where
  own : is_own_at t.nodes o ≡ true
  chosen : (c : Choice) → is_chosen_at t.nodes o c ≡ true → is_whole c ≡ false

entry_chosen : (ks : List ℕ) (u : List (List ℕ)) (es : Elements) (c : Choice) → is_chosen (ListOf ks u es) c ≡ true → is_whole c ≡ false
entry_chosen ks u es whole e = absurd (cc)
entry_chosen ks u es (by_keys vs) e = refl
entry_chosen ks u es (entry v) e = refl

kind_listed : (k : NodeKind) (leafs : List ℕ) → Among (uniques_of k) leafs → (is_guard k ≡ true) × ((c : Choice) → is_chosen k c ≡ true → is_whole c ≡ false)
kind_listed (Container p) leafs a = absurd a
kind_listed (Leaf ty d m r) leafs a = absurd a
kind_listed (LeafList ty r es) leafs a = absurd a
kind_listed (ListOf ks u es) leafs a = (refl, entry_chosen ks u es)

node_listed : (t : SchemaTree) (l : ℕ) (leafs : List ℕ) (o : Option Node) → slice_get t.nodes l ≡ o → Among (uniques_in o) leafs → IsListed t (Some l)
node_listed t l leafs None is a = absurd a
node_listed t l leafs (Some n) is a =
    let h = kind_listed n.kind leafs a in
    record { own = ap is_guard_in is ∙ h.0; chosen = λ c e. h.1 c (ap (λ (m : Option Node). is_chosen_in m c) (sym is) ∙ e) }

listed : (t : SchemaTree) (o : Option ℕ) (leafs : List ℕ) → Among (uniques_of_node t o) leafs → IsListed t o
listed t None leafs a = absurd a
listed t (Some l) leafs a = node_listed t l leafs (slice_get t.nodes l) refl a

-- the last node of a row is chosen as its path says
last_from : (t : SchemaTree) (above : Path) (s : PathStep) (ss : Path) → is_row_from t above (s ∷ ss) ≡ true → is_chosen_at t.nodes (node_of t (above ++ s ∷ ss)) (last_chosen (s ∷ ss)) ≡ true
last_from t above s [] e = (both (is_chosen_at t.nodes (node_of t (above ++ s ∷ [])) s.chosen) (is_row_from t (above ++ s ∷ []) []) e).0
last_from t above s (r ∷ ss) e =
    ap (λ (p : Path). is_chosen_at t.nodes (node_of t p) (last_chosen (r ∷ ss))) (sym (append_assoc above (s ∷ []) (r ∷ ss)))
    ∙ last_from t (above ++ s ∷ []) r ss (both (is_chosen_at t.nodes (node_of t (above ++ s ∷ [])) s.chosen) (is_row_from t (above ++ s ∷ []) (r ∷ ss)) e).1

nowhere : (t : SchemaTree) → is_own_at t.nodes (node_of t []) ≡ true → ⊥
unfolding node_of
nowhere t e = cc

-- the row of a list is an entry of it
is_entry : (t : SchemaTree) (rows : Rows) → StandsIn t rows → (path : Path) → contains_key rows path ≡ true → IsListed t (node_of t path) → is_whole (last_chosen path) ≡ false
is_entry t rows stand [] there h = absurd (nowhere t h.own)
is_entry t rows stand (s ∷ ss) there h = h.chosen (last_chosen (s ∷ ss)) (last_from t [] s ss (stand.each (s ∷ ss) there))

-- ---- values of leafs

no_default : (b : Bool) → ◌≡◌ {A = Option Value} (if b then None else None) None
no_default true = refl
no_default false = refl

module _ (t : SchemaTree) (one other : Rows) where
  leaf_by : (p : Path) (k : Bool) (key d : Option Value) → AgreeOn (λ row. not k && (is_same_path p row || is_some d && stands_reads t p row)) one other
      → (if k then key else option_or (get one p) (if stands t one p && not (contains_key one p) then d else None))
      ≡ (if k then key else option_or (get other p) (if stands t other p && not (contains_key other p) then d else None))
  leaf_by p true key d agree = refl
  leaf_by p false key None agree =
      let value = value_agrees one other p (left one other (is_same_path p) (λ row. false) agree) in
      let default : ◌≡◌ {A = Option Value} (if stands t one p && not (contains_key one p) then None else None) (if stands t other p && not (contains_key other p) then None else None) =
      no_default (stands t one p && not (contains_key one p)) ∙ sym (no_default (stands t other p && not (contains_key other p))) in
      λ i. option_or (value i) (default i)
  leaf_by p false key (Some d) agree =
      let value = value_agrees one other p (left one other (is_same_path p) (stands_reads t p) agree) in
      let stand = stands_agrees t one other p (right one other (is_same_path p) (stands_reads t p) agree) in
      λ i. option_or (value i) (if stand i && not (is_some (value i)) then Some d else None)

  leaf_agrees : (p : Path) (x : ℕ) → AgreeOn (leaf_reads t p x) one other → leaf_value t one p x ≡ leaf_value t other p x
  leaf_agrees p x agree = leaf_by p (is_key t.nodes x) (key_in_entry t x (front p)) (default_at t.nodes x) agree

  leafs_agree : (e : Path) (xs : List ℕ) → AgreeOn (λ row. list_any (λ x. leaf_reads t (path_in t e x) x row) xs) one other
      → map (λ x. leaf_value t one (path_in t e x) x) xs ≡ map (λ x. leaf_value t other (path_in t e x) x) xs
  leafs_agree e [] agree = refl
  leafs_agree e (x ∷ xs) agree =
      let here = leaf_agrees (path_in t e x) x (left one other (leaf_reads t (path_in t e x) x) (λ row. list_any (λ y. leaf_reads t (path_in t e y) y row) xs) agree) in
      let more = leafs_agree e xs (right one other (leaf_reads t (path_in t e x) x) (λ row. list_any (λ y. leaf_reads t (path_in t e y) y row) xs) agree) in
      λ i. here i ∷ more i

  -- ---- one unique statement

  module _ (path : Path) (leafs : List ℕ) (is_list : IsListed t (node_of t path)) (agree : AgreeOn (λ row. is_beside path row && entry_reads t (take (length path) row) leafs row) one other) where
    -- an entry of the list of the path
    abbrev beside : Test
    beside e = is_same_path (as_list e) (as_list path) && not (is_whole (last_chosen e))

    read_in : (e row : Path) → is_same_path (as_list e) (as_list path) ≡ true → take (length e) row ≡ e → entry_reads t e leafs row ≡ true → get one row ≡ get other row
    read_in e row same begins read =
        let at : take (length path) row ≡ e = sym (ap (λ (n : ℕ). take n row) (same_length e path same)) ∙ begins in
        agree row (both_true (is_beside path row) (entry_reads t (take (length path) row) leafs row)
        (ap (λ (p : Path). is_same_path (as_list p) (as_list path)) at ∙ same) (ap (λ (p : Path). entry_reads t p leafs row) at ∙ read))

    entries_agree_at : AgreeOn beside one other
    entries_agree_at e is =
        let h = both (is_same_path (as_list e) (as_list path)) (not (is_whole (last_chosen e))) is in
        read_in e e h.0 (take_all e) (or_left (is_same_path e e) (list_any (λ x. leaf_reads t (path_in t e x) x e) leafs) (same_path e))

    not_whole : (b : Bool) → not b ≡ true → b ≡ false
    not_whole true e = absurd (cc)
    not_whole false e = refl

    values_agree : (e : Path) → beside e ≡ true → unique_values t one e leafs ≡ unique_values t other e leafs
    values_agree e is =
        let h = both (is_same_path (as_list e) (as_list path)) (not (is_whole (last_chosen e))) is in
        let own : is_own_at t.nodes (node_of t e) ≡ true = ap (is_own_at t.nodes) (same_node e path h.0 t) ∙ is_list.own in
        ap (λ (vs : List (Option Value)). all_there vs) (leafs_agree e leafs (λ row read.
        let x = any_passes (λ x. leaf_reads t (path_in t e x) x row) leafs read in
        let begins = entry_is t row e (leaf_begins t row e x.x own (not_whole (is_whole (last_chosen e)) h.1) x.passes) in
        read_in e row h.0 begins (or_right (is_same_path e row) (list_any (λ y. leaf_reads t (path_in t e y) y row) leafs) read)))

    abbrev before : Rows → List Value → Test
    before rows vs e = is_before path e && are_values vs (unique_values t rows e leafs)

    is_beside_by : (rows : Rows) → StandsIn t rows → (vs : List Value) (e : Path) → Among (keys rows) e → before rows vs e ≡ true → beside e ≡ true
    is_beside_by rows stand vs e a is =
        let h = both (is_before path e) (are_values vs (unique_values t rows e leafs)) is in
        let same = (both (is_lt (path_cmp e path)) (is_same_path (as_list e) (as_list path)) h.0).1 in
        let its : IsListed t (node_of t e) = subst (λ (o : Option ℕ). IsListed t o) (sym (same_node e path same t)) is_list in
        both_true (is_same_path (as_list e) (as_list path)) (not (is_whole (last_chosen e))) same (ap not (is_entry t rows stand e (key_there rows e a) its))

    repeated_by : StandsIn t one → StandsIn t other → (o : Option (List Value)) → is_repeated t one path leafs o ≡ is_repeated t other path leafs o
    repeated_by s r None = refl
    repeated_by s r (Some vs) =
        any_kept (before one vs) beside (keys one) (is_beside_by one s vs)
        ∙ any_alike (before one vs) (before other vs) beside (keys one) (λ e is. ap (λ (o : Option (List Value)). is_before path e && are_values vs o) (values_agree e is))
        ∙ ap (list_any (before other vs)) (keys_agree one other beside entries_agree_at)
        ∙ sym (any_kept (before other vs) beside (keys other) (is_beside_by other r vs))

    repeated_agrees : StandsIn t one → StandsIn t other → is_whole (last_chosen path) ≡ false
        → is_repeated t one path leafs (unique_values t one path leafs) ≡ is_repeated t other path leafs (unique_values t other path leafs)
    repeated_agrees s r w =
        let itself = both_true (is_same_path (as_list path) (as_list path)) (not (is_whole (last_chosen path))) (same_path (as_list path)) (ap not w) in
        ap (is_repeated t one path leafs) (values_agree path itself) ∙ repeated_by s r (unique_values t other path leafs)

  -- ---- all unique statements

  module _ (s : StandsIn t one) (r : StandsIn t other) (path : Path) where
    each : (w : is_whole (last_chosen path) ≡ false) (all : List (List ℕ)) → ((leafs : List ℕ) → Among all leafs → Among (uniques_of_node t (node_of t path)) leafs)
        → AgreeOn (λ row. is_beside path row && list_any (λ leafs. entry_reads t (take (length path) row) leafs row) (uniques_of_node t (node_of t path))) one other
        → list_any (λ leafs. is_repeated t one path leafs (unique_values t one path leafs)) all ≡ list_any (λ leafs. is_repeated t other path leafs (unique_values t other path leafs)) all
    each w [] within agree = refl
    each w (leafs ∷ all) within agree =
        let among = within leafs (inl refl) in
        let here = repeated_agrees path leafs (listed t (node_of t path) leafs among) (λ row e.
        let h = both (is_beside path row) (entry_reads t (take (length path) row) leafs row) e in
        agree row (both_true (is_beside path row) (list_any (λ ls. entry_reads t (take (length path) row) ls row) (uniques_of_node t (node_of t path)))
        h.0 (any_at (λ ls. entry_reads t (take (length path) row) ls row) (uniques_of_node t (node_of t path)) leafs among h.1))) s r w in
        let more = each w all (λ ls a. within ls (inr a)) agree in
        λ i. here i || more i

    unique_by : (all : List (List ℕ)) → uniques_of_node t (node_of t path) ≡ all → (c : Bool) → contains_key one path ≡ c → AgreeOn (reads t Unique path) one other → violated t one Unique path ≡ violated t other Unique path
    unique_by [] is c there agree =
        let none = λ (rows : Rows). ap (λ (us : List (List ℕ)). contains_key rows path && list_any (λ leafs. is_repeated t rows path leafs (unique_values t rows path leafs)) us) is ∙ and_never (contains_key rows path) in
        none one ∙ sym (none other)
    unique_by (leafs ∷ all) is c there agree =
        let among : Among (uniques_of_node t (node_of t path)) leafs = subst (λ (us : List (List ℕ)). Among us leafs) (sym is) (inl refl) in
        let at : take (length path) path ≡ path = take_all path in
        let entry_read : entry_reads t (take (length path) path) leafs path ≡ true =
        or_left (is_same_path (take (length path) path) path) (list_any (λ x. leaf_reads t (path_in t (take (length path) path) x) x path) leafs) (ap (λ (p : Path). is_same_path p path) at ∙ same_path path) in
        let value = agree path (both_true (is_beside path path) (list_any (λ ls. entry_reads t (take (length path) path) ls path) (uniques_of_node t (node_of t path)))
        (ap (λ (p : Path). is_same_path (as_list p) (as_list path)) at ∙ same_path (as_list path))
        (any_at (λ ls. entry_reads t (take (length path) path) ls path) (uniques_of_node t (node_of t path)) leafs among entry_read)) in
        let row : contains_key one path ≡ contains_key other path = ap is_some value in
        elim c as (λ (b : Bool). contains_key one path ≡ b → violated t one Unique path ≡ violated t other Unique path) [
          | false ↦ λ no.
              ap (λ (b : Bool). b && list_any (λ ls. is_repeated t one path ls (unique_values t one path ls)) (uniques_of_node t (node_of t path))) no
              ∙ sym (ap (λ (b : Bool). b && list_any (λ ls. is_repeated t other path ls (unique_values t other path ls)) (uniques_of_node t (node_of t path))) (sym row ∙ no))
          | true ↦ λ yes.
              let w = is_entry t one s path yes (listed t (node_of t path) leafs among) in
              let all_same = each w (uniques_of_node t (node_of t path)) (λ ls a. a) agree in
              λ i. row i && all_same i
        ] there

    pub unique_agrees : AgreeOn (reads t Unique path) one other → violated t one Unique path ≡ violated t other Unique path
    unique_agrees agree = unique_by (uniques_of_node t (node_of t path)) refl (contains_key one path) refl agree
