-- What is read by a schema is a configuration of it.
use Rattle.std.proofs.Common.{◌≡◌, ℕ, List, [], ◌∷◌, ◌++◌, map, Bool, true, false, if◌then◌else◌, cond, Option, Some, None, Result, Ok, Err, is_some, slice_get, inl, inr, ◌⊎◌, Ordering, Less, Equal, Greater, refl, sym, ap, ◌∙◌, subst, append_assoc}
use Rattle.std.proofs.lemmas.Cmp.{tied_itself}
use Rattle.std.proofs.lemmas.Option.{same_Some, none-some}
use Rattle.std.specs.List.{AllByRecursion}
use Rattle.std.specs.Prelude.{IfOk}
use Rattle.std.specs.Ordering.{eq_by_cmp, is_eq}
use Rattle.std.specs.FinMap.{get, get-empty, get-insert, empty, insert}
use Rattle.serde_json.specs.Data.{Data, null, boolean, number, string, array, object, Items, no_items, item, Members, no_members, member}
use Rattle.serde_json.specs.Find.{get_member}
use Rattle.nm_types.specs.LeafType.{TypeOfLeaf}
use Rattle.nm_types.specs.Path.{PathStep, Choice, whole, keys, entry, path_cmp}
use Rattle.nm_types.specs.PathLaws.{paths_total, path_cmp-IsAntisymmetric}
use Rattle.nm_types.specs.declared.value.Value.{Value}
use Rattle.nm_types.specs.declared.value.Value.TheVariants.{Present}
use Rattle.nm_schema_tree.specs.declared.node.Node.{Node}
use Rattle.nm_schema_tree.specs.declared.node.NodeKind.{NodeKind}
use Rattle.nm_schema_tree.specs.declared.node.NodeKind.TheVariants.{Container, Leaf, LeafList, List as ListOf}
use Rattle.nm_schema_tree.specs.Nodes.{SchemaTree, is_key, type_of, type_in, type_at}
use Rattle.nm_path.specs.declared.place.Place.{Place}
use Rattle.nm_path.specs.declared.place.Place.TheVariants.{Top, Within}
use Rattle.nm_path.specs.Spelling.{found_of, below, node_from, node_of}
use Rattle.nm_path.specs.Sound.{HaveHeldBounds}
use Rattle.nm_config.specs.Rows.{Rows}
use Rattle.nm_json.specs.declared.fault.JsonKind.{JsonKind}
use Rattle.nm_json.specs.declared.fault.Fault.{Fault}
use Rattle.nm_json.specs.declared.fault.JsonFault.{JsonFault}
use Rattle.nm_json.specs.Values.{leaf_value}
use Rattle.nm_json.specs.Findings.{Finding, row, bad, Spot, bare, step_below, node_named, is_twice, twice_found, named_found, name_found, or_fault, typed_value, key_value, key_from, key_read, faults_of, leaf_found, value_found, presence_found, ignored, leaf_item, list_item, wanted_as, wanted_of, wanted, found, items_found, members_found, whole_found}
use Rattle.nm_json.specs.Whole.{rows_of, if_repeated, faults_found, config_read, Gives}
use Rattle.nm_json.specs.Configs.{IsValueOf, AreKeyValues, GoesOn, EndsAt, LeadsTo, IsRow, is_own, is_own_in, is_own_at, IsConfigOf}
use Rattle.nm_json.proofs.Least.{rows_law}
use Rattle.nm_json.proofs.Tidy.{all_left, all_right}
use Rattle.nm_json.proofs.Nodes.{around, IsPlace, step_of, leads_back}
use Rattle.nm_json.proofs.Keyed.{KeysAre, entry_read}
use Rattle.nm_json.proofs.Typed.{of_type}

-- ---- rows among findings

-- there is a row at a path
abbrev HasKey : List PathStep → List Finding → Type 0
HasKey q [] = ⊥
HasKey q (row p v ∷ fs) = (q ≡ p) ⊎ HasKey q fs
HasKey q (bad f ∷ fs) = HasKey q fs

-- there is this row
abbrev HasRow : List PathStep → Value → List Finding → Type 0
HasRow q v [] = ⊥
HasRow q v (row p w ∷ fs) = ((q ≡ p) × (v ≡ w)) ⊎ HasRow q v fs
HasRow q v (bad f ∷ fs) = HasRow q v fs

-- a finding is a row
abbrev IsNoFault : Finding → Type 0
IsNoFault (row p v) = Unit {0}
IsNoFault (bad f) = ⊥

abbrev AreNoFaults : List Finding → Type 0
AreNoFaults fs = AllByRecursion IsNoFault fs

-- a path leads on from a place to a row, and what has a row of its own on the way has it among these
record IsRowAt (t : SchemaTree) (place : Place) (above path : List PathStep) (v : Value) (all : List Finding) : Type 0 where
  steps : List PathStep
  path_is : path ≡ above ++ steps
  row_is : IsRow t.nodes place steps v
  closed : (front : List PathStep) (s : PathStep) (more : List PathStep) → steps ≡ front ++ s ∷ more → is_own_at t.nodes (node_from t.nodes place None front) ≡ true → HasKey (above ++ front) all

abbrev Good : SchemaTree → Place → List PathStep → List Finding → Finding → Type 0
Good t place above all (row path v) = IsRowAt t place above path v all
Good t place above all (bad f) = Unit {0}

abbrev AllGood : SchemaTree → Place → List PathStep → List Finding → Type 0
AllGood t place above fs = AllByRecursion (Good t place above fs) fs

abbrev Subset : List Finding → List Finding → Type 0
Subset all more = (q : List PathStep) → HasKey q all → HasKey q more

subset_left : (xs ys : List Finding) → Subset xs (xs ++ ys)
subset_left [] ys q h = absurd h
subset_left (row p v ∷ xs) ys q (inl e) = inl e
subset_left (row p v ∷ xs) ys q (inr h) = inr (subset_left xs ys q h)
subset_left (bad f ∷ xs) ys q h = subset_left xs ys q h

subset_right : (xs ys : List Finding) → Subset ys (xs ++ ys)
subset_right [] ys q h = h
subset_right (row p v ∷ xs) ys q h = inr (subset_right xs ys q h)
subset_right (bad f ∷ xs) ys q h = subset_right xs ys q h

all_append : {A : Type 0} (P : A → Type 0) (xs ys : List A) → AllByRecursion P xs → AllByRecursion P ys → AllByRecursion P (xs ++ ys)
all_append P [] ys h k = k
all_append P (x ∷ xs) ys h k = (h.0, all_append P xs ys h.1 k)

grown : (t : SchemaTree) (place : Place) (above : List PathStep) (all more : List Finding) → Subset all more → (x : Finding) → Good t place above all x → Good t place above more x
grown t place above all more s (row p v) h = record { steps = h.steps; path_is = h.path_is; row_is = h.row_is; closed = λ front x rest e own. s (above ++ front) (h.closed front x rest e own) }
grown t place above all more s (bad f) h = tt

all_grown : (t : SchemaTree) (place : Place) (above : List PathStep) (all more : List Finding) → Subset all more → (fs : List Finding) → AllByRecursion (Good t place above all) fs → AllByRecursion (Good t place above more) fs
all_grown t place above all more s [] h = tt
all_grown t place above all more s (f ∷ fs) h = (grown t place above all more s f h.0, all_grown t place above all more s fs h.1)

-- two parts of which each has what it needs
both_good : (t : SchemaTree) (place : Place) (above : List PathStep) (xs ys : List Finding) → AllGood t place above xs → AllGood t place above ys → AllGood t place above (xs ++ ys)
both_good t place above xs ys h k =
    all_append (Good t place above (xs ++ ys)) xs ys (all_grown t place above xs (xs ++ ys) (subset_left xs ys) xs h) (all_grown t place above ys (xs ++ ys) (subset_right xs ys) ys k)

-- ---- a step more above

row_more : (t : SchemaTree) (place : Place) (s : PathStep) (at : ℕ) (node : Node) (steps : List PathStep) (v : Value) → LeadsTo t.nodes place s at node → GoesOn t.nodes node.kind s.chosen → IsRow t.nodes (Within at) steps v → IsRow t.nodes place (s ∷ steps) v
row_more t place s at node [] v leads goes h = absurd h
row_more t place s at node (r ∷ ss) v leads goes h = (at, node, leads, goes, h)

own_here : (t : SchemaTree) (place : Place) (s y : PathStep) (at : ℕ) (node : Node) → LeadsTo t.nodes place s at node → s ≡ y → is_own_at t.nodes (found_of t.nodes place y.«module» y.name) ≡ true → is_own node.kind ≡ true
own_here t place s y at node leads e own =
    sym (ap (is_own_at t.nodes) leads.leads ∙ ap is_own_in leads.there) ∙ ap (λ (x : PathStep). is_own_at t.nodes (found_of t.nodes place x.«module» x.name)) e ∙ own

own_below : (t : SchemaTree) (place : Place) (s y z : PathStep) (f : List PathStep) (at : ℕ) (node : Node) → LeadsTo t.nodes place s at node → s ≡ y
    → is_own_at t.nodes (node_from t.nodes place None (y ∷ z ∷ f)) ≡ true → is_own_at t.nodes (node_from t.nodes (Within at) None (z ∷ f)) ≡ true
own_below t place s y z f at node leads e own =
    let from = λ (o : Option ℕ). is_own_at t.nodes (node_from t.nodes (below o) o (z ∷ f)) in
    ap from (sym leads.leads) ∙ ap (λ (x : PathStep). from (found_of t.nodes place x.«module» x.name)) e ∙ own

closed_more : (t : SchemaTree) (place : Place) (above : List PathStep) (s : PathStep) (at : ℕ) (node : Node) (steps : List PathStep) (all more : List Finding) → LeadsTo t.nodes place s at node
    → ((front : List PathStep) (x : PathStep) (rest : List PathStep) → steps ≡ front ++ x ∷ rest → is_own_at t.nodes (node_from t.nodes (Within at) None front) ≡ true → HasKey ((above ++ s ∷ []) ++ front) all)
    → (is_own node.kind ≡ true → HasKey (above ++ s ∷ []) more) → Subset all more
    → (front : List PathStep) (x : PathStep) (rest : List PathStep) → s ∷ steps ≡ front ++ x ∷ rest → is_own_at t.nodes (node_from t.nodes place None front) ≡ true → HasKey (above ++ front) more
closed_more t place above s at node steps all more leads closed mine sub [] x rest e own = absurd cc
closed_more t place above s at node steps all more leads closed mine sub (y ∷ []) x rest e own =
    let same : s ≡ y = cc in
    subst (λ (q : PathStep). HasKey (above ++ q ∷ []) more) same (mine (own_here t place s y at node leads same own))
closed_more t place above s at node steps all more leads closed mine sub (y ∷ z ∷ f) x rest e own =
    let same : s ≡ y = cc in
    let later : steps ≡ z ∷ (f ++ x ∷ rest) = cc in
    let there = sub ((above ++ s ∷ []) ++ z ∷ f) (closed (z ∷ f) x rest later (own_below t place s y z f at node leads same own)) in
    subst (λ (q : PathStep). HasKey (above ++ q ∷ z ∷ f) more) same (subst (λ q. HasKey q more) (append_assoc above (s ∷ []) (z ∷ f)) there)

lifted : (t : SchemaTree) (place : Place) (above : List PathStep) (s : PathStep) (at : ℕ) (node : Node) (all more : List Finding) → LeadsTo t.nodes place s at node → GoesOn t.nodes node.kind s.chosen
    → (is_own node.kind ≡ true → HasKey (above ++ s ∷ []) more) → Subset all more → (x : Finding) → Good t (Within at) (above ++ s ∷ []) all x → Good t place above more x
lifted t place above s at node all more leads goes mine sub (bad f) h = tt
lifted t place above s at node all more leads goes mine sub (row p v) h = record {
  steps = s ∷ h.steps;
  path_is = h.path_is ∙ append_assoc above (s ∷ []) h.steps;
  row_is = row_more t place s at node h.steps v leads goes h.row_is;
  closed = closed_more t place above s at node h.steps all more leads h.closed mine sub;
}

all_lifted : (t : SchemaTree) (place : Place) (above : List PathStep) (s : PathStep) (at : ℕ) (node : Node) (all more : List Finding) → LeadsTo t.nodes place s at node → GoesOn t.nodes node.kind s.chosen
    → (is_own node.kind ≡ true → HasKey (above ++ s ∷ []) more) → Subset all more → (fs : List Finding) → AllByRecursion (Good t (Within at) (above ++ s ∷ []) all) fs → AllByRecursion (Good t place above more) fs
all_lifted t place above s at node all more leads goes mine sub [] h = tt
all_lifted t place above s at node all more leads goes mine sub (f ∷ fs) h = (lifted t place above s at node all more leads goes mine sub f h.0, all_lifted t place above s at node all more leads goes mine sub fs h.1)

-- ---- values

-- a spot's node is found from a place, is of a kind and is no key
record IsAt (t : SchemaTree) (place : Place) (s : Spot) (k : NodeKind) : Type 0 where
  leads : (c : Choice) → LeadsTo t.nodes place (step_of s.node c) s.number s.node
  kind : s.node.kind ≡ k
  no_key : is_key t.nodes s.number ≡ false

only_step : (t : SchemaTree) (place : Place) (above : List PathStep) (s : PathStep) (all : List Finding) (front : List PathStep) (x : PathStep) (rest : List PathStep) → s ∷ [] ≡ front ++ x ∷ rest
    → is_own_at t.nodes (node_from t.nodes place None front) ≡ true → HasKey (above ++ front) all
only_step t place above s all [] x rest e own = absurd cc
only_step t place above s all (y ∷ []) x rest e own = absurd cc
only_step t place above s all (y ∷ z ∷ f) x rest e own = absurd cc

row_good : (t : SchemaTree) (place : Place) (s : Spot) (k : NodeKind) (c : Choice) (v : Value) (all : List Finding) → IsAt t place s k → EndsAt t.nodes s.number k c v → IsRowAt t place s.above (step_below s.above s.node c) v all
row_good t place s k c v all at ends = record {
  steps = step_of s.node c ∷ [];
  path_is = refl;
  row_is = (s.number, s.node, at.leads c, subst (λ (x : NodeKind). EndsAt t.nodes s.number x c v) (sym at.kind) ends);
  closed = only_step t place s.above (step_of s.node c) all;
}

module _ (t : SchemaTree) (bounds : HaveHeldBounds t.nodes) where
  value_is : (at : ℕ) (l : TypeOfLeaf) (v : Value) (d : Data) → type_at t.nodes at ≡ Some l → leaf_value l d ≡ Ok v → IsValueOf t.nodes at v
  value_is at l v d typed e = record { leaf_type = l; typed = typed; fits = of_type l v d (bounds at l typed) e }

  typed_here : (place : Place) (s : Spot) (k : NodeKind) → IsAt t place s k → type_at t.nodes s.number ≡ type_of k
  typed_here place s k at = ap type_in (at.leads whole).there ∙ ap type_of at.kind

  leaf_good : (place : Place) (s : Spot) (k : NodeKind) (l : TypeOfLeaf) (d : Data) (r : Result Value JsonKind) → IsAt t place s k → type_of k ≡ Some l → ((v : Value) → IsValueOf t.nodes s.number v → EndsAt t.nodes s.number k whole v) → leaf_value l d ≡ r
      → AllGood t place s.above (leaf_found (bare s) r)
  leaf_good place s k l d (Err kind) at typed ends e = (tt, tt)
  leaf_good place s k l d (Ok v) at typed ends e =
      (row_good t place s k whole v (row (bare s) v ∷ []) at (ends v (value_is s.number l v d (typed_here place s k at ∙ typed) e)), tt)

  value_good : (place : Place) (s : Spot) (k : NodeKind) (l : TypeOfLeaf) (d : Data) (r : Result Value JsonKind) → IsAt t place s k → type_of k ≡ Some l → ((v : Value) → IsValueOf t.nodes s.number v → EndsAt t.nodes s.number k (entry v) v) → leaf_value l d ≡ r
      → AllGood t place s.above (value_found s r)
  value_good place s k l d (Err kind) at typed ends e = (tt, tt)
  value_good place s k l d (Ok v) at typed ends e =
      (row_good t place s k (entry v) v (row (step_below s.above s.node (entry v)) v ∷ []) at (ends v (value_is s.number l v d (typed_here place s k at ∙ typed) e)), tt)

  values_good : (place : Place) (s : Spot) (k : NodeKind) (l : TypeOfLeaf) → IsAt t place s k → type_of k ≡ Some l → ((v : Value) → IsValueOf t.nodes s.number v → EndsAt t.nodes s.number k (entry v) v) → (ds : Items)
      → AllGood t place s.above (items_found t (leaf_item s l) ds)
  values_good place s k l at typed ends no_items = tt
  values_good place s k l at typed ends (item d ds) =
      both_good t place s.above (value_found s (leaf_value l d)) (items_found t (leaf_item s l) ds) (value_good place s k l d (leaf_value l d) at typed ends refl) (values_good place s k l at typed ends ds)

  -- ---- keys

  record IsKeyOk (ms : Members) (k : ℕ) (v : Value) : Type 0 where
    read : (path : List PathStep) → key_read t path ms k ≡ Ok v
    value : IsValueOf t.nodes k v

  typed_ok : (k : ℕ) (v : Value) (d : Data) (o : Option TypeOfLeaf) → type_at t.nodes k ≡ o → typed_value o d ≡ Ok v → IsValueOf t.nodes k v
  typed_ok k v d None is e = absurd cc
  typed_ok k v d (Some l) is e = value_is k l v d is e

  one_ok : (k : ℕ) (v : Value) (o : Option TypeOfLeaf) (x y : Option Data) → type_at t.nodes k ≡ o → key_value o x y ≡ Ok v → IsValueOf t.nodes k v
  one_ok k v o None None is e = absurd cc
  one_ok k v o (Some d) None is e = typed_ok k v d o is e
  one_ok k v o None (Some d) is e = typed_ok k v d o is e
  one_ok k v o (Some d) (Some x) is e = absurd cc

  or_ok : (path : List PathStep) (name : List ℕ) (v : Value) (r : Result Value JsonKind) → or_fault path name r ≡ Ok v → r ≡ Ok v
  or_ok path name v (Ok w) e = let same : w ≡ v = cc in ap Ok same
  or_ok path name v (Err kind) e = absurd cc

  from_ok : (path : List PathStep) (ms : Members) (k : ℕ) (v : Value) (o : Option Node) → slice_get t.nodes k ≡ o → key_from path ms o ≡ Ok v → ((q : List PathStep) → key_from q ms o ≡ Ok v) × IsValueOf t.nodes k v
  from_ok path ms k v None is e = absurd cc
  from_ok path ms k v (Some n) is e =
      let x = get_member n.name ms in
      let y = get_member (n.«module» ++ 58 ∷ n.name) ms in
      let r = or_ok path n.name v (key_value (type_of n.kind) x y) e in
      ((λ q. ap (or_fault q n.name) r), one_ok k v (type_of n.kind) x y (ap type_in is) r)

  key_ok : (path : List PathStep) (ms : Members) (k : ℕ) (v : Value) → key_read t path ms k ≡ Ok v → IsKeyOk ms k v
  unfolding key_read
  key_ok path ms k v e =
      let h = from_ok path ms k v (slice_get t.nodes k) refl e in
      record { read = h.0; value = h.1 }

  record AreKeysOk (ms : Members) (ks : List ℕ) : Type 0 where
    values : List Value
    read : KeysAre t ms ks values
    typed : AreKeyValues t.nodes ks values

  keys_by : (path : List PathStep) (ms : Members) (k : ℕ) (ks : List ℕ) (r : Result Value Fault) → key_read t path ms k ≡ r → AreNoFaults (faults_of (r ∷ map (key_read t path ms) ks)) → (AreNoFaults (faults_of (map (key_read t path ms) ks)) → AreKeysOk ms ks) → AreKeysOk ms (k ∷ ks)
  keys_by path ms k ks (Err f) e h later = absurd h.0
  keys_by path ms k ks (Ok v) e h later =
      let one = key_ok path ms k v e in
      let others = later h in
      record { values = v ∷ others.values; read = (one.read, others.read); typed = (one.value, others.typed) }

  keys_ok : (path : List PathStep) (ms : Members) (ks : List ℕ) → AreNoFaults (faults_of (map (key_read t path ms) ks)) → AreKeysOk ms ks
  keys_ok path ms [] h = record { values = []; read = tt; typed = tt }
  keys_ok path ms (k ∷ ks) h = keys_by path ms k ks (key_read t path ms k) refl h (λ g. keys_ok path ms ks g)

  -- ---- names

  name_good : (place : Place) (above : List PathStep) (all : List Finding) (twice : Bool) (name : List ℕ) (o : Option ℕ) → AllByRecursion (Good t place above all) (named_found t above twice name o)
  name_good place above all twice name None = (tt, tt)
  name_good place above all twice name (Some i) = at_node twice (slice_get t.nodes i)
    where
      at_node : (b : Bool) (n : Option Node) → AllByRecursion (Good t place above all) (twice_found above b n)
      at_node b None = tt
      at_node false (Some n) = tt
      at_node true (Some n) = (tt, tt)

  -- what is wanted of a member has what it needs, if each node's value has it
  abbrev Goods : Place → Data → Type 0
  Goods place d = (s : Spot) (k : NodeKind) → IsAt t place s k → AreNoFaults (found t (wanted_as s k) d) → AllGood t place s.above (found t (wanted_as s k) d)

  node_by : (place : Place) (above : List PathStep) (name : List ℕ) (d : Data) (i : ℕ) (o : Option Node) → IsPlace place → node_named t (around place) name ≡ Some i → is_key t.nodes i ≡ false → slice_get t.nodes i ≡ o → Goods place d
      → AreNoFaults (found t (wanted_of above i o) d) → AllGood t place above (found t (wanted_of above i o) d)
  node_by place above name d i None p e key is goods h = tt
  node_by place above name d i (Some n) p e key is goods h =
      goods (record { above = above; number = i; node = n }) n.kind (record { leads = λ c. leads_back t place name i n c p is e; kind = refl; no_key = key }) h

  key_by : (place : Place) (above : List PathStep) (name : List ℕ) (d : Data) (i : ℕ) (b : Bool) → IsPlace place → node_named t (around place) name ≡ Some i → is_key t.nodes i ≡ b → Goods place d
      → AreNoFaults (found t (if b then ignored else wanted_of above i (slice_get t.nodes i)) d) → AllGood t place above (found t (if b then ignored else wanted_of above i (slice_get t.nodes i)) d)
  key_by place above name d i true p e key goods h = tt
  key_by place above name d i false p e key goods h = node_by place above name d i (slice_get t.nodes i) p e key refl goods h

  wanted_good : (place : Place) (above : List PathStep) (name : List ℕ) (d : Data) (o : Option ℕ) → IsPlace place → node_named t (around place) name ≡ o → Goods place d → AreNoFaults (found t (wanted t above o) d) → AllGood t place above (found t (wanted t above o) d)
  wanted_good place above name d None p e goods h = tt
  wanted_good place above name d (Some i) p e goods h = key_by place above name d i (is_key t.nodes i) p e refl goods h

  -- ---- containers and entries

  container_good : (place : Place) (s : Spot) (p : Bool) (inner : List Finding) → IsAt t place s (Container p) → AllGood t (Within s.number) (bare s) inner → AllGood t place s.above (presence_found s p ++ inner)
  container_good place s p inner at h =
      let all = presence_found s p ++ inner in
      let step = step_of s.node whole in
      let goes : GoesOn t.nodes s.node.kind whole = subst (λ (k : NodeKind). GoesOn t.nodes k whole) (sym at.kind) tt in
      all_append (Good t place s.above all) (presence_found s p) inner (own p all at)
      (all_lifted t place s.above step s.number s.node inner all (at.leads whole) goes (λ o. mine p inner (sym (ap is_own at.kind) ∙ o)) (subset_right (presence_found s p) inner) inner h)
    where
      own : (p : Bool) (all : List Finding) → IsAt t place s (Container p) → AllByRecursion (Good t place s.above all) (presence_found s p)
      own false all at = tt
      own true all at = (row_good t place s (Container true) whole Present all at (refl, refl), tt)

      mine : (p : Bool) (inner : List Finding) → p ≡ true → HasKey (bare s) (presence_found s p ++ inner)
      mine true inner e = inl refl
      mine false inner e = absurd cc

  entry_all : (place : Place) (s : Spot) (ks : List ℕ) (k : NodeKind) (vs : List Value) (inner : List Finding) → IsAt t place s k → EndsAt t.nodes s.number k (keys vs) Present → GoesOn t.nodes k (keys vs)
      → AllGood t (Within s.number) (step_below s.above s.node (keys vs)) inner → AllGood t place s.above (row (step_below s.above s.node (keys vs)) Present ∷ inner)
  entry_all place s ks k vs inner at ends goes h =
      let step = step_of s.node (keys vs) in
      let all = row (step_below s.above s.node (keys vs)) Present ∷ inner in
      let on : GoesOn t.nodes s.node.kind (keys vs) = subst (λ (x : NodeKind). GoesOn t.nodes x (keys vs)) (sym at.kind) goes in
      (row_good t place s k (keys vs) Present all at ends, all_lifted t place s.above step s.number s.node inner all (at.leads (keys vs)) on (λ o. inl refl) (λ q g. inr g) inner h)

  mutual
    node_good : (place : Place) (d : Data) (s : Spot) (k : NodeKind) → IsAt t place s k → AreNoFaults (found t (wanted_as s k) d) → AllGood t place s.above (found t (wanted_as s k) d)
    node_good place (object ms) s (Container p) at h = container_good place s p (members_found t (bare s) (Some s.number) ms ms) at (members_good (Within s.number) (bare s) ms ms tt (all_right IsNoFault (presence_found s p) (members_found t (bare s) (Some s.number) ms ms) h))
    node_good place null s (Container p) at h = absurd h.0
    node_good place (boolean b) s (Container p) at h = absurd h.0
    node_good place (number n) s (Container p) at h = absurd h.0
    node_good place (string x) s (Container p) at h = absurd h.0
    node_good place (array ds) s (Container p) at h = absurd h.0
    node_good place d s (Leaf l def m r) at h = leaf_good place s (Leaf l def m r) l d (leaf_value l d) at refl (λ v x. (at.no_key, x)) refl
    node_good place (array ds) s (LeafList l r e) at h = values_good place s (LeafList l r e) l at refl (λ v x. (refl, x)) ds
    node_good place null s (LeafList l r e) at h = absurd h.0
    node_good place (boolean b) s (LeafList l r e) at h = absurd h.0
    node_good place (number n) s (LeafList l r e) at h = absurd h.0
    node_good place (string x) s (LeafList l r e) at h = absurd h.0
    node_good place (object ms) s (LeafList l r e) at h = absurd h.0
    node_good place (array ds) s (ListOf ks u e) at h = entries_good place ds s ks (ListOf ks u e) at (λ vs x. (refl, x)) (λ vs x. x) h
    node_good place null s (ListOf ks u e) at h = absurd h.0
    node_good place (boolean b) s (ListOf ks u e) at h = absurd h.0
    node_good place (number n) s (ListOf ks u e) at h = absurd h.0
    node_good place (string x) s (ListOf ks u e) at h = absurd h.0
    node_good place (object ms) s (ListOf ks u e) at h = absurd h.0

    entries_good : (place : Place) (ds : Items) (s : Spot) (ks : List ℕ) (k : NodeKind) → IsAt t place s k → ((vs : List Value) → AreKeyValues t.nodes ks vs → EndsAt t.nodes s.number k (keys vs) Present)
        → ((vs : List Value) → AreKeyValues t.nodes ks vs → GoesOn t.nodes k (keys vs)) → AreNoFaults (items_found t (list_item s ks) ds) → AllGood t place s.above (items_found t (list_item s ks) ds)
    entries_good place no_items s ks k at ends goes h = tt
    entries_good place (item d ds) s ks k at ends goes h =
        let one = found t (list_item s ks) d in
        let others = items_found t (list_item s ks) ds in
        both_good t place s.above one others (entry_good place d s ks k at ends goes (all_left IsNoFault one others h)) (entries_good place ds s ks k at ends goes (all_right IsNoFault one others h))

    entry_good : (place : Place) (d : Data) (s : Spot) (ks : List ℕ) (k : NodeKind) → IsAt t place s k → ((vs : List Value) → AreKeyValues t.nodes ks vs → EndsAt t.nodes s.number k (keys vs) Present)
        → ((vs : List Value) → AreKeyValues t.nodes ks vs → GoesOn t.nodes k (keys vs)) → AreNoFaults (found t (list_item s ks) d) → AllGood t place s.above (found t (list_item s ks) d)
    entry_good place (object ms) s ks k at ends goes h =
        let ok = keys_ok (bare s) ms ks (all_left IsNoFault (faults_of (map (key_read t (bare s) ms) ks)) _ h) in
        let path = step_below s.above s.node (keys ok.values) in
        let is = entry_read t s ks ok.values ms ok.read in
        let none = subst AreNoFaults is h in
        let inner = members_good (Within s.number) path ms ms tt none.1 in
        subst (AllGood t place s.above) (sym is) (entry_all place s ks k ok.values (members_found t path (Some s.number) ms ms) at (ends ok.values ok.typed) (goes ok.values ok.typed) inner)
    entry_good place null s ks k at ends goes h = absurd h.0
    entry_good place (boolean b) s ks k at ends goes h = absurd h.0
    entry_good place (number n) s ks k at ends goes h = absurd h.0
    entry_good place (string x) s ks k at ends goes h = absurd h.0
    entry_good place (array ds) s ks k at ends goes h = absurd h.0

    members_good : (place : Place) (above : List PathStep) (all ms : Members) → IsPlace place → AreNoFaults (members_found t above (around place) all ms) → AllGood t place above (members_found t above (around place) all ms)
    members_good place above all no_members p h = tt
    members_good place above all (member name d rest) p h =
        let o = node_named t (around place) name in
        let a = name_found t above (around place) all name in
        let b = found t (wanted t above o) d in
        let c = members_found t above (around place) all rest in
        let front = all_left IsNoFault (a ++ b) c h in
        both_good t place above (a ++ b) c
        (both_good t place above a b (name_good place above a (is_twice (around place) name all) name o)
        (wanted_good place above name d o p refl (λ s k at g. node_good place d s k at g) (all_right IsNoFault a b front)))
        (members_good place above all rest p (all_right IsNoFault (a ++ b) c h))

  whole_good : (d : Data) → AreNoFaults (whole_found t d) → AllGood t Top [] (whole_found t d)
  whole_good (object ms) h = members_good Top [] ms ms tt h
  whole_good null h = absurd h.0
  whole_good (boolean b) h = absurd h.0
  whole_good (number n) h = absurd h.0
  whole_good (string x) h = absurd h.0
  whole_good (array ds) h = absurd h.0

-- ---- the map of the rows

not_repeated : (b : Bool) (p : List PathStep) (fs : List Fault) → if_repeated b p fs ≡ [] → fs ≡ []
not_repeated true p fs e = absurd cc
not_repeated false p fs e = e

none_bad : (fs : List Finding) (m : Rows) → faults_found m fs ≡ [] → AreNoFaults fs
none_bad [] m e = tt
none_bad (row p v ∷ fs) m e = (tt, none_bad fs (insert m p v) (not_repeated _ p (faults_found (insert m p v) fs) e))
none_bad (bad f ∷ fs) m e = absurd cc

tied_path : (o : Ordering) → is_eq o ≡ true → o ≡ Equal
tied_path Less e = absurd cc
tied_path Equal e = refl
tied_path Greater e = absurd cc

-- a row of the map is among the findings, or was there before
from_rows : (fs : List Finding) (m : Rows) (q : List PathStep) (v : Value) → get (rows_of m fs) q ≡ Some v → HasRow q v fs ⊎ (get m q ≡ Some v)
from_rows [] m q v e = inr e
from_rows (bad f ∷ fs) m q v e = from_rows fs m q v e
from_rows (row p w ∷ fs) m q v e = later (from_rows fs (insert m p w) q v e)
  where
    by_test : (b : Bool) → eq_by_cmp path_cmp q p ≡ b → cond b (Some w) (get m q) ≡ Some v → HasRow q v (row p w ∷ fs) ⊎ (get m q ≡ Some v)
    by_test true is g = inl (inl (path_cmp-IsAntisymmetric q p (tied_path (path_cmp q p) is), sym (same_Some w v g)))
    by_test false is g = inr g

    later : HasRow q v fs ⊎ (get (insert m p w) q ≡ Some v) → HasRow q v (row p w ∷ fs) ⊎ (get m q ≡ Some v)
    later (inl h) = inl (inr h)
    later (inr g) = by_test (eq_by_cmp path_cmp q p) refl (sym (get-insert paths_total m p w q) ∙ g)

some_either : (b : Bool) (w : Value) (x : Option Value) → is_some x ≡ true → is_some (cond b (Some w) x) ≡ true
some_either true w x e = refl
some_either false w x e = e

there_later : (m : Rows) (p : List PathStep) (w : Value) (q : List PathStep) → is_some (get m q) ≡ true → is_some (get (insert m p w) q) ≡ true
there_later m p w q e = ap is_some (get-insert paths_total m p w q) ∙ some_either (eq_by_cmp path_cmp q p) w (get m q) e

there_now : (m : Rows) (p : List PathStep) (w : Value) (q : List PathStep) → q ≡ p → is_some (get (insert m p w) q) ≡ true
there_now m p w q e =
    let tie : eq_by_cmp path_cmp q p ≡ true = ap (eq_by_cmp path_cmp q) (sym e) ∙ ap is_eq (tied_itself paths_total q) in
    ap is_some (get-insert paths_total m p w q) ∙ ap (λ b. is_some (cond b (Some w) (get m q))) tie

-- what was there before stays
kept_there : (fs : List Finding) (m : Rows) (q : List PathStep) → is_some (get m q) ≡ true → is_some (get (rows_of m fs) q) ≡ true
kept_there [] m q e = e
kept_there (row p w ∷ fs) m q e = kept_there fs (insert m p w) q (there_later m p w q e)
kept_there (bad f ∷ fs) m q e = kept_there fs m q e

-- a path of a row among the findings has a row in the map
row_there : (fs : List Finding) (m : Rows) (q : List PathStep) → HasKey q fs → is_some (get (rows_of m fs) q) ≡ true
row_there [] m q h = absurd h
row_there (row p w ∷ fs) m q (inl e) = kept_there fs (insert m p w) q (there_now m p w q e)
row_there (row p w ∷ fs) m q (inr h) = row_there fs (insert m p w) q h
row_there (bad f ∷ fs) m q h = row_there fs m q h

good_row : (t : SchemaTree) (all fs : List Finding) (q : List PathStep) (v : Value) → AllByRecursion (Good t Top [] all) fs → HasRow q v fs → IsRowAt t Top [] q v all
good_row t all [] q v h r = absurd r
good_row t all (bad f ∷ fs) q v h r = good_row t all fs q v h.1 r
good_row t all (row p w ∷ fs) q v h (inl e) = subst (λ (x : List PathStep). IsRowAt t Top [] x v all) (sym e.0) (subst (λ (x : Value). IsRowAt t Top [] p x all) (sym e.1) h.0)
good_row t all (row p w ∷ fs) q v h (inr r) = good_row t all fs q v h.1 r

found_row : (t : SchemaTree) (fs : List Finding) (q : List PathStep) (v : Value) → AllGood t Top [] fs → HasRow q v fs ⊎ (get (empty {X = Value} {R = path_cmp}) q ≡ Some v) → IsRowAt t Top [] q v fs
found_row t fs q v h (inl r) = good_row t fs fs q v h r
found_row t fs q v h (inr e) = absurd (none-some v (sym (get-empty path_cmp q) ∙ e))

pub config_law : (t : SchemaTree) (d : Data) (rows : Rows) → HaveHeldBounds t.nodes → config_read t d ≡ Ok rows → IsConfigOf t rows
unfolding node_of
config_law t d rows bounds e =
    let h = (rows_law t d rows).0 e in
    let fs = whole_found t d in
    let good = whole_good t bounds d (none_bad fs empty h.faultless) in
    let at : (q : List PathStep) (v : Value) → get rows q ≡ Some v → IsRowAt t Top [] q v fs = λ q v g. found_row t fs q v good (from_rows fs empty q v (ap (λ m. get m q) (sym h.all) ∙ g)) in
    record {
      each = λ path v g. subst (λ (q : List PathStep). IsRow t.nodes Top q v) (sym (at path v g).path_is) (at path v g).row_is;
      above = λ path s more v g own. ap (λ m. is_some (get m path)) h.all ∙ row_there fs empty path ((at (path ++ s ∷ more) v g).closed path s more (sym (at (path ++ s ∷ more) v g).path_is) own);
      few = h.within;
    }

-- the configuration that is answered is one, unless memory ran out
pub given_law : (r : Result Rows JsonFault) (t : SchemaTree) (d : Data) → Gives r (config_read t d) → IfOk r (λ rows. HaveHeldBounds t.nodes → IsConfigOf t rows)
given_law (Ok rows) t d g = λ bounds. config_law t d rows bounds g
given_law (Err e) t d g = tt
