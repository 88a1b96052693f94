-- What is read by a schema is an edit of it.
use Rattle.std.proofs.Common.{◌≡◌, ℕ, List, [], ◌∷◌, ◌++◌, map, ◌||◌, ◌&&◌, Bool, true, false, if◌then◌else◌, cond, Option, Some, None, Result, Ok, Err, is_some, slice_get, inl, inr, ◌⊎◌, Ordering, Less, Equal, Greater, refl, sym, ap, ◌∙◌, subst, append_assoc, nat_lt}
use Rattle.std.proofs.lemmas.Cmp.{tied_itself}
use Rattle.std.proofs.lemmas.Option.{same_Some, none-some}
use lib.Dec.{T}
use Rattle.std.specs.List.{AllByRecursion}
use Rattle.std.specs.List.Sorted.{IsStrictlySortedBy}
use Rattle.std.specs.Prelude.{IfOk}
use Rattle.std.specs.Cmp.{eq_by_cmp_equiv}
use Rattle.std.specs.Ordering.{eq_by_cmp, is_eq, is_lt}
use Rattle.std.specs.FinMap.{get, get-empty, get-entries, get-insert, empty, insert, entries, entries_sorted, len}
use Rattle.std.specs.FinMap.Entries.{find, is_sorted, below_all}
use Rattle.serde_json.specs.Data.{Data, null, boolean, number, string, array, object, Items, no_items, item, Members, no_members, member}
use Rattle.nm_types.specs.LeafType.{TypeOfLeaf}
use Rattle.nm_types.specs.Path.{PathStep, Choice, whole, keys, entry, path_cmp}
use Rattle.nm_types.specs.PathLaws.{paths_total, path_cmp-IsAntisymmetric}
use Rattle.nm_types.specs.declared.value.Value.{Value}
use Rattle.nm_types.specs.declared.value.Value.TheVariants.{Present}
use Rattle.nm_schema_tree.specs.declared.node.Node.{Node}
use Rattle.nm_schema_tree.specs.declared.node.NodeKind.{NodeKind}
use Rattle.nm_schema_tree.specs.declared.node.NodeKind.TheVariants.{Container, Leaf, LeafList, List as ListOf}
use Rattle.nm_schema_tree.specs.Nodes.{SchemaTree, is_key}
use Rattle.nm_path.specs.declared.place.Place.{Place}
use Rattle.nm_path.specs.declared.place.Place.TheVariants.{Top, Within}
use Rattle.nm_path.specs.Spelling.{below, node_from, node_of, HasSteps}
use Rattle.nm_proto.specs.Content.{Refusal}
use Rattle.nm_validate_rules.specs.Violated.{last_chosen}
use Rattle.nm_json.specs.declared.fault.JsonKind.{JsonKind}
use Rattle.nm_json.specs.declared.fault.Fault.{Fault as JsonFault}
use Rattle.nm_json.specs.Values.{leaf_value}
use Rattle.nm_json.specs.Findings.{Spot, bare, step_below, node_named, is_twice, key_read, values_of, entry_path}
use Rattle.nm_json.specs.Configs.{LeadsTo}
use Rattle.nm_json.proofs.Nodes.{around, IsPlace, step_of, leads_back}
use Rattle.nm_edit.specs.declared.edit.EditNode.{EditNode}
use Rattle.nm_edit.specs.declared.fault.EditFault.{EditFault}
use Rattle.nm_edit.specs.EditOf.{is_removal, HasWorth, IsNamed, paths, names, IsEditOf}
use Rattle.nm_edit_json.specs.declared.said.Said.{Said}
use Rattle.nm_edit_json.specs.declared.fault.Fault.{Fault}
use Rattle.nm_edit_json.specs.declared.nodes.Told.{Told}
use Rattle.nm_edit_json.specs.Findings.{Finding, named, wrong, Around, told, is_misplaced, misplaced_found, node_found, annotated, said_of, notes_of, own_said, said_next, first, later, is_longer, value_found, values_found, noted_found, leaf_found, leaf_list_found, absent_found, child_found, name_noted, own_found, annotation_found, twice_found, named_found, name_found, presence_value, faults_of, ignored, list_item, wanted_as, wanted_of, wanted_at, wanted, inside, found, items_found, members_found, top, whole_found}
use Rattle.nm_edit_json.specs.Whole.{NodeMap, told_of, node_at, nodes_in, nodes_of, faults_found, least_of, answered, edit_read, node_limit, Gives}

-- ---- nodes among findings

-- a node among findings has a path
abbrev HasPath : List PathStep → List Finding → Type 0
HasPath q [] = ⊥
HasPath q (named n ∷ fs) = (q ≡ n.path) ⊎ HasPath q fs
HasPath q (wrong f ∷ fs) = HasPath q fs

-- it has a path, and this besides
abbrev HasNode : List PathStep → Told → List Finding → Type 0
HasNode q v [] = ⊥
HasNode q v (named n ∷ fs) = ((q ≡ n.path) × (v ≡ told_of n)) ⊎ HasNode q v fs
HasNode q v (wrong f ∷ fs) = HasNode q v fs

on_left : (q : List PathStep) (xs ys : List Finding) → HasPath q xs → HasPath q (xs ++ ys)
on_left q [] ys h = absurd h
on_left q (named n ∷ xs) ys (inl e) = inl e
on_left q (named n ∷ xs) ys (inr h) = inr (on_left q xs ys h)
on_left q (wrong f ∷ xs) ys h = on_left q xs ys h

on_right : (q : List PathStep) (xs ys : List Finding) → HasPath q ys → HasPath q (xs ++ ys)
on_right q [] ys h = h
on_right q (named n ∷ xs) ys h = inr (on_right q xs ys h)
on_right q (wrong f ∷ xs) ys h = on_right q xs ys h

abbrev Paths : Type 1
Paths = List PathStep → Type 0

-- the nodes among findings have paths of which that is known
abbrev Within-all : Paths → List Finding → Type 0
Within-all Has fs = (q : List PathStep) → HasPath q fs → Has q

-- a path leads on from a place to a node that it fits, and each front of it is the path of a node
record IsNodeAt (t : SchemaTree) (place : Place) (above : List PathStep) (Has : Paths) (n : EditNode) : Type 0 where
  steps : List PathStep
  path_is : n.path ≡ above ++ steps
  at : ℕ
  node : Node
  some : HasSteps steps
  leads : (last : Option ℕ) → node_from t.nodes place last steps ≡ Some at
  there : slice_get t.nodes at ≡ Some node
  no_key : is_key t.nodes at ≡ false
  worth : HasWorth n.operation node.kind (last_chosen steps) n.value
  closed : (s : PathStep) (front : List PathStep) (r : PathStep) (more : List PathStep) → steps ≡ s ∷ front ++ r ∷ more → Has (above ++ s ∷ front)

abbrev Good : SchemaTree → Place → List PathStep → Paths → Finding → Type 0
Good t place above Has (named n) = IsNodeAt t place above Has n
Good t place above Has (wrong f) = Unit {0}

abbrev AllGood : SchemaTree → Place → List PathStep → Paths → List Finding → Type 0
AllGood t place above Has fs = AllByRecursion (Good t place above Has) fs

all_append : {A : Type 0} (P : A → Type 0) (xs ys : List A) → AllByRecursion P xs → AllByRecursion P ys → AllByRecursion P (xs ++ ys)
all_append P [] ys h k = k
all_append P (x ∷ xs) ys h k = (h.0, all_append P xs ys h.1 k)

-- ---- a step more above

last_more : (s : PathStep) (steps : List PathStep) → HasSteps steps → last_chosen steps ≡ last_chosen (s ∷ steps)
last_more s [] h = absurd h
last_more s (r ∷ steps) h = refl

closed_more : (above : List PathStep) (Has : Paths) (s : PathStep) (steps : List PathStep)
    → ((x : PathStep) (front : List PathStep) (r : PathStep) (more : List PathStep) → steps ≡ x ∷ front ++ r ∷ more → Has ((above ++ s ∷ []) ++ x ∷ front)) → Has (above ++ s ∷ [])
    → (x : PathStep) (front : List PathStep) (r : PathStep) (more : List PathStep) → s ∷ steps ≡ x ∷ front ++ r ∷ more → Has (above ++ x ∷ front)
closed_more above Has s steps closed mine x [] r more e =
    let same : s ≡ x = cc in
    subst (λ (y : PathStep). Has (above ++ y ∷ [])) same mine
closed_more above Has s steps closed mine x (y ∷ front) r more e =
    let same : s ≡ x = cc in
    let rest : steps ≡ y ∷ front ++ r ∷ more = cc in
    subst (λ (z : PathStep). Has (above ++ z ∷ y ∷ front)) same (subst Has (append_assoc above (s ∷ []) (y ∷ front)) (closed y front r more rest))

lifted : (t : SchemaTree) (place : Place) (above : List PathStep) (Has : Paths) (s : PathStep) (i : ℕ) (node : Node) → LeadsTo t.nodes place s i node → Has (above ++ s ∷ [])
    → (f : Finding) → Good t (Within i) (above ++ s ∷ []) Has f → Good t place above Has f
lifted t place above Has s i node leads mine (wrong f) h = tt
lifted t place above Has s i node leads mine (named n) h = record {
  steps = s ∷ h.steps;
  path_is = h.path_is ∙ append_assoc above (s ∷ []) h.steps;
  at = h.at;
  node = h.node;
  some = tt;
  leads = λ last. ap (λ (o : Option ℕ). node_from t.nodes (below o) o h.steps) leads.leads ∙ h.leads (Some i);
  there = h.there;
  no_key = h.no_key;
  worth = subst (λ (c : Choice). HasWorth n.operation h.node.kind c n.value) (last_more s h.steps h.some) h.worth;
  closed = closed_more above Has s h.steps h.closed mine;
}

all_lifted : (t : SchemaTree) (place : Place) (above : List PathStep) (Has : Paths) (s : PathStep) (i : ℕ) (node : Node) → LeadsTo t.nodes place s i node → Has (above ++ s ∷ [])
    → (fs : List Finding) → AllGood t (Within i) (above ++ s ∷ []) Has fs → AllGood t place above Has fs
all_lifted t place above Has s i node leads mine [] h = tt
all_lifted t place above Has s i node leads mine (f ∷ fs) h = (lifted t place above Has s i node leads mine f h.0, all_lifted t place above Has s i node leads mine fs h.1)

module _ (t : SchemaTree) (Has : Paths) where
  -- ---- one node

  -- a node is found from a place, is of a kind and is no key
  record IsAt (place : Place) (i : ℕ) (n : Node) (k : NodeKind) : Type 0 where
    leads : (c : Choice) → LeadsTo t.nodes place (step_of n c) i n
    kind : n.kind ≡ k
    no_key : is_key t.nodes i ≡ false

  only_step : (above : List PathStep) (s x : PathStep) (front : List PathStep) (r : PathStep) (more : List PathStep) → s ∷ [] ≡ x ∷ front ++ r ∷ more → Has (above ++ x ∷ front)
  only_step above s x [] r more e = absurd cc
  only_step above s x (y ∷ front) r more e = absurd cc

  misplaced_good : (place : Place) (above path : List PathStep) (b : Bool) → AllGood t place above Has (misplaced_found path b)
  misplaced_good place above path false = tt
  misplaced_good place above path true = (tt, tt)

  node_good : (place : Place) (above : List PathStep) (i : ℕ) (n : Node) (k : NodeKind) (c : Choice) (held : Bool) (said : Said) (value : Option Value) → IsAt place i n k
      → HasWorth (told said) k c value → AllGood t place above Has (node_found (step_below above n c) held said value)
  node_good place above i n k c held said value at worth = (
    record {
      steps = step_of n c ∷ [];
      path_is = refl;
      at = i;
      node = n;
      some = tt;
      leads = λ last. (at.leads c).leads;
      there = (at.leads c).there;
      no_key = at.no_key;
      worth = subst (λ (x : NodeKind). HasWorth (told said) x c value) (sym at.kind) worth;
      closed = only_step above (step_of n c);
    },
    misplaced_good place above (step_below above n c) (is_misplaced held said),
  )

  -- ---- values

  leaf_good : (place : Place) (s : Spot) (k : NodeKind) (held : Bool) (said : Said) (r : Result Value JsonKind) → IsAt place s.number s.node k → ((v : Value) → HasWorth (told said) k whole (Some v))
      → AllGood t place s.above Has (leaf_found s held said r)
  leaf_good place s k held said (Ok v) at worth = node_good place s.above s.number s.node k whole held said (Some v) at (worth v)
  leaf_good place s k held said (Err e) at worth = (tt, tt)

  value_good : (place : Place) (s : Spot) (k : NodeKind) (held : Bool) (said : Said) (r : Result Value JsonKind) → IsAt place s.number s.node k → ((v : Value) → HasWorth (told said) k (entry v) (Some v))
      → AllGood t place s.above Has (value_found s held said r)
  value_good place s k held said (Ok v) at worth = node_good place s.above s.number s.node k (entry v) held said (Some v) at (worth v)
  value_good place s k held said (Err e) at worth = (tt, tt)

  values_good : (place : Place) (s : Spot) (k : NodeKind) (l : TypeOfLeaf) (held : Bool) → IsAt place s.number s.node k → ((said : Said) (v : Value) → HasWorth (told said) k (entry v) (Some v))
      → (ds notes : Items) → AllGood t place s.above Has (values_found s l held ds notes)
  values_good place s k l held at worth no_items notes = tt
  values_good place s k l held at worth (item d ds) notes =
      all_append (Good t place s.above Has) (value_found s held (said_next (first notes)) (leaf_value l d)) (values_found s l held ds (later notes))
      (value_good place s k held (said_next (first notes)) (leaf_value l d) at (worth (said_next (first notes)))) (values_good place s k l held at worth ds (later notes))

  noted_good : (place : Place) (s : Spot) (k : NodeKind) (l : TypeOfLeaf) (held : Bool) → IsAt place s.number s.node k → ((said : Said) (v : Value) → HasWorth (told said) k (entry v) (Some v))
      → (notes : Option Items) (ds : Items) → AllGood t place s.above Has (noted_found s l held notes ds)
  noted_good place s k l held at worth None ds = (tt, values_good place s k l held at worth ds no_items)
  noted_good place s k l held at worth (Some notes) ds =
      all_append (Good t place s.above Has) (misplaced_found (bare s) (is_longer notes ds)) (values_found s l held ds notes)
      (misplaced_good place s.above (bare s) (is_longer notes ds)) (values_good place s k l held at worth ds notes)

  leaf_list_good : (place : Place) (s : Spot) (k : NodeKind) (l : TypeOfLeaf) (held : Bool) → IsAt place s.number s.node k → ((said : Said) (v : Value) → HasWorth (told said) k (entry v) (Some v))
      → (notes : Option Items) (d : Data) → AllGood t place s.above Has (leaf_list_found s l held notes d)
  leaf_list_good place s k l held at worth notes (array ds) = noted_good place s k l held at worth notes ds
  leaf_list_good place s k l held at worth notes null = (tt, tt)
  leaf_list_good place s k l held at worth notes (boolean b) = (tt, tt)
  leaf_list_good place s k l held at worth notes (number n) = (tt, tt)
  leaf_list_good place s k l held at worth notes (string x) = (tt, tt)
  leaf_list_good place s k l held at worth notes (object ms) = (tt, tt)

  some_value : (b : Bool) → (true || b) ≡ true
  some_value b = refl

  -- ---- annotations as members

  removed_good : (place : Place) (above : List PathStep) (i : ℕ) (n : Node) (k : NodeKind) (held : Bool) (said : Said) (b : Bool) → is_removal (told said) ≡ b → IsAt place i n k
      → (is_removal (told said) ≡ true → HasWorth (told said) k whole None)
      → AllGood t place above Has (if b then node_found (step_below above n whole) held said None else misplaced_found (step_below above n whole) true)
  removed_good place above i n k held said true e at worth = node_good place above i n k whole held said None at (worth e)
  removed_good place above i n k held said false e at worth = (tt, tt)

  absent_good : (place : Place) (o : Around) (i : ℕ) (n : Node) (k : NodeKind) → IsAt place i n k → AllGood t place o.above Has (absent_found o n k)
  absent_good place o i n (Container p) at = (tt, tt)
  absent_good place o i n (ListOf ks u e) at = (tt, tt)
  absent_good place o i n (Leaf l d m r) at = removed_good place o.above i n (Leaf l d m r) o.held (said_of o n) (is_removal (told (said_of o n))) refl at (λ e. e)
  absent_good place o i n (LeafList l r e) at = empty (notes_of o n)
    where
      empty : (notes : Option Items) → AllGood t place o.above Has (noted_found (record { above = o.above; number = 0; node = n }) l o.held notes no_items)
      empty None = (tt, tt)
      empty (Some notes) = all_append (Good t place o.above Has) (misplaced_found (step_below o.above n whole) (is_longer notes no_items)) [] (misplaced_good place o.above (step_below o.above n whole) (is_longer notes no_items)) tt

  carried_good : (place : Place) (o : Around) (i : ℕ) (n : Node) (b : Bool) → IsAt place i n n.kind → AllGood t place o.above Has (if b then [] else absent_found o n n.kind)
  carried_good place o i n true at = tt
  carried_good place o i n false at = absent_good place o i n n.kind at

  child_good : (place : Place) (o : Around) (name : List ℕ) (i : ℕ) (key : Bool) (x : Option Node) → IsPlace place → node_named t (around place) name ≡ Some i → is_key t.nodes i ≡ key → slice_get t.nodes i ≡ x
      → AllGood t place o.above Has (child_found o key x)
  child_good place o name i key None p e k is = tt
  child_good place o name i true (Some n) p e k is = (tt, tt)
  child_good place o name i false (Some n) p e k is =
      carried_good place o i n _ (record { leads = λ c. leads_back t place name i n c p is e; kind = refl; no_key = k })

  named_good : (place : Place) (o : Around) (name : List ℕ) (x : Option ℕ) → IsPlace place → node_named t (around place) name ≡ x → AllGood t place o.above Has (name_noted t o name x)
  named_good place o name None p e = (tt, tt)
  named_good place o name (Some i) p e = child_good place o name i (is_key t.nodes i) (slice_get t.nodes i) p e refl refl

  own_good : (place : Place) (o : Around) (x : Option ℕ) → AllGood t place o.above Has (own_found o x)
  own_good place o None = (tt, tt)
  own_good place o (Some i) = tt

  annotation_good : (place : Place) (o : Around) (name : List ℕ) → IsPlace place → o.within ≡ around place → AllGood t place o.above Has (annotation_found t o name)
  annotation_good place o [] p w = own_good place o o.within
  annotation_good place o (b ∷ name) p w = named_good place o (b ∷ name) (node_named t o.within (b ∷ name)) p (ap (λ x. node_named t x (b ∷ name)) (sym w))

  twice_good : (place : Place) (o : Around) (b : Bool) (x : Option Node) → AllGood t place o.above Has (twice_found o b x)
  twice_good place o b None = tt
  twice_good place o false (Some n) = tt
  twice_good place o true (Some n) = (tt, tt)

  name_good : (place : Place) (o : Around) (name : List ℕ) (x : Option ℕ) → AllGood t place o.above Has (named_found t o name x)
  name_good place o name None = (tt, tt)
  name_good place o name (Some i) = twice_good place o (is_twice o.within name o.all) (slice_get t.nodes i)

  -- the fault of a member's name, or its annotation
  front_good : (place : Place) (o : Around) (name : List ℕ) (x : Option (List ℕ)) → IsPlace place → o.within ≡ around place → AllGood t place o.above Has (name_found t o name x)
  front_good place o name None p w = name_good place o name (node_named t o.within name)
  front_good place o name (Some rest) p w = annotation_good place o rest p w

  faults_good : (place : Place) (above : List PathStep) (reads : List (Result Value JsonFault)) → AllGood t place above Has (faults_of reads)
  faults_good place above [] = tt
  faults_good place above (Ok v ∷ reads) = faults_good place above reads
  faults_good place above (Err f ∷ reads) = (tt, faults_good place above reads)

  -- ---- the walk

  -- what is found in a value has what it needs, if each node's value has it
  abbrev Goods : Place → Around → Data → Type 0
  Goods place o d = (s : Spot) (k : NodeKind) → s.above ≡ o.above → IsAt place s.number s.node k → Within-all Has (found t (wanted_as o s k) d) → AllGood t place s.above Has (found t (wanted_as o s k) d)

  node_by : (place : Place) (o : Around) (name : List ℕ) (d : Data) (i : ℕ) (x : Option Node) → IsPlace place → node_named t (around place) name ≡ Some i → is_key t.nodes i ≡ false → slice_get t.nodes i ≡ x → Goods place o d
      → Within-all Has (found t (wanted_of o i x) d) → AllGood t place o.above Has (found t (wanted_of o i x) d)
  node_by place o name d i None p e key is goods h = tt
  node_by place o name d i (Some n) p e key is goods h =
      goods (record { above = o.above; number = i; node = n }) n.kind refl (record { leads = λ c. leads_back t place name i n c p is e; kind = refl; no_key = key }) h

  key_by : (place : Place) (o : Around) (name : List ℕ) (d : Data) (i : ℕ) (b : Bool) → IsPlace place → node_named t (around place) name ≡ Some i → is_key t.nodes i ≡ b → Goods place o d
      → Within-all Has (found t (if b then ignored else wanted_of o i (slice_get t.nodes i)) d) → AllGood t place o.above Has (found t (if b then ignored else wanted_of o i (slice_get t.nodes i)) d)
  key_by place o name d i true p e key goods h = tt
  key_by place o name d i false p e key goods h = node_by place o name d i (slice_get t.nodes i) p e key refl goods h

  at_good : (place : Place) (o : Around) (name : List ℕ) (d : Data) (x : Option ℕ) → IsPlace place → node_named t (around place) name ≡ x → Goods place o d
      → Within-all Has (found t (wanted_at t o x) d) → AllGood t place o.above Has (found t (wanted_at t o x) d)
  at_good place o name d None p e goods h = tt
  at_good place o name d (Some i) p e goods h = key_by place o name d i (is_key t.nodes i) p e refl goods h

  wanted_good : (place : Place) (o : Around) (name : List ℕ) (d : Data) (x : Option (List ℕ)) → IsPlace place → o.within ≡ around place → Goods place o d
      → Within-all Has (found t (wanted t o name x) d) → AllGood t place o.above Has (found t (wanted t o name x) d)
  wanted_good place o name d None p w goods h = at_good place o name d (node_named t o.within name) p (ap (λ x. node_named t x name) (sym w)) goods h
  wanted_good place o name d (Some rest) p w goods h = tt

  -- the faults of an entry's keys, and the entry with what is in it
  entry_by : (place : Place) (s : Spot) (rs : List (Result Value JsonFault)) (held : Bool) (said : Said) (inner : List Finding) (b : Bool)
      → IsAt place s.number s.node s.node.kind → HasWorth (told said) s.node.kind (keys (values_of rs)) (Some Present)
      → (Within-all Has inner → AllGood t (Within s.number) (entry_path s rs) Has inner)
      → Within-all Has (faults_of rs ++ (if b then node_found (entry_path s rs) held said (Some Present) ++ inner else []))
      → AllGood t place s.above Has (faults_of rs ++ (if b then node_found (entry_path s rs) held said (Some Present) ++ inner else []))
  entry_by place s rs held said inner false at worth good h = all_append (Good t place s.above Has) (faults_of rs) [] (faults_good place s.above rs) tt
  entry_by place s rs held said inner true at worth good h =
      let node = node_found (entry_path s rs) held said (Some Present) in
      let all : Within-all Has (node ++ inner) = λ q g. h q (on_right q (faults_of rs) (node ++ inner) g) in
      let mine : Has (entry_path s rs) = all (entry_path s rs) (inl refl) in
      all_append (Good t place s.above Has) (faults_of rs) (node ++ inner) (faults_good place s.above rs)
      (all_append (Good t place s.above Has) node inner (node_good place s.above s.number s.node s.node.kind (keys (values_of rs)) held said (Some Present) at worth)
      (all_lifted t place s.above Has (step_of s.node (keys (values_of rs))) s.number s.node (at.leads (keys (values_of rs))) mine inner (good (λ q g. all q (on_right q node inner g)))))

  as_found : (place : Place) (s : Spot) (k : NodeKind) → IsAt place s.number s.node k → IsAt place s.number s.node s.node.kind
  as_found place s k at = record { leads = at.leads; kind = refl; no_key = at.no_key }

  mutual
    value_of_good : (place : Place) (o : Around) (d : Data) (s : Spot) (k : NodeKind) → IsAt place s.number s.node k → Within-all Has (found t (wanted_as o s k) d) → AllGood t place s.above Has (found t (wanted_as o s k) d)
    value_of_good place o d s (Leaf l def m r) at h = leaf_good place s (Leaf l def m r) o.held (said_of o s.node) (leaf_value l d) at (λ v. refl)
    value_of_good place o d s (LeafList l r e) at h = leaf_list_good place s (LeafList l r e) l o.held at (λ said v. refl) (notes_of o s.node) d
    value_of_good place o (object ms) s (Container p) at h =
        let node = node_found (bare s) o.held (own_said ms) (presence_value p) in
        let inner = members_found t (inside (bare s) s.number o.held ms) ms in
        all_append (Good t place s.above Has) node inner (node_good place s.above s.number s.node (Container p) whole o.held (own_said ms) (presence_value p) at refl)
        (all_lifted t place s.above Has (step_of s.node whole) s.number s.node (at.leads whole) (h (bare s) (inl refl)) inner
        (members_good (Within s.number) (inside (bare s) s.number o.held ms) ms tt refl (λ q g. h q (on_right q node inner g))))
    value_of_good place o null s (Container p) at h = (tt, tt)
    value_of_good place o (boolean b) s (Container p) at h = (tt, tt)
    value_of_good place o (number n) s (Container p) at h = (tt, tt)
    value_of_good place o (string x) s (Container p) at h = (tt, tt)
    value_of_good place o (array ds) s (Container p) at h = (tt, tt)
    value_of_good place o (array ds) s (ListOf ks u e) at h = entries_good place ds s ks o.held (ListOf ks u e) at (λ said vs. refl) h
    value_of_good place o null s (ListOf ks u e) at h = (tt, tt)
    value_of_good place o (boolean b) s (ListOf ks u e) at h = (tt, tt)
    value_of_good place o (number n) s (ListOf ks u e) at h = (tt, tt)
    value_of_good place o (string x) s (ListOf ks u e) at h = (tt, tt)
    value_of_good place o (object ms) s (ListOf ks u e) at h = (tt, tt)

    entries_good : (place : Place) (ds : Items) (s : Spot) (ks : List ℕ) (held : Bool) (k : NodeKind) → IsAt place s.number s.node k → ((said : Said) (vs : List Value) → HasWorth (told said) k (keys vs) (Some Present))
        → Within-all Has (items_found t (list_item s ks held) ds) → AllGood t place s.above Has (items_found t (list_item s ks held) ds)
    entries_good place no_items s ks held k at worth h = tt
    entries_good place (item d ds) s ks held k at worth h =
        let one = found t (list_item s ks held) d in
        let others = items_found t (list_item s ks held) ds in
        all_append (Good t place s.above Has) one others (entry_good place d s ks held k at worth (λ q g. h q (on_left q one others g)))
        (entries_good place ds s ks held k at worth (λ q g. h q (on_right q one others g)))

    entry_good : (place : Place) (d : Data) (s : Spot) (ks : List ℕ) (held : Bool) (k : NodeKind) → IsAt place s.number s.node k → ((said : Said) (vs : List Value) → HasWorth (told said) k (keys vs) (Some Present))
        → Within-all Has (found t (list_item s ks held) d) → AllGood t place s.above Has (found t (list_item s ks held) d)
    entry_good place (object ms) s ks held k at worth h =
        let rs = map (key_read t (bare s) ms) ks in
        let o = inside (entry_path s rs) s.number held ms in
        entry_by place s rs held (own_said ms) (members_found t o ms) _ (as_found place s k at)
        (subst (λ (x : NodeKind). HasWorth (told (own_said ms)) x (keys (values_of rs)) (Some Present)) (sym at.kind) (worth (own_said ms) (values_of rs)))
        (λ all. members_good (Within s.number) o ms tt refl all) h
    entry_good place null s ks held k at worth h = (tt, tt)
    entry_good place (boolean b) s ks held k at worth h = (tt, tt)
    entry_good place (number n) s ks held k at worth h = (tt, tt)
    entry_good place (string x) s ks held k at worth h = (tt, tt)
    entry_good place (array ds) s ks held k at worth h = (tt, tt)

    members_good : (place : Place) (o : Around) (ms : Members) → IsPlace place → o.within ≡ around place → Within-all Has (members_found t o ms) → AllGood t place o.above Has (members_found t o ms)
    members_good place o no_members p w h = tt
    members_good place o (member name d rest) p w h =
        let a = name_found t o name (annotated name) in
        let b = found t (wanted t o name (annotated name)) d in
        let c = members_found t o rest in
        all_append (Good t place o.above Has) (a ++ b) c
        (all_append (Good t place o.above Has) a b (front_good place o name (annotated name) p w)
        (wanted_good place o name d (annotated name) p w
        (λ s k e at g. value_of_good place o d s k at g)
        (λ q g. h q (on_left q (a ++ b) c (on_right q a b g)))))
        (members_good place o rest p w (λ q g. h q (on_right q (a ++ b) c g)))

  whole_good : (d : Data) → Within-all Has (whole_found t d) → AllGood t Top [] Has (whole_found t d)
  whole_good (object ms) h = members_good Top (top ms) ms tt refl h
  whole_good null h = (tt, tt)
  whole_good (boolean b) h = (tt, tt)
  whole_good (number n) h = (tt, tt)
  whole_good (string x) h = (tt, tt)
  whole_good (array ds) h = (tt, tt)

-- ---- the map of the nodes

tied_path : (o : Ordering) → is_eq o ≡ true → o ≡ Equal
tied_path Less e = absurd cc
tied_path Equal e = refl
tied_path Greater e = absurd cc

-- a node of the map is among the findings, or was there before
from_nodes : (fs : List Finding) (m : NodeMap) (q : List PathStep) (v : Told) → get (nodes_of m fs) q ≡ Some v → HasNode q v fs ⊎ (get m q ≡ Some v)
from_nodes [] m q v e = inr e
from_nodes (wrong f ∷ fs) m q v e = from_nodes fs m q v e
from_nodes (named n ∷ fs) m q v e = by_rest (from_nodes fs (insert m n.path (told_of n)) q v e)
  where
    by_test : (b : Bool) → eq_by_cmp path_cmp q n.path ≡ b → cond b (Some (told_of n)) (get m q) ≡ Some v → HasNode q v (named n ∷ fs) ⊎ (get m q ≡ Some v)
    by_test true is g = inl (inl (path_cmp-IsAntisymmetric q n.path (tied_path (path_cmp q n.path) is), sym (same_Some (told_of n) v g)))
    by_test false is g = inr g

    by_rest : HasNode q v fs ⊎ (get (insert m n.path (told_of n)) q ≡ Some v) → HasNode q v (named n ∷ fs) ⊎ (get m q ≡ Some v)
    by_rest (inl h) = inl (inr h)
    by_rest (inr g) = by_test (eq_by_cmp path_cmp q n.path) refl (sym (get-insert paths_total m n.path (told_of n) q) ∙ g)

some_either : (b : Bool) (w : Told) (x : Option Told) → is_some x ≡ true → is_some (cond b (Some w) x) ≡ true
some_either true w x e = refl
some_either false w x e = e

there_later : (m : NodeMap) (p : List PathStep) (w : Told) (q : List PathStep) → is_some (get m q) ≡ true → is_some (get (insert m p w) q) ≡ true
there_later m p w q e = ap is_some (get-insert paths_total m p w q) ∙ some_either (eq_by_cmp path_cmp q p) w (get m q) e

there_now : (m : NodeMap) (p : List PathStep) (w : Told) (q : List PathStep) → q ≡ p → is_some (get (insert m p w) q) ≡ true
there_now m p w q e =
    let tie : eq_by_cmp path_cmp q p ≡ true = ap (eq_by_cmp path_cmp q) (sym e) ∙ ap is_eq (tied_itself paths_total q) in
    ap is_some (get-insert paths_total m p w q) ∙ ap (λ b. is_some (cond b (Some w) (get m q))) tie

-- what was there before stays
kept_there : (fs : List Finding) (m : NodeMap) (q : List PathStep) → is_some (get m q) ≡ true → is_some (get (nodes_of m fs) q) ≡ true
kept_there [] m q e = e
kept_there (named n ∷ fs) m q e = kept_there fs (insert m n.path (told_of n)) q (there_later m n.path (told_of n) q e)
kept_there (wrong f ∷ fs) m q e = kept_there fs m q e

-- a path of a node among the findings has a node in the map
node_there : (fs : List Finding) (m : NodeMap) (q : List PathStep) → HasPath q fs → is_some (get (nodes_of m fs) q) ≡ true
node_there [] m q h = absurd h
node_there (named n ∷ fs) m q (inl e) = kept_there fs (insert m n.path (told_of n)) q (there_now m n.path (told_of n) q e)
node_there (named n ∷ fs) m q (inr h) = node_there fs (insert m n.path (told_of n)) q h
node_there (wrong f ∷ fs) m q h = node_there fs m q h

good_node : (t : SchemaTree) (Has : Paths) (fs : List Finding) (q : List PathStep) (v : Told) → AllGood t Top [] Has fs → HasNode q v fs → IsNodeAt t Top [] Has (node_at (q, v))
good_node t Has [] q v h r = absurd r
good_node t Has (wrong f ∷ fs) q v h r = good_node t Has fs q v h.1 r
good_node t Has (named n ∷ fs) q v h (inr r) = good_node t Has fs q v h.1 r
good_node t Has (named n ∷ fs) q v h (inl e) =
    subst (λ (x : List PathStep). IsNodeAt t Top [] Has (node_at (x, v))) (sym e.0) (subst (λ (x : Told). IsNodeAt t Top [] Has (node_at (n.path, x))) (sym e.1) h.0)

found_node : (t : SchemaTree) (Has : Paths) (fs : List Finding) (q : List PathStep) (v : Told) → AllGood t Top [] Has fs → HasNode q v fs ⊎ (get (empty {X = Told} {R = path_cmp}) q ≡ Some v)
    → IsNodeAt t Top [] Has (node_at (q, v))
found_node t Has fs q v h (inl r) = good_node t Has fs q v h r
found_node t Has fs q v h (inr e) = absurd (none-some v (sym (get-empty path_cmp q) ∙ e))

-- ---- the entries of the map

abbrev Entry : Type 0
Entry = List PathStep × Told

first_of : (a b : Bool) → T (a && b) → T a
first_of true b p = tt
first_of false b p = p

second_of : (a b : Bool) → T (a && b) → T b
second_of true b p = p
second_of false b p = absurd p

is_less : (o : Ordering) → T (is_lt o) → o ≡ Less
is_less Less h = refl
is_less Equal h = absurd h
is_less Greater h = absurd h

below_paths : (p : List PathStep) (es : List Entry) → T (below_all path_cmp p es) → AllByRecursion (λ q. path_cmp p q ≡ Less) (paths (map node_at es))
below_paths p [] h = tt
below_paths p (e ∷ es) h = (is_less (path_cmp p e.0) (first_of _ _ h), below_paths p es (second_of _ _ h))

in_order : (es : List Entry) → T (is_sorted path_cmp es) → IsStrictlySortedBy path_cmp (paths (map node_at es))
unfolding IsStrictlySortedBy
in_order [] h = tt
in_order (e ∷ es) h = (below_paths e.0 es (first_of _ _ h), in_order es (second_of _ _ h))

some_or : {X : Type 0} (b : Bool) (x : X) (o : Option X) → (b || is_some o) ≡ is_some (cond b (Some x) o)
some_or true x o = refl
some_or false x o = refl

names_some : (es : List Entry) (p : List PathStep) → names (map node_at es) p ≡ is_some (find path_cmp p es)
names_some [] p = refl
names_some (e ∷ es) p =
    ap (λ b. b || names (map node_at es) p) ((eq_by_cmp_equiv paths_total).symm e.0 p) ∙ ap (λ b. eq_by_cmp path_cmp p e.0 || b) (names_some es p) ∙ some_or (eq_by_cmp path_cmp p e.0) e.1 (find path_cmp p es)

names_get : (m : NodeMap) (p : List PathStep) → names (nodes_in m) p ≡ is_some (get m p)
names_get m p = names_some (entries m) p ∙ ap is_some (sym (get-entries m p))

-- an entry is found by its key
not_tied : (p q : List PathStep) → path_cmp p q ≡ Less → eq_by_cmp path_cmp q p ≡ false
not_tied p q e = (eq_by_cmp_equiv paths_total).symm q p ∙ ap is_eq e

further_found : (all : List Entry) (e : Entry) (es : List Entry) → T (below_all path_cmp e.0 es) → AllByRecursion (λ x. find path_cmp x.0 all ≡ Some x.1) es
    → AllByRecursion (λ x. find path_cmp x.0 (e ∷ all) ≡ Some x.1) es
further_found all e [] h k = tt
further_found all e (x ∷ es) h k = (
  ap (λ b. cond b (Some e.1) (find path_cmp x.0 all)) (not_tied e.0 x.0 (is_less _ (first_of _ _ h))) ∙ k.0,
  further_found all e es (second_of _ _ h) k.1,
)

all_found : (es : List Entry) → T (is_sorted path_cmp es) → AllByRecursion (λ x. find path_cmp x.0 es ≡ Some x.1) es
all_found [] h = tt
all_found (e ∷ es) h = (
  ap (λ b. cond b (Some e.1) (find path_cmp e.0 es)) (ap is_eq (tied_itself paths_total e.0)),
  further_found es e es (first_of _ _ h) (all_found es (second_of _ _ h)),
)

-- ---- the edit

named_by : (t : SchemaTree) (Has : Paths) (n : EditNode) → IsNodeAt t Top [] Has n → IsNamed t n
unfolding node_of
named_by t Has n h = record {
  at = h.at;
  node = h.node;
  leads = ap (node_from t.nodes Top None) h.path_is ∙ h.leads None;
  there = h.there;
  no_key = h.no_key;
  worth = subst (λ (p : List PathStep). HasWorth n.operation h.node.kind (last_chosen p) n.value) (sym h.path_is) h.worth;
}

each_by : (t : SchemaTree) (m : NodeMap) → ((q : List PathStep) (v : Told) → get m q ≡ Some v → IsNamed t (node_at (q, v))) → (es : List Entry) → AllByRecursion (λ x. find path_cmp x.0 (entries m) ≡ Some x.1) es
    → AllByRecursion (IsNamed t) (map node_at es)
each_by t m f [] h = tt
each_by t m f (e ∷ es) h = (f e.0 e.1 (get-entries m e.0 ∙ h.0), each_by t m f es h.1)

some_told : (o : Option Told) → is_some o ≡ true → (v : Told) × (o ≡ Some v)
some_told None e = absurd cc
some_told (Some v) e = (v, refl)

pub edit_is : (t : SchemaTree) (d : Data) → IsEditOf t (nodes_in (nodes_of empty (whole_found t d)))
edit_is t d =
    let fs = whole_found t d in
    let m = nodes_of empty fs in
    let Has = λ (q : List PathStep). HasPath q fs in
    let good = whole_good t Has d (λ q h. h) in
    let at : (q : List PathStep) (v : Told) → get m q ≡ Some v → IsNodeAt t Top [] Has (node_at (q, v)) = λ q v g. found_node t Has fs q v good (from_nodes fs empty q v g) in
    record {
      ordered = in_order (entries m) (entries_sorted m);
      each = each_by t m (λ q v g. named_by t Has (node_at (q, v)) (at q v g)) (entries m) (all_found (entries m) (entries_sorted m));
      above = λ s ss r more e.
          let v = some_told (get m (s ∷ ss ++ r ∷ more)) (sym (names_get m (s ∷ ss ++ r ∷ more)) ∙ e) in
          let n = at (s ∷ ss ++ r ∷ more) v.0 v.1 in
          names_get m (s ∷ ss) ∙ node_there fs empty (s ∷ ss) (n.closed s ss r more (sym n.path_is));
    }

-- ---- the answer

taken_by : (b : Bool) (m : NodeMap) (r : Refusal) (nodes : List EditNode) → ◌≡◌ {A = Result (List EditNode) Refusal} (if b then Err r else Ok (nodes_in m)) (Ok nodes) → nodes_in m ≡ nodes
taken_by true m r nodes e = absurd cc
taken_by false m r nodes e = cc

taken : (t : SchemaTree) (least : Option Fault) (m : NodeMap) (nodes : List EditNode) → answered t least m ≡ Ok nodes → nodes_in m ≡ nodes
taken t None m nodes e = taken_by (nat_lt node_limit (len m)) m _ nodes e
taken t (Some f) m nodes e = absurd cc

-- the edit that is answered is one of the schema, unless memory ran out
pub given_law : (r : Result (List EditNode) EditFault) (t : SchemaTree) (d : Data) → Gives r (edit_read t d) → IfOk r (IsEditOf t)
given_law (Ok nodes) t d g = subst (IsEditOf t) (taken t (least_of (faults_found empty (whole_found t d))) (nodes_of empty (whole_found t d)) nodes g) (edit_is t d)
given_law (Err e) t d g = tt
