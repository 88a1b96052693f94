-- What a row that is put into JSON members changes of what is found in them.
use Rattle.std.proofs.Common.{◌≡◌, ℕ, List, [], ◌∷◌, ◌++◌, map, Bool, true, false, if◌then◌else◌, Option, Some, None, Result, Ok, Err, slice_get, inl, inr, ◌⊎◌, refl, sym, ap, ◌∙◌, subst, append_assoc}
use Rattle.std.proofs.lemmas.List.{append-nil}
use Rattle.std.specs.List.{AllByRecursion}
use Rattle.serde_json.specs.Data.{Data, null, boolean, number, string, array, object, Items, no_items, item, Members, no_members, put}
use Rattle.serde_json.specs.Find.{get_member}
use Rattle.serde_json.proofs.Views.{get_member-put}
use Rattle.nm_types.specs.LeafType.{TypeOfLeaf}
use Rattle.nm_types.specs.Spells.{IsOnce}
use Rattle.nm_types.specs.Path.{PathStep, Choice, whole, keys, entry}
use Rattle.nm_types.specs.declared.value.Value.{Value}
use Rattle.nm_types.specs.declared.value.Value.TheVariants.{Present}
use Rattle.nm_schema_tree.specs.declared.node.Node.{Node}
use Rattle.nm_schema_tree.specs.declared.node.NodeKind.{NodeKind}
use Rattle.nm_schema_tree.specs.declared.node.NodeKind.TheVariants.{Container, Leaf, LeafList, List as ListOf}
use Rattle.nm_schema_tree.specs.Nodes.{SchemaTree, is_key, type_in, type_of, type_at, keys_in, keys_of, keys_at}
use Rattle.nm_path.specs.declared.place.Place.{Place}
use Rattle.nm_path.specs.declared.place.Place.TheVariants.{Top, Within, Nowhere}
use Rattle.nm_path.specs.Spelling.{found_of, below, name_at}
use Rattle.nm_path.specs.Sound.{IsSound, is_leaf}
use Rattle.nm_json.specs.declared.fault.JsonKind.{JsonKind}
use Rattle.nm_json.specs.Values.{leaf_value}
use Rattle.nm_json.specs.Findings.{Finding, row, bad, Spot, bare, step_below, has_colon, twice_found, named_found, leaf_found, value_found, presence_found, Wanted, ignored, container, leaf, leaf_list, list, leaf_item, list_item, wanted_as, wanted_of, wanted, found, items_found, members_found}
use Rattle.nm_json.specs.Writing.{value_data, narrow_at, member_name, members_in, items_in, key_members, append, in_last, step_data, put_steps}
use Rattle.nm_json.specs.Configs.{AreKeyValues, GoesOn, EndsAt, LeadsTo, IsRow, is_own, is_own_in, is_own_at}
use Rattle.nm_json.proofs.Shuffled as lists
use Rattle.nm_json.proofs.Shuffled.{Shuffled}
use Rattle.nm_json.proofs.Tidy.{IsBareName, TidyData, TidyItems, TidyMembers, TidyMember, tidy_member, put_tidy, member_found, plain_found, before_found, put_found, members_plain, is_top, all_right, all_before}
use Rattle.nm_json.proofs.Nodes.{led, around, node_bare, member_leads, no_key, keys_known, child_leads}
use Rattle.nm_json.proofs.Keyed.{KeysAre, entry_read, value_tidy, value_read, keys_tidy, keys_written, keys_found, no_key_name, keys_kept}

-- ---- where the last row lies

abbrev pub SpineAt : SchemaTree → NodeKind → Choice → (Members → Type 0) → Option Data → Type 0
SpineAt t (Container presence) c within o = (inner : Members) × (o ≡ Some (object inner)) × within inner
SpineAt t (ListOf ks u e) (keys vs) within o = (front : Items) × (inner : Members) × (o ≡ Some (array (append front (object inner)))) × KeysAre t inner ks vs × within inner
SpineAt t (ListOf ks u e) whole within o = Unit {0}
SpineAt t (ListOf ks u e) (entry v) within o = Unit {0}
SpineAt t (Leaf l d m r) c within o = Unit {0}
SpineAt t (LeafList l r e) c within o = Unit {0}

abbrev pub SpineIn : SchemaTree → Option Node → Choice → (Members → Type 0) → Option Data → Type 0
SpineIn t None c within o = Unit {0}
SpineIn t (Some n) c within o = SpineAt t n.kind c within o

abbrev pub node_in : List Node → Option ℕ → Option Node
node_in nodes None = None
node_in nodes (Some at) = slice_get nodes at

-- along a path the containers are there, and in each array the last entry is that of the path
abbrev pub Spine : SchemaTree → Place → List PathStep → Members → Type 0
Spine t place [] ms = Unit {0}
Spine t place (s ∷ ss) ms =
    SpineIn t (node_in t.nodes (found_of t.nodes place s.«module» s.name)) s.chosen (Spine t (below (found_of t.nodes place s.«module» s.name)) ss) (get_member (member_name place s) ms)

-- the list entries and presence containers above the second row are those of the first
abbrev pub Leans : List Node → Place → List PathStep → List PathStep → Type 0
Leans nodes place p [] = Unit {0}
Leans nodes place p (s ∷ []) = Unit {0}
Leans nodes place [] (s ∷ r ∷ ss) =
    (is_own_at nodes (found_of nodes place s.«module» s.name) ≡ false) × Leans nodes (below (found_of nodes place s.«module» s.name)) [] (r ∷ ss)
Leans nodes place (u ∷ us) (s ∷ r ∷ ss) =
    ((u ≡ s) × Leans nodes (below (found_of nodes place s.«module» s.name)) us (r ∷ ss))
    ⊎ ((is_own_at nodes (found_of nodes place s.«module» s.name) ≡ false) × Leans nodes (below (found_of nodes place s.«module» s.name)) [] (r ∷ ss))

-- a finding is a row of another path
abbrev pub Misses : List PathStep → Finding → Type 0
Misses full (row path v) = path ≡ full → ⊥
Misses full (bad fault) = ⊥

-- once a row was put
pub record After (t : SchemaTree) (place : Place) (above q : List PathStep) (v : Value) (ms : Members) (full : List PathStep) : Type 0 where
  pub found : Shuffled (plain_found t above (around place) (put_steps t place q v ms)) (row full v ∷ plain_found t above (around place) ms)
  pub spine : Spine t place q (put_steps t place q v ms)

-- ---- items

last_first : {A : Type 0} (xs : List A) (x : A) → Shuffled (xs ++ x ∷ []) (x ∷ xs)
last_first xs x = lists.further (x ∷ (xs ++ [])) (lists.parts xs (x ∷ []) []) (lists.equals (ap (λ ys. x ∷ ys) (append-nil xs)))

items_append : (t : SchemaTree) (w : Wanted) (ds : Items) (d : Data) → items_found t w (append ds d) ≡ items_found t w ds ++ found t w d
items_append t w no_items d = append-nil (found t w d)
items_append t w (item e ds) d = ap (λ fs. found t w e ++ fs) (items_append t w ds d) ∙ sym (append_assoc (found t w e) (items_found t w ds) (found t w d))

in_last_append : (f : Members → Members) (front : Items) (inner : Members) → in_last f (append front (object inner)) ≡ append front (object (f inner))
in_last_append f no_items inner = refl
in_last_append f (item d no_items) inner = refl
in_last_append f (item d (item e ds)) inner = ap (item d) (in_last_append f (item e ds) inner)

append_tidy : (ds : Items) (d : Data) → TidyItems ds → TidyData d → TidyItems (append ds d)
append_tidy no_items d h t = (t, tt)
append_tidy (item e ds) d h t = (h.0, append_tidy ds d h.1 t)

last_tidy : (front : Items) (d : Data) → TidyItems (append front d) → TidyData d
last_tidy no_items d h = h.0
last_tidy (item e ds) d h = last_tidy ds d h.1

items_tidy : (o : Option Data) → TidyMember o → TidyItems (items_in o)
items_tidy None h = tt
items_tidy (Some (array ds)) h = h
items_tidy (Some null) h = tt
items_tidy (Some (boolean b)) h = tt
items_tidy (Some (number n)) h = tt
items_tidy (Some (string s)) h = tt
items_tidy (Some (object ms)) h = tt

members_tidy : (o : Option Data) → TidyMember o → TidyMembers false (members_in o)
members_tidy None h = tt
members_tidy (Some (object ms)) h = h
members_tidy (Some null) h = tt
members_tidy (Some (boolean b)) h = tt
members_tidy (Some (number n)) h = tt
members_tidy (Some (string s)) h = tt
members_tidy (Some (array ds)) h = tt

in_last_tidy : (f : Members → Members) (ds : Items) → ((ms : Members) → TidyMembers false ms → TidyMembers false (f ms)) → TidyItems ds → TidyItems (in_last f ds)
in_last_tidy f no_items g h = tt
in_last_tidy f (item d no_items) g h = (g (members_in (Some d)) (members_tidy (Some d) h.0), tt)
in_last_tidy f (item d (item e ds)) g h = (h.0, in_last_tidy f (item e ds) g h.1)

-- ---- what is found in a value

-- what is found in a value, if it is there
abbrev pub held : SchemaTree → Wanted → Option Data → List Finding
held t w None = []
held t w (Some d) = found t w d

missed_leaf : (path : List PathStep) (r : Result Value JsonKind) → AllByRecursion (Misses path) (leaf_found path r) → ⊥
missed_leaf path (Ok v) h = h.0 refl
missed_leaf path (Err kind) h = h.0

container_end : (t : SchemaTree) (s : Spot) (p narrow : Bool) (v : Value) (o : Option Data) → p ≡ true → v ≡ Present → AllByRecursion (Misses (bare s)) (held t (container s p) o)
    → Shuffled (found t (container s p) (value_data narrow v)) (row (bare s) v ∷ held t (container s p) o)
container_end t s false narrow v o e f h = absurd cc
container_end t s true narrow v None e f h = lists.equals (ap (λ u. found t (container s true) (value_data narrow u)) f ∙ ap (λ u. row (bare s) u ∷ []) (sym f))
container_end t s true narrow v (Some (object ms)) e f h = absurd (h.0 refl)
container_end t s true narrow v (Some null) e f h = absurd h.0
container_end t s true narrow v (Some (boolean b)) e f h = absurd h.0
container_end t s true narrow v (Some (number n)) e f h = absurd h.0
container_end t s true narrow v (Some (string x)) e f h = absurd h.0
container_end t s true narrow v (Some (array ds)) e f h = absurd h.0

leaf_end : (t : SchemaTree) (s : Spot) (l : TypeOfLeaf) (v : Value) (d : Data) (o : Option Data) → leaf_value l d ≡ Ok v → AllByRecursion (Misses (bare s)) (held t (leaf s l) o)
    → Shuffled (found t (leaf s l) d) (row (bare s) v ∷ held t (leaf s l) o)
leaf_end t s l v d None e h = lists.equals (ap (leaf_found (bare s)) e)
leaf_end t s l v d (Some x) e h = absurd (missed_leaf (bare s) (leaf_value l x) h)

leaf_list_end : (t : SchemaTree) (s : Spot) (l : TypeOfLeaf) (w : Value) (d : Data) (o : Option Data) (full : List PathStep) → leaf_value l d ≡ Ok w → AllByRecursion (Misses full) (held t (leaf_list s l) o)
    → Shuffled (found t (leaf_list s l) (array (append (items_in o) d))) (row (step_below s.above s.node (entry w)) w ∷ held t (leaf_list s l) o)
leaf_list_end t s l w d None full e h = lists.equals (ap (λ r. value_found s r ++ []) e)
leaf_list_end t s l w d (Some (array ds)) full e h =
    let before = items_found t (leaf_item s l) ds in
    lists.further (before ++ row (step_below s.above s.node (entry w)) w ∷ []) (lists.equals (items_append t (leaf_item s l) ds d ∙ ap (λ r. before ++ value_found s r) e))
    (last_first before (row (step_below s.above s.node (entry w)) w))
leaf_list_end t s l w d (Some (object ms)) full e h = absurd h.0
leaf_list_end t s l w d (Some null) full e h = absurd h.0
leaf_list_end t s l w d (Some (boolean b)) full e h = absurd h.0
leaf_list_end t s l w d (Some (number n)) full e h = absurd h.0
leaf_list_end t s l w d (Some (string x)) full e h = absurd h.0

list_one : (t : SchemaTree) (s : Spot) (ks : List ℕ) (vs : List Value) (ms : Members) → KeysAre t ms ks vs
    → Shuffled (members_found t (step_below s.above s.node (keys vs)) (Some s.number) ms ms) [] → Shuffled (found t (list_item s ks) (object ms)) (row (step_below s.above s.node (keys vs)) Present ∷ [])
list_one t s ks vs ms h none =
    let path = step_below s.above s.node (keys vs) in
    lists.further (row path Present ∷ members_found t path (Some s.number) ms ms) (lists.equals (entry_read t s ks vs ms h)) (lists.behind none)

list_end : (t : SchemaTree) (s : Spot) (ks : List ℕ) (vs : List Value) (ms : Members) (o : Option Data) (full : List PathStep) → KeysAre t ms ks vs
    → Shuffled (members_found t (step_below s.above s.node (keys vs)) (Some s.number) ms ms) [] → AllByRecursion (Misses full) (held t (list s ks) o)
    → Shuffled (found t (list s ks) (array (append (items_in o) (object ms)))) (row (step_below s.above s.node (keys vs)) Present ∷ held t (list s ks) o)
list_end t s ks vs ms None full h none miss = lists.before_all [] (list_one t s ks vs ms h none)
list_end t s ks vs ms (Some (array ds)) full h none miss =
    let before = items_found t (list_item s ks) ds in
    let new = row (step_below s.above s.node (keys vs)) Present in
    lists.further (before ++ found t (list_item s ks) (object ms)) (lists.equals (items_append t (list_item s ks) ds (object ms)))
    (lists.further (before ++ new ∷ []) (lists.after_all before (list_one t s ks vs ms h none)) (last_first before new))
list_end t s ks vs ms (Some (object ns)) full h none miss = absurd miss.0
list_end t s ks vs ms (Some null) full h none miss = absurd miss.0
list_end t s ks vs ms (Some (boolean b)) full h none miss = absurd miss.0
list_end t s ks vs ms (Some (number n)) full h none miss = absurd miss.0
list_end t s ks vs ms (Some (string x)) full h none miss = absurd miss.0

-- ---- where a path goes on

-- the members that a path goes on in
abbrev Inner : SchemaTree → NodeKind → Choice → Option Data → Members → Type 0
Inner t (Container p) c o inner = (o ≡ Some (object inner)) ⊎ ((o ≡ None) × (p ≡ false) × (inner ≡ no_members))
Inner t (ListOf ks u e) (keys vs) o inner = (front : Items) × (o ≡ Some (array (append front (object inner)))) × KeysAre t inner ks vs
Inner t (ListOf ks u e) whole o inner = ⊥
Inner t (ListOf ks u e) (entry v) o inner = ⊥
Inner t (Leaf l d m r) c o inner = ⊥
Inner t (LeafList l r e) c o inner = ⊥

-- these are on the spine
spine_inner : (t : SchemaTree) (k : NodeKind) (c : Choice) (o : Option Data) (within : Members → Type 0) → GoesOn t.nodes k c → SpineAt t k c within o → (inner : Members) × Inner t k c o inner × within inner
spine_inner t (Container p) c o within on h = (h.0, inl h.1, h.2)
spine_inner t (ListOf ks u e) (keys vs) o within on h = (h.1, (h.0, h.2, h.3), h.4)
spine_inner t (ListOf ks u e) whole o within on h = absurd on
spine_inner t (ListOf ks u e) (entry v) o within on h = absurd on
spine_inner t (Leaf l d m r) whole o within on h = absurd on
spine_inner t (Leaf l d m r) (keys vs) o within on h = absurd on
spine_inner t (Leaf l d m r) (entry v) o within on h = absurd on
spine_inner t (LeafList l r e) whole o within on h = absurd on
spine_inner t (LeafList l r e) (keys vs) o within on h = absurd on
spine_inner t (LeafList l r e) (entry v) o within on h = absurd on

free_container : (t : SchemaTree) (s : Spot) (p : Bool) (o : Option Data) (full : List PathStep) → p ≡ false → AllByRecursion (Misses full) (held t (container s p) o) → (inner : Members) × Inner t (Container p) whole o inner
free_container t s p None full e h = (no_members, inr (refl, e, refl))
free_container t s p (Some (object ms)) full e h = (ms, inl refl)
free_container t s p (Some null) full e h = absurd h.0
free_container t s p (Some (boolean b)) full e h = absurd h.0
free_container t s p (Some (number n)) full e h = absurd h.0
free_container t s p (Some (string x)) full e h = absurd h.0
free_container t s p (Some (array ds)) full e h = absurd h.0

-- or in a container without presence
free_inner : (t : SchemaTree) (s : Spot) (k : NodeKind) (c : Choice) (o : Option Data) (full : List PathStep) → GoesOn t.nodes k c → is_own k ≡ false → AllByRecursion (Misses full) (held t (wanted_as s k) o) → (inner : Members) × Inner t k c o inner
free_inner t s (Container p) whole o full on own h = free_container t s p o full own h
free_inner t s (Container p) (keys vs) o full on own h = absurd on
free_inner t s (Container p) (entry v) o full on own h = absurd on
free_inner t s (ListOf ks u e) c o full on own h = absurd cc
free_inner t s (Leaf l d m r) whole o full on own h = absurd on
free_inner t s (Leaf l d m r) (keys vs) o full on own h = absurd on
free_inner t s (Leaf l d m r) (entry v) o full on own h = absurd on
free_inner t s (LeafList l r e) whole o full on own h = absurd on
free_inner t s (LeafList l r e) (keys vs) o full on own h = absurd on
free_inner t s (LeafList l r e) (entry v) o full on own h = absurd on

inner_tidy : (t : SchemaTree) (k : NodeKind) (c : Choice) (o : Option Data) (inner : Members) → Inner t k c o inner → TidyMember o → TidyMembers false inner
inner_tidy t (Container p) c o inner (inl e) h = subst TidyMember e h
inner_tidy t (Container p) c o inner (inr n) h = subst (TidyMembers false) (sym n.2) tt
inner_tidy t (ListOf ks u e) (keys vs) o inner i h = last_tidy i.0 (object inner) (subst TidyMember i.1 h)
inner_tidy t (ListOf ks u e) whole o inner i h = absurd i
inner_tidy t (ListOf ks u e) (entry v) o inner i h = absurd i
inner_tidy t (Leaf l d m r) c o inner i h = absurd i
inner_tidy t (LeafList l r e) c o inner i h = absurd i

-- what is found in what holds these members, by what is found in them
abbrev front_found : (t : SchemaTree) (s : Spot) (k : NodeKind) (c : Choice) (o : Option Data) (inner : Members) → Inner t k c o inner → List Finding
front_found t s (Container p) c o inner i = presence_found s p
front_found t s (ListOf ks u e) (keys vs) o inner i = items_found t (list_item s ks) i.0 ++ row (step_below s.above s.node (keys vs)) Present ∷ []
front_found t s (ListOf ks u e) whole o inner i = absurd i
front_found t s (ListOf ks u e) (entry v) o inner i = absurd i
front_found t s (Leaf l d m r) c o inner i = absurd i
front_found t s (LeafList l r e) c o inner i = absurd i

container_new : (t : SchemaTree) (s : Spot) (p : Bool) (x new : Members) → x ≡ new → TidyMembers false new → found t (container s p) (object x) ≡ presence_found s p ++ plain_found t (bare s) (Some s.number) new
container_new t s p x new e h = ap (λ y. found t (container s p) (object y)) e ∙ ap (λ fs. presence_found s p ++ fs) (members_plain t (bare s) (Some s.number) new new h)

list_parts : (t : SchemaTree) (s : Spot) (ks : List ℕ) (vs : List Value) (front : Items) (x : Members) → KeysAre t x ks vs → TidyMembers false x
    → items_found t (list_item s ks) (append front (object x))
    ≡ (items_found t (list_item s ks) front ++ row (step_below s.above s.node (keys vs)) Present ∷ []) ++ plain_found t (step_below s.above s.node (keys vs)) (Some s.number) x
list_parts t s ks vs front x h tidy =
    let path = step_below s.above s.node (keys vs) in
    let before = items_found t (list_item s ks) front in
    items_append t (list_item s ks) front (object x) ∙ ap (λ fs. before ++ fs) (entry_read t s ks vs x h)
    ∙ ap (λ fs. before ++ row path Present ∷ fs) (members_plain t path (Some s.number) x x tidy)
    ∙ sym (append_assoc before (row path Present ∷ []) (plain_found t path (Some s.number) x))

old_found : (t : SchemaTree) (s : Spot) (k : NodeKind) (c : Choice) (o : Option Data) (inner : Members) (i : Inner t k c o inner) → GoesOn t.nodes k c → TidyMembers false inner
    → held t (wanted_as s k) o ≡ front_found t s k c o inner i ++ plain_found t (step_below s.above s.node c) (Some s.number) inner
old_found t s (Container p) whole o inner (inl e) on tidy = ap (held t (container s p)) e ∙ container_new t s p inner inner refl tidy
old_found t s (Container p) whole o inner (inr n) on tidy =
    let one : presence_found s p ≡ [] = ap (presence_found s) n.1 in
    let two : plain_found t (bare s) (Some s.number) inner ≡ [] = ap (plain_found t (bare s) (Some s.number)) n.2 in
    ap (held t (container s p)) n.0 ∙ sym (ap (λ fs. fs ++ plain_found t (bare s) (Some s.number) inner) one ∙ two)
old_found t s (Container p) (keys vs) o inner i on tidy = absurd on
old_found t s (Container p) (entry v) o inner i on tidy = absurd on
old_found t s (ListOf ks u e) (keys vs) o inner i on tidy = ap (held t (list s ks)) i.1 ∙ list_parts t s ks vs i.0 inner i.2 tidy
old_found t s (ListOf ks u e) whole o inner i on tidy = absurd i
old_found t s (ListOf ks u e) (entry v) o inner i on tidy = absurd i
old_found t s (Leaf l d m r) c o inner i on tidy = absurd i
old_found t s (LeafList l r e) c o inner i on tidy = absurd i

inner_members : (t : SchemaTree) (p : Bool) (c : Choice) (o : Option Data) (inner : Members) → Inner t (Container p) c o inner → members_in o ≡ inner
inner_members t p c o inner (inl e) = ap members_in e
inner_members t p c o inner (inr n) = ap members_in n.0 ∙ sym n.2

in_last_inner : (f : Members → Members) (o : Option Data) (front : Items) (inner new : Members) → o ≡ Some (array (append front (object inner))) → f inner ≡ new → in_last f (items_in o) ≡ append front (object new)
in_last_inner f o front inner new e g = ap (λ x. in_last f (items_in x)) e ∙ in_last_append f front inner ∙ ap (λ x. append front (object x)) g

-- the keys of an entry are kept
abbrev KeysKept : SchemaTree → NodeKind → Members → Members → Type 0
KeysKept t k inner new = (vs : List Value) → KeysAre t inner (keys_of k) vs → KeysAre t new (keys_of k) vs

new_found : (t : SchemaTree) (s : Spot) (k : NodeKind) (c : Choice) (o : Option Data) (inner new : Members) (i : Inner t k c o inner) (r : PathStep) (ss : List PathStep) (v : Value) (f : Members → Members)
    → GoesOn t.nodes k c → f inner ≡ new → TidyMembers false new → KeysKept t k inner new
    → found t (wanted_as s k) (step_data t.nodes (Some s.number) c (r ∷ ss) v o f) ≡ front_found t s k c o inner i ++ plain_found t (step_below s.above s.node c) (Some s.number) new
new_found t s (Container p) whole o inner new i r ss v f on g tidy kept = container_new t s p (f (members_in o)) new (ap f (inner_members t p whole o inner i) ∙ g) tidy
new_found t s (Container p) (keys vs) o inner new i r ss v f on g tidy kept = absurd on
new_found t s (Container p) (entry w) o inner new i r ss v f on g tidy kept = absurd on
new_found t s (ListOf ks u e) (keys vs) o inner new i r ss v f on g tidy kept =
    ap (items_found t (list_item s ks)) (in_last_inner f o i.0 inner new i.1 g) ∙ list_parts t s ks vs i.0 new (kept vs i.2) tidy
new_found t s (ListOf ks u e) whole o inner new i r ss v f on g tidy kept = absurd i
new_found t s (ListOf ks u e) (entry w) o inner new i r ss v f on g tidy kept = absurd i
new_found t s (Leaf l d m x) c o inner new i r ss v f on g tidy kept = absurd i
new_found t s (LeafList l x e) c o inner new i r ss v f on g tidy kept = absurd i

new_spine : (t : SchemaTree) (at : ℕ) (k : NodeKind) (c : Choice) (o : Option Data) (inner new : Members) (i : Inner t k c o inner) (r : PathStep) (ss : List PathStep) (v : Value) (f : Members → Members)
    (within : Members → Type 0) → GoesOn t.nodes k c → f inner ≡ new → KeysKept t k inner new → within new → SpineAt t k c within (Some (step_data t.nodes (Some at) c (r ∷ ss) v o f))
new_spine t at (Container p) whole o inner new i r ss v f within on g kept h = (new, ap (λ x. Some (object x)) (ap f (inner_members t p whole o inner i) ∙ g), h)
new_spine t at (Container p) (keys vs) o inner new i r ss v f within on g kept h = absurd on
new_spine t at (Container p) (entry w) o inner new i r ss v f within on g kept h = absurd on
new_spine t at (ListOf ks u e) (keys vs) o inner new i r ss v f within on g kept h = (i.0, new, ap (λ x. Some (array x)) (in_last_inner f o i.0 inner new i.1 g), kept vs i.2, h)
new_spine t at (ListOf ks u e) whole o inner new i r ss v f within on g kept h = absurd i
new_spine t at (ListOf ks u e) (entry w) o inner new i r ss v f within on g kept h = absurd i
new_spine t at (Leaf l d m x) c o inner new i r ss v f within on g kept h = absurd i
new_spine t at (LeafList l x e) c o inner new i r ss v f within on g kept h = absurd i

goes_leaf : (nodes : List Node) (k : NodeKind) (c : Choice) → GoesOn nodes k c → is_leaf k ≡ false
goes_leaf nodes (Container p) c h = refl
goes_leaf nodes (ListOf ks u e) c h = refl
goes_leaf nodes (LeafList l r e) c h = refl
goes_leaf nodes (Leaf l d m r) whole h = absurd h
goes_leaf nodes (Leaf l d m r) (keys vs) h = absurd h
goes_leaf nodes (Leaf l d m r) (entry v) h = absurd h

-- ---- the last step

module _ (t : SchemaTree) (sound : IsSound t.nodes) where
  goes_no_key : (at : ℕ) (node : Node) (c : Choice) → slice_get t.nodes at ≡ Some node → GoesOn t.nodes node.kind c → is_key t.nodes at ≡ false
  goes_no_key at node c there h = no_key t sound at node there (goes_leaf t.nodes node.kind c h)

  ends_no_key_by : (at : ℕ) (node : Node) (k : NodeKind) (c : Choice) (v : Value) → node.kind ≡ k → slice_get t.nodes at ≡ Some node → EndsAt t.nodes at k c v → is_key t.nodes at ≡ false
  ends_no_key_by at node (Container p) c v is there h = no_key t sound at node there (ap is_leaf is)
  ends_no_key_by at node (ListOf ks u e) c v is there h = no_key t sound at node there (ap is_leaf is)
  ends_no_key_by at node (LeafList l r e) c v is there h = no_key t sound at node there (ap is_leaf is)
  ends_no_key_by at node (Leaf l d m r) whole v is there h = h.0
  ends_no_key_by at node (Leaf l d m r) (keys vs) v is there h = absurd h
  ends_no_key_by at node (Leaf l d m r) (entry w) v is there h = absurd h

  -- the keys of node `at`, as they are written
  keys_here : (at : ℕ) (node : Node) (k : NodeKind) → slice_get t.nodes at ≡ Some node → node.kind ≡ k → keys_at t.nodes (Some at) ≡ keys_of k
  keys_here at node k there is = ap keys_in there ∙ ap keys_of is

  keys_once : (at : ℕ) (node : Node) (k : NodeKind) → slice_get t.nodes at ≡ Some node → node.kind ≡ k → IsOnce (map (λ i. name_at t.nodes i) (keys_of k))
  keys_once at node k there is = subst (λ x. IsOnce (map (λ i. name_at t.nodes i) (keys_of x))) is (sound.named.keys at node there)

  -- a fresh entry
  record Fresh (s : Spot) (ks : List ℕ) (vs : List Value) (ms : Members) : Type 0 where
    tidy : TidyMembers false ms
    read : KeysAre t ms ks vs
    none : Shuffled (members_found t (step_below s.above s.node (keys vs)) (Some s.number) ms ms) []

  fresh : (s : Spot) (k : NodeKind) (vs : List Value) → slice_get t.nodes s.number ≡ Some s.node → s.node.kind ≡ k → AreKeyValues t.nodes (keys_of k) vs → Fresh s (keys_of k) vs (key_members t.nodes (keys_of k) vs no_members)
  fresh s k vs there is h =
      let ks = keys_of k in
      let all = keys_known t sound s.number s.node ks there (ap keys_of is) in
      let path = step_below s.above s.node (keys vs) in
      let ms = key_members t.nodes ks vs no_members in
      let neat = keys_tidy t sound s.number ks vs no_members all tt in
      record {
        tidy = neat;
        read = keys_written t sound s.number ks vs no_members all (keys_once s.number s.node k there is) h tt;
        none = lists.further (plain_found t path (Some s.number) ms) (lists.equals (members_plain t path (Some s.number) ms ms neat)) (keys_found t sound s.number path ks vs no_members all tt);
      }

  typed_here : (at : ℕ) (node : Node) (k : NodeKind) → slice_get t.nodes at ≡ Some node → node.kind ≡ k → type_at t.nodes at ≡ type_of k
  typed_here at node k there is = ap type_in there ∙ ap type_of is

  end_found : (s : Spot) (k : NodeKind) (c : Choice) (v : Value) (o : Option Data) (full : List PathStep) (f : Members → Members) → slice_get t.nodes s.number ≡ Some s.node → s.node.kind ≡ k
      → EndsAt t.nodes s.number k c v → step_below s.above s.node c ≡ full → AllByRecursion (Misses full) (held t (wanted_as s k) o)
      → Shuffled (found t (wanted_as s k) (step_data t.nodes (Some s.number) c [] v o f)) (row full v ∷ held t (wanted_as s k) o)
  end_found s (Container p) whole v o full f there is h e miss =
      let w = container s p in
      subst (λ q. Shuffled (found t w (value_data (narrow_at t.nodes (Some s.number)) v)) (row q v ∷ held t w o)) e
      (container_end t s p (narrow_at t.nodes (Some s.number)) v o h.0 h.1 (subst (λ q. AllByRecursion (Misses q) (held t w o)) (sym e) miss))
  end_found s (Container p) (keys vs) v o full f there is h e miss = absurd h
  end_found s (Container p) (entry w) v o full f there is h e miss = absurd h
  end_found s (Leaf l d m r) whole v o full f there is h e miss =
      let w = leaf s l in
      let data_of = value_data (narrow_at t.nodes (Some s.number)) v in
      let back = value_read t sound s.number v l h.1 (typed_here s.number s.node (Leaf l d m r) there is) in
      subst (λ q. Shuffled (found t w data_of) (row q v ∷ held t w o)) e (leaf_end t s l v data_of o back (subst (λ q. AllByRecursion (Misses q) (held t w o)) (sym e) miss))
  end_found s (Leaf l d m r) (keys vs) v o full f there is h e miss = absurd h
  end_found s (Leaf l d m r) (entry w) v o full f there is h e miss = absurd h
  end_found s (LeafList l r m) whole v o full f there is h e miss = absurd h
  end_found s (LeafList l r m) (keys vs) v o full f there is h e miss = absurd h
  end_found s (LeafList l r m) (entry w) v o full f there is h e miss =
      let data_of = value_data (narrow_at t.nodes (Some s.number)) w in
      let back = value_read t sound s.number w l h.1 (typed_here s.number s.node (LeafList l r m) there is) in
      let value = h.0 in
      lists.further (row (step_below s.above s.node (entry w)) w ∷ held t (leaf_list s l) o) (leaf_list_end t s l w data_of o full back miss) (lists.equals (λ i. row (e i) (sym value i) ∷ held t (leaf_list s l) o))
  end_found s (ListOf ks u x) whole v o full f there is h e miss = absurd h
  end_found s (ListOf ks u x) (entry w) v o full f there is h e miss = absurd h
  end_found s (ListOf ks u x) (keys vs) v o full f there is h e miss =
      let new = fresh s (ListOf ks u x) vs there is h.1 in
      let ms = key_members t.nodes ks vs no_members in
      let same : key_members t.nodes (keys_at t.nodes (Some s.number)) vs no_members ≡ ms = ap (λ l. key_members t.nodes l vs no_members) (keys_here s.number s.node (ListOf ks u x) there is) in
      let value = h.0 in
      lists.further (found t (list s ks) (array (append (items_in o) (object ms)))) (lists.equals (ap (λ y. found t (list s ks) (array (append (items_in o) (object y)))) same))
      (lists.further (row (step_below s.above s.node (keys vs)) Present ∷ held t (list s ks) o) (list_end t s ks vs ms o full new.read new.none miss)
      (lists.equals (λ i. row (e i) (sym value i) ∷ held t (list s ks) o)))

  end_spine : (s : Spot) (k : NodeKind) (c : Choice) (v : Value) (o : Option Data) (f : Members → Members) (within : Members → Type 0) → slice_get t.nodes s.number ≡ Some s.node → s.node.kind ≡ k
      → EndsAt t.nodes s.number k c v → ((ms : Members) → within ms) → SpineAt t k c within (Some (step_data t.nodes (Some s.number) c [] v o f))
  end_spine s (Container p) whole v o f within there is h all = (no_members, ap (λ u. Some (value_data (narrow_at t.nodes (Some s.number)) u)) h.1, all no_members)
  end_spine s (Container p) (keys vs) v o f within there is h all = absurd h
  end_spine s (Container p) (entry w) v o f within there is h all = absurd h
  end_spine s (Leaf l d m r) c v o f within there is h all = tt
  end_spine s (LeafList l r m) c v o f within there is h all = tt
  end_spine s (ListOf ks u x) whole v o f within there is h all = tt
  end_spine s (ListOf ks u x) (entry w) v o f within there is h all = tt
  end_spine s (ListOf ks u x) (keys vs) v o f within there is h all =
      let new = fresh s (ListOf ks u x) vs there is h.1 in
      let ms = key_members t.nodes ks vs no_members in
      let same : key_members t.nodes (keys_at t.nodes (Some s.number)) vs no_members ≡ ms = ap (λ l. key_members t.nodes l vs no_members) (keys_here s.number s.node (ListOf ks u x) there is) in
      (items_in o, ms, ap (λ y. Some (array (append (items_in o) (object y)))) same, new.read, all ms)

  -- ---- a step

  abbrev spot : List PathStep → ℕ → Node → Spot
  spot above at node = record { above = above; number = at; node = node }

  step_tidy : (at : ℕ) (node : Node) (c : Choice) (ss : List PathStep) (v : Value) (o : Option Data) (f : Members → Members) → slice_get t.nodes at ≡ Some node → TidyMember o
      → ((ms : Members) → TidyMembers false ms → TidyMembers false (f ms)) → TidyData (step_data t.nodes (Some at) c ss v o f)
  step_tidy at node whole [] v o f there h g = value_tidy (narrow_at t.nodes (Some at)) v
  step_tidy at node whole (r ∷ ss) v o f there h g = g (members_in o) (members_tidy o h)
  step_tidy at node (entry w) ss v o f there h g = append_tidy (items_in o) (value_data (narrow_at t.nodes (Some at)) w) (items_tidy o h) (value_tidy (narrow_at t.nodes (Some at)) w)
  step_tidy at node (keys vs) [] v o f there h g =
      let ks = keys_at t.nodes (Some at) in
      append_tidy (items_in o) (object (key_members t.nodes ks vs no_members)) (items_tidy o h) (keys_tidy t sound at ks vs no_members (keys_known t sound at node ks there (sym (ap keys_in there))) tt)
  step_tidy at node (keys vs) (r ∷ ss) v o f there h g = in_last_tidy f (items_in o) g (items_tidy o h)

  bare_member : (place : Place) (s : PathStep) (at : ℕ) (node : Node) → LeadsTo t.nodes place s at node → IsBareName (is_top (around place)) (member_name place s)
  bare_member Top s at node h = tt
  bare_member Nowhere s at node h = tt
  bare_member (Within i) s at node h = ap has_colon (sym (led t.nodes (Within i) s at node h).name_same) ∙ (node_bare t sound at node h.there).0

  -- the value of a member once a row is put there
  abbrev data_at : Place → PathStep → List PathStep → Value → Members → ℕ → Data
  data_at place s ss v ms at = step_data t.nodes (Some at) s.chosen ss v (get_member (member_name place s) ms) (put_steps t (Within at) ss v)

  put_is : (place : Place) (s : PathStep) (ss : List PathStep) (v : Value) (ms : Members) (at : ℕ) (node : Node) → LeadsTo t.nodes place s at node
      → put_steps t place (s ∷ ss) v ms ≡ put (member_name place s) (data_at place s ss v ms at) ms
  put_is place s ss v ms at node h =
      ap (λ o. put (member_name place s) (step_data t.nodes o s.chosen ss v (get_member (member_name place s) ms) (put_steps t (below o) ss v)) ms) h.leads

  put_tidy_at : (place : Place) (s : PathStep) (ss : List PathStep) (v : Value) (ms : Members) (at : ℕ) (node : Node) → LeadsTo t.nodes place s at node
      → ((ns : Members) → TidyMembers false ns → TidyMembers false (put_steps t (Within at) ss v ns)) → TidyMembers (is_top (around place)) ms → TidyMembers (is_top (around place)) (put_steps t place (s ∷ ss) v ms)
  put_tidy_at place s ss v ms at node leads g h =
      let name = member_name place s in
      let o = get_member name ms in
      let d = step_tidy at node s.chosen ss v o (put_steps t (Within at) ss v) leads.there (tidy_member (is_top (around place)) name ms h) g in
      subst (TidyMembers (is_top (around place))) (sym (put_is place s ss v ms at node leads)) (put_tidy (is_top (around place)) name (data_at place s ss v ms at) ms (bare_member place s at node leads) d h)

  -- members stay tidy when a row is put there
  pub put_steps_tidy : (q : List PathStep) (place : Place) (v : Value) (ms : Members) → IsRow t.nodes place q v → TidyMembers (is_top (around place)) ms → TidyMembers (is_top (around place)) (put_steps t place q v ms)
  put_steps_tidy [] place v ms row_of h = absurd row_of
  put_steps_tidy (s ∷ []) place v ms row_of h = put_tidy_at place s [] v ms row_of.0 row_of.1 row_of.2 (λ ns g. g) h
  put_steps_tidy (s ∷ r ∷ ss) place v ms row_of h =
      put_tidy_at place s (r ∷ ss) v ms row_of.0 row_of.1 row_of.2 (λ ns g. put_steps_tidy (r ∷ ss) (Within row_of.0) v ns row_of.4 g) h

  -- what is found in a member is what its node wants
  member_is : (above : List PathStep) (place : Place) (s : PathStep) (at : ℕ) (node : Node) (d : Data) → LeadsTo t.nodes place s at node → is_key t.nodes at ≡ false
      → member_found t above (around place) (member_name place s) d ≡ found t (wanted_as (spot above at node) node.kind) d
  member_is above place s at node d h key =
      let name = member_name place s in
      ap (λ o. named_found t above false name o ++ found t (wanted t above o) d) (member_leads t sound place s at node h)
      ∙ ap (λ n. twice_found above false n ++ found t (if is_key t.nodes at then ignored else wanted_of above at n) d) h.there
      ∙ ap (λ b. found t (if b then ignored else wanted_of above at (Some node)) d) key

  before_is : (above : List PathStep) (place : Place) (s : PathStep) (at : ℕ) (node : Node) (o : Option Data) → LeadsTo t.nodes place s at node → is_key t.nodes at ≡ false
      → before_found t above (around place) (member_name place s) o ≡ held t (wanted_as (spot above at node) node.kind) o
  before_is above place s at node None h key = refl
  before_is above place s at node (Some d) h key = member_is above place s at node d h key

  step_is : (above : List PathStep) (place : Place) (s : PathStep) (at : ℕ) (node : Node) → LeadsTo t.nodes place s at node → above ++ s ∷ [] ≡ step_below above node s.chosen
  step_is above place s at node h =
      let l = led t.nodes place s at node h in
      let m = l.module_same in
      let n = l.name_same in
      λ i. above ++ record { «module» = sym m i; name = sym n i; chosen = s.chosen } ∷ []

  spine_is : (place : Place) (s : PathStep) (ss : List PathStep) (ms : Members) (at : ℕ) (node : Node) (o : Option Data) → LeadsTo t.nodes place s at node → get_member (member_name place s) ms ≡ o
      → SpineAt t node.kind s.chosen (Spine t (Within at) ss) o → Spine t place (s ∷ ss) ms
  spine_is place s ss ms at node o h e x =
      let here = get_member (member_name place s) ms in
      let one : SpineIn t (Some node) s.chosen (Spine t (Within at) ss) here = subst (SpineAt t node.kind s.chosen (Spine t (Within at) ss)) (sym e) x in
      let two : SpineIn t (slice_get t.nodes at) s.chosen (Spine t (Within at) ss) here = subst (λ n. SpineIn t n s.chosen (Spine t (Within at) ss) here) (sym h.there) one in
      subst (λ y. SpineIn t (node_in t.nodes y) s.chosen (Spine t (below y) ss) here) (sym h.leads) two

  spine_of : (place : Place) (s : PathStep) (ss : List PathStep) (ms : Members) (at : ℕ) (node : Node) → LeadsTo t.nodes place s at node → Spine t place (s ∷ ss) ms
      → SpineAt t node.kind s.chosen (Spine t (Within at) ss) (get_member (member_name place s) ms)
  spine_of place s ss ms at node h x =
      let here = get_member (member_name place s) ms in
      let two = subst (λ y. SpineIn t (node_in t.nodes y) s.chosen (Spine t (below y) ss) here) h.leads x in
      subst (λ n. SpineIn t n s.chosen (Spine t (Within at) ss) here) h.there two

  -- what is found once a row is put, by what is found in the value of its first step
  step_found : (above : List PathStep) (place : Place) (s : PathStep) (ss : List PathStep) (v : Value) (ms : Members) (full : List PathStep) (at : ℕ) (node : Node) → LeadsTo t.nodes place s at node → is_key t.nodes at ≡ false
      → TidyMembers (is_top (around place)) ms
      → Shuffled (found t (wanted_as (spot above at node) node.kind) (data_at place s ss v ms at)) (row full v ∷ held t (wanted_as (spot above at node) node.kind) (get_member (member_name place s) ms))
      → SpineAt t node.kind s.chosen (Spine t (Within at) ss) (Some (data_at place s ss v ms at)) → After t place above (s ∷ ss) v ms full
  step_found above place s ss v ms full at node h key tidy shuffled spine =
      let name = member_name place s in
      let d = data_at place s ss v ms at in
      let o = get_member name ms in
      let w = wanted_as (spot above at node) node.kind in
      let one : Shuffled (member_found t above (around place) name d) (row full v ∷ before_found t above (around place) name o) =
      lists.further (found t w d) (lists.equals (member_is above place s at node d h key)) (lists.further (row full v ∷ held t w o) shuffled (lists.equals (ap (λ fs. row full v ∷ fs) (sym (before_is above place s at node o h key))))) in
      let whole_of = put_found t above (around place) (is_top (around place)) name d ms (row full v ∷ []) tidy one in
      let is = put_is place s ss v ms at node h in
      record {
        found = lists.further (plain_found t above (around place) (put name d ms)) (lists.equals (ap (plain_found t above (around place)) is)) whole_of;
        spine = spine_is place s ss (put_steps t place (s ∷ ss) v ms) at node (Some d) h (ap (get_member name) is ∙ get_member-put name d ms) spine;
      }

  held_misses : (above : List PathStep) (place : Place) (s : PathStep) (at : ℕ) (node : Node) (ms : Members) (full : List PathStep) → LeadsTo t.nodes place s at node → is_key t.nodes at ≡ false
      → AllByRecursion (Misses full) (plain_found t above (around place) ms) → AllByRecursion (Misses full) (held t (wanted_as (spot above at node) node.kind) (get_member (member_name place s) ms))
  held_misses above place s at node ms full h key miss =
      subst (AllByRecursion (Misses full)) (before_is above place s at node (get_member (member_name place s) ms) h key) (all_before t above (around place) (Misses full) (member_name place s) ms miss)

  place_end : (s : PathStep) (place : Place) (above : List PathStep) (v : Value) (ms : Members) (full : List PathStep) → IsRow t.nodes place (s ∷ []) v → TidyMembers (is_top (around place)) ms
      → full ≡ above ++ s ∷ [] → AllByRecursion (Misses full) (plain_found t above (around place) ms) → After t place above (s ∷ []) v ms full
  place_end s place above v ms full row_of tidy e miss =
      let at = row_of.0 in
      let node = row_of.1 in
      let h = row_of.2 in
      let o = get_member (member_name place s) ms in
      let key = ends_no_key_by at node node.kind s.chosen v refl h.there row_of.3 in
      let path : step_below above node s.chosen ≡ full = sym (e ∙ step_is above place s at node h) in
      step_found above place s [] v ms full at node h key tidy
      (end_found (spot above at node) node.kind s.chosen v o full (put_steps t (Within at) [] v) h.there refl row_of.3 path (held_misses above place s at node ms full h key miss))
      (end_spine (spot above at node) node.kind s.chosen v o (put_steps t (Within at) [] v) (Spine t (Within at) []) h.there refl row_of.3 (λ ns. tt))

  -- the keys of an entry are kept where a row is put below it
  keys_stay : (at : ℕ) (node : Node) (r : PathStep) (ss : List PathStep) (v : Value) (inner : Members) → slice_get t.nodes at ≡ Some node → IsRow t.nodes (Within at) (r ∷ ss) v
      → KeysKept t node.kind inner (put_steps t (Within at) (r ∷ ss) v inner)
  keys_stay at node r ss v inner there row_of vs h =
      let first = row_first (Within at) r ss v row_of in
      let to = first.0 in
      let leads = first.2 in
      let name = child_leads t.nodes at r to first.1 leads in
      let plain = bare_member (Within at) r to first.1 leads in
      let all = keys_known t sound at node (keys_of node.kind) there refl in
      let apart = no_key_name t sound at r.name to (keys_of node.kind) all name first.3 in
      subst (λ x. KeysAre t x (keys_of node.kind) vs) (sym (put_is (Within at) r ss v inner to first.1 leads))
      (keys_kept t sound at r.name (data_at (Within at) r ss v inner to) inner (keys_of node.kind) vs all plain apart h)
    where
      row_first : (place : Place) (r : PathStep) (ss : List PathStep) (v : Value) → IsRow t.nodes place (r ∷ ss) v → (to : ℕ) × (x : Node) × LeadsTo t.nodes place r to x × (is_key t.nodes to ≡ false)
      row_first place r [] v h = (h.0, h.1, h.2, ends_no_key_by h.0 h.1 h.1.kind r.chosen v refl h.2.there h.3)
      row_first place r (q ∷ ss) v h = (h.0, h.1, h.2, goes_no_key h.0 h.1 r.chosen h.2.there h.3)

  place_in : (s r : PathStep) (ss : List PathStep) (place : Place) (above : List PathStep) (v : Value) (ms : Members) (full : List PathStep) (h : IsRow t.nodes place (s ∷ r ∷ ss) v) → TidyMembers (is_top (around place)) ms
      → (inner : Members) (i : Inner t h.1.kind s.chosen (get_member (member_name place s) ms) inner) → TidyMembers false inner
      → After t (Within h.0) (step_below above h.1 s.chosen) (r ∷ ss) v inner full → After t place above (s ∷ r ∷ ss) v ms full
  place_in s r ss place above v ms full h tidy inner i neat after =
      let at = h.0 in
      let node = h.1 in
      let leads = h.2 in
      let o = get_member (member_name place s) ms in
      let f = put_steps t (Within at) (r ∷ ss) v in
      let key = goes_no_key at node s.chosen leads.there h.3 in
      let sp = spot above at node in
      let w = wanted_as sp node.kind in
      let path = step_below above node s.chosen in
      let front = front_found t sp node.kind s.chosen o inner i in
      let kept = keys_stay at node r ss v inner leads.there h.4 in
      let newer = put_steps_tidy (r ∷ ss) (Within at) v inner h.4 neat in
      let old = old_found t sp node.kind s.chosen o inner i h.3 neat in
      let new = new_found t sp node.kind s.chosen o inner (f inner) i r ss v f h.3 refl newer kept in
      let before = plain_found t path (Some at) inner in
      let shuffled : Shuffled (found t w (data_at place s (r ∷ ss) v ms at)) (row full v ∷ held t w o) =
      lists.further (front ++ plain_found t path (Some at) (f inner)) (lists.equals new)
      (lists.further (front ++ row full v ∷ before) (lists.after_all front after.found)
      (lists.further (row full v ∷ (front ++ before)) (lists.parts front (row full v ∷ []) before) (lists.equals (ap (λ fs. row full v ∷ fs) (sym old))))) in
      step_found above place s (r ∷ ss) v ms full at node leads key tidy shuffled
      (new_spine t at node.kind s.chosen o inner (f inner) i r ss v f (Spine t (Within at) (r ∷ ss)) h.3 refl kept after.spine)

  inner_misses : (s r : PathStep) (ss : List PathStep) (place : Place) (above : List PathStep) (v : Value) (ms : Members) (full : List PathStep) (h : IsRow t.nodes place (s ∷ r ∷ ss) v)
      → AllByRecursion (Misses full) (plain_found t above (around place) ms) → (inner : Members) (i : Inner t h.1.kind s.chosen (get_member (member_name place s) ms) inner) → TidyMembers false inner
      → AllByRecursion (Misses full) (plain_found t (step_below above h.1 s.chosen) (Some h.0) inner)
  inner_misses s r ss place above v ms full h miss inner i neat =
      let at = h.0 in
      let node = h.1 in
      let o = get_member (member_name place s) ms in
      let key = goes_no_key at node s.chosen h.2.there h.3 in
      let sp = spot above at node in
      let old = old_found t sp node.kind s.chosen o inner i h.3 neat in
      all_right (Misses full) (front_found t sp node.kind s.chosen o inner i) (plain_found t (step_below above node s.chosen) (Some at) inner)
      (subst (AllByRecursion (Misses full)) old (held_misses above place s at node ms full h.2 key miss))

  full_below : (above : List PathStep) (place : Place) (s r : PathStep) (ss : List PathStep) (at : ℕ) (node : Node) (full : List PathStep) → LeadsTo t.nodes place s at node → full ≡ above ++ s ∷ r ∷ ss → full ≡ step_below above node s.chosen ++ r ∷ ss
  full_below above place s r ss at node full h e = e ∙ sym (append_assoc above (s ∷ []) (r ∷ ss)) ∙ ap (λ p. p ++ r ∷ ss) (step_is above place s at node h)

  own_is : (place : Place) (s : PathStep) (at : ℕ) (node : Node) → LeadsTo t.nodes place s at node → is_own_at t.nodes (found_of t.nodes place s.«module» s.name) ≡ false → is_own node.kind ≡ false
  own_is place s at node h e = sym (ap (is_own_at t.nodes) h.leads ∙ ap is_own_in h.there) ∙ e

  -- A row more, in path order: it is found beside what was found before, and nothing else is.
  pub placed : (q : List PathStep) (place : Place) (above p : List PathStep) (v : Value) (ms : Members) (full : List PathStep) → IsRow t.nodes place q v → Leans t.nodes place p q → Spine t place p ms
      → TidyMembers (is_top (around place)) ms → full ≡ above ++ q → AllByRecursion (Misses full) (plain_found t above (around place) ms) → After t place above q v ms full
  placed [] place above p v ms full h lean spine tidy e miss = absurd h
  placed (s ∷ []) place above p v ms full h lean spine tidy e miss = place_end s place above v ms full h tidy e miss
  placed (s ∷ r ∷ ss) place above [] v ms full h lean spine tidy e miss =
      let key = goes_no_key h.0 h.1 s.chosen h.2.there h.3 in
      let o = get_member (member_name place s) ms in
      let free = free_inner t (spot above h.0 h.1) h.1.kind s.chosen o full h.3 (own_is place s h.0 h.1 h.2 lean.0) (held_misses above place s h.0 h.1 ms full h.2 key miss) in
      let neat = inner_tidy t h.1.kind s.chosen o free.0 free.1 (tidy_member (is_top (around place)) (member_name place s) ms tidy) in
      place_in s r ss place above v ms full h tidy free.0 free.1 neat
      (placed (r ∷ ss) (Within h.0) (step_below above h.1 s.chosen) [] v free.0 full h.4 (subst (λ x. Leans t.nodes (below x) [] (r ∷ ss)) h.2.leads lean.1) tt neat
      (full_below above place s r ss h.0 h.1 full h.2 e) (inner_misses s r ss place above v ms full h miss free.0 free.1 neat))
  placed (s ∷ r ∷ ss) place above (u ∷ us) v ms full h (inr lean) spine tidy e miss =
      let key = goes_no_key h.0 h.1 s.chosen h.2.there h.3 in
      let o = get_member (member_name place s) ms in
      let free = free_inner t (spot above h.0 h.1) h.1.kind s.chosen o full h.3 (own_is place s h.0 h.1 h.2 lean.0) (held_misses above place s h.0 h.1 ms full h.2 key miss) in
      let neat = inner_tidy t h.1.kind s.chosen o free.0 free.1 (tidy_member (is_top (around place)) (member_name place s) ms tidy) in
      place_in s r ss place above v ms full h tidy free.0 free.1 neat
      (placed (r ∷ ss) (Within h.0) (step_below above h.1 s.chosen) [] v free.0 full h.4 (subst (λ x. Leans t.nodes (below x) [] (r ∷ ss)) h.2.leads lean.1) tt neat
      (full_below above place s r ss h.0 h.1 full h.2 e) (inner_misses s r ss place above v ms full h miss free.0 free.1 neat))
  placed (s ∷ r ∷ ss) place above (u ∷ us) v ms full h (inl lean) spine tidy e miss =
      let o = get_member (member_name place s) ms in
      let mine : Spine t place (s ∷ us) ms = subst (λ (x : PathStep). Spine t place (x ∷ us) ms) lean.0 spine in
      let on = spine_inner t h.1.kind s.chosen o (Spine t (Within h.0) us) h.3 (spine_of place s us ms h.0 h.1 h.2 mine) in
      let neat = inner_tidy t h.1.kind s.chosen o on.0 on.1 (tidy_member (is_top (around place)) (member_name place s) ms tidy) in
      place_in s r ss place above v ms full h tidy on.0 on.1 neat
      (placed (r ∷ ss) (Within h.0) (step_below above h.1 s.chosen) us v on.0 full h.4 (subst (λ x. Leans t.nodes (below x) us (r ∷ ss)) h.2.leads lean.1) on.2 neat
      (full_below above place s r ss h.0 h.1 full h.2 e) (inner_misses s r ss place above v ms full h miss on.0 on.1 neat))
