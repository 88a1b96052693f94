-- The keys of an entry that is written, and what is read of them.
use Rattle.std.proofs.Common.{◌≡◌, ℕ, zero, suc, List, [], ◌∷◌, ◌++◌, length, map, Bool, true, false, ◌==◌, if◌then◌else◌, Option, Some, None, Result, Ok, slice_get, Ordering, Less, Equal, Greater, nat_cmp, refl, sym, ap, ◌∙◌, arith}
use Rattle.std.specs.Prelude.{Contains, ℤ}
use Rattle.std.proofs.lemmas.Bool.Decides.{nat_tests}
use Rattle.std.proofs.lemmas.Map.Lookups.{exact_bytes}
use Rattle.std.specs.Cmp.Lexicographic.{slice_cmp}
use Rattle.std.specs.Ordering.{match_ordering}
use Rattle.std.specs.List.{AllByRecursion, before_first, after_first}
use Rattle.serde_json.specs.Data.{Data, object, Members, no_members, member, put}
use Rattle.serde_json.specs.Find.{get_member}
use Rattle.serde_json.proofs.Views.{get_member-put, get_member-put_other}
use Rattle.nm_types.specs.LeafType.{Kind, integer, decimal, boolean as flags, string as texts, enumeration, bits, empty, TypeOfLeaf}
use Rattle.nm_types.specs.Spells.{IsOnce}
use Rattle.nm_types.specs.Path.{PathStep, keys}
use Rattle.nm_types.specs.declared.value.Value.{Value}
use Rattle.nm_types.specs.declared.value.Value.TheVariants.{Int, Decimal, Text, Name, Bits, Empty, Present, Bool as Flag}
use Rattle.nm_schema_tree.specs.Nodes.{SchemaTree, first_named, is_key, type_of, type_at, type_in}
use Rattle.nm_path.specs.Spelling.{is_module, name_at, name_in}
use Rattle.nm_path.specs.Sound.{IsSound, HasLow as HasSoundLow}
use Rattle.nm_json.specs.declared.fault.Fault.{Fault}
use Rattle.nm_json.specs.Values.{is_narrow, leaf_value}
use Rattle.nm_json.specs.Findings.{Finding, row, Spot, bare, step_below, is_colon, has_colon, named_in, twice_found, named_found, node_named, or_fault, typed_value, key_value, key_from, key_read, values_of, faults_of, entry_path, entry_found, ignored, list_item, wanted, wanted_of, found, members_found}
use Rattle.nm_json.specs.Writing.{integer_data, value_data, narrow_type, narrow_at, key_members}
use Rattle.nm_json.specs.Laws.{HasLow, IsYangType}
use Rattle.nm_json.specs.Configs.{IsValueOf, AreKeyValues}
use Rattle.nm_json.proofs.WrittenValues.{value_law}
use Rattle.nm_json.proofs.Shuffled as lists
use Rattle.nm_json.proofs.Shuffled.{Shuffled}
use Rattle.nm_json.proofs.Tidy.{TidyData, TidyMembers, put_tidy, member_found, plain_found, before_found, put_found}
use Rattle.nm_json.proofs.Nodes.{Key, colon_there}

-- ---- keys that are read

-- the keys of an entry have these values
abbrev pub KeysAre : SchemaTree → Members → List ℕ → List Value → Type 0
KeysAre t ms [] [] = Unit {0}
KeysAre t ms (k ∷ ks) (v ∷ vs) = ((path : List PathStep) → key_read t path ms k ≡ Ok v) × KeysAre t ms ks vs
KeysAre t ms [] (v ∷ vs) = ⊥
KeysAre t ms (k ∷ ks) [] = ⊥

-- values that were read
abbrev pub taken : List Value → List (Result Value Fault)
taken [] = []
taken (v ∷ vs) = Ok v ∷ taken vs

keys_read : (t : SchemaTree) (ms : Members) (path : List PathStep) (ks : List ℕ) (vs : List Value) → KeysAre t ms ks vs → map (key_read t path ms) ks ≡ taken vs
keys_read t ms path [] [] h = refl
keys_read t ms path (k ∷ ks) (v ∷ vs) h =
    let one = h.0 path in
    let others = keys_read t ms path ks vs h.1 in
    λ i. one i ∷ others i
keys_read t ms path [] (v ∷ vs) h = absurd h
keys_read t ms path (k ∷ ks) [] h = absurd h

values_taken : (vs : List Value) → values_of (taken vs) ≡ vs
values_taken [] = refl
values_taken (v ∷ vs) = ap (λ (us : List Value). v ∷ us) (values_taken vs)

faults_taken : (vs : List Value) → faults_of (taken vs) ≡ []
faults_taken [] = refl
faults_taken (v ∷ vs) = faults_taken vs

length_taken : (vs : List Value) → length (values_of (taken vs)) ≡ length (taken vs)
length_taken [] = refl
length_taken (v ∷ vs) = ap suc (length_taken vs)

same_length : (a b : ℕ) → a ≡ b → (a == b) ≡ true
same_length a b e = grind (arith, nat_tests)

taken_found : (s : Spot) (vs : List Value) (inner : List PathStep → List Finding)
    → entry_found s (taken vs) (inner (entry_path s (taken vs))) ≡ row (step_below s.above s.node (keys vs)) Present ∷ inner (step_below s.above s.node (keys vs))
taken_found s vs inner =
    let path : entry_path s (taken vs) ≡ step_below s.above s.node (keys vs) = ap (λ us. step_below s.above s.node (keys us)) (values_taken vs) in
    let all = same_length _ _ (length_taken vs) in
    ap (λ fs. fs ++ (if length (values_of (taken vs)) == length (taken vs) then row (entry_path s (taken vs)) Present ∷ inner (entry_path s (taken vs)) else [])) (faults_taken vs)
    ∙ ap (λ b. if b then row (entry_path s (taken vs)) Present ∷ inner (entry_path s (taken vs)) else []) all
    ∙ ap (λ q. row q Present ∷ inner q) path

-- what is found in an entry whose keys are read
pub entry_read : (t : SchemaTree) (s : Spot) (ks : List ℕ) (vs : List Value) (ms : Members) → KeysAre t ms ks vs
    → found t (list_item s ks) (object ms) ≡ row (step_below s.above s.node (keys vs)) Present ∷ members_found t (step_below s.above s.node (keys vs)) (Some s.number) ms ms
entry_read t s ks vs ms h =
    ap (λ rs. entry_found s rs (members_found t (entry_path s rs) (Some s.number) ms ms)) (keys_read t ms (bare s) ks vs h)
    ∙ taken_found s vs (λ q. members_found t q (Some s.number) ms ms)

-- ---- values that are written

integer_tidy : (b : Bool) (z : ℤ) → TidyData (integer_data b z)
integer_tidy true z = tt
integer_tidy false z = tt

pub value_tidy : (narrow : Bool) (v : Value) → TidyData (value_data narrow v)
value_tidy narrow (Int z) = integer_tidy _ z
value_tidy narrow (Flag b) = tt
value_tidy narrow Empty = (tt, tt)
value_tidy narrow Present = tt
value_tidy narrow (Decimal z digits) = tt
value_tidy narrow (Text text) = tt
value_tidy narrow (Name text) = tt
value_tidy narrow (Bits text) = tt

low_same : (k : Kind) → HasSoundLow k → HasLow k
unfolding is_narrow
low_same (integer low high) h = h
low_same (decimal digits) h = tt
low_same flags h = tt
low_same texts h = tt
low_same (enumeration names) h = tt
low_same (bits all) h = tt
low_same empty h = tt

tidy_none_at : (o : Ordering) (d : Data) (x : Option Data) → (o ≡ Equal → ⊥) → x ≡ None → match_ordering o x (Some d) x ≡ None
tidy_none_at Less d x other e = e
tidy_none_at Equal d x other e = absurd (other refl)
tidy_none_at Greater d x other e = e

-- below the top there is no member of a name with a colon
pub tidy_none : (k : List ℕ) (ms : Members) → has_colon k ≡ true → TidyMembers false ms → get_member k ms ≡ None
tidy_none k no_members colon h = refl
tidy_none k (member l d ms) colon h =
    let never : slice_cmp nat_cmp k l ≡ Equal → ⊥ = λ e. let f : has_colon k ≡ false = ap has_colon (exact_bytes k l e) ∙ h.0 in cc in
    tidy_none_at (slice_cmp nat_cmp k l) d (get_member k ms) never (tidy_none k ms colon h.3)

module _ (t : SchemaTree) (sound : IsSound t.nodes) where
  -- a value that is written is read
  pub value_read : (at : ℕ) (v : Value) (leaf_type : TypeOfLeaf) → IsValueOf t.nodes at v → type_at t.nodes at ≡ Some leaf_type → leaf_value leaf_type (value_data (narrow_at t.nodes (Some at)) v) ≡ Ok v
  value_read at v leaf_type h typed =
      let same : Some h.leaf_type ≡ Some leaf_type = sym h.typed ∙ typed in
      let one : h.leaf_type ≡ leaf_type = cc in
      let known = sound.types at h.leaf_type h.typed in
      let yang : IsYangType h.leaf_type = record { low = low_same h.leaf_type.kind known.0; names = known.1 } in
      ap (λ l. leaf_value l (value_data (narrow_at t.nodes (Some at)) v)) (sym one)
      ∙ ap (λ o. leaf_value h.leaf_type (value_data (narrow_type o) v)) h.typed
      ∙ value_law h.leaf_type v yang h.fits

  module _ (at : ℕ) where
    abbrev IsKeyOf : ℕ → Type 0
    IsKeyOf k = Key t sound at k

    name_there : (k : ℕ) (key : Key t sound at k) → name_at t.nodes k ≡ key.node.name
    name_there k key = ap name_in key.there

    -- a name is none of those of keys
    abbrev pub IsApart : List ℕ → List ℕ → Type 0
    IsApart name ks = AllByRecursion (λ k. name ≡ name_at t.nodes k → ⊥) ks

    apart_all : (name : List ℕ) (ks : List ℕ) → (Contains (map (λ k. name_at t.nodes k) ks) name → ⊥) → IsApart name ks
    apart_all name [] h = tt
    apart_all name (k ∷ ks) h = ((λ e. h (zero, omega arith, sym e)), apart_all name ks (λ c. h (suc c.0, omega (arith, c.1), c.2)))

    keys_other : (name : List ℕ) (ks : List ℕ) (vs : List Value) (ms : Members) → IsApart name ks → get_member name (key_members t.nodes ks vs ms) ≡ get_member name ms
    keys_other name [] vs ms h = refl
    keys_other name (k ∷ ks) [] ms h = refl
    keys_other name (k ∷ ks) (v ∷ vs) ms h =
        let d = value_data (narrow_at t.nodes (Some k)) v in
        keys_other name ks vs (put (name_at t.nodes k) d ms) h.1 ∙ get_member-put_other name (name_at t.nodes k) d ms h.0

    pub keys_tidy : (ks : List ℕ) (vs : List Value) (ms : Members) → AllByRecursion (Key t sound at) ks → TidyMembers false ms → TidyMembers false (key_members t.nodes ks vs ms)
    keys_tidy [] vs ms all h = h
    keys_tidy (k ∷ ks) [] ms all h = h
    keys_tidy (k ∷ ks) (v ∷ vs) ms all h =
        let d = value_data (narrow_at t.nodes (Some k)) v in
        let bare_name : has_colon (name_at t.nodes k) ≡ false = ap has_colon (name_there k all.0) ∙ all.0.bare in
        keys_tidy ks vs (put (name_at t.nodes k) d ms) all.1 (put_tidy false (name_at t.nodes k) d ms bare_name (value_tidy (narrow_at t.nodes (Some k)) v) h)

    -- a key is read from the members of its entry
    key_there : (k : ℕ) (v : Value) (key : Key t sound at k) (ms : Members) → IsValueOf t.nodes k v → TidyMembers false ms
        → get_member key.node.name ms ≡ Some (value_data (narrow_at t.nodes (Some k)) v) → (path : List PathStep) → key_read t path ms k ≡ Ok v
    unfolding key_read
    key_there k v key ms h tidy here path =
        let n = key.node in
        let typed : type_at t.nodes k ≡ type_of n.kind = ap type_in key.there in
        let none = tidy_none (n.«module» ++ 58 ∷ n.name) ms (colon_there n.«module» n.name) tidy in
        let lt : type_of n.kind ≡ Some h.leaf_type = sym typed ∙ h.typed in
        ap (key_from path ms) key.there
        ∙ ap (λ o. or_fault path n.name (key_value (type_of n.kind) o (get_member (n.«module» ++ 58 ∷ n.name) ms))) here
        ∙ ap (λ o. or_fault path n.name (key_value (type_of n.kind) (Some (value_data (narrow_at t.nodes (Some k)) v)) o)) none
        ∙ ap (λ o. or_fault path n.name (typed_value o (value_data (narrow_at t.nodes (Some k)) v))) lt
        ∙ ap (or_fault path n.name) (value_read k v h.leaf_type h h.typed)

    -- the keys of a written entry have their values
    pub keys_written : (ks : List ℕ) (vs : List Value) (ms : Members) → AllByRecursion (Key t sound at) ks → IsOnce (map (λ k. name_at t.nodes k) ks) → AreKeyValues t.nodes ks vs → TidyMembers false ms
        → KeysAre t (key_members t.nodes ks vs ms) ks vs
    keys_written [] [] ms all once h tidy = tt
    keys_written (k ∷ ks) (v ∷ vs) ms all once h tidy =
        let d = value_data (narrow_at t.nodes (Some k)) v in
        let more = put (name_at t.nodes k) d ms in
        let name = name_there k all.0 in
        let bare_name : has_colon (name_at t.nodes k) ≡ false = ap has_colon name ∙ all.0.bare in
        let tidier = put_tidy false (name_at t.nodes k) d ms bare_name (value_tidy (narrow_at t.nodes (Some k)) v) tidy in
        let here : get_member (name_at t.nodes k) (key_members t.nodes ks vs more) ≡ Some d = keys_other (name_at t.nodes k) ks vs more (apart_all (name_at t.nodes k) ks once.0) ∙ get_member-put (name_at t.nodes k) d ms in
        let there : get_member all.0.node.name (key_members t.nodes ks vs more) ≡ Some d = ap (λ q. get_member q (key_members t.nodes ks vs more)) (sym name) ∙ here in
        (key_there k v all.0 (key_members t.nodes ks vs more) h.0 (keys_tidy ks vs more all.1 tidier) there, keys_written ks vs more all.1 once.1 h.1 tidier)
    keys_written [] (v ∷ vs) ms all once h tidy = absurd h
    keys_written (k ∷ ks) [] ms all once h tidy = absurd h

    key_found : (path : List PathStep) (k : ℕ) (d : Data) → Key t sound at k → member_found t path (Some at) (name_at t.nodes k) d ≡ []
    unfolding named_in
    key_found path k d key =
        let name = name_there k key in
        let bare_name : has_colon (name_at t.nodes k) ≡ false = ap has_colon name ∙ key.bare in
        let q = name_at t.nodes k in
        let leads : node_named t (Some at) q ≡ Some k =
        ap (λ b. if b then (if is_module (before_first is_colon q) (slice_get t.nodes at) then first_named t.nodes at (after_first is_colon q) else None) else first_named t.nodes at q) bare_name
        ∙ ap (first_named t.nodes at) name ∙ key.first in
        ap (λ o. named_found t path false q o ++ found t (wanted t path o) d) leads
        ∙ ap (λ n. twice_found path false n ++ found t (if is_key t.nodes k then ignored else wanted_of path k n) d) key.there
        ∙ ap (λ b. found t (if b then ignored else wanted_of path k (Some key.node)) d) key.key

    unseen : {xs ys : List Finding} → xs ≡ [] → ys ≡ [] → Shuffled xs ([] ++ ys)
    unseen e f = lists.equals (e ∙ sym f)

    key_before : (path : List PathStep) (k : ℕ) (o : Option Data) → Key t sound at k → before_found t path (Some at) (name_at t.nodes k) o ≡ []
    key_before path k None key = refl
    key_before path k (Some d) key = key_found path k d key

    -- nothing is found in keys
    pub keys_found : (path : List PathStep) (ks : List ℕ) (vs : List Value) (ms : Members) → AllByRecursion (Key t sound at) ks → TidyMembers false ms
        → Shuffled (plain_found t path (Some at) (key_members t.nodes ks vs ms)) (plain_found t path (Some at) ms)
    keys_found path [] vs ms all tidy = lists.as_before
    keys_found path (k ∷ ks) [] ms all tidy = lists.as_before
    keys_found path (k ∷ ks) (v ∷ vs) ms all tidy =
        let d = value_data (narrow_at t.nodes (Some k)) v in
        let q = name_at t.nodes k in
        let bare_name : has_colon q ≡ false = ap has_colon (name_there k all.0) ∙ all.0.bare in
        let tidier = put_tidy false q d ms bare_name (value_tidy (narrow_at t.nodes (Some k)) v) tidy in
        lists.further (plain_found t path (Some at) (put q d ms)) (keys_found path ks vs (put q d ms) all.1 tidier)
        (put_found t path (Some at) false q d ms [] tidy (unseen (key_found path k d all.0) (key_before path k (get_member q ms) all.0)))

    -- ---- members beside keys

    pub no_key_name : (name : List ℕ) (below : ℕ) (ks : List ℕ) → AllByRecursion (Key t sound at) ks → first_named t.nodes at name ≡ Some below → is_key t.nodes below ≡ false → IsApart name ks
    no_key_name name below [] all leads other = tt
    no_key_name name below (k ∷ ks) all leads other = (
      (λ e.
          let same : Some below ≡ Some k = sym leads ∙ ap (first_named t.nodes at) (e ∙ name_there k all.0) ∙ all.0.first in
          let one : below ≡ k = cc in
          let key : is_key t.nodes below ≡ true = ap (is_key t.nodes) one ∙ all.0.key in
          cc),
      no_key_name name below ks all.1 leads other,
    )

    key_kept : (name : List ℕ) (d : Data) (ms : Members) (k : ℕ) (path : List PathStep) → Key t sound at k → has_colon name ≡ false → (name ≡ name_at t.nodes k → ⊥) → key_read t path (put name d ms) k ≡ key_read t path ms k
    unfolding key_read
    key_kept name d ms k path key plain other =
        let n = key.node in
        let first = get_member-put_other n.name name d ms (λ e. other (sym (name_there k key ∙ e))) in
        let colon = n.«module» ++ 58 ∷ n.name in
        let second = get_member-put_other colon name d ms (λ e. let f : has_colon colon ≡ false = ap has_colon e ∙ plain in let g = colon_there n.«module» n.name in cc) in
        ap (key_from path (put name d ms)) key.there
        ∙ ap (λ o. or_fault path n.name (key_value (type_of n.kind) o (get_member colon (put name d ms)))) first
        ∙ ap (λ o. or_fault path n.name (key_value (type_of n.kind) (get_member n.name ms) o)) second
        ∙ ap (key_from path ms) (sym key.there)

    -- keys stay as they are when another member is put
    pub keys_kept : (name : List ℕ) (d : Data) (ms : Members) (ks : List ℕ) (vs : List Value) → AllByRecursion (Key t sound at) ks → has_colon name ≡ false → IsApart name ks
        → KeysAre t ms ks vs → KeysAre t (put name d ms) ks vs
    keys_kept name d ms [] [] all plain other h = tt
    keys_kept name d ms (k ∷ ks) (v ∷ vs) all plain other h = ((λ path. key_kept name d ms k path all.0 plain other.0 ∙ h.0 path), keys_kept name d ms ks vs all.1 plain other.1 h.1)
    keys_kept name d ms [] (v ∷ vs) all plain other h = absurd h
    keys_kept name d ms (k ∷ ks) [] all plain other h = absurd h
