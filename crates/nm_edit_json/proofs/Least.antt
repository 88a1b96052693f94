-- The least of faults.
use Rattle.std.proofs.Common.{◌≡◌, ℕ, ◌<◌, ◌≤◌, List, [], ◌∷◌, length, fold, nat_lt, Bool, true, false, if◌then◌else◌, Option, Some, None, Result, Ok, Err, Ordering, Less, Equal, Greater, refl, sym, ap, subst, ◌∙◌, arith, ◌↔◌, ◌⊎◌, inl, inr}
use Rattle.std.proofs.lemmas.Bool.Decides.{nat_tests}
use Rattle.std.proofs.lemmas.Cmp.{on_total, then_total, nat_cmp_total, lists_total, tied_itself}
use Rattle.std.proofs.lemmas.List.{length-map}
use Rattle.std.specs.Cmp.{IsTotalOrder}
use Rattle.std.specs.List.{AllByRecursion}
use Rattle.std.specs.Ordering.{is_lt, ordering_reverse}
use Rattle.std.specs.FinMap.{empty, entries, len, len-entries}
use Rattle.serde_json.specs.Data.{Data}
use Rattle.nm_base.specs.declared.tag.Tag.TheVariants.{ResourceDenied}
use Rattle.nm_types.specs.PathLaws.{steps_total}
use Rattle.nm_proto.specs.Content.{Refusal}
use Rattle.nm_schema_tree.specs.Nodes.{SchemaTree}
use Rattle.nm_json.specs.Places.{place_steps, place_text}
use Rattle.nm_edit.specs.declared.edit.EditNode.{EditNode}
use Rattle.nm_edit_json.specs.declared.fault.Fault.{Fault}
use Rattle.nm_edit_json.specs.Findings.{whole_found}
use Rattle.nm_edit_json.specs.Whole.{NodeMap, fault_cmp, kind_rank, tag_of, lesser, least_of, node_at, nodes_in, nodes_of, answered, edit_read, node_limit}
use Rattle.nm_edit_json.specs.Laws.{all_faults, IsAmong, IsUpto, IsLeast, HasLeast, HasTooMany, HasNodes}

-- ---- the order of faults

pub faults_total : IsTotalOrder fault_cmp
unfolding fault_cmp
faults_total = then_total (on_total (λ f. place_steps f.place) (lists_total steps_total)) (on_total (λ f. kind_rank f.kind) nat_cmp_total)

itself : (f : Fault) → IsUpto f f
itself f = ap is_lt (tied_itself faults_total f)

less : (o : Ordering) → is_lt o ≡ true → o ≡ Less
less Less e = refl
less Equal e = absurd cc
less Greater e = absurd cc

not_less : (o : Ordering) → o ≡ Less → is_lt o ≡ false → ⊥
not_less Less e h = cc
not_less Equal e h = cc
not_less Greater e h = cc

-- of three faults: b isn't before a, and c isn't before b, so c isn't before a
chain_at : (a b c : Fault) (o p : Ordering) → fault_cmp b a ≡ o → fault_cmp c a ≡ p → IsUpto a b → IsUpto b c → is_lt p ≡ false
chain_at a b c o Equal e f x y = refl
chain_at a b c o Greater e f x y = refl
chain_at a b c Less Less e f x y = absurd (not_less _ e x)
chain_at a b c Equal Less e f x y =
    let same : fault_cmp a b ≡ Equal = faults_total.antisymm a b ∙ ap ordering_reverse e in
    let flipped : fault_cmp a c ≡ fault_cmp b c = faults_total.congr a b c same in
    let one : fault_cmp c b ≡ Less = faults_total.antisymm c b ∙ ap ordering_reverse (sym flipped) ∙ sym (faults_total.antisymm c a) ∙ f in
    absurd (not_less _ one y)
chain_at a b c Greater Less e f x y =
    let one : fault_cmp a b ≡ Less = faults_total.antisymm a b ∙ ap ordering_reverse e in
    absurd (not_less _ (faults_total.trans c a b f one) y)

chain : (a b c : Fault) → IsUpto a b → IsUpto b c → IsUpto a c
chain a b c x y = chain_at a b c _ _ refl refl x y

after_less : (g m : Fault) → is_lt (fault_cmp g m) ≡ true → IsUpto g m
after_less g m e = ap is_lt (faults_total.antisymm m g ∙ ap ordering_reverse (less _ e))

-- ---- the least

record Found (m : Fault) (fs : List Fault) (f : Fault) : Type 0 where
  among : (f ≡ m) ⊎ IsAmong f fs
  first : IsUpto f m
  others : AllByRecursion (IsUpto f) fs

some_is : {A : Type 0} (a b : A) → ◌≡◌ {A = Option A} (Some a) (Some b) → a ≡ b
some_is a b e = cc

further : {A B C : Type 0} → A ⊎ B → A ⊎ (C ⊎ B)
further (inl a) = inl a
further (inr b) = inr (inr b)

least_by : (b : Bool) (m g : Fault) (fs : List Fault) (f : Fault) → is_lt (fault_cmp g m) ≡ b → (fold lesser (Some g) fs ≡ Some f → Found g fs f) → (fold lesser (Some m) fs ≡ Some f → Found m fs f)
    → fold lesser (if b then Some g else Some m) fs ≡ Some f → Found m (g ∷ fs) f
least_by true m g fs f e ours theirs h =
    let found = ours h in
    record { among = inr found.among; first = chain f g m found.first (after_less g m e); others = (found.first, found.others) }
least_by false m g fs f e ours theirs h =
    let found = theirs h in
    record { among = further found.among; first = found.first; others = (chain f m g found.first e, found.others) }

least_from : (m : Fault) (fs : List Fault) (f : Fault) → fold lesser (Some m) fs ≡ Some f → Found m fs f
least_from m [] f e =
    let same = some_is m f e in
    record { among = inl (sym same); first = ap (λ x. is_lt (fault_cmp m x)) (sym same) ∙ itself m; others = tt }
least_from m (g ∷ fs) f e = least_by (is_lt (fault_cmp g m)) m g fs f refl (least_from g fs f) (least_from m fs f) e

-- the fault that is kept of faults is the least of them
least_is : (fs : List Fault) (f : Fault) → least_of fs ≡ Some f → IsLeast f fs
least_is [] f e = absurd cc
least_is (g ∷ fs) f e =
    let found = least_from g fs f e in
    record { among = found.among; least = (found.first, found.others) }

stays_by : (b : Bool) (m g : Fault) (fs : List Fault) → (fold lesser (Some g) fs ≡ None → ⊥) → (fold lesser (Some m) fs ≡ None → ⊥) → fold lesser (if b then Some g else Some m) fs ≡ None → ⊥
stays_by true m g fs ours theirs h = ours h
stays_by false m g fs ours theirs h = theirs h

stays : (m : Fault) (fs : List Fault) → fold lesser (Some m) fs ≡ None → ⊥
stays m [] e = cc
stays m (g ∷ fs) e = stays_by (is_lt (fault_cmp g m)) m g fs (stays g fs) (stays m fs) e

-- only no faults have no least one
no_least : (fs : List Fault) → least_of fs ≡ None → fs ≡ []
no_least [] e = refl
no_least (g ∷ fs) e = absurd (stays g fs e)

-- ---- answers

count : (m : NodeMap) → length (nodes_in m) ≡ len m
count m = length-map (entries m) node_at ∙ sym (len-entries m)

-- too many nodes
record Many (least : Option Fault) (m : NodeMap) (refusal : Refusal) : Type 0 where
  none : least ≡ None
  many : node_limit < len m
  tag_is : refusal.tag ≡ ResourceDenied
  path_is : refusal.path ≡ []

-- a fault
record Refused (t : SchemaTree) (least : Option Fault) (refusal : Refusal) : Type 0 where
  fault : Fault
  is : least ≡ Some fault
  tag_is : tag_of fault.kind ≡ refusal.tag
  text_is : place_text t fault.place ≡ refusal.path

many_by : (b : Bool) (m : NodeMap) (refusal : Refusal) → nat_lt node_limit (len m) ≡ b
    → ◌≡◌ {A = Result (List EditNode) Refusal} (if b then Err (record { tag = ResourceDenied; path = [] }) else Ok (nodes_in m)) (Err refusal) → Many None m refusal
many_by true m refusal is e = record { none = refl; many = grind (arith, nat_tests, is); tag_is = cc; path_is = cc }
many_by false m refusal is e = absurd cc

refused : (t : SchemaTree) (least : Option Fault) (m : NodeMap) (refusal : Refusal) → answered t least m ≡ Err refusal → Refused t least refusal ⊎ Many least m refusal
refused t None m refusal e = inr (many_by (nat_lt node_limit (len m)) m refusal refl e)
refused t (Some f) m refusal e = inl (record { fault = f; is = refl; tag_is = cc; text_is = cc })

by_cases : (t : SchemaTree) (d : Data) (refusal : Refusal) → Refused t (least_of (all_faults t d)) refusal ⊎ Many (least_of (all_faults t d)) (nodes_of empty (whole_found t d)) refusal
    → HasLeast t (all_faults t d) refusal ⊎ HasTooMany t d refusal
by_cases t d refusal (inl r) = inl (record { fault = r.fault; least = least_is (all_faults t d) r.fault r.is; tag_is = r.tag_is; text_is = r.text_is })
by_cases t d refusal (inr r) = inr (record {
  faultless = no_least (all_faults t d) r.none;
  many = subst (λ n. node_limit < n) (sym (count (nodes_of empty (whole_found t d)))) r.many;
  tag_is = r.tag_is;
  path_is = r.path_is;
})

pub fault_law : (t : SchemaTree) (d : Data) (refusal : Refusal) → edit_read t d ≡ Err refusal → HasLeast t (all_faults t d) refusal ⊎ HasTooMany t d refusal
fault_law t d refusal e = by_cases t d refusal (refused t (least_of (all_faults t d)) (nodes_of empty (whole_found t d)) refusal e)

record Taken (least : Option Fault) (m : NodeMap) (nodes : List EditNode) : Type 0 where
  none : least ≡ None
  same : nodes_in m ≡ nodes
  within : len m ≤ node_limit

taken_by : (b : Bool) (m : NodeMap) (r : Refusal) (nodes : List EditNode) → nat_lt node_limit (len m) ≡ b
    → ◌≡◌ {A = Result (List EditNode) Refusal} (if b then Err r else Ok (nodes_in m)) (Ok nodes) → Taken None m nodes
taken_by true m r nodes is e = absurd cc
taken_by false m r nodes is e = record { none = refl; same = cc; within = grind (arith, nat_tests, is) }

taken : (t : SchemaTree) (least : Option Fault) (m : NodeMap) (nodes : List EditNode) → answered t least m ≡ Ok nodes → Taken least m nodes
taken t None m nodes e = taken_by (nat_lt node_limit (len m)) m _ nodes refl e
taken t (Some f) m nodes e = absurd cc

fits : (n : ℕ) → n ≤ node_limit → nat_lt node_limit n ≡ false
fits n h = grind (arith, nat_tests, h)

pub nodes_law : (t : SchemaTree) (d : Data) (nodes : List EditNode) → (edit_read t d ≡ Ok nodes) ↔ HasNodes t d nodes
nodes_law t d nodes = (
  (λ e.
      let m = nodes_of empty (whole_found t d) in
      let found = taken t (least_of (all_faults t d)) m nodes e in
      record {
        faultless = no_least (all_faults t d) found.none;
        all = sym found.same;
        within = subst (λ n. n ≤ node_limit) (sym (count m) ∙ ap length found.same) found.within;
      }),
  (λ h.
      let m = nodes_of empty (whole_found t d) in
      let few : nat_lt node_limit (len m) ≡ false = ap (nat_lt node_limit) (sym (count m) ∙ ap length (sym h.all)) ∙ fits (length nodes) h.within in
      ap (λ fs. answered t (least_of fs) m) h.faultless ∙ ap (λ b. if b then Err (record { tag = ResourceDenied; path = [] }) else Ok (nodes_in m)) few ∙ ap Ok (sym h.all)),
)
