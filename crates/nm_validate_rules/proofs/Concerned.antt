-- A row that a leafref or a unique statement reads somewhere concerns the rule.
use Rattle.std.proofs.Common.{◌≡◌, ◌⊎◌, ℕ, suc, ◌<◌, List, [], ◌∷◌, ◌++◌, take, drop, length, map, true, not, ◌&&◌, ◌||◌, ◌==◌, Option, Some, None, is_some, slice_get, refl, sym, ap, ◌∙◌, append-nil, append_assoc, inl, inr, arith, length-take}
use Rattle.std.proofs.lemmas.Grind.{common_steps}
use Rattle.std.specs.List.{list_any, flat_map, zip, range_with_len}
use Rattle.nm_base.specs.Numbers.{is_among}
use Rattle.nm_types.specs.declared.value.Value.{Value}
use Rattle.nm_types.specs.declared.value.Value.TheVariants.{Present}
use Rattle.nm_types.specs.Path.{PathStep}
use Rattle.nm_schema_tree.specs.declared.node.Node.{Node}
use Rattle.nm_schema_tree.specs.declared.node.NodeKind.{NodeKind}
use Rattle.nm_schema_tree.specs.declared.node.NodeKind.TheVariants.{Container, Leaf, LeafList, List as ListOf}
use Rattle.nm_schema_tree.specs.declared.node.Reference.{Reference}
use Rattle.nm_schema_tree.specs.Nodes.{SchemaTree, same_parent, parent_in, parent_of, keys_of, keys_in, keys_at, is_key, default_at, reference_in, reference_at, uniques_in, uniques_at}
use Rattle.nm_path.specs.Sound.{HasKeys, IsSound}
use Rattle.nm_path.specs.Spelling.{node_of}
use Rattle.nm_config.specs.Under.{is_under}
use Rattle.nm_validate_rules.specs.declared.rule.Rule.{Rule}
use Rattle.nm_validate_rules.specs.declared.rule.Rule.TheVariants.{ValueType, Key, Mandatory, Leafref, Unique, MinElements, MaxElements, MandatoryChoice, OneCase}
use Rattle.nm_validate_rules.specs.Cases.{bare, numbers}
use Rattle.nm_validate_rules.specs.Guards.{front, leads_to, is_node}
use Rattle.nm_validate_rules.specs.Places.{chain_of}
use Rattle.nm_validate_rules.specs.Values.{is_same_path, chosen_values, Claim, claim_of, key_claims, claims_at, path_in}
use Rattle.nm_validate_rules.specs.Violated.{uniques_of_node}
use Rattle.nm_validate_rules.proofs.Among.{Among, both, any_passes, among_contains, among_numbers}
use Rattle.nm_validate_rules.proofs.Leading.{itself}
use Rattle.nm_validate_rules.proofs.Looked.{get_within}
use Rattle.nm_validate_rules.proofs.Placed.{any_at, both_true}
use Rattle.nm_validate_rules.specs.Reads.{stands_reads, leaf_reads, entry_reads, is_beside, has_value_of, default_reads, claim_reads, reads}
use Rattle.nm_validate_rules.specs.Concerns.{passes, ends_at, leaf_concerns, unique_concerns, reference_concerns, concerns}
use Rattle.nm_validate_rules.proofs.Lists.{or_left, or_right, either, among_append, drop_last}
use Rattle.nm_validate_rules.proofs.Agreeing.{Path, same_path, path_is}
use Rattle.nm_validate_rules.proofs.Entries.{same_length, same_node, front_last}

-- ---- lists

-- what a list came from
record From {X Y : Type 0} (f : X → List Y) (xs : List X) (y : Y) : Type 0 where
  x : X
  among : Among xs x
  gives : Among (f x) y

from_later : {X Y : Type 0} (f : X → List Y) (z : X) (xs : List X) (y : Y) → From f xs y → From f (z ∷ xs) y
from_later f z xs y h = record { x = h.x; among = inr h.among; gives = h.gives }

flat_from : {X Y : Type 0} (f : X → List Y) (xs : List X) (y : Y) → Among (flat_map f xs) y → From f xs y
flat_from f [] y a = absurd a
flat_from f (z ∷ zs) y a = elim (among_append (f z) (flat_map f zs) y a) [
  | inl here ↦ record { x = z; among = inl refl; gives = here }
  | inr more ↦ from_later f z zs y (flat_from f zs y more)
]

zip_first : {K X : Type 0} (ks : List K) (vs : List X) (k : K × X) → Among (zip ks vs) k → Among ks k.0
zip_first [] vs k a = absurd a
zip_first (q ∷ ks) [] k a = absurd a
zip_first (q ∷ ks) (v ∷ vs) k (inl same) = inl (ap (λ e. e.0) same)
zip_first (q ∷ ks) (v ∷ vs) k (inr a) = inr (zip_first ks vs k a)

ends_with : (a : Path) (s : PathStep) (row : Path) → a ++ s ∷ [] ≡ row → is_same_path row (front row ++ s ∷ []) ≡ true
ends_with a s row is =
    sym (ap (λ (r : Path). is_same_path r (front r ++ s ∷ [])) is) ∙ ap (λ (p : Path). is_same_path (a ++ s ∷ []) (p ++ s ∷ [])) (front_last a s) ∙ same_path (a ++ s ∷ [])

map_last : {X Y : Type 0} (f : X → Y) (xs : List X) (x : X) → map f (xs ++ x ∷ []) ≡ map f xs ++ f x ∷ []
map_last f [] x = refl
map_last f (y ∷ ys) x = ap (λ l. f y ∷ l) (map_last f ys x)

-- ---- leafrefs

-- a claim is that of a leafref whose value the row has
record Source (t : SchemaTree) (path : Path) (c : Claim) : Type 0 where
  z : ℕ
  reference : Reference
  is : reference_at t.nodes z ≡ Some reference
  target_is : c.target ≡ reference.target
  has : has_value_of t z path ≡ true

claim_source : (p : Path) (v : Value) (o : Option Reference) (c : Claim) → Among (claim_of p v o) c → (r : Reference) × (o ≡ Some r) × (c.target ≡ r.target)
claim_source p v None c a = absurd a
claim_source p v (Some r) c (inl same) = (r, refl, ap (λ (d : Claim). d.target) same)
claim_source p v (Some r) c (inr a) = absurd a

same_number : (x : ℕ) → (x == x) ≡ true
same_number x = grind (arith, common_steps)

is_among_by : (x : ℕ) (xs : List ℕ) → Among xs x → is_among x xs ≡ true
unfolding is_among
is_among_by x xs a = any_at (λ j. j == x) xs x a (same_number x)

reference_within : (t : SchemaTree) (z : ℕ) (r : Reference) (o : Option Node) → slice_get t.nodes z ≡ o → reference_in o ≡ Some r → z < length t.nodes
reference_within t z r None is e = absurd (cc)
reference_within t z r (Some n) is e = get_within t.nodes z n is

module _ (t : SchemaTree) (sound : IsSound t.nodes) where
  kind_keys : (x k : ℕ) (kind : NodeKind) → HasKeys t.nodes x kind → Among (keys_of kind) k → parent_of t.nodes k ≡ Some x
  kind_keys x k (Container p) h a = absurd a
  kind_keys x k (Leaf ty d m r) h a = absurd a
  kind_keys x k (LeafList ty r es) h a = absurd a
  kind_keys x k (ListOf ks u es) h a = let leaf = h.leafs k (among_contains ks k a) in ap parent_in leaf.there ∙ leaf.within

  keys_within : (x k : ℕ) (o : Option Node) → slice_get t.nodes x ≡ o → Among (keys_in o) k → parent_of t.nodes k ≡ Some x
  keys_within x k None is a = absurd a
  keys_within x k (Some n) is a = kind_keys x k n.kind (sound.keys x n is) a

  -- an entry has the values of its keys
  has_key : (path : Path) (x k : ℕ) → node_of t path ≡ Some x → Among (keys_at t.nodes (Some x)) k → has_value_of t k path ≡ true
  has_key path x k at a =
      let parent = keys_within x k (slice_get t.nodes x) refl a in
      let key : is_key t.nodes k ≡ true = ap (λ (o : Option ℕ). is_among k (keys_at t.nodes o)) parent ∙ is_among_by k (keys_at t.nodes (Some x)) a in
      let stands : same_parent (parent_of t.nodes k) (node_of t path) ≡ true = ap (λ (o : Option ℕ). same_parent o (node_of t path)) parent ∙ ap (same_parent (Some x)) at ∙ same_number x in
      or_right (leads_to t k path) (is_key t.nodes k && same_parent (parent_of t.nodes k) (node_of t path)) (both_true (is_key t.nodes k) (same_parent (parent_of t.nodes k) (node_of t path)) key stands)

  source : (path : Path) (v : Value) (c : Claim) (o : Option ℕ) → node_of t path ≡ o → Among (claims_at t path v o) c → Source t path c
  source path v c None at a = absurd a
  source path v c (Some x) at a =
      let ks = keys_at t.nodes (Some x) in
      elim (among_append (claim_of path v (reference_at t.nodes x)) (key_claims t path ks (chosen_values path)) c a) [
        | inl own ↦
            let s = claim_source path v (reference_at t.nodes x) c own in
            record {
              z = x;
              reference = s.0;
              is = s.1;
              target_is = s.2;
              has = or_left (leads_to t x path) (is_key t.nodes x && same_parent (parent_of t.nodes x) (node_of t path)) (ap (is_node x) at ∙ itself x);
            }
        | inr key ↦
            let g = flat_from (λ (k : ℕ × Value). claim_of (path ++ bare t.nodes k.0 ∷ []) k.1 (reference_at t.nodes k.0)) (zip ks (chosen_values path)) c key in
            let s = claim_source (path ++ bare t.nodes g.x.0 ∷ []) g.x.1 (reference_at t.nodes g.x.0) c g.gives in
            record { z = g.x.0; reference = s.0; is = s.1; target_is = s.2; has = has_key path x g.x.0 at (zip_first ks (chosen_values path) g.x g.among) }
      ]

  claim_concerns : (path row : Path) (c : Claim) (s : Source t path c) → (is_same_path path row || claim_reads t c row) ≡ true → reference_concerns t s.z (Some s.reference) row ≡ true
  claim_concerns path row c s e =
      let target = s.reference.target in
      let own = has_value_of t s.z row in
      let there = has_value_of t target row in
      elim (either (is_same_path path row) (claim_reads t c row) e) [
        | inl same ↦
            let has : has_value_of t s.z row ≡ true = ap (has_value_of t s.z) (sym (path_is path row same)) ∙ s.has in
            or_left (own || there) (default_reads t target row) (or_left own there has)
        | inr claim ↦ elim (either (is_under c.context row && has_value_of t c.target row) (default_reads t c.target row) claim) [
          | inl value ↦
              let has : has_value_of t target row ≡ true = ap (λ (x : ℕ). has_value_of t x row) (sym s.target_is) ∙ (both (is_under c.context row) (has_value_of t c.target row) value).1 in
              or_left (own || there) (default_reads t target row) (or_right own there has)
          | inr default ↦ or_right (own || there) (default_reads t target row) (ap (λ (x : ℕ). default_reads t x row) (sym s.target_is) ∙ default)
        ]
      ]

  leafref_concerned : (path row : Path) → reads t Leafref path row ≡ true → concerns t Leafref row ≡ true
  unfolding concerns
  leafref_concerned path row e =
      let h = any_passes (λ (c : Claim). is_same_path path row || claim_reads t c row) (claims_at t path Present (node_of t path)) e in
      let s = source path Present h.x (node_of t path) refl h.among in
      let lt = reference_within t s.z s.reference (slice_get t.nodes s.z) refl s.is in
      any_at (λ (z : ℕ). reference_concerns t z (reference_at t.nodes z) row) (numbers t.nodes) s.z (among_numbers (length t.nodes) s.z lt)
      (ap (λ (o : Option Reference). reference_concerns t s.z o row) s.is ∙ claim_concerns path row h.x s h.passes)

-- ---- unique statements

uniques_within : (t : SchemaTree) (l : ℕ) (leafs : List ℕ) (o : Option Node) → slice_get t.nodes l ≡ o → Among (uniques_in o) leafs → l < length t.nodes
uniques_within t l leafs None is a = absurd a
uniques_within t l leafs (Some n) is a = get_within t.nodes l n is

module _ (t : SchemaTree) (row : Path) where
  -- what tells the value of a leaf in an entry concerns the leaf, where it isn't the entry itself
  leaf_told : (e : Path) (x : ℕ) → leaf_reads t (path_in t e x) x row ≡ true → (e ≡ row) ⊎ (leaf_concerns t x row ≡ true)
  leaf_told e x read =
      let nodes = chain_of t.nodes x (parent_of t.nodes x) in
      let tail = drop (length e) (nodes ++ x ∷ []) in
      let p = e ++ map (bare t.nodes) tail in
      let h = both (not (is_key t.nodes x)) (is_same_path p row || is_some (default_at t.nodes x) && stands_reads t p row) read in
      elim (either (is_same_path p row) (is_some (default_at t.nodes x) && stands_reads t p row) h.1) [
        | inl same ↦ elim (drop_last (length e) nodes x) [
          | inl none ↦ inl (sym (append-nil e) ∙ ap (λ (xs : List ℕ). e ++ map (bare t.nodes) xs) (sym none) ∙ path_is p row same)
          | inr last ↦
              let steps = map (bare t.nodes) (drop (length e) nodes) in
              let is : (e ++ steps) ++ bare t.nodes x ∷ [] ≡ p =
              append_assoc e steps (bare t.nodes x ∷ []) ∙ ap (λ (ss : Path). e ++ ss) (sym (map_last (bare t.nodes) (drop (length e) nodes) x)) ∙ ap (λ (xs : List ℕ). e ++ map (bare t.nodes) xs) (sym last) in
              inr (both_true (not (is_key t.nodes x)) (ends_at t x row || is_some (default_at t.nodes x)) h.0
              (or_left (ends_at t x row) (is_some (default_at t.nodes x)) (ends_with (e ++ steps) (bare t.nodes x) row (is ∙ path_is p row same))))
        ]
        | inr guard ↦
            inr (both_true (not (is_key t.nodes x)) (ends_at t x row || is_some (default_at t.nodes x)) h.0
            (or_right (ends_at t x row) (is_some (default_at t.nodes x)) (both (is_some (default_at t.nodes x)) (stands_reads t p row) guard).0))
      ]

  passes_by : (l n : ℕ) → n < suc (length row) → node_of t (take n row) ≡ Some l → passes t l row ≡ true
  unfolding passes
  passes_by l n lt at = any_at (λ (m : ℕ). leads_to t l (take m row)) (range_with_len 0 (suc (length row))) n (among_numbers (suc (length row)) n lt) (ap (is_node l) at ∙ itself l)

  entry_concerns : (l n : ℕ) (leafs : List ℕ) → n < suc (length row) → node_of t (take n row) ≡ Some l → entry_reads t (take n row) leafs row ≡ true → unique_concerns t l leafs row ≡ true
  entry_concerns l n leafs lt at e =
      let entry = take n row in
      let others = passes t l row && list_any (λ x. leaf_concerns t x row) leafs in
      let here : entry ≡ row → leads_to t l row ≡ true = λ (same : entry ≡ row). ap (leads_to t l) (sym same) ∙ ap (is_node l) at ∙ itself l in
      elim (either (is_same_path entry row) (list_any (λ x. leaf_reads t (path_in t entry x) x row) leafs) e) [
        | inl same ↦ or_left (leads_to t l row) others (here (path_is entry row same))
        | inr leaf ↦
            let h = any_passes (λ x. leaf_reads t (path_in t entry x) x row) leafs leaf in
            elim (leaf_told entry h.x h.passes) [
              | inl same ↦ or_left (leads_to t l row) others (here same)
              | inr told ↦
                  or_right (leads_to t l row) others (both_true (passes t l row) (list_any (λ x. leaf_concerns t x row) leafs) (passes_by l n lt at) (any_at (λ x. leaf_concerns t x row) leafs h.x h.among told))
            ]
      ]

  unique_by : (path : Path) (leafs : List ℕ) (o : Option ℕ) → node_of t path ≡ o → Among (uniques_of_node t o) leafs → is_beside path row ≡ true → entry_reads t (take (length path) row) leafs row ≡ true
      → concerns t Unique row ≡ true
  unfolding concerns
  unique_by path leafs None at a beside e = absurd a
  unique_by path leafs (Some l) at a beside e =
      let n = length path in
      let entry = take n row in
      let short : length (take n row) ≡ length path = same_length entry path beside in
      let taken = length-take n row in
      let lt : length path < suc (length row) = omega (arith, short, taken) in
      let within = uniques_within t l leafs (slice_get t.nodes l) refl a in
      any_at (λ (m : ℕ). list_any (λ ls. unique_concerns t m ls row) (uniques_at t.nodes m)) (numbers t.nodes) l (among_numbers (length t.nodes) l within)
      (any_at (λ ls. unique_concerns t l ls row) (uniques_at t.nodes l) leafs a (entry_concerns l n leafs lt (same_node entry path beside t ∙ at) e))

  unique_concerned : (path : Path) → reads t Unique path row ≡ true → concerns t Unique row ≡ true
  unique_concerned path e =
      let h = both (is_beside path row) (list_any (λ leafs. entry_reads t (take (length path) row) leafs row) (uniques_of_node t (node_of t path))) e in
      let g = any_passes (λ leafs. entry_reads t (take (length path) row) leafs row) (uniques_of_node t (node_of t path)) h.1 in
      unique_by path g.x (node_of t path) refl g.among h.0 g.passes

-- a row that a rule reads somewhere concerns the rule
pub read_concerns : (t : SchemaTree) (rule : Rule) (path row : Path) → IsSound t.nodes → reads t rule path row ≡ true → concerns t rule row ≡ true
unfolding concerns
read_concerns t ValueType path row sound e = refl
read_concerns t Key path row sound e = refl
read_concerns t Mandatory path row sound e = refl
read_concerns t Leafref path row sound e = leafref_concerned t sound path row e
read_concerns t Unique path row sound e = unique_concerned t row path e
read_concerns t MinElements path row sound e = refl
read_concerns t MaxElements path row sound e = refl
read_concerns t MandatoryChoice path row sound e = refl
read_concerns t OneCase path row sound e = refl
