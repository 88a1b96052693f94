-- Lists of the places of nodes, as they are filled.
use Rattle.std.proofs.Common.{◌≡◌, ◌≢◌, ◌<◌, ◌≤◌, ◌+◌, ◌∙◌, ◌⊎◌, inl, inr, ℕ, suc, List, [], ◌∷◌, ◌++◌, length, get_or, take, replicate, Bool, true, false, ◌==◌, ◌&&◌, Option, None, Some, IfSome, All, slice_get, slice_set, if◌then◌else◌, refl, sym, ap, subst, arith, get_or-set_same, get_or-set_other}
use Rattle.std.proofs.lemmas.Bool.{cases_eq}
use Rattle.std.proofs.lemmas.Bool.Decides.{nat_tests}
use Rattle.std.proofs.lemmas.List.{append-nil, length-set, length-replicate, take_more, get_or-replicate, length-take-le, take_all}
use Rattle.nm_schema_statements.specs.Rows.{same_parent}
use Rattle.nm_schema_nodes.specs.declared.instance.Instance.{Instance}
use Rattle.nm_schema_statements.specs.declared.row.Row.{Row}
use Rattle.nm_schema_statements.specs.Rows.{roots}
use Rattle.std.proofs.lemmas.Option.{slice_get-get_or, slice_get_within}
use Rattle.nm_schema_nodes.specs.Expansion.{places_of, is_below, is_top, children, tops, owner_of, IsExpansion}
use Rattle.nm_schema_nodes.specs.Index.{module_above, listed_with, AreChildren, AreTops}
use Rattle.nm_schema_nodes.proofs.Places.{places-push, places-nil}

-- each list has the places of the nodes that pass its test
pub record IsListed (tests : ℕ → Instance → Bool) (count : ℕ) (nodes : List Instance) (lists : List (List ℕ)) : Type 0 where
  pub size : length lists ≡ count
  pub each : (i : ℕ) → i < count → get_or lists i [] ≡ places_of (tests i) 0 nodes

same-self : (i : ℕ) → (i == i) ≡ true
same-self i = grind (arith, nat_tests)

same-other : (h i : ℕ) → i ≢ h → (h == i) ≡ false
same-other h i differ = grind (arith, nat_tests)

module _ (tests : ℕ → Instance → Bool) (count : ℕ) where
  pub listed_none : (lists : List (List ℕ)) → lists ≡ replicate count [] → IsListed tests count [] lists
  listed_none lists is = rw is (record { size = length-replicate count []; each = λ i lt. get_or-replicate count i [] [] lt ∙ sym (places-nil (tests i) 0) })

  skipped : (nodes : List Instance) (node : Instance) (i : ℕ) → tests i node ≡ false → places_of (tests i) 0 (nodes ++ node ∷ []) ≡ places_of (tests i) 0 nodes
  skipped nodes node i is =
      places-push (tests i) 0 (length nodes) nodes node (omega arith) ∙ ap (λ b. places_of (tests i) 0 nodes ++ (if b then length nodes ∷ [] else [])) is ∙ append-nil (places_of (tests i) 0 nodes)

  taken : (nodes : List Instance) (node : Instance) (i : ℕ) → tests i node ≡ true → places_of (tests i) 0 (nodes ++ node ∷ []) ≡ places_of (tests i) 0 nodes ++ length nodes ∷ []
  taken nodes node i is =
      places-push (tests i) 0 (length nodes) nodes node (omega arith) ∙ ap (λ b. places_of (tests i) 0 nodes ++ (if b then length nodes ∷ [] else [])) is

  put_each : (nodes : List Instance) (node : Instance) (lists : List (List ℕ)) (h i : ℕ) → IsListed tests count nodes lists → h < count → i < count → ((i : ℕ) → tests i node ≡ (h == i)) → (i ≡ h) ⊎ (i ≢ h)
      → get_or (slice_set lists h (get_or lists h [] ++ length nodes ∷ [])) i [] ≡ places_of (tests i) 0 (nodes ++ node ∷ [])
  put_each nodes node lists h i l within lt is (inl same) =
      rw same (get_or-set_same lists h (get_or lists h [] ++ length nodes ∷ []) [] (omega (arith, l.size, within)) ∙ ap (λ (n : List ℕ). n ++ length nodes ∷ []) (l.each h within) ∙ sym (taken nodes node h (is h ∙ same-self h)))
  put_each nodes node lists h i l within lt is (inr differ) =
      get_or-set_other lists h i (get_or lists h [] ++ length nodes ∷ []) [] differ ∙ l.each i lt ∙ sym (skipped nodes node i (is i ∙ same-other h i differ))

  pub listed_push : (nodes : List Instance) (node : Instance) (lists : List (List ℕ)) (holder : Option ℕ) → IfSome holder (λ h. h < count) → ((i : ℕ) → tests i node ≡ same_parent holder (Some i)) → IsListed tests count nodes lists
      → IsListed tests count (nodes ++ node ∷ []) (listed_with lists holder (length nodes))
  listed_push nodes node lists None within is l = record { size = l.size; each = λ i lt. l.each i lt ∙ sym (skipped nodes node i (is i)) }
  listed_push nodes node lists (Some h) within is l = record {
    size = length-set lists h (get_or lists h [] ++ length nodes ∷ []) ∙ l.size;
    each = λ i lt. put_each nodes node lists h i l within lt is (cases_eq i h);
  }

  -- the list of a node more
  pub listed_more : (nodes : List Instance) (at : ℕ) (d : Instance) (lists : List (List ℕ)) (holder : Option ℕ) → at < length nodes → IfSome holder (λ h. h < count) → ((i : ℕ) → tests i (get_or nodes at d) ≡ same_parent holder (Some i))
      → IsListed tests count (take at nodes) lists → IsListed tests count (take (at + 1) nodes) (listed_with lists holder at)
  listed_more nodes at d lists holder lt within is l =
      let size : length (take at nodes) ≡ at = length-take-le at nodes (omega arith) in
      rw (take_more nodes at d lt) (subst (λ n. IsListed tests count (take at nodes ++ get_or nodes at d ∷ []) (listed_with lists holder n)) size (listed_push (take at nodes) (get_or nodes at d) lists holder within is l))

  -- the lists of all nodes
  pub listed_all : (nodes : List Instance) (at : ℕ) (lists : List (List ℕ)) → length nodes ≤ at → IsListed tests count (take at nodes) lists → IsListed tests count nodes lists
  listed_all nodes at lists le l = subst (λ (n : List Instance). IsListed tests count n lists) (take_all at nodes le) l

pub below-tests : (i : ℕ) (node : Instance) → is_below i node ≡ same_parent node.parent (Some i)
unfolding is_below
below-tests i node = refl

top-cases : (m owner : ℕ) (parent : Option ℕ) → (same_parent parent None && owner == m) ≡ same_parent (module_above parent owner) (Some m)
top-cases m owner None = refl
top-cases m owner (Some p) = refl

pub top-tests : (m : ℕ) (node : Instance) → is_top m node ≡ same_parent (module_above node.parent node.owner) (Some m)
unfolding is_top
top-tests m node = top-cases m node.owner node.parent

pub module_above-within : (parent : Option ℕ) (owner count : ℕ) → owner < count → IfSome (module_above parent owner) (λ h. h < count)
module_above-within None owner count lt = lt
module_above-within (Some p) owner count lt = tt

pub children-are : (nodes : List Instance) (lists : List (List ℕ)) → IsListed is_below (length nodes) nodes lists → AreChildren nodes lists
unfolding children
children-are nodes lists l = record { size = l.size; each = l.each }

pub tops-are : (count : ℕ) (nodes : List Instance) (lists : List (List ℕ)) → IsListed is_top count nodes lists → AreTops count nodes lists
unfolding tops
tops-are count nodes lists l = record { size = l.size; each = l.each }

-- ---- what follows for all nodes

places-none : (test : Instance → Bool) (n : ℕ) (nodes : List Instance) → ((k : ℕ) (node : Instance) → slice_get nodes k ≡ Some node → test node ≡ false) → places_of test n nodes ≡ []
unfolding places_of
places-none test n [] none = refl
places-none test n (node ∷ nodes) none = rw (none 0 node refl, places-none test (suc n) nodes (λ k other at. none (suc k) other at)) refl

parent-other : (i k count : ℕ) (parent : Option ℕ) → IfSome parent (λ p. p < k) → k < count → count ≤ i → same_parent parent (Some i) ≡ false
parent-other i k count None h lt le = refl
parent-other i k count (Some p) h lt le = same-other p i (λ e. omega (arith, h, lt, le, e))

parent-before : (k : ℕ) (nodes : List Instance) (owner : ℕ) (parent : Option ℕ) → IfSome parent (λ p. (p < k) × (owner_of nodes p ≡ Some owner)) → IfSome parent (λ p. p < k)
parent-before k nodes owner None h = tt
parent-before k nodes owner (Some p) h = h.0

parent-within : (k count : ℕ) (parent : Option ℕ) → k < count → IfSome parent (λ p. p < k) → IfSome parent (λ p. p < count)
parent-within k count None lt h = tt
parent-within k count (Some p) lt h = omega (arith, lt, h)

module _ (rows : List Row) (groupings : List (Option ℕ)) (nodes : List Instance) where
  pub children-past : (i : ℕ) → IsExpansion rows groupings nodes → length nodes ≤ i → children nodes i ≡ []
  unfolding children is_below
  children-past i h le = places-none (is_below i) 0 nodes (λ k node at. parent-other i k (length nodes) node.parent (parent-before k nodes node.owner node.parent (h.parents k node at)) (slice_get_within nodes k node at) le)

  pub tops-past : (m : ℕ) → IsExpansion rows groupings nodes → length (roots rows) ≤ m → tops nodes m ≡ []
  unfolding tops is_top
  tops-past m h le = places-none (is_top m) 0 nodes (λ k node at. and-false (same_parent node.parent None) (same-other node.owner m (λ e. omega (arith, h.owners k node at, le, e))))
    where
      and-false : (a : Bool) {b : Bool} → b ≡ false → (a && b) ≡ false
      and-false true e = e
      and-false false e = refl

  pub parents-all : IsExpansion rows groupings nodes → All (λ node. IfSome node.parent (λ p. p < length nodes)) nodes
  parents-all h = λ k d lt. parent-within k (length nodes) (get_or nodes k d).parent lt (parent-before k nodes (get_or nodes k d).owner (get_or nodes k d).parent (h.parents k (get_or nodes k d) (slice_get-get_or nodes k d lt)))

  pub owners-all : IsExpansion rows groupings nodes → All (λ node. node.owner < length (roots rows)) nodes
  owners-all h = λ k d lt. h.owners k (get_or nodes k d) (slice_get-get_or nodes k d lt)
