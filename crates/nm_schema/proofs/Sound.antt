-- The nodes of the schema tree that modules give are sound.
use Rattle.std.proofs.Common.{◌≡◌, ◌∙◌, ◌<◌, ◌≤◌, ◌+◌, ◌⊎◌, inl, inr, ℕ, zero, suc, List, [], ◌∷◌, ◌++◌, length, map, true, Option, Some, None, Result, Ok, Err, IfOk, slice_get, refl, sym, ap, subst, arith}
use Rattle.std.specs.Prelude.{is_some}
use Rattle.std.specs.List.{IsDistinct}
use Rattle.std.proofs.lemmas.Int.{ints}
use Rattle.std.proofs.lemmas.Option.{same_Some}
use Rattle.nm_yang.specs.Tree.{Tree}
use Rattle.nm_types.specs.LeafType.{TypeOfLeaf}
use Rattle.nm_types.specs.Spells.{IsOnce, HasDistinctNames}
use Rattle.nm_schema_statements.specs.declared.row.Row.{Row}
use Rattle.nm_schema_statements.specs.Rows.{rows_of}
use Rattle.nm_schema_names.specs.Named.{is_marker}
use Rattle.nm_schema_tree.specs.declared.node.Node.{Node}
use Rattle.nm_schema_tree.specs.Nodes.{SchemaTree, module_in, module_at, type_of, type_in, keys_of}
use Rattle.nm_schema_nodes.specs.Expansion.{IsExpansion}
use Rattle.nm_schema_nodes.proofs.Places.{slice_get-left}
use Rattle.nm_path.specs.Form as form
use Rattle.nm_path.specs.Spelling.{name_at}
use Rattle.nm_path.specs.Written.{IsWellNamed}
use Rattle.nm_path.specs.Sound.{HaveOneName, IsHolder, IsLeafIn, AreKeys, HasKeys, HasLow, HasHeldBounds, IsSound}
use Rattle.nm_schema_faults.specs.declared.fault.Fault.{Fault}
use Rattle.nm_schema_faults.specs.Facts.{Facts, AreFacts, definitions}
use Rattle.nm_schema_faults.specs.Fault.{first_fault}
use Rattle.nm_schema.specs.declared.fault.SchemaFault.{SchemaFault}
use Rattle.nm_schema.specs.Node.{node_of, known_nodes, AreNodes}
use Rattle.nm_base.specs.Words.{marker_name}
use Rattle.nm_schema.specs.Marker.{change_type, changes_node, applied_node, change_node, marker_nodes}
use Rattle.nm_schema.specs.Built.{tree_of, outcome, built, AreBuilt, Builds, Answered}
use Rattle.nm_schema.proofs.Elements.{here, later, nothing, first_or_later}
use Rattle.nm_schema.proofs.Claims.{AreOrderly}
use Rattle.nm_schema.specs.Faultless.{AreFaultless}
use Rattle.nm_schema.proofs.Faultless.{within}
use Rattle.nm_schema.proofs.Known.{faultless, order, node_known}
use Rattle.nm_schema.proofs.Putting.{are-more, none-put}
use Rattle.nm_schema.proofs.Nodes.{placed, some_of, given_named, given_unmarked, given_apart, given_parent, given_module, given_holder, given_type, given_keys}

-- ---- all nodes are known

first_nodes : (rows : List Row) (facts : Facts) → ((x : ℕ) → x < length facts.nodes → is_some (node_of rows facts x) ≡ true) → (n : ℕ) → n ≤ length facts.nodes → (nodes : List Node) × AreNodes rows facts n nodes
first_nodes rows facts known zero le = ([], none-put rows facts [] refl)
first_nodes rows facts known (suc n) le =
    let before = first_nodes rows facts known n (omega (arith, le)) in
    let node = some_of (node_of rows facts n) (known n (omega (arith, le))) in
    let at : n + 1 ≡ suc n = omega arith in
    (before.0 ++ node.0 ∷ [], subst (λ k. AreNodes rows facts k (before.0 ++ node.0 ∷ [])) at (are-more rows facts n before.0 (before.0 ++ node.0 ∷ []) node.0 before.1 node.1 refl))

-- the known nodes are all nodes
are_all : (rows : List Row) (facts : Facts) → ((x : ℕ) → x < length facts.nodes → is_some (node_of rows facts x) ≡ true) → AreNodes rows facts (length facts.nodes) (known_nodes rows facts)
unfolding known_nodes
are_all rows facts known =
    let first = first_nodes rows facts known (length facts.nodes) (omega arith) in
    subst (λ (nodes : List Node). AreNodes rows facts (length facts.nodes) nodes) first.1.all first.1

-- ---- which node stands where

-- an element of two lists is one of the first, or of the second behind it
pub record IsBehind {X : Type 0} (n i : ℕ) (ys : List X) (y : X) : Type 0 where
  pub k : ℕ
  pub at : i ≡ n + k
  pub there : slice_get ys k ≡ Some y

in_both : {X : Type 0} (xs ys : List X) (i : ℕ) (y : X) → slice_get (xs ++ ys) i ≡ Some y → ((i < length xs) × (slice_get xs i ≡ Some y)) ⊎ IsBehind (length xs) i ys y
in_both [] ys i y e = inr (record { k = i; at = omega arith; there = e })
in_both (x ∷ xs) ys zero y e = inl (omega arith, e)
in_both (x ∷ xs) ys (suc i) y e = elim (in_both xs ys i y e) [
  | inl front ↦ inl (omega (arith, front.0), front.1)
  | inr behind ↦ inr (record { k = behind.k; at = omega (arith, behind.at); there = behind.there })
]

pub behind : {X : Type 0} (xs ys : List X) (k : ℕ) → slice_get (xs ++ ys) (length xs + k) ≡ slice_get ys k
behind [] ys k = ap (slice_get ys) (omega arith)
behind (x ∷ xs) ys k =
    let at : length (x ∷ xs) + k ≡ suc (length xs + k) = omega arith in
    ap (slice_get (x ∷ xs ++ ys)) at ∙ behind xs ys k

-- node i of a tree: a given one, or one of the marker module behind n others
pub data IsCase (rows : List Row) (facts : Facts) (n i : ℕ) (node : Node) : Type 0 where
  given : node_of rows facts i ≡ Some node → IsCase rows facts n i node
  changes : i ≡ n → node ≡ changes_node → IsCase rows facts n i node
  applied : i ≡ n + 1 → node ≡ applied_node n → IsCase rows facts n i node
  change : i ≡ n + 2 → node ≡ change_node n → IsCase rows facts n i node

marker_case : (rows : List Row) (facts : Facts) (n i : ℕ) (node : Node) (k : ℕ) → i ≡ n + k → slice_get (marker_nodes n) k ≡ Some node → IsCase rows facts n i node
marker_case rows facts n i node zero at e = let same : changes_node ≡ node = cc in changes (omega (arith, at)) (sym same)
marker_case rows facts n i node (suc zero) at e = let same : applied_node n ≡ node = cc in applied (omega (arith, at)) (sym same)
marker_case rows facts n i node (suc (suc zero)) at e = let same : change_node n ≡ node = cc in change (omega (arith, at)) (sym same)
marker_case rows facts n i node (suc (suc (suc k))) at e = absurd (cc)

module _ (rows : List Row) (facts : Facts) (all : AreFaultless rows facts) (order : AreOrderly rows (definitions rows)) (expansion : IsExpansion rows (definitions rows) facts.nodes) (known : (x : ℕ) → x < length facts.nodes → is_some (node_of rows facts x) ≡ true) where
  abbrev firsts : List Node
  firsts = known_nodes rows facts

  abbrev count : ℕ
  count = length firsts

  abbrev nodes : List Node
  nodes = firsts ++ marker_nodes count

  pub case : (i : ℕ) (n : Node) → slice_get nodes i ≡ Some n → IsCase rows facts count i n
  case i n e =
      let are = are_all rows facts known in
      elim (in_both (known_nodes rows facts) (marker_nodes (length (known_nodes rows facts))) i n e) [
        | inl front ↦ given (sym (are.each i (omega (arith, front.0, are.size))) ∙ front.1)
        | inr later ↦ marker_case rows facts (length (known_nodes rows facts)) i n later.k later.at later.there
      ]

  inside : (x : ℕ) (n : Node) → node_of rows facts x ≡ Some n → x < count
  inside x n e =
      let are = are_all rows facts known in
      let p = placed rows facts x n e in
      omega (arith, within facts.nodes x p.place p.there, are.size)

  pub at : (x : ℕ) (n : Node) → node_of rows facts x ≡ Some n → slice_get nodes x ≡ Some n
  at x n e =
      let are = are_all rows facts known in
      let lt : x < length (known_nodes rows facts) = inside x n e in
      slice_get-left (known_nodes rows facts) (marker_nodes (length (known_nodes rows facts))) x lt ∙ are.each x (omega (arith, lt, are.size)) ∙ e

  -- a given node that a given node stands in
  above : (x p : ℕ) (n : Node) → node_of rows facts x ≡ Some n → n.parent ≡ Some p → (m : Node) × (node_of rows facts p ≡ Some m)
  above x p n e parent =
      let are = are_all rows facts known in
      some_of (node_of rows facts p) (known p (omega (arith, given_parent rows facts all order expansion x p n e parent, inside x n e, are.size)))

  marker_at : (k : ℕ) (i : ℕ) → i ≡ count + k → slice_get nodes i ≡ slice_get (marker_nodes count) k
  marker_at k i is = ap (slice_get (known_nodes rows facts ++ marker_nodes (length (known_nodes rows facts)))) is ∙ behind (known_nodes rows facts) (marker_nodes (length (known_nodes rows facts))) k

  -- ---- names

  names_by : (i : ℕ) (n : Node) → IsCase rows facts count i n → (form.is_identifier n.name ≡ true) × (form.is_identifier n.«module» ≡ true)
  unfolding marker_name changes_node applied_node change_node form.is_start form.is_name
  names_by i n (given e) = given_named rows facts all order expansion i n e
  names_by i n (changes is e) = rw e (refl, refl)
  names_by i n (applied is e) = rw e (refl, refl)
  names_by i n (change is e) = rw e (refl, refl)

  has_keys : (i : ℕ) (n : Node) → IsCase rows facts count i n → HasKeys nodes i n.kind × IsOnce (map (λ k. name_at nodes k) (keys_of n.kind))
  unfolding changes_node applied_node change_node IsDistinct
  has_keys i n (given e) = given_keys rows facts all order expansion known nodes at i n e
  has_keys i n (changes is e) = rw e (tt, tt)
  has_keys i n (change is e) = rw e (tt, tt)
  has_keys i n (applied is e) =
      let leaf : IsLeafIn nodes i (count + 2) = record { node = change_node count; there = marker_at 2 (count + 2) refl; leaf = refl; within = ap (λ (p : ℕ). Some p) (sym is) } in
      let keys : AreKeys nodes i ((count + 2) ∷ []) = record {
        some = omega arith;
        leafs = λ k c. elim (first_or_later (count + 2) k [] c) [
          | inl same ↦ subst (λ (l : ℕ). IsLeafIn nodes i l) same leaf
          | inr none ↦ absurd (nothing k none)
        ];
        once = (tt, tt);
      } in
      rw e (keys, ((λ c. nothing (name_at nodes (count + 2)) c), tt))

  type_by : (i : ℕ) (n : Node) (t : TypeOfLeaf) → IsCase rows facts count i n → type_of n.kind ≡ Some t → HasLow t.kind × HasDistinctNames t.kind × HasHeldBounds t.kind
  unfolding changes_node applied_node change_node
  type_by i n t (given e) h = given_type rows facts all order expansion i n t e h
  type_by i n t (changes is e) h = absurd (let no = rw e at h in cc)
  type_by i n t (applied is e) h = absurd (let no = rw e at h in cc)
  type_by i n t (change is e) h =
      let same = same_Some change_type t (sym (ap (λ (m : Node). type_of m.kind) e) ∙ h) in
      subst (λ (s : TypeOfLeaf). HasLow s.kind × HasDistinctNames s.kind × HasHeldBounds s.kind) same ((λ narrow. grind (arith, ints)), tt, (grind (arith, ints), grind (arith, ints)))

  type_in_node : (i : ℕ) (t : TypeOfLeaf) (o : Option Node) → slice_get nodes i ≡ o → type_in o ≡ Some t → HasLow t.kind × HasDistinctNames t.kind × HasHeldBounds t.kind
  type_in_node i t None is h = absurd (cc)
  type_in_node i t (Some n) is h = type_by i n t (case i n is) h

  -- ---- which nodes stand apart

  unmarked : (x : ℕ) (n m : Node) → node_of rows facts x ≡ Some n → n.«module» ≡ m.«module» → m.«module» ≡ marker_name → ⊥
  unfolding marker_name is_marker
  unmarked x n m e same is =
      let no = given_unmarked rows facts all order expansion x n e in
      let yes : is_marker n.«module» ≡ true = ap is_marker (same ∙ is) in
      cc

  -- where a node of the marker module stands
  pub data IsMark (i : ℕ) (n : Node) : Type 0 where
    outer : i ≡ count → n.parent ≡ None → IsMark i n
    middle : i ≡ count + 1 → n.parent ≡ Some count → IsMark i n
    inner : i ≡ count + 2 → n.parent ≡ Some (count + 1) → IsMark i n

  same_mark : (i j : ℕ) (n m : Node) → IsMark i n → IsMark j m → n.parent ≡ m.parent → i ≡ j
  same_mark i j n m (outer a p) (outer b q) e = a ∙ sym b
  same_mark i j n m (middle a p) (middle b q) e = a ∙ sym b
  same_mark i j n m (inner a p) (inner b q) e = a ∙ sym b
  same_mark i j n m (outer a p) (middle b q) e = absurd (let no : None ≡ Some count = sym p ∙ e ∙ q in cc)
  same_mark i j n m (outer a p) (inner b q) e = absurd (let no : None ≡ Some (count + 1) = sym p ∙ e ∙ q in cc)
  same_mark i j n m (middle a p) (outer b q) e = absurd (let no : Some count ≡ None = sym p ∙ e ∙ q in cc)
  same_mark i j n m (inner a p) (outer b q) e = absurd (let no : Some (count + 1) ≡ None = sym p ∙ e ∙ q in cc)
  same_mark i j n m (middle a p) (inner b q) e = let no = same_Some count (count + 1) (sym p ∙ e ∙ q) in absurd (omega (arith, no))
  same_mark i j n m (inner a p) (middle b q) e = let no = same_Some (count + 1) count (sym p ∙ e ∙ q) in absurd (omega (arith, no))

  -- a given node, or one of the marker module
  mark : (i : ℕ) (n : Node) → IsCase rows facts count i n → (node_of rows facts i ≡ Some n) ⊎ (IsMark i n × (n.«module» ≡ marker_name))
  unfolding changes_node applied_node change_node
  mark i n (given e) = inl e
  mark i n (changes is e) = inr (outer is (rw e refl), rw e refl)
  mark i n (applied is e) = inr (middle is (rw e refl), rw e refl)
  mark i n (change is e) = inr (inner is (rw e refl), rw e refl)

  apart_by : (i j : ℕ) (n m : Node) → HaveOneName n m → (node_of rows facts i ≡ Some n) ⊎ (IsMark i n × (n.«module» ≡ marker_name)) → (node_of rows facts j ≡ Some m) ⊎ (IsMark j m × (m.«module» ≡ marker_name)) → i ≡ j
  apart_by i j n m h (inl e) (inl f) = given_apart rows facts all order expansion i j n m e f h
  apart_by i j n m h (inl e) (inr f) = absurd (unmarked i n m e h.«module» f.1)
  apart_by i j n m h (inr e) (inl f) = absurd (unmarked j m n f (sym h.«module») e.1)
  apart_by i j n m h (inr e) (inr f) = same_mark i j n m e.0 f.0 h.parent

  -- ---- what nodes stand in

  before_by : (i p : ℕ) (n : Node) → (node_of rows facts i ≡ Some n) ⊎ (IsMark i n × (n.«module» ≡ marker_name)) → n.parent ≡ Some p → p < i
  before_by i p n (inl e) parent = given_parent rows facts all order expansion i p n e parent
  before_by i p n (inr e) parent = by e.0
    where
      by : IsMark i n → p < i
      by (outer a q) = absurd (let no : None ≡ Some p = sym q ∙ parent in cc)
      by (middle a q) = let same = same_Some count p (sym q ∙ parent) in omega (arith, same, a)
      by (inner a q) = let same = same_Some (count + 1) p (sym q ∙ parent) in omega (arith, same, a)

  module_by : (i p : ℕ) (n : Node) → (node_of rows facts i ≡ Some n) ⊎ (IsMark i n × (n.«module» ≡ marker_name)) → n.parent ≡ Some p → module_at nodes p ≡ Some n.«module»
  unfolding changes_node applied_node
  module_by i p n (inl e) parent =
      let a = above i p n e parent in
      ap module_in (at p a.0 a.1) ∙ ap (λ (w : List ℕ). Some w) (given_module rows facts all order expansion i p n a.0 e parent a.1)
  module_by i p n (inr (m, is)) parent = by m
    where
      named : (k : ℕ) (a : Node) → p ≡ count + k → slice_get (marker_nodes count) k ≡ Some a → a.«module» ≡ marker_name → module_at nodes p ≡ Some n.«module»
      named k a here there marked = ap module_in (marker_at k p here ∙ there) ∙ ap (λ (w : List ℕ). Some w) (marked ∙ sym is)

      by : IsMark i n → module_at nodes p ≡ Some n.«module»
      by (outer a q) = absurd (let no : None ≡ Some p = sym q ∙ parent in cc)
      by (middle a q) = let same = same_Some count p (sym q ∙ parent) in named 0 changes_node (omega (arith, same)) refl refl
      by (inner a q) = let same = same_Some (count + 1) p (sym q ∙ parent) in named 1 (applied_node count) (omega (arith, same)) refl refl

  holder_by : (i p : ℕ) (n : Node) → (node_of rows facts i ≡ Some n) ⊎ (IsMark i n × (n.«module» ≡ marker_name)) → n.parent ≡ Some p → IsHolder nodes p
  unfolding changes_node applied_node
  holder_by i p n (inl e) parent =
      let a = above i p n e parent in
      record { node = a.0; there = at p a.0 a.1; holder = given_holder rows facts all order expansion i p n a.0 e parent a.1 }
  holder_by i p n (inr (m, is)) parent = by m
    where
      by : IsMark i n → IsHolder nodes p
      by (outer a q) = absurd (let no : None ≡ Some p = sym q ∙ parent in cc)
      by (middle a q) = let same = same_Some count p (sym q ∙ parent) in record { node = changes_node; there = marker_at 0 p (omega (arith, same)); holder = refl }
      by (inner a q) = let same = same_Some (count + 1) p (sym q ∙ parent) in record { node = applied_node count; there = marker_at 1 p (omega (arith, same)); holder = refl }

  sound : IsSound (tree_of rows facts).nodes
  sound = record {
    named = record {
      names = λ i n e. names_by i n (case i n e);
      keys = λ i n e. (has_keys i n (case i n e)).1;
      bits = λ i t e. (type_in_node i t (slice_get nodes i) refl e).1;
    };
    apart = λ i j n m e f h. apart_by i j n m h (mark i n (case i n e)) (mark j m (case j m f));
    tree = record {
      parents = λ i p n e parent. before_by i p n (mark i n (case i n e)) parent;
      modules = λ i p n e parent. module_by i p n (mark i n (case i n e)) parent;
    };
    holders = λ i p n e parent. holder_by i p n (mark i n (case i n e)) parent;
    keys = λ i n e. (has_keys i n (case i n e)).0;
    types = λ i t e. (let y = type_in_node i t (slice_get nodes i) refl e in (y.0, y.1));
    bounds = λ i t e. (type_in_node i t (slice_get nodes i) refl e).2;
  }

-- ---- the law

of_outcome : (modules : List Tree) (facts : Facts) (t : SchemaTree) → AreFacts (rows_of modules) facts → (f : Option Fault) → first_fault (rows_of modules) facts ≡ f → Ok t ≡ outcome (rows_of modules) facts f → IsSound t.nodes
of_outcome modules facts t are (Some f) none e = absurd (cc)
of_outcome modules facts t are None none e =
    let rows = rows_of modules in
    let same : t ≡ tree_of rows facts = cc in
    let all = faultless modules facts none in
    let it : IsSound (tree_of rows facts).nodes = sound rows facts all (order modules facts are all) are.nodes (node_known modules facts are all) in
    subst (λ (s : SchemaTree). IsSound s.nodes) (sym same) it

-- the nodes of the tree that modules give are sound
pub modules_sound : (modules : List Tree) (t : SchemaTree) → Builds modules (Ok t) → IsSound t.nodes
unfolding built
modules_sound modules t b = of_outcome modules b.facts t b.facts_are (first_fault (rows_of modules) b.facts) refl b.given_is

-- a tree that is answered is sound
pub answer_sound : (modules : List Tree) (rows : List Row) (answer : Result SchemaTree SchemaFault) → rows ≡ rows_of modules → Answered rows answer → IfOk answer (λ t. IsSound t.nodes)
answer_sound modules rows (Ok t) is a = modules_sound modules t (subst (λ (r : List Row). AreBuilt r (Ok t)) is a)
answer_sound modules rows (Err fault) is a = tt

pub answer_named : (modules : List Tree) (rows : List Row) (answer : Result SchemaTree SchemaFault) → rows ≡ rows_of modules → Answered rows answer → IfOk answer (λ t. IsWellNamed t.nodes)
answer_named modules rows (Ok t) is a = (modules_sound modules t (subst (λ (r : List Row). AreBuilt r (Ok t)) is a)).named
answer_named modules rows (Err fault) is a = tt
