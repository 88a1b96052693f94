-- Nodes that are put one after another.
use Rattle.std.proofs.Common.{◌≡◌, ◌⊎◌, inl, inr, ◌∙◌, ℕ, ◌+◌, ◌<◌, List, [], ◌∷◌, ◌++◌, length, Option, Some, None, IfSome, slice_get, get_or, refl, ap, sym, arith, length-append}
use Rattle.std.specs.List.{filter_map, range_with_len}
use Rattle.std.proofs.lemmas.Bool.Decides.{nat_tests}
use Rattle.std.proofs.lemmas.List.FromFn.{map-range_with_len_more}
use Rattle.std.proofs.lemmas.List.{map-id}
use Rattle.std.proofs.lemmas.List.Elements.{filter_map-append}
use Rattle.nm_schema_statements.specs.declared.row.Row.{Row}
use Rattle.nm_schema_tree.specs.declared.node.Node.{Node}
use Rattle.nm_schema_tree.specs.declared.node.NodeKind.{NodeKind}
use Rattle.nm_schema_tree.specs.Nodes.{may_follow, module_in}
use Rattle.nm_schema_nodes.specs.declared.instance.Instance.{Instance}
use Rattle.nm_schema_uses.specs.Arguments.{argument_at}
use Rattle.std.proofs.lemmas.Option.{slice_get-get_or}
use Rattle.nm_schema_nodes.specs.Expansion.{IsExpansion, owner_of, owner_in}
use Rattle.nm_schema.specs.Kind.{kind_of}
use Rattle.nm_schema_nodes.proofs.Places.{slice_get-left}
use Rattle.nm_schema_faults.specs.Facts.{Facts, definitions}
use Rattle.nm_schema.specs.Choices.{module_name, case_of}
use Rattle.nm_schema.specs.Node.{AreNodes, node_of, node_in, node_by, node_with, known_nodes}

last : (nodes : List Node) (n : Node) → slice_get (nodes ++ n ∷ []) (length nodes) ≡ Some n
last [] n = refl
last (m ∷ nodes) n = last nodes n

each-more : (rows : List Row) (facts : Facts) (n : ℕ) (nodes : List Node) (node : Node) → AreNodes rows facts n nodes → node_of rows facts n ≡ Some node
    → (x : ℕ) → x < n + 1 → (x < n) ⊎ (x ≡ n) → slice_get (nodes ++ node ∷ []) x ≡ node_of rows facts x
each-more rows facts n nodes node are is x lt (inl before) = slice_get-left nodes (node ∷ []) x (omega (arith, are.size)) ∙ are.each x before
each-more rows facts n nodes node are is x lt (inr at) =
    ap (slice_get (nodes ++ node ∷ [])) (at ∙ sym are.size) ∙ last nodes node ∙ sym is ∙ ap (node_of rows facts) (sym at)

below_or_at : (x n : ℕ) → x < n + 1 → (x < n) ⊎ (x ≡ n)
below_or_at x n lt = grind (arith, nat_tests)

range-more : (n : ℕ) → range_with_len 0 (n + 1) ≡ range_with_len 0 n ++ n ∷ []
range-more n = sym (map-id (range_with_len 0 (n + 1))) ∙ map-range_with_len_more (λ (x : ℕ). x) 0 n n (omega arith) ∙ ap (λ (xs : List ℕ). xs ++ n ∷ []) (map-id (range_with_len 0 n))

one-there : (rows : List Row) (facts : Facts) (n : ℕ) (node : Node) → node_of rows facts n ≡ Some node → filter_map (node_of rows facts) (n ∷ []) ≡ node ∷ []
one-there rows facts n node is = rw is

nodes-more : (rows : List Row) (facts : Facts) (n : ℕ) (node : Node) → node_of rows facts n ≡ Some node
    → filter_map (node_of rows facts) (range_with_len 0 (n + 1)) ≡ filter_map (node_of rows facts) (range_with_len 0 n) ++ node ∷ []
nodes-more rows facts n node is =
    ap (filter_map (node_of rows facts)) (range-more n)
    ∙ filter_map-append (node_of rows facts) (range_with_len 0 n) (n ∷ [])
    ∙ ap (λ (xs : List Node). filter_map (node_of rows facts) (range_with_len 0 n) ++ xs) (one-there rows facts n node is)

-- one node more
pub are-more : (rows : List Row) (facts : Facts) (n : ℕ) (nodes after : List Node) (node : Node) → AreNodes rows facts n nodes → node_of rows facts n ≡ Some node → after ≡ nodes ++ node ∷ []
    → AreNodes rows facts (n + 1) after
are-more rows facts n nodes after node are is more = rw more (record {
  size = omega (arith, are.size, length-append nodes (node ∷ []));
  each = λ x lt. each-more rows facts n nodes node are is x lt (below_or_at x n lt);
  all = ap (λ (xs : List Node). xs ++ node ∷ []) are.all ∙ sym (nodes-more rows facts n node is);
})

-- ---- what a node stands in

with-place : (rows : List Row) (facts : Facts) (x : ℕ) (place : Instance) (k : Option NodeKind) (node : Node) → node_with rows facts x place k ≡ Some node
    → (node.parent ≡ place.parent) × (node.«module» ≡ module_name rows place.owner)
with-place rows facts x place None node e = absurd (cc)
with-place rows facts x place (Some k) node e =
    let made : Node = record { parent = place.parent; case_in = case_of rows facts x place; «module» = module_name rows place.owner; name = argument_at rows place.row; kind = k } in
    let same : made ≡ node = cc in
    (ap (λ (n : Node). n.parent) (sym same), ap (λ (n : Node). n.«module») (sym same))

by-place : (rows : List Row) (facts : Facts) (x : ℕ) (place : Instance) (r : Option Row) (node : Node) → node_by rows facts x place r ≡ Some node
    → (node.parent ≡ place.parent) × (node.«module» ≡ module_name rows place.owner)
by-place rows facts x place None node e = absurd (cc)
by-place rows facts x place (Some r) node e = with-place rows facts x place (kind_of rows facts x place r.word) node e

-- a node that is known has the parent and the module of its place
at-place : (rows : List Row) (facts : Facts) (x : ℕ) (place : Instance) (node : Node) → slice_get facts.nodes x ≡ Some place → node_of rows facts x ≡ Some node
    → (node.parent ≡ place.parent) × (node.«module» ≡ module_name rows place.owner)
unfolding node_of
at-place rows facts x place node is known = by-place rows facts x place (slice_get rows place.row) node (sym (ap (node_in rows facts x) is) ∙ known)

-- the module of an earlier node, by its place
around : (rows : List Row) (facts : Facts) (p : ℕ) (around : Node) (owner : ℕ) (o : Option Instance) → slice_get facts.nodes p ≡ o → owner_in o ≡ Some owner → node_of rows facts p ≡ Some around
    → around.«module» ≡ module_name rows owner
around rows facts p node owner None is e known = absurd (cc)
around rows facts p node owner (Some place) is e known =
    let same : place.owner ≡ owner = cc in
    (at-place rows facts p place node is known).1 ∙ ap (module_name rows) same

stands : (rows : List Row) (facts : Facts) (n : ℕ) (nodes : List Node) (place : Instance) (node : Node) (owner : List ℕ) → AreNodes rows facts n nodes → owner ≡ module_name rows place.owner
    → (parent : Option ℕ) → IfSome parent (λ p. (p < n) × (owner_of facts.nodes p ≡ Some place.owner)) → may_follow nodes parent owner
unfolding owner_of
stands rows facts n nodes place node owner are is None before = tt
stands rows facts n nodes place node owner are is (Some p) (lt, of) =
    let here : slice_get nodes p ≡ Some (get_or nodes p node) = slice_get-get_or nodes p node (omega (arith, are.size)) in
    let known : node_of rows facts p ≡ Some (get_or nodes p node) = sym (are.each p lt) ∙ here in
    let same : (get_or nodes p node).«module» ≡ owner = around rows facts p (get_or nodes p node) place.owner (slice_get facts.nodes p) refl of known ∙ sym is in
    ap module_in here ∙ ap (λ (name : List ℕ). Some name) same

follows-in : (rows : List Row) (facts : Facts) (n : ℕ) (nodes : List Node) (node : Node) (o : Option Instance) → slice_get facts.nodes n ≡ o → IsExpansion rows (definitions rows) facts.nodes → AreNodes rows facts n nodes → node_of rows facts n ≡ Some node
    → may_follow nodes node.parent node.«module»
unfolding node_of
follows-in rows facts n nodes node None at tree are is = absurd (let none : node_of rows facts n ≡ None = ap (node_in rows facts n) at in cc)
follows-in rows facts n nodes node (Some place) at tree are is =
    let (parent, owner) = at-place rows facts n place node at is in
    let before : IfSome place.parent (λ p. (p < n) × (owner_of facts.nodes p ≡ Some place.owner)) = tree.parents n place at in
    rw parent (stands rows facts n nodes place node node.«module» are owner place.parent before)

-- a node that is known may stand after those before it
pub follows : (rows : List Row) (facts : Facts) (n : ℕ) (nodes : List Node) (node : Node) → IsExpansion rows (definitions rows) facts.nodes → AreNodes rows facts n nodes → node_of rows facts n ≡ Some node
    → may_follow nodes node.parent node.«module»
follows rows facts n nodes node tree are is = follows-in rows facts n nodes node (slice_get facts.nodes n) refl tree are is

-- ---- none yet, and all

pub none-put : (rows : List Row) (facts : Facts) (nodes : List Node) → nodes ≡ [] → AreNodes rows facts 0 nodes
none-put rows facts nodes is = rw is (record { size = refl; each = λ x lt. absurd (omega (arith, lt)); all = refl })

pub all-known : (rows : List Row) (facts : Facts) (n : ℕ) (nodes : List Node) → AreNodes rows facts n nodes → n ≡ length facts.nodes → nodes ≡ known_nodes rows facts
unfolding known_nodes
all-known rows facts n nodes are is = are.all ∙ ap (λ (k : ℕ). filter_map (node_of rows facts) (range_with_len 0 k)) is
