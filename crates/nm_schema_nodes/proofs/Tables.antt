-- Tables, as they are filled from the last node to the first.
use Rattle.std.proofs.Common.{◌≡◌, ℕ, ◌+◌, ◌<◌, List, [], ◌∷◌, length, get_or, drop, Bool, cond, Option, Some, None, refl, sym, ap, ◌∙◌, drop-cons, add-one, arith, ◌&&◌, ◌==◌}
use Rattle.std.proofs.lemmas.Map.Text.{is_eq-slice_cmp}
use Rattle.std.proofs.lemmas.Bool.Decides.{nat_tests}
use Rattle.std.specs.Cmp.{tied_then}
use Rattle.std.specs.List.{position_from}
use Rattle.std.specs.Option.{option_cmp}
use Rattle.std.specs.Ordering.{is_eq, nat_cmp, ordering_then}
use Rattle.std.specs.Cmp.Lexicographic.{slice_cmp}
use Rattle.std.specs.Str.{bytes_eq}
use Rattle.std.specs.BTreeMap.{is_at}
use Rattle.nm_schema_statements.specs.declared.row.Row.{Row}
use Rattle.nm_schema_statements.specs.Rows.{same_parent}
use Rattle.nm_schema_uses.specs.Arguments.{argument_at}
use Rattle.nm_schema_nodes.specs.declared.instance.Instance.{Instance}
use Rattle.nm_schema_nodes.specs.declared.table.Key.{Key}
use Rattle.nm_schema_nodes.specs.Expansion.{is_below, is_top}
use Rattle.nm_schema_nodes.specs.Named.{has_name, is_child_named, is_top_named, child_named, top_named}
use Rattle.nm_schema_nodes.specs.Index.{module_above, has_key, key_cmp}

tied_numbers : (x y : ℕ) → is_eq (nat_cmp x y) ≡ (x == y)
tied_numbers x y = grind (arith, nat_tests)

tied_places : (x y : Option ℕ) → is_eq (option_cmp nat_cmp x y) ≡ same_parent x y
tied_places None None = refl
tied_places None (Some y) = refl
tied_places (Some x) None = refl
tied_places (Some x) (Some y) = tied_numbers x y

-- keys tie where all their parts are equal
tied_keys : (k q : Key) → is_at (key_cmp k) q ≡ (same_parent k.parent q.parent && (same_parent k.owner q.owner && bytes_eq k.name.now q.name.now))
tied_keys k q =
    sym (tied_then (option_cmp nat_cmp k.parent q.parent) (ordering_then (option_cmp nat_cmp k.owner q.owner) (slice_cmp nat_cmp k.name.now q.name.now)))
    ∙ ap (λ b. b && is_eq (ordering_then (option_cmp nat_cmp k.owner q.owner) (slice_cmp nat_cmp k.name.now q.name.now))) (tied_places k.parent q.parent)
    ∙ ap (λ b. same_parent k.parent q.parent && b) (sym (tied_then (option_cmp nat_cmp k.owner q.owner) (slice_cmp nat_cmp k.name.now q.name.now)))
    ∙ ap (λ b. same_parent k.parent q.parent && (b && is_eq (slice_cmp nat_cmp k.name.now q.name.now))) (tied_places k.owner q.owner)
    ∙ ap (λ b. same_parent k.parent q.parent && (same_parent k.owner q.owner && b)) (is_eq-slice_cmp k.name.now q.name.now)

-- the key of a node ties with those that the node has
key_ties : (rows : List Row) (node : Instance) (k q : Key) → k.parent ≡ node.parent → k.owner ≡ module_above node.parent node.owner → k.name.now ≡ argument_at rows node.row
    → is_at (key_cmp k) q ≡ has_key rows q.parent q.owner q.name.now node
unfolding has_name
key_ties rows node k q parent owner name = tied_keys k q ∙ rw (parent, owner, name) refl

-- what a key finds after a node is put in
pub put_at : (rows : List Row) (node : Instance) (at : ℕ) (k q : Key) (before after : Option ℕ) → k.parent ≡ node.parent → k.owner ≡ module_above node.parent node.owner → k.name.now ≡ argument_at rows node.row
    → after ≡ cond (is_at (key_cmp k) q) (Some at) before → after ≡ cond (has_key rows q.parent q.owner q.name.now node) (Some at) before
put_at rows node at k q before after parent owner name put = put ∙ ap (λ b. cond b (Some at) before) (key_ties rows node k q parent owner name)

-- one node more in front
position_from-drop : (test : Instance → Bool) (nodes : List Instance) (i : ℕ) (node : Instance) → i < length nodes → node ≡ get_or nodes i node
    → position_from test i (drop i nodes) ≡ cond (test node) (Some i) (position_from test (i + 1) (drop (i + 1) nodes))
position_from-drop test nodes i node lt is =
    ap (λ (l : List Instance). position_from test i l) (drop-cons nodes i node lt)
    ∙ rw (sym is, add-one) refl

-- what it finds once the node before is put in
pub filled : (rows : List Row) (nodes : List Instance) (at next : ℕ) (node : Instance) (q : Key) (before after : Option ℕ)
    → at < length nodes → node ≡ get_or nodes at node → next ≡ at + 1
    → before ≡ position_from (has_key rows q.parent q.owner q.name.now) next (drop next nodes)
    → after ≡ cond (has_key rows q.parent q.owner q.name.now node) (Some at) before
    → after ≡ position_from (has_key rows q.parent q.owner q.name.now) at (drop at nodes)
filled rows nodes at next node q before after lt here on is put =
    put
    ∙ ap (λ o. cond (has_key rows q.parent q.owner q.name.now node) (Some at) o) is
    ∙ ap (λ n. cond (has_key rows q.parent q.owner q.name.now node) (Some at) (position_from (has_key rows q.parent q.owner q.name.now) n (drop n nodes))) on
    ∙ sym (position_from-drop (has_key rows q.parent q.owner q.name.now) nodes at node lt here)

-- ---- what is found by a node's key

position_from-same : (f g : Instance → Bool) → ((node : Instance) → f node ≡ g node) → (i : ℕ) (nodes : List Instance) → position_from f i nodes ≡ position_from g i nodes
position_from-same f g same i [] = refl
position_from-same f g same i (node ∷ nodes) = rw (same node, position_from-same f g same (i + 1) nodes) refl

child-cases : (parent : Option ℕ) (i owner : ℕ) (named : Bool) → (same_parent parent (Some i) && (same_parent (module_above parent owner) None && named)) ≡ (same_parent parent (Some i) && named)
child-cases None i owner named = refl
child-cases (Some p) i owner named = refl

top-cases : (parent : Option ℕ) (m owner : ℕ) (named : Bool) → (same_parent parent None && (same_parent (module_above parent owner) (Some m) && named)) ≡ ((same_parent parent None && owner == m) && named)
top-cases None m owner named = refl
top-cases (Some p) m owner named = refl

pub child-found : (rows : List Row) (nodes : List Instance) (i : ℕ) (name : List ℕ) → position_from (has_key rows (Some i) None name) 0 nodes ≡ child_named rows nodes i name
unfolding child_named is_below
child-found rows nodes i name = position_from-same (has_key rows (Some i) None name) (is_child_named rows i name) (λ node. child-cases node.parent i node.owner (has_name rows name node)) 0 nodes

pub top-found : (rows : List Row) (nodes : List Instance) (m : ℕ) (name : List ℕ) → position_from (has_key rows None (Some m) name) 0 nodes ≡ top_named rows nodes m name
unfolding top_named is_top
top-found rows nodes m name = position_from-same (has_key rows None (Some m) name) (is_top_named rows m name) (λ node. top-cases node.parent m node.owner (has_name rows name node)) 0 nodes
