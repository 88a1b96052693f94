-- Where the nodes of the marker module may stand.
use Rattle.std.proofs.Common.{◌≡◌, ℕ, ◌+◌, List, [], ◌∷◌, ◌++◌, length, Some, slice_get, refl, ap, arith, length-append}
use Rattle.nm_schema_tree.specs.declared.node.Node.{Node}
use Rattle.nm_schema_tree.specs.Nodes.{may_follow, module_in}
use Rattle.nm_schema.specs.Marker.{changes_node, applied_node, change_node}

-- the node that was put last
last : (nodes : List Node) (n : Node) → slice_get (nodes ++ n ∷ []) (length nodes) ≡ Some n
last [] n = refl
last (m ∷ nodes) n = last nodes n

pub changes-follows : (nodes : List Node) (n : Node) → n ≡ changes_node → may_follow nodes n.parent n.«module»
unfolding changes_node
changes-follows nodes n is = rw is tt

pub applied-follows : (nodes after : List Node) (changes n : Node) (k : ℕ) → changes ≡ changes_node → after ≡ nodes ++ changes ∷ [] → k ≡ length nodes → n ≡ applied_node k → may_follow after n.parent n.«module»
unfolding changes_node applied_node
applied-follows nodes after changes n k at-changes at-after at-k is =
    rw (is, at-k, at-after, at-changes) (ap module_in (last nodes changes_node))

pub change-follows : (nodes after further : List Node) (changes applied n : Node) (k : ℕ) → after ≡ nodes ++ changes ∷ [] → further ≡ after ++ applied ∷ [] → k ≡ length nodes → applied ≡ applied_node k → n ≡ change_node k → may_follow further n.parent n.«module»
unfolding applied_node change_node
change-follows nodes after further changes applied n k at-after at-further at-k at-applied is =
    let long : length after ≡ k + 1 = omega (arith, ap (λ (l : List Node). length l) at-after, length-append nodes (changes ∷ [])) in
    rw (is, ← long, at-further, at-applied) (ap module_in (last after (applied_node k)))
