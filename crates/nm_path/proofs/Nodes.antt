-- The nodes that the steps of a path lead to.
use Rattle.std.proofs.Common.{◌≡◌, ℕ, Bool, true, false, List, [], ◌∷◌, Option, Some, None, refl}
use Rattle.std.specs.Prelude.{IsSome}
use Rattle.nm_types.specs.Path.{Choice, whole, keys, entry, PathStep}
use Rattle.nm_schema_tree.specs.declared.node.Node.{Node}
use Rattle.nm_schema_tree.specs.declared.node.NodeKind.{NodeKind}
use Rattle.nm_schema_tree.specs.declared.node.NodeKind.TheVariants as kind
use Rattle.nm_schema_tree.specs.Nodes.{SchemaTree}
use Rattle.nm_path.specs.declared.place.Place.{Place}
use Rattle.nm_path.specs.declared.place.Place.TheVariants.{Top, Within}
use Rattle.nm_path.specs.Spelling.{node_from, node_of, is_last, IsChoice, AreSteps, HasSteps, IsPath, IsFullPath}

module _ (nodes : List Node) where
  steps-led : (bare : Bool) (at : ℕ) (ss : List PathStep) → AreSteps nodes bare (Within at) ss → IsSome (node_from nodes (Within at) (Some at) ss)
  steps-led bare at [] h = refl
  steps-led bare at (s ∷ ss) h = rw h.1.leads (steps-led bare h.0 ss h.2)

  path-led : (path : List PathStep) → HasSteps path → AreSteps nodes true Top path → IsSome (node_from nodes Top None path)
  path-led [] some h = absurd some
  path-led (s ∷ ss) some h = rw h.1.leads (steps-led true h.0 ss h.2)

  choice-bare : (bare : Bool) (at : ℕ) (k : NodeKind) (c : Choice) → IsChoice nodes false at k c → IsChoice nodes bare at k c
  choice-bare bare at (kind.Container p) whole h = h
  choice-bare bare at (kind.Container p) (keys vs) h = h
  choice-bare bare at (kind.Container p) (entry v) h = h
  choice-bare bare at (kind.Leaf t d m r) whole h = h
  choice-bare bare at (kind.Leaf t d m r) (keys vs) h = h
  choice-bare bare at (kind.Leaf t d m r) (entry v) h = h
  choice-bare bare at (kind.LeafList t r m) whole h = absurd cc
  choice-bare bare at (kind.LeafList t r m) (keys vs) h = h
  choice-bare bare at (kind.LeafList t r m) (entry v) h = h
  choice-bare bare at (kind.List ks u m) whole h = absurd cc
  choice-bare bare at (kind.List ks u m) (keys vs) h = h
  choice-bare bare at (kind.List ks u m) (entry v) h = h

  steps-bare : (place : Place) (ss : List PathStep) → AreSteps nodes false place ss → AreSteps nodes true place ss
  steps-bare place [] h = tt
  steps-bare place (s ∷ ss) h =
      (h.0, record { node = h.1.node; leads = h.1.leads; there = h.1.there; chosen = choice-bare (is_last ss) h.0 h.1.node.kind s.chosen h.1.chosen }, steps-bare (Within h.0) ss h.2)

-- a path of the schema leads to a node
pub led : (tree : SchemaTree) (path : List PathStep) (found : Option ℕ) → found ≡ node_of tree path → IsPath tree path → IsSome found
unfolding node_of
led tree path found e h = rw e (path-led tree.nodes path h.some h.steps)

-- a path without a bare list or leaf-list is a path
pub full-is-path : (tree : SchemaTree) (path : List PathStep) → IsFullPath tree path → IsPath tree path
full-is-path tree path h = record { some = h.some; steps = steps-bare tree.nodes Top path h.steps }
