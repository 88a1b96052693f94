-- Places with the nodes that they lead to.
use Rattle.std.specs.Prelude.{◌≡◌, List, [], ◌∷◌, map, ⊤}
use Rattle.nm_types.specs.Path.{PathStep}
use Rattle.nm_schema_tree.specs.Nodes.{SchemaTree}
use Rattle.nm_path.specs.Spelling.{node_of}
use Rattle.nm_validate.specs.declared.places.NodePlace.{NodePlace}

-- the paths of places, in their order
abbrev pub paths_of : List NodePlace → List (List PathStep)
paths_of places = map (λ place. place.path.now) places

-- these places have the nodes that their paths lead to
abbrev pub AreLed : SchemaTree → List NodePlace → Type 0
AreLed t [] = ⊤
AreLed t (place ∷ places) = (place.node ≡ node_of t place.path.now) × AreLed t places
