-- Two leafs at the top, of two cases of a choice, to see what is told of them (RFC 7950 section 7.9).
use Rattle.std.specs.Prelude.{ℕ, List, [], ◌∷◌, codes, false, Some, None}
use Rattle.nm_types.specs.LeafType.{boolean}
use Rattle.nm_schema_tree.specs.declared.node.Node.{Node}
use Rattle.nm_schema_tree.specs.declared.node.NodeKind.TheVariants.{Leaf}

-- a leaf at the top, in a case
abbrev pub leaf_in : ℕ → List ℕ → Node
leaf_in case name =
    record { parent = None; case_in = Some case; «module» = codes "ec"; name = name; kind = Leaf (record { kind = boolean; limits = None }) None false None }

-- choice how { case one { leaf ip { type boolean; } } case other { leaf vpn { type boolean; } } }
abbrev pub two_leafs : List Node
two_leafs = leaf_in 0 (codes "ip") ∷ leaf_in 1 (codes "vpn") ∷ []
