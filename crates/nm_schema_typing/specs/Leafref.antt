-- The paths of leafrefs, as texts (RFC 7950 sections 9.9.2 and 14).
use Rattle.std.specs.Prelude.{ℕ, zero, suc, eqb, Bool, true, false, List, [], ◌∷◌, ◌++◌, codes, drop, Option, Some, None, if◌then◌else◌, ◌==◌}
use Rattle.std.specs.List.{slice_split, list_any}
use Rattle.std.specs.Str.{bytes_eq}
use Rattle.nm_schema_statements.specs.Text.{is_reference, prefix_of, name_of}
use Rattle.nm_schema_typing.specs.declared.leafref.NodeName.{NodeName}
use Rattle.nm_schema_typing.specs.declared.leafref.Start.{Start}
use Rattle.nm_schema_typing.specs.declared.leafref.Start.TheVariants.{Root, Up}

-- a path: where it begins, and the nodes that it goes through from there (RFC 7950 section 9.9.2)
pub record LeafrefPath : Type 0 where
  pub start : Start
  pub nodes : List NodeName

-- the pieces of a path, which `/` parts
abbrev pub pieces : List ℕ → List (List ℕ)
pieces text = slice_split (λ b. eqb b 47) text

-- the node that a piece names: an identifier, with a prefix or without (RFC 7950 section 14: node-identifier)
unfoldable pub node_named : List ℕ → Option NodeName
node_named piece = if is_reference piece then Some (record { prefix = prefix_of piece; name = name_of piece }) else None

-- a node before others, if all are there
abbrev pub before : Option NodeName → Option (List NodeName) → Option (List NodeName)
before None nodes = None
before (Some node) None = None
before (Some node) (Some nodes) = Some (node ∷ nodes)

-- the nodes that pieces name, if each names one
abbrev pub nodes_named : List (List ℕ) → Option (List NodeName)
nodes_named [] = Some []
nodes_named (piece ∷ pieces) = before (node_named piece) (nodes_named pieces)

-- nodes before others, if these are there
abbrev pub behind : List NodeName → Option (List NodeName) → Option (List NodeName)
behind front None = None
behind front (Some nodes) = Some (front ++ nodes)

-- a piece that goes one node up (RFC 7950 section 14: relative-path)
abbrev pub is_up : List ℕ → Bool
is_up piece = bytes_eq piece (codes "..")

-- how many pieces at the beginning go one node up
abbrev pub ups : List (List ℕ) → ℕ
ups [] = 0
ups (piece ∷ pieces) = if is_up piece then suc (ups pieces) else 0

-- a path from its beginning over nodes, where the nodes could be read
abbrev pub path_from : Start → Option (List NodeName) → Option LeafrefPath
path_from start None = None
path_from start (Some nodes) = Some (record { start = start; nodes = nodes })

-- a path with at least one node
abbrev pub path_along : Start → List (List ℕ) → Option LeafrefPath
path_along start [] = None
path_along start (piece ∷ pieces) = path_from start (nodes_named (piece ∷ pieces))

-- a path that goes up so many nodes first: at least one (RFC 7950 section 14: relative-path)
abbrev pub up_along : ℕ → List (List ℕ) → Option LeafrefPath
up_along zero pieces = None
up_along (suc n) pieces = path_along (Up (suc n)) (drop (suc n) pieces)

-- a path that is read from its pieces: those that go up, and then names
unfoldable pub relative_path : List (List ℕ) → Option LeafrefPath
relative_path pieces = up_along (ups pieces) pieces

-- an absolute path begins with `/`, so that nothing stands before it (RFC 7950 section 14: absolute-path)
abbrev pub path_of_pieces : List (List ℕ) → Option LeafrefPath
path_of_pieces [] = None
path_of_pieces ([] ∷ rest) = path_along Root rest
path_of_pieces ((b ∷ bytes) ∷ rest) = relative_path ((b ∷ bytes) ∷ rest)

-- the path that a text is: absolute (`/p:a/p:b`), or `../` once or more and then nodes; blanks and predicates have no place
-- in it (RFC 7950 section 14: path-arg)
unfoldable pub path_read : List ℕ → Option LeafrefPath
path_read text = path_of_pieces (pieces text)

-- whether a text has the bracket that begins a predicate (RFC 7950 section 14: path-predicate)
abbrev pub has_predicate : List ℕ → Bool
has_predicate text = list_any (λ b. b == 91) text
