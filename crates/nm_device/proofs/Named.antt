-- The nodes that texts name, one after another.
use Rattle.std.proofs.Common.{List, ◌++◌, Option, Some, None}

-- nodes before others, where those are there
abbrev pub onto : {Node : Type 0} → List Node → Option (List Node) → Option (List Node)
onto front None = None
onto front (Some nodes) = Some (front ++ nodes)
