-- Values in front of others that may be there.
use Rattle.std.proofs.Common.{List, ◌++◌, Option, Some, None}

abbrev pub in_front : {X : Type 0} → List X → Option (List X) → Option (List X)
in_front front None = None
in_front front (Some xs) = Some (front ++ xs)
