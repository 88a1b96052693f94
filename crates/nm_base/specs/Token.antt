-- Persist tokens of the manager (this project's own): `netm:` and the number of the change set.
use Rattle.std.specs.Prelude.{ℕ, List, ◌++◌, Bool, codes, nat_eq, decimal}
use Rattle.std.specs.List.{starts_with}

-- a token that begins so is the manager's
abbrev pub is_reserved : List ℕ → Bool
is_reserved token = starts_with nat_eq token (codes "netm:")

-- the token of a change set
abbrev pub token_of : ℕ → List ℕ
token_of change = codes "netm:" ++ decimal change
