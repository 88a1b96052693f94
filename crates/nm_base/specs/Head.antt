-- The first eight bytes of a text as one number, so that two texts are mostly told apart by it (this project's own).
use Rattle.std.specs.Prelude.{◌≡◌, ◌+◌, ◌*◌, ◌<◌, ℕ, zero, suc, List, [], ◌∷◌}

-- a number goes on by so many bytes of a text to a head: each byte below what stood before, a byte past the text's end as 0
abbrev pub IsHead : ℕ → ℕ → List ℕ → ℕ → Type 0
IsHead zero n bytes head = head ≡ n
IsHead (suc k) n [] head = IsHead k (n * 256) [] head
IsHead (suc k) n (b ∷ bytes) head = (b < 256) × IsHead k (n * 256 + b) bytes head
