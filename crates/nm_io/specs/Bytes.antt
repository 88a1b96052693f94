-- What a run of reads and of writes does to the bytes of a source and of a sink, told or not.
use Rattle.std.specs.Prelude.{◌≡◌, ◌<◌, ◌⊎◌, ℕ, List, Option, IfSome, length, take}
use Rattle.std.specs.Io.KnownBytes.{prepend_known, append_known, IsAtEnd}

-- some front of the bytes that were left was read, and the others are left (this project's own)
pub record ReadsFront (before after : Option (List ℕ)) : Type 0 where
  pub front : List ℕ
  pub read : before ≡ prepend_known front after

-- what was left was read to its end, or more than so many bytes of it were there (this project's own)
abbrev pub ReadsUpTo : ℕ → Option (List ℕ) → Option (List ℕ) → Type 0
ReadsUpTo limit before after = IsAtEnd after ⊎ IfSome before (λ told. limit < length told)

-- the bytes that were taken are a front of these bytes, and not all of them (this project's own)
pub record Begins (before : Option (List ℕ)) (bytes : List ℕ) (after : Option (List ℕ)) : Type 0 where
  pub count : ℕ
  pub short : count < length bytes
  pub taken : after ≡ append_known before (take count bytes)
