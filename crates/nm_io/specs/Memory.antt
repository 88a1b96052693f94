-- Sources and sinks in memory, and which of their calls fail.
use Rattle.std.specs.Prelude.{◌≤◌, ◌<◌, ◌⊎◌, ℕ, List, Contains, length}
use Rattle.nm_base.specs.Count.{raised}

-- how many calls were made, the numbers of those that are to fail, from 1, and how many failed (this project's own)
pub record Calls : Type 0 where
  pub made : ℕ
  pub failing : List ℕ
  pub faults : ℕ

-- no call was made (this project's own)
abbrev pub first_calls : List ℕ → Calls
first_calls failing = record { made = 0; failing = failing; faults = 0 }

-- one call more (this project's own)
abbrev pub called : Calls → Calls
called calls = record calls { made = raised calls.made }

-- one fault more (this project's own)
abbrev pub faulted : Calls → Calls
faulted calls = record calls { faults = raised calls.faults }

-- the next call is to fail (this project's own)
abbrev pub Fails : Calls → Type 0
Fails calls = Contains calls.failing (raised calls.made)

-- a source in memory: the bytes that are left, its calls, and how many bytes one of them gives at most (this project's own)
pub record Supply : Type 0 where
  pub left : List ℕ
  pub calls : Calls
  pub most : ℕ

-- a sink in memory: the bytes that it has taken, how many it has room for, its calls, and how many bytes one of them takes
-- at most (this project's own)
pub record Store : Type 0 where
  pub taken : List ℕ
  pub room : ℕ
  pub calls : Calls
  pub most : ℕ

-- the next write, of so many bytes, fails: it is to fail, or there are some and none fits (this project's own)
abbrev pub Refuses : Store → ℕ → Type 0
Refuses store bytes = Fails store.calls ⊎ ((0 < bytes) × (store.room ≤ length store.taken))
