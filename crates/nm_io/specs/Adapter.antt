-- Readers and writers of std as sources and sinks.
use Rattle.std.specs.Prelude.{ℕ}

-- a reader or a writer of std, and how many of its calls failed (this project's own)
pub record Adapter (T : Type 0) : Type 0 where
  pub inner : T
  pub faults : ℕ

-- no call was made (this project's own)
abbrev pub fresh : {T : Type 0} → T → Adapter T
fresh inner = record { inner = inner; faults = 0 }
