-- What stays on a link whatever happens (this project's own).
use Rattle.std.specs.Prelude.{◌≡◌, ℕ, ◌≤◌, List, ◌++◌, length, false, Option, Some, None, IfSome}
use Rattle.nm_wire.specs.declared.link.Exchange.{Exchange}
use Rattle.nm_wire.specs.Link.{LinkState}
use Rattle.nm_wire.specs.Words.{exchanges_of}
use Rattle.nm_wire.specs.Wire.{WireState, link_at}

-- a link is as it was or goes on
pub record GoesOn (before after : LinkState) : Type 0 where
  -- what was told is never lost
  pub more : List Exchange
  pub told : exchanges_of after ≡ exchanges_of before ++ more
  -- what was handled stays so
  pub handled : length before.past ≤ length after.past
  -- and a side that has ended doesn't come back
  pub closed : before.is_open ≡ false → after.is_open ≡ false

-- a link is still there, and is as it was or went on
abbrev pub GoesOnAs : LinkState → Option LinkState → Type 0
GoesOnAs before None = ⊥
GoesOnAs before (Some after) = GoesOn before after

-- each link of a wire is one of another, and has gone on
abbrev pub KeepsLinks : WireState → WireState → Type 0
KeepsLinks before after = (number : ℕ) → IfSome (link_at before number) (λ link. GoesOnAs link (link_at after number))
