-- What is wrong with the paths of leafrefs (RFC 7950 section 9.9).
use Rattle.std.specs.Prelude.{◌≡◌, ℕ, ◌<◌, List, Option, Some, None, MatchOption}
use Rattle.nm_schema_statements.specs.declared.row.Row.{Row}
use Rattle.nm_schema_statements.specs.declared.flaw.Flaw.{Flaw}
use Rattle.nm_schema_statements.specs.declared.flaw.Flaw.TheVariants as flaw
use Rattle.nm_schema_statements.specs.Flaw.{text_of}
use Rattle.nm_schema_nodes.specs.Expansion.{Expanded}
use Rattle.nm_schema_leafref.specs.declared.fault.PathFault.{PathFault}
use Rattle.nm_schema_leafref.specs.declared.fault.PathFault.TheVariants as fault
use Rattle.nm_schema_leafref.specs.declared.led.Led.TheVariants as led
use Rattle.nm_schema_leafref.specs.Walk.{path_row, led_to}
use Rattle.nm_schema_leafref.specs.Target.{IsCircular}

-- node x leads to nothing, or to itself
abbrev pub IsFaulty : List (Option ℕ) → Expanded → ℕ → PathFault → Type 0
IsFaulty typedefs t x fault.Missing = led_to typedefs t x ≡ Some led.Missing
IsFaulty typedefs t x fault.Circular = IsCircular typedefs t x

-- no node below n that has the path of row p is faulty
abbrev pub NoneFaulty : List (Option ℕ) → Expanded → ℕ → ℕ → Type 0
NoneFaulty typedefs t p n = (x : ℕ) (f : PathFault) → x < n → path_row typedefs t x ≡ Some p → ¬ (IsFaulty typedefs t x f)

-- a node is faulty and has the path of row p, and no earlier one is and has it
pub record IsFirstFault (typedefs : List (Option ℕ)) (t : Expanded) (p : ℕ) (f : PathFault) : Type 0 where
  pub node : ℕ
  pub path : path_row typedefs t node ≡ Some p
  pub faulty : IsFaulty typedefs t node f
  pub first : NoneFaulty typedefs t p node

-- no node that has the path of row p is faulty
abbrev pub HasNoFault : List (Option ℕ) → Expanded → ℕ → Type 0
HasNoFault typedefs t p = (x : ℕ) (f : PathFault) → path_row typedefs t x ≡ Some p → ¬ (IsFaulty typedefs t x f)

-- what is wrong with the path of row p: that of the first node that is faulty by it (this project's own)
abbrev pub HasFault : List (Option ℕ) → Expanded → ℕ → Option PathFault → Type 0
HasFault typedefs t p found = MatchOption found (HasNoFault typedefs t p) (IsFirstFault typedefs t p)

-- a fault by the text of the path
abbrev pub flaw_of : Row → PathFault → Flaw
flaw_of r fault.Missing = flaw.BadReference (text_of r.argument)
flaw_of r fault.Circular = flaw.Cycle (text_of r.argument)

-- the flaw of a row, where its path has a fault
abbrev pub flaw_from : Row → Option PathFault → Option Flaw
flaw_from r None = None
flaw_from r (Some f) = Some (flaw_of r f)

-- the flaw of the path of a row, where there is a row
abbrev pub flaw_in : Option Row → Option PathFault → Option Flaw
flaw_in None found = None
flaw_in (Some r) found = flaw_from r found
