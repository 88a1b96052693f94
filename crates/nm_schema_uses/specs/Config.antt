-- State and configuration (RFC 7950 section 7.21.1).
use Rattle.std.specs.Prelude.{◌≡◌, ◌↔◌, ◌⊎◌, ℕ, List, Contains, filter, codes, Bool, true, false, not, ◌&&◌, Option, Some, None, MatchOption, slice_get, slice_index_or, if◌then◌else◌}
use Rattle.std.specs.Str.{bytes_eq}
use Rattle.nm_schema_statements.specs.declared.word.Word.TheVariants as word
use Rattle.nm_schema_statements.specs.declared.row.Row.{Row}
use Rattle.nm_schema_statements.specs.declared.flaw.Flaw.{Flaw}
use Rattle.nm_schema_statements.specs.Word.{same_word}
use Rattle.nm_schema_statements.specs.Flaw.{text_of, is_there}
use Rattle.nm_schema_statements.specs.Rows.{first_below, roots}
use Rattle.nm_schema_uses.specs.Holding.{is_node, holding}
use Rattle.nm_schema_uses.specs.Arguments.{argument_at}

-- the text `false`
unfoldable pub is_false : List ℕ → Bool
is_false text = bytes_eq text (codes "false")

-- the text `true`
unfoldable pub is_true : List ℕ → Bool
is_true text = bytes_eq text (codes "true")

-- a `config` statement says false
abbrev pub says_false : List Row → Option ℕ → Bool
says_false rows None = false
says_false rows (Some k) = is_false (argument_at rows k)

-- a row is a node or a choice, and a `config` statement in it says false (RFC 7950 section 7.21.1)
abbrev pub state_in : List Row → ℕ → Option Row → Bool
state_in rows i None = false
state_in rows i (Some r) = is_node r.word && says_false rows (first_below rows i word.Config)

-- row i is a node or a choice that has `config false` directly
unfoldable pub is_state : List Row → ℕ → Bool
is_state rows i = state_in rows i (slice_get rows i)

-- row i isn't state by a `config` statement of its own
unfoldable pub is_kept : List Row → ℕ → Bool
is_kept rows i = not (is_state rows i)

-- what rows lead to, but for state
unfoldable pub kept_of : (ℕ → List ℕ) → List Row → ℕ → List ℕ
kept_of next rows i = filter (is_kept rows) (next i)

-- what a row leads to in configuration: through `uses`, choices and cases, but not to what says `config false`
abbrev pub configuring : List Row → List (Option ℕ) → ℕ → List ℕ
configuring rows groupings = kept_of (holding rows groupings) rows

-- a row leads to another in one step, or in one step and further ones
pub data LeadsBy (next : ℕ → List ℕ) : ℕ → ℕ → Type 0 where
  one : {i j : ℕ} → Contains (next i) j → LeadsBy next i j
  further : {i j : ℕ} (k : ℕ) → Contains (next i) k → LeadsBy next k j → LeadsBy next i j

-- a row is another, or leads to it
abbrev pub ReachesBy : (ℕ → List ℕ) → ℕ → ℕ → Type 0
ReachesBy next i j = (i ≡ j) ⊎ LeadsBy next i j

-- row i is reached from the row of a module
abbrev pub IsRooted : (ℕ → List ℕ) → List Row → ℕ → Type 0
IsRooted next rows i = (root : ℕ) × Contains (roots rows) root × ReachesBy next root i

-- row i is reached from a state node
abbrev pub IsBelowState : (ℕ → List ℕ) → List Row → ℕ → Type 0
IsBelowState next rows i = (state : ℕ) × (is_state rows state ≡ true) × ReachesBy next state i

-- row i is used as configuration: a module leads to it through no state (RFC 7950 section 7.21.1)
abbrev pub IsConfiguration : List Row → List (Option ℕ) → ℕ → Type 0
IsConfiguration rows groupings i = IsRooted (configuring rows groupings) rows i

-- row i is a state node, or a state node leads to it (RFC 7950 section 7.21.1)
abbrev pub IsInState : List Row → List (Option ℕ) → ℕ → Type 0
IsInState rows groupings i = IsBelowState (holding rows groupings) rows i

-- these marks tell what holds
abbrev pub Marks : (ℕ → Type 0) → List Bool → Type 0
Marks P marks = (i : ℕ) → (slice_index_or marks i false ≡ true) ↔ P i

-- where a row that is `config true` stands
abbrev pub claim_in : Option Row → Option ℕ
claim_in None = None
claim_in (Some r) = if same_word r.word word.Config && is_true (text_of r.argument) then r.parent else None

-- the row that row i says is configuration, where row i is a `config true`
unfoldable pub claim_at : List Row → ℕ → Option ℕ
claim_at rows i = claim_in (slice_get rows i)

-- the row is in state; no row is
abbrev pub StandsInState : List Row → List (Option ℕ) → Option ℕ → Type 0
StandsInState rows groupings None = ⊥
StandsInState rows groupings (Some i) = IsInState rows groupings i

-- row i is a `config true` that stands in state (RFC 7950 section 7.21.1)
abbrev pub IsContradicted : List Row → List (Option ℕ) → ℕ → Type 0
IsContradicted rows groupings i = StandsInState rows groupings (claim_at rows i)

-- a row is a list, and no `key` statement stands in it
abbrev pub is_keyless_in : List Row → ℕ → Option Row → Bool
is_keyless_in rows i None = false
is_keyless_in rows i (Some r) = same_word r.word word.List && not (is_there (first_below rows i word.Key))

-- row i is a list without a key
unfoldable pub is_keyless : List Row → ℕ → Bool
is_keyless rows i = is_keyless_in rows i (slice_get rows i)

-- row i is a list of configuration without a key (RFC 7950 section 7.8.2)
abbrev pub LacksKey : List Row → List (Option ℕ) → ℕ → Type 0
LacksKey rows groupings i = (is_keyless rows i ≡ true) × IsConfiguration rows groupings i

-- there is this flaw where something holds, and else none
abbrev pub HasFlawIf : Type 0 → Flaw → Option Flaw → Type 0
HasFlawIf P flaw found = MatchOption found (¬ P) (λ f. (f ≡ flaw) × P)
