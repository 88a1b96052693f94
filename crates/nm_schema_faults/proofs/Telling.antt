-- Flaws that are told where something holds.
use Rattle.std.proofs.Common.{◌≡◌, ◌↔◌, ℕ, List, Bool, true, false, ◌&&◌, Option, Some, None, Result, Ok, Err, IfOk, refl, ap}
use Rattle.nm_base.specs.declared.fault.NoMemory.{NoMemory}
use Rattle.nm_schema_statements.specs.declared.row.Row.{Row}
use Rattle.nm_schema_statements.specs.declared.word.Word.{Word}
use Rattle.nm_schema_statements.specs.declared.flaw.Flaw.{Flaw}
use Rattle.nm_schema_statements.specs.declared.flaw.Flaw.TheVariants as flaw
use Rattle.nm_schema_statements.specs.Word.{word_text}
use Rattle.nm_schema_uses.specs.Config.{Marks, IsInState, StandsInState, HasFlawIf, IsConfiguration, LacksKey, is_keyless}
use Rattle.nm_schema_faults.specs.Facts.{is_marked}
use Rattle.nm_schema_faults.specs.Flaw.{bad_if, is_marked_in}

bad_by : (b : Bool) (P : Type 0) (w : Word) (found : Option Flaw) → ((b ≡ true) ↔ P) → HasFlawIf P (flaw.BadArgument (word_text w)) found → found ≡ bad_if b w
bad_by true P w None tells has = absurd (has (tells.0 refl))
bad_by false P w None tells has = refl
bad_by true P w (Some f) tells has = ap Some has.0
bad_by false P w (Some f) tells has = let no : false ≡ true = tells.1 has.1 in cc

-- a flaw is told exactly where its test holds
pub bad_if-told : (b : Bool) (P : Type 0) (w : Word) (result : Result (Option Flaw) NoMemory) → ((b ≡ true) ↔ P) → IfOk result (HasFlawIf P (flaw.BadArgument (word_text w))) → IfOk result (λ f. f ≡ bad_if b w)
bad_if-told b P w (Ok found) tells has = bad_by b P w found tells has
bad_if-told b P w (Err error) tells has = has

-- the marks tell whether a place stands in state
pub marked_in-state : (rows : List Row) (groupings : List (Option ℕ)) (marks : List Bool) (place : Option ℕ) → Marks (IsInState rows groupings) marks → (is_marked_in marks place ≡ true) ↔ StandsInState rows groupings place
unfolding is_marked
marked_in-state rows groupings marks None told = (λ e. cc, λ h. absurd h)
marked_in-state rows groupings marks (Some i) told = told i

both : (a b : Bool) (P : Type 0) → ((b ≡ true) ↔ P) → ((a && b) ≡ true) ↔ ((a ≡ true) × P)
both true b P tells = (λ e. (refl, tells.0 e), λ h. tells.1 h.1)
both false b P tells = (λ e. cc, λ h. let no : false ≡ true = h.0 in cc)

-- the marks tell whether a list of configuration has no key
pub keyless-lacks : (rows : List Row) (groupings : List (Option ℕ)) (marks : List Bool) (at : ℕ) → Marks (IsConfiguration rows groupings) marks → ((is_keyless rows at && is_marked marks at) ≡ true) ↔ LacksKey rows groupings at
unfolding is_marked
keyless-lacks rows groupings marks at told = both (is_keyless rows at) (is_marked marks at) (IsConfiguration rows groupings at) (told at)
