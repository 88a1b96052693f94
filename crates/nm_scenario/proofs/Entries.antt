-- Reading flat configurations and edits member by member gives what they say as a whole.
use Rattle.std.proofs.Common.{◌≡◌, ℕ, Bool, true, false, cond, Option, Some, None, Result, Ok, Err, refl, ap, subst, ◌∙◌}
use Rattle.std.specs.Prelude.{◌&&◌, nat_lt, is_some, unwrap_or}
use Rattle.std.specs.Ordering.{nat_cmp}
use Rattle.std.specs.FinMap.{FinMap, insert, empty}
use Rattle.serde_json.specs.Data.{Data, Members, no_members, member}
use Rattle.nm_flat.specs.Flat.{FlatState, flat_violation}
use Rattle.nm_flat.specs.declared.flat.FlatEdit.{FlatEdit}
use Rattle.nm_proto.specs.declared.kind.ScenarioKind.TheVariants.{Content, TooMany}
use Rattle.nm_scenario_form.specs.declared.fault.Cause.{Cause}
use Rattle.nm_scenario_form.specs.declared.fault.ReadError.{ReadError}
use Rattle.nm_scenario_form.specs.Reading.{◌>>=◌, Gives, here, natural_of, plain}
use Rattle.nm_scenario_form.specs.Read.{told}
use Rattle.nm_scenario.specs.Flat.{row_limit, node_limit, key_of, change_of, or_unread, member_count, are_entries, entries_after, entries_in, entries_read, entries_within, edit_of, edit_read, state_of, state_read, unmarked, valid_state}

module _ {V : Type 0} (value : Data → Option V) (some : V) where
  one_more : (found : FinMap nat_cmp V) (rest : Members)
      → ((more : FinMap nat_cmp V) → entries_read value more rest ≡ cond (are_entries value rest) (Ok (entries_after value some more rest)) (here Content))
      → (key : Option ℕ) (v : Option V)
      → (or_unread key >>= λ k. or_unread v >>= λ x. entries_read value (insert found k x) rest)
      ≡ cond ((is_some key && is_some v) && are_entries value rest)
      (Ok (entries_after value some (insert found (unwrap_or key 0) (unwrap_or v some)) rest)) (here Content)
  one_more found rest next None v = refl
  one_more found rest next (Some k) None = refl
  one_more found rest next (Some k) (Some x) = next (insert found k x)

  all_read : (found : FinMap nat_cmp V) (members : Members)
      → entries_read value found members ≡ cond (are_entries value members) (Ok (entries_after value some found members)) (here Content)
  all_read found no_members = refl
  all_read found (member name part rest) = one_more found rest (λ more. all_read more rest) (key_of name) (value part)

  told_so : (many all : Bool) (entries : FinMap nat_cmp V)
      → cond many (here TooMany) (cond all (Ok entries) (here Content))
      ≡ told {A = FinMap nat_cmp V} (cond many (Err (plain TooMany)) (cond all (Ok entries) (Err (plain Content))))
  told_so true all entries = refl
  told_so false true entries = refl
  told_so false false entries = refl

  within_told : (most : ℕ) (members : Members) → entries_within most value members ≡ told (entries_in most value some (Some members))
  within_told most members =
      ap (λ r. cond (nat_lt most (member_count members)) (here TooMany) r) (all_read empty members)
      ∙ told_so (nat_lt most (member_count members)) (are_entries value members) (entries_after value some empty members)

state_told : (r : Result (FinMap nat_cmp ℕ) Cause)
    → (told r >>= λ cells. told (valid_state (unmarked cells) (flat_violation (unmarked cells)))) ≡ told (state_of r)
state_told (Ok cells) = refl
state_told (Err cause) = refl

pub state_gives : (members : Members) (result : Result FlatState ReadError)
    → Gives result (state_read members)
    → Gives result (told (state_of (entries_in row_limit natural_of 0 (Some members))))
state_gives members result gives =
    subst (Gives result) (ap (λ r. r >>= λ cells. told (valid_state (unmarked cells) (flat_violation (unmarked cells)))) (within_told natural_of 0 row_limit members)
    ∙ state_told (entries_in row_limit natural_of 0 (Some members))) gives

edit_told : (r : Result (FinMap nat_cmp (Option ℕ)) Cause)
    → (told r >>= λ changes. Ok (record { changes = changes })) ≡ told {A = FlatEdit} (edit_of r)
edit_told (Ok changes) = refl
edit_told (Err cause) = refl

pub edit_gives : (members : Members) (result : Result FlatEdit ReadError)
    → Gives result (edit_read members)
    → Gives result (told (edit_of (entries_in node_limit change_of None (Some members))))
edit_gives members result gives =
    subst (Gives result) (ap (λ r. r >>= λ changes. Ok (record { changes = changes })) (within_told change_of None node_limit members)
    ∙ edit_told (entries_in node_limit change_of None (Some members))) gives
