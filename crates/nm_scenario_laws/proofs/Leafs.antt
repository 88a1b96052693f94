-- What holds of all configurations, edits and names that can be said.
use Rattle.std.proofs.Common.{◌≡◌, ℕ, ◌+◌, ◌≤◌, List, length, Bool, true, false, cond, Option, Some, None, Result, Ok, Err, refl, ap, sym, subst, ◌∙◌, arith}
use Rattle.std.specs.Prelude.{◌&&◌, nat_lt, nat_le, not, unwrap_or}
use Rattle.std.specs.Str.{bytes_eq}
use Rattle.std.specs.Ordering.{nat_cmp}
use Rattle.std.specs.FinMap.{FinMap, insert, empty, len, contains_key, len-insert, len-empty}
use Rattle.std.proofs.lemmas.Bool.{ltb-false}
use Rattle.std.proofs.lemmas.Cmp.{nat_cmp_total}
use Rattle.serde_json.specs.Data.{Data, Members, no_members, member}
use Rattle.serde_json.specs.Find.{as_str, as_object}
use Rattle.nm_base.specs.Words.{manager}
use Rattle.nm_proto.specs.Content.{Refusal}
use Rattle.nm_flat.specs.Flat.{flat_violation}
use Rattle.nm_proto.specs.declared.kind.ScenarioKind.TheVariants.{BadValue, Content, TooMany}
use Rattle.nm_schema_tree.specs.Nodes.{SchemaTree}
use Rattle.nm_path.specs.Sound.{HaveHeldBounds}
use Rattle.nm_config.specs.Rows.{Rows}
use Rattle.nm_json.specs.declared.fault.Fault.{Fault as JsonPlace}
use Rattle.nm_json.specs.declared.fault.JsonFault.{JsonFault}
use Rattle.nm_json.specs.declared.fault.JsonFault.TheVariants.{NotJson, Bad, TooManyRows, NoMemory}
use Rattle.nm_json.specs.Findings.{whole_found}
use Rattle.nm_json.specs.Whole.{config_read, answered, least_of, faults_found, rows_of}
use Rattle.nm_json.proofs.Only.{config_law}
use Rattle.nm_validate_rules.specs.Standing.{StandsIn}
use Rattle.nm_validate_rules.proofs.Configs.{config_stands}
use Rattle.nm_validate.specs.Told.{violation_told}
use Rattle.nm_edit.specs.declared.edit.EditNode.{EditNode}
use Rattle.nm_edit.specs.EditOf.{IsEditOf}
use Rattle.nm_edit_json.specs.Whole.{edit_read}
use Rattle.nm_edit_json.specs.Laws.{HasNodes}
use Rattle.nm_edit_json.proofs.Edits.{given_law}
use Rattle.nm_edit_json.proofs.Least.{nodes_law}
use Rattle.nm_scenario_form.specs.declared.fault.Cause.{Cause}
use Rattle.nm_scenario_form.specs.Reading.{natural_of, plain}
use Rattle.nm_scenario_form.specs.Form.{leaf}
use Rattle.nm_scenario_form.specs.Kept.{Holds, OfResult}
use Rattle.nm_scenario.specs.Flat.{row_limit, node_limit, key_of, member_count, change_of, are_entries, entries_after, entries_in, unmarked, valid_state, state_of, cells_said, edit_of, changes_said}
use Rattle.nm_scenario.specs.Yang.{holds_marks, valid_rows, rows_from, data_said, nodes_from, nodes_said}
use Rattle.nm_scenario.specs.Operators.{user_limit, user_in, user_said, user}
use Rattle.nm_scenario_laws.specs.Kept.{StateKeeps, EditKeeps, DataKeeps, UserKeeps}

pub leaf_holds : {A : Type 0} (f : Data → Result A Cause) (P : A → Type 0) → ((part : Data) → OfResult P (f part)) → Holds (leaf f) P
unfolding Holds
leaf_holds f P kept = kept

-- ---- flat contents

inserted : (there : Bool) (n : ℕ) → cond there n (n + 1) ≤ n + 1
inserted true n = omega arith
inserted false n = omega arith

insert_len : {V : Type 0} (m : FinMap nat_cmp V) (k : ℕ) (v : V) → len (insert m k v) ≤ len m + 1
insert_len m k v = subst (λ n. n ≤ len m + 1) (sym (len-insert nat_cmp_total m k v)) (inserted (contains_key m k) (len m))

module _ {V : Type 0} (most : ℕ) (value : Data → Option V) (some : V) where
  entries_small : (found : FinMap nat_cmp V) (members : Members) → len (entries_after value some found members) ≤ len found + member_count members
  entries_small found no_members = omega arith
  entries_small found (member name part rest) =
      omega (
        arith,
        entries_small (insert found (unwrap_or (key_of name) 0) (unwrap_or (value part) some)) rest,
        insert_len found (unwrap_or (key_of name) 0) (unwrap_or (value part) some),
      )

  tested_few : (members : Members) (many all : Bool) → nat_lt most (member_count members) ≡ many
      → OfResult (λ m. len m ≤ most) (cond many (Err (plain TooMany)) (cond all (Ok (entries_after value some empty members)) (Err (plain Content))))
  tested_few _ true all e = tt
  tested_few _ false false e = tt
  tested_few members false true e = omega (arith, entries_small empty members, len-empty nat_cmp V, ltb-false most (member_count members) e)

  entries_few : (o : Option Members) → OfResult (λ m. len m ≤ most) (entries_in most value some o)
  entries_few None = tt
  entries_few (Some members) = tested_few members (nat_lt most (member_count members)) (are_entries value members) refl

valid_kept : (cells : FinMap nat_cmp ℕ) → len cells ≤ row_limit → (refusal : Option Refusal) → flat_violation (unmarked cells) ≡ refusal
    → OfResult StateKeeps (valid_state (unmarked cells) refusal)
valid_kept cells few None is = record { cells = few; unmarked = refl; valid = is }
valid_kept cells few (Some refusal) is = tt

state_kept : (r : Result (FinMap nat_cmp ℕ) Cause) → OfResult (λ m. len m ≤ row_limit) r → OfResult StateKeeps (state_of r)
state_kept (Ok cells) few = valid_kept cells few (flat_violation (unmarked cells)) refl
state_kept (Err cause) few = tt

pub cells_kept : (part : Data) → OfResult StateKeeps (cells_said part)
unfolding cells_said
cells_kept part = state_kept (entries_in row_limit natural_of 0 (as_object part)) (entries_few row_limit natural_of 0 (as_object part))

edit_kept : (r : Result (FinMap nat_cmp (Option ℕ)) Cause) → OfResult (λ m. len m ≤ node_limit) r → OfResult EditKeeps (edit_of r)
edit_kept (Ok changes) few = few
edit_kept (Err cause) few = tt

pub changes_kept : (part : Data) → OfResult EditKeeps (changes_said part)
unfolding changes_said
changes_kept part = edit_kept (entries_in node_limit change_of None (as_object part)) (entries_few node_limit change_of None (as_object part))

-- ---- data

tested_rows : (all rows : Rows) (b : Bool) → nat_lt row_limit (len all) ≡ b → cond b (Err TooManyRows) (Ok all) ≡ Ok rows → len rows ≤ row_limit
tested_rows all rows true t e = cc
tested_rows all rows false t e = let same : all ≡ rows = cc in subst (λ r. len r ≤ row_limit) same (ltb-false row_limit (len all) t)

answered_rows : (tree : SchemaTree) (least : Option JsonPlace) (all rows : Rows) → answered tree least all ≡ Ok rows → len rows ≤ row_limit
answered_rows tree (Some fault) all rows e = cc
answered_rows tree None all rows e = tested_rows all rows (nat_lt row_limit (len all)) refl e

read_few : (tree : SchemaTree) (part : Data) (rows : Rows) → config_read tree part ≡ Ok rows → len rows ≤ row_limit
read_few tree part rows e = answered_rows tree (least_of (faults_found empty (whole_found tree part))) (rows_of empty (whole_found tree part)) rows e

checked_kept : (tree : SchemaTree) (rows : Rows) → StandsIn tree rows → len rows ≤ row_limit → (marked : Bool) → holds_marks rows ≡ marked
    → (violation : Option Refusal) → violation_told tree rows ≡ violation → OfResult (DataKeeps tree) (valid_rows rows marked violation)
checked_kept tree rows stands few true m violation is = tt
checked_kept tree rows stands few false m None is = record { stands = stands; rows_few = few; unmarked = m; valid = is }
checked_kept tree rows stands few false m (Some refusal) is = tt

rows_kept : (tree : SchemaTree) → HaveHeldBounds tree.nodes → (part : Data) (r : Result Rows JsonFault) → config_read tree part ≡ r
    → OfResult (DataKeeps tree) (rows_from tree r)
rows_kept tree bounds part (Ok rows) e =
    checked_kept tree rows (config_stands tree rows (config_law tree part rows bounds e)) (read_few tree part rows e) (holds_marks rows) refl (violation_told tree rows) refl
rows_kept tree bounds part (Err (Bad k path)) e = tt
rows_kept tree bounds part (Err TooManyRows) e = tt
rows_kept tree bounds part (Err NotJson) e = tt
rows_kept tree bounds part (Err NoMemory) e = tt

pub data_kept : (tree : SchemaTree) → HaveHeldBounds tree.nodes → (part : Data) → OfResult (DataKeeps tree) (data_said tree part)
unfolding data_said
data_kept tree bounds part = rows_kept tree bounds part (config_read tree part) refl

-- an edit of data stands in its tree, and isn't too large
pub record DataEditKeeps (tree : SchemaTree) (nodes : List EditNode) : Type 0 where
  pub is_edit : IsEditOf tree nodes
  pub few : length nodes ≤ node_limit

edit_read_kept : (tree : SchemaTree) (part : Data) (r : Result (List EditNode) Refusal) → edit_read tree part ≡ r → OfResult (DataEditKeeps tree) (nodes_from r)
edit_read_kept tree part (Err refusal) e = tt
edit_read_kept tree part (Ok nodes) e =
    let h : HasNodes tree part nodes = (nodes_law tree part nodes).0 e in
    record { is_edit = given_law (Ok nodes) tree part e; few = h.within }

pub nodes_kept : (tree : SchemaTree) (part : Data) → OfResult (DataEditKeeps tree) (nodes_said tree part)
unfolding nodes_said
nodes_kept tree part = edit_read_kept tree part (edit_read tree part) refl

-- ---- users

tested_user : (name : List ℕ) (own right : Bool) → bytes_eq name manager ≡ own → (nat_le 1 (length name) && nat_le (length name) user_limit) ≡ right
    → OfResult UserKeeps (cond own (Err (plain BadValue)) (cond right (Ok name) (Err (plain BadValue))))
tested_user name true right e f = tt
tested_user name false false e f = tt
tested_user name false true e f = ap (λ b. not b && (nat_le 1 (length name) && nat_le (length name) user_limit)) e ∙ f

user_in_kept : (name : Option (List ℕ)) → OfResult UserKeeps (user_in name)
user_in_kept None = tt
user_in_kept (Some name) = tested_user name (bytes_eq name manager) (nat_le 1 (length name) && nat_le (length name) user_limit) refl refl

user_kept : (part : Data) → OfResult UserKeeps (user_said part)
unfolding user_said
user_kept part = user_in_kept (as_str part)

pub users_hold : Holds user UserKeeps
users_hold = leaf_holds user_said UserKeeps user_kept
