-- Where the places of faults lead: the tables of a scenario are in order, and a fault of modules is in one of them.
use Rattle.std.proofs.Common.{◌≡◌, inl, inr, cond, ℕ, zero, suc, ◌<◌, List, [], ◌∷◌, length, Bool, true, false, Option, Some, None, option_and_then, Result, Ok, Err, codes, refl, ◌∙◌, arith}
use Rattle.std.proofs.lemmas.List.{length-map}
use Rattle.std.specs.Prelude.{is_some, nat_lt, nat_le, ◌&&◌, ◌||◌, ◌==◌}
use Rattle.std.specs.Str.{bytes_eq}
use Rattle.std.specs.Ordering.{nat_cmp}
use Rattle.std.specs.FinMap.{FinMap}
use Rattle.serde_json.specs.Data.{Data, null, boolean, number, string, array, object, Items, no_items, item, Members}
use Rattle.serde_json.specs.Find.{get, at, get_item, as_array, as_object, as_str}
use Rattle.nm_base.specs.Words.{manager}
use Rattle.nm_base.specs.declared.tag.Tag.{Tag}
use Rattle.nm_base.specs.declared.tag.Tag.TheVariants.{InUse, InvalidValue, LockDenied, AccessDenied, DataExists, DataMissing, OperationFailed, ResourceDenied, UnknownElement, BadAttribute, MissingElement}
use Rattle.nm_yang.specs.Tree.{Tree}
use Rattle.nm_yang.specs.Module.{reading}
use Rattle.nm_yang.specs.declared.fault.Fault.{Fault as TextFault}
use Rattle.nm_schema_tree.specs.Nodes.{SchemaTree}
use Rattle.nm_config.specs.Rows.{Rows}
use Rattle.nm_json.specs.declared.fault.JsonFault.{JsonFault}
use Rattle.nm_json.specs.declared.fault.JsonFault.TheVariants.{NotJson, Bad, TooManyRows, NoMemory}
use Rattle.nm_json.specs.Whole.{config_read}
use Rattle.nm_validate.specs.Told.{violation_told}
use Rattle.nm_schema_faults.specs.declared.fault.Fault.{Fault as SchemaFault}
use Rattle.nm_schema_faults.specs.declared.fault.Fault.TheVariants.{Flawed, TooLarge}
use Rattle.nm_schema.specs.Built.{built_of}
use Rattle.nm_edit.specs.declared.edit.EditNode.{EditNode}
use Rattle.nm_edit_json.specs.Whole.{edit_read}
use Rattle.nm_proto.specs.Content.{Refusal}
use Rattle.nm_flat.specs.Flat.{FlatState, flat_violation}
use Rattle.nm_proto.specs.declared.kind.ScenarioKind.{ScenarioKind}
use Rattle.nm_proto.specs.declared.kind.ScenarioKind.TheVariants as kind
use Rattle.nm_scenario_form.specs.declared.fault.Step.{Step}
use Rattle.nm_scenario_form.specs.declared.fault.Step.TheVariants.{Name, Item}
use Rattle.nm_scenario_form.specs.declared.fault.Cause.{Cause}
use Rattle.nm_scenario_form.specs.declared.fault.Fault.{Fault}
use Rattle.nm_scenario_form.specs.Reading.{count_of, natural_of, plain}
use Rattle.nm_scenario_form.specs.Words.{item_count}
use Rattle.nm_scenario_form.specs.Order.{IsFirst}
use Rattle.nm_scenario_form.specs.Form.{Form, leaf, chosen}
use Rattle.nm_scenario_form.specs.Says.{Says}
use Rattle.nm_scenario_form.specs.Exact.{Somewhere}
use Rattle.nm_scenario_form.specs.Places.{walked, IsPlace, IsThere, InOrder}
use Rattle.nm_scenario_form.proofs.InOrder.{number_in_order, above_in_order, switch_in_order, leaf_in_order, list_in_order, by_in_order, object_in_order, member_in_order, no_more_named}
use Rattle.nm_scenario_form.proofs.Placed.{placed}
use Rattle.nm_scenario_events.proofs.Order.{operation_in_order, events_in_order}
use Rattle.nm_scenario.specs.declared.head.Head.{Head}
use Rattle.nm_scenario.specs.declared.head.Head.TheVariants as head
use Rattle.nm_scenario.specs.declared.head.ReadModule.{ReadModule}
use Rattle.nm_scenario.specs.Causes.{edit_cause_by}
use Rattle.nm_scenario.specs.Nothing.{nothing, nothing_in, nothing_said}
use Rattle.nm_scenario.specs.Flat.{row_limit, node_limit, member_count, change_of, are_entries, entries_in, unmarked, valid_state, state_of, cells_said, edit_of, changes_said}
use Rattle.nm_scenario.specs.Yang.{holds_marks, valid_rows, rows_from, data_said, nodes_from, nodes_said}
use Rattle.nm_scenario.specs.Counts.{items_of, count_in, counts_of}
use Rattle.nm_scenario.specs.Devices.{devices_form}
use Rattle.nm_scenario.specs.Changes.{edits_form, changes_form}
use Rattle.nm_scenario.specs.Operators.{user_limit, user, user_in, user_said, operators_form}
use Rattle.nm_scenario.specs.Head.{has_word, contents, contents_in, contents_said, module_read, module_in, module_said, modules_form, head_form, statement_of, statements_of}
use Rattle.nm_scenario.specs.Members.{members_form}
use Rattle.nm_scenario.specs.Scenario.{module_cause, module_of, WrongModule, WrongBuilt, WrongAfter, WrongScenario, WrongWhole, WrongValue, WrongBytes, whole_of}
use Rattle.nm_scenario_laws.specs.Placed.{IsPlacedIn, IsPlaced}
use Rattle.nm_scenario_laws.proofs.Modules.{fault_in_module}
use Rattle.nm_scenario_laws.proofs.Heads.{count_modules}

-- ---- leafs tell of no missing member

two_there : {A : Type 0} (a b : Bool) (k l : ScenarioKind) (x : A) → (k ≡ kind.Missing → ⊥) → (l ≡ kind.Missing → ⊥)
    → IsThere (cond a (Err (plain k)) (cond b (Ok x) (Err (plain l))))
two_there true b k l x known also = known
two_there false true k l x known also = tt
two_there false false k l x known also = also

one_there : {A : Type 0} (a : Bool) (k : ScenarioKind) (x : A) → (k ≡ kind.Missing → ⊥) → IsThere (cond a (Ok x) (Err (plain k)))
one_there true k x known = tt
one_there false k x known = known

nothing_there : (otherwise : ScenarioKind) → (otherwise ≡ kind.Missing → ⊥) → (o : Option Items) → IsThere (nothing_in otherwise o)
nothing_there otherwise known None = λ e. cc
nothing_there otherwise known (Some items) = one_there (count_of items == 0) otherwise tt known

nothing_in_order : (otherwise : ScenarioKind) → (otherwise ≡ kind.Missing → ⊥) → InOrder (nothing otherwise)
unfolding nothing_said
nothing_in_order otherwise known = leaf_in_order _ (λ part. nothing_there otherwise known (as_array part))

entries_there : {V : Type 0} (most : ℕ) (value : Data → Option V) (some : V) (o : Option Members) → IsThere (entries_in most value some o)
entries_there most value some None = λ e. cc
entries_there most value some (Some members) =
    two_there (nat_lt most (member_count members)) (are_entries value members) kind.TooMany kind.Content _ (λ e. cc) (λ e. cc)

valid_there : (state : FlatState) (violation : Option Refusal) → IsThere (valid_state state violation)
valid_there state None = tt
valid_there state (Some refusal) = λ e. cc

state_there : (r : Result (FinMap nat_cmp ℕ) Cause) → IsThere r → IsThere (state_of r)
state_there (Ok cells) is = valid_there (unmarked cells) (flat_violation (unmarked cells))
state_there (Err cause) is = is

cells_there : (part : Data) → IsThere (cells_said part)
unfolding cells_said
cells_there part = state_there (entries_in row_limit natural_of 0 (as_object part)) (entries_there row_limit natural_of 0 (as_object part))

edit_there : (r : Result (FinMap nat_cmp (Option ℕ)) Cause) → IsThere r → IsThere (edit_of r)
edit_there (Ok changes) is = tt
edit_there (Err cause) is = is

changes_there : (part : Data) → IsThere (changes_said part)
unfolding changes_said
changes_there part = edit_there (entries_in node_limit change_of None (as_object part)) (entries_there node_limit change_of None (as_object part))

checked_there : (rows : Rows) (marked : Bool) (violation : Option Refusal) → IsThere (valid_rows rows marked violation)
checked_there rows true violation = λ e. cc
checked_there rows false None = tt
checked_there rows false (Some refusal) = λ e. cc

rows_there : (tree : SchemaTree) (r : Result Rows JsonFault) → IsThere (rows_from tree r)
rows_there tree (Ok rows) = checked_there rows (holds_marks rows) (violation_told tree rows)
rows_there tree (Err (Bad k path)) = λ e. cc
rows_there tree (Err TooManyRows) = λ e. cc
rows_there tree (Err NotJson) = λ e. cc
rows_there tree (Err NoMemory) = λ e. cc

data_there : (tree : SchemaTree) (part : Data) → IsThere (data_said tree part)
unfolding data_said
data_there tree part = rows_there tree (config_read tree part)

cause_there : (tag : Tag) (refusal : Refusal) → (edit_cause_by tag refusal).kind ≡ kind.Missing → ⊥
cause_there InUse refusal e = cc
cause_there InvalidValue refusal e = cc
cause_there LockDenied refusal e = cc
cause_there AccessDenied refusal e = cc
cause_there DataExists refusal e = cc
cause_there DataMissing refusal e = cc
cause_there OperationFailed refusal e = cc
cause_there ResourceDenied refusal e = cc
cause_there UnknownElement refusal e = cc
cause_there BadAttribute refusal e = cc
cause_there MissingElement refusal e = cc

from_there : (r : Result (List EditNode) Refusal) → IsThere (nodes_from r)
from_there (Ok nodes) = tt
from_there (Err refusal) = cause_there refusal.tag refusal

nodes_there : (tree : SchemaTree) (part : Data) → IsThere (nodes_said tree part)
unfolding nodes_said
nodes_there tree part = from_there (edit_read tree part)

user_there : (o : Option (List ℕ)) → IsThere (user_in o)
user_there None = λ e. cc
user_there (Some name) =
    two_there (bytes_eq name manager) (nat_le 1 (length name) && nat_le (length name) user_limit) kind.BadValue kind.BadValue name (λ e. cc) (λ e. cc)

user_in_order : InOrder user
unfolding user_said
user_in_order = leaf_in_order _ (λ part. user_there (as_str part))

contents_there : (o : Option (List ℕ)) → IsThere (contents_in o)
contents_there None = λ e. cc
contents_there (Some word) = one_there (bytes_eq word (codes "flat") || bytes_eq word (codes "yang")) kind.BadValue tt (λ e. cc)

contents_in_order : InOrder contents
unfolding contents_said
contents_in_order = leaf_in_order _ (λ part. contents_there (as_str part))

read_there : (text : List ℕ) (r : Result Tree TextFault) → IsThere (module_read text r)
read_there text (Ok tree) = tt
read_there text (Err fault) = λ e. cc

module_there : (o : Option (List ℕ)) → IsThere (module_in o)
module_there None = λ e. cc
module_there (Some text) = read_there text (reading text)

text_in_order : InOrder (leaf module_said)
unfolding module_said
text_in_order = leaf_in_order _ (λ part. module_there (as_str part))

-- ---- tables

modules_in_order : InOrder modules_form
unfolding modules_form
modules_in_order = list_in_order _ _ _ _ (λ n. text_in_order)

chosen_in_order : {A : Type 0} (test : Bool) (this other : Form A) → InOrder this → InOrder other → InOrder (chosen test this other)
chosen_in_order true this other order also = order
chosen_in_order false this other order also = also

head_in_order : InOrder head_form
unfolding head_form
head_in_order =
    by_in_order _ (λ whole. chosen_in_order (has_word (codes "contents") (codes "yang") whole) _ _
    (object_in_order _ _ _ (member_in_order _ _ _ _ (number_in_order _ _) (member_in_order _ _ _ _ contents_in_order
    (member_in_order _ _ _ _ modules_in_order (no_more_named _)))))
    (chosen_in_order (has_word (codes "contents") (codes "flat") whole) _ _
    (object_in_order _ _ _ (member_in_order _ _ _ _ (number_in_order _ _) (member_in_order _ _ _ _ contents_in_order
    (member_in_order _ _ _ _ (nothing_in_order kind.BadValue (λ e. cc)) (no_more_named _)))))
    (object_in_order _ _ _ (member_in_order _ _ _ _ (number_in_order _ _) (member_in_order _ _ _ _ contents_in_order (no_more_named _))))))

operators_in_order : InOrder operators_form
unfolding operators_form
operators_in_order =
    list_in_order _ _ _ _ (λ n. object_in_order _ _ _ (member_in_order _ _ _ _ user_in_order
    (member_in_order _ _ _ _ (nothing_in_order kind.NotBuilt (λ e. cc)) (no_more_named _))))

devices_in_order : {C : Type 0} (config : Data → Result C Cause) → ((part : Data) → IsThere (config part)) → InOrder (devices_form config)
unfolding devices_form
devices_in_order config there = list_in_order _ _ _ _ (λ n. object_in_order _ _ _ (member_in_order _ _ _ _ (leaf_in_order config there) (no_more_named _)))

edits_in_order : {E : Type 0} (edit : Form E) → InOrder edit → (devices : ℕ) → InOrder (edits_form edit devices)
unfolding edits_form
edits_in_order edit order devices =
    by_in_order _ (λ whole. list_in_order _ _ _ _ (λ n. object_in_order _ _ _ (member_in_order _ _ _ _ (above_in_order _ _)
    (member_in_order _ _ _ _ operation_in_order (member_in_order _ _ _ _ order (no_more_named _))))))

changes_in_order : {E : Type 0} (edit : Form E) → InOrder edit → (devices : ℕ) → InOrder (changes_form edit devices)
unfolding changes_form
changes_in_order edit order devices =
    list_in_order _ _ _ _ (λ n. object_in_order _ _ _ (member_in_order _ _ _ _ (number_in_order _ _)
    (member_in_order _ _ _ _ (edits_in_order edit order devices) (no_more_named _))))

members_in_order : {C E : Type 0} (config : Data → Result C Cause) (edit : Data → Result E Cause) → ((part : Data) → IsThere (config part))
    → ((part : Data) → IsThere (edit part)) → InOrder (members_form config edit)
unfolding members_form
members_in_order config edit configs edits =
    by_in_order _ (λ whole. object_in_order _ _ _ (member_in_order _ _ _ _ (devices_in_order config configs)
    (member_in_order _ _ _ _ (changes_in_order (leaf edit) (leaf_in_order edit edits) (count_in (codes "devices") whole))
    (member_in_order _ _ _ _ operators_in_order
    (member_in_order _ _ _ _ (nothing_in_order kind.NotBuilt (λ e. cc))
    (member_in_order _ _ _ _ (events_in_order (leaf edit) (leaf_in_order edit edits) (counts_of whole))
    (member_in_order _ _ _ _ switch_in_order (member_in_order _ _ _ _ switch_in_order (member_in_order _ _ _ _ switch_in_order (no_more_named _))))))))))

-- ---- modules

item_there : (items : Items) (n : ℕ) → n < count_of items → get_item n items ≡ None → ⊥
item_there no_items n less e = omega arith
item_there (item part rest) zero less e = cc
item_there (item part rest) (suc n) less e = item_there rest n (omega arith) e

at_there : (whole : Data) (n : ℕ) → n < item_count whole → at n whole ≡ None → ⊥
at_there (array items) n less e = item_there items n less e
at_there null n less e = omega arith
at_there (boolean b) n less e = omega arith
at_there (number m) n less e = omega arith
at_there (string text) n less e = omega arith
at_there (object m) n less e = omega arith

some_there : {A : Type 0} (found : Option A) → (found ≡ None → ⊥) → is_some found ≡ true
some_there None there = absurd (there refl)
some_there (Some x) there = refl

walked_one : (found : Option Data) → is_some (option_and_then (walked []) found) ≡ is_some found
walked_one None = refl
walked_one (Some part) = refl

part_there : (found : Option Data) (m : ℕ) → m < items_of found → is_some (option_and_then (walked (Item m ∷ [])) found) ≡ true
part_there None m less = absurd (omega (arith, less))
part_there (Some part) m less = walked_one (at m part) ∙ some_there (at m part) (at_there part m less)

cause_known : (fault : SchemaFault) → (module_cause fault).kind ≡ kind.Missing → ⊥
cause_known (Flawed flaw m place) e = cc
cause_known (TooLarge m place) e = cc

module_placed : (whole : Data) (modules : List ReadModule) (fault : SchemaFault) (cause : Cause) (place : List Step) (spot : List ℕ)
    → Says head_form whole (head.Yang modules) → built_of (statements_of modules) ≡ Err fault → WrongModule fault cause place spot → IsPlace cause.kind place whole
module_placed whole modules fault cause place spot says given wrong =
    let less : module_of fault < count_in (codes "modules") whole =
    omega (arith, fault_in_module (statements_of modules) fault given, length-map modules statement_of, count_modules whole modules says) in
    let placed_so : IsPlace (module_cause fault).kind (Name (codes "modules") ∷ Item (module_of fault) ∷ []) whole =
    inl (cause_known fault, part_there (get (codes "modules") whole) (module_of fault) less) in
    rw (wrong.cause_is, wrong.place_is) placed_so

-- ---- the whole

built_placed : (whole : Data) (modules : List ReadModule) (given : Result SchemaTree SchemaFault) → Says head_form whole (head.Yang modules)
    → built_of (statements_of modules) ≡ given → (cause : Cause) (place : List Step) (spot : List ℕ) → WrongBuilt given whole cause place spot → IsPlace cause.kind place whole
unfolding WrongBuilt
built_placed whole modules (Ok tree) says e cause place spot wrong =
    placed (members_form (data_said tree) (nodes_said tree)) whole (members_in_order (data_said tree) (nodes_said tree) (data_there tree) (nodes_there tree)) cause place spot wrong
built_placed whole modules (Err fault) says e cause place spot wrong = module_placed whole modules fault cause place spot says e wrong

after_placed : (whole : Data) (h : Head) → Says head_form whole h → (cause : Cause) (place : List Step) (spot : List ℕ) → WrongAfter h whole cause place spot
    → IsPlace cause.kind place whole
unfolding WrongAfter
after_placed whole head.Flat says cause place spot wrong =
    placed (members_form cells_said changes_said) whole (members_in_order cells_said changes_said cells_there changes_there) cause place spot wrong
after_placed whole (head.Yang modules) says cause place spot wrong =
    built_placed whole modules (built_of (statements_of modules)) says refl cause place spot wrong

wrong_placed : (whole : Data) (cause : Cause) (place : List Step) (spot : List ℕ) → WrongScenario whole cause place spot → IsPlace cause.kind place whole
wrong_placed whole cause place spot (inl is) = placed head_form whole head_in_order cause place spot is
wrong_placed whole cause place spot (inr is) = after_placed whole is.head is.says cause place spot is.wrong

-- a fault of a scenario has a place there
pub whole_placed : (whole : Data) (cause : Cause) (place : List Step) → Somewhere (WrongScenario whole) cause place → IsPlace cause.kind place whole
whole_placed whole cause place wrong = wrong_placed whole cause place wrong.0 wrong.1

found_placed : (found : Result Data Cause) (fault : Fault) → IsFirst (WrongValue found) fault → IsPlacedIn found fault
unfolding WrongValue
found_placed (Ok whole) fault is = whole_placed whole fault.cause fault.place (is.spot, is.there)
found_placed (Err cause) fault is = let wrong : WrongWhole cause fault.cause fault.place is.spot = is.there in wrong.place_is

pub bytes_placed : (bytes : List ℕ) (fault : Fault) → IsFirst (WrongBytes bytes) fault → IsPlaced bytes fault
bytes_placed bytes fault is = found_placed (whole_of bytes) fault is
