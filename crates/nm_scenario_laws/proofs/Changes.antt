-- What holds of change sets that are said, and of their plans.
use Rattle.std.proofs.Common.{◌≡◌, ℕ, suc, ◌+◌, ◌-◌, ◌^◌, ◌≤◌, ◌<◌, List, [], ◌∷◌, length, map, Bool, true, false, cond, min, Option, Some, None, option_and_then, unwrap_or, Ok, Err, codes, refl, ap, sym, subst, ◌∙◌, arith, length-append}
use Rattle.std.specs.Prelude.{◌&&◌, ◌==◌, nat_lt, nat_le}
use Rattle.std.specs.List.{All}
use Rattle.std.proofs.lemmas.Bool.{leb-true, ltb-true}
use Rattle.std.proofs.lemmas.Bool.Decides.{nat_tests}
use Rattle.std.proofs.lemmas.List.{length-map}
use Rattle.std.proofs.lemmas.List.Elements.{All-nil, All-cons, All-append, All-head, All-tail}
use Rattle.serde_json.specs.Data.{Data, array, null, boolean, string, Items, no_items, item}
use Rattle.serde_json.specs.Data as json
use Rattle.serde_json.specs.Find.{get, at, get_item, as_array}
use Rattle.nm_base.specs.Words.{default_timeout}
use Rattle.nm_proto.specs.declared.kind.ScenarioKind.TheVariants.{BadValue}
use Rattle.nm_scenario_form.specs.Reading.{natural_of, plain}
use Rattle.nm_scenario_form.specs.Words.{item_count}
use Rattle.nm_scenario_form.specs.Form.{Form}
use Rattle.nm_scenario_form.specs.Says.{Says, SaysSlot, Each}
use Rattle.nm_scenario_form.specs.Kept.{Holds}
use Rattle.nm_scenario_form.specs.Leafs.{above, above_said, above_from, number}
use Rattle.nm_scenario_form.proofs.Keeping.{kept, slot_kept}
use Rattle.nm_scenario_form.proofs.Ranges.{number_holds}
use Rattle.nm_scenario_events.specs.Limits.{change_limit, device_limit}
use Rattle.nm_scenario_events.specs.Kept.{IsWithin}
use Rattle.nm_scenario.specs.declared.scenario.ReadChange.{ReadChange}
use Rattle.nm_scenario.specs.declared.scenario.ReadEdit.{ReadEdit}
use Rattle.nm_scenario.specs.Changes.{device_in, above_at, edit_form, edits_form, change_form, changes_form, planned_from, plans_from, edits_of}
use Rattle.nm_scenario_laws.specs.Kept.{Ascend, device_of_plan, ChangeKeeps, PlanNames}
use Rattle.nm_scenario_laws.proofs.Lists.{ListKeeps, list_keeps}

-- ---- the device of an edit

-- a number that is said is the number there, above the other
record IsAbove (low high : ℕ) (found : Option ℕ) (n : ℕ) : Type 0 where
  is : found ≡ Some n
  over : low < n
  most : n ≤ high

tested_above : (low high m n : ℕ) (a b : Bool) → nat_lt low m ≡ a → nat_le m high ≡ b → cond (a && b) (Ok m) (Err (plain BadValue)) ≡ Ok n
    → IsAbove low high (Some m) n
tested_above low high m n true true e f is =
    let same : m ≡ n = cc in
    record { is = ap Some same; over = subst (λ k. low < k) same (ltb-true low m e); most = subst (λ k. k ≤ high) same (leb-true m high f) }
tested_above low high m n true false e f is = cc
tested_above low high m n false b e f is = cc

from_above : (low high n : ℕ) (found : Option ℕ) → above_from low high found ≡ Ok n → IsAbove low high found n
from_above low high n None e = cc
from_above low high n (Some m) e = tested_above low high m n (nat_lt low m) (nat_le m high) refl refl e

slot_above : (low high n : ℕ) (part : Option Data) → SaysSlot (λ part b. Says (above low high) part b) None part n
    → IsAbove low high (option_and_then natural_of part) n
unfolding Says above_said
slot_above low high n (Some part) says = from_above low high n (natural_of part) says
slot_above low high n None says = cc

-- ---- edits

abbrev device_number : {E : Type 0} → ReadEdit E → ℕ
device_number edit = edit.device

abbrev edit_so : {E : Type 0} → (E → Type 0) → ReadEdit E → Type 0
edit_so Q entry = Q entry.edit

-- the edits of a change set
pub record EditsKeep {E : Type 0} (Q : E → Type 0) (devices : ℕ) (es : List (ReadEdit E)) : Type 0 where
  pub some : 1 ≤ length es
  pub ascending : Ascend 0 devices (map device_number es)
  pub edits : All (edit_so Q) es

-- one edit, above another
record EditIs {E : Type 0} (Q : E → Type 0) (devices below : ℕ) (part : Data) (x : ReadEdit E) : Type 0 where
  device : IsAbove below (min devices device_limit) (option_and_then natural_of (get (codes "device") part)) x.device
  so : Q x.edit

-- a change set, in a scenario of so many devices
pub record ReadKeeps {E : Type 0} (Q : E → Type 0) (devices : ℕ) (change : ReadChange E) : Type 0 where
  pub timeout : IsWithin 1 (2 ^ 32 - 1) change.timeout
  pub entries : EditsKeep Q devices change.edits

timeout_within : (part : Data) (n : ℕ) → Says (number 1 (2 ^ 32 - 1)) part n → IsWithin 1 (2 ^ 32 - 1) n
timeout_within part n said = kept (number 1 (2 ^ 32 - 1)) (IsWithin 1 (2 ^ 32 - 1)) part n (number_holds 1 (2 ^ 32 - 1) _ (λ m low high. (low, high))) said

not_first : (n : ℕ) → (suc n == 0) ≡ false
not_first n = grind (arith, nat_tests)

-- the device of an item is the one that the next is above
next_above : (n : ℕ) (whole part : Data) (d : ℕ) → at n whole ≡ Some part → option_and_then natural_of (get (codes "device") part) ≡ Some d
    → above_at whole (suc n) ≡ d
next_above n whole part d there is =
    let before : suc n - 1 ≡ n = omega arith in
    ap (λ b. cond b 0 (device_in (at (suc n - 1) whole))) (not_first n)
    ∙ (ap (λ k. device_in (at k whole)) before ∙ (ap device_in there ∙ ap (λ o. unwrap_or o 0) is))

array_at : (whole : Data) (items : Items) → as_array whole ≡ Some items → (k : ℕ) → at k whole ≡ get_item k items
array_at (array all) items e k = let same : all ≡ items = cc in ap (get_item k) same
array_at null items e k = cc
array_at (boolean b) items e k = cc
array_at (json.number n) items e k = cc
array_at (string text) items e k = cc
array_at (json.object m) items e k = cc

module _ {E : Type 0} (edit : Form E) (Q : E → Type 0) (holds : Holds edit Q) (devices : ℕ) where
  edit_is : (below : ℕ) (part : Data) (x : ReadEdit E) → Says (edit_form edit below devices) part x → EditIs Q devices below part x
  unfolding Says
  edit_is below part x says =
      let parts = says.parts in
      let is : EditIs Q devices below part (record { device = parts.0; default_operation = parts.2.0; edit = parts.2.2.0 }) = record {
        device = slot_above below (min devices device_limit) parts.0 (get (codes "device") part) parts.1;
        so = slot_kept (λ part b. Says edit part b) Q None (get (codes "edit") part) parts.2.2.0
            (λ child said. kept edit Q child parts.2.2.0 holds said) tt parts.2.2.1;
      } in
      subst (EditIs Q devices below part) parts.2.2.2 is

  edits_so : (n : ℕ) (whole : Data) (items : Items) (es : List (ReadEdit E)) → Each (λ k part x. Says (edit_form edit (above_at whole k) devices) part x) n items es
      → All (edit_so Q) es
  unfolding Each
  edits_so n whole no_items [] each = All-nil (edit_so Q)
  edits_so n whole no_items (e ∷ es) each = absurd each
  edits_so n whole (item part rest) [] each = absurd each
  edits_so n whole (item part rest) (e ∷ es) each =
      let is : EditIs Q devices (above_at whole n) part e = edit_is (above_at whole n) part e each.0 in
      All-cons (edit_so Q) e es is.so (edits_so (suc n) whole rest es each.1)

  ascends : (n : ℕ) (whole : Data) (items : Items) (es : List (ReadEdit E)) → ((k : ℕ) → at (n + k) whole ≡ get_item k items)
      → Each (λ k part x. Says (edit_form edit (above_at whole k) devices) part x) n items es
      → Ascend (above_at whole n) devices (map device_number es)
  unfolding Each
  ascends n whole no_items [] there each = tt
  ascends n whole no_items (e ∷ es) there each = absurd each
  ascends n whole (item part rest) [] there each = absurd each
  ascends n whole (item part rest) (e ∷ es) there each =
      let is : EditIs Q devices (above_at whole n) part e = edit_is (above_at whole n) part e each.0 in
      let d : IsAbove (above_at whole n) (min devices device_limit) (option_and_then natural_of (get (codes "device") part)) e.device = is.device in
      let first : at n whole ≡ Some part = subst (λ k. at k whole ≡ Some part) (let e : n + 0 ≡ n = omega arith in e) (there 0) in
      let more : Ascend (above_at whole (suc n)) devices (map device_number es) =
      ascends (suc n) whole rest es (λ k. subst (λ m. at m whole ≡ get_item k rest) (let e : n + suc k ≡ suc n + k = omega arith in e) (there (suc k))) each.1 in
      (d.over, omega (arith, d.most), subst (λ m. Ascend m devices (map device_number es)) (next_above n whole part e.device first d.is) more)

  edits_keep : (part : Data) (es : List (ReadEdit E)) → Says (edits_form edit devices) part es → EditsKeep Q devices es
  unfolding Says edits_form
  edits_keep part es says =
      let l : ListKeeps (λ e. Unit {0}) 1 (2 ^ 64 - 1) (item_count part) es =
      list_keeps (λ e. Unit {0}) 1 (2 ^ 64 - 1) (λ n. edit_form edit (above_at part n) devices) (λ n child x said. tt) part es says in
      record {
        some = l.least;
        ascending = ascends 0 part says.items es (λ k. subst (λ m. at m part ≡ get_item k says.items) (let e : k ≡ 0 + k = omega arith in e)
            (array_at part says.items says.is_list k)) says.each;
        edits = edits_so 0 part says.items es says.each;
      }

  change_keeps : (part : Data) (change : ReadChange E) → Says (change_form edit devices) part change → ReadKeeps Q devices change
  unfolding Says
  change_keeps part change says =
      let parts = says.parts in
      let is : ReadKeeps Q devices (record { timeout = parts.0; edits = parts.2.0 }) = record {
        timeout = slot_kept (λ part b. Says (number 1 (2 ^ 32 - 1)) part b) (IsWithin 1 (2 ^ 32 - 1)) (Some default_timeout) (get (codes "timeout") part) parts.0
            (λ child said. timeout_within child parts.0 said) (omega arith, omega arith) parts.1;
        entries = slot_kept (λ part b. Says (edits_form edit devices) part b) (EditsKeep Q devices) None (get (codes "edits") part) parts.2.0
            (λ child said. edits_keep child parts.2.0 said) tt parts.2.1;
      } in
      subst (ReadKeeps Q devices) parts.2.2 is

  pub changes_keep : (part : Data) (changes : List (ReadChange E)) → Says (changes_form edit devices) part changes
      → ListKeeps (ReadKeeps Q devices) 0 change_limit (item_count part) changes
  unfolding changes_form
  changes_keep part changes says = list_keeps (ReadKeeps Q devices) 0 change_limit (λ n. change_form edit devices) (λ n child x said. change_keeps child x said) part changes says

-- ---- the plans of change sets, and their edits

planned_devices : {E : Type 0} (n : ℕ) (es : List (ReadEdit E)) → map device_of_plan (planned_from n es) ≡ map device_number es
planned_devices n [] = refl
planned_devices n (e ∷ es) = ap (λ ds. e.device ∷ ds) (planned_devices (n + 1) es)

planned_length : {E : Type 0} (n : ℕ) (es : List (ReadEdit E)) → length (planned_from n es) ≡ length es
planned_length n [] = refl
planned_length n (e ∷ es) = omega (arith, planned_length (n + 1) es)

pub plans_keep : {E : Type 0} (Q : E → Type 0) (devices n : ℕ) (cs : List (ReadChange E)) → All (ReadKeeps Q devices) cs → All (ChangeKeeps devices) (plans_from n cs)
plans_keep Q devices n [] k = All-nil (ChangeKeeps devices)
plans_keep Q devices n (c ∷ cs) k =
    let is : ReadKeeps Q devices c = All-head (ReadKeeps Q devices) c cs k in
    let entries : EditsKeep Q devices c.edits = is.entries in
    All-cons (ChangeKeeps devices) _ (plans_from (n + length c.edits) cs)
    (record { timeout = is.timeout; edits = omega (arith, entries.some, planned_length n c.edits); ascending = subst (Ascend 0 devices) (sym (planned_devices n c.edits)) entries.ascending })
    (plans_keep Q devices (n + length c.edits) cs (All-tail (ReadKeeps Q devices) c cs k))

pub plans_length : {E : Type 0} (n : ℕ) (cs : List (ReadChange E)) → length (plans_from n cs) ≡ length cs
plans_length n [] = refl
plans_length n (c ∷ cs) = omega (arith, plans_length (n + length c.edits) cs)

-- the edits of change sets are numbered below so many
planned_name : {E : Type 0} (count n : ℕ) (es : List (ReadEdit E)) → n + length es ≤ count → All (λ p. p.edit.0 < count) (planned_from n es)
planned_name count n [] few = All-nil (λ p. p.edit.0 < count)
planned_name count n (e ∷ es) few =
    All-cons (λ p. p.edit.0 < count) _ (planned_from (n + 1) es) (omega (arith, few)) (planned_name count (n + 1) es (omega (arith, few)))

pub plans_name : {E : Type 0} (count n : ℕ) (cs : List (ReadChange E)) → n + length (edits_of cs) ≤ count → All (PlanNames count) (plans_from n cs)
plans_name count n [] few = All-nil (PlanNames count)
plans_name count n (c ∷ cs) few =
    let all : length (edits_of (c ∷ cs)) ≡ length c.edits + length (edits_of cs) =
    length-append (map (λ e. e.edit) c.edits) (edits_of cs) ∙ ap (λ k. k + length (edits_of cs)) (length-map c.edits (λ e. e.edit)) in
    All-cons (PlanNames count) _ (plans_from (n + length c.edits) cs) (planned_name count n c.edits (omega (arith, few, all)))
    (plans_name count (n + length c.edits) cs (omega (arith, few, all)))

mapped : {E : Type 0} (Q : E → Type 0) (es : List (ReadEdit E)) → All (edit_so Q) es → All Q (map (λ e. e.edit) es)
mapped Q [] k = All-nil Q
mapped Q (e ∷ es) k = All-cons Q e.edit _ (All-head (edit_so Q) e es k) (mapped Q es (All-tail (edit_so Q) e es k))

pub all_edits : {E : Type 0} (Q : E → Type 0) (devices : ℕ) (cs : List (ReadChange E)) → All (ReadKeeps Q devices) cs → All Q (edits_of cs)
all_edits Q devices [] k = All-nil Q
all_edits Q devices (c ∷ cs) k =
    let is : ReadKeeps Q devices c = All-head (ReadKeeps Q devices) c cs k in
    let entries : EditsKeep Q devices c.edits = is.entries in
    All-append Q (map (λ e. e.edit) c.edits) (edits_of cs) (mapped Q c.edits entries.edits) (all_edits Q devices cs (All-tail (ReadKeeps Q devices) c cs k))
