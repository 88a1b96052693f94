-- What is kept of the events of a scenario, and that typed events weigh as much as what they were read of.
use Rattle.std.proofs.Common.{◌≡◌, ◌≤◌, ◌+◌, ◌*◌, ℕ, suc, List, [], ◌∷◌, ◌++◌, Bool, true, false, cond, min, Option, Some, None, option_and_then, unwrap_or, Ok, Err, codes, refl, ap, sym, subst, ◌∙◌, All, arith}
use Rattle.std.specs.Prelude.{◌&&◌, ◌==◌, nat_le}
use Rattle.std.specs.List.{sum_by}
use Rattle.std.proofs.lemmas.Bool.{leb-true}
use Rattle.std.proofs.lemmas.Bool.Decides.{nat_tests}
use Rattle.std.proofs.lemmas.List.Sums.{sum_by-append}
use Rattle.std.proofs.lemmas.List.Elements.{All-nil, All-cons, All-append}
use Rattle.serde_json.specs.Data.{Data, null, boolean, number, string, array, object, Items, no_items, item}
use Rattle.serde_json.specs.Find.{at, as_array}
use Rattle.nm_proto.specs.declared.plan.Event.TheVariants.{Round}
use Rattle.nm_proto.specs.declared.kind.ScenarioKind.TheVariants.{BadValue}
use Rattle.nm_scenario_form.specs.Reading.{natural_of, count_of, plain}
use Rattle.nm_scenario_form.specs.Words.{is_word, item_count, natural_in}
use Rattle.nm_scenario_form.specs.Form.{Form, arguments, done, ◌▹◌}
use Rattle.nm_scenario_form.specs.Says.{Says, SaysSlot, Each, IfSo, takes, total}
use Rattle.nm_scenario_form.specs.Kept.{Holds}
use Rattle.nm_scenario_form.specs.Leafs.{number as number_form, number_said, number_from}
use Rattle.nm_scenario_form.proofs.Keeping.{kept, always}
use Rattle.nm_scenario_events.specs.declared.event.ReadEvent.{ReadEvent}
use Rattle.nm_scenario_events.specs.declared.event.ReadEvent.TheVariants.{Other}
use Rattle.nm_scenario_events.specs.declared.arguments.Counts.{Counts}
use Rattle.nm_scenario_events.specs.Limits.{change_limit, turn_limit}
use Rattle.nm_scenario_events.specs.Arguments.{change, turns}
use Rattle.nm_scenario_events.specs.Events.{is_within, is_right_round, event_weight, elementary_form, event_form, events_form}
use Rattle.nm_scenario_events.specs.Kept.{IsWithin, ReadKeeps, read_weight, EventsKeep}
use Rattle.nm_scenario_events.specs.Numbered.{edit_of_event, edits_of_events}
use Rattle.nm_scenario_events.proofs.Ranges.{IsKept, within_first, elementary_holds}

-- ---- numbers that are said

-- a number that is said is the number there, in its range
record IsNumber (low high : ℕ) (found : Option ℕ) (n : ℕ) : Type 0 where
  is : found ≡ Some n
  within : IsWithin low high n
  tested : is_within low high found ≡ true

tested_number : (low high m n : ℕ) (a b : Bool) → nat_le low m ≡ a → nat_le m high ≡ b → cond (a && b) (Ok m) (Err (plain BadValue)) ≡ Ok n
    → IsNumber low high (Some m) n
tested_number low high m n true true e f is =
    let same : m ≡ n = cc in
    record {
      is = ap Some same;
      within = subst (IsWithin low high) same (leb-true low m e, leb-true m high f);
      tested = ap (λ t. t && nat_le m high) e ∙ f;
    }
tested_number low high m n true false e f is = cc
tested_number low high m n false b e f is = cc

from_number : (low high n : ℕ) (found : Option ℕ) → number_from low high found ≡ Ok n → IsNumber low high found n
from_number low high n None e = cc
from_number low high n (Some m) e = tested_number low high m n (nat_le low m) (nat_le m high) refl refl e

slot_number : (low high n : ℕ) (part : Option Data) → SaysSlot (λ part b. Says (number_form low high) part b) None part n
    → IsNumber low high (option_and_then natural_of part) n
unfolding Says number_said
slot_number low high n (Some part) says = from_number low high n (natural_of part) says
slot_number low high n None says = cc

-- ---- how many items there are

counted_three : (n : ℕ) → (nat_le 3 n && nat_le n 3) ≡ true → (n == 3) ≡ true
counted_three n is = grind (arith, nat_tests)

three_items : (part : Data) → takes 3 3 (as_array part) ≡ true → (item_count part == 3) ≡ true
three_items (array items) is = counted_three (count_of items) is
three_items null is = cc
three_items (boolean b) is = cc
three_items (number n) is = cc
three_items (string text) is = cc
three_items (object m) is = cc

-- ---- one event

-- an event that is said of a part
pub record EventIs {E : Type 0} (Q : E → Type 0) (c : Counts) (part : Data) (event : ReadEvent E) : Type 0 where
  pub keeps : ReadKeeps c event
  pub weighs : read_weight event ≡ event_weight c part
  pub edits : All Q (edit_of_event event)

one_weighs : (c : Counts) (part : Data) → is_word part (codes "round") ≡ false → 1 ≡ event_weight c part
unfolding event_weight
one_weighs c part is =
    sym (ap (λ b. cond (b && (item_count part == 3
    && (is_within 1 (min c.changes change_limit) (natural_in 1 part) && is_within 1 turn_limit (natural_in 2 part))))
    (3 * unwrap_or (natural_in 2 part) 0) 1) is)

round_weighs : (c : Counts) (part : Data) (n : ℕ) → is_word part (codes "round") ≡ true → (item_count part == 3) ≡ true
    → is_within 1 (min c.changes change_limit) (natural_in 1 part) ≡ true → is_within 1 turn_limit (natural_in 2 part) ≡ true
    → natural_in 2 part ≡ Some n → 3 * n ≡ event_weight c part
unfolding event_weight
round_weighs c part n word count first second is =
    let right : is_right_round c part ≡ true = ap (λ b. b && (item_count part == 3
    && (is_within 1 (min c.changes change_limit) (natural_in 1 part) && is_within 1 turn_limit (natural_in 2 part)))) word
    ∙ (ap (λ b. b && (is_within 1 (min c.changes change_limit) (natural_in 1 part) && is_within 1 turn_limit (natural_in 2 part))) count
    ∙ (ap (λ b. b && is_within 1 turn_limit (natural_in 2 part)) first ∙ second)) in
    sym (ap (λ b. cond b (3 * unwrap_or (natural_in 2 part) 0) 1) right ∙ ap (λ o. 3 * unwrap_or o 0) is)

round_is : {E : Type 0} (Q : E → Type 0) (c : Counts) (part : Data) (event : ReadEvent E) → is_word part (codes "round") ≡ true
    → Says (arguments 1 (change c ▹ turns ▹ done) (λ change turns. Other (Round change turns))) part event → EventIs Q c part event
unfolding Says
round_is Q c part event word says =
    let first : IsNumber 1 (min c.changes change_limit) (natural_in 1 part) says.1.0 = slot_number 1 (min c.changes change_limit) says.1.0 (at 1 part) says.1.1 in
    let second : IsNumber 1 turn_limit (natural_in 2 part) says.1.2.0 = slot_number 1 turn_limit says.1.2.0 (at 2 part) says.1.2.1 in
    let is : EventIs Q c part (Other (Round says.1.0 says.1.2.0)) = record {
      keeps = ((within_first c.changes change_limit says.1.0 first.within.0 first.within.1, second.within), refl);
      weighs = round_weighs c part says.1.2.0 word (three_items part says.0) first.tested second.tested second.is;
      edits = All-nil Q;
    } in
    subst (EventIs Q c part) says.1.2.2 is

by_word : {E : Type 0} (edit : Form E) (Q : E → Type 0) (c : Counts) (part : Data) (event : ReadEvent E) (so : Bool) → is_word part (codes "round") ≡ so
    → Holds edit Q
    → IfSo so (Says (arguments 1 (change c ▹ turns ▹ done) (λ change turns. Other (Round change turns))) part event)
    (Says (elementary_form edit c) part event)
    → EventIs Q c part event
by_word edit Q c part event true word holds says = round_is Q c part event word says
by_word edit Q c part event false word holds says =
    let is : IsKept Q c event = kept (elementary_form edit c) (IsKept Q c) part event (elementary_holds edit c Q holds) says in
    record { keeps = is.keeps; weighs = is.light ∙ one_weighs c part word; edits = is.edits }

event_is : {E : Type 0} (edit : Form E) (Q : E → Type 0) (c : Counts) (part : Data) (event : ReadEvent E) → Holds edit Q
    → Says (event_form edit c) part event → EventIs Q c part event
unfolding Says event_form
event_is edit Q c part event holds says = by_word edit Q c part event (is_word part (codes "round")) refl holds says

-- ---- all events

-- events that are said of a list
pub record EventsAre {E : Type 0} (Q : E → Type 0) (c : Counts) (weight : ℕ) (events : List (ReadEvent E)) : Type 0 where
  pub keep : All (ReadKeeps c) events
  pub weigh : sum_by read_weight events ≡ weight
  pub edits : All Q (edits_of_events events)

each_is : {E : Type 0} (edit : Form E) (Q : E → Type 0) (c : Counts) → Holds edit Q → (n : ℕ) (items : Items) (events : List (ReadEvent E))
    → Each (λ k part event. Says (event_form edit c) part event) n items events → EventsAre Q c (total (event_weight c) items) events
unfolding Each
each_is edit Q c holds n no_items [] each = record { keep = All-nil _; weigh = refl; edits = All-nil Q }
each_is edit Q c holds n no_items (x ∷ xs) each = absurd each
each_is edit Q c holds n (item part rest) [] each = absurd each
each_is edit Q c holds n (item part rest) (x ∷ xs) each =
    let is : EventIs Q c part x = event_is edit Q c part x holds each.0 in
    let more : EventsAre Q c (total (event_weight c) rest) xs = each_is edit Q c holds (suc n) rest xs each.1 in
    record {
      keep = All-cons (ReadKeeps c) x xs is.keeps more.keep;
      weigh = omega (arith, is.weighs, more.weigh, sum_by-append read_weight (x ∷ []) xs);
      edits = All-append Q (edit_of_event x) (edits_of_events xs) is.edits more.edits;
    }

pub events_keep : {E : Type 0} (edit : Form E) (c : Counts) (whole : Data) (events : List (ReadEvent E)) → Says (events_form edit c) whole events
    → EventsKeep c events
unfolding Says events_form
events_keep edit c whole events says =
    let are : EventsAre (λ e. Unit {0}) c (total (event_weight c) says.items) events =
    each_is edit (λ e. Unit {0}) c (always edit (λ e. Unit {0}) (λ e. tt)) 0 says.items events says.each in
    record { keep = are.keep; weigh = omega (arith, are.weigh, says.light) }

-- what holds of all edits that can be said holds of the edits of operators
pub edits_keep : {E : Type 0} (edit : Form E) (Q : E → Type 0) (c : Counts) (whole : Data) (events : List (ReadEvent E)) → Holds edit Q
    → Says (events_form edit c) whole events → All Q (edits_of_events events)
unfolding Says events_form
edits_keep edit Q c whole events holds says =
    let are : EventsAre Q c (total (event_weight c) says.items) events = each_is edit Q c holds 0 says.items events says.each in are.edits
