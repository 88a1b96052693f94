-- Tables in order, line by line.
use Rattle.std.proofs.Common.{◌≡◌, ℕ, List, length, Bool, true, false, cond, Option, Some, None, Result, Ok, Err}
use Rattle.std.specs.Prelude.{◌&&◌, nat_le, nat_lt}
use Rattle.serde_json.specs.Data.{Data}
use Rattle.serde_json.specs.Find.{as_bool, as_str}
use Rattle.nm_proto.specs.declared.kind.ScenarioKind.TheVariants.{BadValue}
use Rattle.nm_scenario_form.specs.Reading.{natural_of, plain}
use Rattle.nm_scenario_form.specs.declared.fault.Cause.{Cause}
use Rattle.nm_scenario_form.specs.Form.{named, next, Form, leaf, made, by, list, object, arguments, no_line, Parts, slot, done, built, count_needed}
use Rattle.nm_scenario_form.specs.Leafs.{number, number_said, number_from, above, above_said, above_from, switch, switch_said, switch_from, text, text_said, text_from}
use Rattle.nm_scenario_form.specs.Places.{IsThere, InOrder, AreNamed, AreNumbered}

-- ---- leafs

tested_there : {A : Type 0} (b : Bool) (x : A) → IsThere (cond b (Ok x) (Err (plain BadValue)))
tested_there true x = tt
tested_there false x = λ e. cc

number_there : (low high : ℕ) (o : Option ℕ) → IsThere (number_from low high o)
number_there low high None = λ e. cc
number_there low high (Some n) = tested_there (nat_le low n && nat_le n high) n

pub number_in_order : (low high : ℕ) → InOrder (number low high)
unfolding InOrder number_said
number_in_order low high = λ whole. number_there low high (natural_of whole)

above_there : (low high : ℕ) (o : Option ℕ) → IsThere (above_from low high o)
above_there low high None = λ e. cc
above_there low high (Some n) = tested_there (nat_lt low n && nat_le n high) n

pub above_in_order : (low high : ℕ) → InOrder (above low high)
unfolding InOrder above_said
above_in_order low high = λ whole. above_there low high (natural_of whole)

switch_there : (o : Option Bool) → IsThere (switch_from o)
switch_there None = λ e. cc
switch_there (Some on) = tt

pub switch_in_order : InOrder switch
unfolding InOrder switch_said
switch_in_order = λ whole. switch_there (as_bool whole)

text_there : (low high : ℕ) (o : Option (List ℕ)) → IsThere (text_from low high o)
text_there low high None = λ e. cc
text_there low high (Some bytes) = tested_there (nat_le low (length bytes) && nat_le (length bytes) high) bytes

pub text_in_order : (low high : ℕ) → InOrder (text low high)
unfolding InOrder text_said
text_in_order low high = λ whole. text_there low high (as_str whole)

pub leaf_in_order : {A : Type 0} (read : Data → Result A Cause) → ((whole : Data) → IsThere (read whole)) → InOrder (leaf read)
unfolding InOrder
leaf_in_order read there = there

-- ---- what stands around them

pub made_in_order : {B A : Type 0} (make : B → A) (form : Form B) → InOrder form → InOrder (made make form)
unfolding InOrder
made_in_order make form order = order

pub by_in_order : {A : Type 0} (form : Data → Form A) → ((whole : Data) → InOrder (form whole)) → InOrder (by form)
unfolding InOrder
by_in_order form order = order

pub list_in_order : {A : Type 0} (low high : ℕ) (weight : Data → ℕ) (form : ℕ → Form A) → ((n : ℕ) → InOrder (form n))
    → InOrder (list low high weight form)
unfolding InOrder
list_in_order low high weight form order = order

pub object_in_order : {F A : Type 0} (knows : List ℕ → Bool) (parts : Parts F A) (make : F) → AreNamed parts → InOrder (object knows parts make)
unfolding InOrder
object_in_order knows parts make order = order

pub arguments_in_order : {F A : Type 0} (n : ℕ) (parts : Parts F A) (make : F) → AreNumbered parts → InOrder (arguments n parts make)
unfolding InOrder
arguments_in_order n parts make order = order

pub built_in_order : {F A : Type 0} (word : List ℕ) (parts : Parts F A) (make : F) (others : Form A) → AreNumbered parts → InOrder others
    → InOrder (built word parts make others)
unfolding InOrder
built_in_order word parts make others order more = (order, more)

pub no_line_in_order : (A : Type 0) → InOrder (no_line {A = A})
unfolding InOrder
no_line_in_order A = tt

-- ---- parts

pub no_more_named : (A : Type 0) → AreNamed (done {A = A})
unfolding InOrder
no_more_named A = tt

pub member_in_order : {B F A : Type 0} (name : List ℕ) (default : Option B) (form : Form B) (parts : Parts F A) → InOrder form → AreNamed parts
    → AreNamed (slot (named name) default form parts)
unfolding InOrder
member_in_order name default form parts order more = (tt, (order, more))

pub no_more_numbered : (A : Type 0) → AreNumbered (done {A = A})
unfolding InOrder
no_more_numbered A = tt

pub argument_in_order : {B F A : Type 0} (form : Form B) (parts : Parts F A) → InOrder form → AreNumbered parts
    → AreNumbered (slot next None form parts)
unfolding InOrder
argument_in_order form parts order more = (tt, (tt, (order, more)))

pub last_in_order : {B F A : Type 0} (missing : B) (form : Form B) (parts : Parts F A) → count_needed parts ≡ 0 → InOrder form → AreNumbered parts
    → AreNumbered (slot next (Some missing) form parts)
unfolding InOrder
last_in_order missing form parts last order more = (tt, (last, (order, more)))

pub ruleset in_order = (
  number_in_order,
  above_in_order,
  switch_in_order,
  text_in_order,
  made_in_order,
  object_in_order,
  arguments_in_order,
  no_more_named,
  member_in_order,
  no_more_numbered,
  argument_in_order,
  last_in_order,
)
