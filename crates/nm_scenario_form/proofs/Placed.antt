-- The place of each fault leads to a part, or is that of a missing member: for every form in order.
use Rattle.std.proofs.Common.{◌≡◌, ◌≤◌, ◌<◌, ◌+◌, inl, inr, ◌⊎◌, ℕ, zero, suc, List, [], ◌∷◌, Bool, true, false, Option, Some, None, option_and_then, Result, Ok, Err, Ordering, is_eq, Less, Equal, Greater, refl, ap, sym, subst, ◌∙◌, arith}
use Rattle.std.specs.Prelude.{is_some, ◌&&◌, nat_le}
use Rattle.std.proofs.lemmas.Bool.Decides.{nat_tests}
use Rattle.std.specs.Ordering.{nat_cmp, match_ordering}
use Rattle.std.specs.Cmp.Lexicographic.{slice_cmp, bytes_decides, texts_ties}
use Rattle.serde_json.specs.Data.{Data, null, boolean, number, string, array, object, Items, no_items, item, Members, no_members, member}
use Rattle.serde_json.specs.Find.{get, get_member, get_item, at, as_array, as_object}
use Rattle.nm_proto.specs.declared.kind.ScenarioKind.{ScenarioKind}
use Rattle.nm_proto.specs.declared.kind.ScenarioKind.TheVariants.{Missing, Unknown, BadValue, TooMany}
use Rattle.nm_scenario_form.specs.declared.fault.Step.{Step}
use Rattle.nm_scenario_form.specs.declared.fault.Step.TheVariants.{Name, Item}
use Rattle.nm_scenario_form.specs.Reading.{count_of}
use Rattle.nm_scenario_form.specs.Words.{is_word}
use Rattle.nm_scenario_form.specs.declared.fault.Cause.{Cause}
use Rattle.nm_scenario_form.specs.Order.{Faults, Here, At, Inside}
use Rattle.nm_scenario_form.specs.Form.{named, next, Form, leaf, made, by, list, object as an_object, arguments, line, no_line, Parts, done, slot, count_parts, count_needed, and_needed}
use Rattle.nm_scenario_form.specs.Says.{takes}
use Rattle.nm_scenario_form.specs.Wrong.{Wrong, WrongLeaf, WrongParts, WrongSlot, WrongItems, WrongList, WrongNames, WrongObject, WrongCount, ByWord, WrongLine}
use Rattle.nm_scenario_form.specs.Places.{stepped, walked, LacksMember, IsPlace, IsLast, IsThere, InOrder, AreNamed, AreNumbered}

-- all faults have a place
abbrev Placed : Data → Faults → Type 0
Placed whole wrong = (cause : Cause) (place : List Step) (spot : List ℕ) → wrong cause place spot → IsPlace cause.kind place whole

-- ---- faults of a part, and of what stands in it

here_placed : (whole : Data) (why : Type 0) (kind : ScenarioKind) → (kind ≡ Missing → ⊥) → Placed whole (Here why kind)
here_placed whole why kind other cause place spot is =
    let kind_is : cause.kind ≡ kind = ap (λ c. c.kind) is.cause_is in
    rw is.place_is (inl ((λ e. other (sym kind_is ∙ e)), refl))

walked_one : (found : Option Data) → is_some found ≡ true → is_some (option_and_then (walked []) found) ≡ true
walked_one (Some part) e = refl
walked_one None e = cc

at_placed : (whole : Data) (step : Step) (n : ℕ) (why : Type 0) (kind : ScenarioKind) → (kind ≡ Missing → ⊥) → is_some (stepped step whole) ≡ true
    → Placed whole (At why kind step n)
at_placed whole step n why kind other there cause place spot is =
    let kind_is : cause.kind ≡ kind = ap (λ c. c.kind) is.cause_is in
    rw is.place_is (inl ((λ e. other (sym kind_is ∙ e)), walked_one (stepped step whole) there))

-- what lacks a member one step further in
below_lacks : (part child : Data) (step : Step) (place : List Step) → stepped step part ≡ Some child → LacksMember child place
    → LacksMember part (step ∷ place)
below_lacks part child step place there l = record {
  above = step ∷ l.above;
  name = l.name;
  place_is = ap (λ p. step ∷ p) l.place_is;
  part = l.part;
  part_is = ap (option_and_then (walked l.above)) there ∙ l.part_is;
  members = l.members;
  object_is = l.object_is;
  absent = l.absent;
}

inside_one : (whole part : Data) (step : Step) (kind : ScenarioKind) (place : List Step) → stepped step whole ≡ Some part
    → IsPlace kind place part → IsPlace kind (step ∷ place) whole
inside_one whole part step kind place there (inl is) = inl (is.0, ap (λ o. is_some (option_and_then (walked place) o)) there ∙ is.1)
inside_one whole part step kind place there (inr lacks) = inr (lacks.0, below_lacks whole part step place there lacks.1)

inside_placed : (whole part : Data) (step : Step) (n : ℕ) (wrong : Faults) → stepped step whole ≡ Some part → Placed part wrong
    → Placed whole (Inside step n wrong)
inside_placed whole part step n wrong there placed cause place spot is =
    rw is.place_is (inside_one whole part step cause.kind is.further there (placed cause is.further is.deeper is.is_wrong))

-- ---- leafs

leaf_there : {A : Type 0} (r : Result A Cause) (cause : Cause) → r ≡ Err cause → IsThere r → cause.kind ≡ Missing → ⊥
leaf_there (Ok x) cause e there is = cc
leaf_there (Err other) cause e there is = let same : other ≡ cause = cc in there (ap (λ c. c.kind) same ∙ is)

leaf_placed : {A : Type 0} (read : Data → Result A Cause) (whole : Data) → IsThere (read whole) → Placed whole (WrongLeaf read whole)
leaf_placed read whole there cause place spot is = rw is.place_is (inl (leaf_there (read whole) cause is.told there, refl))

-- ---- members

member_placed : {B : Type 0} (whole : Data) (all : Members) (wrong : Data → Faults) (name : List ℕ) (n : ℕ) (default : Option B) (o : Option Data)
    → whole ≡ object all → get name whole ≡ o → ((part : Data) → Placed part (wrong part)) → Placed whole (WrongSlot wrong (named name) n default o)
unfolding WrongSlot
member_placed whole all wrong name n default (Some part) is_object e placed cause place spot is =
    inside_placed whole part (Name name) n (wrong part) e (placed part) cause place spot is
member_placed whole all wrong name n (Some missing) None is_object e placed cause place spot is = absurd is
member_placed whole all wrong name n None None is_object e placed cause place spot is =
    let kind_is : cause.kind ≡ Missing = ap (λ c. c.kind) is.cause_is in
    let lacks : LacksMember whole (Name name ∷ []) = record {
      above = [];
      name = name;
      place_is = refl;
      part = whole;
      part_is = refl;
      members = all;
      object_is = ap as_object is_object;
      absent = sym (ap (get name) is_object) ∙ e;
    } in
    rw is.place_is (inr (kind_is, lacks))

-- a member that an object has is found
data HasMember : List ℕ → Members → Type 0 where
  this : {name : List ℕ} {part : Data} {rest : Members} → HasMember name (member name part rest)
  later : {name other : List ℕ} {first : Data} {rest : Members} → HasMember name rest → HasMember name (member other first rest)

this_found : (o : Ordering) (name : List ℕ) (part : Data) (rest : Members) → slice_cmp nat_cmp name name ≡ o
    → is_some (match_ordering o (get_member name rest) (Some part) (get_member name rest)) ≡ true
this_found Equal name part rest e = refl
this_found Less name part rest e =
    let same : is_eq (slice_cmp nat_cmp name name) ≡ true = sym (texts_ties name name) ∙ (bytes_decides name name).1 refl in
    let other : is_eq (slice_cmp nat_cmp name name) ≡ false = ap is_eq e in cc
this_found Greater name part rest e =
    let same : is_eq (slice_cmp nat_cmp name name) ≡ true = sym (texts_ties name name) ∙ (bytes_decides name name).1 refl in
    let other : is_eq (slice_cmp nat_cmp name name) ≡ false = ap is_eq e in cc

later_found : (o : Ordering) (name : List ℕ) (first : Data) (rest : Members) → is_some (get_member name rest) ≡ true
    → is_some (match_ordering o (get_member name rest) (Some first) (get_member name rest)) ≡ true
later_found Less name first rest e = e
later_found Equal name first rest e = refl
later_found Greater name first rest e = e

is_found : (name : List ℕ) (members : Members) → HasMember name members → is_some (get_member name members) ≡ true
is_found name no_members has = elim has [ ]
is_found name (member other part rest) this = this_found (slice_cmp nat_cmp name name) name part rest refl
is_found name (member other first rest) (later has) =
    later_found (slice_cmp nat_cmp name other) name first rest (is_found name rest has)

names_placed : (whole : Data) (knows : List ℕ → Bool) (n : ℕ) (members : Members)
    → ((name : List ℕ) → HasMember name members → is_some (get name whole) ≡ true) → Placed whole (WrongNames knows n members)
unfolding WrongNames
names_placed whole knows n no_members there cause place spot is = absurd is
names_placed whole knows n (member name part rest) there cause place spot (inl is) =
    at_placed whole (Name name) n _ Unknown (λ e. cc) (there name this) cause place spot is
names_placed whole knows n (member name part rest) there cause place spot (inr is) =
    names_placed whole knows (suc n) rest (λ other has. there other (later has)) cause place spot is

is_an_object : (whole : Data) (all : Members) → as_object whole ≡ Some all → whole ≡ object all
is_an_object (object others) all e = let same : others ≡ all = cc in ap object same
is_an_object null all e = cc
is_an_object (boolean b) all e = cc
is_an_object (number n) all e = cc
is_an_object (string text) all e = cc
is_an_object (array items) all e = cc

object_placed : (whole : Data) (wrong : Faults) (n : ℕ) (knows : List ℕ → Bool) (o : Option Members) → as_object whole ≡ o
    → ((all : Members) → whole ≡ object all → Placed whole wrong) → Placed whole (WrongObject wrong n knows o)
unfolding WrongObject
object_placed whole wrong n knows None e placed cause place spot is = here_placed whole _ BadValue (λ f. cc) cause place spot is
object_placed whole wrong n knows (Some all) e placed cause place spot (inl is) =
    placed all (is_an_object whole all e) cause place spot is
object_placed whole wrong n knows (Some all) e placed cause place spot (inr is) =
    names_placed whole knows n all
    (λ name has. ap (λ d. is_some (get name d)) (is_an_object whole all e) ∙ is_found name all has) cause place spot is

-- ---- items

items_placed : (whole : Data) (wrong : ℕ → Data → Faults) (n : ℕ) (items : Items)
    → ((k : ℕ) (part : Data) → get_item k items ≡ Some part → at (n + k) whole ≡ Some part)
    → ((k : ℕ) (part : Data) → Placed part (wrong k part)) → Placed whole (WrongItems wrong n items)
unfolding WrongItems
items_placed whole wrong n no_items at_number placed cause place spot is = absurd is
items_placed whole wrong n (item part rest) at_number placed cause place spot (inl is) =
    let zero_more : n + 0 ≡ n = omega arith in
    inside_placed whole part (Item n) n (wrong n part) (subst (λ k. at k whole ≡ Some part) zero_more (at_number 0 part refl))
    (placed n part) cause place spot is
items_placed whole wrong n (item part rest) at_number placed cause place spot (inr is) =
    items_placed whole wrong (suc n) rest
    (λ k other e. let one_more : n + suc k ≡ suc n + k = omega arith in
    subst (λ m. at m whole ≡ Some other) one_more (at_number (suc k) other e)) placed cause place spot is

is_array : (whole : Data) (items : Items) → as_array whole ≡ Some items → whole ≡ array items
is_array (array others) items e = let same : others ≡ items = cc in ap array same
is_array null items e = cc
is_array (boolean b) items e = cc
is_array (number n) items e = cc
is_array (string text) items e = cc
is_array (object all) items e = cc

numbered : (items : Items) (whole : Data) → whole ≡ array items → (k : ℕ) (part : Data) → get_item k items ≡ Some part → at (0 + k) whole ≡ Some part
numbered items whole e k part f =
    let same : 0 + k ≡ k = omega arith in
    ap (λ d. at (0 + k) d) e ∙ (ap (λ m. get_item m items) same ∙ f)

list_placed : (whole : Data) (wrong : ℕ → Data → Faults) (low high : ℕ) (weight : Data → ℕ) (o : Option Items) → as_array whole ≡ o
    → ((k : ℕ) (part : Data) → Placed part (wrong k part)) → Placed whole (WrongList wrong low high weight o)
unfolding WrongList
list_placed whole wrong low high weight None e placed cause place spot is = here_placed whole _ BadValue (λ f. cc) cause place spot is
list_placed whole wrong low high weight (Some items) e placed cause place spot (inl is) = here_placed whole _ BadValue (λ f. cc) cause place spot is
list_placed whole wrong low high weight (Some items) e placed cause place spot (inr (inl is)) =
    here_placed whole _ TooMany (λ f. cc) cause place spot is
list_placed whole wrong low high weight (Some items) e placed cause place spot (inr (inr is)) =
    items_placed whole wrong 0 items (numbered items whole (is_array whole items e)) placed cause place spot is

-- ---- arguments

-- a list has parts from number n on, if any of them has to be there
abbrev Enough : ℕ → ℕ → ℕ → Type 0
Enough needed n count = (needed ≡ 0) ⊎ (n + needed ≤ count)

item_there : (items : Items) (n : ℕ) → n < count_of items → get_item n items ≡ None → ⊥
item_there no_items n less e = omega arith
item_there (item part rest) zero less e = cc
item_there (item part rest) (suc n) less e = item_there rest n (omega arith) e

needed_there : (n needed : ℕ) (items : Items) → Enough (suc needed) n (count_of items) → get_item n items ≡ None → ⊥
needed_there n needed items (inl none) e = omega (arith, none)
needed_there n needed items (inr enough) e = item_there items n (omega (arith, enough)) e

more_there : {B : Type 0} (default : Option B) (n needed count : ℕ) → IsLast default needed → Enough (and_needed default needed) n count
    → Enough needed (suc n) count
more_there None n needed count last (inl none) = absurd (omega (arith, none))
more_there None n needed count last (inr enough) = inr (omega (arith, enough))
more_there (Some missing) n needed count last enough = inl last

argument_placed : {B : Type 0} (whole : Data) (items : Items) (wrong : Data → Faults) (n needed : ℕ) (default : Option B) (o : Option Data)
    → whole ≡ array items → at n whole ≡ o → Enough (and_needed default needed) n (count_of items)
    → ((part : Data) → Placed part (wrong part)) → Placed whole (WrongSlot wrong next n default o)
unfolding WrongSlot
argument_placed whole items wrong n needed default (Some part) is_list e enough placed cause place spot is =
    inside_placed whole part (Item n) n (wrong part) e (placed part) cause place spot is
argument_placed whole items wrong n needed (Some missing) None is_list e enough placed cause place spot is = absurd is
argument_placed whole items wrong n needed None None is_list e enough placed cause place spot is =
    absurd (needed_there n needed items enough (sym (ap (at n) is_list) ∙ e))

fewest_there : (low high n : ℕ) → (nat_le low n && nat_le n high) ≡ true → low ≤ n
fewest_there low high n e = grind (arith, nat_tests)

count_placed : (whole : Data) (low high needed n : ℕ) (o : Option Items) → as_array whole ≡ o → low ≡ n + needed → (wrong : Faults)
    → ((items : Items) → whole ≡ array items → Enough needed n (count_of items) → Placed whole wrong) → (right : Bool) → takes low high o ≡ right
    → Placed whole (WrongCount right wrong)
unfolding WrongCount
count_placed whole low high needed n None e same wrong placed true is_right cause place spot is = cc
count_placed whole low high needed n (Some items) e same wrong placed true is_right cause place spot is =
    placed items (is_array whole items e) (inr (omega (arith, same, fewest_there low high (count_of items) is_right))) cause place spot is
count_placed whole low high needed n o e same wrong placed false is_right cause place spot is =
    here_placed whole _ BadValue (λ f. cc) cause place spot is

-- ---- words

word_placed : (whole : Data) (so : Bool) (wrong others : Faults) → Placed whole wrong → Placed whole others
    → Placed whole (ByWord so wrong others)
unfolding ByWord
word_placed whole true wrong others placed also cause place spot is = placed cause place spot is
word_placed whole false wrong others placed also cause place spot is = also cause place spot is

line_placed : (whole : Data) (first : Option Data) → at 0 whole ≡ first → Placed whole (WrongLine first)
unfolding WrongLine
line_placed whole None e cause place spot is = here_placed whole _ BadValue (λ f. cc) cause place spot is
line_placed whole (Some part) e cause place spot is =
    at_placed whole (Item 0) 0 _ BadValue (λ f. cc) (ap is_some e) cause place spot is

mutual
  unfolding Wrong InOrder

  pub placed : {A : Type 0} (form : Form A) (whole : Data) → InOrder form → Placed whole (Wrong form whole)
  placed (leaf f) whole order cause place spot is = leaf_placed f whole (order whole) cause place spot is
  placed (made make form) whole order cause place spot is = placed form whole order cause place spot is
  placed (by form) whole order cause place spot is = placed (form whole) whole (order whole) cause place spot is
  placed (list low high weight form) whole order cause place spot is =
      list_placed whole (λ n part. Wrong (form n) part) low high weight (as_array whole) refl (λ n part. placed (form n) part (order n)) cause
      place spot is
  placed (an_object knows parts make) whole order cause place spot is =
      object_placed whole (WrongParts parts 0 whole) (count_parts parts) knows (as_object whole) refl
      (λ all is_object. members_placed parts 0 whole all is_object order) cause place spot is
  placed (arguments n parts make) whole order cause place spot is =
      count_placed whole (n + count_needed parts) (n + count_parts parts) (count_needed parts) n (as_array whole) refl refl
      (WrongParts parts n whole) (λ items is_list enough. arguments_placed parts n whole items is_list enough order)
      (takes (n + count_needed parts) (n + count_parts parts) (as_array whole)) refl cause place spot is
  placed (line word form others) whole order cause place spot is =
      word_placed whole (is_word whole word) (Wrong form whole) (Wrong others whole) (placed form whole order.0) (placed others whole order.1)
      cause place spot is
  placed no_line whole order cause place spot is = line_placed whole (at 0 whole) refl cause place spot is

  members_placed : {F A : Type 0} (parts : Parts F A) (n : ℕ) (whole : Data) (all : Members) → whole ≡ object all → AreNamed parts
      → Placed whole (WrongParts parts n whole)
  members_placed done n whole all is_object order cause place spot is = absurd is
  members_placed (slot next default form parts) n whole all is_object order cause place spot is = absurd order.0
  members_placed (slot (named name) default form parts) n whole all is_object order cause place spot (inl is) =
      member_placed whole all (λ part. Wrong form part) name n default (get name whole) is_object refl (λ part. placed form part order.1.0) cause
      place spot is
  members_placed (slot (named name) default form parts) n whole all is_object order cause place spot (inr is) =
      members_placed parts (suc n) whole all is_object order.1.1 cause place spot is

  arguments_placed : {F A : Type 0} (parts : Parts F A) (n : ℕ) (whole : Data) (items : Items) → whole ≡ array items
      → Enough (count_needed parts) n (count_of items) → AreNumbered parts → Placed whole (WrongParts parts n whole)
  arguments_placed done n whole items is_list enough order cause place spot is = absurd is
  arguments_placed (slot (named name) default form parts) n whole items is_list enough order cause place spot is = absurd order.0
  arguments_placed (slot next default form parts) n whole items is_list enough order cause place spot (inl is) =
      argument_placed whole items (λ part. Wrong form part) n (count_needed parts) default (at n whole) is_list refl enough
      (λ part. placed form part order.1.1.0) cause place spot is
  arguments_placed (slot next default form parts) n whole items is_list enough order cause place spot (inr is) =
      arguments_placed parts (suc n) whole items is_list (more_there default n (count_needed parts) (count_of items) order.1.0 enough)
      order.1.1.1 cause place spot is
