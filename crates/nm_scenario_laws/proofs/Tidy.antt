-- The members of what is read of a text ascend.
use Rattle.std.proofs.Common.{◌≡◌, ℕ, zero, suc, List, [], ◌∷◌, Bool, true, false, cond, Option, Some, None, option_map, option_and_then, Ordering, Less, Equal, Greater, refl, ap, subst, ◌∙◌}
use Rattle.std.specs.Str.{is_utf8}
use Rattle.std.specs.Ordering.{nat_cmp, match_ordering, ordering_reverse}
use Rattle.std.specs.Cmp.Lexicographic.{slice_cmp}
use Rattle.std.proofs.lemmas.Cmp.{nat_list_cmp_total}
use Rattle.json.specs.Lex.{tokens}
use Rattle.json.specs.Json as json
use Rattle.serde_json.specs.Data.{Num, Data, null, boolean, number, string, array, object, Items, no_items, item, Members, no_members, member, put}
use Rattle.serde_json.specs.Find.{get_member, get_item, as_object}
use Rattle.serde_json.specs.Read.{of_json, of_items, of_members, read, number_of}
use Rattle.nm_scenario_form.specs.declared.fault.Step.{Step}
use Rattle.nm_scenario_form.specs.declared.fault.Step.TheVariants.{Name, Item}
use Rattle.nm_scenario.specs.Scenario.{json_of}
use Rattle.nm_scenario_form.specs.Places.{stepped, walked}
use Rattle.nm_scenario_laws.specs.Order.{AllAbove, Ascending}

mutual
  -- the members of all objects ascend
  IsTidy : Data → Type 0
  IsTidy null = Unit {0}
  IsTidy (boolean b) = Unit {0}
  IsTidy (number n) = Unit {0}
  IsTidy (string text) = Unit {0}
  IsTidy (array items) = ItemsTidy items
  IsTidy (object members) = Ascending members × MembersTidy members

  ItemsTidy : Items → Type 0
  ItemsTidy no_items = Unit {0}
  ItemsTidy (item part rest) = IsTidy part × ItemsTidy rest

  MembersTidy : Members → Type 0
  MembersTidy no_members = Unit {0}
  MembersTidy (member name part rest) = IsTidy part × MembersTidy rest

-- ---- members that are put

above_put : (o : Ordering) (l k m : List ℕ) (d e : Data) (rest : Members) → slice_cmp nat_cmp l k ≡ Less → slice_cmp nat_cmp l m ≡ Less → AllAbove l rest → AllAbove l (put k d rest)
    → AllAbove l (match_ordering o (member k d (member m e rest)) (member m d rest) (member m e (put k d rest)))
above_put Less l k m d e rest less next above later = (less, (next, above))
above_put Equal l k m d e rest less next above later = (next, above)
above_put Greater l k m d e rest less next above later = (next, later)

put_above : (l k : List ℕ) (d : Data) (members : Members) → slice_cmp nat_cmp l k ≡ Less → AllAbove l members → AllAbove l (put k d members)
put_above l k d no_members less above = (less, tt)
put_above l k d (member m e rest) less above = above_put (slice_cmp nat_cmp k m) l k m d e rest less above.0 above.1 (put_above l k d rest less above.1)

above_less : (k m : List ℕ) (rest : Members) → slice_cmp nat_cmp k m ≡ Less → AllAbove m rest → AllAbove k rest
above_less k m no_members less above = tt
above_less k m (member n e rest) less above = (nat_list_cmp_total.trans k m n less above.0, above_less k m rest less above.1)

ascend_put : (o : Ordering) (k m : List ℕ) (d e : Data) (rest : Members) → slice_cmp nat_cmp k m ≡ o → AllAbove m rest → Ascending rest → Ascending (put k d rest)
    → Ascending (match_ordering o (member k d (member m e rest)) (member m d rest) (member m e (put k d rest)))
ascend_put Less k m d e rest is above ascend later = ((is, above_less k m rest is above), (above, ascend))
ascend_put Equal k m d e rest is above ascend later = (above, ascend)
ascend_put Greater k m d e rest is above ascend later = (put_above m k d rest (nat_list_cmp_total.antisymm m k ∙ ap ordering_reverse is) above, later)

put_ascending : (k : List ℕ) (d : Data) (members : Members) → Ascending members → Ascending (put k d members)
put_ascending k d no_members ascend = (tt, tt)
put_ascending k d (member m e rest) ascend = ascend_put (slice_cmp nat_cmp k m) k m d e rest refl ascend.0 ascend.1 (put_ascending k d rest ascend.1)

tidy_put : (o : Ordering) (k m : List ℕ) (d e : Data) (rest : Members) → IsTidy d → IsTidy e → MembersTidy rest → MembersTidy (put k d rest)
    → MembersTidy (match_ordering o (member k d (member m e rest)) (member m d rest) (member m e (put k d rest)))
unfolding IsTidy
tidy_put Less k m d e rest new old tidy later = (new, (old, tidy))
tidy_put Equal k m d e rest new old tidy later = (new, tidy)
tidy_put Greater k m d e rest new old tidy later = (old, later)

put_tidy : (k : List ℕ) (d : Data) (members : Members) → IsTidy d → MembersTidy members → MembersTidy (put k d members)
unfolding IsTidy
put_tidy k d no_members new tidy = (new, tt)
put_tidy k d (member m e rest) new tidy = tidy_put (slice_cmp nat_cmp k m) k m d e rest new tidy.0 tidy.1 (put_tidy k d rest new tidy.1)

-- ---- what is read

abbrev IfTidy : Option Data → Type 0
IfTidy None = Unit {0}
IfTidy (Some d) = IsTidy d

abbrev IfItems : Option Items → Type 0
IfItems None = Unit {0}
IfItems (Some items) = ItemsTidy items

abbrev IfMembers : Option Members → Type 0
IfMembers None = Unit {0}
IfMembers (Some members) = Ascending members × MembersTidy members

number_tidy : (n : Option Num) → IfTidy (option_map number n)
unfolding IsTidy
number_tidy None = tt
number_tidy (Some n) = tt

array_tidy : (items : Option Items) → IfItems items → IfTidy (option_map array items)
unfolding IsTidy
array_tidy None is = tt
array_tidy (Some items) is = is

object_tidy : (members : Option Members) → IfMembers members → IfTidy (option_map object members)
unfolding IsTidy
object_tidy None is = tt
object_tidy (Some all) is = is

item_tidy : (first : Option Data) (rest : Option Items) → IfTidy first → IfItems rest → IfItems (option_and_then (λ d. option_map (item d) rest) first)
unfolding IsTidy
item_tidy None rest is also = tt
item_tidy (Some d) None is also = tt
item_tidy (Some d) (Some items) is also = (is, also)

member_tidy : (first : Option Data) (name : List ℕ) (rest : json.Members) (found : Members) → IfTidy first → ((d : Data) → IsTidy d → IfMembers (of_members rest (put name d found))) → IfMembers (option_and_then (λ d. of_members rest (put name d found)) first)
member_tidy None name rest found is later = tt
member_tidy (Some d) name rest found is later = later d is

mutual
  unfolding IsTidy

  value_tidy : (value : json.Json) → IfTidy (of_json value)
  value_tidy json.null = tt
  value_tidy (json.boolean b) = tt
  value_tidy (json.number s) = number_tidy (number_of s)
  value_tidy (json.string s) = tt
  value_tidy (json.array values) = array_tidy (of_items values) (items_tidy values)
  value_tidy (json.object members) = object_tidy (of_members members no_members) (members_tidy members no_members tt tt)

  items_tidy : (values : json.Items) → IfItems (of_items values)
  items_tidy json.no_items = tt
  items_tidy (json.item value values) = item_tidy (of_json value) (of_items values) (value_tidy value) (items_tidy values)

  members_tidy : (members : json.Members) (found : Members) → Ascending found → MembersTidy found → IfMembers (of_members members found)
  members_tidy json.no_members found ascend tidy = (ascend, tidy)
  members_tidy (json.member name value rest) found ascend tidy =
      member_tidy (of_json value) name rest found (value_tidy value) (λ d is. members_tidy rest (put name d found) (put_ascending name d found ascend) (put_tidy name d found is tidy))

-- ---- parts of what is read

found_tidy : (name : List ℕ) (members : Members) → MembersTidy members → IfTidy (get_member name members)
unfolding IsTidy
found_tidy name no_members tidy = tt
found_tidy name (member l e rest) tidy = chosen (slice_cmp nat_cmp name l) (get_member name rest) e (found_tidy name rest tidy.1) tidy.0
  where
    chosen : (o : Ordering) (later : Option Data) (e : Data) → IfTidy later → IsTidy e → IfTidy (match_ordering o later (Some e) later)
    chosen Less later e is also = is
    chosen Equal later e is also = also
    chosen Greater later e is also = is

item_found : (n : ℕ) (items : Items) → ItemsTidy items → IfTidy (get_item n items)
unfolding IsTidy
item_found n no_items tidy = tt
item_found zero (item part rest) tidy = tidy.0
item_found (suc n) (item part rest) tidy = item_found n rest tidy.1

step_tidy : (step : Step) (part : Data) → IsTidy part → IfTidy (stepped step part)
unfolding IsTidy
step_tidy (Name name) (object members) tidy = found_tidy name members tidy.1
step_tidy (Name name) null tidy = tt
step_tidy (Name name) (boolean b) tidy = tt
step_tidy (Name name) (number n) tidy = tt
step_tidy (Name name) (string text) tidy = tt
step_tidy (Name name) (array items) tidy = tt
step_tidy (Item n) (array items) tidy = item_found n items tidy
step_tidy (Item n) null tidy = tt
step_tidy (Item n) (boolean b) tidy = tt
step_tidy (Item n) (number m) tidy = tt
step_tidy (Item n) (string text) tidy = tt
step_tidy (Item n) (object all) tidy = tt

walk_tidy : (place : List Step) (part : Data) → IsTidy part → IfTidy (walked place part)
walk_tidy [] part tidy = tidy
walk_tidy (step ∷ place) part tidy = further (stepped step part) (step_tidy step part tidy) (λ child is. walk_tidy place child is)
  where
    further : (found : Option Data) → IfTidy found → ((child : Data) → IsTidy child → IfTidy (walked place child)) → IfTidy (option_and_then (walked place) found)
    further None is later = tt
    further (Some child) is later = later child is

object_ascends : (part : Data) (all : Members) → as_object part ≡ Some all → IsTidy part → Ascending all
unfolding IsTidy
object_ascends (object m) all e tidy = let same : m ≡ all = cc in subst Ascending same tidy.0
object_ascends null all e tidy = cc
object_ascends (boolean b) all e tidy = cc
object_ascends (number n) all e tidy = cc
object_ascends (string text) all e tidy = cc
object_ascends (array items) all e tidy = cc

spelled_tidy : (value : Option json.Json) → IfTidy (option_and_then of_json value)
spelled_tidy None = tt
spelled_tidy (Some value) = value_tidy value

read_tidy : (text : List ℕ) → IfTidy (read text)
read_tidy text = spelled_tidy (option_and_then (λ p. json.if_last p.0 p.1) (json.value 127 (tokens text)))

json_tidy : (bytes : List ℕ) (utf8 : Bool) → IfTidy (cond utf8 (read bytes) None)
json_tidy bytes true = read_tidy bytes
json_tidy bytes false = tt

-- the members of each object in what is read of bytes ascend
pub parts_ascend : (bytes : List ℕ) (whole : Data) (place : List Step) (part : Data) (members : Members) → json_of bytes ≡ Some whole → walked place whole ≡ Some part → as_object part ≡ Some members → Ascending members
parts_ascend bytes whole place part members e there is =
    let tidy : IsTidy whole = subst IfTidy e (json_tidy bytes (is_utf8 bytes)) in
    object_ascends part members is (subst IfTidy there (walk_tidy place whole tidy))
