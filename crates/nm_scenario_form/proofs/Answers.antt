-- What reading answers, against what is said and what is wrong: piece by piece, apart from forms.
use Rattle.std.proofs.Common.{◌≡◌, ◌<◌, ℕ, suc, ◌+◌, List, [], ◌∷◌, ◌++◌, Bool, true, false, cond, nat_lt, Option, Some, None, Result, Ok, Err, inl, inr, refl, ap, sym, subst, ◌∙◌, arith, append_assoc, append-nil, add-one}
use Rattle.std.proofs.lemmas.Bool.{ltb-false, ltb-true}
use Rattle.serde_json.specs.Data.{Data, Items, no_items, item, Members, no_members, member}
use Rattle.serde_json.specs.Find.{as_array, as_object}
use Rattle.nm_proto.specs.declared.kind.ScenarioKind.TheVariants.{Missing, Unknown, BadValue, TooMany}
use Rattle.nm_scenario_form.specs.declared.fault.Step.{Step}
use Rattle.nm_scenario_form.specs.declared.fault.Step.TheVariants.{Name, Item}
use Rattle.nm_scenario_form.specs.Reading.{count_of, plain, ◌>>=◌, here, there, under}
use Rattle.nm_scenario_form.specs.declared.fault.Cause.{Cause}
use Rattle.nm_scenario_form.specs.declared.fault.Fault.{Fault}
use Rattle.nm_scenario_form.specs.Order.{Faults, NotAfter, IsFirst, Either, Here, At, Inside}
use Rattle.nm_scenario_form.specs.Form.{Key}
use Rattle.nm_scenario_form.specs.Says.{total, Each, SaysList, SaysSlot, AllKnown, SaysObject, IfSo}
use Rattle.nm_scenario_form.specs.Wrong.{step_of, WrongLeaf, WrongItems, WrongList, WrongNames, WrongObject, WrongSlot, WrongCount, ByWord, WrongLine}
use Rattle.nm_scenario_form.specs.Read.{told, slot_read, items_after, fits, items_read, object_from, names_read, names_from, takes_read, line_read}
use Rattle.nm_scenario_form.proofs.Orders.{Precedes, early_first, late_first, neither, IsBelow, IsFrom, from_less, heads_precede, here_first, at_first, inside_first, here_below, at_below, at_from, inside_below, inside_from, here_precedes, precedes_both}

-- nothing is wrong
abbrev pub None_wrong : Faults → Type 0
None_wrong wrong = (cause : Cause) (place : List Step) (spot : List ℕ) → wrong cause place spot → ⊥

-- what was read is said and nothing is wrong, or the first fault of those that are wrong is told
abbrev pub Answers : {A : Type 0} → (A → Type 0) → Faults → Result A Fault → Type 0
Answers says wrong (Ok x) = says x × None_wrong wrong
Answers says wrong (Err fault) = IsFirst wrong fault

-- all that is wrong is in the part from number n on, or before it
abbrev pub AllFrom : ℕ → Faults → Type 0
AllFrom n wrong = (c : Cause) (p : List Step) (s : List ℕ) → wrong c p s → IsFrom n s

abbrev pub AllBelow : ℕ → Faults → Type 0
AllBelow n wrong = (c : Cause) (p : List Step) (s : List ℕ) → wrong c p s → IsBelow n s

-- ---- a part, and then more

-- a part is read, and then the rest, whose faults come after those of the part
module _ {A B : Type 0} (says : A → Type 0) (also : A → B → Type 0) (early late : Faults) (order : Precedes early late) where
  late_answers : (x : A) → says x → None_wrong early → (r : Result B Fault) → Answers (also x) late r
      → Answers (λ y. (z : A) × says z × also z y) (Either early late) r
  late_answers x said none (Ok y) rest = ((x, said, rest.0), neither early late none rest.1)
  late_answers x said none (Err fault) rest = late_first early late fault none rest

  pub then_answers : (r : Result A Fault) (go_on : A → Result B Fault) → Answers says early r → ((x : A) → Answers (also x) late (go_on x))
      → Answers (λ y. (z : A) × says z × also z y) (Either early late) (r >>= go_on)
  then_answers (Ok x) go_on first rest = late_answers x first.0 first.1 (go_on x) (rest x)
  then_answers (Err fault) go_on first rest = early_first early late fault order first

-- what was read is made into something that is said
pub answers_said : {A : Type 0} (says other : A → Type 0) (wrong : Faults) (r : Result A Fault) → ((x : A) → says x → other x)
    → Answers says wrong r → Answers other wrong r
answers_said says other wrong (Ok x) turn a = (turn x a.0, a.1)
answers_said says other wrong (Err fault) turn a = a

pub made_answers : {A B : Type 0} (says : A → Type 0) (wrong : Faults) (make : A → B) (r : Result A Fault) → Answers says wrong r
    → Answers (λ y. (x : A) × says x × (make x ≡ y)) wrong (r >>= (λ value. Ok (make value)))
made_answers says wrong make (Ok x) a = ((x, a.0, refl), a.1)
made_answers says wrong make (Err fault) a = a

-- ---- leafs

leaf_same : {A : Type 0} (f : Data → Result A Cause) (whole : Data) (cause c : Cause) (p : List Step) (s : List ℕ) → f whole ≡ Err cause
    → WrongLeaf f whole c p s → c ≡ cause
leaf_same {A = A} f whole cause c p s e wrong = let both : ◌≡◌ {A = Result A Cause} (Err c) (Err cause) = sym wrong.told ∙ e in cc

leaf_order : {A : Type 0} (f : Data → Result A Cause) (whole : Data) (cause c : Cause) (p : List Step) (s : List ℕ) → f whole ≡ Err cause
    → WrongLeaf f whole c p s → NotAfter [] cause.kind s c.kind
unfolding NotAfter
leaf_order f whole cause c p s e wrong = let same : c ≡ cause = leaf_same f whole cause c p s e wrong in
    rw (wrong.spot_is, same) (omega arith)

pub leaf_answers : {A : Type 0} (f : Data → Result A Cause) (whole : Data) (r : Result A Cause) → f whole ≡ r
    → Answers (λ x. f whole ≡ Ok x) (WrongLeaf f whole) (told r)
leaf_answers f whole (Ok x) e = (e, λ c p s wrong. let clash : Ok x ≡ Err c = sym e ∙ wrong.told in cc)
leaf_answers f whole (Err cause) e = record {
  spot = [];
  there = record { told = e; place_is = refl; spot_is = refl };
  first = λ c p s wrong. leaf_order f whole cause c p s e wrong;
  alone = λ c p wrong same. (leaf_same f whole cause c p [] e wrong, wrong.place_is);
}

-- ---- parts

pub inside_answers : {A : Type 0} (step : Step) (n : ℕ) (says : A → Type 0) (wrong : Faults) (r : Result A Fault) → Answers says wrong r
    → Answers says (Inside step n wrong) (under step r)
inside_answers step n says wrong (Ok x) a = (a.0, λ c p s is. a.1 c is.further is.deeper is.is_wrong)
inside_answers step n says wrong (Err fault) a = inside_first step n wrong fault a

module _ {B : Type 0} (says : Data → B → Type 0) (wrong : Data → Faults) (read : Data → Result B Fault) (key : Key) (n : ℕ) where
  pub slot_answers : (default : Option B) (part : Option Data) → ((part : Data) → Answers (says part) (wrong part) (read part))
      → Answers (SaysSlot says default part) (WrongSlot wrong key n default part) (slot_read read (step_of key n) default part)
  unfolding WrongSlot
  slot_answers default (Some part) a = inside_answers (step_of key n) n (says part) (wrong part) (read part) (a part)
  slot_answers (Some missing) None a = (refl, λ c p s is. is)
  slot_answers None None a = at_first (Unit {0}) Missing (step_of key n) n tt

  pub slot_from : (default : Option B) (part : Option Data) → AllFrom n (WrongSlot wrong key n default part)
  unfolding WrongSlot
  slot_from default (Some part) c p s is = inside_from n (step_of key n) (wrong part) c p s is
  slot_from (Some missing) None c p s is = absurd is
  slot_from None None c p s is = at_from n (Unit {0}) Missing (step_of key n) c p s is

  pub slot_below : (default : Option B) (part : Option Data) → AllBelow (suc n) (WrongSlot wrong key n default part)
  unfolding WrongSlot
  slot_below default (Some part) c p s is = inside_below n (step_of key n) (wrong part) c p s is
  slot_below (Some missing) None c p s is = absurd is
  slot_below None None c p s is = at_below n (Unit {0}) Missing (step_of key n) c p s is

-- ---- lists

-- the items from number n on
abbrev pub items_from : {A : Type 0} → (ℕ → Data → Result A Fault) → ℕ → Items → Result (List A) Fault
items_from read n no_items = Ok []
items_from read n (item part rest) = do
  value ← under (Item n) (read n part)
  values ← items_from read (suc n) rest
  Ok (value ∷ values)

abbrev pub after_those : {A : Type 0} → List A → Result (List A) Fault → Result (List A) Fault
after_those before r = do
  values ← r
  Ok (before ++ values)

added : {A : Type 0} (before : List A) (value : A) (r : Result (List A) Fault)
    → after_those (before ++ value ∷ []) r ≡ after_those before (r >>= (λ values. Ok (value ∷ values)))
added before value (Ok values) = ap Ok (append_assoc before (value ∷ []) values)
added before value (Err fault) = refl

after_one : {A : Type 0} (read : ℕ → Data → Result A Fault) (before : List A) (n : ℕ) (rest : Items) (r : Result A Fault)
    → ((more : List A) → items_after read more (suc n) rest ≡ after_those more (items_from read (suc n) rest))
    → (r >>= (λ value. items_after read (before ++ value ∷ []) (n + 1) rest)) ≡ after_those before
    (r >>= (λ value. items_from read (suc n) rest >>= (λ values. Ok (value ∷ values))))
after_one read before n rest (Ok value) same = rw add-one (same (before ++ value ∷ []) ∙ added before value (items_from read (suc n) rest))
after_one read before n rest (Err fault) same = refl

all_from : {A : Type 0} (read : ℕ → Data → Result A Fault) (before : List A) (n : ℕ) (items : Items)
    → items_after read before n items ≡ after_those before (items_from read n items)
all_from read before n no_items = ap Ok (sym (append-nil before))
all_from read before n (item part rest) = after_one read before n rest (under (Item n) (read n part))
    (λ more. all_from read more (suc n) rest)

none_before : {A : Type 0} (r : Result (List A) Fault) → after_those [] r ≡ r
none_before (Ok values) = refl
none_before (Err fault) = refl

pub all_items : {A : Type 0} (read : ℕ → Data → Result A Fault) (items : Items) → items_after read [] 0 items ≡ items_from read 0 items
all_items read items = all_from read [] 0 items ∙ none_before (items_from read 0 items)

pub items_all_from : (wrong : ℕ → Data → Faults) (n : ℕ) (items : Items) → AllFrom n (WrongItems wrong n items)
unfolding WrongItems
items_all_from wrong n no_items c p s is = absurd is
items_all_from wrong n (item part rest) c p s (inl is) = inside_from n (Item n) (wrong n part) c p s is
items_all_from wrong n (item part rest) c p s (inr is) = from_less n s (items_all_from wrong (suc n) rest c p s is)

module _ {A : Type 0} (says : ℕ → Data → A → Type 0) (wrong : ℕ → Data → Faults) (read : ℕ → Data → Result A Fault)
    (each : (n : ℕ) (part : Data) → Answers (says n part) (wrong n part) (read n part)) where
  item_answers : (n : ℕ) (part : Data) (rest : Items) (r : Result A Fault) → Answers (says n part) (Inside (Item n) n (wrong n part)) r
      → (more : Result (List A) Fault) → Answers (Each says (suc n) rest) (WrongItems wrong (suc n) rest) more
      → Answers (Each says n (item part rest)) (WrongItems wrong n (item part rest))
      (r >>= (λ value. more >>= (λ values. Ok (value ∷ values))))
  unfolding WrongItems Each
  item_answers n part rest (Ok x) a (Ok xs) b =
      ((a.0, b.0), neither (Inside (Item n) n (wrong n part)) (WrongItems wrong (suc n) rest) a.1 b.1)
  item_answers n part rest (Ok x) a (Err fault) b =
      late_first (Inside (Item n) n (wrong n part)) (WrongItems wrong (suc n) rest) fault a.1 b
  item_answers n part rest (Err fault) a more b =
      early_first (Inside (Item n) n (wrong n part)) (WrongItems wrong (suc n) rest) fault
      (heads_precede (suc n) (Inside (Item n) n (wrong n part)) (WrongItems wrong (suc n) rest) (inside_below n (Item n) (wrong n part))
      (items_all_from wrong (suc n) rest)) a

  pub items_answers : (n : ℕ) (items : Items) → Answers (Each says n items) (WrongItems wrong n items) (items_from read n items)
  unfolding WrongItems Each
  items_answers n no_items = (tt, λ c p s is. is)
  items_answers n (item part rest) =
      item_answers n part rest (under (Item n) (read n part))
      (inside_answers (Item n) n (says n part) (wrong n part) (read n part) (each n part)) (items_from read (suc n) rest)
      (items_answers (suc n) rest)

-- enough items that aren't too heavy
abbrev fit_or : Bool → Bool → Result (Unit {0}) Fault
fit_or few heavy = cond few (here BadValue) (cond heavy (here TooMany) (Ok tt))

enough : (low : ℕ) (items : Items) → nat_lt (count_of items) low ≡ false → None_wrong (Here (count_of items < low) BadValue)
enough low items is c p s wrong = let less : count_of items < low = wrong.because in omega (arith, ltb-false (count_of items) low is)

light : (high : ℕ) (weight : Data → ℕ) (items : Items) → nat_lt high (total weight items) ≡ false
    → None_wrong (Here (high < total weight items) TooMany)
light high weight items is c p s wrong = let more : high < total weight items = wrong.because in
    omega (arith, ltb-false high (total weight items) is)

module _ {A : Type 0} (says : ℕ → Data → A → Type 0) (wrong : ℕ → Data → Faults) (read : ℕ → Data → Result A Fault) (low high : ℕ)
    (weight : Data → ℕ) (whole : Data) where
  fitting_answers : (items : Items) → as_array whole ≡ Some items → (few heavy : Bool) → nat_lt (count_of items) low ≡ few
      → nat_lt high (total weight items) ≡ heavy
      → (r : Result (List A) Fault) → Answers (Each says 0 items) (WrongItems wrong 0 items) r
      → Answers (SaysList says low high weight whole) (WrongList wrong low high weight (Some items)) (fit_or few heavy >>= (λ fitting. r))
  unfolding WrongList
  fitting_answers items e true heavy few_is heavy_is r a =
      let few : Faults = Here (count_of items < low) BadValue in
      let much : Faults = Here (high < total weight items) TooMany in
      early_first few (Either much (WrongItems wrong 0 items)) (record { cause = plain BadValue; place = [] })
      (precedes_both few much (WrongItems wrong 0 items)
      (here_precedes (count_of items < low) (high < total weight items) BadValue TooMany (omega arith))
      (heads_precede 0 few (WrongItems wrong 0 items) (here_below 0 (count_of items < low) BadValue) (items_all_from wrong 0 items)))
      (here_first (count_of items < low) BadValue (ltb-true (count_of items) low few_is))
  fitting_answers items e false true few_is heavy_is r a =
      let few : Faults = Here (count_of items < low) BadValue in
      let much : Faults = Here (high < total weight items) TooMany in
      late_first few (Either much (WrongItems wrong 0 items)) (record { cause = plain TooMany; place = [] }) (enough low items few_is)
      (early_first much (WrongItems wrong 0 items) (record { cause = plain TooMany; place = [] })
      (heads_precede 0 much (WrongItems wrong 0 items) (here_below 0 (high < total weight items) TooMany) (items_all_from wrong 0 items))
      (here_first (high < total weight items) TooMany (ltb-true high (total weight items) heavy_is)))
  fitting_answers items e false false few_is heavy_is (Ok xs) a = (
    record {
      items = items;
      is_list = e;
      enough = ltb-false (count_of items) low few_is;
      light =
          ltb-false high (total weight items) heavy_is;
      each = a.0;
    },
    neither (Here (count_of items < low) BadValue) (Either (Here (high < total weight items) TooMany) (WrongItems wrong 0 items))
        (enough low items few_is)
        (neither (Here (high < total weight items) TooMany) (WrongItems wrong 0 items) (light high weight items heavy_is) a.1),
  )
  fitting_answers items e false false few_is heavy_is (Err fault) a =
      late_first (Here (count_of items < low) BadValue) (Either (Here (high < total weight items) TooMany) (WrongItems wrong 0 items))
      fault (enough low items few_is)
      (late_first (Here (high < total weight items) TooMany) (WrongItems wrong 0 items) fault (light high weight items heavy_is) a)

  pub list_answers : (o : Option Items) → as_array whole ≡ o → ((n : ℕ) (part : Data) → Answers (says n part) (wrong n part) (read n part))
      → Answers (SaysList says low high weight whole) (WrongList wrong low high weight o) (items_read read low high weight o)
  unfolding WrongList
  list_answers None e each = here_first (Unit {0}) BadValue tt
  list_answers (Some items) e each =
      subst (λ r. Answers (SaysList says low high weight whole) (WrongList wrong low high weight (Some items))
      (fits low high weight items >>= (λ fitting. r))) (sym (all_items read items))
      (fitting_answers items e (nat_lt (count_of items) low) (nat_lt high (total weight items)) refl refl (items_from read 0 items)
      (items_answers says wrong read each 0 items))

-- ---- objects

pub names_all_from : (knows : List ℕ → Bool) (n : ℕ) (members : Members) → AllFrom n (WrongNames knows n members)
unfolding WrongNames
names_all_from knows n no_members c p s is = absurd is
names_all_from knows n (member name part rest) c p s (inl is) = at_from n (knows name ≡ false) Unknown (Name name) c p s is
names_all_from knows n (member name part rest) c p s (inr is) = from_less n s (names_all_from knows (suc n) rest c p s is)

name_known : (known : Bool) (name : List ℕ) (n : ℕ) → known ≡ true → None_wrong (At (known ≡ false) Unknown (Name name) n)
name_known known name n is c p s wrong = let clash : known ≡ false = wrong.because in cc

name_answers : (knows : List ℕ → Bool) (n : ℕ) (name : List ℕ) (rest : Members) (known : Bool) → knows name ≡ known
    → (r : Result (Unit {0}) Fault) → Answers (λ u. AllKnown knows rest) (WrongNames knows (suc n) rest) r
    → Answers (λ u. (knows name ≡ true) × AllKnown knows rest)
    (Either (At (knows name ≡ false) Unknown (Name name) n) (WrongNames knows (suc n) rest)) (cond known r (there Unknown (Name name)))
name_answers knows n name rest true e (Ok u) a = (
  (e, a.0),
  neither (At (knows name ≡ false) Unknown (Name name) n) (WrongNames knows (suc n) rest) (name_known (knows name) name n e)
      a.1,
)
name_answers knows n name rest true e (Err fault) a =
    late_first (At (knows name ≡ false) Unknown (Name name) n) (WrongNames knows (suc n) rest) fault (name_known (knows name) name n e) a
name_answers knows n name rest false e r a =
    let this : Faults = At (knows name ≡ false) Unknown (Name name) n in
    early_first this (WrongNames knows (suc n) rest) (record { cause = plain Unknown; place = Name name ∷ [] })
    (heads_precede (suc n) this (WrongNames knows (suc n) rest) (at_below n (knows name ≡ false) Unknown (Name name))
    (names_all_from knows (suc n) rest))
    (at_first (knows name ≡ false) Unknown (Name name) n e)

pub names_answers : (knows : List ℕ → Bool) (n : ℕ) (members : Members)
    → Answers (λ u. AllKnown knows members) (WrongNames knows n members) (names_read knows members)
unfolding WrongNames AllKnown
names_answers knows n no_members = (tt, λ c p s is. is)
names_answers knows n (member name part rest) = name_answers knows n name rest (knows name) refl (names_read knows rest)
    (names_answers knows (suc n) rest)

module _ {A : Type 0} (says : A → Type 0) (wrong : Faults) (n : ℕ) (knows : List ℕ → Bool) (whole : Data) (below : AllBelow n wrong) where
  members_answers : (all : Members) → as_object whole ≡ Some all → (r : Result A Fault) → Answers says wrong r
      → (names : Result (Unit {0}) Fault) → Answers (λ u. AllKnown knows all) (WrongNames knows n all) names
      → Answers (SaysObject says knows whole) (WrongObject wrong n knows (Some all)) (r >>= (λ value. names >>= (λ known. Ok value)))
  unfolding WrongObject
  members_answers all e (Err fault) a names b = early_first wrong (WrongNames knows n all) fault
      (heads_precede n wrong (WrongNames knows n all) below (names_all_from knows n all)) a
  members_answers all e (Ok x) a (Ok u) b =
      (record { members = all; is_object = e; known = b.0; parts = a.0 }, neither wrong (WrongNames knows n all) a.1 b.1)
  members_answers all e (Ok x) a (Err fault) b = late_first wrong (WrongNames knows n all) fault a.1 b

  pub object_answers : (o : Option Members) → as_object whole ≡ o → (r : Result A Fault) → Answers says wrong r
      → Answers (SaysObject says knows whole) (WrongObject wrong n knows o)
      (object_from o >>= (λ is_object. r >>= (λ value. names_from knows o >>= (λ known. Ok value))))
  unfolding WrongObject
  object_answers None e r a = here_first (Unit {0}) BadValue tt
  object_answers (Some all) e r a = members_answers all e r a (names_read knows all) (names_answers knows n all)

-- ---- lists of a word

pub count_answers : {A : Type 0} (says : A → Type 0) (wrong : Faults) (right : Bool) (r : Result A Fault) → Answers says wrong r
    → Answers (λ x. (right ≡ true) × says x) (WrongCount right wrong) (takes_read right >>= (λ count. r))
unfolding WrongCount
count_answers says wrong true r a = answers_said says (λ x. (true ≡ true) × says x) wrong r (λ x said. (refl, said)) a
count_answers says wrong false r a = here_first (Unit {0}) BadValue tt

pub word_answers : {A : Type 0} (says other : A → Type 0) (wrong others : Faults) (so : Bool) (r s : Result A Fault) → Answers says wrong r
    → Answers other others s
    → Answers (λ x. IfSo so (says x) (other x)) (ByWord so wrong others) (cond so r s)
unfolding ByWord
word_answers says other wrong others true r s a b = a
word_answers says other wrong others false r s a b = b

pub line_answers : (A : Type 0) (first : Option Data) → Answers {A = A} (λ x. ⊥) (WrongLine first) (line_read first)
unfolding WrongLine
line_answers A None = here_first (Unit {0}) BadValue tt
line_answers A (Some first) = at_first (Unit {0}) BadValue (Item 0) 0 tt
