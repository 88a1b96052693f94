-- What a form says is what is read: for every form.
use Rattle.std.proofs.Common.{◌≡◌, ℕ, suc, ◌+◌, List, [], ◌∷◌, Bool, true, false, cond, Option, Some, None, Result, Ok, refl, ap, ◌∙◌}
use Rattle.std.proofs.lemmas.Bool.{le-ltb}
use Rattle.serde_json.specs.Data.{Data, Items, no_items, item, Members, no_members, member}
use Rattle.serde_json.specs.Find.{as_array, as_object}
use Rattle.nm_scenario_form.specs.Reading.{count_of, ◌>>=◌}
use Rattle.nm_scenario_form.specs.Words.{is_word}
use Rattle.nm_scenario_form.specs.declared.fault.Fault.{Fault}
use Rattle.nm_scenario_form.specs.Form.{Key, Form, leaf, made, by, list, object, arguments, line, no_line, Parts, done, slot, count_parts, count_needed}
use Rattle.nm_scenario_form.specs.Says.{Says, SaysParts, SaysSlot, SaysList, SaysObject, Each, AllKnown, IfSo, found, takes, total}
use Rattle.nm_scenario_form.specs.Wrong.{step_of}
use Rattle.nm_scenario_form.specs.Read.{slot_read, items_read, object_from, names_read, names_from, takes_read, read, read_parts}
use Rattle.nm_scenario_form.proofs.Answers.{items_from, all_items}

module _ {A : Type 0} (says : ℕ → Data → A → Type 0) (read_item : ℕ → Data → Result A Fault)
    (item_said : (n : ℕ) (part : Data) (x : A) → says n part x → read_item n part ≡ Ok x) where
  each_said : (n : ℕ) (items : Items) (xs : List A) → Each says n items xs → items_from read_item n items ≡ Ok xs
  unfolding Each
  each_said n no_items [] each = refl
  each_said n no_items (x ∷ xs) each = absurd each
  each_said n (item part rest) [] each = absurd each
  each_said n (item part rest) (x ∷ xs) each = rw (item_said n part x each.0, each_said (suc n) rest xs each.1)

  list_said : (low high : ℕ) (weight : Data → ℕ) (whole : Data) (xs : List A) → SaysList says low high weight whole xs
      → items_read read_item low high weight (as_array whole) ≡ Ok xs
  list_said low high weight whole xs s =
      rw (s.is_list, le-ltb (count_of s.items) low s.enough, le-ltb high (total weight s.items) s.light)
      (all_items read_item s.items ∙ each_said 0 s.items xs s.each)

all_known : (knows : List ℕ → Bool) (members : Members) → AllKnown knows members → names_read knows members ≡ Ok tt
unfolding AllKnown
all_known knows no_members known = refl
all_known knows (member name part rest) known = rw known.0 (all_known knows rest known.1)

object_said : {A : Type 0} (says : A → Type 0) (knows : List ℕ → Bool) (whole : Data) (x : A) (r : Result A Fault) → (says x → r ≡ Ok x)
    → SaysObject says knows whole x
    → (object_from (as_object whole) >>= (λ is_object. r >>= (λ value. names_from knows (as_object whole) >>= (λ known. Ok value)))) ≡ Ok x
object_said says knows whole x r said s = rw (s.is_object, said s.parts, all_known knows s.members s.known)

slot_said : {B : Type 0} (says : Data → B → Type 0) (read_part : Data → Result B Fault) (key : Key) (n : ℕ) (default : Option B)
    (part : Option Data) (b : B)
    → ((part : Data) → says part b → read_part part ≡ Ok b) → SaysSlot says default part b
    → slot_read read_part (step_of key n) default part ≡ Ok b
slot_said says read_part key n default (Some part) b said is = rw (said part is)
slot_said says read_part key n (Some missing) None b said is = let e : missing ≡ b = cc in ap Ok e
slot_said says read_part key n None None b said is = cc

count_said : {A : Type 0} (right : Bool) (r : Result A Fault) (x : A) → right ≡ true → r ≡ Ok x → (takes_read right >>= (λ count. r)) ≡ Ok x
count_said right r x is e = rw is e

word_said : {A : Type 0} (says other : A → Type 0) (so : Bool) (r s : Result A Fault) (x : A) → (says x → r ≡ Ok x) → (other x → s ≡ Ok x)
    → IfSo so (says x) (other x) → cond so r s ≡ Ok x
word_said says other true r s x a b is = a is
word_said says other false r s x a b is = b is

mutual
  unfolding Says

  pub said : {A : Type 0} (form : Form A) (whole : Data) (x : A) → Says form whole x → read form whole ≡ Ok x
  said (leaf f) whole x is = rw is
  said (made make form) whole x is = rw (said form whole is.0 is.1) (ap Ok is.2)
  said (by form) whole x is = said (form whole) whole x is
  said (list low high weight form) whole xs is = list_said (λ n part x. Says (form n) part x) (λ n part. read (form n) part)
      (λ n part x. said (form n) part x) low high weight whole xs is
  said (object knows parts make) whole x is = object_said (SaysParts parts 0 whole make) knows whole x (read_parts parts 0 whole make)
      (parts_said parts 0 whole make x) is
  said (arguments n parts make) whole x is = count_said (takes (n + count_needed parts) (n + count_parts parts) (as_array whole))
      (read_parts parts n whole make) x is.0 (parts_said parts n whole make x is.1)
  said (line word form others) whole x is = word_said (Says form whole) (Says others whole) (is_word whole word) (read form whole)
      (read others whole) x (said form whole x) (said others whole x) is
  said no_line whole x is = absurd is

  parts_said : {F A : Type 0} (parts : Parts F A) (n : ℕ) (whole : Data) (make : F) (x : A) → SaysParts parts n whole make x
      → read_parts parts n whole make ≡ Ok x
  parts_said done n whole make x is = ap Ok is
  parts_said (slot key default form parts) n whole make x is =
      let e : slot_read (λ part. read form part) (step_of key n) default (found key n whole) ≡ Ok is.0 =
      slot_said (λ part b. Says form part b) (λ part. read form part) key n default (found key n whole) is.0 (λ part. said form part is.0)
      is.1 in
      rw e (parts_said parts (suc n) whole (make is.0) x is.2)
