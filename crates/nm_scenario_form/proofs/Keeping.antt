-- What holds of all that a form can say holds of what a part says by it: for every form.
use Rattle.std.proofs.Common.{◌≡◌, ℕ, suc, List, [], ◌∷◌, Bool, true, false, Option, Some, None, Result, Ok, Err, subst, All}
use Rattle.std.proofs.lemmas.List.Elements.{All-cons, All-nil}
use Rattle.serde_json.specs.Data.{Data, Items, no_items, item}
use Rattle.nm_scenario_form.specs.Words.{is_word}
use Rattle.nm_scenario_form.specs.Form.{Form, leaf, made, by, list, object, arguments, line, no_line, Parts, done, slot}
use Rattle.nm_scenario_form.specs.Says.{Says, SaysParts, SaysSlot, Each, IfSo, found}
use Rattle.nm_scenario_form.specs.Kept.{Holds, HoldsParts, OfDefault, OfResult}

of_result : {A E : Type 0} (P : A → Type 0) (r : Result A E) (x : A) → OfResult P r → r ≡ Ok x → P x
of_result P (Ok y) x holds e = let same : y ≡ x = cc in subst P same holds
of_result P (Err fault) x holds e = cc

-- a part that is there has a value of which the rest holds, and so has one that is left out
pub slot_kept : {B : Type 0} (says : Data → B → Type 0) (P : B → Type 0) (default : Option B) (part : Option Data) (b : B)
    → ((part : Data) → says part b → P b) → OfDefault P default → SaysSlot says default part b → P b
slot_kept says P default (Some part) b kept missing is = kept part is
slot_kept says P (Some other) None b kept missing is = let same : other ≡ b = cc in subst P same missing
slot_kept says P None None b kept missing is = cc

word_kept : {A : Type 0} (says other : A → Type 0) (so : Bool) (P : Type 0) (x : A) → (says x → P) → (other x → P)
    → IfSo so (says x) (other x) → P
word_kept says other true P x a b is = a is
word_kept says other false P x a b is = b is

mutual
  unfolding Says Holds

  pub kept : {A : Type 0} (form : Form A) (P : A → Type 0) (whole : Data) (x : A) → Holds form P → Says form whole x → P x
  kept (leaf f) P whole x holds is = of_result P (f whole) x (holds whole) is
  kept (made make form) P whole x holds is = subst P is.2 (kept form (λ b. P (make b)) whole is.0 holds is.1)
  kept (by form) P whole x holds is = kept (form whole) P whole x (holds whole) is
  kept (list low high weight form) P whole xs holds is = holds whole xs is
  kept (object knows parts make) P whole x holds is = parts_kept parts 0 make P whole x holds is.parts
  kept (arguments n parts make) P whole x holds is = parts_kept parts n make P whole x holds is.1
  kept (line word form others) P whole x holds is =
      word_kept (Says form whole) (Says others whole) (is_word whole word) (P x) x (kept form P whole x holds.0)
      (kept others P whole x holds.1) is
  kept no_line P whole x holds is = absurd is

  parts_kept : {F A : Type 0} (parts : Parts F A) (n : ℕ) (make : F) (P : A → Type 0) (whole : Data) (x : A) → HoldsParts parts make P
      → SaysParts parts n whole make x → P x
  parts_kept done n make P whole x holds is = subst P is holds
  parts_kept (slot key default form parts) n make P whole x holds is =
      parts_kept parts (suc n) (make is.0) P whole x
      (slot_kept (λ part b. Says form part b) (λ b. HoldsParts parts (make b) P) default (found key n whole) is.0
      (λ part. kept form (λ b. HoldsParts parts (make b) P) part is.0 holds.1) holds.0 is.1)
      is.2

of_any : {A E : Type 0} (P : A → Type 0) → ((x : A) → P x) → (r : Result A E) → OfResult P r
of_any P all (Ok x) = all x
of_any P all (Err e) = tt

of_missing : {B : Type 0} (P : B → Type 0) → ((b : B) → P b) → (default : Option B) → OfDefault P default
of_missing P all None = tt
of_missing P all (Some missing) = all missing

mutual
  unfolding Holds

  -- what holds of every value holds of all that a form can say
  pub always : {A : Type 0} (form : Form A) (P : A → Type 0) → ((x : A) → P x) → Holds form P
  always (leaf f) P all = λ whole. of_any P all (f whole)
  always (made make form) P all = always form (λ b. P (make b)) (λ b. all (make b))
  always (by form) P all = λ whole. always (form whole) P all
  always (list low high weight form) P all = λ whole xs is. all xs
  always (object knows parts make) P all = always_parts parts make P all
  always (arguments n parts make) P all = always_parts parts make P all
  always (line word form others) P all = (always form P all, always others P all)
  always no_line P all = tt

  pub always_parts : {F A : Type 0} (parts : Parts F A) (make : F) (P : A → Type 0) → ((x : A) → P x) → HoldsParts parts make P
  always_parts done make P all = all make
  always_parts (slot key default form parts) make P all = (
    of_missing (λ b. HoldsParts parts (make b) P) (λ b. always_parts parts (make b) P all) default,
    always form (λ b. HoldsParts parts (make b) P) (λ b. always_parts parts (make b) P all),
  )

of_more : {A E : Type 0} (P Q : A → Type 0) (r : Result A E) → OfResult P r → ((x : A) → P x → Q x) → OfResult Q r
of_more P Q (Ok x) holds more = more x holds
of_more P Q (Err e) holds more = tt

missing_more : {B : Type 0} (P Q : B → Type 0) (default : Option B) → OfDefault P default → ((b : B) → P b → Q b) → OfDefault Q default
missing_more P Q None holds more = tt
missing_more P Q (Some missing) holds more = more missing holds

mutual
  unfolding Holds

  -- what follows from what holds of all that a form can say holds of it too
  pub implied : {A : Type 0} (form : Form A) (P Q : A → Type 0) → Holds form P → ((x : A) → P x → Q x) → Holds form Q
  implied (leaf f) P Q holds more = λ whole. of_more P Q (f whole) (holds whole) more
  implied (made make form) P Q holds more = implied form (λ b. P (make b)) (λ b. Q (make b)) holds (λ b is. more (make b) is)
  implied (by form) P Q holds more = λ whole. implied (form whole) P Q (holds whole) more
  implied (list low high weight form) P Q holds more = λ whole xs is. more xs (holds whole xs is)
  implied (object knows parts make) P Q holds more = implied_parts parts make P Q holds more
  implied (arguments n parts make) P Q holds more = implied_parts parts make P Q holds more
  implied (line word form others) P Q holds more = (implied form P Q holds.0 more, implied others P Q holds.1 more)
  implied no_line P Q holds more = tt

  implied_parts : {F A : Type 0} (parts : Parts F A) (make : F) (P Q : A → Type 0) → HoldsParts parts make P → ((x : A) → P x → Q x)
      → HoldsParts parts make Q
  implied_parts done make P Q holds more = more make holds
  implied_parts (slot key default form parts) make P Q holds more = (
    missing_more (λ b. HoldsParts parts (make b) P) (λ b. HoldsParts parts (make b) Q) default holds.0
        (λ b is. implied_parts parts (make b) P Q is more),
    implied form (λ b. HoldsParts parts (make b) P) (λ b. HoldsParts parts (make b) Q) holds.1
        (λ b is. implied_parts parts (make b) P Q is more),
  )

pub each_kept : {A : Type 0} (says : ℕ → Data → A → Type 0) (P : A → Type 0) → ((n : ℕ) (part : Data) (x : A) → says n part x → P x)
    → (n : ℕ) (items : Items) (xs : List A) → Each says n items xs → All P xs
unfolding Each
each_kept says P kept n no_items [] each = All-nil P
each_kept says P kept n no_items (x ∷ xs) each = absurd each
each_kept says P kept n (item part rest) [] each = absurd each
each_kept says P kept n (item part rest) (x ∷ xs) each =
    All-cons P x xs (kept n part x each.0) (each_kept says P kept (suc n) rest xs each.1)

-- what holds of all that the items can say holds of each item of a list
pub items_kept : {A : Type 0} (low high : ℕ) (weight : Data → ℕ) (form : ℕ → Form A) (P : A → Type 0) → ((n : ℕ) → Holds (form n) P)
    → Holds (list low high weight form) (λ xs. All P xs)
unfolding Holds Says
items_kept low high weight form P holds whole xs is =
    each_kept (λ n part x. Says (form n) part x) P (λ n part x. kept (form n) P part x (holds n)) 0 is.items xs is.each
