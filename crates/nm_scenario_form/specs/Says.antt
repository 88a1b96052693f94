-- What a part says by its form, apart from how it is read (this project's own).
use Rattle.std.specs.Prelude.{◌≡◌, ◌≤◌, ℕ, suc, ◌+◌, List, [], ◌∷◌, Bool, true, false, ◌&&◌, nat_le, Option, Some, None, Ok}
use Rattle.serde_json.specs.Data.{Data, Items, no_items, item, Members, no_members, member}
use Rattle.serde_json.specs.Find.{get, at, as_array, as_object}
use Rattle.nm_scenario_form.specs.Reading.{count_of}
use Rattle.nm_scenario_form.specs.Words.{is_word}
use Rattle.nm_scenario_form.specs.Form.{Key, named, next, Form, leaf, made, by, list, object, arguments, line, no_line, Parts, done, slot, count_parts, count_needed}

-- what stands where a part is looked for
abbrev pub found : Key → ℕ → Data → Option Data
found (named name) n whole = get name whole
found next n whole = at n whole

-- how much items weigh together
abbrev pub total : (Data → ℕ) → Items → ℕ
total weight no_items = 0
total weight (item part rest) = weight part + total weight rest

-- each item of a list, from number n on, says the value at its place
unfoldable pub Each : {A : Type 0} → (ℕ → Data → A → Type 0) → ℕ → Items → List A → Type 0
Each says n no_items [] = Unit {0}
Each says n no_items (x ∷ xs) = ⊥
Each says n (item part rest) [] = ⊥
Each says n (item part rest) (x ∷ xs) = says n part x × Each says (suc n) rest xs

-- a list whose items say these values: enough of them, and not too heavy
pub record SaysList {A : Type 0} (says : ℕ → Data → A → Type 0) (low high : ℕ) (weight : Data → ℕ) (whole : Data) (xs : List A) : Type 0
  where
    pub items : Items
    pub is_list : as_array whole ≡ Some items
    pub enough : low ≤ count_of items
    pub light : total weight items ≤ high
    pub each : Each says 0 items xs

-- a part says this, or may be left out and is
abbrev pub SaysSlot : {B : Type 0} → (Data → B → Type 0) → Option B → Option Data → B → Type 0
SaysSlot says default (Some part) b = says part b
SaysSlot says default None b = default ≡ Some b

-- every member's name is known
unfoldable pub AllKnown : (List ℕ → Bool) → Members → Type 0
AllKnown knows no_members = Unit {0}
AllKnown knows (member name part rest) = (knows name ≡ true) × AllKnown knows rest

-- an object whose names are known and whose members say this
pub record SaysObject {A : Type 0} (says : A → Type 0) (knows : List ℕ → Bool) (whole : Data) (x : A) : Type 0 where
  pub members : Members
  pub is_object : as_object whole ≡ Some members
  pub known : AllKnown knows members
  pub parts : says x

-- a list of as many items as there have to be, and no more than there may be
abbrev pub takes : ℕ → ℕ → Option Items → Bool
takes fewest most None = false
takes fewest most (Some items) = nat_le fewest (count_of items) && nat_le (count_of items) most

-- one of two, by a test
abbrev pub IfSo : Bool → Type 0 → Type 0 → Type 0
IfSo true this other = this
IfSo false this other = other

-- what a part says by its form
unfoldable mutual
  pub Says : {A : Type 0} → Form A → Data → A → Type 0
  Says (leaf read) whole x = read whole ≡ Ok x
  Says (made {B = B} make form) whole x = (b : B) × Says form whole b × (make b ≡ x)
  Says (by form) whole x = Says (form whole) whole x
  Says (list low high weight form) whole xs = SaysList (λ n part x. Says (form n) part x) low high weight whole xs
  Says (object knows parts make) whole x = SaysObject (SaysParts parts 0 whole make) knows whole x
  Says (arguments n parts make) whole x = (takes (n + count_needed parts) (n + count_parts parts) (as_array whole) ≡ true) × SaysParts
      parts n whole make x
  Says (line word form others) whole x = IfSo (is_word whole word) (Says form whole x) (Says others whole x)
  Says no_line whole x = ⊥

  -- the parts from number n on say what this makes of them
  pub SaysParts : {F A : Type 0} → Parts F A → ℕ → Data → F → A → Type 0
  SaysParts done n whole make x = make ≡ x
  SaysParts (slot {B = B} key default form parts) n whole make x =
      (b : B) × SaysSlot (λ part b. Says form part b) default (found key n whole) b × SaysParts parts (suc n) whole (make b) x
