-- What holds of lists that are said, and of parts that are looked for.
use Rattle.std.proofs.Common.{◌≡◌, ℕ, suc, ◌≤◌, List, [], ◌∷◌, length, Option, Some, None, refl, ap, subst, arith}
use Rattle.std.specs.List.{All}
use Rattle.std.proofs.lemmas.List.Elements.{All-nil}
use Rattle.serde_json.specs.Data.{Data, null, boolean, number, string, array, object, Items, no_items, item}
use Rattle.serde_json.specs.Find.{as_array}
use Rattle.nm_scenario_form.specs.Reading.{count_of}
use Rattle.nm_scenario_form.specs.Words.{item_count}
use Rattle.nm_scenario_form.specs.Form.{Form, list}
use Rattle.nm_scenario_form.specs.Says.{Says, SaysSlot, Each, total}
use Rattle.nm_scenario_form.specs.Leafs.{one}
use Rattle.nm_scenario_form.proofs.Keeping.{each_kept}
use Rattle.nm_scenario.specs.Counts.{items_of}

total_one : (items : Items) → total one items ≡ count_of items
total_one no_items = refl
total_one (item part rest) = omega (arith, total_one rest)

array_count : (whole : Data) (items : Items) → as_array whole ≡ Some items → item_count whole ≡ count_of items
array_count (array all) items e = let same : all ≡ items = cc in ap count_of same
array_count null items e = cc
array_count (boolean b) items e = cc
array_count (number n) items e = cc
array_count (string text) items e = cc
array_count (object m) items e = cc

each_count : {A : Type 0} (says : ℕ → Data → A → Type 0) (n : ℕ) (items : Items) (xs : List A) → Each says n items xs → length xs ≡ count_of items
unfolding Each
each_count says n no_items [] each = refl
each_count says n no_items (x ∷ xs) each = absurd each
each_count says n (item part rest) [] each = absurd each
each_count says n (item part rest) (x ∷ xs) each = omega (arith, each_count says (suc n) rest xs each.1)

-- a list of so many values, all of which are so
pub record ListKeeps {A : Type 0} (P : A → Type 0) (low high count : ℕ) (xs : List A) : Type 0 where
  pub all : All P xs
  pub count_is : length xs ≡ count
  pub least : low ≤ length xs
  pub most : length xs ≤ high

pub list_keeps : {A : Type 0} (P : A → Type 0) (low high : ℕ) (form : ℕ → Form A) → ((n : ℕ) (part : Data) (x : A) → Says (form n) part x → P x)
    → (whole : Data) (xs : List A) → Says (list low high one form) whole xs → ListKeeps P low high (item_count whole) xs
unfolding Says
list_keeps P low high form holds whole xs says =
    let count : length xs ≡ count_of says.items = each_count (λ n part x. Says (form n) part x) 0 says.items xs says.each in
    record {
      all = each_kept (λ n part x. Says (form n) part x) P holds 0 says.items xs says.each;
      count_is = omega (arith, count, array_count whole says.items says.is_list);
      least = omega (arith, count, says.enough);
      most = omega (arith, count, says.light, total_one says.items);
    }

-- a list that has to be there
pub required_list : {A : Type 0} (P : A → Type 0) (low high : ℕ) (says : Data → List A → Type 0)
    → ((part : Data) (xs : List A) → says part xs → ListKeeps P low high (item_count part) xs)
    → (found : Option Data) (xs : List A) → SaysSlot says None found xs → ListKeeps P low high (items_of found) xs
required_list P low high says keeps (Some part) xs is = keeps part xs is
required_list P low high says keeps None xs is = cc

no_list : {A : Type 0} (P : A → Type 0) (high : ℕ) → ListKeeps P 0 high 0 []
no_list P high = record { all = All-nil P; count_is = refl; least = omega arith; most = omega arith }

-- a list that is empty where it is left out
pub optional_list : {A : Type 0} (P : A → Type 0) (high : ℕ) (says : Data → List A → Type 0)
    → ((part : Data) (xs : List A) → says part xs → ListKeeps P 0 high (item_count part) xs)
    → (found : Option Data) (xs : List A) → SaysSlot says (Some []) found xs → ListKeeps P 0 high (items_of found) xs
optional_list P high says keeps (Some part) xs is = keeps part xs is
optional_list P high says keeps None xs is = let same : [] ≡ xs = cc in subst (ListKeeps P 0 high 0) same (no_list P high)
