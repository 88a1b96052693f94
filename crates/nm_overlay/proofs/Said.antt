-- What a list of changes says, where it is the list of a map.
use Rattle.std.proofs.Common.{◌≡◌, Bool, true, false, cond, List, Result, Ok, Err, OnOk, refl, sym, ap, subst, ◌∙◌}
use Rattle.std.specs.Prelude.{◌↔◌, IsTrue, Some}
use Rattle.nm_types.specs.declared.value.Value.{Value}
use Rattle.std.specs.FinMap.{get, insert, remove, entries, find, entries_sorted, get-entries}
use Rattle.nm_types.specs.Path.{path_cmp}
use Rattle.nm_config.specs.Rows.{Rows}
use Rattle.nm_overlay.specs.Differences.{Changes, changes_at, with_changes, overridden}
use Rattle.nm_overlay.specs.Places.{Pair, Ascends}
use Rattle.nm_overlay.proofs.Order.{Place}
use Rattle.nm_overlay.proofs.Changed.{overridden-entries, overridden-put, overridden-kept, changes-put, changes-kept, other_value}

module _ (changes : Changes) (all : List Pair) (is : all ≡ entries changes) where
  pub said_ascends : Ascends all
  said_ascends = subst Ascends (sym is) (entries_sorted changes)

  pub said_changes : (base below : Rows) → below ≡ base → ((q : Place) → changes_at (get changes q) (get base q) ≡ true) → (q : Place)
      → changes_at (find path_cmp q all) (get below q) ≡ true
  said_changes base below same are q = (λ i. changes_at (find path_cmp q (is i)) (get (same i) q))
      ∙ ap (λ o. changes_at o (get base q)) (sym (get-entries changes q)) ∙ are q

  pub said_rows : (base below : Rows) → below ≡ base → with_changes below all ≡ overridden base changes
  said_rows base below same = (λ i. with_changes (same i) (is i)) ∙ sym (overridden-entries base changes)

-- a value at a path, of which nothing is said where it stands in the base
module _ (base : Rows) (m : Changes) (p : Place) (v : Value) where
  pub put_rows : (kept : Bool) → IsTrue kept ↔ (get base p ≡ Some v)
      → overridden base (cond kept (remove m p) (insert m p (Some v))) ≡ insert (overridden base m) p v
  put_rows true tells = overridden-kept base m p v (tells.0 refl)
  put_rows false tells = overridden-put base m p v

  pub put_changes : (kept : Bool) → IsTrue kept ↔ (get base p ≡ Some v) → ((q : Place) → changes_at (get m q) (get base q) ≡ true)
      → (q : Place) → changes_at (get (cond kept (remove m p) (insert m p (Some v))) q) (get base q) ≡ true
  put_changes true tells are = changes-kept base m p are
  put_changes false tells are = changes-put base m p v are (other_value (get base p) v tells.1)

pub on_each : {A E : Type 0} (r : Result A E) (P : Place → Type 0) → ((q : Place) → OnOk r (P q)) → OnOk r ((q : Place) → P q)
on_each (Ok a) P f = f
on_each (Err e) P f = tt
