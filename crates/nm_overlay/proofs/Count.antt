-- How many rows a configuration with changes has.
use Rattle.std.proofs.Common.{◌≡◌, ℕ, zero, suc, ◌+◌, ◌-◌, ◌<◌, Bool, true, false, cond, List, [], ◌∷◌, refl, sym, ap, ◌∙◌, arith}
use Rattle.std.specs.Prelude.{Option, Some, None, not, is_some}
use Rattle.std.specs.Ordering.{eq_by_cmp}
use Rattle.std.specs.FinMap.{get, len, find, insert, remove, empty_of_len, get-empty, len-insert, len-remove}
use Rattle.nm_types.specs.Path.{path_cmp}
use Rattle.nm_types.specs.PathLaws.{paths_total}
use Rattle.nm_types.specs.declared.value.Value.{Value}
use Rattle.nm_config.specs.Rows.{Rows}
use Rattle.nm_overlay.specs.Differences.{with_changes, changes_at, differs}
use Rattle.nm_overlay.specs.Places.{Pair, Ascends, gone_in, added_in}
use Rattle.nm_overlay.proofs.Order.{Place, one, itself}
use Rattle.nm_overlay.proofs.Sorted.{Below, head_below, tail_sorted, find_below}
use Rattle.nm_overlay.proofs.Changed.{seen, get-with_changes}
use Rattle.nm_overlay.proofs.Following.{clash}

head_change : (base : Rows) (c : Pair) (cs : List Pair) → ((q : Place) → changes_at (find path_cmp q (c ∷ cs)) (get base q) ≡ true)
    → differs (get base c.0) c.1 ≡ true
head_change base c cs are = sym (ap (λ b. changes_at (cond b (Some c.1) (find path_cmp c.0 cs)) (get base c.0)) (itself c.0)) ∙ are c.0

tail_changes : (base : Rows) (c : Pair) (cs : List Pair) → Below c.0 cs → ((q : Place) → changes_at (find path_cmp q (c ∷ cs)) (get base q) ≡ true)
    → (q : Place) → changes_at (find path_cmp q cs) (get base q) ≡ true
tail_changes base c cs below are q = by (eq_by_cmp path_cmp q c.0) refl (are q)
  where
    by : (b : Bool) → eq_by_cmp path_cmp q c.0 ≡ b → changes_at (cond b (Some c.1) (find path_cmp q cs)) (get base q) ≡ true
        → changes_at (find path_cmp q cs) (get base q) ≡ true
    by true i h = ap (λ o. changes_at o (get base q)) (ap (λ (x : Place). find path_cmp x cs) (one q c.0 i) ∙ find_below c.0 cs below)
    by false i h = h

there_by_change : (o : Option Value) → differs o None ≡ true → is_some o ≡ true
there_by_change None h = cc
there_by_change (Some v) h = refl

has_length : (m : Rows) (q : Place) → is_some (get m q) ≡ true → (n : ℕ) → len m ≡ n → 0 < n
has_length m q h zero e = clash (is_some (get m q)) h (ap (λ (x : Rows). is_some (get x q)) (empty_of_len m e) ∙ ap is_some (get-empty path_cmp q))
has_length m q h (suc n) e = omega arith

-- with the rows that are gone there are as many as in the base with those that are new
pub counts : (base : Rows) (cs : List Pair) → Ascends cs → ((q : Place) → changes_at (find path_cmp q cs) (get base q) ≡ true)
    → len (with_changes base cs) + gone_in cs ≡ len base + added_in base cs
counts base [] s are = refl
counts base ((p, None) ∷ cs) s are =
    let m = with_changes base cs in
    let below = head_below (p, None) cs s in
    let ih = counts base cs (tail_sorted (p, None) cs s) (tail_changes base (p, None) cs below are) in
    let as_base : get m p ≡ get base p = get-with_changes base cs p ∙ ap (λ o. seen o (get base p)) (find_below p cs below) in
    let there : is_some (get m p) ≡ true = ap is_some as_base ∙ there_by_change (get base p) (head_change base (p, None) cs are) in
    let less : len (remove m p) ≡ len m - 1 = len-remove paths_total m p ∙ ap (λ b. cond b (len m - 1) (len m)) there in
    let some = has_length m p there (len m) refl in
    omega (arith, ih, less, some)
counts base ((p, Some v) ∷ cs) s are =
    let m = with_changes base cs in
    let below = head_below (p, Some v) cs s in
    let ih = counts base cs (tail_sorted (p, Some v) cs s) (tail_changes base (p, Some v) cs below are) in
    let as_base : get m p ≡ get base p = get-with_changes base cs p ∙ ap (λ o. seen o (get base p)) (find_below p cs below) in
    by (is_some (get base p)) (len-insert paths_total m p v ∙ ap (λ b. cond b (len m) (len m + 1)) (ap is_some as_base)) ih
  where
    by : (b : Bool) → len (insert (with_changes base cs) p v) ≡ cond b (len (with_changes base cs)) (len (with_changes base cs) + 1)
        → len (with_changes base cs) + gone_in cs ≡ len base + added_in base cs
        → len (insert (with_changes base cs) p v) + (0 + gone_in cs) ≡ len base + (cond (not b) 1 0 + added_in base cs)
    by true l ih = omega (arith, l, ih)
    by false l ih = omega (arith, l, ih)
