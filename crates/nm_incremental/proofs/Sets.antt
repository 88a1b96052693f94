-- Paths that are put into a set are there, and no others.
use Rattle.std.proofs.Common.{◌≡◌, List, [], ◌∷◌, map, Bool, true, false, cond, ◌||◌, Option, Some, is_some, refl, sym, ap, ◌∙◌, subst}
use Rattle.std.specs.List.{list_any}
use Rattle.std.specs.FinMap.{get, insert, empty, contains_key, get-insert, get-empty}
use Rattle.nm_types.specs.declared.value.Value.{Value}
use Rattle.nm_types.specs.declared.value.Value.TheVariants.{Present}
use Rattle.nm_types.specs.Path.{PathStep, path_cmp}
use Rattle.nm_types.specs.PathLaws.{paths_total, paths_equiv, same_path_decides}
use Rattle.nm_config.specs.Rows.{Rows, with_entries}
use Rattle.nm_validate_rules.specs.Values.{is_same_path}
use Rattle.nm_validate_rules.proofs.Among.{Among, any_passes}
use Rattle.nm_validate_rules.proofs.Placed.{any_at}
use Rattle.nm_incremental.specs.Read.{present}

some_or : (b : Bool) (o : Option Value) → is_some (cond b (Some Present) o) ≡ (b || is_some o)
some_or true o = refl
some_or false o = refl

put_is : (m : Rows) (k q : List PathStep) → contains_key (insert m k Present) q ≡ (is_same_path q k || contains_key m q)
put_is m k q = ap is_some (get-insert paths_total m k Present q) ∙ some_or (is_same_path q k) (get m q)

or_turned : (a b c : Bool) → (a || (b || c)) ≡ ((b || a) || c)
or_turned true true c = refl
or_turned true false c = refl
or_turned false b c = ap (λ d. d || c) (or_false b)
  where
    or_false : (d : Bool) → d ≡ (d || false)
    or_false true = refl
    or_false false = refl

set_is : (ps : List (List PathStep)) (m : Rows) (q : List PathStep) → contains_key (with_entries m (map present ps)) q ≡ (list_any (is_same_path q) ps || contains_key m q)
set_is [] m q = refl
set_is (p ∷ ps) m q =
    set_is ps (insert m p Present) q ∙ ap (λ b. list_any (is_same_path q) ps || b) (put_is m p q) ∙ or_turned (list_any (is_same_path q) ps) (is_same_path q p) (contains_key m q)

or_none : (b : Bool) → (b || false) ≡ b
or_none true = refl
or_none false = refl

-- of a set of paths
pub set_of : (ps : List (List PathStep)) (q : List PathStep) → contains_key (with_entries (empty {R = path_cmp}) (map present ps)) q ≡ list_any (is_same_path q) ps
set_of ps q = set_is ps empty q ∙ ap (λ b. list_any (is_same_path q) ps || b) (ap is_some (get-empty path_cmp q)) ∙ or_none (list_any (is_same_path q) ps)

pub set_there : (ps : List (List PathStep)) (q : List PathStep) → Among ps q → contains_key (with_entries (empty {R = path_cmp}) (map present ps)) q ≡ true
set_there ps q a = set_of ps q ∙ any_at (is_same_path q) ps q a (paths_equiv.refl q)

pub set_from : (ps : List (List PathStep)) (q : List PathStep) → contains_key (with_entries (empty {R = path_cmp}) (map present ps)) q ≡ true → Among ps q
set_from ps q e =
    let h = any_passes (is_same_path q) ps (sym (set_of ps q) ∙ e) in
    let same : q ≡ h.x = (same_path_decides q h.x (is_same_path q h.x) refl).0 h.passes in
    subst (Among ps) (sym same) h.among
