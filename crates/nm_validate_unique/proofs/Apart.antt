-- Entries of which as many different marks are kept as there are don't repeat each other's values.
use Rattle.std.proofs.Common.{◌≡◌, ℕ, ◌+◌, ◌≤◌, List, [], ◌∷◌, ◌++◌, length, Bool, true, false, cond, Option, Some, None, is_some, if◌then◌else◌, refl, sym, ap, ◌∙◌, subst, append_assoc, nat_eq, arith}
use Rattle.std.proofs.lemmas.Grind.{common_steps}
use Rattle.std.proofs.lemmas.Bool.{false≢true}
use Rattle.std.proofs.lemmas.Bool.Decides.{nat_tests}
use Rattle.std.proofs.lemmas.Cmp.{nat_cmp_total, tied_itself}
use Rattle.std.specs.declared.cmp.Ordering.{Ordering}
use Rattle.std.specs.declared.cmp.Ordering.TheVariants.{Less, Equal, Greater}
use Rattle.std.specs.Ordering.{eq_by_cmp, is_eq, nat_cmp}
use Rattle.std.specs.FinMap.{FinMap, empty, insert, get, get-insert, get-empty, contains_key, len, len-insert, len-empty}
use Rattle.nm_types.specs.declared.value.Value.{Value}
use Rattle.nm_types.specs.declared.value.Value.TheVariants.{Present}
use Rattle.nm_types.specs.Path.{PathStep, path_cmp}
use Rattle.nm_types.specs.PathLaws.{paths_total, path_cmp-IsAntisymmetric}
use Rattle.nm_schema_tree.specs.Nodes.{SchemaTree, is_key}
use Rattle.nm_config.specs.Rows.{Rows, with_entries}
use Rattle.std.specs.Option.{option_or}
use Rattle.nm_validate_rules.specs.Guards.{front}
use Rattle.nm_validate_rules.specs.Values.{leaf_value, key_in_entry, default_in_use}
use Rattle.nm_validate_unique.specs.Marks.{path_mark, mark_by, marks_in, with_steps}
use Rattle.nm_validate_unique.specs.Repeated.{key_of, is_seen, with_seen, repeated}

at_most_one : (n : ℕ) (b : Bool) → cond b n (n + 1) ≤ n + 1
at_most_one n true = omega arith
at_most_one n false = omega arith

equal : (r : Ordering) → is_eq r ≡ true → r ≡ Equal
equal Less h = cc
equal Equal h = refl
equal Greater h = cc

-- marks that are kept
abbrev Marks : Type 0
Marks = FinMap nat_cmp (Unit {0})

-- marks that are put into a map make it longer by as many at most
most : (m : Marks) (es : List (ℕ × Unit {0})) → len (with_entries m es) ≤ len m + length es
most m [] = omega arith
most m (e ∷ es) =
    let more = most (insert m e.0 e.1) es in
    let is = len-insert nat_cmp_total m e.0 e.1 in
    let one = at_most_one (len m) (contains_key m e.0) in
    omega (arith, more, is, one)

abbrev AllNew : Marks → List (ℕ × Unit {0}) → Type 0
AllNew m es = len (with_entries m es) ≡ len m + length es

one_new : (m : Marks) (n : ℕ) (es : List (ℕ × Unit {0})) (b : Bool) → contains_key m n ≡ b → AllNew m ((n, tt) ∷ es) → (b ≡ false) × AllNew (insert m n tt) es
one_new m n es true here all =
    let is = len-insert nat_cmp_total m n tt ∙ ap (λ c. cond c (len m) (len m + 1)) here in
    let more = most (insert m n tt) es in
    absurd (omega (arith, all, is, more))
one_new m n es false none all =
    let is = len-insert nat_cmp_total m n tt ∙ ap (λ c. cond c (len m) (len m + 1)) none in
    (refl, omega (arith, all, is))

-- the marks of all paths of a map are among these
abbrev Told : Rows → Marks → Type 0
Told m marks = (path : List PathStep) → contains_key m path ≡ true → contains_key marks (path_mark path) ≡ true

still_there : (b : Bool) (o : Option (Unit {0})) → is_some o ≡ true → is_some (cond b (Some tt) o) ≡ true
still_there true o h = refl
still_there false o h = h

told_by : (m : Rows) (marks : Marks) (k path : List PathStep) → Told m marks → (b : Bool) → eq_by_cmp path_cmp path k ≡ b
    → contains_key (insert m k Present) path ≡ true → contains_key (insert marks (path_mark k) tt) (path_mark path) ≡ true
told_by m marks k path told true t here =
    let one = path_cmp-IsAntisymmetric path k (equal (path_cmp path k) t) in
    let same : eq_by_cmp nat_cmp (path_mark path) (path_mark k) ≡ true = ap (λ p. eq_by_cmp nat_cmp (path_mark path) (path_mark p)) (sym one) ∙ ap is_eq (tied_itself nat_cmp_total (path_mark path)) in
    ap is_some (get-insert nat_cmp_total marks (path_mark k) tt (path_mark path) ∙ ap (λ b. cond b (Some tt) (get marks (path_mark path))) same)
told_by m marks k path told false t here =
    let before : contains_key m path ≡ true = sym (ap is_some (get-insert paths_total m k Present path ∙ ap (λ b. cond b (Some Present) (get m path)) t)) ∙ here in
    ap is_some (get-insert nat_cmp_total marks (path_mark k) tt (path_mark path)) ∙ still_there (eq_by_cmp nat_cmp (path_mark path) (path_mark k)) (get marks (path_mark path)) (told path before)

told_more : (m : Rows) (marks : Marks) (k : List PathStep) → Told m marks → Told (insert m k Present) (insert marks (path_mark k) tt)
told_more m marks k told path here = told_by m marks k path told (eq_by_cmp path_cmp path k) refl here

told_nothing : Told empty empty
told_nothing path here = absurd (false≢true (sym (ap is_some (get-empty path_cmp path)) ∙ here))

module _ (t : SchemaTree) (rows : Rows) (leafs : List ℕ) where
  fresh : (m : Rows) (marks : Marks) (k p : List PathStep) (ps : List (List PathStep)) (b : Bool) → contains_key m k ≡ b → Told m marks
      → AllNew marks ((path_mark k, tt) ∷ marks_in t rows leafs ps)
      → ((n : Rows) (others : Marks) → Told n others → AllNew others (marks_in t rows leafs ps) → repeated t rows leafs n ps ≡ [])
      → (if b then p ∷ [] else []) ++ repeated t rows leafs (insert m k Present) ps ≡ []
  fresh m marks k p ps true here told all rest =
      let new = one_new marks (path_mark k) (marks_in t rows leafs ps) true (told k here) all in
      absurd (false≢true (sym new.0))
  fresh m marks k p ps false none told all rest =
      rest (insert m k Present) (insert marks (path_mark k) tt) (told_more m marks k told)
      (one_new marks (path_mark k) (marks_in t rows leafs ps) (contains_key marks (path_mark k)) refl all).1

  one_more : (m : Rows) (marks : Marks) (p : List PathStep) (ps : List (List PathStep)) (o : Option (List PathStep)) → Told m marks
      → AllNew marks (mark_by o ++ marks_in t rows leafs ps)
      → ((n : Rows) (others : Marks) → Told n others → AllNew others (marks_in t rows leafs ps) → repeated t rows leafs n ps ≡ [])
      → (if is_seen m o then p ∷ [] else []) ++ repeated t rows leafs (with_seen m o) ps ≡ []
  one_more m marks p ps None told all rest = rest m marks told all
  one_more m marks p ps (Some k) told all rest = fresh m marks k p ps (contains_key m k) refl told all rest

  none_again : (ps : List (List PathStep)) (m : Rows) (marks : Marks) → Told m marks → AllNew marks (marks_in t rows leafs ps) → repeated t rows leafs m ps ≡ []
  none_again [] m marks told all = refl
  none_again (p ∷ ps) m marks told all = one_more m marks p ps (key_of t rows leafs p) told all (λ n others more. none_again ps n others more)

  -- as many different marks are kept as there are
  pub are_apart : (ps : List (List PathStep)) (marks : List (ℕ × Unit {0})) (count : ℕ) → marks ≡ marks_in t rows leafs ps → count ≡ len (with_entries (empty {R = nat_cmp}) marks) → count ≡ length marks
      → repeated t rows leafs empty ps ≡ []
  are_apart ps marks count these is all =
      let none : len (empty {X = Unit {0}} {R = nat_cmp}) ≡ 0 = len-empty nat_cmp (Unit {0}) in
      let put : len (with_entries (empty {R = nat_cmp}) marks) ≡ length marks = sym is ∙ all in
      let new : len (with_entries (empty {R = nat_cmp}) marks) ≡ len (empty {X = Unit {0}} {R = nat_cmp}) + length marks = omega (arith, none, put) in
      none_again ps empty empty told_nothing (subst (λ ms. AllNew empty ms) these new)

-- the mark for one entry more is put behind others
pub marks_on : (t : SchemaTree) (rows : Rows) (leafs : List ℕ) (p : List PathStep) (ps : List (List PathStep)) (before after all : List (ℕ × Unit {0})) → after ≡ before ++ mark_by (key_of t rows leafs p)
    → before ++ marks_in t rows leafs (p ∷ ps) ≡ all → after ++ marks_in t rows leafs ps ≡ all
marks_on t rows leafs p ps before after all is h = ap (λ l. l ++ marks_in t rows leafs ps) is ∙ append_assoc before (mark_by (key_of t rows leafs p)) (marks_in t rows leafs ps) ∙ h

pub one_count : (a b : ℕ) → nat_eq a b ≡ true → a ≡ b
one_count a b e = grind (arith, common_steps, nat_tests)

-- a path of one step has no steps before its last
pub one_step : (mark : ℕ) (steps : List PathStep) → length steps ≡ 1 → mark ≡ with_steps mark (front steps)
unfolding with_steps
one_step mark [] h = absurd (omega (arith, h))
one_step mark (s ∷ []) h = refl
one_step mark (s ∷ r ∷ ss) h = absurd (omega (arith, h))

-- the value of a leaf that is no key is that of its row
pub value_there : (t : SchemaTree) (rows : Rows) (path : List PathStep) (x : ℕ) (v : Value) → is_key t.nodes x ≡ false → get rows path ≡ Some v → leaf_value t rows path x ≡ Some v
value_there t rows path x v no_key here =
    ap (λ b. if b then key_in_entry t x (front path) else option_or (get rows path) (default_in_use t rows path x)) no_key ∙ ap (λ o. option_or o (default_in_use t rows path x)) here
