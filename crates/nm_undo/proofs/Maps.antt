-- Maps into which entries are put, one after another, and lists of entries in path order.
use Rattle.std.proofs.Common.{◌≡◌, ◌⊎◌, List, [], ◌∷◌, ◌++◌, Bool, true, false, cond, not, Option, Some, None, is_some, if◌then◌else◌, refl, sym, ap, ◌∙◌, inl, inr}
use Rattle.std.specs.List.{flat_map}
use Rattle.std.specs.Option.{option_or}
use Rattle.std.specs.Ordering.{eq_by_cmp}
use Rattle.std.specs.FinMap.{FinMap, get, insert, get-insert, get-entries, entries, entries_sorted, find}
use Rattle.std.proofs.lemmas.List.Folds.{list_any-append}
use Rattle.nm_types.specs.Path.{path_cmp}
use Rattle.nm_types.specs.PathLaws.{paths_total}
use Rattle.nm_types.specs.Value.{is_same_value}
use Rattle.nm_types.specs.ValueLaws.{same_value_decides}
use Rattle.nm_types.specs.declared.value.Value.{Value}
use Rattle.nm_config.specs.Rows.{with_entries}
use Rattle.nm_config.specs.Under.{is_under}
use Rattle.nm_validate_rules.specs.Values.{is_same_path}
use Rattle.nm_validate_rules.proofs.Among.{Among}
use Rattle.nm_validate_rules.proofs.Lists.{either, among_append}
use Rattle.nm_overlay.specs.Differences.{differs}
use Rattle.nm_overlay.proofs.Order.{Place, one, itself}
use Rattle.nm_overlay.proofs.Sorted.{In_order, head_below, tail_sorted, find_below}
use Rattle.nm_edit.specs.Laws.{goes}
use Rattle.nm_edit.proofs.Named.{same_path, path_itself}

-- ---- options

pub or_none : {X : Type 0} (o : Option X) → option_or o None ≡ o
or_none None = refl
or_none (Some x) = refl

pub or_if : {X : Type 0} (o : Option X) (b : Bool) → option_or o (if b then None else None) ≡ o
or_if o true = or_none o
or_if o false = or_none o

pub some_is : {X : Type 0} (x y : X) → Some x ≡ Some y → x ≡ y
some_is x y e = cc

pub no_some : {X : Type 0} (x : X) → None ≡ Some x → ⊥
no_some x e = cc

some_right : {X : Type 0} (a b : Option X) → is_some b ≡ true → is_some (option_or a b) ≡ true
some_right (Some x) b e = refl
some_right None b e = e

some_left : {X : Type 0} (a b : Option X) → is_some a ≡ true → is_some (option_or a b) ≡ true
some_left (Some x) b e = refl
some_left None b e = absurd (cc)

pub record Has {X : Type 0} (o : Option X) : Type 0 where
  pub value : X
  pub is : o ≡ Some value

pub has : {X : Type 0} (o : Option X) → is_some o ≡ true → Has o
has (Some x) e = record { value = x; is = refl }
has None e = absurd (cc)

pub is_there : {X : Type 0} (o : Option X) (x : X) → o ≡ Some x → is_some o ≡ true
is_there o x e = ap is_some e

pub isnt_there : {X : Type 0} (o : Option X) → o ≡ None → is_some o ≡ true → ⊥
isnt_there o n e = let f : is_some o ≡ false = ap is_some n in cc

-- what stands at a path where nothing differs
pub alike : (x y : Option Value) → differs x y ≡ false → x ≡ y
alike None None e = refl
alike None (Some w) e = absurd (cc)
alike (Some v) None e = absurd (cc)
alike (Some v) (Some w) e = by (is_same_value v w) refl e
  where
    by : (b : Bool) → is_same_value v w ≡ b → not b ≡ false → Some v ≡ Some w
    by true is n = ap Some ((same_value_decides v w true (sym is)).0 refl)
    by false is n = absurd (cc)

-- ---- entries that are put

pub with_append : {X : Type 0} (m : FinMap path_cmp X) (es fs : List (Place × X)) → with_entries m (es ++ fs) ≡ with_entries (with_entries m es) fs
with_append m [] fs = refl
with_append m (e ∷ es) fs = with_append (insert m e.0 e.1) es fs

-- what the last of some entries with a path has
abbrev pub last_of : {X : Type 0} → List (Place × X) → Place → Option X
last_of [] q = None
last_of (e ∷ es) q = option_or (last_of es q) (if is_same_path q e.0 then Some e.1 else None)

put_last : {X : Type 0} (later had : Option X) (b : Bool) (x : X) → option_or later (cond b (Some x) had) ≡ option_or (option_or later (if b then Some x else None)) had
put_last None had true x = refl
put_last None had false x = refl
put_last (Some y) had b x = refl

pub get_with : {X : Type 0} (m : FinMap path_cmp X) (es : List (Place × X)) (q : Place) → get (with_entries m es) q ≡ option_or (last_of es q) (get m q)
get_with m [] q = refl
get_with m (e ∷ es) q =
    get_with (insert m e.0 e.1) es q
    ∙ ap (option_or (last_of es q)) (get-insert paths_total m e.0 e.1 q)
    ∙ put_last (last_of es q) (get m q) (eq_by_cmp path_cmp q e.0) e.1

among_by : {X : Type 0} (q : Place) (x : X) (f : Place × X) (es : List (Place × X)) (later : Option X) (b : Bool) → is_same_path q f.0 ≡ b → (later ≡ Some x → Among es (q, x))
    → option_or later (if b then Some f.1 else None) ≡ Some x → Among (f ∷ es) (q, x)
among_by q x f es (Some w) b same more e = inr (more e)
among_by q x f es None true same more e =
    let p = same_path q f.0 same in
    let w : f.1 ≡ x = cc in
    inl (λ i. (p i, sym w i))
among_by q x f es None false same more e = absurd (cc)

pub among_last : {X : Type 0} (es : List (Place × X)) (q : Place) (x : X) → last_of es q ≡ Some x → Among es (q, x)
among_last [] q x e = absurd (cc)
among_last (f ∷ es) q x e = among_by q x f es (last_of es q) (is_same_path q f.0) refl (among_last es q x) e

pub some_last : {X : Type 0} (es : List (Place × X)) (q : Place) (x : X) → Among es (q, x) → is_some (last_of es q) ≡ true
some_last [] q x a = absurd a
some_last {X} (f ∷ es) q x (inl same) =
    some_right (last_of es q) (if is_same_path q f.0 then Some f.1 else None)
    (ap (λ b. is_some (if b then Some f.1 else None)) (path_itself q f.0 (ap (λ (r : Place × X). r.0) same)))
some_last (f ∷ es) q x (inr a) = some_left (last_of es q) _ (some_last es q x a)

-- ---- entries in path order

found_by : {X : Type 0} (f : Place × X) (es : List (Place × X)) (q : Place) (x : X) (o : Option X) (b : Bool) → eq_by_cmp path_cmp q f.0 ≡ b → (o ≡ Some x → Among es (q, x))
    → cond b (Some f.1) o ≡ Some x → Among (f ∷ es) (q, x)
found_by f es q x o true same more e = let p = one q f.0 same in let w : f.1 ≡ x = cc in inl (λ i. (p i, sym w i))
found_by f es q x o false same more e = inr (more e)

pub find_among : {X : Type 0} (es : List (Place × X)) (q : Place) (x : X) → find path_cmp q es ≡ Some x → Among es (q, x)
find_among [] q x e = absurd (cc)
find_among (f ∷ es) q x e = found_by f es q x (find path_cmp q es) (eq_by_cmp path_cmp q f.0) refl (find_among es q x) e

pub among_find : {X : Type 0} (es : List (Place × X)) → In_order es → (q : Place) (x : X) → Among es (q, x) → find path_cmp q es ≡ Some x
among_find [] s q x a = absurd a
among_find {X} (f ∷ es) s q x (inl same) =
    let p : q ≡ f.0 = ap (λ (r : Place × X). r.0) same in
    let w : x ≡ f.1 = ap (λ (r : Place × X). r.1) same in
    ap (λ (k : Place). cond (eq_by_cmp path_cmp k f.0) (Some f.1) (find path_cmp k es)) p
    ∙ ap (λ b. cond b (Some f.1) (find path_cmp f.0 es)) (itself f.0) ∙ ap Some (sym w)
among_find (f ∷ es) s q x (inr a) = by (eq_by_cmp path_cmp q f.0) refl (among_find es (tail_sorted f es s) q x a)
  where
    by : (b : Bool) → eq_by_cmp path_cmp q f.0 ≡ b → find path_cmp q es ≡ Some x → cond b (Some f.1) (find path_cmp q es) ≡ Some x
    by true same e =
        let none : find path_cmp q es ≡ None = ap (λ (k : Place). find path_cmp k es) (one q f.0 same) ∙ find_below f.0 es (head_below f es s) in
        absurd (no_some x (sym none ∙ e))
    by false same e = e

pub entry_get : {X : Type 0} (m : FinMap path_cmp X) (q : Place) (x : X) → Among (entries m) (q, x) → get m q ≡ Some x
entry_get m q x a = get-entries m q ∙ among_find (entries m) (entries_sorted m) q x a

pub get_entry : {X : Type 0} (m : FinMap path_cmp X) (q : Place) (x : X) → get m q ≡ Some x → Among (entries m) (q, x)
get_entry m q x e = find_among (entries m) q x (sym (get-entries m q) ∙ e)

-- ---- lists that are made

pub record From {X Y : Type 0} (f : X → List Y) (xs : List X) (y : Y) : Type 0 where
  pub x : X
  pub among : Among xs x
  pub of : Among (f x) y

from_further : {X Y : Type 0} (f : X → List Y) (x : X) (xs : List X) (y : Y) → From f xs y → From f (x ∷ xs) y
from_further f x xs y h = record { x = h.x; among = inr h.among; of = h.of }

pub from_flat : {X Y : Type 0} (f : X → List Y) (xs : List X) (y : Y) → Among (flat_map f xs) y → From f xs y
from_flat f [] y a = absurd a
from_flat f (x ∷ xs) y a = elim (among_append (f x) (flat_map f xs) y a) [
  | inl now ↦ record { x = x; among = inl refl; of = now }
  | inr later ↦ from_further f x xs y (from_flat f xs y later)
]

pub goes_either : (ns ms : List Place) (q : Place) → goes (ns ++ ms) q ≡ true → (goes ns q ≡ true) ⊎ (goes ms q ≡ true)
goes_either ns ms q e = either (goes ns q) (goes ms q) (sym (list_any-append (λ node. is_under node q) ns ms) ∙ e)
