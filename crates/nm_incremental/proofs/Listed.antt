-- Lists that are made one after another.
use Rattle.std.proofs.Common.{◌≡◌, ℕ, ◌+◌, ◌-◌, ◌<◌, List, [], ◌∷◌, ◌++◌, map, Bool, true, false, cond, refl, sym, ap, ◌∙◌, append_assoc, append-nil, if◌then◌else◌}
use Rattle.std.specs.Prelude.{filter}
use Rattle.std.specs.List.{flat_map, range_with_len}
use Rattle.nm_validate_places.proofs.Leasts.{range_step}

-- one more is put behind what was put for the others
pub put_one : {Y : Type 0} (f : ℕ → Y) (i n : ℕ) (before after all : List Y) → i < n → after ≡ before ++ f i ∷ [] → before ++ map f (range_with_len i (n - i)) ≡ all → after ++ map f (range_with_len (i + 1) (n - (i + 1))) ≡ all
put_one f i n before after all lt e h =
    let rest = map f (range_with_len (i + 1) (n - (i + 1))) in
    ap (λ l. l ++ rest) e ∙ append_assoc before (f i ∷ []) rest ∙ ap (λ l. before ++ map f l) (sym (range_step i n lt)) ∙ h

-- nothing is left
pub put_all : {Y : Type 0} (f : ℕ → Y) (i n : ℕ) (before all : List Y) → n - i ≡ 0 → before ++ map f (range_with_len i (n - i)) ≡ all → before ≡ all
put_all f i n before all e h = sym (append-nil before) ∙ ap (λ (k : ℕ). before ++ map f (range_with_len i k)) (sym e) ∙ h

-- several are put for a number
pub put_some : {Y : Type 0} (f : ℕ → List Y) (i n : ℕ) (before after all : List Y) → i < n → after ≡ before ++ f i → before ++ flat_map f (range_with_len i (n - i)) ≡ all
    → after ++ flat_map f (range_with_len (i + 1) (n - (i + 1))) ≡ all
put_some f i n before after all lt e h =
    let rest = flat_map f (range_with_len (i + 1) (n - (i + 1))) in
    ap (λ l. l ++ rest) e ∙ append_assoc before (f i) rest ∙ ap (λ l. before ++ flat_map f l) (sym (range_step i n lt)) ∙ h

pub put_whole : {Y : Type 0} (f : ℕ → List Y) (i n : ℕ) (before all : List Y) → n - i ≡ 0 → before ++ flat_map f (range_with_len i (n - i)) ≡ all → before ≡ all
put_whole f i n before all e h = sym (append-nil before) ∙ ap (λ (k : ℕ). before ++ flat_map f (range_with_len i k)) (sym e) ∙ h

kept : {Y : Type 0} (f : ℕ → List Y) (test : ℕ → Bool) (i : ℕ) (rest : List ℕ) (b : Bool) → test i ≡ b → flat_map f (filter test (i ∷ rest)) ≡ cond b (f i ++ flat_map f (filter test rest)) (flat_map f (filter test rest))
kept f test i rest b e = ap (λ c. flat_map f (cond c (i ∷ filter test rest) (filter test rest))) e ∙ of b
  where
    of : (b : Bool) → flat_map f (cond b (i ∷ filter test rest) (filter test rest)) ≡ cond b (f i ++ flat_map f (filter test rest)) (flat_map f (filter test rest))
    of true = refl
    of false = refl

-- several are put for a number that passes
pub put_kept : {Y : Type 0} (f : ℕ → List Y) (test : ℕ → Bool) (i n : ℕ) (before after all : List Y) → i < n → test i ≡ true → after ≡ before ++ f i
    → before ++ flat_map f (filter test (range_with_len i (n - i))) ≡ all → after ++ flat_map f (filter test (range_with_len (i + 1) (n - (i + 1)))) ≡ all
put_kept f test i n before after all lt e is h =
    let rest = range_with_len (i + 1) (n - (i + 1)) in
    ap (λ l. l ++ flat_map f (filter test rest)) is ∙ append_assoc before (f i) (flat_map f (filter test rest))
    ∙ ap (λ l. before ++ l) (sym (ap (λ l. flat_map f (filter test l)) (range_step i n lt) ∙ kept f test i rest true e)) ∙ h

-- none for another
pub put_none : {Y : Type 0} (f : ℕ → List Y) (test : ℕ → Bool) (i n : ℕ) (before after all : List Y) → i < n → test i ≡ false → after ≡ before
    → before ++ flat_map f (filter test (range_with_len i (n - i))) ≡ all → after ++ flat_map f (filter test (range_with_len (i + 1) (n - (i + 1)))) ≡ all
put_none f test i n before after all lt e is h =
    let rest = range_with_len (i + 1) (n - (i + 1)) in
    ap (λ l. l ++ flat_map f (filter test rest)) is
    ∙ ap (λ l. before ++ l) (sym (ap (λ l. flat_map f (filter test l)) (range_step i n lt) ∙ kept f test i rest false e)) ∙ h

pub put_kept_all : {Y : Type 0} (f : ℕ → List Y) (test : ℕ → Bool) (i n : ℕ) (before all : List Y) → n - i ≡ 0 → before ++ flat_map f (filter test (range_with_len i (n - i))) ≡ all → before ≡ all
put_kept_all f test i n before all e h = sym (append-nil before) ∙ ap (λ (k : ℕ). before ++ flat_map f (filter test (range_with_len i k))) (sym e) ∙ h

-- what is put for some numbers is put for those that pass, where for others nothing is
pub flat_kept : {Y : Type 0} (f g : ℕ → List Y) (test : ℕ → Bool) (ns : List ℕ) → ((n : ℕ) → g n ≡ (if test n then f n else [])) → flat_map g ns ≡ flat_map f (filter test ns)
flat_kept f g test [] e = refl
flat_kept f g test (n ∷ ns) e = ap (λ l. l ++ flat_map g ns) (e n) ∙ ap (λ l. (if test n then f n else []) ++ l) (flat_kept f g test ns e) ∙ by (test n) refl
  where
    by : (b : Bool) → test n ≡ b → (if b then f n else []) ++ flat_map f (filter test ns) ≡ flat_map f (filter test (n ∷ ns))
    by true k = sym (kept f test n ns true k)
    by false k = sym (kept f test n ns false k)
