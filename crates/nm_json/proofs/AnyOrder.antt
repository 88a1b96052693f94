-- What is read of findings in another order.
use Rattle.std.proofs.Common.{◌≡◌, List, [], ◌∷◌, Bool, true, false, cond, Option, Some, None, is_some, Err, refl, sym, ap, ◌∙◌, inl, inr, subst, Ordering, Less, Equal, Greater}
use Rattle.std.specs.Ordering.{eq_by_cmp, is_eq}
use Rattle.std.specs.List.{AllByRecursion}
use Rattle.std.specs.FinMap.{insert, get, empty, get-insert, same_map}
use Rattle.std.proofs.lemmas.Cmp.{tied_itself}
use Rattle.serde_json.specs.Data.{Data}
use Rattle.nm_types.specs.Path.{PathStep, path_cmp}
use Rattle.nm_types.specs.PathLaws.{paths_total, path_cmp-IsAntisymmetric}
use Rattle.nm_types.specs.declared.value.Value.{Value}
use Rattle.nm_schema_tree.specs.Nodes.{SchemaTree}
use Rattle.nm_config.specs.Rows.{Rows}
use Rattle.nm_json.specs.declared.fault.JsonKind.TheVariants.{Repeated}
use Rattle.nm_json.specs.declared.fault.JsonFault.TheVariants.{Bad}
use Rattle.nm_json.specs.declared.fault.Fault.{Fault}
use Rattle.nm_json.specs.Places.{fault_cmp}
use Rattle.nm_json.specs.Findings.{Finding, row, bad, fault_at, whole_found}
use Rattle.nm_json.specs.Whole.{rows_of, if_repeated, faults_found, least_of, answered, config_read}
use Rattle.nm_json.specs.Laws.{Reordered, IsAmong, IsUpto, IsLeast}
use Rattle.nm_json.proofs.Least.{least_is, no_least}
use Rattle.nm_json.proofs.Reordering.{whole_shuffled}
use Rattle.nm_json.proofs.FaultTexts.{tied, same_kind, same_text}
use Rattle.nm_json.proofs.Shuffled.{Shuffled, as_before, neighbours, behind, further, equals, none_left, all_shuffled, back}

-- ---- maps of rows

-- two maps have rows at the same paths
abbrev SameKeys : Rows → Rows → Type 0
SameKeys m n = (q : List PathStep) → is_some (get m q) ≡ is_some (get n q)

some_if : (b : Bool) (v w : Value) (x y : Option Value) → is_some x ≡ is_some y → is_some (cond b (Some v) x) ≡ is_some (cond b (Some w) y)
some_if true v w x y e = refl
some_if false v w x y e = e

keys_insert : (m n : Rows) (p : List PathStep) (v w : Value) → SameKeys m n → SameKeys (insert m p v) (insert n p w)
keys_insert m n p v w s q =
    ap is_some (get-insert paths_total m p v q) ∙ some_if (eq_by_cmp path_cmp q p) v w (get m q) (get n q) (s q) ∙ ap is_some (sym (get-insert paths_total n p w q))

some_both : (a b : Bool) (v w : Value) (x : Option Value) → is_some (cond a (Some w) (cond b (Some v) x)) ≡ is_some (cond b (Some v) (cond a (Some w) x))
some_both true true v w x = refl
some_both true false v w x = refl
some_both false true v w x = refl
some_both false false v w x = refl

get_both : (m : Rows) (p q : List PathStep) (v w : Value) (x : List PathStep)
    → get (insert (insert m p v) q w) x ≡ cond (eq_by_cmp path_cmp x q) (Some w) (cond (eq_by_cmp path_cmp x p) (Some v) (get m x))
get_both m p q v w x = get-insert paths_total (insert m p v) q w x ∙ ap (cond (eq_by_cmp path_cmp x q) (Some w)) (get-insert paths_total m p v x)

keys_both : (m : Rows) (p q : List PathStep) (v w : Value) → SameKeys (insert (insert m p v) q w) (insert (insert m q w) p v)
keys_both m p q v w x =
    ap is_some (get_both m p q v w x) ∙ some_both (eq_by_cmp path_cmp x q) (eq_by_cmp path_cmp x p) v w (get m x) ∙ ap is_some (sym (get_both m q p w v x))

equal : (o : Ordering) → is_eq o ≡ true → o ≡ Equal
equal Less e = cc
equal Equal e = refl
equal Greater e = cc

-- paths that tie are one path
one_path : (p q : List PathStep) → eq_by_cmp path_cmp p q ≡ true → p ≡ q
one_path p q e = path_cmp-IsAntisymmetric p q (equal (path_cmp p q) e)

itself : (p : List PathStep) → eq_by_cmp path_cmp p p ≡ true
itself p = ap is_eq (tied_itself paths_total p)

apart_by : (a b : Bool) (v w : Value) (x : Option Value) → (a ≡ true → b ≡ true → ⊥) → cond a (Some w) (cond b (Some v) x) ≡ cond b (Some v) (cond a (Some w) x)
apart_by true true v w x h = absurd (h refl refl)
apart_by true false v w x h = refl
apart_by false true v w x h = refl
apart_by false false v w x h = refl

-- rows at two paths, in either order
insert_both : (m : Rows) (p q : List PathStep) (v w : Value) → eq_by_cmp path_cmp q p ≡ false → insert (insert m p v) q w ≡ insert (insert m q w) p v
insert_both m p q v w apart = same_map paths_total path_cmp-IsAntisymmetric _ _ (λ x.
    let never : eq_by_cmp path_cmp x q ≡ true → eq_by_cmp path_cmp x p ≡ true → ⊥ = λ a b.
    let one : q ≡ p = sym (one_path x q a) ∙ one_path x p b in
    let tie : eq_by_cmp path_cmp q p ≡ true = ap (eq_by_cmp path_cmp q) (sym one) ∙ itself q in
    cc in
    get_both m p q v w x ∙ apart_by (eq_by_cmp path_cmp x q) (eq_by_cmp path_cmp x p) v w (get m x) never ∙ sym (get_both m q p w v x))

-- ---- faults

-- which rows are repeated hangs on the paths before them alone
faults_by_keys : (m n : Rows) (fs : List Finding) → SameKeys m n → faults_found m fs ≡ faults_found n fs
faults_by_keys m n [] s = refl
faults_by_keys m n (row p v ∷ fs) s =
    let here = s p in
    let later = faults_by_keys (insert m p v) (insert n p v) fs (keys_insert m n p v v s) in
    λ i. if_repeated (here i) p (later i)
faults_by_keys m n (bad f ∷ fs) s = ap (λ gs. f ∷ gs) (faults_by_keys m n fs s)

past_fault : (b : Bool) (p : List PathStep) (f : Fault) (fs : List Fault) → Shuffled (if_repeated b p (f ∷ fs)) (f ∷ if_repeated b p fs)
past_fault true p f fs = neighbours
past_fault false p f fs = as_before

before_fault : (b : Bool) (p : List PathStep) (f : Fault) (fs : List Fault) → Shuffled (f ∷ if_repeated b p fs) (if_repeated b p (f ∷ fs))
before_fault true p f fs = neighbours
before_fault false p f fs = as_before

behind_repeated : (b : Bool) (p : List PathStep) {fs gs : List Fault} → Shuffled fs gs → Shuffled (if_repeated b p fs) (if_repeated b p gs)
behind_repeated true p s = behind s
behind_repeated false p s = s

two_apart : (a b : Bool) (p q : List PathStep) (fs : List Fault) → Shuffled (if_repeated a p (if_repeated b q fs)) (if_repeated b q (if_repeated a p fs))
two_apart true true p q fs = neighbours
two_apart true false p q fs = as_before
two_apart false true p q fs = as_before
two_apart false false p q fs = as_before

-- two rows, of which the second may have the path of the first
two_rows : (one a b : Bool) (p q : List PathStep) (fs : List Fault) → (one ≡ true → (p ≡ q) × (a ≡ b))
    → Shuffled (if_repeated a p (if_repeated (cond one true b) q fs)) (if_repeated b q (if_repeated (cond one true a) p fs))
two_rows true a b p q fs h =
    let path = (h refl).0 in
    let test = (h refl).1 in
    equals (λ i. if_repeated (test i) (path i) (fault_at (sym path i) Repeated ∷ fs))
two_rows false a b p q fs h = two_apart a b p q fs

some_cond : (b : Bool) (v : Value) (x : Option Value) → is_some (cond b (Some v) x) ≡ cond b true (is_some x)
some_cond true v x = refl
some_cond false v x = refl

has_after : (m : Rows) (p : List PathStep) (v : Value) (q : List PathStep) → is_some (get (insert m p v) q) ≡ cond (eq_by_cmp path_cmp q p) true (is_some (get m q))
has_after m p v q = ap is_some (get-insert paths_total m p v q) ∙ some_cond (eq_by_cmp path_cmp q p) v (get m q)

turned_by : (o x : Bool) (p q : List PathStep) → eq_by_cmp path_cmp p q ≡ o → eq_by_cmp path_cmp q p ≡ x → o ≡ x
turned_by true true p q e f = refl
turned_by false false p q e f = refl
turned_by true false p q e f =
    let one = one_path p q e in
    let tie : eq_by_cmp path_cmp q p ≡ true = ap (eq_by_cmp path_cmp q) one ∙ itself q in
    cc
turned_by false true p q e f =
    let one = one_path q p f in
    let tie : eq_by_cmp path_cmp p q ≡ true = ap (eq_by_cmp path_cmp p) one ∙ itself p in
    cc

turned : (p q : List PathStep) → eq_by_cmp path_cmp p q ≡ eq_by_cmp path_cmp q p
turned p q = turned_by _ _ p q refl refl

faults_rows : (m : Rows) (p q : List PathStep) (v w : Value) (fs : List Finding)
    → Shuffled (faults_found m (row p v ∷ row q w ∷ fs)) (faults_found m (row q w ∷ row p v ∷ fs))
faults_rows m p q v w fs =
    let one = eq_by_cmp path_cmp q p in
    let a = is_some (get m p) in
    let b = is_some (get m q) in
    let left = faults_found (insert (insert m p v) q w) fs in
    let right = faults_found (insert (insert m q w) p v) fs in
    let same : left ≡ right = faults_by_keys _ _ fs (keys_both m p q v w) in
    let second : is_some (get (insert m p v) q) ≡ cond one true b = has_after m p v q in
    let other : is_some (get (insert m q w) p) ≡ cond one true a = has_after m q w p ∙ ap (λ c. cond c true a) (turned p q) in
    let parts : one ≡ true → (p ≡ q) × (a ≡ b) = λ e. (sym (one_path q p e), ap (λ x. is_some (get m x)) (sym (one_path q p e))) in
    further (if_repeated a p (if_repeated (cond one true b) q left)) (equals (ap (λ c. if_repeated a p (if_repeated c q left)) second))
    (further (if_repeated b q (if_repeated (cond one true a) p left)) (two_rows one a b p q left parts)
    (equals (λ i. if_repeated b q (if_repeated (sym other i) p (same i)))))

faults_two : (m : Rows) (x y : Finding) (fs : List Finding) → Shuffled (faults_found m (x ∷ y ∷ fs)) (faults_found m (y ∷ x ∷ fs))
faults_two m (row p v) (row q w) fs = faults_rows m p q v w fs
faults_two m (row p v) (bad g) fs = past_fault (is_some (get m p)) p g (faults_found (insert m p v) fs)
faults_two m (bad f) (row q w) fs = before_fault (is_some (get m q)) q f (faults_found (insert m q w) fs)
faults_two m (bad f) (bad g) fs = neighbours

faults_more : (m : Rows) (x : Finding) (fs gs : List Finding) → ((n : Rows) → Shuffled (faults_found n fs) (faults_found n gs)) → Shuffled (faults_found m (x ∷ fs)) (faults_found m (x ∷ gs))
faults_more m (row p v) fs gs s = behind_repeated (is_some (get m p)) p (s (insert m p v))
faults_more m (bad f) fs gs s = behind (s m)

-- the faults of findings in another order are these in another order
pub faults_shuffled : {fs gs : List Finding} → Shuffled fs gs → (m : Rows) → Shuffled (faults_found m fs) (faults_found m gs)
faults_shuffled as_before m = as_before
faults_shuffled (neighbours {x} {y} {xs}) m = faults_two m x y xs
faults_shuffled (behind {x} {xs} {ys} s) m = faults_more m x xs ys (λ n. faults_shuffled s n)
faults_shuffled (further hs s t) m = further (faults_found m hs) (faults_shuffled s m) (faults_shuffled t m)

-- ---- rows

record NoneRepeated (b : Bool) (fs : List Fault) : Type 0 where
  first : b ≡ false
  others : fs ≡ []

none_repeated : (b : Bool) (p : List PathStep) (fs : List Fault) → if_repeated b p fs ≡ [] → NoneRepeated b fs
none_repeated true p fs e = absurd cc
none_repeated false p fs e = record { first = refl; others = e }

not_tied : (one b : Bool) → cond one true b ≡ false → one ≡ false
not_tied true b e = e
not_tied false b e = refl

rows_two : (m : Rows) (x y : Finding) (fs : List Finding) → faults_found m (x ∷ y ∷ fs) ≡ [] → rows_of m (x ∷ y ∷ fs) ≡ rows_of m (y ∷ x ∷ fs)
rows_two m (row p v) (row q w) fs e =
    let one = none_repeated (is_some (get m p)) p (faults_found (insert m p v) (row q w ∷ fs)) e in
    let two = none_repeated (is_some (get (insert m p v) q)) q (faults_found (insert (insert m p v) q w) fs) one.others in
    let apart = not_tied (eq_by_cmp path_cmp q p) (is_some (get m q)) (sym (has_after m p v q) ∙ two.first) in
    ap (λ n. rows_of n fs) (insert_both m p q v w apart)
rows_two m (row p v) (bad g) fs e = refl
rows_two m (bad f) (row q w) fs e = refl
rows_two m (bad f) (bad g) fs e = refl

rows_more : (m : Rows) (x : Finding) (fs gs : List Finding) → ((n : Rows) → faults_found n fs ≡ [] → rows_of n fs ≡ rows_of n gs) → faults_found m (x ∷ fs) ≡ [] → rows_of m (x ∷ fs) ≡ rows_of m (x ∷ gs)
rows_more m (row p v) fs gs s e =
    let none = none_repeated (is_some (get m p)) p (faults_found (insert m p v) fs) e in
    s (insert m p v) none.others
rows_more m (bad f) fs gs s e = absurd cc

-- without faults, findings in another order have the same rows
pub rows_shuffled : {fs gs : List Finding} → Shuffled fs gs → (m : Rows) → faults_found m fs ≡ [] → rows_of m fs ≡ rows_of m gs
rows_shuffled as_before m e = refl
rows_shuffled (neighbours {x} {y} {xs}) m e = rows_two m x y xs e
rows_shuffled (behind {x} {xs} {ys} s) m e = rows_more m x xs ys (λ n h. rows_shuffled s n h) e
rows_shuffled (further hs s t) m e = rows_shuffled s m e ∙ rows_shuffled t m (none_left (faults_shuffled s m) e)

-- ---- answers

among_shuffled : (f : Fault) {fs gs : List Fault} → Shuffled fs gs → IsAmong f fs → IsAmong f gs
among_shuffled f as_before h = h
among_shuffled f neighbours (inl e) = inr (inl e)
among_shuffled f neighbours (inr (inl e)) = inl e
among_shuffled f neighbours (inr (inr h)) = inr (inr h)
among_shuffled f (behind s) (inl e) = inl e
among_shuffled f (behind s) (inr h) = inr (among_shuffled f s h)
among_shuffled f (further hs s t) h = among_shuffled f t (among_shuffled f s h)

upto_among : (f g : Fault) (fs : List Fault) → IsAmong g fs → AllByRecursion (IsUpto f) fs → IsUpto f g
upto_among f g [] h all = absurd h
upto_among f g (x ∷ fs) (inl e) all = subst (IsUpto f) (sym e) all.0
upto_among f g (x ∷ fs) (inr h) all = upto_among f g fs h all.1

-- the least faults of two lists, of which one is the other in another order, tie
tied_least : (f g : Fault) (fs gs : List Fault) → Shuffled fs gs → IsLeast f fs → IsLeast g gs → fault_cmp f g ≡ Equal
tied_least f g fs gs s one other =
    tied f g (upto_among f g gs other.among (all_shuffled (IsUpto f) s one.least)) (upto_among g f gs (among_shuffled f s one.among) other.least)

-- two least faults of such lists
abbrev pub AreTied : Option Fault → Option Fault → Type 0
AreTied None None = Unit {0}
AreTied (Some f) (Some g) = fault_cmp f g ≡ Equal
AreTied _ _ = ⊥

pub tied_at : (fs gs : List Fault) (x y : Option Fault) → Shuffled fs gs → Shuffled gs fs → least_of fs ≡ x → least_of gs ≡ y → AreTied x y
tied_at fs gs None None s r a b = tt
tied_at fs gs (Some f) (Some g) s r a b = tied_least f g fs gs s (least_is fs f a) (least_is gs g b)
tied_at fs gs None (Some g) s r a b =
    let none = none_left s (no_least fs a) in
    let nothing : least_of gs ≡ None = ap least_of none in
    cc
tied_at fs gs (Some f) None s r a b =
    let none = none_left r (no_least gs b) in
    let nothing : least_of fs ≡ None = ap least_of none in
    cc

pub same_answer : (t : SchemaTree) (x y : Option Fault) (m n : Rows) → AreTied x y → (x ≡ None → m ≡ n) → answered t x m ≡ answered t y n
same_answer t None None m n h e = ap (answered t None) (e refl)
same_answer t (Some f) (Some g) m n h e =
    let kind = same_kind f g h in
    let text = same_text t f g h in
    λ i. Err (Bad (kind i) (text i))
same_answer t None (Some g) m n h e = absurd h
same_answer t (Some f) None m n h e = absurd h

pub order_law : (t : SchemaTree) (d e : Data) → Reordered d e → config_read t d ≡ config_read t e
order_law t d e r =
    let found = whole_shuffled t r in
    let faults = faults_shuffled found empty in
    same_answer t (least_of (faults_found empty (whole_found t d))) (least_of (faults_found empty (whole_found t e))) (rows_of empty (whole_found t d)) (rows_of empty (whole_found t e))
    (tied_at _ _ _ _ faults (back faults) refl refl)
    (λ none. rows_shuffled found empty (no_least (faults_found empty (whole_found t d)) none))
