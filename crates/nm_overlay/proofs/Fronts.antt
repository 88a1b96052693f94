-- The front of ascending pairs that a test of paths keeps, and what stands at its end.
use Rattle.std.proofs.Common.{◌≡◌, ℕ, zero, suc, ◌<◌, ◌≤◌, Bool, true, false, cond, List, [], ◌∷◌, length, get_or, take, drop, set, refl, sym, ap, ◌∙◌, arith}
use Rattle.std.specs.Prelude.{Option, Some, None, not, ◌||◌, filter, slice_get}
use Rattle.std.specs.Ordering.{is_lt, is_le, is_gt, is_eq, eq_by_cmp, ordering_reverse}
use Rattle.std.specs.declared.cmp.Ordering.{Ordering}
use Rattle.std.specs.declared.cmp.Ordering.TheVariants.{Less, Equal, Greater}
use Rattle.std.specs.List.{insert, remove}
use Rattle.std.specs.List.Sorted.{IsPartitionedBy, IsPartitionPoint}
use Rattle.std.specs.FinMap.{find, put}
use Rattle.std.specs.FinMap.Entries.{where_key, by_order}
use Rattle.std.proofs.lemmas.List.Elements.{filter_agree}
use Rattle.nm_types.specs.Path.{path_cmp}
use Rattle.nm_types.specs.PathLaws.{paths_total}
use Rattle.nm_types.specs.declared.value.Value.{Value}
use Rattle.nm_config.specs.Under.{is_under}
use Rattle.nm_config.proofs.Contiguous.{under-between}
use Rattle.nm_overlay.specs.Places.{Pair, Ascends, front, is_before, is_before_or_under, is_after, is_up_to, is_pair_of, said_of}
use Rattle.nm_overlay.proofs.Order.{Place, lt_less, equal, one, not_before, at_least, less_up_to, up_to_less, greater_less, less_greater, up_to_turned, past_turned}
use Rattle.nm_overlay.proofs.Sorted.{Below, head_below, tail_sorted, below_head, below_tail, below_lower, find_below}

-- a test that holds of each path before one of which it holds
abbrev pub Falls : (Place → Bool) → Type 0
Falls p = (x y : Place) → path_cmp x y ≡ Less → p y ≡ true → p x ≡ true

below_at : (x : Place) (es : List Pair) (j : ℕ) (d : Pair) → Below x es → j < length es → path_cmp x (get_or es j d).0 ≡ Less
below_at x [] j d h l = absurd (omega (arith, l))
below_at x (e ∷ es) zero d h l = below_head x e es h
below_at x (e ∷ es) (suc j) d h l = below_at x es j d (below_tail x e es h) (omega (arith, l))

-- ascending pairs are parted by such a test
pub parted : (p : Place → Bool) → Falls p → (es : List Pair) → Ascends es → IsPartitionedBy (λ e. p e.0) es
parted p falls [] s i j d le l h = absurd (omega (arith, l))
parted p falls (e ∷ es) s zero zero d le l h = h
parted p falls (e ∷ es) s zero (suc j) d le l h = falls e.0 (get_or es j d).0 (below_at e.0 es j d (head_below e es s) (omega (arith, l))) h
parted p falls (e ∷ es) s (suc i) zero d le l h = absurd (omega (arith, le))
parted p falls (e ∷ es) s (suc i) (suc j) d le l h = parted p falls es (tail_sorted e es s) i j d (omega (arith, le)) (omega (arith, l)) h

-- the point at which they are parted is the length of the front
pub front-point : (p : Place → Bool) (es : List Pair) (n : ℕ) → n ≤ length es → IsPartitionPoint (λ e. p e.0 ≡ true) (λ e. p e.0 ≡ false) es n
    → n ≡ front p es
front-point p [] n le h = omega (arith, le)
front-point p (e ∷ es) zero le h = sym (ap (λ b. cond b (suc (front p es)) 0) (h.1 zero e (omega arith) (omega arith)))
front-point p (e ∷ es) (suc n) le h =
    ap suc (front-point p es n (omega (arith, le)) ((λ k d a b. h.0 (suc k) d (omega arith) (omega (arith, b))), (λ k d a b. h.1 (suc k) d (omega (arith, a)) (omega (arith, b)))))
    ∙ sym (ap (λ b. cond b (suc (front p es)) 0) (h.0 zero e (omega arith) (omega arith)))

pub front_within : (p : Place → Bool) (es : List Pair) → front p es ≤ length es
front_within p [] = omega arith
front_within p (e ∷ es) = by (p e.0) (front_within p es)
  where
    by : (b : Bool) → front p es ≤ length es → cond b (suc (front p es)) 0 ≤ suc (length es)
    by true h = omega (arith, h)
    by false h = omega arith

-- a test that holds wherever another does has no shorter front
pub front_more : (p r : Place → Bool) → ((x : Place) → p x ≡ true → r x ≡ true) → (es : List Pair) → front p es ≤ front r es
front_more p r more [] = omega arith
front_more p r more (e ∷ es) = by (p e.0) (r e.0) (more e.0) (front_more p r more es)
  where
    by : (a b : Bool) → (a ≡ true → b ≡ true) → front p es ≤ front r es → cond a (suc (front p es)) 0 ≤ cond b (suc (front r es)) 0
    by true true f h = omega (arith, h)
    by true false f h = let g : false ≡ true = f refl in cc
    by false b f h = omega arith

none_pass : (p : Place → Bool) → Falls p → (x : Place) (es : List Pair) → p x ≡ false → Below x es → filter (λ e. p e.0) es ≡ []
none_pass p falls x [] out h = refl
none_pass p falls x (e ∷ es) out h = by (p e.0) refl (none_pass p falls x es out (below_tail x e es h))
  where
    by : (b : Bool) → p e.0 ≡ b → filter (λ e. p e.0) es ≡ [] → cond b (e ∷ filter (λ e. p e.0) es) (filter (λ e. p e.0) es) ≡ []
    by true i rest = let g : p x ≡ true = falls x e.0 (below_head x e es h) i in let f : true ≡ false = sym g ∙ out in cc
    by false i rest = rest

all_pass : (p : Place → Bool) → Falls p → (x : Place) (es : List Pair) → p x ≡ false → Below x es → filter (λ e. not (p e.0)) es ≡ es
all_pass p falls x [] out h = refl
all_pass p falls x (e ∷ es) out h = by (p e.0) refl (all_pass p falls x es out (below_tail x e es h))
  where
    by : (b : Bool) → p e.0 ≡ b → filter (λ e. not (p e.0)) es ≡ es
        → cond (not b) (e ∷ filter (λ e. not (p e.0)) es) (filter (λ e. not (p e.0)) es) ≡ e ∷ es
    by true i rest = let g : p x ≡ true = falls x e.0 (below_head x e es h) i in let f : true ≡ false = sym g ∙ out in cc
    by false i rest = ap (λ (l : List Pair). e ∷ l) rest

-- the front is what passes the test
pub front_kept : (p : Place → Bool) → Falls p → (es : List Pair) → Ascends es → take (front p es) es ≡ filter (λ e. p e.0) es
front_kept p falls [] s = refl
front_kept p falls (e ∷ es) s = by (p e.0) refl (front_kept p falls es (tail_sorted e es s))
  where
    by : (b : Bool) → p e.0 ≡ b → take (front p es) es ≡ filter (λ e. p e.0) es
        → take (cond b (suc (front p es)) 0) (e ∷ es) ≡ cond b (e ∷ filter (λ e. p e.0) es) (filter (λ e. p e.0) es)
    by true i rest = ap (λ (l : List Pair). e ∷ l) rest
    by false i rest = sym (none_pass p falls e.0 es i (head_below e es s))

-- and what is behind it doesn't pass
pub front_left : (p : Place → Bool) → Falls p → (es : List Pair) → Ascends es → drop (front p es) es ≡ filter (λ e. not (p e.0)) es
front_left p falls [] s = refl
front_left p falls (e ∷ es) s = by (p e.0) refl (front_left p falls es (tail_sorted e es s))
  where
    by : (b : Bool) → p e.0 ≡ b → drop (front p es) es ≡ filter (λ e. not (p e.0)) es
        → drop (cond b (suc (front p es)) 0) (e ∷ es) ≡ cond (not b) (e ∷ filter (λ e. not (p e.0)) es) (filter (λ e. not (p e.0)) es)
    by true i rest = rest
    by false i rest = ap (λ (l : List Pair). e ∷ l) (sym (all_pass p falls e.0 es i (head_below e es s)))

pub before_falls : (node : Place) → Falls (is_before node)
before_falls node x y h b = ap is_lt (paths_total.trans x y node h (lt_less (path_cmp y node) b))

up_to : (o : Ordering) → is_le o ≡ true → is_gt o ≡ false
up_to Less h = refl
up_to Equal h = refl
up_to Greater h = cc

pub up_to_falls : (path : Option Place) → Falls (is_up_to path)
up_to_falls None x y h b = b
up_to_falls (Some p) x y h b = ap is_le (less_up_to x y p h (up_to (path_cmp y p) b))

either : (a b : Bool) → (a || b) ≡ true → a ≡ false → b ≡ true
either true b h n = cc
either false b h n = h

pub under_falls : (node : Place) → Falls (is_before_or_under node)
under_falls node x y h b = by (is_before node x) refl
  where
    by : (c : Bool) → is_before node x ≡ c → (c || is_under node x) ≡ true
    by true e = refl
    by false e =
        let past : is_gt (path_cmp node x) ≡ false = not_before node x e in
        let later : is_before node y ≡ false = at_least node y (ap is_gt (up_to_less node x y past h)) in
        under-between node x y (either (is_before node y) (is_under node y) b later) past (ap is_gt h)

-- what stands after a path is what isn't up to it
pub after_not_up_to : (path : Option Place) (x : Place) → not (is_up_to path x) ≡ is_after path x
after_not_up_to None x = refl
after_not_up_to (Some p) x = by (is_le (path_cmp x p)) refl
  where
    by : (b : Bool) → is_le (path_cmp x p) ≡ b → not b ≡ is_lt (path_cmp p x)
    by true e = sym (up_to_turned p x e)
    by false e = sym (past_turned p x e)

-- the pair where the front before a path ends
abbrev here : Place → List Pair → Option Pair
here q es = slice_get es (front (is_before q) es)

-- a path is found among ascending pairs where the pair at its place is its own
pub found_here : (q : Place) (es : List Pair) → Ascends es → find path_cmp q es ≡ said_of q (here q es)
found_here q [] s = refl
found_here q (e ∷ es) s = by (path_cmp e.0 q) refl (found_here q es (tail_sorted e es s))
  where
    nothing : path_cmp q e.0 ≡ Less
        → cond (eq_by_cmp path_cmp q e.0) (Some e.1) (find path_cmp q es) ≡ cond (eq_by_cmp path_cmp q e.0) (Some e.1) None
    nothing l = ap (λ o. cond (eq_by_cmp path_cmp q e.0) (Some e.1) o) (find_below q es (below_lower q e.0 es l (head_below e es s)))

    by : (o : Ordering) → path_cmp e.0 q ≡ o → find path_cmp q es ≡ said_of q (here q es)
        → cond (eq_by_cmp path_cmp q e.0) (Some e.1) (find path_cmp q es) ≡ said_of q (slice_get (e ∷ es) (cond (is_lt o) (suc (front (is_before q) es)) 0))
    by Less i rest = ap (λ r. cond (is_eq r) (Some e.1) (find path_cmp q es)) (less_greater e.0 q i) ∙ rest
    by Equal i rest =
        let t : path_cmp q e.0 ≡ Equal = paths_total.antisymm q e.0 ∙ ap ordering_reverse i in
        ap (λ r. cond (is_eq r) (Some e.1) (find path_cmp q es)) t ∙ sym (ap (λ r. cond (is_eq r) (Some e.1) None) t)
    by Greater i rest = nothing (greater_less e.0 q i)

pub absent_here : (q : Place) (es : List Pair) → Ascends es → is_pair_of q (here q es) ≡ false → find path_cmp q es ≡ None
absent_here q [] s h = refl
absent_here q (e ∷ es) s h = by (path_cmp e.0 q) (absent_here q es (tail_sorted e es s)) refl h
  where
    by : (o : Ordering) → (is_pair_of q (here q es) ≡ false → find path_cmp q es ≡ None) → path_cmp e.0 q ≡ o
        → is_pair_of q (slice_get (e ∷ es) (cond (is_lt o) (suc (front (is_before q) es)) 0)) ≡ false
        → cond (eq_by_cmp path_cmp q e.0) (Some e.1) (find path_cmp q es) ≡ None
    by Less rest i h = ap (λ r. cond (is_eq r) (Some e.1) (find path_cmp q es)) (less_greater e.0 q i) ∙ rest h
    by Equal rest i h = let f : path_cmp q e.0 ≡ Equal = paths_total.antisymm q e.0 ∙ ap ordering_reverse i in let g : true ≡ false = sym (ap is_eq f)
        ∙ h in cc
    by Greater rest i h = let l = greater_less e.0 q i in
        ap (λ r. cond (is_eq r) (Some e.1) (find path_cmp q es)) l ∙ find_below q es (below_lower q e.0 es l (head_below e es s))

-- a pair put in its place
pub put_here : (k : Place) (v : Option Value) (es : List Pair) → is_pair_of k (here k es) ≡ true
    → put path_cmp k v es ≡ set es (front (is_before k) es) (k, v)
put_here k v [] h = cc
put_here k v (e ∷ es) h = by (path_cmp e.0 k) (put_here k v es) refl h
  where
    by : (o : Ordering) → (is_pair_of k (here k es) ≡ true → put path_cmp k v es ≡ set es (front (is_before k) es) (k, v)) → path_cmp e.0 k ≡ o
        → is_pair_of k (slice_get (e ∷ es) (cond (is_lt o) (suc (front (is_before k) es)) 0)) ≡ true
        → by_order (path_cmp k e.0) ((k, v) ∷ e ∷ es) ((e.0, v) ∷ es) (e ∷ put path_cmp k v es) ≡ set (e ∷ es) (cond (is_lt o) (suc (front (is_before k) es)) 0) (k, v)
    by Less rest i h = ap (λ r. by_order r ((k, v) ∷ e ∷ es) ((e.0, v) ∷ es) (e ∷ put path_cmp k v es)) (less_greater e.0 k i)
        ∙ ap (λ (l : List Pair). e ∷ l) (rest h)
    by Equal rest i h = ap (λ r. by_order r ((k, v) ∷ e ∷ es) ((e.0, v) ∷ es) (e ∷ put path_cmp k v es)) (equal (path_cmp k e.0) h)
        ∙ ap (λ (p : Place). (p, v) ∷ es) (sym (one k e.0 h))
    by Greater rest i h = ap (λ r. by_order r ((k, v) ∷ e ∷ es) ((e.0, v) ∷ es) (e ∷ put path_cmp k v es)) (equal (path_cmp k e.0) h)
        ∙ ap (λ (p : Place). (p, v) ∷ es) (sym (one k e.0 h))

pub put_new : (k : Place) (v : Option Value) (es : List Pair) → is_pair_of k (here k es) ≡ false
    → put path_cmp k v es ≡ insert es (front (is_before k) es) (k, v)
put_new k v [] h = refl
put_new k v (e ∷ es) h = by (path_cmp e.0 k) (put_new k v es) refl h
  where
    by : (o : Ordering) → (is_pair_of k (here k es) ≡ false → put path_cmp k v es ≡ insert es (front (is_before k) es) (k, v)) → path_cmp e.0 k ≡ o
        → is_pair_of k (slice_get (e ∷ es) (cond (is_lt o) (suc (front (is_before k) es)) 0)) ≡ false
        → by_order (path_cmp k e.0) ((k, v) ∷ e ∷ es) ((e.0, v) ∷ es) (e ∷ put path_cmp k v es) ≡ insert (e ∷ es) (cond (is_lt o) (suc (front (is_before k) es)) 0) (k, v)
    by Less rest i h = ap (λ r. by_order r ((k, v) ∷ e ∷ es) ((e.0, v) ∷ es) (e ∷ put path_cmp k v es)) (less_greater e.0 k i)
        ∙ ap (λ (l : List Pair). e ∷ l) (rest h)
    by Equal rest i h = let f : path_cmp k e.0 ≡ Equal = paths_total.antisymm k e.0 ∙ ap ordering_reverse i in let g : true ≡ false = sym (ap is_eq f)
        ∙ h in cc
    by Greater rest i h = ap (λ r. by_order r ((k, v) ∷ e ∷ es) ((e.0, v) ∷ es) (e ∷ put path_cmp k v es)) (greater_less e.0 k i)

-- the pairs without that of a path
apart_from : (k x : Place) (es : List Pair) → path_cmp k x ≡ Equal → Below x es → where_key path_cmp (λ y. not (eq_by_cmp path_cmp k y)) es ≡ es
apart_from k x [] t h = refl
apart_from k x (e ∷ es) t h =
    ap (λ r. cond (not (is_eq r)) (e ∷ where_key path_cmp (λ y. not (eq_by_cmp path_cmp k y)) es) (where_key path_cmp (λ y. not (eq_by_cmp path_cmp k y)) es)) (paths_total.congr k x e.0 t
    ∙ below_head x e es h)
    ∙ ap (λ (l : List Pair). e ∷ l) (apart_from k x es t (below_tail x e es h))

pub remove_here : (k : Place) (es : List Pair) → Ascends es → is_pair_of k (here k es) ≡ true
    → where_key path_cmp (λ y. not (eq_by_cmp path_cmp k y)) es ≡ remove es (front (is_before k) es)
remove_here k [] s h = cc
remove_here k (e ∷ es) s h = by (path_cmp e.0 k) (remove_here k es (tail_sorted e es s)) refl h
  where
    left : List Pair
    left = where_key path_cmp (λ y. not (eq_by_cmp path_cmp k y)) es

    same : is_pair_of k (Some e) ≡ true → cond (not (eq_by_cmp path_cmp k e.0)) (e ∷ left) left ≡ es
    same h = ap (λ b. cond (not b) (e ∷ left) left) h ∙ apart_from k e.0 es (equal (path_cmp k e.0) h) (head_below e es s)

    by : (o : Ordering) → (is_pair_of k (here k es) ≡ true → left ≡ remove es (front (is_before k) es)) → path_cmp e.0 k ≡ o
        → is_pair_of k (slice_get (e ∷ es) (cond (is_lt o) (suc (front (is_before k) es)) 0)) ≡ true
        → cond (not (eq_by_cmp path_cmp k e.0)) (e ∷ left) left ≡ remove (e ∷ es) (cond (is_lt o) (suc (front (is_before k) es)) 0)
    by Less rest i h = ap (λ r. cond (not (is_eq r)) (e ∷ left) left) (less_greater e.0 k i) ∙ ap (λ (l : List Pair). e ∷ l) (rest h)
    by Equal rest i h = same h
    by Greater rest i h = same h

-- where no pair is there, none goes
pub remove_none : (q : Place) (es : List Pair) → find path_cmp q es ≡ None → es ≡ where_key path_cmp (λ x. not (eq_by_cmp path_cmp q x)) es
remove_none q [] h = refl
remove_none q (e ∷ es) h = by (eq_by_cmp path_cmp q e.0) (remove_none q es) h
  where
    by : (b : Bool) → (find path_cmp q es ≡ None → es ≡ where_key path_cmp (λ x. not (eq_by_cmp path_cmp q x)) es)
        → cond b (Some e.1) (find path_cmp q es) ≡ None
        → e ∷ es ≡ cond (not b) (e ∷ where_key path_cmp (λ x. not (eq_by_cmp path_cmp q x)) es) (where_key path_cmp (λ x. not (eq_by_cmp path_cmp q x)) es)
    by true rest h = cc
    by false rest h = ap (λ (l : List Pair). e ∷ l) (rest h)

-- each pair stands after none
pub all_after_none : (es : List Pair) → es ≡ filter (λ e. is_after None e.0) es
all_after_none [] = refl
all_after_none (e ∷ es) = ap (λ (l : List Pair). e ∷ l) (all_after_none es)

-- what is behind the front up to a path is what stands after it
pub left_after : (p : Place) (es : List Pair) → Ascends es → drop (front (is_up_to (Some p)) es) es ≡ filter (λ e. is_after (Some p) e.0) es
left_after p es s =
    front_left (is_up_to (Some p)) (up_to_falls (Some p)) es s
    ∙ filter_agree (λ e. not (is_up_to (Some p) e.0)) (λ e. is_after (Some p) e.0) (λ e. after_not_up_to (Some p) e.0) es
