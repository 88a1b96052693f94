-- The rows of a configuration with changes, as one merge of two lists.
use Rattle.std.proofs.Common.{◌≡◌, ℕ, zero, suc, Bool, true, false, cond, List, [], ◌∷◌, ◌++◌, take, drop, append_assoc, refl, sym, ap, subst, ◌∙◌}
use Rattle.std.specs.Prelude.{Option, Some, None, not, filter}
use Rattle.std.specs.Option.{option_or}
use Rattle.std.specs.Ordering.{is_gt, is_eq, eq_by_cmp}
use Rattle.std.specs.declared.cmp.Ordering.{Ordering}
use Rattle.std.specs.declared.cmp.Ordering.TheVariants.{Less, Equal, Greater}
use Rattle.std.specs.List.{AllByRecursion}
use Rattle.std.specs.FinMap.{entries, find, entries_sorted, get-entries}
use Rattle.std.specs.FinMap.Entries.{same_entries, is_sorted-where_key}
use Rattle.std.proofs.lemmas.List.{take-append-drop}
use Rattle.nm_types.specs.Path.{path_cmp}
use Rattle.nm_types.specs.PathLaws.{paths_total, path_cmp-IsAntisymmetric}
use Rattle.nm_types.specs.declared.value.Value.{Value}
use Rattle.nm_config.specs.Rows.{Rows}
use Rattle.nm_overlay.specs.Differences.{with_changes}
use Rattle.nm_overlay.specs.Places.{Pair, Ascends, front, is_before, present, row_with, behind_row}
use Rattle.nm_overlay.proofs.Order.{Place, lt_less, one, not_before, less_up_to}
use Rattle.nm_overlay.proofs.Sorted.{In_order, Below, head_below, tail_sorted, cons_sorted, below_head, below_tail, below_cons, below_append, below_lower, find_below, find_append, sorted_append, all_kept}
use Rattle.nm_overlay.proofs.Fronts.{front_kept, front_left, before_falls}
use Rattle.nm_overlay.proofs.Changed.{seen, get-with_changes}

abbrev pub Row : Type 0
Row = Place × Value

-- a row of the base with the pairs from it on: what is said of it, and else it
abbrev pub joined : Row → (List Pair → List Row) → List Pair → List Row
joined e rest [] = e ∷ rest []
joined e rest (c ∷ cs) = cond (eq_by_cmp path_cmp e.0 c.0) (present (c ∷ []) ++ rest cs) (e ∷ rest (c ∷ cs))

-- the rows of the base with the pairs: before each row what is said of paths before it
abbrev pub merged : List Row → List Pair → List Row
merged [] cs = present cs
merged (e ∷ es) cs = present (take (front (is_before e.0) cs) cs) ++ joined e (merged es) (drop (front (is_before e.0) cs) cs)

find-present : (q : Place) (cs : List Pair) → Ascends cs → find path_cmp q (present cs) ≡ seen (find path_cmp q cs) None
find-present q [] s = refl
find-present q ((p, Some v) ∷ cs) s = by (eq_by_cmp path_cmp q p) (find-present q cs (tail_sorted (p, Some v) cs s))
  where
    by : (b : Bool) → find path_cmp q (present cs) ≡ seen (find path_cmp q cs) None
        → cond b (Some v) (find path_cmp q (present cs)) ≡ seen (cond b (Some (Some v)) (find path_cmp q cs)) None
    by true h = refl
    by false h = h
find-present q ((p, None) ∷ cs) s = by (eq_by_cmp path_cmp q p) refl (find-present q cs (tail_sorted (p, None) cs s))
  where
    by : (b : Bool) → eq_by_cmp path_cmp q p ≡ b → find path_cmp q (present cs) ≡ seen (find path_cmp q cs) None
        → find path_cmp q (present cs) ≡ seen (cond b (Some None) (find path_cmp q cs)) None
    by true i h = h ∙ ap (λ o. seen o None) (ap (λ (x : Place). find path_cmp x cs) (one q p i) ∙ find_below p cs (head_below (p, None) cs s))
    by false i h = h

below-present : (x : Place) (cs : List Pair) → Below x cs → Below x (present cs)
below-present x [] h = tt
below-present x ((p, Some v) ∷ cs) h = below_cons x (p, v) (present cs) (below_head x (p, Some v) cs h) (below-present x cs (below_tail x (p, Some v) cs h))
below-present x ((p, None) ∷ cs) h = below-present x cs (below_tail x (p, None) cs h)

sorted-present : (cs : List Pair) → Ascends cs → In_order (present cs)
sorted-present [] s = tt
sorted-present ((p, Some v) ∷ cs) s = cons_sorted (p, v) (present cs) (below-present p cs (head_below (p, Some v) cs s)) (sorted-present cs (tail_sorted (p, Some v) cs s))
sorted-present ((p, None) ∷ cs) s = sorted-present cs (tail_sorted (p, None) cs s)

all-present : (P : Place → Type 0) (cs : List Pair) → AllByRecursion (λ c. P c.0) cs → AllByRecursion (λ e. P e.0) (present cs)
all-present P [] h = tt
all-present P ((p, Some v) ∷ cs) h = (h.0, all-present P cs h.1)
all-present P ((p, None) ∷ cs) h = all-present P cs h.1

-- pairs from a path on
abbrev From : Place → List Pair → Type 0
From x cs = AllByRecursion (λ c. is_before x c.0 ≡ false) cs

below-from : (x y : Place) (cs : List Pair) → path_cmp x y ≡ Less → From y cs → Below x cs
below-from x y [] l h = tt
below-from x y (c ∷ cs) l h = below_cons x c cs (less_up_to x y c.0 l (not_before y c.0 h.0)) (below-from x y cs l h.1)

-- the head of pairs from a path on that isn't the path's stands after it
head_after : (x : Place) (c : Pair) → is_before x c.0 ≡ false → eq_by_cmp path_cmp x c.0 ≡ false → path_cmp x c.0 ≡ Less
head_after x c b n = by (path_cmp x c.0) (not_before x c.0 b) n
  where
    by : (o : Ordering) → is_gt o ≡ false → is_eq o ≡ false → o ≡ Less
    by Less g n = refl
    by Equal g n = cc
    by Greater g n = cc

module _ (e : Row) (es : List Row) (s : In_order (e ∷ es)) where
  -- what is found where the rest is as it should be
  find-joined : (q : Place) (cs : List Pair) → Ascends cs → From e.0 cs
      → ((ds : List Pair) → Ascends ds → find path_cmp q (merged es ds) ≡ seen (find path_cmp q ds) (find path_cmp q es))
      → find path_cmp q (joined e (merged es) cs) ≡ seen (find path_cmp q cs) (find path_cmp q (e ∷ es))
  find-joined q [] a f ih = ap (cond (eq_by_cmp path_cmp q e.0) (Some e.1)) (ih [] tt)
  find-joined q ((p, o) ∷ cs) a f ih = by (eq_by_cmp path_cmp e.0 p) refl o
    where
      as_said : (b : Bool) → eq_by_cmp path_cmp q p ≡ b → eq_by_cmp path_cmp e.0 p ≡ true → (o : Option Value) → Below p cs
          → find path_cmp q (merged es cs) ≡ seen (find path_cmp q cs) (find path_cmp q es)
          → find path_cmp q (present ((p, o) ∷ []) ++ merged es cs) ≡ seen (cond b (Some o) (find path_cmp q cs)) (find path_cmp q (e ∷ es))
      as_said true i j (Some v) below h = ap (λ b. cond b (Some v) (find path_cmp q (merged es cs))) i
      as_said true i j None below h =
          let is : q ≡ p = one q p i in
          let own : e.0 ≡ p = one e.0 p j in
          h ∙ (λ k. seen (find path_cmp (is k) cs) (find path_cmp ((is ∙ sym own) k) es))
          ∙ ap (λ x. seen x (find path_cmp e.0 es)) (find_below p cs below) ∙ find_below e.0 es (head_below e es s)
      as_said false i j (Some v) below h = ap (λ b. cond b (Some v) (find path_cmp q (merged es cs))) i ∙ h
          ∙ ap (seen (find path_cmp q cs)) (other i j)
        where
          other : eq_by_cmp path_cmp q p ≡ false → eq_by_cmp path_cmp e.0 p ≡ true → find path_cmp q es ≡ find path_cmp q (e ∷ es)
          other i j = sym (ap (λ b. cond b (Some e.1) (find path_cmp q es)) (ap (eq_by_cmp path_cmp q) (one e.0 p j) ∙ i))
      as_said false i j None below h = h
          ∙ ap (seen (find path_cmp q cs)) (sym (ap (λ b. cond b (Some e.1) (find path_cmp q es)) (ap (eq_by_cmp path_cmp q) (one e.0 p j) ∙ i)))

      as_base : (b : Bool) → eq_by_cmp path_cmp q e.0 ≡ b → path_cmp e.0 p ≡ Less
          → find path_cmp q (merged es ((p, o) ∷ cs)) ≡ seen (find path_cmp q ((p, o) ∷ cs)) (find path_cmp q es)
          → cond b (Some e.1) (find path_cmp q (merged es ((p, o) ∷ cs))) ≡ seen (find path_cmp q ((p, o) ∷ cs)) (cond b (Some e.1) (find path_cmp q es))
      as_base true i l h = sym (ap (λ x. seen x (Some e.1)) (ap (λ (x : Place). find path_cmp x ((p, o) ∷ cs)) (one q e.0 i)
          ∙ find_below e.0 ((p, o) ∷ cs) (below_cons e.0 (p, o) cs l (below_lower e.0 p cs l (head_below (p, o) cs a)))))
      as_base false i l h = h

      by : (b : Bool) → eq_by_cmp path_cmp e.0 p ≡ b → (x : Option Value)
          → find path_cmp q (cond b (present ((p, o) ∷ []) ++ merged es cs) (e ∷ merged es ((p, o) ∷ cs))) ≡ seen (find path_cmp q ((p, o) ∷ cs)) (find path_cmp q (e ∷ es))
      by true j x = as_said (eq_by_cmp path_cmp q p) refl j o (head_below (p, o) cs a) (ih cs (tail_sorted (p, o) cs a))
      by false j x = as_base (eq_by_cmp path_cmp q e.0) refl (head_after e.0 (p, o) f.0 j) (ih ((p, o) ∷ cs) a)

parts_are : (n : ℕ) (cs : List Pair) → take n cs ++ drop n cs ≡ cs
parts_are n cs = take-append-drop n cs

not_true : (b : Bool) → not b ≡ true → b ≡ false
not_true true h = cc
not_true false h = refl

each_not : (x : Place) (cs : List Pair) → AllByRecursion (λ c. not (is_before x c.0) ≡ true) cs → From x cs
each_not x [] h = tt
each_not x (c ∷ cs) h = (not_true (is_before x c.0) h.0, each_not x cs h.1)

-- the pairs before a path, and those from it on
module _ (x : Place) (cs : List Pair) (a : Ascends cs) where
  abbrev fore : List Pair
  fore = take (front (is_before x) cs) cs

  abbrev rear : List Pair
  rear = drop (front (is_before x) cs) cs

  fore_before : AllByRecursion (λ c. is_before x c.0 ≡ true) fore
  fore_before = subst (AllByRecursion (λ (c : Pair). is_before x c.0 ≡ true)) (sym (front_kept (is_before x) (before_falls x) cs a)) (all_kept (is_before x) cs)

  rear_from : From x rear
  rear_from = subst (From x) (sym (front_left (is_before x) (before_falls x) cs a)) (each_not x (filter (λ c. not (is_before x c.0)) cs) (all_kept (λ y. not (is_before x y)) cs))

  fore_ascends : Ascends fore
  fore_ascends = subst Ascends (sym (front_kept (is_before x) (before_falls x) cs a)) (is_sorted-where_key path_cmp (is_before x) cs a)

  rear_ascends : Ascends rear
  rear_ascends = subst Ascends (sym (front_left (is_before x) (before_falls x) cs a)) (is_sorted-where_key path_cmp (λ y. not (is_before x y)) cs a)

  found_parts : (q : Place) → find path_cmp q cs ≡ option_or (find path_cmp q fore) (find path_cmp q rear)
  found_parts q = ap (find path_cmp q) (sym (parts_are (front (is_before x) cs) cs)) ∙ find_append q fore rear

-- a path that is found among some that pass a test passes it
found_passes : (t : Place → Bool) (cs : List Pair) (q : Place) (o : Option Value) → AllByRecursion (λ c. t c.0 ≡ true) cs
    → find path_cmp q cs ≡ Some o → t q ≡ true
found_passes t [] q o h f = cc
found_passes t (c ∷ cs) q o h f = by (eq_by_cmp path_cmp q c.0) refl (found_passes t cs q o h.1) f
  where
    by : (b : Bool) → eq_by_cmp path_cmp q c.0 ≡ b → (find path_cmp q cs ≡ Some o → t q ≡ true) → cond b (Some c.1) (find path_cmp q cs) ≡ Some o
        → t q ≡ true
    by true i ih f = ap t (one q c.0 i) ∙ h.0
    by false i ih f = ih f

in_turn : (said other : Option (Option Value)) (x : Option Value) → ((o : Option Value) → said ≡ Some o → (other ≡ None) × (x ≡ None))
    → option_or (seen said None) (seen other x) ≡ seen (option_or said other) x
in_turn None other x h = refl
in_turn (Some None) other x h = let g = h None refl in ap (λ o. seen o x) g.0 ∙ g.1
in_turn (Some (Some v)) other x h = refl

pub find-merged : (es : List Row) → In_order es → (cs : List Pair) → Ascends cs → (q : Place)
    → find path_cmp q (merged es cs) ≡ seen (find path_cmp q cs) (find path_cmp q es)
find-merged [] s cs a q = find-present q cs a
find-merged (e ∷ es) s cs a q =
    find_append q (present (fore e.0 cs a)) (joined e (merged es) (rear e.0 cs a))
    ∙ (λ i. option_or (find-present q (fore e.0 cs a) (fore_ascends e.0 cs a) i)
    (find-joined e es s q (rear e.0 cs a) (rear_ascends e.0 cs a) (rear_from e.0 cs a) (λ ds b. find-merged es (tail_sorted e es s) ds b q) i))
    ∙ in_turn (find path_cmp q (fore e.0 cs a)) (find path_cmp q (rear e.0 cs a)) (find path_cmp q (e ∷ es)) (λ o f.
    let l = lt_less (path_cmp q e.0) (found_passes (is_before e.0) (fore e.0 cs a) q o (fore_before e.0 cs a) f) in
    (find_below q (rear e.0 cs a) (below-from q e.0 (rear e.0 cs a) l (rear_from e.0 cs a)), find_below q (e ∷ es) (below_cons q e es l (below_lower q e.0 es l (head_below e es s)))))
    ∙ ap (λ o. seen o (find path_cmp q (e ∷ es))) (sym (found_parts e.0 cs a q))

below-take : (x : Place) (n : ℕ) (cs : List Pair) → Below x cs → Below x (take n cs)
below-take x zero cs h = tt
below-take x (suc n) [] h = tt
below-take x (suc n) (c ∷ cs) h = below_cons x c (take n cs) (below_head x c cs h) (below-take x n cs (below_tail x c cs h))

below-drop : (x : Place) (n : ℕ) (cs : List Pair) → Below x cs → Below x (drop n cs)
below-drop x zero cs h = h
below-drop x (suc n) [] h = tt
below-drop x (suc n) (c ∷ cs) h = below-drop x n cs (below_tail x c cs h)

below-single : (x : Place) (c : Pair) (cs : List Pair) → Below x (c ∷ cs) → Below x (present (c ∷ []))
below-single x (p, Some v) cs h = below_cons x (p, v) [] (below_head x (p, Some v) cs h) tt
below-single x (p, None) cs h = tt

below-joined : (x : Place) (e : Row) (es : List Row) (cs : List Pair) → Below x (e ∷ es) → Below x cs
    → ((ds : List Pair) → Below x ds → Below x (merged es ds)) → Below x (joined e (merged es) cs)
below-joined x e es [] h b ih = below_cons x e (merged es []) (below_head x e es h) (ih [] tt)
below-joined x e es (c ∷ cs) h b ih = by (eq_by_cmp path_cmp e.0 c.0)
  where
    by : (t : Bool) → Below x (cond t (present (c ∷ []) ++ merged es cs) (e ∷ merged es (c ∷ cs)))
    by true = below_append x (present (c ∷ [])) (merged es cs) (below-single x c cs b) (ih cs (below_tail x c cs b))
    by false = below_cons x e (merged es (c ∷ cs)) (below_head x e es h) (ih (c ∷ cs) b)

below-merged : (x : Place) (es : List Row) (cs : List Pair) → Below x es → Below x cs → Below x (merged es cs)
below-merged x [] cs h b = below-present x cs b
below-merged x (e ∷ es) cs h b =
    let n = front (is_before e.0) cs in
    below_append x (present (take n cs)) (joined e (merged es) (drop n cs)) (below-present x (take n cs) (below-take x n cs b))
    (below-joined x e es (drop n cs) h (below-drop x n cs b) (λ ds d. below-merged x es ds (below_tail x e es h) d))

sorted-joined : (e : Row) (es : List Row) (cs : List Pair) → In_order (e ∷ es) → Ascends cs → From e.0 cs
    → ((ds : List Pair) → Ascends ds → In_order (merged es ds)) → In_order (joined e (merged es) cs)
sorted-joined e es [] s a f ih = cons_sorted e (merged es []) (below-merged e.0 es [] (head_below e es s) tt) (ih [] tt)
sorted-joined e es ((p, o) ∷ cs) s a f ih = by (eq_by_cmp path_cmp e.0 p) refl o a
  where
    by : (t : Bool) → eq_by_cmp path_cmp e.0 p ≡ t → (o : Option Value) → Ascends ((p, o) ∷ cs)
        → In_order (cond t (present ((p, o) ∷ []) ++ merged es cs) (e ∷ merged es ((p, o) ∷ cs)))
    by true i (Some v) a = cons_sorted (p, v) (merged es cs) (below-merged p es cs (subst (λ (x : Place). Below x es) (one e.0 p i) (head_below e es s)) (head_below (p, Some v) cs a)) (ih cs (tail_sorted (p, Some v) cs a))
    by true i None a = ih cs (tail_sorted (p, None) cs a)
    by false i o a =
        let l = head_after e.0 (p, o) f.0 i in
        cons_sorted e (merged es ((p, o) ∷ cs)) (below-merged e.0 es ((p, o) ∷ cs) (head_below e es s) (below_cons e.0 (p, o) cs l (below_lower e.0 p cs l (head_below (p, o) cs a)))) (ih ((p, o) ∷ cs) a)

all_turned : (P Q : Place → Type 0) → ((x : Place) → P x → Q x) → (cs : List Pair) → AllByRecursion (λ c. P c.0) cs → AllByRecursion (λ c. Q c.0) cs
all_turned P Q f [] h = tt
all_turned P Q f (c ∷ cs) h = (f c.0 h.0, all_turned P Q f cs h.1)

sorted-merged : (es : List Row) → In_order es → (cs : List Pair) → Ascends cs → In_order (merged es cs)
sorted-merged [] s cs a = sorted-present cs a
sorted-merged (e ∷ es) s cs a =
    sorted_append (present (fore e.0 cs a)) (joined e (merged es) (rear e.0 cs a))
    (sorted-present (fore e.0 cs a) (fore_ascends e.0 cs a))
    (sorted-joined e es (rear e.0 cs a) s (rear_ascends e.0 cs a) (rear_from e.0 cs a) (λ ds b. sorted-merged es (tail_sorted e es s) ds b))
    (all-present (λ x. Below x (joined e (merged es) (rear e.0 cs a))) (fore e.0 cs a)
    (all_turned (λ x. is_before e.0 x ≡ true) (λ x. Below x (joined e (merged es) (rear e.0 cs a))) (λ x b.
    let l = lt_less (path_cmp x e.0) b in
    let lower = below_lower x e.0 es l (head_below e es s) in
    below-joined x e es (rear e.0 cs a) (below_cons x e es l lower) (below-from x e.0 (rear e.0 cs a) l (rear_from e.0 cs a)) (λ ds d. below-merged x es ds lower d))
    (fore e.0 cs a) (fore_before e.0 cs a)))

-- the merge makes the rows with the changes
pub merged-entries : (base : Rows) (cs : List Pair) → Ascends cs → merged (entries base) cs ≡ entries (with_changes base cs)
merged-entries base cs a = same_entries path_cmp paths_total path_cmp-IsAntisymmetric _ _ (sorted-merged (entries base) (entries_sorted base) cs a) (entries_sorted (with_changes base cs)) (λ q.
    find-merged (entries base) (entries_sorted base) cs a q
    ∙ ap (seen (find path_cmp q cs)) (sym (get-entries base q))
    ∙ sym (get-with_changes base cs q)
    ∙ get-entries (with_changes base cs) q)

joined-by : (e : Row) (rest : List Pair → List Row) (cs : List Pair) → joined e rest cs ≡ row_with e.0 e.1 cs ++ rest (behind_row e.0 cs)
joined-by e rest [] = refl
joined-by e rest (c ∷ cs) = by (eq_by_cmp path_cmp e.0 c.0)
  where
    by : (b : Bool) → cond b (present (c ∷ []) ++ rest cs) (e ∷ rest (c ∷ cs)) ≡ cond b (present (c ∷ [])) (e ∷ []) ++ rest (cond b cs (c ∷ cs))
    by true = refl
    by false = refl

-- a turn of the merge: what is told of the pairs before a row and of it goes before the rest
pub merge_turn : (all before row : List Row) (e : Row) (es : List Row) (cs ds fs : List Pair)
    → ds ≡ drop (front (is_before e.0) cs) cs → before ≡ all ++ present (take (front (is_before e.0) cs) cs)
    → fs ≡ behind_row e.0 ds → row ≡ before ++ row_with e.0 e.1 ds → (whole : List Row) → all ++ merged (e ∷ es) cs ≡ whole
    → row ++ merged es fs ≡ whole
merge_turn all before row e es cs ds fs d b f r whole h =
    let first = present (take (front (is_before e.0) cs) cs) in
    (λ i. r i ++ merged es (f i))
    ∙ ap (λ (l : List Row). (l ++ row_with e.0 e.1 ds) ++ merged es (behind_row e.0 ds)) b
    ∙ append_assoc (all ++ first) (row_with e.0 e.1 ds) (merged es (behind_row e.0 ds))
    ∙ append_assoc all first (row_with e.0 e.1 ds ++ merged es (behind_row e.0 ds))
    ∙ ap (λ (l : List Row). all ++ (first ++ l)) (sym (joined-by e (merged es) ds))
    ∙ ap (λ (l : List Pair). all ++ (first ++ joined e (merged es) l)) d
    ∙ h

-- what stands at a pair and at those behind it
pub present_cons : (c : Pair) (cs : List Pair) → present (c ∷ cs) ≡ present (c ∷ []) ++ present cs
present_cons (p, Some v) cs = refl
present_cons (p, None) cs = refl

pub listed_turn : (all new : List Row) (c : Pair) (cs : List Pair) (whole : List Row) → new ≡ all ++ present (c ∷ [])
    → all ++ present (c ∷ cs) ≡ whole → new ++ present cs ≡ whole
listed_turn all new c cs whole n h =
    ap (λ (l : List Row). l ++ present cs) n ∙ append_assoc all (present (c ∷ [])) (present cs)
    ∙ ap (λ (l : List Row). all ++ l) (sym (present_cons c cs)) ∙ h
