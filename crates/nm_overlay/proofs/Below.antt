-- Whether a row is at or below a node, and which rows are.
use Rattle.std.proofs.Common.{◌≡◌, ◌<◌, Bool, true, false, cond, List, [], ◌∷◌, ◌++◌, length, Bor, refl, sym, ap, ◌∙◌, arith}
use Rattle.std.specs.Prelude.{Option, Some, None, not, ◌||◌, is_some, filter, option_copied, map as each}
use Rattle.std.specs.Ordering.{is_lt, is_gt, is_eq, eq_by_cmp}
use Rattle.std.specs.declared.cmp.Ordering.{Ordering}
use Rattle.std.specs.declared.cmp.Ordering.TheVariants.{Less, Equal, Greater}
use Rattle.std.specs.List.{list_any}
use Rattle.std.specs.FinMap.{get, entries, keys, find, entries_sorted, get-entries, same_map, get-retain_keys}
use Rattle.nm_types.specs.Path.{path_cmp}
use Rattle.nm_types.specs.PathLaws.{paths_total, path_cmp-IsAntisymmetric}
use Rattle.nm_types.specs.declared.value.Value.{Value}
use Rattle.nm_config.specs.Rows.{Rows, next_of}
use Rattle.nm_config.specs.Under.{is_under, has_under, without_under}
use Rattle.nm_config.proofs.Contiguous.{under-between}
use Rattle.nm_overlay.specs.Differences.{Changes, overridden, changes_at}
use Rattle.nm_overlay.specs.Places.{Pair, Ascends, gone_at, is_after}
use Rattle.nm_overlay.proofs.Order.{Place, lt_less, one, itself, equal, greater_less, less_greater, not_before, up_to_less, under_itself, under_not_before}
use Rattle.nm_overlay.proofs.Sorted.{In_order, Below, head_below, tail_sorted, cons_sorted, below_head, below_tail, below_cons, below_lower, find_below}
use Rattle.nm_overlay.proofs.Changed.{seen, get_overridden}
use Rattle.nm_overlay.proofs.Following.{clash, after, come, come_next, come_end, past_head, found_first, next-first, Next, next_means, no_next_means}

any_there : (node q : Place) (es : List (Place × Value)) → is_under node q ≡ true → is_some (find path_cmp q es) ≡ true
    → list_any (is_under node) (each (λ e. e.0) es) ≡ true
any_there node q [] u h = cc
any_there node q (e ∷ es) u h = by (eq_by_cmp path_cmp q e.0) refl (any_there node q es u) h
  where
    or_true : (b : Bool) → (b || true) ≡ true
    or_true true = refl
    or_true false = refl

    by : (b : Bool) → eq_by_cmp path_cmp q e.0 ≡ b → (is_some (find path_cmp q es) ≡ true → list_any (is_under node) (each (λ e. e.0) es) ≡ true)
        → is_some (cond b (Some e.1) (find path_cmp q es)) ≡ true → (is_under node e.0 || list_any (is_under node) (each (λ e. e.0) es)) ≡ true
    by true i ih h = ap (λ b. b || list_any (is_under node) (each (λ e. e.0) es)) (sym (ap (is_under node) (one q e.0 i)) ∙ u)
    by false i ih h = ap (λ b. is_under node e.0 || b) (ih h) ∙ or_true (is_under node e.0)

none_there : (node : Place) (es : List (Place × Value)) → ((q : Place) → is_under node q ≡ true → find path_cmp q es ≡ None)
    → list_any (is_under node) (each (λ e. e.0) es) ≡ false
none_there node [] none = refl
none_there node (e ∷ es) none = ap (λ b. b || list_any (is_under node) (each (λ e. e.0) es)) (out (is_under node e.0) refl) ∙ none_there node es rest
  where
    out : (b : Bool) → is_under node e.0 ≡ b → b ≡ false
    out true i = let g : Some e.1 ≡ None = sym (found_first e es) ∙ none e.0 i in cc
    out false i = refl

    rest : (q : Place) → is_under node q ≡ true → find path_cmp q es ≡ None
    rest q u = by (eq_by_cmp path_cmp q e.0) (none q u)
      where
        by : (b : Bool) → cond b (Some e.1) (find path_cmp q es) ≡ None → find path_cmp q es ≡ None
        by true h = cc
        by false h = h

-- a row at a path at or below a node
pub has_row : (m : Rows) (node q : Place) → is_under node q ≡ true → is_some (get m q) ≡ true → has_under m node ≡ true
has_row m node q u h = any_there node q (entries m) u (sym (ap is_some (get-entries m q)) ∙ h)

pub has_no_row : (m : Rows) (node : Place) → ((q : Place) → is_under node q ≡ true → get m q ≡ None) → has_under m node ≡ false
has_no_row m node none = none_there node (entries m) (λ q u. sym (get-entries m q) ∙ none q u)

missing : (o : Option Value) → is_some o ≡ false → o ≡ None
missing None h = refl
missing (Some v) h = cc

-- without a row at the node, what is below it begins with the first row after it
pub has_next : (m : Rows) (node n : Place) → is_some (get m node) ≡ false → next_of m (Some node) ≡ Some n → has_under m node ≡ is_under node n
has_next m node n out h = by (is_under node n) refl
  where
    g : Next m (Some node) n
    g = next_means m (Some node) n h

    none : is_under node n ≡ false → (q : Place) → is_under node q ≡ true → (o r : Ordering) → path_cmp node q ≡ o → path_cmp q n ≡ r → get m q ≡ None
    none f q u Less Less i j = g.no_other q (ap is_lt i) j
    none f q u Less Equal i j = clash (is_under node n) (sym (ap (is_under node) (path_cmp-IsAntisymmetric q n j)) ∙ u) f
    none f q u Less Greater i j = clash (is_under node n) (under-between node n q u (ap is_gt (lt_less (path_cmp node n) g.later)) (ap is_gt (greater_less q n j))) f
    none f q u Equal r i j = ap (get m) (sym (path_cmp-IsAntisymmetric node q i)) ∙ missing (get m node) out
    none f q u Greater r i j = clash (is_lt (path_cmp q node)) (ap is_lt (greater_less node q i)) (under_not_before node q u)

    by : (b : Bool) → is_under node n ≡ b → has_under m node ≡ b
    by true i = has_row m node n i g.there
    by false i = has_no_row m node (λ q u. none i q u (path_cmp node q) (path_cmp q n) refl refl)

pub has_none : (m : Rows) (node : Place) → is_some (get m node) ≡ false → next_of m (Some node) ≡ None → has_under m node ≡ false
has_none m node out h = has_no_row m node (λ q u. none q u (path_cmp node q) refl)
  where
    none : (q : Place) → is_under node q ≡ true → (o : Ordering) → path_cmp node q ≡ o → get m q ≡ None
    none q u Less i = no_next_means m (Some node) h q (ap is_lt i)
    none q u Equal i = ap (get m) (sym (path_cmp-IsAntisymmetric node q i)) ∙ missing (get m node) out
    none q u Greater i = clash (is_lt (path_cmp q node)) (ap is_lt (greater_less node q i)) (under_not_before node q u)

-- the paths of the rows at or below a node, each gone
abbrev pub gone_of : Place → List (Place × Value) → List Pair
gone_of node es = each gone_at (filter (is_under node) (each (λ e. e.0) es))

below_gone : (node x : Place) (es : List (Place × Value)) → Below x es → Below x (gone_of node es)
below_gone node x [] h = tt
below_gone node x (e ∷ es) h = by (is_under node e.0) (below_gone node x es (below_tail x e es h))
  where
    left : List Place
    left = filter (is_under node) (each (λ e. e.0) es)

    by : (b : Bool) → Below x (each gone_at left) → Below x (each gone_at (cond b (e.0 ∷ left) left))
    by true rest = below_cons x (gone_at e.0) (each gone_at left) (below_head x e es h) rest
    by false rest = rest

pub gone_ascend : (node : Place) (es : List (Place × Value)) → In_order es → Ascends (gone_of node es)
gone_ascend node [] s = tt
gone_ascend node (e ∷ es) s = by (is_under node e.0) (gone_ascend node es (tail_sorted e es s))
  where
    left : List Place
    left = filter (is_under node) (each (λ e. e.0) es)

    by : (b : Bool) → Ascends (each gone_at left) → Ascends (each gone_at (cond b (e.0 ∷ left) left))
    by true rest = cons_sorted (gone_at e.0) (each gone_at left) (below_gone node e.0 es (head_below e es s)) rest
    by false rest = rest

pub gone_below : (node : Place) (es : List (Place × Value)) → filter (λ pair. is_under node pair.0) (gone_of node es) ≡ gone_of node es
gone_below node [] = refl
gone_below node (e ∷ es) = by (is_under node e.0) refl (gone_below node es)
  where
    left : List Place
    left = filter (is_under node) (each (λ e. e.0) es)

    by : (b : Bool) → is_under node e.0 ≡ b → filter (λ (pair : Pair). is_under node pair.0) (each gone_at left) ≡ each gone_at left
        → filter (λ (pair : Pair). is_under node pair.0) (each gone_at (cond b (e.0 ∷ left) left)) ≡ each gone_at (cond b (e.0 ∷ left) left)
    by true i rest = ap (λ c. cond c (gone_at e.0 ∷ filter (λ (pair : Pair). is_under node pair.0) (each gone_at left)) (filter (λ (pair : Pair). is_under node pair.0) (each gone_at left))) i
        ∙ ap (λ (l : List Pair). gone_at e.0 ∷ l) rest
    by false i rest = rest

-- what is said of a path there
find-gone : (node q : Place) (es : List (Place × Value)) → is_under node q ≡ true
    → find path_cmp q (gone_of node es) ≡ cond (is_some (find path_cmp q es)) (Some None) None
find-gone node q [] u = refl
find-gone node q (e ∷ es) u = by (eq_by_cmp path_cmp q e.0) refl (is_under node e.0) refl (find-gone node q es u)
  where
    left : List Place
    left = filter (is_under node) (each (λ e. e.0) es)

    by : (b : Bool) → eq_by_cmp path_cmp q e.0 ≡ b → (c : Bool) → is_under node e.0 ≡ c
        → find path_cmp q (each gone_at left) ≡ cond (is_some (find path_cmp q es)) (Some None) None
        → find path_cmp q (each gone_at (cond c (e.0 ∷ left) left)) ≡ cond (is_some (cond b (Some e.1) (find path_cmp q es))) (Some None) None
    by true i true j rest = ap (λ b. cond b (Some None) (find path_cmp q (each gone_at left))) i
    by true i false j rest = clash (is_under node e.0) (sym (ap (is_under node) (one q e.0 i)) ∙ u) j
    by false i true j rest = ap (λ b. cond b (Some None) (find path_cmp q (each gone_at left))) i ∙ rest
    by false i false j rest = rest

-- the changes once what is at or below a node is gone
module _ (base : Rows) (changes new : Changes) (node : Place)
    (is : (q : Place) → get new q ≡ cond (is_under node q) (find path_cmp q (gone_of node (entries base))) (get changes q)) where
  said : (q : Place) (b : Bool) → is_under node q ≡ b → get new q ≡ cond b (cond (is_some (get base q)) (Some None) None) (get changes q)
  said q true i = is q ∙ ap (λ b. cond b (find path_cmp q (gone_of node (entries base))) (get changes q)) i ∙ find-gone node q (entries base) i
      ∙ ap (λ o. cond (is_some o) (Some None) None) (sym (get-entries base q))
  said q false i = is q ∙ ap (λ b. cond b (find path_cmp q (gone_of node (entries base))) (get changes q)) i

  no_row : (o : Option Value) → seen (cond (is_some o) (Some None) None) o ≡ None
  no_row None = refl
  no_row (Some v) = refl

  pub overridden-taken : overridden base new ≡ without_under (overridden base changes) node
  overridden-taken = same_map paths_total path_cmp-IsAntisymmetric _ _ (λ q.
      get_overridden base new q ∙ by q (is_under node q) refl
      ∙ sym (get-retain_keys (overridden base changes) (λ path. not (is_under node path)) q (λ x t. ap (λ path. not (is_under node path)) (sym (path_cmp-IsAntisymmetric q x t)))))
    where
      by : (q : Place) (b : Bool) → is_under node q ≡ b
          → seen (get new q) (get base q) ≡ cond (not (is_under node q)) (get (overridden base changes) q) None
      by q true i = ap (λ o. seen o (get base q)) (said q true i) ∙ no_row (get base q)
          ∙ sym (ap (λ b. cond (not b) (get (overridden base changes) q) None) i)
      by q false i = ap (λ o. seen o (get base q)) (said q false i) ∙ sym (get_overridden base changes q)
          ∙ sym (ap (λ b. cond (not b) (get (overridden base changes) q) None) i)

  a_change : (o : Option Value) → changes_at (cond (is_some o) (Some None) None) o ≡ true
  a_change None = refl
  a_change (Some v) = refl

  pub changes-taken : ((q : Place) → changes_at (get changes q) (get base q) ≡ true) → (q : Place) → changes_at (get new q) (get base q) ≡ true
  changes-taken are q = by (is_under node q) refl
    where
      by : (b : Bool) → is_under node q ≡ b → changes_at (get new q) (get base q) ≡ true
      by true i = ap (λ o. changes_at o (get base q)) (said q true i) ∙ a_change (get base q)
      by false i = ap (λ o. changes_at o (get base q)) (said q false i) ∙ are q

-- those at or below a node: the node's own, and then those after it
module _ (node : Place) where
  none_below : (n : Place) (es : List (Place × Value)) → is_lt (path_cmp n node) ≡ false → is_under node n ≡ false
      → filter (is_under node) (come (Some n) es) ≡ []
  none_below n [] a out = refl
  none_below n (e ∷ es) a out = by (is_after (Some n) e.0) refl (is_under node e.0) refl (none_below n es a out)
    where
      left : List Place
      left = come (Some n) es

      by : (b : Bool) → is_after (Some n) e.0 ≡ b → (c : Bool) → is_under node e.0 ≡ c → filter (is_under node) left ≡ []
          → filter (is_under node) (each (λ x. x.0) (cond b (e ∷ after (Some n) es) (after (Some n) es))) ≡ []
      by true i true j rest = clash (is_under node n) (under-between node n e.0 j (not_before node n a) (ap is_gt (lt_less (path_cmp n e.0) i))) out
      by true i false j rest = ap (λ c. cond c (e.0 ∷ filter (is_under node) left) (filter (is_under node) left)) j ∙ rest
      by false i c j rest = rest

  pub below_none : (n : Place) (es : List (Place × Value)) → is_lt (path_cmp n node) ≡ false → is_under node n ≡ false
      → filter (is_under node) (n ∷ come (Some n) es) ≡ []
  below_none n es a out = ap (λ c. cond c (n ∷ filter (is_under node) (come (Some n) es)) (filter (is_under node) (come (Some n) es))) out
      ∙ none_below n es a out

  pub below_one : (n : Place) (es : List (Place × Value)) → is_under node n ≡ true
      → filter (is_under node) (n ∷ come (Some n) es) ≡ n ∷ filter (is_under node) (come (Some n) es)
  below_one n es u = ap (λ c. cond c (n ∷ filter (is_under node) (come (Some n) es)) (filter (is_under node) (come (Some n) es))) u

  pub begins_below : (es : List (Place × Value)) → In_order es
      → filter (is_under node) (each (λ e. e.0) es) ≡ cond (is_some (find path_cmp node es)) (node ∷ filter (is_under node) (come (Some node) es)) (filter (is_under node) (come (Some node) es))
  begins_below [] s = refl
  begins_below (e ∷ es) s = by (path_cmp e.0 node) refl (begins_below es (tail_sorted e es s))
    where
      kept : List Place
      kept = filter (is_under node) (each (λ x. x.0) es)

      out : (b : Bool) → is_under node e.0 ≡ b → path_cmp e.0 node ≡ Less → b ≡ false
      out true i l = clash (is_lt (path_cmp e.0 node)) (ap is_lt l) (under_not_before node e.0 i)
      out false i l = refl

      by : (o : Ordering) → path_cmp e.0 node ≡ o
          → kept ≡ cond (is_some (find path_cmp node es)) (node ∷ filter (is_under node) (come (Some node) es)) (filter (is_under node) (come (Some node) es))
          → cond (is_under node e.0) (e.0 ∷ kept) kept
          ≡ cond (is_some (cond (eq_by_cmp path_cmp node e.0) (Some e.1) (find path_cmp node es)))
          (node ∷ filter (is_under node) (each (λ x. x.0) (cond (is_lt (path_cmp node e.0)) (e ∷ after (Some node) es) (after (Some node) es))))
          (filter (is_under node) (each (λ x. x.0) (cond (is_lt (path_cmp node e.0)) (e ∷ after (Some node) es) (after (Some node) es))))
      by Less i rest =
          ap (λ b. cond b (e.0 ∷ kept) kept) (out (is_under node e.0) refl i) ∙ rest
          ∙ sym (ap (λ r. cond (is_some (cond (is_eq r) (Some e.1) (find path_cmp node es)))
          (node ∷ filter (is_under node) (each (λ x. x.0) (cond (is_lt r) (e ∷ after (Some node) es) (after (Some node) es))))
          (filter (is_under node) (each (λ x. x.0) (cond (is_lt r) (e ∷ after (Some node) es) (after (Some node) es))))) (less_greater e.0 node i))
      by Equal i rest =
          let is : e.0 ≡ node = path_cmp-IsAntisymmetric e.0 node i in
          let t : path_cmp node e.0 ≡ Equal = equal (path_cmp node e.0) (ap (λ (x : Place). eq_by_cmp path_cmp x e.0) (sym is) ∙ itself e.0) in
          ap (λ b. cond b (e.0 ∷ kept) kept) (ap (is_under node) is ∙ under_itself node)
          ∙ ap (λ (x : Place). x ∷ kept) is
          ∙ ap (λ (l : List (Place × Value)). node ∷ filter (is_under node) (each (λ x. x.0) l)) (sym (ap (λ (x : Place). after (Some x) es) (sym is) ∙ past_head e es (head_below e es s)))
          ∙ sym (ap (λ r. cond (is_some (cond (is_eq r) (Some e.1) (find path_cmp node es)))
          (node ∷ filter (is_under node) (each (λ x. x.0) (cond (is_lt r) (e ∷ after (Some node) es) (after (Some node) es))))
          (filter (is_under node) (each (λ x. x.0) (cond (is_lt r) (e ∷ after (Some node) es) (after (Some node) es))))) t)
      by Greater i rest =
          let l : path_cmp node e.0 ≡ Less = greater_less e.0 node i in
          let whole : after (Some node) es ≡ es = past_head (node, e.1) es (below_lower node e.0 es l (head_below e es s)) in
          ap (λ (xs : List (Place × Value)). cond (is_under node e.0) (e.0 ∷ filter (is_under node) (each (λ x. x.0) xs)) (filter (is_under node) (each (λ x. x.0) xs))) (sym whole)
          ∙ sym (ap (λ o. cond (is_some o) (node ∷ filter (is_under node) (e.0 ∷ come (Some node) es)) (filter (is_under node) (e.0 ∷ come (Some node) es))) (find_below node es (below_lower node e.0 es l (head_below e es s))))
          ∙ sym (ap (λ r. cond (is_some (cond (is_eq r) (Some e.1) (find path_cmp node es)))
          (node ∷ filter (is_under node) (each (λ x. x.0) (cond (is_lt r) (e ∷ after (Some node) es) (after (Some node) es))))
          (filter (is_under node) (each (λ x. x.0) (cond (is_lt r) (e ∷ after (Some node) es) (after (Some node) es))))) l)

-- a walk over the rows after a node
module _ (base : Rows) (node passed : Place) (behind : is_lt (path_cmp passed node) ≡ false) where
  abbrev left : Place → List Place
  left p = filter (is_under node) (come (Some p) (entries base))

  on : (n : Place) → next_of base (Some passed) ≡ Some n → come (Some passed) (entries base) ≡ n ∷ come (Some n) (entries base)
  on n h = come_next (Some passed) (entries base) (entries_sorted base) n (sym (next-first base (Some passed)) ∙ h)

  -- the next row isn't before the node either
  pub still_behind : (n : Place) → next_of base (Some passed) ≡ Some n → is_lt (path_cmp n node) ≡ false
  still_behind n h =
      let g = next_means base (Some passed) n h in
      let l = up_to_less node passed n (not_before node passed behind) (lt_less (path_cmp passed n) g.later) in
      ap is_lt (less_greater node n l)

  pub walk_in : (n : Place) → next_of base (Some passed) ≡ Some n → is_under node n ≡ true → left passed ≡ n ∷ left n
  walk_in n h u = ap (filter (is_under node)) (on n h) ∙ below_one node n (entries base) u

  pub walk_out : (n : Place) → next_of base (Some passed) ≡ Some n → is_under node n ≡ false → left passed ≡ []
  walk_out n h u = ap (filter (is_under node)) (on n h) ∙ below_none node n (entries base) (still_behind n h) u

  pub walk_end : next_of base (Some passed) ≡ None → left passed ≡ []
  walk_end h = ap (filter (is_under node)) (come_end (Some passed) (entries base) (sym (next-first base (Some passed)) ∙ h))

  pub walk_shorter : (n : Place) → next_of base (Some passed) ≡ Some n
      → length (come (Some n) (entries base)) < length (come (Some passed) (entries base))
  walk_shorter n h = let e = ap length (on n h) in omega (arith, e)

own_begins : (node : Place) (b : Bool) (l : List Place) → cond b (gone_at node ∷ []) [] ++ each gone_at l ≡ each gone_at (cond b (node ∷ l) l)
own_begins node true l = refl
own_begins node false l = refl

-- the walk begins with the node's own row
pub walk_begins : (base : Rows) (node : Place)
    → cond (is_some (get base node)) (gone_at node ∷ []) [] ++ each gone_at (filter (is_under node) (come (Some node) (entries base))) ≡ each gone_at (filter (is_under node) (keys base))
walk_begins base node =
    own_begins node (is_some (get base node)) (filter (is_under node) (come (Some node) (entries base)))
    ∙ ap (λ o. each gone_at (cond (is_some o) (node ∷ filter (is_under node) (come (Some node) (entries base))) (filter (is_under node) (come (Some node) (entries base))))) (get-entries base node)
    ∙ ap (each gone_at) (sym (begins_below node (entries base) (entries_sorted base)))

pub not_before_itself : (node : Place) → is_lt (path_cmp node node) ≡ false
not_before_itself node = ap is_lt (equal (path_cmp node node) (itself node))

pub copied_some : {X : Type 0} (o : Option (Bor X)) → is_some (option_copied o) ≡ is_some o
copied_some None = refl
copied_some (Some x) = refl
