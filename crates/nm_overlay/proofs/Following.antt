-- The first path after another one, and what is at or below a node.
use Rattle.std.proofs.Common.{◌≡◌, Bool, true, false, cond, List, [], ◌∷◌, refl, sym, ap, subst, ◌∙◌}
use Rattle.std.specs.Prelude.{Option, Some, None, filter, slice_get, is_some, map as each}
use Rattle.std.specs.Ordering.{is_lt, is_eq, eq_by_cmp}
use Rattle.std.specs.declared.cmp.Ordering.{Ordering}
use Rattle.std.specs.declared.cmp.Ordering.TheVariants.{Less, Equal, Greater}
use Rattle.std.specs.FinMap.{get, entries, find, entries_sorted, get-entries}
use Rattle.nm_types.specs.Path.{path_cmp}
use Rattle.nm_types.specs.PathLaws.{paths_total, path_cmp-IsAntisymmetric}
use Rattle.nm_types.specs.declared.value.Value.{Value}
use Rattle.nm_config.specs.Rows.{Rows, next_of}
use Rattle.nm_overlay.specs.Places.{is_after}
use Rattle.nm_overlay.proofs.Order.{Place, lt_less, equal, one, itself, greater_less}
use Rattle.nm_overlay.proofs.Sorted.{In_order, Below, head_below, tail_sorted, below_head, below_tail, below_lower, find_below}

pub clash : {A : Type 0} (b : Bool) → b ≡ true → b ≡ false → A
clash true t f = cc
clash false t f = cc

-- what stands after a path after another one stands after this
pub after_trans : (p : Option Place) (x y : Place) → is_after p x ≡ true → path_cmp x y ≡ Less → is_after p y ≡ true
after_trans None x y a l = refl
after_trans (Some p) x y a l = ap is_lt (paths_total.trans p x y (lt_less (path_cmp p x) a) l)

module _ {X : Type 0} where
  abbrev pub after : Option Place → List (Place × X) → List (Place × X)
  after p es = filter (λ e. is_after p e.0) es

  -- the first path after a path
  abbrev pub first_after : Option Place → List (Place × X) → Option Place
  first_after p [] = None
  first_after p (e ∷ es) = cond (is_after p e.0) (Some e.0) (first_after p es)

  -- nothing stands after a path before another one
  abbrev pub None_between : Option Place → List (Place × X) → Place → Type 0
  None_between p es n = (y : Place) → is_after p y ≡ true → path_cmp y n ≡ Less → find path_cmp y es ≡ None

  pub record Follows (p : Option Place) (es : List (Place × X)) (n : Place) : Type 0 where
    pub later : is_after p n ≡ true
    pub there : is_some (find path_cmp n es) ≡ true
    pub no_other : None_between p es n

  pub found_first : (e : Place × X) (es : List (Place × X)) → find path_cmp e.0 (e ∷ es) ≡ Some e.1
  found_first e es = ap (λ b. cond b (Some e.1) (find path_cmp e.0 es)) (itself e.0)

  still_there : (n : Place) (e : Place × X) (es : List (Place × X)) → is_some (find path_cmp n es) ≡ true → is_some (find path_cmp n (e ∷ es)) ≡ true
  still_there n e es h = by (eq_by_cmp path_cmp n e.0)
    where
      by : (b : Bool) → is_some (cond b (Some e.1) (find path_cmp n es)) ≡ true
      by true = refl
      by false = h

  skipped : (p : Option Place) (y : Place) (e : Place × X) (es : List (Place × X)) → is_after p y ≡ true → is_after p e.0 ≡ false
      → find path_cmp y es ≡ None → find path_cmp y (e ∷ es) ≡ None
  skipped p y e es a out h = by (eq_by_cmp path_cmp y e.0) refl
    where
      by : (b : Bool) → eq_by_cmp path_cmp y e.0 ≡ b → cond b (Some e.1) (find path_cmp y es) ≡ None
      by true i = clash (is_after p e.0) (sym (ap (is_after p) (one y e.0 i)) ∙ a) out
      by false i = h

  pub follows : (p : Option Place) (es : List (Place × X)) → In_order es → (n : Place) → first_after p es ≡ Some n → Follows p es n
  follows p [] s n h = cc
  follows p (e ∷ es) s n h = by (is_after p e.0) (follows p es (tail_sorted e es s) n) refl h
    where
      by : (b : Bool) → (first_after p es ≡ Some n → Follows p es n) → is_after p e.0 ≡ b → cond b (Some e.0) (first_after p es) ≡ Some n
          → Follows p (e ∷ es) n
      by true ih i h = let is : e.0 ≡ n = cc in subst (Follows p (e ∷ es)) is (record {
        later = i;
        there = ap is_some (found_first e es);
        no_other = λ y a l. ap (λ r. cond (is_eq r) (Some e.1) (find path_cmp y es)) l ∙ find_below y es (below_lower y e.0 es l (head_below e es s));
      })
      by false ih i h = let rest = ih h in record {
        later = rest.later;
        there = still_there n e es rest.there;
        no_other = λ y a l. skipped p y e es a i (rest.no_other y a l);
      }

  pub none_follows : (p : Option Place) (es : List (Place × X)) → first_after p es ≡ None → (y : Place) → is_after p y ≡ true
      → find path_cmp y es ≡ None
  none_follows p [] h y a = refl
  none_follows p (e ∷ es) h y a = by (is_after p e.0) (λ g. none_follows p es g y a) refl h
    where
      by : (b : Bool) → (first_after p es ≡ None → find path_cmp y es ≡ None) → is_after p e.0 ≡ b → cond b (Some e.0) (first_after p es) ≡ None
          → find path_cmp y (e ∷ es) ≡ None
      by true ih i h = cc
      by false ih i h = skipped p y e es a i (ih h)

  gone_there : {A : Type 0} (o : Option X) → is_some o ≡ true → o ≡ None → A
  gone_there o t n = clash (is_some o) t (ap is_some n)

  -- what follows is the first
  pub first_is : (p : Option Place) (es : List (Place × X)) → In_order es → (n : Place) → Follows p es n → first_after p es ≡ Some n
  first_is p es s n f = by (first_after p es) refl
    where
      order : (m : Place) → Follows p es m → (o : Ordering) → path_cmp m n ≡ o → m ≡ n
      order m g Less e = gone_there (find path_cmp m es) g.there (f.no_other m g.later e)
      order m g Equal e = path_cmp-IsAntisymmetric m n e
      order m g Greater e = gone_there (find path_cmp n es) f.there (g.no_other n f.later (greater_less m n e))

      by : (o : Option Place) → first_after p es ≡ o → o ≡ Some n
      by None e = gone_there (find path_cmp n es) f.there (none_follows p es e n f.later)
      by (Some m) e = ap Some (order m (follows p es s m e) (path_cmp m n) refl)

  pub none_is : (p : Option Place) (es : List (Place × X)) → In_order es → ((y : Place) → is_after p y ≡ true → find path_cmp y es ≡ None)
      → first_after p es ≡ None
  none_is p es s none = by (first_after p es) refl
    where
      by : (o : Option Place) → first_after p es ≡ o → o ≡ None
      by None e = refl
      by (Some m) e = let g = follows p es s m e in gone_there (find path_cmp m es) g.there (none m g.later)

  -- those after a path begin with the first of them, and go on with those after that
  pub after_first : (p : Option Place) (es : List (Place × X)) (e : Place × X) (rest : List (Place × X)) → after p es ≡ e ∷ rest
      → first_after p es ≡ Some e.0
  after_first p [] e rest h = cc
  after_first p (f ∷ es) e rest h = by (is_after p f.0) (after_first p es e rest) h
    where
      by : (b : Bool) → (after p es ≡ e ∷ rest → first_after p es ≡ Some e.0) → cond b (f ∷ after p es) (after p es) ≡ e ∷ rest
          → cond b (Some f.0) (first_after p es) ≡ Some e.0
      by true ih h = let is : f ≡ e = cc in ap (λ (x : Place × X). Some x.0) is
      by false ih h = ih h

  pub after_none : (p : Option Place) (es : List (Place × X)) → after p es ≡ [] → first_after p es ≡ None
  after_none p [] h = refl
  after_none p (f ∷ es) h = by (is_after p f.0) (after_none p es) h
    where
      by : (b : Bool) → (after p es ≡ [] → first_after p es ≡ None) → cond b (f ∷ after p es) (after p es) ≡ []
          → cond b (Some f.0) (first_after p es) ≡ None
      by true ih h = cc
      by false ih h = ih h

  all_after : (p : Option Place) (e : Place × X) (es : List (Place × X)) → is_after p e.0 ≡ true → Below e.0 es → after p es ≡ es
  all_after p e [] a h = refl
  all_after p e (f ∷ es) a h =
      ap (λ b. cond b (f ∷ after p es) (after p es)) (after_trans p e.0 f.0 a (below_head e.0 f es h))
      ∙ ap (λ (l : List (Place × X)). f ∷ l) (all_after p e es a (below_tail e.0 f es h))

  pub past_head : (e : Place × X) (es : List (Place × X)) → Below e.0 es → after (Some e.0) es ≡ es
  past_head e [] h = refl
  past_head e (f ∷ es) h =
      ap (λ r. cond (is_lt r) (f ∷ after (Some e.0) es) (after (Some e.0) es)) (below_head e.0 f es h)
      ∙ ap (λ (l : List (Place × X)). f ∷ l) (past_head e es (below_tail e.0 f es h))

  not_itself : (e : Place × X) (es : List (Place × X)) → Below e.0 es → after (Some e.0) (e ∷ es) ≡ es
  not_itself e es h = ap (λ r. cond (is_lt r) (e ∷ after (Some e.0) es) (after (Some e.0) es)) (equal (path_cmp e.0 e.0) (itself e.0))
      ∙ past_head e es h

  first_less : (p : Option Place) (f : Place × X) (e : Place) → is_after p f.0 ≡ false → is_after p e ≡ true → is_after (Some e) f.0 ≡ false
  first_less p f e out a = by (is_lt (path_cmp e f.0)) refl
    where
      by : (b : Bool) → is_lt (path_cmp e f.0) ≡ b → b ≡ false
      by true j = clash (is_after p f.0) (after_trans p e f.0 a (lt_less (path_cmp e f.0) j)) out
      by false j = refl

  pub after_rest : (p : Option Place) (es : List (Place × X)) → In_order es → (e : Place × X) (rest : List (Place × X)) → after p es ≡ e ∷ rest
      → after (Some e.0) es ≡ rest
  after_rest p [] s e rest h = cc
  after_rest p (f ∷ es) s e rest h = by (is_after p f.0) (after_rest p es (tail_sorted f es s) e rest) refl h
    where
      by : (b : Bool) → (after p es ≡ e ∷ rest → after (Some e.0) es ≡ rest) → is_after p f.0 ≡ b → cond b (f ∷ after p es) (after p es) ≡ e ∷ rest
          → after (Some e.0) (f ∷ es) ≡ rest
      by true ih i h =
          let is : f ≡ e = cc in
          let tail : after p es ≡ rest = cc in
          ap (λ (x : Place × X). after (Some x.0) (f ∷ es)) (sym is) ∙ not_itself f es (head_below f es s)
          ∙ sym (all_after p f es i (head_below f es s)) ∙ tail
      by false ih i h =
          let g = follows p es (tail_sorted f es s) e.0 (after_first p es e rest h) in
          ap (λ b. cond b (f ∷ after (Some e.0) es) (after (Some e.0) es)) (first_less p f e.0 i g.later) ∙ ih h

keys_after : (p : Place) (es : List (Place × Value))
    → slice_get (filter (λ other. is_lt (path_cmp p other)) (each (λ e. e.0) es)) 0 ≡ first_after (Some p) es
keys_after p [] = refl
keys_after p (e ∷ es) = by (is_lt (path_cmp p e.0)) (keys_after p es)
  where
    left : List Place
    left = filter (λ other. is_lt (path_cmp p other)) (each (λ e. e.0) es)

    by : (b : Bool) → slice_get left 0 ≡ first_after (Some p) es
        → slice_get (cond b (e.0 ∷ left) left) 0 ≡ cond b (Some e.0) (first_after (Some p) es)
    by true h = refl
    by false h = h

keys_first : (es : List (Place × Value)) → slice_get (each (λ e. e.0) es) 0 ≡ first_after None es
keys_first [] = refl
keys_first (e ∷ es) = refl

pub next-first : (m : Rows) (p : Option Place) → next_of m p ≡ first_after p (entries m)
next-first m None = keys_first (entries m)
next-first m (Some p) = keys_after p (entries m)

-- the same of maps
pub record Next (m : Rows) (p : Option Place) (n : Place) : Type 0 where
  pub later : is_after p n ≡ true
  pub there : is_some (get m n) ≡ true
  pub no_other : (y : Place) → is_after p y ≡ true → path_cmp y n ≡ Less → get m y ≡ None

pub next_means : (m : Rows) (p : Option Place) (n : Place) → next_of m p ≡ Some n → Next m p n
next_means m p n h = let f = follows p (entries m) (entries_sorted m) n (sym (next-first m p) ∙ h) in record {
  later = f.later;
  there = ap is_some (get-entries m n) ∙ f.there;
  no_other = λ y a l. get-entries m y ∙ f.no_other y a l;
}

pub no_next_means : (m : Rows) (p : Option Place) → next_of m p ≡ None → (y : Place) → is_after p y ≡ true → get m y ≡ None
no_next_means m p h y a = get-entries m y ∙ none_follows p (entries m) (sym (next-first m p) ∙ h) y a

pub next_is : (m : Rows) (p : Option Place) (n : Place) → Next m p n → next_of m p ≡ Some n
next_is m p n f = next-first m p ∙ first_is p (entries m) (entries_sorted m) n (record {
  later = f.later;
  there = sym (ap is_some (get-entries m n)) ∙ f.there;
  no_other = λ y a l. sym (get-entries m y) ∙ f.no_other y a l;
})

pub no_next_is : (m : Rows) (p : Option Place) → ((y : Place) → is_after p y ≡ true → get m y ≡ None) → next_of m p ≡ None
no_next_is m p none = next-first m p ∙ none_is p (entries m) (entries_sorted m) (λ y a. sym (get-entries m y) ∙ none y a)

-- the paths after a path
abbrev pub come : {X : Type 0} → Option Place → List (Place × X) → List Place
come p es = each (λ e. e.0) (after p es)

pub come_next : {X : Type 0} (p : Option Place) (es : List (Place × X)) → In_order es → (n : Place) → first_after p es ≡ Some n
    → come p es ≡ n ∷ come (Some n) es
come_next {X} p es s n h = by (after p es) refl
  where
    by : (l : List (Place × X)) → after p es ≡ l → come p es ≡ n ∷ come (Some n) es
    by [] e = let g : None ≡ Some n = sym (after_none p es e) ∙ h in cc
    by (f ∷ rest) e =
        let g : Some f.0 ≡ Some n = sym (after_first p es f rest e) ∙ h in
        let is : f.0 ≡ n = cc in
        ap (each (λ x. x.0)) e ∙ (λ i. is i ∷ each (λ x. x.0) (sym (after_rest p es s f rest e) i)) ∙ ap (λ (x : Place). n ∷ come (Some x) es) is

pub come_end : {X : Type 0} (p : Option Place) (es : List (Place × X)) → first_after p es ≡ None → come p es ≡ []
come_end {X} p es h = by (after p es) refl
  where
    by : (l : List (Place × X)) → after p es ≡ l → come p es ≡ []
    by [] e = ap (each (λ x. x.0)) e
    by (f ∷ rest) e = let g : Some f.0 ≡ None = sym (after_first p es f rest e) ∙ h in cc

-- what stands at the first of those after a path
pub found_after : {X : Type 0} (p : Option Place) (es : List (Place × X)) → In_order es → (e : Place × X) (rest : List (Place × X))
    → after p es ≡ e ∷ rest → find path_cmp e.0 es ≡ Some e.1
found_after p [] s e rest h = cc
found_after {X} p (f ∷ es) s e rest h = by (is_after p f.0) refl (found_after p es (tail_sorted f es s) e rest) h
  where
    apart : is_after p f.0 ≡ false → is_after p e.0 ≡ true → (b : Bool) → eq_by_cmp path_cmp e.0 f.0 ≡ b → b ≡ false
    apart out a true i = clash (is_after p f.0) (sym (ap (is_after p) (one e.0 f.0 i)) ∙ a) out
    apart out a false i = refl

    by : (b : Bool) → is_after p f.0 ≡ b → (after p es ≡ e ∷ rest → find path_cmp e.0 es ≡ Some e.1) → cond b (f ∷ after p es) (after p es) ≡ e ∷ rest
        → find path_cmp e.0 (f ∷ es) ≡ Some e.1
    by true i ih h = let is : f ≡ e = cc in ap (λ (x : Place × X). find path_cmp x.0 (f ∷ es)) (sym is) ∙ found_first f es
        ∙ ap (λ (x : Place × X). Some x.1) is
    by false i ih h =
        let g = follows p es (tail_sorted f es s) e.0 (after_first p es e rest h) in
        ap (λ b. cond b (Some f.1) (find path_cmp e.0 es)) (apart i g.later (eq_by_cmp path_cmp e.0 f.0) refl) ∙ ih h
