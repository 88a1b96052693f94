-- Pairs that ascend by their paths.
use Rattle.std.proofs.Common.{◌≡◌, Bool, true, false, cond, List, [], ◌∷◌, ◌++◌, refl, sym, ap, subst, ◌∙◌}
use Rattle.std.specs.Prelude.{Some, None, T, ◌&&◌, filter}
use Rattle.std.specs.Option.{option_or}
use Rattle.std.specs.Ordering.{is_lt, is_eq, eq_by_cmp}
use Rattle.std.specs.declared.cmp.Ordering.TheVariants.{Less}
use Rattle.std.specs.List.{AllByRecursion}
use Rattle.std.specs.FinMap.{find, is_sorted}
use Rattle.std.specs.FinMap.Entries.{below_all}
use Rattle.nm_types.specs.Path.{path_cmp}
use Rattle.nm_types.specs.PathLaws.{paths_total}
use Rattle.nm_overlay.proofs.Order.{Place, lt_less}

pub both : (a b : Bool) → T a → T b → T (a && b)
both true b p q = q
both false b p q = absurd p

pub first : (a b : Bool) → T (a && b) → T a
first true b p = tt
first false b p = p

pub second : (a b : Bool) → T (a && b) → T b
second true b p = p
second false b p = absurd p

holds : (b : Bool) → T b → b ≡ true
holds true h = refl
holds false h = absurd h

module _ {X : Type 0} where
  abbrev pub In_order : List (Place × X) → Type 0
  In_order es = T (is_sorted path_cmp es)

  abbrev pub Below : Place → List (Place × X) → Type 0
  Below x es = T (below_all path_cmp x es)

  pub head_below : (e : Place × X) (es : List (Place × X)) → In_order (e ∷ es) → Below e.0 es
  head_below e es h = first (below_all path_cmp e.0 es) (is_sorted path_cmp es) h

  pub tail_sorted : (e : Place × X) (es : List (Place × X)) → In_order (e ∷ es) → In_order es
  tail_sorted e es h = second (below_all path_cmp e.0 es) (is_sorted path_cmp es) h

  pub cons_sorted : (e : Place × X) (es : List (Place × X)) → Below e.0 es → In_order es → In_order (e ∷ es)
  cons_sorted e es a b = both (below_all path_cmp e.0 es) (is_sorted path_cmp es) a b

  pub below_head : (x : Place) (e : Place × X) (es : List (Place × X)) → Below x (e ∷ es) → path_cmp x e.0 ≡ Less
  below_head x e es h = lt_less _ (holds _ (first (is_lt (path_cmp x e.0)) (below_all path_cmp x es) h))

  pub below_tail : (x : Place) (e : Place × X) (es : List (Place × X)) → Below x (e ∷ es) → Below x es
  below_tail x e es h = second (is_lt (path_cmp x e.0)) (below_all path_cmp x es) h

  pub below_cons : (x : Place) (e : Place × X) (es : List (Place × X)) → path_cmp x e.0 ≡ Less → Below x es → Below x (e ∷ es)
  below_cons x e es a b = both (is_lt (path_cmp x e.0)) (below_all path_cmp x es) (subst (λ r. T (is_lt r)) (sym a) tt) b

  -- what stands below the first of some stands below all of them
  pub below_lower : (x y : Place) (es : List (Place × X)) → path_cmp x y ≡ Less → Below y es → Below x es
  below_lower x y [] p h = tt
  below_lower x y (e ∷ es) p h = below_cons x e es (paths_total.trans x y e.0 p (below_head y e es h)) (below_lower x y es p (below_tail y e es h))

  -- a path below all of some isn't found among them
  pub find_below : (x : Place) (es : List (Place × X)) → Below x es → find path_cmp x es ≡ None
  find_below x [] h = refl
  find_below x (e ∷ es) h = ap (λ r. cond (is_eq r) (Some e.1) (find path_cmp x es)) (below_head x e es h) ∙ find_below x es (below_tail x e es h)

  pub find_append : (q : Place) (es fs : List (Place × X)) → find path_cmp q (es ++ fs) ≡ option_or (find path_cmp q es) (find path_cmp q fs)
  find_append q [] fs = refl
  find_append q (e ∷ es) fs = by (eq_by_cmp path_cmp q e.0) (find_append q es fs)
    where
      by : (b : Bool) → find path_cmp q (es ++ fs) ≡ option_or (find path_cmp q es) (find path_cmp q fs)
          → cond b (Some e.1) (find path_cmp q (es ++ fs)) ≡ option_or (cond b (Some e.1) (find path_cmp q es)) (find path_cmp q fs)
      by true h = refl
      by false h = h

  -- each of some stands before each of others
  abbrev pub Before_all : List (Place × X) → List (Place × X) → Type 0
  Before_all es fs = AllByRecursion (λ e. Below e.0 fs) es

  pub below_append : (x : Place) (es fs : List (Place × X)) → Below x es → Below x fs → Below x (es ++ fs)
  below_append x [] fs a b = b
  below_append x (e ∷ es) fs a b = below_cons x e (es ++ fs) (below_head x e es a) (below_append x es fs (below_tail x e es a) b)

  pub sorted_append : (es fs : List (Place × X)) → In_order es → In_order fs → Before_all es fs → In_order (es ++ fs)
  sorted_append [] fs a b h = b
  sorted_append (e ∷ es) fs a b h =
      cons_sorted e (es ++ fs) (below_append e.0 es fs (head_below e es a) h.0) (sorted_append es fs (tail_sorted e es a) b h.1)

  pub before_append : (es fs gs : List (Place × X)) → Before_all es fs → Before_all es gs → Before_all es (fs ++ gs)
  before_append [] fs gs a b = tt
  before_append (e ∷ es) fs gs a b = (below_append e.0 fs gs a.0 b.0, before_append es fs gs a.1 b.1)

  -- what a test keeps passes it
  pub all_kept : (p : Place → Bool) (es : List (Place × X)) → AllByRecursion (λ e. p e.0 ≡ true) (filter (λ e. p e.0) es)
  all_kept p [] = tt
  all_kept p (e ∷ es) = by (p e.0) refl (all_kept p es)
    where
      by : (b : Bool) → p e.0 ≡ b → AllByRecursion (λ e. p e.0 ≡ true) (filter (λ e. p e.0) es)
          → AllByRecursion (λ e. p e.0 ≡ true) (cond b (e ∷ filter (λ e. p e.0) es) (filter (λ e. p e.0) es))
      by true h rest = (h, rest)
      by false h rest = rest

  -- some that pass a test and others that pass another stand apart where these tests part paths
  pub apart_by : (p r : Place → Bool) → ((x y : Place) → p x ≡ true → r y ≡ true → path_cmp x y ≡ Less) → (es fs : List (Place × X))
      → AllByRecursion (λ e. p e.0 ≡ true) es → AllByRecursion (λ e. r e.0 ≡ true) fs → Before_all es fs
  apart_by p r less [] fs a b = tt
  apart_by p r less (e ∷ es) fs a b = (each fs b, apart_by p r less es fs a.1 b)
    where
      each : (gs : List (Place × X)) → AllByRecursion (λ e. r e.0 ≡ true) gs → Below e.0 gs
      each [] h = tt
      each (g ∷ gs) h = below_cons e.0 g gs (less e.0 g.0 a.0 h.0) (each gs h.1)
