-- Pairs at or below a node in the place of those that were there.
use Rattle.std.proofs.Common.{◌≡◌, Bool, true, false, cond, List, ◌++◌, refl, sym, ap, subst, ◌∙◌}
use Rattle.std.specs.Prelude.{Option, Some, None, not, ◌||◌, filter}
use Rattle.std.specs.Option.{option_or}
use Rattle.std.specs.declared.cmp.Ordering.TheVariants.{Less, Equal}
use Rattle.std.specs.List.{AllByRecursion, splice}
use Rattle.std.specs.FinMap.{find}
use Rattle.std.specs.FinMap.Entries.{find-where_key, is_sorted-where_key}
use Rattle.nm_types.specs.Path.{path_cmp}
use Rattle.nm_types.specs.PathLaws.{path_cmp-IsAntisymmetric}
use Rattle.nm_types.specs.declared.value.Value.{Value}
use Rattle.nm_config.specs.Under.{is_under}
use Rattle.nm_overlay.specs.Places.{Pair, Ascends, front, is_before, is_before_or_under}
use Rattle.nm_overlay.proofs.Order.{Place, lt_less, not_before, less_up_to, under_not_before, past_under}
use Rattle.nm_overlay.proofs.Sorted.{Before_all, find_append, sorted_append, before_append, all_kept, apart_by}
use Rattle.nm_overlay.proofs.Fronts.{front_kept, front_left, before_falls, under_falls}

-- the pairs before the node, those that are to be there, and the pairs past it
abbrev parts : Place → List Pair → List Pair → List Pair
parts node es others = filter (λ e. is_before node e.0) es ++ (others ++ filter (λ e. not (is_before_or_under node e.0)) es)

pub spliced : (node : Place) (es others : List Pair) → Ascends es
    → splice es (front (is_before node) es) (front (is_before_or_under node) es) others ≡ parts node es others
spliced node es others s = λ i. front_kept (is_before node) (before_falls node) es s i ++ (others ++ front_left (is_before_or_under node) (under_falls node) es s i)

not_true : (b : Bool) → not b ≡ true → b ≡ false
not_true true h = cc
not_true false h = refl

first_false : (a b : Bool) → (a || b) ≡ false → a ≡ false
first_false true b h = cc
first_false false b h = refl

second_false : (a b : Bool) → (a || b) ≡ false → b ≡ false
second_false true b h = cc
second_false false b h = h

module _ (node : Place) (es others : List Pair) (s : Ascends es) (t : Ascends others) (under : filter (λ e. is_under node e.0) others ≡ others) where
  others_under : AllByRecursion (λ e. is_under node e.0 ≡ true) others
  others_under = subst (AllByRecursion (λ (e : Pair). is_under node e.0 ≡ true)) under (all_kept (is_under node) others)

  at_or_past : (x y : Place) → is_before node x ≡ true → is_before node y ≡ false → path_cmp x y ≡ Less
  at_or_past x y a b = less_up_to x node y (lt_less (path_cmp x node) a) (not_before node y b)

  before_others : Before_all (filter (λ e. is_before node e.0) es) others
  before_others = apart_by (is_before node) (is_under node) (λ x y a b. at_or_past x y a (under_not_before node y b)) _ others (all_kept (is_before node) es) others_under

  before_past : Before_all (filter (λ e. is_before node e.0) es) (filter (λ e. not (is_before_or_under node e.0)) es)
  before_past = apart_by (is_before node) (λ x. not (is_before_or_under node x)) (λ x y a b. at_or_past x y a (first_false (is_before node y) (is_under node y) (not_true (is_before_or_under node y) b))) _ _
      (all_kept (is_before node) es) (all_kept (λ x. not (is_before_or_under node x)) es)

  others_past : Before_all others (filter (λ e. not (is_before_or_under node e.0)) es)
  others_past = apart_by (is_under node) (λ x. not (is_before_or_under node x)) (λ x y a b.
      let out = not_true (is_before_or_under node y) b in
      past_under node x y a (first_false (is_before node y) (is_under node y) out) (second_false (is_before node y) (is_under node y) out)) others _
      others_under (all_kept (λ x. not (is_before_or_under node x)) es)

  -- they ascend
  pub parts_ascend : Ascends (parts node es others)
  parts_ascend =
      sorted_append (filter (λ e. is_before node e.0) es) (others ++ filter (λ e. not (is_before_or_under node e.0)) es)
      (is_sorted-where_key path_cmp (is_before node) es s)
      (sorted_append others _ t (is_sorted-where_key path_cmp (λ x. not (is_before_or_under node x)) es s) others_past)
      (before_append _ others _ before_others before_past)

  alike : (p : Place → Bool) (q x : Place) → path_cmp q x ≡ Equal → p x ≡ p q
  alike p q x e = ap p (sym (path_cmp-IsAntisymmetric q x e))

  -- at or below the node stands what is to be there, and elsewhere what stood there
  pub find-parts : (q : Place) → find path_cmp q (parts node es others) ≡ cond (is_under node q) (find path_cmp q others) (find path_cmp q es)
  find-parts q =
      find_append q (filter (λ e. is_before node e.0) es) (others ++ filter (λ e. not (is_before_or_under node e.0)) es)
      ∙ ap (option_or (find path_cmp q (filter (λ e. is_before node e.0) es))) (find_append q others (filter (λ e. not (is_before_or_under node e.0)) es))
      ∙ ap (λ o. option_or o (option_or (find path_cmp q others) (find path_cmp q (filter (λ e. not (is_before_or_under node e.0)) es)))) (find-where_key path_cmp (is_before node) q (alike (is_before node) q) es)
      ∙ ap (λ o. option_or (cond (is_before node q) (find path_cmp q es) None) (option_or (find path_cmp q others) o)) (find-where_key path_cmp (λ x. not (is_before_or_under node x)) q (alike (λ x. not (is_before_or_under node x)) q) es)
      ∙ by (is_before node q) (is_under node q) (find path_cmp q others) (find path_cmp q es) (under_not_before node q)
      (sym (ap (find path_cmp q) under) ∙ find-where_key path_cmp (is_under node) q (alike (is_under node) q) others)
    where
      or_none : (o : Option (Option Value)) → option_or o None ≡ o
      or_none None = refl
      or_none (Some x) = refl

      by : (a b : Bool) (o e : Option (Option Value)) → (b ≡ true → a ≡ false) → o ≡ cond b o None
          → option_or (cond a e None) (option_or o (cond (not (a || b)) e None)) ≡ cond b o e
      by true true o e f g = let h : true ≡ false = f refl in cc
      by true false o e f g = ap (λ (x : Option (Option Value)). option_or e (option_or x None)) g ∙ or_none e
      by false true o e f g = or_none o
      by false false o e f g = ap (λ (x : Option (Option Value)). option_or x e) g
