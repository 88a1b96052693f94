-- What parts of a row bring to it.
use Rattle.std.proofs.Common.{◌≡◌, ◌≢◌, ◌∙◌, ◌<◌, ◌+◌, ◌⊎◌, inl, inr, ℕ, List, [], ◌∷◌, ◌++◌, length, map, take, get_or, slice_index_or, slice_set, Bool, true, false, not, ◌||◌, ◌&&◌, Option, Some, None, refl, sym, ap}
use Rattle.std.specs.List.{find, list_any}
use Rattle.std.specs.Str.{bytes_eq}
use Rattle.std.proofs.lemmas.Bool.{cases_eq}
use Rattle.std.proofs.lemmas.Slice.Eq.{bytes_eq-Decides}
use Rattle.std.proofs.lemmas.List.{get_or-set_same, get_or-set_other, get_or_default}
use Rattle.std.proofs.lemmas.List.Folds.{list_any-append, list_any_more}
use Rattle.nm_schema_uses.specs.Arguments.{argument_at}
use Rattle.nm_schema_names.specs.Clash.{has_name, Knowledge, nodes_at, names_at, brought_by, brings, AreSetsOfNames, Parts, parts, has_part, AreApart}

bytes_equal : (a b : List ℕ) → bytes_eq a b ≡ true → a ≡ b
bytes_equal a b e = (bytes_eq-Decides a b).0 e

bytes_itself : (a : List ℕ) → bytes_eq a a ≡ true
bytes_itself a = (bytes_eq-Decides a a).1 refl

pub not_true : (b : Bool) → not b ≡ true → b ≡ false
not_true true e = absurd (cc)
not_true false e = refl

or_false : (a b : Bool) → (a || b) ≡ false → (a ≡ false) × (b ≡ false)
or_false true b e = absurd (cc)
or_false false b e = (refl, e)

and_swap : (a b : Bool) → (a && b) ≡ (b && a)
and_swap true true = refl
and_swap true false = refl
and_swap false true = refl
and_swap false false = refl

apart_next : (p : List ℕ → Bool) (x : List ℕ) (xs : List (List ℕ)) (n : List ℕ) (same : Bool) → bytes_eq n x ≡ same → p x ≡ false → (has_name xs n && p n) ≡ false → ((same || has_name xs n) && p n) ≡ false
apart_next p x xs n true is none rest = ap p (bytes_equal n x is) ∙ none
apart_next p x xs n false is none rest = rest

-- what passes no test of some names isn't among them
pub apart_names : (p : List ℕ → Bool) (names : List (List ℕ)) → list_any p names ≡ false → AreApart (has_name names) p
apart_names p [] e n = refl
apart_names p (x ∷ names) e n =
    let each = or_false (p x) (list_any p names) e in
    apart_next p x names n (bytes_eq n x) refl each.0 (apart_names p names each.1 n)

has_first : (x : List ℕ) (names : List (List ℕ)) → has_name (x ∷ names) x ≡ true
has_first x names = rw (bytes_itself x) refl

later_apart : (p : Bool) (a b : Bool) → (p && (a || b)) ≡ false → (p && b) ≡ false
later_apart true true b e = absurd (cc)
later_apart true false b e = e
later_apart false a b e = refl

true_apart : (p q : Bool) → q ≡ true → (p && q) ≡ false → p ≡ false
true_apart true true is e = absurd (cc)
true_apart true false is e = absurd (cc)
true_apart false q is e = refl

pub find_apart : (p : List ℕ → Bool) (names : List (List ℕ)) → AreApart p (has_name names) → find p names ≡ None
find_apart p [] h = refl
find_apart p (x ∷ names) h =
    let first : p x ≡ false = true_apart (p x) (has_name (x ∷ names) x) (has_first x names) (h x) in
    let others = find_apart p names (λ n. later_apart (p n) (bytes_eq n x) (has_name names n) (h n)) in
    rw first others

or_turn : (a b c : Bool) → ((a || b) || c) ≡ (a || (b || c))
or_turn true b c = refl
or_turn false b c = refl

or_last : (a b c : Bool) → (a || (b || (c || false))) ≡ (c || (a || b))
or_last true true true = refl
or_last true true false = refl
or_last true false true = refl
or_last true false false = refl
or_last false true true = refl
or_last false true false = refl
or_last false false true = refl
or_last false false false = refl

apart_or : (a b c d : Bool) → ((a || b) && d) ≡ false → (c && d) ≡ false → ((a || (b || c)) && d) ≡ false
apart_or true b c d e f = e
apart_or false true c d e f = e
apart_or false false c d e f = f

or_nothing : (a : Bool) → (a || false) ≡ a
or_nothing true = refl
or_nothing false = refl

module _ (k : Knowledge) where
  -- a set that is kept is of the names that its row brings
  pub kept-read : (sets : List (Option (List (List ℕ)))) (at : ℕ) (slot : Option (List (List ℕ))) (names : List (List ℕ)) (name : List ℕ) → AreSetsOfNames k sets → at < length sets → slot ≡ get_or sets at slot → slot ≡ Some names → has_name names name ≡ brings k name at
  unfolding brings
  kept-read sets at slot names name kept lt here is =
      let e : slice_index_or sets at None ≡ Some names = sym (get_or_default sets at slot None lt) ∙ sym here ∙ is in
      kept at names e name

  pub kept_none : (sets : List (Option (List (List ℕ)))) → ((i : ℕ) → slice_index_or sets i None ≡ None) → AreSetsOfNames k sets
  kept_none sets none i names e = let f = none i in absurd (cc)

  kept_each : (sets : List (Option (List (List ℕ)))) (at : ℕ) (made : List (List ℕ)) → AreSetsOfNames k sets → at < length sets → ((n : List ℕ) → has_name made n ≡ brought_by k at n)
      → (i : ℕ) (names : List (List ℕ)) → slice_index_or (slice_set sets at (Some made)) i None ≡ Some names → (i ≡ at) ⊎ (i ≢ at) → (name : List ℕ) → has_name names name ≡ brought_by k i name
  kept_each sets at made kept lt are i names e (inl same) name =
      let f : Some names ≡ Some made = sym e ∙ ap (λ j. slice_index_or (slice_set sets at (Some made)) j None) same ∙ get_or-set_same sets at (Some made) None lt in
      let g : names ≡ made = cc in
      ap (λ (l : List (List ℕ)). has_name l name) g ∙ are name ∙ ap (λ j. brought_by k j name) (sym same)
  kept_each sets at made kept lt are i names e (inr other) name = kept i names (sym (get_or-set_other sets at i (Some made) None other) ∙ e) name

  pub kept_more : (sets : List (Option (List (List ℕ)))) (at : ℕ) (made : List (List ℕ)) → AreSetsOfNames k sets → at < length sets → ((n : List ℕ) → has_name made n ≡ brought_by k at n) → AreSetsOfNames k (slice_set sets at (Some made))
  kept_more sets at made kept lt are i names e = kept_each sets at made kept lt are i names e (cases_eq i at)

  pub named : (nodes : List ℕ) (at : ℕ) (name : List ℕ) → nodes ≡ nodes_at k at → has_name (map (argument_at k.rows) nodes) name ≡ brought_by k at name
  unfolding brought_by names_at
  named nodes at name e = ap (λ (l : List ℕ). has_name (map (argument_at k.rows) l) name) e

  pub made-names : (names made : List (List ℕ)) (nodes : List ℕ) (at : ℕ) (n : List ℕ) → names ≡ [] → nodes ≡ nodes_at k at → has_name made n ≡ (has_name (map (argument_at k.rows) nodes) n || has_name names n) → has_name made n ≡ brought_by k at n
  made-names names made nodes at n none is e =
      e ∙ ap (λ (l : List (List ℕ)). has_name (map (argument_at k.rows) nodes) n || has_name l n) none ∙ or_nothing (has_name (map (argument_at k.rows) nodes) n) ∙ named nodes at n is

  pub scanned : (nodes : List ℕ) (at : ℕ) (name : List ℕ) → nodes ≡ nodes_at k at → has_name (map (argument_at k.rows) nodes) name ≡ brings k name at
  unfolding brings
  scanned nodes at name e = named nodes at name e

  names-are : (at : ℕ) (n : List ℕ) → has_name (names_at k at) n ≡ brought_by k at n
  unfolding brought_by
  names-are at n = refl

  pub meet-apart : (other at : ℕ) → list_any (brought_by k at) (names_at k other) ≡ false → AreApart (brought_by k other) (brought_by k at)
  meet-apart other at e n = ap (λ b. b && brought_by k at n) (sym (names-are other n)) ∙ apart_names (brought_by k at) (names_at k other) e n

  pub meet-apart-turned : (other at : ℕ) → list_any (brought_by k other) (names_at k at) ≡ false → AreApart (brought_by k other) (brought_by k at)
  meet-apart-turned other at e n = and_swap (brought_by k other n) (brought_by k at n) ∙ meet-apart at other e n

  pub apart-none : (p : Parts) (at : ℕ) → AreApart (has_part k p) (brought_by k at) → None ≡ find (has_part k p) (names_at k at)
  apart-none p at apart = sym (find_apart (has_part k p) (names_at k at) (λ n. ap (λ b. has_part k p n && b) (names-are at n) ∙ apart n))

  brings-any : (names : List (List ℕ)) (at : ℕ) → list_any (λ name. brings k name at) names ≡ list_any (brought_by k at) names
  unfolding brings
  brings-any names at = refl

  pub names-apart : (names : List (List ℕ)) (at : ℕ) → list_any (λ name. brings k name at) names ≡ false → AreApart (has_name names) (brought_by k at)
  names-apart names at e = apart_names (brought_by k at) names (sym (brings-any names at) ∙ e)

  pub names-apart-turned : (names : List (List ℕ)) (at : ℕ) → list_any (has_name names) (names_at k at) ≡ false → AreApart (has_name names) (brought_by k at)
  names-apart-turned names at e n =
      and_swap (has_name names n) (brought_by k at n) ∙ ap (λ b. b && has_name names n) (sym (names-are at n)) ∙ apart_names (has_name names) (names_at k at) e n

  pub apart_start : (names : List (List ℕ)) (wide : List ℕ) (at : ℕ) → AreApart (has_name names) (brought_by k at) → AreApart (has_part k (parts names (take 0 wide))) (brought_by k at)
  unfolding has_part
  apart_start names wide at apart n = ap (λ b. b && brought_by k at n) (or_nothing (has_name names n)) ∙ apart n

  pub apart_more : (names : List (List ℕ)) (wide : List ℕ) (i other at : ℕ) → i < length wide → other ≡ get_or wide i 0 → AreApart (brought_by k other) (brought_by k at) → AreApart (has_part k (parts names (take i wide))) (brought_by k at)
      → AreApart (has_part k (parts names (take (i + 1) wide))) (brought_by k at)
  unfolding has_part brings
  apart_more names wide i other at lt is apart before n =
      ap (λ b. (has_name names n || b) && brought_by k at n) (list_any_more (brings k n) wide i 0 lt)
      ∙ apart_or (has_name names n) (list_any (brings k n) (take i wide)) (brings k n (get_or wide i 0)) (brought_by k at n) (before n) (ap (λ j. brought_by k j n && brought_by k at n) (sym is) ∙ apart n)

  pub few_more : (names all : List (List ℕ)) (wide nodes : List ℕ) (at : ℕ) (n : List ℕ) → nodes ≡ nodes_at k at → has_name all n ≡ (has_name (map (argument_at k.rows) nodes) n || has_name names n)
      → has_part k (parts all wide) n ≡ (brought_by k at n || has_part k (parts names wide) n)
  unfolding has_part
  few_more names all wide nodes at n is e =
      ap (λ b. b || list_any (brings k n) wide) (e ∙ ap (λ b. b || has_name names n) (named nodes at n is)) ∙ or_turn (brought_by k at n) (has_name names n) (list_any (brings k n) wide)

  pub wide_more : (names : List (List ℕ)) (wide : List ℕ) (at : ℕ) (n : List ℕ) → has_part k (parts names (wide ++ at ∷ [])) n ≡ (brought_by k at n || has_part k (parts names wide) n)
  unfolding has_part brings
  wide_more names wide at n =
      ap (λ b. has_name names n || b) (list_any-append (brings k n) wide (at ∷ [])) ∙ or_last (has_name names n) (list_any (brings k n) wide) (brought_by k at n)
