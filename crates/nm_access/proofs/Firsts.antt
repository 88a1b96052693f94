-- The first rule of lists that passes a test: list by list, and with more behind.
use Rattle.std.proofs.Common.{◌≡◌, ◌≤◌, ◌<◌, ◌-◌, ℕ, List, [], ◌∷◌, ◌++◌, length, take, drop, get_or, map, filter, Bool, true, false, cond, Option, Some, None, refl, sym, subst, ◌∙◌, arith}
use Rattle.std.specs.Prelude.{option_map}
use Rattle.std.specs.List.{find, flat_map}
use Rattle.std.proofs.lemmas.Grind.{common_steps}
use Rattle.nm_access.specs.declared.rule.Rule.{Rule}
use Rattle.nm_access.specs.declared.rule.RuleList.{RuleList}
use Rattle.nm_access.specs.declared.rule.Group.{Group}
use Rattle.nm_access.specs.Judged.{Ruled, ruled_in, ruled, is_list_of, holds_of, first_of, in_list}

-- ---- finding in lists one after another

none_step : {X : Type 0} (b : Bool) (x : X) (r s t : Option X) → (r ≡ None → s ≡ t) → cond b (Some x) r ≡ None → cond b (Some x) s ≡ t
none_step true x r s t go_on e = cc
none_step false x r s t go_on e = go_on e

pub find_none : {X : Type 0} (p : X → Bool) (xs ys : List X) → find p xs ≡ None → find p (xs ++ ys) ≡ find p ys
find_none p [] ys e = refl
find_none p (x ∷ xs) ys e = none_step (p x) x (find p xs) (find p (xs ++ ys)) (find p ys) (find_none p xs ys) e

some_step : {X : Type 0} (b : Bool) (x y : X) (r s : Option X) → (r ≡ Some y → s ≡ Some y) → cond b (Some x) r ≡ Some y → cond b (Some x) s ≡ Some y
some_step true x y r s go_on e = e
some_step false x y r s go_on e = go_on e

pub find_some : {X : Type 0} (p : X → Bool) (xs ys : List X) (y : X) → find p xs ≡ Some y → find p (xs ++ ys) ≡ Some y
find_some p [] ys y e = cc
find_some p (x ∷ xs) ys y e = some_step (p x) x y (find p xs) (find p (xs ++ ys)) (find_some p xs ys y) e

-- ---- one list

ruled_step : (name : List ℕ) (b : Bool) (x : Rule) (r : Option Ruled) (s : Option Rule) → r ≡ option_map (ruled_in name) s
    → cond b (Some (ruled_in name x)) r ≡ option_map (ruled_in name) (cond b (Some x) s)
ruled_step name true x r s e = refl
ruled_step name false x r s e = e

-- the first rule of one list, with its name
pub ruled_find : (test : Rule → Bool) (name : List ℕ) (rules : List Rule)
    → find (holds_of test) (map (ruled_in name) rules) ≡ option_map (ruled_in name) (find test rules)
ruled_find test name [] = refl
ruled_find test name (x ∷ rules) =
    ruled_step name (test x) x (find (holds_of test) (map (ruled_in name) rules)) (find test rules) (ruled_find test name rules)

-- ---- lists, one after another

module _ (test : Rule → Bool) (groups : List Group) (user : List ℕ) where
  passed : (b : Bool) (x : RuleList) (xs : List RuleList) → cond b (find (holds_of test) (ruled x)) None ≡ None
      → find (holds_of test) (flat_map ruled (cond b (x ∷ xs) xs)) ≡ find (holds_of test) (flat_map ruled xs)
  passed true x xs e = find_none (holds_of test) (ruled x) (flat_map ruled xs) e
  passed false x xs e = refl

  reached : (b : Bool) (x : RuleList) (xs : List RuleList) (r : Ruled) → cond b (find (holds_of test) (ruled x)) None ≡ Some r
      → find (holds_of test) (flat_map ruled (cond b (x ∷ xs) xs)) ≡ Some r
  reached true x xs r e = find_some (holds_of test) (ruled x) (flat_map ruled xs) r e
  reached false x xs r e = cc

  -- none of the first list
  pub passed_on : (rest : List RuleList) (x : RuleList) (total : Option Ruled) → 1 ≤ length rest → x ≡ get_or rest 0 x
      → in_list test groups user x ≡ None → first_of test groups user rest ≡ total
      → first_of test groups user (take (length rest - 1) (drop 1 rest)) ≡ total
  passed_on [] x total some is none so_far = absurd (omega arith)
  passed_on (y ∷ rest) x total some is none so_far =
      let e : in_list test groups user y ≡ None = subst (λ (z : RuleList). in_list test groups user z ≡ None) is none in
      let all : take (length (y ∷ rest) - 1) rest ≡ rest = grind (arith, common_steps) in
      rw all (sym (passed (is_list_of groups user y) y (filter (is_list_of groups user) rest) e) ∙ so_far)

  -- one of the first list
  pub found_in : (rest : List RuleList) (x : RuleList) (r : Ruled) (total : Option Ruled) → 1 ≤ length rest → x ≡ get_or rest 0 x
      → in_list test groups user x ≡ Some r → first_of test groups user rest ≡ total → total ≡ Some r
  found_in [] x r total some is found so_far = absurd (omega arith)
  found_in (y ∷ rest) x r total some is found so_far =
      let e : in_list test groups user y ≡ Some r = subst (λ (z : RuleList). in_list test groups user z ≡ Some r) is found in
      sym so_far ∙ reached (is_list_of groups user y) y (filter (is_list_of groups user) rest) r e

  -- no list is left
  pub none_left : (rest : List RuleList) (total : Option Ruled) → length rest < 1 → first_of test groups user rest ≡ total → total ≡ None
  none_left [] total short so_far = sym so_far
  none_left (y ∷ rest) total short so_far = absurd (omega arith)
