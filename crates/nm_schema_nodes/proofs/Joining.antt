-- Choices and cases put one behind another, up to a limit.
use Rattle.std.proofs.Common.{◌≡◌, ◌<◌, ◌≤◌, ◌+◌, ◌∙◌, ℕ, zero, suc, List, [], ◌∷◌, ◌++◌, length, map, fold, drop, get_or, Bool, true, false, ◌&&◌, nat_le, Option, Some, None, option_map, option_and_then, slice_index_or, refl, sym, ap, arith, append-nil, drop-cons, add-one, length-append, zero-add}
use Rattle.std.proofs.lemmas.Grind.{common_steps}
use Rattle.std.proofs.lemmas.Bool.Decides.{nat_tests}
use Rattle.nm_graph.specs.Value.{all_there, values_at}
use Rattle.nm_schema_nodes.specs.declared.fork.Fork.{Fork}
use Rattle.nm_schema_nodes.specs.declared.fork.Branch.{Branch}
use Rattle.nm_schema_nodes.specs.Forks.{Forking, forking, no_forks, shifted, moved_fork, moved_branch, joined, inner, inner_fork, with_case, with_cases, with_next, choice_alone, is_within, limited, all_joined}
use Rattle.nm_schema_nodes.specs.Choices.{joined_all, choice_all}

-- ---- limits

fewer : (limit p q r s t u : ℕ) → p ≤ s → q ≤ t → r ≤ u → (nat_le p limit && nat_le q limit && nat_le r limit) ≡ false → (nat_le s limit && nat_le t limit && nat_le u limit) ≡ false
fewer limit p q r s t u lp lq lr e = grind (arith, nat_tests)

within_fewer : (limit : ℕ) (a b : Forking) → length a.choices ≤ length b.choices → length a.cases ≤ length b.cases → length a.spots ≤ length b.spots → is_within limit a ≡ false → is_within limit b ≡ false
unfolding is_within
within_fewer limit a b lp lq lr e = fewer limit (length a.choices) (length a.cases) (length a.spots) (length b.choices) (length b.cases) (length b.spots) lp lq lr e

longer : {X : Type 0} (xs ys : List X) → length xs ≤ length (xs ++ ys)
longer xs ys = omega (arith, length-append xs ys)

pub joined_past : (limit : ℕ) (a b : Forking) → is_within limit a ≡ false → is_within limit (joined a b) ≡ false
joined_past limit a b e = within_fewer limit a (joined a b) (longer a.choices (map (moved_fork (length a.cases)) b.choices)) (longer a.cases (map (moved_branch (length a.choices)) b.cases)) (longer a.spots (map (shifted (length a.cases)) b.spots)) e

all_past : (limit : ℕ) (a : Forking) (fs : List Forking) → is_within limit a ≡ false → is_within limit (fold joined a fs) ≡ false
all_past limit a [] e = e
all_past limit a (f ∷ fs) e = all_past limit (joined a f) fs (joined_past limit a f e)

case_past : (limit : ℕ) (a : Forking) (row : ℕ) (b : Forking) → is_within limit a ≡ false → is_within limit (with_case a row b) ≡ false
case_past limit a row b e = within_fewer limit a (with_case a row b) (longer a.choices (map (inner_fork (length a.cases)) b.choices)) (longer a.cases (record { choice = 0; row = row } ∷ map (moved_branch (length a.choices)) b.cases)) (longer a.spots (map (inner (length a.cases)) b.spots)) e

cases_past : (limit : ℕ) (a : Forking) (rows : List ℕ) (fs : List Forking) → is_within limit a ≡ false → is_within limit (with_cases a rows fs) ≡ false
cases_past limit a [] fs e = e
cases_past limit a (row ∷ rows) [] e = e
cases_past limit a (row ∷ rows) (f ∷ fs) e = cases_past limit (with_case a row f) rows fs (case_past limit a row f e)

limited_few : (limit : ℕ) (f : Forking) → is_within limit f ≡ true → limited limit f ≡ Some f
limited_few limit f e = rw e refl

limited_many : (limit : ℕ) (f : Forking) → is_within limit f ≡ false → limited limit f ≡ None
limited_many limit f e = rw e refl

-- ---- one after another

-- what is joined once these stand before it
abbrev pub joined_after : ℕ → Forking → Option (List Forking) → Option Forking
joined_after limit all None = None
joined_after limit all (Some fs) = limited limit (fold joined all fs)

-- these and what some rows bring make all
pub record IsJoined (limit : ℕ) (values : List (Option Forking)) (all : Forking) (left : List ℕ) (answer : Option Forking) : Type 0 where
  pub few : is_within limit all ≡ true
  pub rest : joined_after limit all (all_there (values_at values left)) ≡ answer

after_none : (limit : ℕ) (known : Option (List Forking)) → joined_after limit no_forks known ≡ option_and_then (λ fs. limited limit (all_joined fs)) known
after_none limit None = refl
after_none limit (Some fs) = refl

none_within : (limit : ℕ) → is_within limit no_forks ≡ true
unfolding is_within
none_within limit = grind (arith, nat_tests)

pub join_start : (limit : ℕ) (values : List (Option Forking)) (all : Forking) (left : List ℕ) → all ≡ no_forks → IsJoined limit values all left (joined_all limit (values_at values left))
join_start limit values all left is = rw is (record { few = none_within limit; rest = after_none limit (all_there (values_at values left)) })

after_more : (limit : ℕ) (all more : Forking) (known : Option (List Forking)) → joined_after limit all (option_map (λ others. more ∷ others) known) ≡ joined_after limit (joined all more) known
after_more limit all more None = refl
after_more limit all more (Some fs) = refl

after_many : (limit : ℕ) (all : Forking) (known : Option (List Forking)) → is_within limit all ≡ false → joined_after limit all known ≡ None
after_many limit all None e = refl
after_many limit all (Some fs) e = limited_many limit (fold joined all fs) (all_past limit all fs e)

dropped : (xs : List ℕ) (i : ℕ) → i < length xs → drop i xs ≡ get_or xs i 0 ∷ drop (i + 1) xs
dropped xs i lt = drop-cons xs i 0 lt ∙ rw add-one refl

at-next : (limit : ℕ) (values : List (Option Forking)) (all : Forking) (next : ℕ) (left : List ℕ) (value : Option Forking) → slice_index_or values next None ≡ value
    → joined_after limit all (all_there (values_at values (next ∷ left))) ≡ joined_after limit all (all_there (value ∷ values_at values left))
at-next limit values all next left value is = ap (λ (v : Option Forking). joined_after limit all (all_there (v ∷ values_at values left))) is

-- what is left once one more is joined
join_rest : (limit : ℕ) (values : List (Option Forking)) (all more : Forking) (successors : List ℕ) (i : ℕ) (answer : Option Forking) → IsJoined limit values all (drop i successors) answer → i < length successors
    → slice_index_or values (get_or successors i 0) None ≡ Some more → joined_after limit (joined all more) (all_there (values_at values (drop (i + 1) successors))) ≡ answer
join_rest limit values all more successors i answer h lt is =
    let e = ap (λ (left : List ℕ). joined_after limit all (all_there (values_at values left))) (dropped successors i lt) in
    sym (after_more limit all more (all_there (values_at values (drop (i + 1) successors)))) ∙ sym (at-next limit values all (get_or successors i 0) (drop (i + 1) successors) (Some more) is) ∙ sym e ∙ h.rest

pub join_more : (limit : ℕ) (values : List (Option Forking)) (all more after : Forking) (successors : List ℕ) (i : ℕ) (answer : Option Forking) → IsJoined limit values all (drop i successors) answer → i < length successors
    → slice_index_or values (get_or successors i 0) None ≡ Some more → after ≡ joined all more → is_within limit after ≡ true → IsJoined limit values after (drop (i + 1) successors) answer
join_more limit values all more after successors i answer h lt is at few = record {
  few = few;
  rest = rw at (join_rest limit values all more successors i answer h lt is);
}

pub join_none : (limit : ℕ) (values : List (Option Forking)) (all : Forking) (successors : List ℕ) (i : ℕ) (answer : Option Forking) → IsJoined limit values all (drop i successors) answer → i < length successors
    → slice_index_or values (get_or successors i 0) None ≡ None → None ≡ answer
join_none limit values all successors i answer h lt is =
    let e = ap (λ (left : List ℕ). joined_after limit all (all_there (values_at values left))) (dropped successors i lt) in
    sym (at-next limit values all (get_or successors i 0) (drop (i + 1) successors) None is) ∙ sym e ∙ h.rest

pub join_many : (limit : ℕ) (values : List (Option Forking)) (all more after : Forking) (successors : List ℕ) (i : ℕ) (answer : Option Forking) → IsJoined limit values all (drop i successors) answer → i < length successors
    → slice_index_or values (get_or successors i 0) None ≡ Some more → after ≡ joined all more → is_within limit after ≡ false → None ≡ answer
join_many limit values all more after successors i answer h lt is at many =
    let past : is_within limit (joined all more) ≡ false = ap (λ (f : Forking). is_within limit f) (sym at) ∙ many in
    sym (after_many limit (joined all more) (all_there (values_at values (drop (i + 1) successors))) past) ∙ join_rest limit values all more successors i answer h lt is

pub join_end : (limit : ℕ) (values : List (Option Forking)) (all : Forking) (successors : List ℕ) (i : ℕ) (answer : Option Forking) → IsJoined limit values all (drop i successors) answer → length successors ≤ i → Some all ≡ answer
join_end limit values all successors i answer h le =
    let none : drop i successors ≡ [] = grind (arith, common_steps) in
    let e = ap (λ (left : List ℕ). joined_after limit all (all_there (values_at values left))) none in
    sym (limited_few limit all h.few) ∙ sym e ∙ h.rest

-- ---- one alone

shifted_none : (o : Option ℕ) → shifted 0 o ≡ o
shifted_none None = refl
shifted_none (Some c) = ap Some (zero-add c)

forks_same : (fs : List Fork) → map (moved_fork 0) fs ≡ fs
unfolding moved_fork
forks_same [] = refl
forks_same (f ∷ fs) = rw (shifted_none f.case_in, forks_same fs) refl

branches_same : (bs : List Branch) → map (moved_branch 0) bs ≡ bs
unfolding moved_branch
branches_same [] = refl
branches_same (b ∷ bs) = rw (zero-add b.choice, branches_same bs) refl

spots_same : (spots : List (Option ℕ)) → map (shifted 0) spots ≡ spots
spots_same [] = refl
spots_same (o ∷ spots) = rw (shifted_none o, spots_same spots) refl

joined_none : (f : Forking) → joined no_forks f ≡ f
joined_none f = rw (forks_same f.choices, branches_same f.cases, spots_same f.spots) refl

pub alone_few : (limit : ℕ) (f : Forking) → is_within limit f ≡ true → Some f ≡ joined_all limit (Some f ∷ [])
alone_few limit f e = sym (ap (λ (g : Forking). limited limit g) (joined_none f) ∙ limited_few limit f e)

pub alone_many : (limit : ℕ) (f : Forking) → is_within limit f ≡ false → None ≡ joined_all limit (Some f ∷ [])
alone_many limit f e = sym (ap (λ (g : Forking). limited limit g) (joined_none f) ∙ limited_many limit f e)

-- ---- the cases of a choice

-- the cases that rows add to a choice
abbrev pub cased_after : ℕ → Forking → List ℕ → Option (List Forking) → Option Forking
cased_after limit all rows None = None
cased_after limit all rows (Some fs) = limited limit (with_cases all rows fs)

-- a choice with some of its cases, the rows of others, and what some rows bring in these, make all
pub record IsCased (limit : ℕ) (values : List (Option Forking)) (all : Forking) (rows left : List ℕ) (answer : Option Forking) : Type 0 where
  pub some : 0 < length all.choices
  pub rest : cased_after limit all rows (all_there (values_at values left)) ≡ answer

after_alone : (limit row : ℕ) (rows : List ℕ) (known : Option (List Forking)) → cased_after limit (choice_alone row) rows known ≡ option_and_then (λ fs. limited limit (with_cases (choice_alone row) rows fs)) known
after_alone limit row rows None = refl
after_alone limit row rows (Some fs) = refl

pub case_start : (limit row : ℕ) (values : List (Option Forking)) (all : Forking) (rows left : List ℕ) → all ≡ choice_alone row → IsCased limit values all rows left (choice_all limit row rows (values_at values left))
case_start limit row values all rows left is = rw is (record { some = omega arith; rest = after_alone limit row rows (all_there (values_at values left)) })

after_case : (limit : ℕ) (all more : Forking) (row : ℕ) (rows : List ℕ) (known : Option (List Forking)) → cased_after limit all (row ∷ rows) (option_map (λ others. more ∷ others) known) ≡ cased_after limit (with_case all row more) rows known
after_case limit all more row rows None = refl
after_case limit all more row rows (Some fs) = refl

after_last : (limit : ℕ) (all more : Forking) (known : Option (List Forking)) → cased_after limit all [] (option_map (λ others. more ∷ others) known) ≡ cased_after limit all [] known
after_last limit all more None = refl
after_last limit all more (Some fs) = refl

after_suc : (limit : ℕ) (all more : Forking) (known : Option (List Forking)) (rows : List ℕ) (i : ℕ) → cased_after limit all (drop i rows) (option_map (λ others. more ∷ others) known) ≡ cased_after limit (with_next all (drop i rows) more) (drop (suc i) rows) known
after_suc limit all more known [] zero = after_last limit all more known
after_suc limit all more known [] (suc i) = after_last limit all more known
after_suc limit all more known (row ∷ rows) zero = after_case limit all more row rows known
after_suc limit all more known (row ∷ rows) (suc i) = after_suc limit all more known rows i

after_next : (limit : ℕ) (all more : Forking) (known : Option (List Forking)) (rows : List ℕ) (i : ℕ) → cased_after limit all (drop i rows) (option_map (λ others. more ∷ others) known) ≡ cased_after limit (with_next all (drop i rows) more) (drop (i + 1) rows) known
after_next limit all more known rows i = rw add-one (after_suc limit all more known rows i)

next_some : (all more : Forking) (rows : List ℕ) → 0 < length all.choices → 0 < length (with_next all rows more).choices
next_some all more [] h = h
next_some all more (row ∷ rows) h = omega (arith, length-append all.choices (map (inner_fork (length all.cases)) more.choices))

cased_many : (limit : ℕ) (all : Forking) (rows : List ℕ) (known : Option (List Forking)) → is_within limit all ≡ false → cased_after limit all rows known ≡ None
cased_many limit all rows None e = refl
cased_many limit all rows (Some fs) e = limited_many limit (with_cases all rows fs) (cases_past limit all rows fs e)

at-case : (limit : ℕ) (values : List (Option Forking)) (all : Forking) (rows : List ℕ) (next : ℕ) (left : List ℕ) (value : Option Forking) → slice_index_or values next None ≡ value
    → cased_after limit all rows (all_there (values_at values (next ∷ left))) ≡ cased_after limit all rows (all_there (value ∷ values_at values left))
at-case limit values all rows next left value is = ap (λ (v : Option Forking). cased_after limit all rows (all_there (v ∷ values_at values left))) is

module _ (limit : ℕ) (values : List (Option Forking)) (all : Forking) (rows successors : List ℕ) (i : ℕ) (answer : Option Forking) (h : IsCased limit values all (drop i rows) (drop i successors) answer) where
  case_rest : (more : Forking) → i < length successors → slice_index_or values (get_or successors i 0) None ≡ Some more
      → cased_after limit (with_next all (drop i rows) more) (drop (i + 1) rows) (all_there (values_at values (drop (i + 1) successors))) ≡ answer
  case_rest more lt is =
      let e = ap (λ (left : List ℕ). cased_after limit all (drop i rows) (all_there (values_at values left))) (dropped successors i lt) in
      sym (after_next limit all more (all_there (values_at values (drop (i + 1) successors))) rows i) ∙ sym (at-case limit values all (drop i rows) (get_or successors i 0) (drop (i + 1) successors) (Some more) is) ∙ sym e ∙ h.rest

  pub case_more : (more after : Forking) → i < length successors → slice_index_or values (get_or successors i 0) None ≡ Some more → after ≡ with_next all (drop i rows) more
      → IsCased limit values after (drop (i + 1) rows) (drop (i + 1) successors) answer
  case_more more after lt is at = rw at (record { some = next_some all more (drop i rows) h.some; rest = case_rest more lt is })

  pub case_none : i < length successors → slice_index_or values (get_or successors i 0) None ≡ None → None ≡ answer
  case_none lt is =
      let e = ap (λ (left : List ℕ). cased_after limit all (drop i rows) (all_there (values_at values left))) (dropped successors i lt) in
      sym (at-case limit values all (drop i rows) (get_or successors i 0) (drop (i + 1) successors) None is) ∙ sym e ∙ h.rest

  pub case_many : (more after : Forking) → i < length successors → slice_index_or values (get_or successors i 0) None ≡ Some more → after ≡ with_next all (drop i rows) more → is_within limit after ≡ false → None ≡ answer
  case_many more after lt is at many =
      let past : is_within limit (with_next all (drop i rows) more) ≡ false = ap (λ (f : Forking). is_within limit f) (sym at) ∙ many in
      sym (cased_many limit (with_next all (drop i rows) more) (drop (i + 1) rows) (all_there (values_at values (drop (i + 1) successors))) past) ∙ case_rest more lt is

  with_none : (left : List ℕ) → cased_after limit all left (Some []) ≡ limited limit all
  with_none [] = refl
  with_none (row ∷ left) = refl

  case_last : length successors ≤ i → limited limit all ≡ answer
  case_last le =
      let none : drop i successors ≡ [] = grind (arith, common_steps) in
      let e = ap (λ (left : List ℕ). cased_after limit all (drop i rows) (all_there (values_at values left))) none in
      sym (with_none (drop i rows)) ∙ sym e ∙ h.rest

  pub case_end : length successors ≤ i → is_within limit all ≡ true → Some all ≡ answer
  case_end le few = sym (limited_few limit all few) ∙ case_last le

  pub case_over : length successors ≤ i → is_within limit all ≡ false → None ≡ answer
  case_over le many = sym (limited_many limit all many) ∙ case_last le
