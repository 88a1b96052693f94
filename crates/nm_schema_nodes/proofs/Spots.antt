-- The nodes that choices and cases speak of are those that rows bring, kept ones alone.
use Rattle.std.proofs.Common.{◌≡◌, ◌+◌, ◌∙◌, ℕ, zero, suc, List, [], ◌∷◌, ◌++◌, length, map, fold, Bool, true, false, nat_le, Option, Some, None, option_map, option_and_then, slice_get, refl, sym, ap, arith, length-append, zero-add, if◌then◌else◌}
use Rattle.std.specs.List.{concat}
use Rattle.std.proofs.lemmas.List.{length-map}
use Rattle.nm_schema_statements.specs.declared.row.Row.{Row}
use Rattle.nm_schema_statements.specs.declared.word.Word.TheVariants as word
use Rattle.nm_schema_statements.specs.Word.{same_word}
use Rattle.nm_schema_statements.specs.Flaw.{is_data}
use Rattle.nm_graph.specs.Value.{strict, all_there}
use Rattle.nm_schema_uses.specs.Holding.{bringing}
use Rattle.nm_schema_uses.specs.Config.{kept_of, configuring}
use Rattle.nm_schema_uses.specs.Members.{is_astray, gathered, bring, bring_step}
use Rattle.nm_schema_uses.specs.Members as members
use Rattle.nm_schema_uses.specs.Worth.{worth_within, worth_of}
use Rattle.nm_schema_uses.specs.Passing.{brought_along, kept_members}
use Rattle.nm_schema_nodes.specs.Forks.{Forking, lone_node, no_forks, shifted, joined, inner, with_case, with_cases, choice_alone, choice_with, is_within, limited, all_joined}
use Rattle.nm_schema_nodes.specs.Choices.{fork_in, fork_step, forked, joined_all, forks_of}
use Rattle.nm_schema_nodes.specs.Spots.{HaveSpots}

-- as many nodes, where both are known
abbrev Same : Option Forking → Option (List ℕ) → Type 0
Same None nodes = Unit {0}
Same (Some f) None = Unit {0}
Same (Some f) (Some nodes) = length f.spots ≡ length nodes

-- the same of each
abbrev AreSame : List Forking → List (List ℕ) → Type 0
AreSame [] [] = Unit {0}
AreSame [] (nodes ∷ others) = ⊥
AreSame (f ∷ fs) [] = ⊥
AreSame (f ∷ fs) (nodes ∷ others) = (length f.spots ≡ length nodes) × AreSame fs others

-- the same of each of n, where all are known
abbrev SameAll : Option (List Forking) → Option (List (List ℕ)) → ℕ → Type 0
SameAll None others n = Unit {0}
SameAll (Some fs) None n = Unit {0}
SameAll (Some fs) (Some others) n = AreSame fs others × (length fs ≡ n)

same_none : (f : Option Forking) → Same f None
same_none None = tt
same_none (Some f) = tt

all_more : (f : Forking) (nodes : List ℕ) (fs : Option (List Forking)) (others : Option (List (List ℕ))) (n : ℕ) → length f.spots ≡ length nodes → SameAll fs others n
    → SameAll (option_map (λ l. f ∷ l) fs) (option_map (λ l. nodes ∷ l) others) (suc n)
all_more f nodes None others n e h = tt
all_more f nodes (Some fs) None n e h = tt
all_more f nodes (Some fs) (Some others) n e h = ((e, h.0), ap suc h.1)

all_none : (f : Forking) (fs : Option (List Forking)) (n : ℕ) → SameAll (option_map (λ l. f ∷ l) fs) None n
all_none f None n = tt
all_none f (Some fs) n = tt

all_next : (f : Option Forking) (nodes : Option (List ℕ)) (fs : List (Option Forking)) (others : List (Option (List ℕ))) (n : ℕ) → Same f nodes → SameAll (all_there fs) (all_there others) n → SameAll (all_there (f ∷ fs)) (all_there (nodes ∷ others)) (suc n)
all_next None nodes fs others n e h = tt
all_next (Some f) None fs others n e h = all_none f (all_there fs) (suc n)
all_next (Some f) (Some nodes) fs others n e h = all_more f nodes (all_there fs) (all_there others) n e h

all_same : (value : ℕ → Option Forking) (known : ℕ → Option (List ℕ)) → ((i : ℕ) → Same (value i) (known i)) → (is : List ℕ) → SameAll (all_there (map value is)) (all_there (map known is)) (length is)
all_same value known same [] = (tt, refl)
all_same value known same (i ∷ is) = all_next (value i) (known i) (map value is) (map known is) (length is) (same i) (all_same value known same is)

-- ---- how many nodes there are

spots_joined : (all : Forking) (fs : List Forking) (others : List (List ℕ)) → AreSame fs others → length (fold joined all fs).spots ≡ length all.spots + length (concat others)
spots_joined all [] [] h = omega arith
spots_joined all [] (nodes ∷ others) h = absurd h
spots_joined all (f ∷ fs) [] h = absurd h
spots_joined all (f ∷ fs) (nodes ∷ others) h =
    let rest = spots_joined (joined all f) fs others h.1 in
    let e = h.0 in
    omega (arith, rest, e, length-append all.spots (map (shifted (length all.cases)) f.spots), length-map f.spots (shifted (length all.cases)), length-append nodes (concat others))

spots_cased : (all : Forking) (rows : List ℕ) (fs : List Forking) (others : List (List ℕ)) → length fs ≡ length rows → AreSame fs others → length (with_cases all rows fs).spots ≡ length all.spots + length (concat others)
spots_cased all [] [] [] size h = omega arith
spots_cased all [] (f ∷ fs) others size h = absurd (omega arith)
spots_cased all (row ∷ rows) [] others size h = absurd (omega arith)
spots_cased all [] [] (nodes ∷ others) size h = absurd h
spots_cased all (row ∷ rows) (f ∷ fs) [] size h = absurd h
spots_cased all (row ∷ rows) (f ∷ fs) (nodes ∷ others) size h =
    let rest = spots_cased (with_case all row f) rows fs others (omega arith) h.1 in
    let e = h.0 in
    omega (arith, rest, e, length-append all.spots (map (inner (length all.cases)) f.spots), length-map f.spots (inner (length all.cases)), length-append nodes (concat others))

spots_all : (fs : List Forking) (others : List (List ℕ)) → AreSame fs others → length (all_joined fs).spots ≡ length (concat others)
spots_all fs others h = spots_joined no_forks fs others h ∙ zero-add (length (concat others))

spots_choice : (i : ℕ) (rows : List ℕ) (fs : List Forking) (others : List (List ℕ)) → length fs ≡ length rows → AreSame fs others → length (choice_with i rows fs).spots ≡ length (concat others)
spots_choice i rows fs others size h = spots_cased (choice_alone i) rows fs others size h ∙ zero-add (length (concat others))

-- ---- limits

limited_same : (few less : Bool) (f : Forking) (nodes : List ℕ) → length f.spots ≡ length nodes → Same (if few then Some f else None) (if less then Some nodes else None)
limited_same true true f nodes e = e
limited_same true false f nodes e = tt
limited_same false less f nodes e = tt

limits_same : (limit : ℕ) (f : Forking) (nodes : List ℕ) → length f.spots ≡ length nodes → Same (limited limit f) (members.limited limit nodes)
limits_same limit f nodes e = limited_same (is_within limit f) (nat_le (length nodes) limit) f nodes e

unless_same : (astray : Bool) (f : Option Forking) (nodes : Option (List ℕ)) → Same f nodes → Same f (if astray then None else nodes)
unless_same true f nodes e = same_none f
unless_same false f nodes e = e

both_same : (astray : Bool) (f : Option Forking) (nodes : Option (List ℕ)) → Same f nodes → Same (if astray then None else f) (if astray then None else nodes)
both_same true f nodes e = tt
both_same false f nodes e = e

module _ (rows : List Row) (groupings : List (Option ℕ)) where
  row_same : (i : ℕ) (row : Option Row) (fs : List Forking) (others : List (List ℕ)) → AreSame fs others → length fs ≡ length (kept_of (bringing rows groupings) rows i) → Same (fork_in rows groupings i row fs) (bring rows groupings i row others)
  row_same i None fs others h size = tt
  row_same i (Some r) fs others h size =
      elim (is_data r.word) as (λ b. Same (if b then Some lone_node else (if same_word r.word word.Choice then limited (length rows) (choice_with i (kept_of (bringing rows groupings) rows i) fs) else (if is_astray groupings i r then None else limited (length rows) (all_joined fs)))) (if b then Some (i ∷ []) else (if is_astray groupings i r then None else members.limited (length rows) (concat others)))) [
        | true ↦ refl
        | false ↦ elim (same_word r.word word.Choice) as (λ b. Same (if b then limited (length rows) (choice_with i (kept_of (bringing rows groupings) rows i) fs) else (if is_astray groupings i r then None else limited (length rows) (all_joined fs))) (if is_astray groupings i r then None else members.limited (length rows) (concat others))) [
          | true ↦ unless_same (is_astray groupings i r) (limited (length rows) (choice_with i (kept_of (bringing rows groupings) rows i) fs)) (members.limited (length rows) (concat others))
              (limits_same (length rows) (choice_with i (kept_of (bringing rows groupings) rows i) fs) (concat others) (spots_choice i (kept_of (bringing rows groupings) rows i) fs others size h))
          | false ↦ both_same (is_astray groupings i r) (limited (length rows) (all_joined fs)) (members.limited (length rows) (concat others)) (limits_same (length rows) (all_joined fs) (concat others) (spots_all fs others h))
        ]
      ]

  step_same : (i : ℕ) (fs : Option (List Forking)) (others : Option (List (List ℕ))) → SameAll fs others (length (kept_of (bringing rows groupings) rows i)) → Same (option_and_then (fork_step rows groupings i) fs) (option_and_then (bring_step rows groupings i) others)
  unfolding fork_step bring_step
  step_same i None others h = tt
  step_same i (Some fs) None h = same_none (fork_step rows groupings i fs)
  step_same i (Some fs) (Some others) h = row_same i (slice_get rows i) fs others h.0 h.1

  within_same : (steps i : ℕ) → Same (worth_within (strict (fork_step rows groupings)) (kept_of (bringing rows groupings) rows) steps i) (worth_within (strict (bring_step rows groupings)) (kept_of (bringing rows groupings) rows) steps i)
  within_same zero i = tt
  within_same (suc steps) i =
      step_same i (all_there (map (worth_within (strict (fork_step rows groupings)) (kept_of (bringing rows groupings) rows) steps) (kept_of (bringing rows groupings) rows i)))
      (all_there (map (worth_within (strict (bring_step rows groupings)) (kept_of (bringing rows groupings) rows) steps) (kept_of (bringing rows groupings) rows i)))
      (all_same (worth_within (strict (fork_step rows groupings)) (kept_of (bringing rows groupings) rows) steps) (worth_within (strict (bring_step rows groupings)) (kept_of (bringing rows groupings) rows) steps) (within_same steps) (kept_of (bringing rows groupings) rows i))

  worth_same : (i : ℕ) → Same (forked rows groupings i) (brought_along rows groupings (kept_of (bringing rows groupings) rows) i)
  unfolding forked brought_along worth_of
  worth_same i = within_same (length rows) i

  gathered_same : (fs : Option (List Forking)) (others : Option (List (List ℕ))) (n : ℕ) → SameAll fs others n → Same (option_and_then (λ l. limited (length rows) (all_joined l)) fs) (gathered (length rows) others)
  gathered_same None others n h = tt
  gathered_same (Some fs) None n h = same_none (limited (length rows) (all_joined fs))
  gathered_same (Some fs) (Some others) n h = limits_same (length rows) (all_joined fs) (concat others) (spots_all fs others h.0)

  members_same : (i : ℕ) → Same (forks_of rows groupings i) (kept_members rows groupings i)
  unfolding forks_of kept_members
  members_same i = gathered_same (all_there (map (forked rows groupings) (configuring rows groupings i))) (all_there (map (brought_along rows groupings (kept_of (bringing rows groupings) rows)) (configuring rows groupings i))) (length (configuring rows groupings i))
      (all_same (forked rows groupings) (brought_along rows groupings (kept_of (bringing rows groupings) rows)) worth_same (configuring rows groupings i))

  pub have-spots : (i : ℕ) → HaveSpots rows groupings i
  have-spots i = λ f nodes ef en. let h = members_same i in rw (ef, en) at h
