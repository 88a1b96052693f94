-- Lists put one behind another, up to a limit.
use Rattle.std.proofs.Common.{◌≡◌, ◌<◌, ◌≤◌, ◌+◌, ◌-◌, ◌∙◌, ℕ, List, [], ◌∷◌, ◌++◌, length, drop, get_or, Option, Some, None, option_map, slice_index_or, refl, sym, ap, arith, append_assoc, drop-cons, add-one}
use Rattle.std.specs.List.{concat}
use Rattle.std.proofs.lemmas.Grind.{common_steps}
use Rattle.std.proofs.lemmas.List.{append-nil, length-append}
use Rattle.nm_graph.specs.Value.{all_there, values_at}
use Rattle.nm_schema_uses.specs.Members.{limited, gathered}

-- what is gathered once these stand before it
abbrev pub gathered_after : ℕ → List ℕ → Option (List (List ℕ)) → Option (List ℕ)
gathered_after limit nodes None = None
gathered_after limit nodes (Some known) = limited limit (nodes ++ concat known)

-- these and what some rows bring make all
pub record IsGathered (limit : ℕ) (values : List (Option (List ℕ))) (nodes : List ℕ) (left : List ℕ) (all : Option (List ℕ)) : Type 0 where
  pub few : length nodes ≤ limit
  pub rest : gathered_after limit nodes (all_there (values_at values left)) ≡ all

after_none : (limit : ℕ) (known : Option (List (List ℕ))) → gathered_after limit [] known ≡ gathered limit known
after_none limit None = refl
after_none limit (Some known) = refl

pub gather_start : (limit : ℕ) (values : List (Option (List ℕ))) (nodes left : List ℕ) → nodes ≡ [] → IsGathered limit values nodes left (gathered limit (all_there (values_at values left)))
gather_start limit values nodes left is = rw is (record { few = omega arith; rest = after_none limit (all_there (values_at values left)) })

after_more : (limit : ℕ) (nodes more : List ℕ) (known : Option (List (List ℕ))) → gathered_after limit nodes (option_map (λ others. more ∷ others) known) ≡ gathered_after limit (nodes ++ more) known
after_more limit nodes more None = refl
after_more limit nodes more (Some known) = ap (λ (l : List ℕ). limited limit l) (sym (append_assoc nodes more (concat known)))

limited_many : (limit : ℕ) (nodes : List ℕ) → limit < length nodes → limited limit nodes ≡ None
limited_many limit nodes lt = grind (arith, common_steps)

limited_few : (limit : ℕ) (nodes : List ℕ) → length nodes ≤ limit → limited limit nodes ≡ Some nodes
limited_few limit nodes le = grind (arith, common_steps)

after_many : (limit : ℕ) (nodes more : List ℕ) (known : Option (List (List ℕ))) → limit < length nodes + length more → gathered_after limit nodes (option_map (λ others. more ∷ others) known) ≡ None
after_many limit nodes more None lt = refl
after_many limit nodes more (Some known) lt =
    limited_many limit (nodes ++ (more ++ concat known)) (omega (arith, length-append nodes (more ++ concat known), length-append more (concat known)))

dropped : (xs : List ℕ) (i : ℕ) → i < length xs → drop i xs ≡ get_or xs i 0 ∷ drop (i + 1) xs
dropped xs i lt = drop-cons xs i 0 lt ∙ rw add-one refl

at-next : (limit : ℕ) (values : List (Option (List ℕ))) (nodes : List ℕ) (next : ℕ) (left : List ℕ) (value : Option (List ℕ)) → slice_index_or values next None ≡ value
    → gathered_after limit nodes (all_there (values_at values (next ∷ left))) ≡ gathered_after limit nodes (all_there (value ∷ values_at values left))
at-next limit values nodes next left value is = ap (λ (v : Option (List ℕ)). gathered_after limit nodes (all_there (v ∷ values_at values left))) is

pub gather_more : (limit : ℕ) (values : List (Option (List ℕ))) (nodes more after : List ℕ) (successors : List ℕ) (i : ℕ) (all : Option (List ℕ)) → IsGathered limit values nodes (drop i successors) all → i < length successors
    → slice_index_or values (get_or successors i 0) None ≡ Some more → length more ≤ limit - length nodes → after ≡ nodes ++ more → IsGathered limit values after (drop (i + 1) successors) all
gather_more limit values nodes more after successors i all h lt is le at =
    let few = h.few in
    let e = ap (λ (left : List ℕ). gathered_after limit nodes (all_there (values_at values left))) (dropped successors i lt) in
    rw at (record {
      few = omega (arith, length-append nodes more);
      rest = sym (after_more limit nodes more (all_there (values_at values (drop (i + 1) successors)))) ∙ sym (at-next limit values nodes (get_or successors i 0) (drop (i + 1) successors) (Some more) is) ∙ sym e ∙ h.rest;
    })

pub gather_none : (limit : ℕ) (values : List (Option (List ℕ))) (nodes : List ℕ) (successors : List ℕ) (i : ℕ) (all : Option (List ℕ)) → IsGathered limit values nodes (drop i successors) all → i < length successors
    → slice_index_or values (get_or successors i 0) None ≡ None → None ≡ all
gather_none limit values nodes successors i all h lt is =
    let e = ap (λ (left : List ℕ). gathered_after limit nodes (all_there (values_at values left))) (dropped successors i lt) in
    sym (at-next limit values nodes (get_or successors i 0) (drop (i + 1) successors) None is) ∙ sym e ∙ h.rest

pub gather_many : (limit : ℕ) (values : List (Option (List ℕ))) (nodes more : List ℕ) (successors : List ℕ) (i : ℕ) (all : Option (List ℕ)) → IsGathered limit values nodes (drop i successors) all → i < length successors
    → slice_index_or values (get_or successors i 0) None ≡ Some more → limit - length nodes < length more → None ≡ all
gather_many limit values nodes more successors i all h lt is many =
    let few = h.few in
    let e = ap (λ (left : List ℕ). gathered_after limit nodes (all_there (values_at values left))) (dropped successors i lt) in
    sym (after_many limit nodes more (all_there (values_at values (drop (i + 1) successors))) (omega arith)) ∙ sym (at-next limit values nodes (get_or successors i 0) (drop (i + 1) successors) (Some more) is) ∙ sym e ∙ h.rest

pub gather_end : (limit : ℕ) (values : List (Option (List ℕ))) (nodes : List ℕ) (successors : List ℕ) (i : ℕ) (all : Option (List ℕ)) → IsGathered limit values nodes (drop i successors) all → length successors ≤ i → Some nodes ≡ all
gather_end limit values nodes successors i all h le =
    let none : drop i successors ≡ [] = grind (arith, common_steps) in
    let e = ap (λ (left : List ℕ). gathered_after limit nodes (all_there (values_at values left))) none in
    sym (limited_few limit nodes h.few) ∙ ap (λ (l : List ℕ). limited limit l) (sym (append-nil nodes)) ∙ sym e ∙ h.rest
