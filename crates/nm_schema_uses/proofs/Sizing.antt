-- Sums and greatest numbers, up to a limit.
use Rattle.std.proofs.Common.{◌≡◌, ◌<◌, ◌≤◌, ◌+◌, ◌∙◌, ℕ, zero, suc, List, [], ◌∷◌, length, map, drop, get_or, min, max, Option, Some, None, option_map, slice_index_or, refl, sym, ap, arith, drop-cons, add-one}
use Rattle.std.specs.Option.{option_and_then}
use Rattle.std.proofs.lemmas.Grind.{common_steps}
use Rattle.nm_schema_statements.specs.declared.row.Row.{Row}
use Rattle.nm_graph.specs.Value.{strict, all_there, values_at}
use Rattle.nm_schema_uses.specs.Worth.{worth_within, worth_of}
use Rattle.nm_schema_uses.specs.Config.{configuring}
use Rattle.nm_schema_uses.specs.Sizes.{unit_at, total_of, greatest, count_step, height_step, count_of, height_of, capped, capped_count, capped_height, summed, highest}

dropped : (xs : List ℕ) (i : ℕ) → i < length xs → drop i xs ≡ get_or xs i 0 ∷ drop (i + 1) xs
dropped xs i lt = drop-cons xs i 0 lt ∙ rw add-one refl

at-next : {Y : Type 0} (f : Option (List ℕ) → Y) (values : List (Option ℕ)) (successors : List ℕ) (i : ℕ) (value : Option ℕ) → i < length successors → slice_index_or values (get_or successors i 0) None ≡ value
    → f (all_there (values_at values (drop i successors))) ≡ f (all_there (value ∷ values_at values (drop (i + 1) successors)))
at-next f values successors i value lt is =
    ap (λ (left : List ℕ). f (all_there (values_at values left))) (dropped successors i lt) ∙ ap (λ (v : Option ℕ). f (all_there (v ∷ values_at values (drop (i + 1) successors)))) is

-- ---- sums

sum_next : (limit total number : ℕ) (known : Option (List ℕ)) → summed limit total (option_map (λ others. number ∷ others) known) ≡ summed limit (min limit (total + number)) known
sum_next limit total number None = refl
sum_next limit total number (Some known) = ap (λ n. Some n) (omega arith)

sum_first : (limit total : ℕ) (known : Option (List ℕ)) → summed limit (min total limit) known ≡ summed limit total known
sum_first limit total None = refl
sum_first limit total (Some known) = ap (λ n. Some n) (omega arith)

pub sum_start : (limit first total : ℕ) (values : List (Option ℕ)) (successors : List ℕ) → total ≡ min first limit → summed limit total (all_there (values_at values (drop 0 successors))) ≡ summed limit first (all_there (values_at values successors))
sum_start limit first total values successors is = rw is (sum_first limit first (all_there (values_at values successors)))

pub sum_more : (limit total next number : ℕ) (values : List (Option ℕ)) (successors : List ℕ) (i : ℕ) (all : Option ℕ) → summed limit total (all_there (values_at values (drop i successors))) ≡ all → i < length successors
    → slice_index_or values (get_or successors i 0) None ≡ Some number → next ≡ min limit (total + number) → summed limit next (all_there (values_at values (drop (i + 1) successors))) ≡ all
sum_more limit total next number values successors i all h lt is at =
    rw at (sym (sum_next limit total number (all_there (values_at values (drop (i + 1) successors)))) ∙ sym (at-next (summed limit total) values successors i (Some number) lt is) ∙ h)

pub sum_none : (limit total : ℕ) (values : List (Option ℕ)) (successors : List ℕ) (i : ℕ) (all : Option ℕ) → summed limit total (all_there (values_at values (drop i successors))) ≡ all → i < length successors
    → slice_index_or values (get_or successors i 0) None ≡ None → None ≡ all
sum_none limit total values successors i all h lt is = sym (at-next (summed limit total) values successors i None lt is) ∙ h

pub sum_end : (limit total : ℕ) (values : List (Option ℕ)) (successors : List ℕ) (i : ℕ) (all : Option ℕ) → total ≤ limit → summed limit total (all_there (values_at values (drop i successors))) ≡ all → length successors ≤ i → Some total ≡ all
sum_end limit total values successors i all few h le =
    let none : drop i successors ≡ [] = grind (arith, common_steps) in
    let e = ap (λ (left : List ℕ). summed limit total (all_there (values_at values left))) none in
    ap (λ n. Some n) (omega arith) ∙ sym e ∙ h

-- ---- greatest numbers

high_next : (top number : ℕ) (known : Option (List ℕ)) → highest top (option_map (λ others. number ∷ others) known) ≡ highest (max top number) known
high_next top number None = refl
high_next top number (Some known) = ap (λ n. Some n) (omega arith)

pub high_more : (top next number : ℕ) (values : List (Option ℕ)) (successors : List ℕ) (i : ℕ) (all : Option ℕ) → highest top (all_there (values_at values (drop i successors))) ≡ all → i < length successors
    → slice_index_or values (get_or successors i 0) None ≡ Some number → next ≡ max top number → highest next (all_there (values_at values (drop (i + 1) successors))) ≡ all
high_more top next number values successors i all h lt is at =
    rw at (sym (high_next top number (all_there (values_at values (drop (i + 1) successors)))) ∙ sym (at-next (highest top) values successors i (Some number) lt is) ∙ h)

pub high_none : (top : ℕ) (values : List (Option ℕ)) (successors : List ℕ) (i : ℕ) (all : Option ℕ) → highest top (all_there (values_at values (drop i successors))) ≡ all → i < length successors
    → slice_index_or values (get_or successors i 0) None ≡ None → None ≡ all
high_none top values successors i all h lt is = sym (at-next (highest top) values successors i None lt is) ∙ h

pub high_end : (top : ℕ) (values : List (Option ℕ)) (successors : List ℕ) (i : ℕ) (all : Option ℕ) → highest top (all_there (values_at values (drop i successors))) ≡ all → length successors ≤ i → Some top ≡ all
high_end top values successors i all h le =
    let none : drop i successors ≡ [] = grind (arith, common_steps) in
    let e = ap (λ (left : List ℕ). highest top (all_there (values_at values left))) none in
    ap (λ n. Some n) (omega arith) ∙ sym e ∙ h

-- ---- what is capped at each row is capped at last

all-capped : (limit : ℕ) (f g : ℕ → Option ℕ) → ((i : ℕ) → f i ≡ capped limit (g i)) → (nodes : List ℕ) → all_there (map f nodes) ≡ option_map (map (min limit)) (all_there (map g nodes))
all-capped limit f g same [] = refl
all-capped limit f g same (node ∷ nodes) = rw (same node) (all_first limit (g node) (all_there (map f nodes)) (all_there (map g nodes)) (map f nodes) (map g nodes) refl refl (all-capped limit f g same nodes))
  where
    joined : (limit n : ℕ) (known : Option (List ℕ)) → option_map (λ others. min limit n ∷ others) (option_map (map (min limit)) known) ≡ option_map (map (min limit)) (option_map (λ others. n ∷ others) known)
    joined limit n None = refl
    joined limit n (Some known) = refl

    all_first : (limit : ℕ) (value : Option ℕ) (some these : Option (List ℕ)) (fs gs : List (Option ℕ)) → all_there fs ≡ some → all_there gs ≡ these → some ≡ option_map (map (min limit)) these
        → all_there (capped limit value ∷ fs) ≡ option_map (map (min limit)) (all_there (value ∷ gs))
    all_first limit None some these fs gs a b e = refl
    all_first limit (Some n) some these fs gs a b e = rw (a, b, e) (joined limit n these)

sum-capped : (limit unit : ℕ) (known : List ℕ) → min limit (unit + total_of (map (min limit) known)) ≡ min limit (unit + total_of known)
sum-capped limit unit [] = refl
sum-capped limit unit (n ∷ known) = omega (arith, sum-capped limit unit known)

greatest-capped : (limit unit : ℕ) (known : List ℕ) → min limit (unit + greatest (map (min limit) known)) ≡ min limit (unit + greatest known)
greatest-capped limit unit [] = refl
greatest-capped limit unit (n ∷ known) = omega (arith, greatest-capped limit unit known)

count-capped : (rows : List Row) (limit i : ℕ) (known : Option (List ℕ)) → option_and_then (capped_count rows limit i) (option_map (map (min limit)) known) ≡ capped limit (option_and_then (count_step rows i) known)
unfolding capped_count count_step
count-capped rows limit i None = refl
count-capped rows limit i (Some known) = ap (λ n. Some n) (sum-capped limit (unit_at rows i) known)

height-capped : (rows : List Row) (limit i : ℕ) (known : Option (List ℕ)) → option_and_then (capped_height rows limit i) (option_map (map (min limit)) known) ≡ capped limit (option_and_then (height_step rows i) known)
unfolding capped_height height_step
height-capped rows limit i None = refl
height-capped rows limit i (Some known) = ap (λ n. Some n) (greatest-capped limit (unit_at rows i) known)

counts-within : (rows : List Row) (limit : ℕ) (next : ℕ → List ℕ) (steps i : ℕ) → worth_within (strict (capped_count rows limit)) next steps i ≡ capped limit (worth_within (strict (count_step rows)) next steps i)
counts-within rows limit next zero i = refl
counts-within rows limit next (suc steps) i =
    ap (λ (known : Option (List ℕ)). option_and_then (capped_count rows limit i) known) (all-capped limit (worth_within (strict (capped_count rows limit)) next steps) (worth_within (strict (count_step rows)) next steps) (counts-within rows limit next steps) (next i))
    ∙ count-capped rows limit i (all_there (map (worth_within (strict (count_step rows)) next steps) (next i)))

heights-within : (rows : List Row) (limit : ℕ) (next : ℕ → List ℕ) (steps i : ℕ) → worth_within (strict (capped_height rows limit)) next steps i ≡ capped limit (worth_within (strict (height_step rows)) next steps i)
heights-within rows limit next zero i = refl
heights-within rows limit next (suc steps) i =
    ap (λ (known : Option (List ℕ)). option_and_then (capped_height rows limit i) known) (all-capped limit (worth_within (strict (capped_height rows limit)) next steps) (worth_within (strict (height_step rows)) next steps) (heights-within rows limit next steps) (next i))
    ∙ height-capped rows limit i (all_there (map (worth_within (strict (height_step rows)) next steps) (next i)))

pub counts-capped : (rows : List Row) (groupings : List (Option ℕ)) (limit i : ℕ) → worth_of (capped_count rows limit) (configuring rows groupings) (length rows) i ≡ capped limit (count_of rows groupings i)
unfolding worth_of count_of
counts-capped rows groupings limit i = counts-within rows limit (configuring rows groupings) (length rows) i

pub heights-capped : (rows : List Row) (groupings : List (Option ℕ)) (limit i : ℕ) → worth_of (capped_height rows limit) (configuring rows groupings) (length rows) i ≡ capped limit (height_of rows groupings i)
unfolding worth_of height_of
heights-capped rows groupings limit i = heights-within rows limit (configuring rows groupings) (length rows) i
