-- Rows that bring what one other row brings.
use Rattle.std.proofs.Common.{◌≡◌, ◌≢◌, ◌∙◌, ◌<◌, ◌⊎◌, inl, inr, ℕ, zero, suc, List, [], ◌∷◌, ◌++◌, length, map, set, nat_le, Bool, true, false, Option, Some, None, option_map, option_to_list, slice_get, filter, if◌then◌else◌, refl, sym, ap, subst}
use Rattle.std.specs.List.{range_with_len}
use Rattle.std.specs.Option.{option_and_then}
use Rattle.std.proofs.lemmas.List.{append-nil, get_or-set_same, get_or-set_other}
use Rattle.std.proofs.lemmas.Bool.{cases_lt, cases_eq}
use Rattle.nm_schema_statements.specs.declared.row.Row.{Row}
use Rattle.nm_graph.specs.Graph.{Graph, successors_of}
use Rattle.nm_graph.specs.Value.{strict, all_there}
use Rattle.nm_schema_uses.specs.Holding.{is_node, is_uses, grouping_at, Draws}
use Rattle.nm_schema_uses.specs.Worth.{worth_within, worth_of, AreWorth}
use Rattle.nm_schema_uses.specs.Members.{gathered, is_astray}
use Rattle.nm_schema_names.specs.Clash.{known_at, is_held, claiming_in, claiming, claim, claim_step, claimed}
use Rattle.nm_schema_names.specs.Sharing.{lone_of, AreShared, source_at, AreSources}
use Rattle.nm_schema_names.proofs.Clashing.{known_each}

module _ {Y : Type 0} where
  put_next : (y : Y) (known : Option (List Y)) (values : List (Option Y)) → ((ys : List Y) → known ≡ Some ys → all_there values ≡ Some ys) → (ys : List Y) → option_map (λ others. y ∷ others) known ≡ Some ys → option_map (λ others. y ∷ others) (all_there values) ≡ Some ys
  put_next y None values stays ys e = absurd (cc)
  put_next y (Some known) values stays ys e = rw (stays known refl) e

  there_next : (a b : Option Y) (xs zs : List (Option Y)) → ((y : Y) → a ≡ Some y → b ≡ Some y) → ((ys : List Y) → all_there xs ≡ Some ys → all_there zs ≡ Some ys) → (ys : List Y) → all_there (a ∷ xs) ≡ Some ys → all_there (b ∷ zs) ≡ Some ys
  there_next None b xs zs first others ys e = absurd (cc)
  there_next (Some y) b xs zs first others ys e = rw (first y refl) (put_next y (all_there xs) zs others ys e)

  -- the values of some nodes are all there still, where each that is there stays
  there_map : (f g : ℕ → Option Y) → ((j : ℕ) (y : Y) → f j ≡ Some y → g j ≡ Some y) → (nodes : List ℕ) (ys : List Y) → all_there (map f nodes) ≡ Some ys → all_there (map g nodes) ≡ Some ys
  there_map f g stays [] ys e = e
  there_map f g stays (node ∷ nodes) ys e = there_next (f node) (g node) (map f nodes) (map g nodes) (stays node) (λ zs. there_map f g stays nodes zs) ys e

  then_stays : (f : List Y → Option Y) (known : Option (List Y)) (values : List (Option Y)) → ((ys : List Y) → known ≡ Some ys → all_there values ≡ Some ys) → (y : Y) → option_and_then f known ≡ Some y → option_and_then f (all_there values) ≡ Some y
  then_stays f None values stays y e = absurd (cc)
  then_stays f (Some known) values stays y e = rw (stays known refl) e

  -- a value that some steps make is made by one more
  worth_stays : (step : ℕ → List Y → Option Y) (next : ℕ → List ℕ) (steps i : ℕ) (y : Y) → worth_within (strict step) next steps i ≡ Some y → worth_within (strict step) next (suc steps) i ≡ Some y
  worth_stays step next zero i y e = absurd (cc)
  worth_stays step next (suc steps) i y e =
      then_stays (step i) (all_there (map (worth_within (strict step) next steps) (next i))) (map (worth_within (strict step) next (suc steps)) (next i))
      (λ ys. there_map (worth_within (strict step) next steps) (worth_within (strict step) next (suc steps)) (λ j z. worth_stays step next steps j z) (next i) ys) y e

lone : (nodes : List ℕ) (i : ℕ) → lone_of nodes ≡ Some i → nodes ≡ i ∷ []
lone [] i e = absurd (cc)
lone (j ∷ []) i e = let f : j ≡ i = cc in rw f refl
lone (j ∷ k ∷ nodes) i e = absurd (cc)

when_true : (b : Bool) (nodes l : List ℕ) → (if b then Some nodes else None) ≡ Some l → nodes ≡ l
when_true true nodes l e = cc
when_true false nodes l e = absurd (cc)

when_false : (b : Bool) (first other : Option (List ℕ)) (l : List ℕ) → b ≡ false → (if b then first else other) ≡ Some l → other ≡ Some l
when_false true first other l is e = absurd (cc)
when_false false first other l is e = e

unless_none : (b : Bool) (other : Option (List ℕ)) (l : List ℕ) → (if b then None else other) ≡ Some l → other ≡ Some l
unless_none true other l e = absurd (cc)
unless_none false other l e = e

gathered_one : (limit : ℕ) (nodes l : List ℕ) → gathered limit (Some (nodes ∷ [])) ≡ Some l → nodes ≡ l
gathered_one limit nodes l e = sym (append-nil nodes) ∙ when_true (nat_le (length (nodes ++ [])) limit) (nodes ++ []) l e

abbrev is_node_in : Option Row → Bool
is_node_in None = false
is_node_in (Some r) = is_node r.word

claim_one : (rows : List Row) (groupings : List (Option ℕ)) (i : ℕ) (row : Option Row) (nodes l : List ℕ) → is_node_in row ≡ false → claim rows groupings i row (nodes ∷ []) ≡ Some l → nodes ≡ l
claim_one rows groupings i None nodes l is e = absurd (cc)
claim_one rows groupings i (Some r) nodes l is e =
    let all = gathered (length rows) (Some (nodes ∷ [])) in
    let f = when_false (is_node r.word) (Some (i ∷ [])) (if is_astray groupings i r then None else all) l is e in
    gathered_one (length rows) nodes l (unless_none (is_astray groupings i r) all l f)

one_value : (rows : List Row) (groupings : List (Option ℕ)) (i : ℕ) (value : Option (List ℕ)) (l : List ℕ) → is_node_in (slice_get rows i) ≡ false → option_and_then (claim_step rows groupings i) (all_there (value ∷ [])) ≡ Some l → value ≡ Some l
unfolding claim_step
one_value rows groupings i None l is e = absurd (cc)
one_value rows groupings i (Some nodes) l is e = ap (λ (m : List ℕ). Some m) (claim_one rows groupings i (slice_get rows i) nodes l is e)

worth-shared : (rows : List Row) (groupings : List (Option ℕ)) (steps i j : ℕ) (l : List ℕ) → is_node_in (slice_get rows i) ≡ false → claiming rows groupings i ≡ j ∷ []
    → worth_within (strict (claim_step rows groupings)) (claiming rows groupings) steps i ≡ Some l → worth_within (strict (claim_step rows groupings)) (claiming rows groupings) steps j ≡ Some l
worth-shared rows groupings zero i j l is alone e = absurd (cc)
worth-shared rows groupings (suc steps) i j l is alone e =
    let f : option_and_then (claim_step rows groupings i) (all_there (map (worth_within (strict (claim_step rows groupings)) (claiming rows groupings) steps) (j ∷ []))) ≡ Some l =
    subst (λ (nodes : List ℕ). option_and_then (claim_step rows groupings i) (all_there (map (worth_within (strict (claim_step rows groupings)) (claiming rows groupings) steps) nodes)) ≡ Some l) alone e in
    worth_stays (claim_step rows groupings) (claiming rows groupings) steps j l (one_value rows groupings i (worth_within (strict (claim_step rows groupings)) (claiming rows groupings) steps j) l is f)

unless_is : (b : Bool) (nodes : List ℕ) (j : ℕ) → (if b then [] else nodes) ≡ j ∷ [] → b ≡ false
unless_is true nodes j e = absurd (cc)
unless_is false nodes j e = refl

not_node_in : (rows : List Row) (groupings : List (Option ℕ)) (i j : ℕ) (row : Option Row) → claiming_in rows groupings i row ≡ j ∷ [] → is_node_in row ≡ false
not_node_in rows groupings i j None e = refl
not_node_in rows groupings i j (Some r) e = unless_is (is_node r.word) (if is_uses r.word then option_to_list (grouping_at groupings i) else filter (is_held rows i) (range_with_len 0 (length rows))) j e

-- a row whose names rest on one row is neither a node of data nor a choice
not_node : (rows : List Row) (groupings : List (Option ℕ)) (i j : ℕ) → claiming rows groupings i ≡ j ∷ [] → is_node_in (slice_get rows i) ≡ false
unfolding claiming
not_node rows groupings i j e = not_node_in rows groupings i j (slice_get rows i) e

claimed-shared : (rows : List Row) (groupings : List (Option ℕ)) (i j : ℕ) (l : List ℕ) → claiming rows groupings i ≡ j ∷ [] → claimed rows groupings i ≡ Some l → claimed rows groupings j ≡ Some l
unfolding claimed worth_of
claimed-shared rows groupings i j l alone e = worth-shared rows groupings (length rows) i j l (not_node rows groupings i j alone) alone e

pub are-shared : (rows : List Row) (groupings : List (Option ℕ)) (graph : Graph) (values : List (Option (List ℕ))) → Draws (claiming rows groupings) (length rows) graph → AreWorth (claimed rows groupings) (length rows) values → AreShared graph values
are-shared rows groupings graph values draws worth i j l alone e =
    let at-i = known_each rows groupings values i worth (cases_lt i (length rows)) in
    let at-j = known_each rows groupings values j worth (cases_lt j (length rows)) in
    at-j ∙ claimed-shared rows groupings i j l (sym (draws.each i) ∙ lone (successors_of graph i) j alone) (sym at-i ∙ e)

source_each : (brought : List (Option (List ℕ))) (sources : List ℕ) (node source : ℕ) → AreSources brought sources → node < length sources → known_at brought source ≡ known_at brought node → (i : ℕ) → (i ≡ node) ⊎ (i ≢ node)
    → known_at brought (source_at (set sources node source) i) ≡ known_at brought i
source_each brought sources node source are lt same i (inl is) =
    ap (λ k. known_at brought (source_at (set sources node source) k)) is ∙ ap (λ k. known_at brought k) (get_or-set_same sources node source node lt) ∙ same ∙ ap (λ k. known_at brought k) (sym is)
source_each brought sources node source are lt same i (inr other) = ap (λ k. known_at brought k) (get_or-set_other sources node i source i other) ∙ are i

pub sources_more : (brought : List (Option (List ℕ))) (sources : List ℕ) (node source : ℕ) → AreSources brought sources → node < length sources → known_at brought source ≡ known_at brought node → AreSources brought (set sources node source)
sources_more brought sources node source are lt same i = source_each brought sources node source are lt same i (cases_eq i node)
