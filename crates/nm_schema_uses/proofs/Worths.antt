-- Values along a graph of rows are the values of the rows.
use Rattle.std.proofs.Common.{◌≡◌, ◌<◌, ◌∙◌, ℕ, zero, suc, List, [], ◌∷◌, length, map, Option, refl, sym, ap, subst}
use Rattle.nm_graph.specs.Graph.{Graph, successors_of}
use Rattle.nm_graph.specs.Value.{Step, strict, value_within, value_of, Holds}
use Rattle.nm_schema_uses.specs.Worth.{worth_within, worth_of, AreWorth}

map-same : {Y : Type 0} (f g : ℕ → Option Y) → ((i : ℕ) → f i ≡ g i) → (nodes : List ℕ) → map f nodes ≡ map g nodes
map-same f g same [] = refl
map-same f g same (node ∷ nodes) = rw (same node, map-same f g same nodes) refl

within-same : {Y : Type 0} (step : Step Y) (graph : Graph) (next : ℕ → List ℕ) → ((i : ℕ) → successors_of graph i ≡ next i) → (steps i : ℕ) → value_within step graph steps i ≡ worth_within step next steps i
within-same step graph next each zero i = refl
within-same step graph next each (suc steps) i =
    ap (step i) (map-same (value_within step graph steps) (worth_within step next steps) (within-same step graph next each steps) (successors_of graph i) ∙ ap (λ (nodes : List ℕ). map (worth_within step next steps) nodes) (each i))

pub value-worth : {Y : Type 0} (step : ℕ → List Y → Option Y) (graph : Graph) (next : ℕ → List ℕ) (count : ℕ) → ((i : ℕ) → successors_of graph i ≡ next i) → length graph ≡ count → (i : ℕ) → value_of (strict step) graph i ≡ worth_of step next count i
unfolding value_of worth_of
value-worth step graph next count each size i = within-same (strict step) graph next each (length graph) i ∙ ap (λ steps. worth_within (strict step) next steps i) size

pub are_worth : {Y : Type 0} (step : ℕ → List Y → Option Y) (graph : Graph) (next : ℕ → List ℕ) (count : ℕ) (values : List (Option Y)) → ((i : ℕ) → successors_of graph i ≡ next i) → length graph ≡ count → Holds (strict step) graph values
    → AreWorth (worth_of step next count) count values
are_worth step graph next count values each size holds = record {
  size = holds.size ∙ size;
  each = λ i lt. holds.each i (subst (λ n. i < n) (sym size) lt) ∙ value-worth step graph next count each size i;
}
