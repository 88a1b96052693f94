-- Values along the type graph are those along where rows lead.
use Rattle.std.proofs.Common.{◌≡◌, refl, arith, ap, sym, ◌∙◌, ℕ, zero, suc, ◌<◌, ◌≤◌, ◌⊎◌, inl, inr, List, [], ◌∷◌, length, map, Option, Some, None, slice_get, slice_index_or}
use Rattle.std.proofs.lemmas.Bool.{cases_lt}
use Rattle.std.specs.Option.{option_map}
use Rattle.std.specs.declared.vec.Vec.{Vec}
use Rattle.std.specs.declared.alloc.Global.{Global}
use Rattle.nm_graph.specs.Graph.{Graph, successors_of}
use Rattle.nm_graph.specs.Value.{Step, strict, all_there, value_within, value_of, Holds}
use Rattle.nm_schema_statements.specs.declared.row.Row.{Row}
use Rattle.nm_schema_typing.specs.TypeGraph.{leads, leads_from, IsTypeGraph}
use Rattle.nm_schema_typing.specs.Meaning.{Meaning, meaning_step, meaning_at, first_known}
use Rattle.nm_schema_typing.specs.Along.{within, meaning_of}

-- functions that agree map alike
map_same : {X Y : Type 0} (f g : X → Y) → ((x : X) → f x ≡ g x) → (xs : List X) → map f xs ≡ map g xs
map_same f g h [] = refl
map_same f g h (x ∷ xs) = rw (h x, map_same f g h xs) refl

within_same : {Y : Type 0} (step : Step Y) (graph : Graph) (next : ℕ → List ℕ) → ((i : ℕ) → successors_of graph i ≡ next i) → (steps : ℕ) (i : ℕ) → value_within step graph steps i ≡ within step next steps i
within_same step graph next h zero i = refl
within_same step graph next h (suc steps) i = ap (step i) (map_same (value_within step graph steps) (within step next steps) (within_same step graph next h steps) (successors_of graph i) ∙ ap (map (within step next steps)) (h i))

past_graph : (graph : Graph) (i : ℕ) → length graph ≤ i → successors_of graph i ≡ []
unfolding successors_of
past_graph [] i h = refl
past_graph (r ∷ rs) zero h = absurd (omega (arith, h))
past_graph (r ∷ rs) (suc i) h = past_graph rs i (omega (arith, h))

pub past_rows : (rows : List Row) (i : ℕ) → length rows ≤ i → slice_get rows i ≡ None
past_rows [] i h = refl
past_rows (r ∷ rs) zero h = absurd (omega (arith, h))
past_rows (r ∷ rs) (suc i) h = past_rows rs i (omega (arith, h))

pub leads_nowhere : (rows : List Row) (typedefs : List (Option ℕ)) (i : ℕ) → length rows ≤ i → leads rows typedefs i ≡ []
unfolding leads
leads_nowhere rows typedefs i h = rw (past_rows rows i h) refl

-- a type graph leads where rows lead
pub leads_alike : (rows : List Row) (typedefs : List (Option ℕ)) (graph : Graph) → IsTypeGraph rows typedefs graph → (i : ℕ) → successors_of graph i ≡ leads rows typedefs i
leads_alike rows typedefs graph t i = elim (cases_lt i (length graph)) [ inl lt ↦ t.each i lt | inr le ↦ past_graph graph i le ∙ sym (leads_nowhere rows typedefs i (rw (sym t.size) le)) ]

-- the values along a type graph are those along where rows lead
pub value_is : {Y : Type 0} (step : Step Y) (rows : List Row) (typedefs : List (Option ℕ)) (graph : Graph) → IsTypeGraph rows typedefs graph → (i : ℕ) → value_of step graph i ≡ within step (leads rows typedefs) (length rows) i
unfolding value_of
value_is step rows typedefs graph t i = rw (sym t.size) (within_same step graph (leads rows typedefs) (leads_alike rows typedefs graph t) (length graph) i)

meaning_is : (rows : List Row) (typedefs : List (Option ℕ)) (graph : Graph) → IsTypeGraph rows typedefs graph → (i : ℕ) → value_of (strict (meaning_step rows)) graph i ≡ meaning_of rows typedefs i
unfolding meaning_of
meaning_is rows typedefs graph t i = value_is (strict (meaning_step rows)) rows typedefs graph t i

pub past_list : {X : Type 0} (xs : List X) (i : ℕ) (x : X) → length xs ≤ i → slice_index_or xs i x ≡ x
past_list [] i x h = refl
past_list (y ∷ ys) zero x h = absurd (omega (arith, h))
past_list (y ∷ ys) (suc i) x h = past_list ys i x (omega (arith, h))

nothing_past : (rows : List Row) (i : ℕ) → length rows ≤ i → meaning_step rows i [] ≡ None
unfolding meaning_at
nothing_past rows i h = rw (past_rows rows i h) refl

steps_past : (rows : List Row) (typedefs : List (Option ℕ)) (n : ℕ) (i : ℕ) → length rows ≤ i → within (strict (meaning_step rows)) (leads rows typedefs) n i ≡ None
steps_past rows typedefs zero i h = refl
steps_past rows typedefs (suc n) i h = rw (leads_nowhere rows typedefs i h) (nothing_past rows i h)

meaning_past : (rows : List Row) (typedefs : List (Option ℕ)) (i : ℕ) → length rows ≤ i → meaning_of rows typedefs i ≡ None
unfolding meaning_of
meaning_past rows typedefs i h = steps_past rows typedefs (length rows) i h

-- the values that hold along a type graph are the meanings of the rows
pub meanings_are : (rows : List Row) (typedefs : List (Option ℕ)) (graph : Graph) (values : List (Option Meaning)) → IsTypeGraph rows typedefs graph → Holds (strict (meaning_step rows)) graph values → (i : ℕ) → slice_index_or values i None ≡ meaning_of rows typedefs i
meanings_are rows typedefs graph values t h i = elim (cases_lt i (length graph)) [ inl lt ↦ h.each i lt ∙ meaning_is rows typedefs graph t i | inr le ↦ past_list values i None (rw h.size le) ∙ sym (meaning_past rows typedefs i (rw (sym t.size) le)) ]
