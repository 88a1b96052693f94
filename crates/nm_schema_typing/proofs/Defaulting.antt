-- Defaults along the type graph are those along where rows lead.
use Rattle.std.proofs.Common.{◌≡◌, refl, arith, ap, sym, ◌∙◌, ℕ, zero, suc, ◌<◌, ◌≤◌, List, [], length, Option, None, inl, inr, slice_index_or}
use Rattle.std.proofs.lemmas.Bool.{cases_lt}
use Rattle.nm_graph.specs.Graph.{Graph}
use Rattle.nm_graph.specs.Value.{strict, value_of, Holds}
use Rattle.nm_schema_statements.specs.declared.row.Row.{Row}
use Rattle.nm_schema_typing.specs.TypeGraph.{leads, IsTypeGraph}
use Rattle.nm_schema_typing.specs.Along.{within}
use Rattle.nm_schema_typing.specs.Defaults.{joined, default_at, default_step, default_of}
use Rattle.nm_schema_typing.proofs.Valuing.{value_is, past_rows, past_list, leads_nowhere}

nothing_past : (rows : List Row) (i : ℕ) → length rows ≤ i → joined (default_step rows i []) ≡ None
unfolding default_at
nothing_past rows i h = rw (past_rows rows i h) refl

steps_past : (rows : List Row) (typedefs : List (Option ℕ)) (n : ℕ) (i : ℕ) → length rows ≤ i → joined (within (strict (default_step rows)) (leads rows typedefs) n i) ≡ None
steps_past rows typedefs zero i h = refl
steps_past rows typedefs (suc n) i h = rw (leads_nowhere rows typedefs i h) (nothing_past rows i h)

-- the values that hold along a type graph are the defaults of the rows
pub defaults_are : (rows : List Row) (typedefs : List (Option ℕ)) (graph : Graph) (values : List (Option (Option (List ℕ)))) → IsTypeGraph rows typedefs graph → Holds (strict (default_step rows)) graph values → (i : ℕ) → joined (slice_index_or values i None) ≡ default_of rows typedefs i
unfolding default_of
defaults_are rows typedefs graph values t h i = elim (cases_lt i (length graph)) [ inl lt ↦ ap joined (h.each i lt ∙ value_is (strict (default_step rows)) rows typedefs graph t i) | inr le ↦ ap joined (past_list values i None (rw h.size le)) ∙ sym (steps_past rows typedefs (length rows) i (rw (sym t.size) le)) ]
