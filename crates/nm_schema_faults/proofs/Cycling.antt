-- The cycles of a graph of rows are those of rows.
use Rattle.std.proofs.Common.{◌≡◌, ◌∙◌, ◌⊎◌, inl, inr, ℕ, zero, suc, ◌<◌, ◌≤◌, List, [], ◌∷◌, length, Option, Some, None, IfSome, IfNone, Contains, slice_get, refl, sym, subst, arith}
use Rattle.std.proofs.lemmas.Bool.{cases_lt}
use Rattle.nm_schema_statements.specs.declared.row.Row.{Row}
use Rattle.nm_graph.specs.Graph.{Graph, successors_of}
use Rattle.nm_graph.specs.Graph as graphs
use Rattle.nm_graph.specs.Order as order
use Rattle.nm_schema_names.specs.Graph.{leading, IsGraphOf}
use Rattle.nm_schema_uses.specs.Config.{LeadsBy, one, further}
use Rattle.nm_schema_uses.proofs.Graphs.{successors-past}
use Rattle.nm_schema_faults.specs.Facts.{IsLeastCycle, IsCycle}

row_past : (rows : List Row) (i : ℕ) → length rows ≤ i → slice_get rows i ≡ None
row_past [] i le = refl
row_past (r ∷ rows) zero le = absurd (omega (arith, le))
row_past (r ∷ rows) (suc i) le = row_past rows i (omega (arith, le))

pub leading_past : (rows : List Row) (i : ℕ) → length rows ≤ i → leading rows i ≡ []
unfolding leading
leading_past rows i le = rw (row_past rows i le) refl

module _ (rows : List Row) (graph : Graph) (is : IsGraphOf rows graph) where
  leads_alike : (i : ℕ) → (i < length rows) ⊎ (length rows ≤ i) → successors_of graph i ≡ leading rows i
  leads_alike i (inl lt) = is.leads i lt
  leads_alike i (inr le) = let size = is.size in successors-past graph i (omega (arith, size, le)) ∙ sym (leading_past rows i le)

  alike : (i : ℕ) → successors_of graph i ≡ leading rows i
  alike i = leads_alike i (cases_lt i (length rows))

  of_graph : (i j : ℕ) → graphs.Leads graph i j → LeadsBy (leading rows) i j
  of_graph i j (graphs.one c) = one (subst (λ (l : List ℕ). Contains l j) (alike i) c)
  of_graph i j (graphs.further k c l) = further k (subst (λ (l : List ℕ). Contains l k) (alike i) c) (of_graph k j l)

  in_graph : (i j : ℕ) → LeadsBy (leading rows) i j → graphs.Leads graph i j
  in_graph i j (one c) = graphs.one (subst (λ (l : List ℕ). Contains l j) (sym (alike i)) c)
  in_graph i j (further k c l) = graphs.further k (subst (λ (l : List ℕ). Contains l k) (sym (alike i)) c) (in_graph k j l)

  least_of : (cycle : Option ℕ) → IfSome cycle (order.IsLeastCycle graph) → IfSome cycle (IsLeastCycle rows)
  least_of None least = tt
  least_of (Some i) least = record { leads = of_graph i i least.leads; least = λ j lt l. least.least j lt (in_graph j j l) }

  none_of : (cycle : Option ℕ) → IfNone cycle (order.IsAcyclic graph) → IfNone cycle ((i : ℕ) → ¬ (LeadsBy (leading rows) i i))
  none_of None none = λ i l. none i (in_graph i i l)
  none_of (Some i) none = tt

  -- the first row that leads to itself
  pub cycle_is : (cycle : Option ℕ) → IfSome cycle (order.IsLeastCycle graph) → IfNone cycle (order.IsAcyclic graph) → IsCycle rows cycle
  cycle_is cycle least none = record { least = least_of cycle least; none = none_of cycle none }
