-- Cycles of a type graph are those of the rows.
use Rattle.std.proofs.Common.{◌≡◌, ℕ, ◌<◌, List, Option, Some, None, IfSome, IfNone, sym, subst, Contains}
use Rattle.nm_graph.specs.Graph.{Graph, successors_of, Leads}
use Rattle.nm_graph.specs.Graph as graph
use Rattle.nm_graph.specs.Order.{IsLeastCycle, IsAcyclic}
use Rattle.nm_schema_statements.specs.declared.row.Row.{Row}
use Rattle.nm_schema_typing.specs.TypeGraph.{leads, IsTypeGraph}
use Rattle.nm_schema_typing.specs.Cycle.{LeadsOn, one, further, IsTypeCycle, HaveNoCycle}
use Rattle.nm_schema_typing.proofs.Valuing.{leads_alike}

to_rows : (rows : List Row) (typedefs : List (Option ℕ)) (g : Graph) → IsTypeGraph rows typedefs g → (i j : ℕ) → Leads g i j → LeadsOn rows typedefs i j
to_rows rows typedefs g t i j (graph.one c) = one (subst (λ (ns : List ℕ). Contains ns j) (leads_alike rows typedefs g t i) c)
to_rows rows typedefs g t i j (graph.further k c l) = further k (subst (λ (ns : List ℕ). Contains ns k) (leads_alike rows typedefs g t i) c) (to_rows rows typedefs g t k j l)

from_rows : (rows : List Row) (typedefs : List (Option ℕ)) (g : Graph) → IsTypeGraph rows typedefs g → (i j : ℕ) → LeadsOn rows typedefs i j → Leads g i j
from_rows rows typedefs g t i j (one c) = graph.one (subst (λ (ns : List ℕ). Contains ns j) (sym (leads_alike rows typedefs g t i)) c)
from_rows rows typedefs g t i j (further k c l) = graph.further k (subst (λ (ns : List ℕ). Contains ns k) (sym (leads_alike rows typedefs g t i)) c) (from_rows rows typedefs g t k j l)

pub cycle_is : (rows : List Row) (typedefs : List (Option ℕ)) (g : Graph) → IsTypeGraph rows typedefs g → (found : Option ℕ) → IfSome found (IsLeastCycle g) → IfSome found (IsTypeCycle rows typedefs)
cycle_is rows typedefs g t None h = h
cycle_is rows typedefs g t (Some i) h = record { leads_back = to_rows rows typedefs g t i i h.leads; least = λ j lt l. h.least j lt (from_rows rows typedefs g t j j l) }

pub acyclic_is : (rows : List Row) (typedefs : List (Option ℕ)) (g : Graph) → IsTypeGraph rows typedefs g → (found : Option ℕ) → IfNone found (IsAcyclic g) → IfNone found (HaveNoCycle rows typedefs)
acyclic_is rows typedefs g t None h = λ i l. h i (from_rows rows typedefs g t i i l)
acyclic_is rows typedefs g t (Some i) h = h
