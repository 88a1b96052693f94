-- Lemmas on what leads where in a graph.
use Rattle.std.proofs.Common.{◌≡◌, ℕ, ◌<◌, List, [], ◌∷◌, length, get_or, zero, suc, ap, sym, ◌∙◌, refl, subst, inl, inr, ◌⊎◌, arith, Contains, All}
use Rattle.std.proofs.lemmas.List.Elements.{Contains-get_or, All-get_or}
use Rattle.std.specs.declared.vec.Vec.{Vec}
use Rattle.std.specs.declared.alloc.Global.{Global}
use Rattle.nm_graph.specs.Graph.{Graph, IsGraph, successors_of, Leads, one, further, Reaches}

-- what is read at a node are its successors
pub successors-read : (graph : Graph) (i : ℕ) (row : Vec ℕ Global) → i < length graph → row ≡ get_or graph i row → row.items ≡ successors_of graph i
unfolding successors_of
successors-read [] i row h e = absurd (omega arith)
successors-read (r ∷ rows) zero row h e = ap (λ (v : Vec ℕ Global). v.items) e
successors-read (r ∷ rows) (suc i) row h e = successors-read rows i row (omega arith) e

-- what holds of each row holds of the successors of each node
successors-all : (graph : Graph) (P : ℕ → Type 0) → All (λ (row : Vec ℕ Global). All P row.items) graph → (i : ℕ) → All P (successors_of graph i)
unfolding successors_of
successors-all [] P h i = λ k d l. absurd (omega arith)
successors-all (r ∷ rows) P h zero = h 0 r (omega arith)
successors-all (r ∷ rows) P h (suc i) = successors-all rows P (λ k d l. h (suc k) d (omega arith)) i

pub successors-within : (graph : Graph) → IsGraph graph → (i : ℕ) → All (λ node. node < length graph) (successors_of graph i)
successors-within graph h i = successors-all graph (λ node. node < length graph) h i

-- all of a list, by its elements
pub All-from_Contains : {X : Type 0} (P : X → Type 0) (xs : List X) → ((x : X) → Contains xs x → P x) → All P xs
All-from_Contains P xs f = λ k d h. f (get_or xs k d) (Contains-get_or xs k d h)

pub leads-on : (graph : Graph) (i k j : ℕ) → Leads graph i k → Contains (successors_of graph k) j → Leads graph i j
leads-on graph i k j (one c) e = further k c (one e)
leads-on graph i k j (further m c l) e = further m c (leads-on graph m k j l e)

pub leads-join : (graph : Graph) (i k j : ℕ) → Leads graph i k → Leads graph k j → Leads graph i j
leads-join graph i k j (one c) m = further k c m
leads-join graph i k j (further o c l) m = further o c (leads-join graph o k j l m)

pub reaches-on : (graph : Graph) (i k j : ℕ) → Reaches graph i k → Contains (successors_of graph k) j → Leads graph i j
reaches-on graph i k j (inl e) c = subst (λ (x : ℕ). Leads graph x j) (sym e) (one c)
reaches-on graph i k j (inr l) c = leads-on graph i k j l c

pub reaches-before : (graph : Graph) (i k j : ℕ) → Contains (successors_of graph i) k → Reaches graph k j → Leads graph i j
reaches-before graph i k j c (inl e) = subst (λ (x : ℕ). Leads graph i x) e (one c)
reaches-before graph i k j c (inr l) = further k c l

-- what each step keeps true is true of all that a node leads to
pub leads-carry : (graph : Graph) (P : ℕ → Type 0) → ((i j : ℕ) → P i → Contains (successors_of graph i) j → P j) → (i j : ℕ) → Leads graph i j → P i → P j
leads-carry graph P step i j (one c) p = step i j p c
leads-carry graph P step i j (further k c l) p = leads-carry graph P step k j l (step i k p c)

pub reaches-carry : (graph : Graph) (P : ℕ → Type 0) → ((i j : ℕ) → P i → Contains (successors_of graph i) j → P j) → (i j : ℕ) → Reaches graph i j → P i → P j
reaches-carry graph P step i j (inl e) p = subst P e p
reaches-carry graph P step i j (inr l) p = leads-carry graph P step i j l p
