-- A graph that grows node by node.
use Rattle.std.proofs.Common.{◌≡◌, ℕ, zero, suc, ◌+◌, ◌<◌, ◌≤◌, List, [], ◌∷◌, ◌++◌, length, refl, sym, ap, ◌∙◌, subst, arith, All, length-append, ◌⊎◌, inl, inr}
use Rattle.std.proofs.lemmas.Bool.{cases_lt}
use Rattle.std.proofs.lemmas.List.Elements.{All-push, All-nil}
use Rattle.std.specs.declared.vec.Vec.{Vec}
use Rattle.std.specs.declared.alloc.Global.{Global}
use Rattle.nm_graph.specs.Graph.{Graph, successors_of}
use Rattle.nm_schema_statements.specs.declared.row.Row.{Row}
use Rattle.nm_schema_names.specs.Graph.{leading, IsGraphOf}
use Rattle.nm_schema_names.proofs.Within.{leading-within}

earlier : (graph : Graph) (list : Vec ℕ Global) (i : ℕ) → i < length graph → successors_of (graph ++ list ∷ []) i ≡ successors_of graph i
unfolding successors_of
earlier [] list i lt = absurd (omega arith)
earlier (l ∷ graph) list zero lt = refl
earlier (l ∷ graph) list (suc i) lt = earlier graph list i (omega arith)

last : (graph : Graph) (list : Vec ℕ Global) → successors_of (graph ++ list ∷ []) (length graph) ≡ list.items
unfolding successors_of
last [] list = refl
last (l ∷ graph) list = last graph list

-- the first n rows lead in the graph where they lead, and to rows alone
pub record IsBegun (rows : List Row) (n : ℕ) (graph : Graph) : Type 0 where
  pub size : length graph ≡ n
  pub leads : (i : ℕ) → i < n → successors_of graph i ≡ leading rows i
  pub within : All (λ (list : Vec ℕ Global). All (λ k. k < length rows) list.items) graph

pub begun_none : (rows : List Row) (graph : Graph) → graph ≡ [] → IsBegun rows 0 graph
begun_none rows graph e = record {
  size = ap length e;
  leads = λ i lt. absurd (omega arith);
  within = subst (λ (g : Graph). All (λ (list : Vec ℕ Global). All (λ k. k < length rows) list.items) g) (sym e) (All-nil (λ (list : Vec ℕ Global). All (λ k. k < length rows) list.items));
}

begun_leads : (rows : List Row) (n : ℕ) (graph : Graph) (list : Vec ℕ Global) → IsBegun rows n graph → list.items ≡ leading rows n
    → (i : ℕ) → i < n + 1 → (i < n) ⊎ (n ≤ i) → successors_of (graph ++ list ∷ []) i ≡ leading rows i
begun_leads rows n graph list begun is i lt (inl below) =
    let within : i < length graph = omega (arith, begun.size) in
    earlier graph list i within ∙ begun.leads i below
begun_leads rows n graph list begun is i lt (inr here) =
    let same : i ≡ n = omega arith in
    let at : i ≡ length graph = same ∙ sym begun.size in
    ap (successors_of (graph ++ list ∷ [])) at ∙ last graph list ∙ is ∙ ap (leading rows) (sym same)

pub begun_more : (rows : List Row) (n : ℕ) (graph after : Graph) (list : Vec ℕ Global) → IsBegun rows n graph → list.items ≡ leading rows n → after ≡ graph ++ list ∷ [] → IsBegun rows (n + 1) after
begun_more rows n graph after list begun is pushed =
    subst (λ (g : Graph). IsBegun rows (n + 1) g) (sym pushed) (record {
      size = length-append graph (list ∷ []) ∙ ap (λ k. k + 1) begun.size;
      leads = λ i lt. begun_leads rows n graph list begun is i lt (cases_lt i n);
      within = All-push (λ (l : Vec ℕ Global). All (λ k. k < length rows) l.items) graph list begun.within (subst (λ (ks : List ℕ). All (λ k. k < length rows) ks) (sym is) (leading-within rows n));
    })

pub begun_all : (rows : List Row) (n : ℕ) (graph : Graph) → n ≡ length rows → IsBegun rows n graph → IsGraphOf rows graph
begun_all rows n graph e begun = record {
  size = begun.size ∙ e;
  leads = λ i lt. begun.leads i (omega arith);
  within = subst (λ (m : ℕ). All (λ (list : Vec ℕ Global). All (λ k. k < m) list.items) graph) (sym (begun.size ∙ e)) begun.within;
}
