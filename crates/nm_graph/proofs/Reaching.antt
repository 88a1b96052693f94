-- What a search from some nodes has found when it ends.
use Rattle.std.proofs.Common.{◌≡◌, ℕ, ◌<◌, ◌≤◌, ◌+◌, ◌-◌, Bool, true, false, List, [], ◌∷◌, length, take, get_or, ap, sym, ◌∙◌, refl, subst, inl, inr, ◌⊎◌, arith, ◌↔◌, Contains, All, count_by}
use Rattle.std.proofs.lemmas.Bool.{cases_lt}
use Rattle.std.proofs.lemmas.List.{get_or-take, get_or_default, get_or_read}
use Rattle.std.proofs.lemmas.List.Sums.{count_by-le-length}
use Rattle.std.proofs.lemmas.List.Elements.{All-weaker, All-contains, Contains-get_or}
use Rattle.nm_graph.specs.declared.reach.Search.{Search}
use Rattle.nm_graph.specs.Graph.{Graph, IsGraph, successors_of, Reaches, ReachedFrom}
use Rattle.nm_graph.specs.Search.{Has, IsSearch, Finds, IsReaching}
use Rattle.nm_graph.proofs.Leading.{All-from_Contains, successors-within, reaches-on, reaches-carry}

-- at first the nodes are found from which the search starts
pub reaching-begin : (graph : Graph) (starts : List ℕ) (a b : Search) → a.nodes.items ≡ [] → length a.is_found.items ≡ length graph → IsSearch b → Finds a starts b → IsReaching graph starts 0 b
reaching-begin graph starts a b none size sound f = record {
  sound = sound;
  size = f.size ∙ size;
  begun = omega arith;
  started = f.found;
  right = All-from_Contains (ReachedFrom graph starts) b.nodes.items (λ i h. elim (f.only i h) [
    | inl old ↦ absurd (let e : length a.nodes.items ≡ 0 = rw none refl in let l : old.0 < length a.nodes.items = old.1 in omega arith)
    | inr c ↦ (i, c, inl refl)
  ]);
  closed = λ k h. absurd (omega arith);
}

-- the nodes stay where they were found
stays : (a b : Search) (more : List ℕ) (k : ℕ) → Finds a more b → k < length a.nodes.items → get_or b.nodes.items k 0 ≡ get_or a.nodes.items k 0
stays a b more k f h = sym (get_or-take (length a.nodes.items) b.nodes.items k 0 h) ∙ ap (λ (l : List ℕ). get_or l k 0) f.begins

-- then the successors of one more node are found
pub reaching-step : (graph : Graph) (starts : List ℕ) (next : ℕ) (a b : Search) → IsReaching graph starts next a → next < length a.nodes.items → IsSearch b → Finds a (successors_of graph (get_or a.nodes.items next 0)) b → IsReaching graph starts (next + 1) b
reaching-step graph starts next a b r h sound f =
    let node = get_or a.nodes.items next 0 in
    record {
      sound = sound;
      size = f.size ∙ r.size;
      begun = omega (arith, f.longer);
      started = All-weaker (Has a) (Has b) f.kept starts r.started;
      right = All-from_Contains (ReachedFrom graph starts) b.nodes.items (λ i c. elim (f.only i c) [
        | inl old ↦ All-contains (ReachedFrom graph starts) a.nodes.items i r.right old
        | inr new ↦ (let from = All-contains (ReachedFrom graph starts) a.nodes.items node r.right (Contains-get_or a.nodes.items next 0 h) in (from.0, from.1, inr (reaches-on graph from.0 node i from.2 new)))
      ]);
      closed = λ k l. elim (cases_lt k next) [
        | inl less ↦ rw (stays a b (successors_of graph node) k f (omega arith)) (All-weaker (Has a) (Has b) f.kept (successors_of graph (get_or a.nodes.items k 0)) (r.closed k less))
        | inr more ↦ (let same : k ≡ next = omega arith in rw (same, stays a b (successors_of graph node) next f h) f.found)
      ];
    }

-- there are no more nodes than the graph has
pub reaching-bound : (graph : Graph) (starts : List ℕ) (next : ℕ) (s : Search) → IsReaching graph starts next s → length s.nodes.items ≤ length graph
reaching-bound graph starts next s r = omega (arith, count_by-le-length (λ found. found) s.is_found.items, r.sound.once, r.size)

-- at last the nodes are found that are reached, and no others
pub reaching-done : (graph : Graph) (starts : List ℕ) (next : ℕ) (s : Search) → IsReaching graph starts next s → length s.nodes.items ≤ next → (node : ℕ) → (get_or s.is_found.items node false ≡ true) ↔ ReachedFrom graph starts node
reaching-done graph starts next s r done node =
    let closed : (i j : ℕ) → Has s i → Contains (successors_of graph i) j → Has s j = λ i j h c. (
    let k = r.sound.listed i h in
    let same : get_or s.nodes.items k.0 0 ≡ i = get_or_default s.nodes.items k.0 0 i k.1 ∙ k.2 in
    All-contains (Has s) (successors_of graph i) j (rw same at (r.closed k.0 (let l : k.0 < length s.nodes.items = k.1 in omega arith))) c) in (
      λ h. All-contains (ReachedFrom graph starts) s.nodes.items node r.right (r.sound.listed node h),
      λ from. reaches-carry graph (Has s) closed from.0 node from.2 (All-contains (Has s) starts from.0 r.started from.1),
    )

-- what is to be found next is within the graph
pub reaching-within : (graph : Graph) (starts : List ℕ) (next : ℕ) (s : Search) (node : ℕ) (nodes : List ℕ) → IsGraph graph → IsReaching graph starts next s → nodes ≡ successors_of graph node → All (λ node. node < length s.is_found.items) nodes
reaching-within graph starts next s node nodes g r e = rw (e, r.size) (successors-within graph g node)

pub reaching-more : (graph : Graph) (starts : List ℕ) (next : ℕ) (a b : Search) (node : ℕ) (nodes : List ℕ) → IsReaching graph starts next a → next < length a.nodes.items → node ≡ get_or a.nodes.items next node → nodes ≡ successors_of graph node → IsSearch b → Finds a nodes b → IsReaching graph starts (next + 1) b
reaching-more graph starts next a b node nodes r h read e sound f =
    let same : nodes ≡ successors_of graph (get_or a.nodes.items next 0) = e ∙ ap (successors_of graph) (get_or_read a.nodes.items next node h read 0) in
    reaching-step graph starts next a b r h sound (subst (λ (l : List ℕ). Finds a l b) same f)
