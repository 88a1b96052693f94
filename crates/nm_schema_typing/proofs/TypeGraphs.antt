-- Type graphs lead from rows to rows.
use Rattle.std.proofs.Common.{◌≡◌, ℕ, zero, suc, ◌<◌, List, [], ◌∷◌, ◌++◌, length, get_or, ap, sym, ◌∙◌, refl, subst, arith, All, Option, Some, None, Bool, true, false, slice_get, slice_index_or, if◌then◌else◌}
use Rattle.std.specs.declared.vec.Vec.{Vec}
use Rattle.std.specs.declared.alloc.Global.{Global}
use Rattle.nm_graph.specs.Graph.{Graph, IsGraph, successors_of}
use Rattle.nm_schema_statements.specs.declared.row.Row.{Row}
use Rattle.nm_schema_statements.specs.declared.word.Word.{Word}
use Rattle.nm_schema_statements.specs.declared.word.Word.TheVariants as word
use Rattle.nm_schema_statements.specs.Rows.{has_word, first_with, first_below, children}
use Rattle.nm_schema_typing.specs.TypeGraph.{typedef_at, named_typedef, at_most_one, type_below, leads_from, leads, is_typed, is_type, IsTypeGraph}

-- with one more row a graph leads where each row of it does
pub grows : (graph : Graph) (row : Vec ℕ Global) (f : ℕ → List ℕ) → ((i : ℕ) → i < length graph → successors_of graph i ≡ f i) → row.items ≡ f (length graph) → (i : ℕ) → i < length (graph ++ row ∷ []) → successors_of (graph ++ row ∷ []) i ≡ f i
unfolding successors_of
grows [] row f h e zero lt = e
grows [] row f h e (suc i) lt = absurd (omega (arith, lt))
grows (r ∷ rs) row f h e zero lt = h 0 (omega arith)
grows (r ∷ rs) row f h e (suc i) lt = grows rs row (λ k. f (suc k)) (λ k l. h (suc k) (omega (arith, l))) e i (omega (arith, lt))

-- the row of a graph that is read at a node
row_read : (graph : Graph) (k : ℕ) (d : Vec ℕ Global) → k < length graph → successors_of graph k ≡ (get_or graph k d).items
unfolding successors_of
row_read [] k d lt = absurd (omega (arith, lt))
row_read (r ∷ rs) zero d lt = refl
row_read (r ∷ rs) (suc k) d lt = row_read rs k d (omega (arith, lt))

-- a row that has a word is there
word_within : (rows : List Row) (n : ℕ) (wanted : Word) → has_word wanted (slice_get rows n) ≡ true → n < length rows
word_within [] n wanted e = absurd (grind (arith, e))
word_within (r ∷ rows) zero wanted e = omega arith
word_within (r ∷ rows) (suc n) wanted e = omega (arith, word_within rows n wanted e)

abbrev Within : List Row → List ℕ → Type 0
Within rows ns = All (λ n. n < length rows) ns

none_within : (rows : List Row) → Within rows []
none_within rows = λ k d lt. absurd (omega (arith, lt))

one_within : (rows : List Row) (n : ℕ) → n < length rows → Within rows (n ∷ [])
one_within rows n lt zero d h = lt
one_within rows n lt (suc k) d h = absurd (omega (arith, h))

typedef_within : (rows : List Row) (n : Option ℕ) → Within rows (typedef_at rows n)
typedef_within rows None = none_within rows
typedef_within rows (Some n) = go (has_word word.Typedef (slice_get rows n)) refl
  where
    go : (b : Bool) → has_word word.Typedef (slice_get rows n) ≡ b → Within rows (if b then n ∷ [] else [])
    go true e = one_within rows n (word_within rows n word.Typedef e)
    go false e = none_within rows

chosen_within : (rows : List Row) (wanted : Word) (n : ℕ) (others : Option ℕ) → Within rows (at_most_one others) → (b : Bool) → has_word wanted (slice_get rows n) ≡ b → Within rows (at_most_one (if b then Some n else others))
chosen_within rows wanted n others all true e = one_within rows n (word_within rows n wanted e)
chosen_within rows wanted n others all false e = all

first_within : (rows : List Row) (wanted : Word) (ns : List ℕ) → Within rows (at_most_one (first_with rows wanted ns))
first_within rows wanted [] = none_within rows
first_within rows wanted (n ∷ ns) = chosen_within rows wanted n (first_with rows wanted ns) (first_within rows wanted ns) (has_word wanted (slice_get rows n)) refl

leads_within : (rows : List Row) (typedefs : List (Option ℕ)) (i : ℕ) → Within rows (leads rows typedefs i)
unfolding leads type_below named_typedef
leads_within rows typedefs i = from (slice_get rows i)
  where
    typed : (b : Bool) (c : Bool) → Within rows (if b then at_most_one (first_below rows i word.«Type») else (if c then typedef_at rows (slice_index_or typedefs i None) else []))
    typed true c = first_within rows word.«Type» (children rows i)
    typed false true = typedef_within rows (slice_index_or typedefs i None)
    typed false false = none_within rows

    from : (r : Option Row) → Within rows (leads_from rows typedefs i r)
    from None = none_within rows
    from (Some r) = typed (is_typed r.word) (is_type r.word)

-- it is a graph
pub is_graph : (rows : List Row) (typedefs : List (Option ℕ)) (graph : Graph) → IsTypeGraph rows typedefs graph → IsGraph graph
is_graph rows typedefs graph t = λ k d lt. subst (λ (ns : List ℕ). All (λ n. n < length graph) ns) (sym (t.each k lt) ∙ row_read graph k d lt) (rw t.size (leads_within rows typedefs k))
