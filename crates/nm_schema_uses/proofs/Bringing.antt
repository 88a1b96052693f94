-- What rows bring.
use Rattle.std.proofs.Common.{Some, Bool, filter, ◌≡◌, ◌<◌, ◌≤◌, ◌∙◌, ℕ, zero, suc, List, [], ◌∷◌, length, map, All, Option, None, get_or, refl, sym, ap, subst}
use Rattle.std.proofs.lemmas.List.Elements.{All-head, All-tail, All-filter}
use Rattle.std.proofs.lemmas.Option.{slice_get_past}
use Rattle.std.specs.Option.{option_and_then}
use Rattle.nm_schema_statements.specs.declared.row.Row.{Row}
use Rattle.std.specs.declared.vec.Vec.{Vec}
use Rattle.std.specs.declared.alloc.Global.{Global}
use Rattle.nm_graph.specs.Graph.{Graph, IsGraph, successors_of}
use Rattle.nm_graph.specs.Value.{strict, values_at, all_there, Holds}
use Rattle.nm_schema_uses.specs.Holding.{holding, bringing, Draws, IsHolding, IsBringing}
use Rattle.nm_schema_uses.specs.Worth.{worth_within, worth_of, AreWorth}
use Rattle.nm_schema_uses.specs.Members.{bring, bring_step, brought, gathered, members}
use Rattle.nm_schema_uses.specs.Config.{is_kept, kept_of}
use Rattle.nm_schema_uses.specs.Passing.{is_plain, plain_of, brought_along, gathered_along, kept_members, plain_members, AreWithoutState, ArePlain}
use Rattle.nm_schema_uses.proofs.Worths.{are_worth}
use Rattle.nm_schema_uses.proofs.Graphs.{successors-within, successors-read, successors-past}

along-is : (rows : List Row) (groupings : List (Option ℕ)) (next : ℕ → List ℕ) (i : ℕ) → worth_of (bring_step rows groupings) next (length rows) i ≡ brought_along rows groupings next i
unfolding brought_along
along-is rows groupings next i = refl

pub brought-is : (rows : List Row) (groupings : List (Option ℕ)) (i : ℕ) → brought_along rows groupings (bringing rows groupings) i ≡ brought rows groupings i
unfolding brought brought_along
brought-is rows groupings i = refl

pub along-worth : (rows : List Row) (groupings : List (Option ℕ)) (next : ℕ → List ℕ) (graph : Graph) (values : List (Option (List ℕ))) → Draws next (length rows) graph → Holds (strict (bring_step rows groupings)) graph values
    → AreWorth (brought_along rows groupings next) (length rows) values
along-worth rows groupings next graph values drawn holds =
    let h : AreWorth (worth_of (bring_step rows groupings) next (length rows)) (length rows) values = are_worth (bring_step rows groupings) graph next (length rows) values drawn.each drawn.size holds in
    record { size = h.size; each = λ i lt. h.each i lt ∙ along-is rows groupings next i }

pub brought-worth : (rows : List Row) (groupings : List (Option ℕ)) (graph : Graph) (values : List (Option (List ℕ))) → IsBringing rows groupings graph → Holds (strict (bring_step rows groupings)) graph values
    → AreWorth (brought rows groupings) (length rows) values
brought-worth rows groupings graph values bringing-is holds =
    let h : AreWorth (brought_along rows groupings (bringing rows groupings)) (length rows) values = along-worth rows groupings (bringing rows groupings) graph values bringing-is holds in
    record { size = h.size; each = λ i lt. h.each i lt ∙ brought-is rows groupings i }

values_at-worth : {Y : Type 0} (value : ℕ → Option Y) (count : ℕ) (values : List (Option Y)) (nodes : List ℕ) → AreWorth value count values → All (λ node. node < count) nodes → values_at values nodes ≡ map value nodes
values_at-worth value count values [] h within = refl
values_at-worth value count values (node ∷ nodes) h within =
    rw (h.each node (All-head (λ (n : ℕ). n < count) node nodes within), values_at-worth value count values nodes h (All-tail (λ (n : ℕ). n < count) node nodes within)) refl

holding-rows : (rows : List Row) (groupings : List (Option ℕ)) (graph : Graph) (i : ℕ) → IsHolding rows groupings graph → IsGraph graph → All (λ node. node < length rows) (holding rows groupings i)
holding-rows rows groupings graph i leads graph-is =
    subst (λ (nodes : List ℕ). All (λ node. node < length rows) nodes) (leads.each i) (subst (λ n. All (λ node. node < n) (successors_of graph i)) leads.size (successors-within graph graph-is i))

pub members-gathered : (rows : List Row) (groupings : List (Option ℕ)) (graph : Graph) (known : List (Option (List ℕ))) (i : ℕ) → IsHolding rows groupings graph → IsGraph graph → AreWorth (brought rows groupings) (length rows) known
    → gathered (length rows) (all_there (values_at known (holding rows groupings i))) ≡ members rows groupings i
unfolding members
members-gathered rows groupings graph known i leads graph-is bring =
    ap (λ (values : List (Option (List ℕ))). gathered (length rows) (all_there values)) (values_at-worth (brought rows groupings) (length rows) known (holding rows groupings i) bring (holding-rows rows groupings graph i leads graph-is))

-- those that pass a test, of what a row leads to, are known, and bring what is gathered
pub picked-gathered : (rows : List Row) (groupings : List (Option ℕ)) (test : ℕ → Bool) (next : ℕ → List ℕ) (graph : Graph) (known : List (Option (List ℕ))) (i : ℕ) → IsHolding rows groupings graph → IsGraph graph
    → AreWorth (brought_along rows groupings next) (length rows) known → gathered (length rows) (all_there (values_at known (filter test (holding rows groupings i)))) ≡ gathered_along rows groupings next (filter test (holding rows groupings i))
picked-gathered rows groupings test next graph known i leads graph-is bring =
    ap (λ (values : List (Option (List ℕ))). gathered (length rows) (all_there values)) (values_at-worth (brought_along rows groupings next) (length rows) known (filter test (holding rows groupings i)) bring
    (All-filter test (λ node. node < length rows) (holding rows groupings i) (holding-rows rows groupings graph i leads graph-is)))

pub picked-known : (rows : List Row) (groupings : List (Option ℕ)) (test : ℕ → Bool) (next : ℕ → List ℕ) (graph : Graph) (known : List (Option (List ℕ))) (i : ℕ) → IsHolding rows groupings graph → IsGraph graph
    → AreWorth (brought_along rows groupings next) (length rows) known → All (λ node. node < length known) (filter test (holding rows groupings i))
picked-known rows groupings test next graph known i leads graph-is bring =
    subst (λ n. All (λ node. node < n) (filter test (holding rows groupings i))) (sym bring.size) (All-filter test (λ node. node < length rows) (holding rows groupings i) (holding-rows rows groupings graph i leads graph-is))

pub kept-gathered : (rows : List Row) (groupings : List (Option ℕ)) (graph : Graph) (known : List (Option (List ℕ))) (i : ℕ) → IsHolding rows groupings graph → IsGraph graph → AreWithoutState rows groupings known
    → gathered (length rows) (all_there (values_at known (filter (is_kept rows) (holding rows groupings i)))) ≡ kept_members rows groupings i
unfolding kept_members kept_of
kept-gathered rows groupings graph known i leads graph-is h = picked-gathered rows groupings (is_kept rows) (kept_of (bringing rows groupings) rows) graph known i leads graph-is h

pub plain-gathered : (rows : List Row) (groupings : List (Option ℕ)) (graph : Graph) (known : List (Option (List ℕ))) (i : ℕ) → IsHolding rows groupings graph → IsGraph graph → ArePlain rows groupings known
    → gathered (length rows) (all_there (values_at known (filter (is_plain rows) (holding rows groupings i)))) ≡ plain_members rows groupings i
unfolding plain_members plain_of
plain-gathered rows groupings graph known i leads graph-is h = picked-gathered rows groupings (is_plain rows) (plain_of (bringing rows groupings) rows) graph known i leads graph-is h

pub gathered-as : (limit count : ℕ) (values known : List (Option (List ℕ))) (nodes those : List ℕ) (all : Option (List ℕ)) → limit ≡ count → values ≡ known → nodes ≡ those → gathered count (all_there (values_at known those)) ≡ all
    → gathered limit (all_there (values_at values nodes)) ≡ all
gathered-as limit count values known nodes those all l v n h = rw (l, v, n) h

bring_step-past : (rows : List Row) (groupings : List (Option ℕ)) (i : ℕ) (known : Option (List (List ℕ))) → length rows ≤ i → option_and_then (bring_step rows groupings i) known ≡ None
unfolding bring_step
bring_step-past rows groupings i None le = refl
bring_step-past rows groupings i (Some known) le = rw (slice_get_past rows i le) refl

within-past : (rows : List Row) (groupings : List (Option ℕ)) (steps i : ℕ) → length rows ≤ i → worth_within (strict (bring_step rows groupings)) (bringing rows groupings) steps i ≡ None
within-past rows groupings zero i le = refl
within-past rows groupings (suc steps) i le = bring_step-past rows groupings i (all_there (map (worth_within (strict (bring_step rows groupings)) (bringing rows groupings) steps) (bringing rows groupings i))) le

pub brought-past : (rows : List Row) (groupings : List (Option ℕ)) (i : ℕ) → length rows ≤ i → brought rows groupings i ≡ None
unfolding brought worth_of
brought-past rows groupings i le = within-past rows groupings (length rows) i le

pub holding-read : (rows : List Row) (groupings : List (Option ℕ)) (graph : Graph) (i : ℕ) (row : Vec ℕ Global) → IsHolding rows groupings graph → i < length graph → row ≡ get_or graph i row → row.items ≡ holding rows groupings i
holding-read rows groupings graph i row h lt at = successors-read graph i row lt at ∙ h.each i

pub holding-none : (rows : List Row) (groupings : List (Option ℕ)) (graph : Graph) (i : ℕ) → IsHolding rows groupings graph → length graph ≤ i → [] ≡ holding rows groupings i
holding-none rows groupings graph i h le = sym (successors-past graph i le) ∙ h.each i

pub all-known : (rows : List Row) (groupings : List (Option ℕ)) (graph : Graph) (known : List (Option (List ℕ))) (i : ℕ) → IsHolding rows groupings graph → IsGraph graph → AreWorth (brought rows groupings) (length rows) known → All (λ node. node < length known) (holding rows groupings i)
all-known rows groupings graph known i leads graph-is bring = subst (λ n. All (λ node. node < n) (holding rows groupings i)) (sym bring.size) (holding-rows rows groupings graph i leads graph-is)
