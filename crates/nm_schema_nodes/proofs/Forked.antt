-- What rows bring is what their graph gives them.
use Rattle.std.proofs.Common.{◌≡◌, ◌==◌, ◌<◌, ◌∙◌, ℕ, List, [], ◌∷◌, length, map, All, Option, Some, None, not, is_some, filter, option_to_list, slice_get, refl, ap}
use Rattle.std.proofs.lemmas.List.Elements.{All-head, All-tail}
use Rattle.nm_schema_statements.specs.declared.row.Row.{Row}
use Rattle.nm_schema_statements.specs.declared.word.Word.TheVariants as word
use Rattle.nm_graph.specs.Graph.{Graph}
use Rattle.nm_graph.specs.Value.{strict, values_at, Holds}
use Rattle.nm_schema_uses.specs.Holding.{holding, bringing, grouping_at, Draws, AreLeading}
use Rattle.nm_schema_uses.specs.Config.{is_kept, kept_of, configuring}
use Rattle.nm_schema_uses.specs.Members.{is_astray}
use Rattle.nm_schema_uses.specs.Worth.{worth_of, AreWorth}
use Rattle.nm_schema_uses.proofs.Worths.{are_worth}
use Rattle.nm_schema_nodes.specs.Forks.{Forking}
use Rattle.nm_schema_nodes.specs.Choices.{fork_step, forked, joined_all, forks_of, AreForked}
use Rattle.nm_schema_nodes.proofs.Leading.{configuring-leading}

lone : (g : Option ℕ) → (length (option_to_list g) == 0) ≡ not (is_some g)
lone None = refl
lone (Some k) = refl

-- a uses leads to nothing where its grouping isn't there
pub uses-astray : (rows : List Row) (groupings : List (Option ℕ)) (i : ℕ) (r : Row) (nodes : List ℕ) → slice_get rows i ≡ Some r → r.word ≡ word.Uses → nodes ≡ holding rows groupings i → (length nodes == 0) ≡ is_astray groupings i r
unfolding holding
uses-astray rows groupings i r nodes at is e = rw (e, at, is) (lone (grouping_at groupings i))

forked-is : (rows : List Row) (groupings : List (Option ℕ)) (i : ℕ) → worth_of (fork_step rows groupings) (kept_of (bringing rows groupings) rows) (length rows) i ≡ forked rows groupings i
unfolding forked
forked-is rows groupings i = refl

pub are-forked : (rows : List Row) (groupings : List (Option ℕ)) (graph : Graph) (values : List (Option Forking)) → Draws (kept_of (bringing rows groupings) rows) (length rows) graph → Holds (strict (fork_step rows groupings)) graph values
    → AreForked rows groupings values
are-forked rows groupings graph values kept holds =
    let h : AreWorth (worth_of (fork_step rows groupings) (kept_of (bringing rows groupings) rows) (length rows)) (length rows) values = are_worth (fork_step rows groupings) graph (kept_of (bringing rows groupings) rows) (length rows) values kept.each kept.size holds in
    record { worth = record { size = h.size; each = λ i lt. h.each i lt ∙ forked-is rows groupings i } }

values_at-worth : {Y : Type 0} (value : ℕ → Option Y) (count : ℕ) (values : List (Option Y)) (nodes : List ℕ) → AreWorth value count values → All (λ node. node < count) nodes → values_at values nodes ≡ map value nodes
values_at-worth value count values [] h within = refl
values_at-worth value count values (node ∷ nodes) h within =
    rw (h.each node (All-head (λ (n : ℕ). n < count) node nodes within), values_at-worth value count values nodes h (All-tail (λ (n : ℕ). n < count) node nodes within)) refl

pub configuring-is : (rows : List Row) (groupings : List (Option ℕ)) (i : ℕ) (nodes : List ℕ) → nodes ≡ holding rows groupings i → filter (is_kept rows) nodes ≡ configuring rows groupings i
unfolding kept_of
configuring-is rows groupings i nodes e = ap (λ (l : List ℕ). filter (is_kept rows) l) e

pub forks-known : (rows : List Row) (groupings : List (Option ℕ)) (values : List (Option Forking)) (i : ℕ) → AreLeading rows groupings → AreForked rows groupings values → joined_all (length rows) (values_at values (configuring rows groupings i)) ≡ forks_of rows groupings i
unfolding forks_of
forks-known rows groupings values i leading are =
    ap (λ (known : List (Option Forking)). joined_all (length rows) known) (values_at-worth (forked rows groupings) (length rows) values (configuring rows groupings i) are.worth (configuring-leading rows groupings leading i))
