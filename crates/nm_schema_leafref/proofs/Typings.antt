-- The types of nodes.
use Rattle.std.proofs.Common.{◌≡◌, ◌<◌, ◌≤◌, ◌∙◌, ◌⊎◌, inl, inr, ℕ, zero, suc, List, [], ◌∷◌, length, Option, Some, None, slice_index_or, slice_set, refl, sym, ap, subst, arith}
use Rattle.std.proofs.lemmas.Bool.{cases_lt, cases_eq}
use Rattle.std.proofs.lemmas.List.{get_or-set_same, get_or-set_other}
use mathlib.Core.Path.{fun_ext}
use Rattle.nm_graph.specs.Graph.{Graph}
use Rattle.nm_graph.specs.Value.{strict, Holds}
use Rattle.nm_types.specs.LeafType.{TypeOfLeaf}
use Rattle.nm_schema_uses.specs.Holding.{Draws}
use Rattle.nm_schema_uses.specs.Worth.{worth_within, worth_of, AreWorth}
use Rattle.nm_schema_uses.proofs.Worths.{are_worth}
use Rattle.nm_schema_typing.specs.Flaws.{AreMeanings}
use Rattle.nm_schema_typing.specs.Meaning.{Meaning}
use Rattle.nm_schema_nodes.specs.Expansion.{Expanded, row_of}
use Rattle.nm_schema_leafref.specs.Target.{plain_in, plain_type, plain_at, type_step, type_of_node, targets}
use Rattle.nm_schema_leafref.specs.Known.{known_step, own_in, AreOwnTypes}
use Rattle.nm_schema_leafref.proofs.Lists.{past}
use Rattle.nm_schema_leafref.proofs.Places.{row-past}
use Rattle.nm_schema_leafref.proofs.Targets.{targets-past}

-- the own types of nodes
unfoldable pub own_type : List (Option ℕ) → Expanded → ℕ → Option TypeOfLeaf
own_type typedefs t x = plain_at t.rows typedefs (row_of t.nodes x)

pub own_type-past : (typedefs : List (Option ℕ)) (t : Expanded) (x : ℕ) → length t.nodes ≤ x → own_type typedefs t x ≡ None
unfolding own_type
own_type-past typedefs t x le = rw (row-past t.nodes x le) refl

step_same : (typedefs : List (Option ℕ)) (t : Expanded) (plain : List (Option TypeOfLeaf)) → ((x : ℕ) → slice_index_or plain x None ≡ own_type typedefs t x) → (x : ℕ) (known : List TypeOfLeaf) → known_step plain x known ≡ type_step typedefs t x known
unfolding own_type
step_same typedefs t plain h x [] = h x
step_same typedefs t plain h x (k ∷ others) = refl

pub holds-types : (typedefs : List (Option ℕ)) (t : Expanded) (plain : List (Option TypeOfLeaf)) (graph : Graph) (values : List (Option TypeOfLeaf)) → ((x : ℕ) → slice_index_or plain x None ≡ own_type typedefs t x)
    → Holds (strict (known_step plain)) graph values → Holds (strict (type_step typedefs t)) graph values
holds-types typedefs t plain graph values h holds =
    let same : known_step plain ≡ type_step typedefs t = fun_ext (λ x. fun_ext (step_same typedefs t plain h x)) in
    subst (λ (step : ℕ → List TypeOfLeaf → Option TypeOfLeaf). Holds (strict step) graph values) same holds

within-past : (typedefs : List (Option ℕ)) (t : Expanded) (steps x : ℕ) → length t.nodes ≤ x → worth_within (strict (type_step typedefs t)) (targets typedefs t) steps x ≡ None
within-past typedefs t zero x le = refl
within-past typedefs t (suc steps) x le = rw (targets-past typedefs t x le, row-past t.nodes x le) refl

type-past : (typedefs : List (Option ℕ)) (t : Expanded) (x : ℕ) → length t.nodes ≤ x → type_of_node typedefs t x ≡ None
unfolding type_of_node worth_of
type-past typedefs t x le = within-past typedefs t (length t.nodes) x le

type-is : (typedefs : List (Option ℕ)) (t : Expanded) (x : ℕ) → worth_of (type_step typedefs t) (targets typedefs t) (length t.nodes) x ≡ type_of_node typedefs t x
unfolding type_of_node
type-is typedefs t x = refl

each-type : (typedefs : List (Option ℕ)) (t : Expanded) (values : List (Option TypeOfLeaf)) → AreWorth (worth_of (type_step typedefs t) (targets typedefs t) (length t.nodes)) (length t.nodes) values → (x : ℕ) → (x < length t.nodes) ⊎ (length t.nodes ≤ x)
    → slice_index_or values x None ≡ type_of_node typedefs t x
each-type typedefs t values h x (inl lt) = h.each x lt ∙ type-is typedefs t x
each-type typedefs t values h x (inr le) = past values x None (omega (arith, h.size)) ∙ sym (type-past typedefs t x le)

pub types-are : (typedefs : List (Option ℕ)) (t : Expanded) (graph : Graph) (values : List (Option TypeOfLeaf)) → Draws (targets typedefs t) (length t.nodes) graph → Holds (strict (type_step typedefs t)) graph values
    → (x : ℕ) → slice_index_or values x None ≡ type_of_node typedefs t x
types-are typedefs t graph values d holds x =
    each-type typedefs t values (are_worth (type_step typedefs t) graph (targets typedefs t) (length t.nodes) values d.each d.size holds) x (cases_lt x (length t.nodes))

pub own-type-is : (typedefs : List (Option ℕ)) (t : Expanded) (meanings : List (Option Meaning)) (x : ℕ) (row : Option ℕ) (found : Option TypeOfLeaf) → AreMeanings t.rows typedefs meanings → row ≡ row_of t.nodes x → found ≡ own_in meanings row → found ≡ own_type typedefs t x
unfolding own_type plain_type
own-type-is typedefs t meanings x None found h r e = e ∙ rw (sym r) refl
own-type-is typedefs t meanings x (Some i) found h r e = e ∙ ap plain_in (h i) ∙ rw (sym r) refl

kept_same : (meanings : List (Option Meaning)) (kept : List (Option TypeOfLeaf)) (at i : ℕ) (found : Option TypeOfLeaf) (a : TypeOfLeaf) → found ≡ plain_in (slice_index_or meanings at None) → at < length kept → i ≡ at → slice_index_or (slice_set kept at found) i None ≡ Some a → plain_in (slice_index_or meanings i None) ≡ Some a
kept_same meanings kept at i found a is lt e h =
    let new : slice_index_or (slice_set kept at found) at None ≡ found = get_or-set_same kept at found None lt in
    let here : slice_index_or (slice_set kept at found) at None ≡ Some a = subst (λ k. slice_index_or (slice_set kept at found) k None ≡ Some a) e h in
    subst (λ k. plain_in (slice_index_or meanings k None) ≡ Some a) (sym e) (sym is ∙ sym new ∙ here)

kept_or : (meanings : List (Option Meaning)) (kept : List (Option TypeOfLeaf)) (at : ℕ) (found : Option TypeOfLeaf) → AreOwnTypes meanings kept → found ≡ plain_in (slice_index_or meanings at None) → at < length kept → (i : ℕ) (a : TypeOfLeaf) → slice_index_or (slice_set kept at found) i None ≡ Some a → (i ≡ at) ⊎ (i ≡ at → ⊥)
    → plain_in (slice_index_or meanings i None) ≡ Some a
kept_or meanings kept at found h is lt i a e (inl same) = kept_same meanings kept at i found a is lt same e
kept_or meanings kept at found h is lt i a e (inr differ) = h i a (sym (get_or-set_other kept at i found None differ) ∙ e)

-- one more is kept
pub kept-more : (meanings : List (Option Meaning)) (kept : List (Option TypeOfLeaf)) (at : ℕ) (found : Option TypeOfLeaf) → AreOwnTypes meanings kept → found ≡ plain_in (slice_index_or meanings at None) → at < length kept → AreOwnTypes meanings (slice_set kept at found)
kept-more meanings kept at found h is lt = λ i a e. kept_or meanings kept at found h is lt i a e (cases_eq i at)
