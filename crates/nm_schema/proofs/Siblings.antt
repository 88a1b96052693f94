-- The nodes that stand in one row have names of their own, those in its choices and cases too (RFC 7950 sections 6.2.1, 7.9 and 7.13).
use Rattle.std.proofs.Common.{◌≡◌, ◌∙◌, ◌⊎◌, inl, inr, ℕ, zero, suc, List, [], ◌∷◌, length, map, filter, Bool, true, false, cond, Option, Some, None, slice_get, refl, sym, ap, subst, arith}
use Rattle.std.specs.Prelude.{Contains, option_to_list, unwrap_or, nat_le}
use Rattle.std.specs.List.{concat}
use Rattle.std.proofs.lemmas.Option.{same_Some}
use Rattle.nm_schema_statements.specs.declared.row.Row.{Row}
use Rattle.nm_schema_statements.specs.declared.word.Word.{Word}
use Rattle.nm_schema_statements.specs.declared.word.Word.TheVariants as word
use Rattle.nm_schema_statements.specs.Flaw.{is_data}
use Rattle.nm_schema_statements.specs.Rows.{children}
use Rattle.nm_graph.specs.Value.{strict, all_there}
use Rattle.nm_types.specs.Spells.{IsOnce}
use Rattle.nm_schema_uses.specs.Arguments.{argument_at}
use Rattle.nm_schema_uses.specs.Holding.{is_holder, is_part_at, is_fork, is_fork_row, is_fork_at, is_node, is_uses, grouping_at, led_to, holding, is_data_row, is_data_at, bringing}
use Rattle.nm_schema_uses.specs.Config.{is_kept, kept_of, configuring}
use Rattle.nm_schema_uses.specs.Worth.{worth_within, worth_of}
use Rattle.nm_schema_uses.specs.Members.{gathered, is_astray, bring, bring_step, brought, members}
use Rattle.nm_schema_uses.specs.Passing.{is_plain, plain_of, brought_along, kept_members, plain_members}
use Rattle.nm_schema_names.specs.Clash.{around, holder_of}
use Rattle.nm_schema_nodes.specs.Expansion.{kept_below}
use Rattle.nm_schema_nodes.proofs.Unfolding.{unfold_one}
use Rattle.nm_schema.proofs.Elements.{nothing, first_or_later, of_filter}
use Rattle.nm_schema.proofs.Holders.{Ascend, ascend_filter, ascend_those, stands_in, held_inner, held_directly, held, fork_part, Under, under_up, under_one, itself}
use Rattle.nm_schema.proofs.Claims.{AreOrderly, IsClaimer, part_claimer, AreSeparate, separate, of_concat, concat_once, few, of_option, Claims, claims_up, claims_own, rests_on_held, rests_on_used, one_claims, uses_word}

-- ---- what rows bring

-- row i brings row n: a node of data itself, and other rows what those bring that they lead to, through whichever of these
pub data Brings (rows : List Row) (groupings : List (Option ℕ)) : ℕ → ℕ → Type 0 where
  alone : {i : ℕ} → is_data_at rows i ≡ true → Brings rows groupings i i
  through : {i n : ℕ} (k : ℕ) → Contains (bringing rows groupings i) k → Brings rows groupings k n → Brings rows groupings i n

-- node n stands in row i, or in what row i leads to
pub record Stands (rows : List Row) (groupings : List (Option ℕ)) (i n : ℕ) : Type 0 where
  pub part : ℕ
  pub among : Contains (holding rows groupings i) part
  pub brings : Brings rows groupings part n

-- why row i leads to row k
pub data IsStep (rows : List Row) (groupings : List (Option ℕ)) (i k : ℕ) : Type 0 where
  inside : (r : Row) → slice_get rows i ≡ Some r → is_holder r.word ≡ true → is_part_at rows k ≡ true → around rows k ≡ Some i → IsStep rows groupings i k
  used : (r : Row) → slice_get rows i ≡ Some r → is_uses r.word ≡ true → grouping_at groupings i ≡ Some k → IsStep rows groupings i k

uses_holder : (w : Word) → is_uses w ≡ true → is_holder w ≡ true → ⊥
uses_holder word.Uses e f = absurd (cc)
uses_holder _ e f = absurd (cc)

uses_fork : (w : Word) → is_uses w ≡ true → is_fork w ≡ true → ⊥
uses_fork word.Uses e f = absurd (cc)
uses_fork _ e f = absurd (cc)

data_fork : (w : Word) → is_data w ≡ true → is_fork w ≡ true → ⊥
data_fork word.Choice e f = absurd (cc)
data_fork word.Case e f = absurd (cc)
data_fork _ e f = absurd (cc)

data_node : (w : Word) → is_data w ≡ true → is_node w ≡ true
data_node word.Choice e = refl
data_node _ e = e

no_node : (w : Word) → is_fork w ≡ false → is_data w ≡ false → is_node w ≡ false
no_node word.Choice f d = absurd (cc)
no_node _ f d = d

no_uses : (w : Word) → is_holder w ≡ true → is_uses w ≡ false
no_uses word.Uses e = absurd (cc)
no_uses _ e = refl

-- what is gathered is all
pub gathers : (limit : ℕ) (o : Option (List (List ℕ))) (all : List ℕ) → gathered limit o ≡ Some all → (known : List (List ℕ)) × (o ≡ Some known) × (all ≡ concat known)
gathers limit None all e = absurd (cc)
gathers limit (Some known) all e = (known, refl, few limit (concat known) all (nat_le (length (concat known)) limit) e)

module _ (rows : List Row) (groupings : List (Option ℕ)) where
  led_step : (i k : ℕ) (o : Option Row) → slice_get rows i ≡ o → Contains (led_to rows groupings i o) k → IsStep rows groupings i k
  led_step i k None is c = absurd (nothing k c)
  led_step i k (Some r) is c = by (is_holder r.word) (is_uses r.word) refl refl c
    where
      by : (h u : Bool) → is_holder r.word ≡ h → is_uses r.word ≡ u → Contains (cond h (filter (is_part_at rows) (children rows i)) (cond u (option_to_list (grouping_at groupings i)) [])) k → IsStep rows groupings i k
      by true u holder uses d = let f = of_filter (is_part_at rows) (children rows i) k d in inside r is holder f.1 (stands_in rows i k f.0)
      by false true holder uses d = used r is uses (of_option (grouping_at groupings i) k d)
      by false false holder uses d = absurd (nothing k d)

  pub step_of : (i k : ℕ) → Contains (holding rows groupings i) k → IsStep rows groupings i k
  unfolding holding
  step_of i k c = led_step i k (slice_get rows i) refl c

  pub holding_ascends : (i : ℕ) → Ascend 0 (holding rows groupings i)
  unfolding holding
  holding_ascends i = by_row (slice_get rows i)
    where
      one : (o : Option ℕ) → Ascend 0 (option_to_list o)
      one None = tt
      one (Some g) = (omega arith, tt)

      by : (h u : Bool) → Ascend 0 (cond h (filter (is_part_at rows) (children rows i)) (cond u (option_to_list (grouping_at groupings i)) []))
      by true u = ascend_filter (is_part_at rows) 0 (children rows i) (ascend_those 0 (Some i) rows)
      by false true = one (grouping_at groupings i)
      by false false = tt

      by_row : (o : Option Row) → Ascend 0 (led_to rows groupings i o)
      by_row None = tt
      by_row (Some r) = by (is_holder r.word) (is_uses r.word)

  pub of_bringing : (i k : ℕ) → Contains (bringing rows groupings i) k → (is_data_at rows i ≡ false) × Contains (holding rows groupings i) k
  unfolding bringing
  of_bringing i k c = by (is_data_at rows i) refl c
    where
      by : (b : Bool) → is_data_at rows i ≡ b → Contains (cond b [] (holding rows groupings i)) k → (is_data_at rows i ≡ false) × Contains (holding rows groupings i) k
      by true is d = absurd (nothing k d)
      by false is d = (is, d)

  pub bringing_ascends : (i : ℕ) → Ascend 0 (bringing rows groupings i)
  unfolding bringing
  bringing_ascends i = by (is_data_at rows i)
    where
      by : (b : Bool) → Ascend 0 (cond b [] (holding rows groupings i))
      by true = tt
      by false = holding_ascends i

  -- ---- values along some of what rows lead to

  -- these are some of the rows that row i leads to, in order
  pub record AreSome (ks these : List ℕ) : Type 0 where
    pub order : Ascend 0 ks
    pub among : (k : ℕ) → Contains ks k → Contains these k

  some_kept : (p : ℕ → Bool) (these : List ℕ) → Ascend 0 these → AreSome (filter p these) these
  some_kept p these order = record { order = ascend_filter p 0 these order; among = λ k c. (of_filter p these k c).0 }

  pub all_some : (these : List ℕ) → Ascend 0 these → AreSome these these
  all_some these order = record { order = order; among = λ k c. c }

  data_in : (i : ℕ) (r : Row) → slice_get rows i ≡ Some r → is_data r.word ≡ true → is_data_at rows i ≡ true
  data_in i r is d = ap is_data_row is ∙ d

  -- what a step makes of what some rows bring
  made_of : (i : ℕ) (known : List (List ℕ)) (nodes : List ℕ) (o : Option Row) → slice_get rows i ≡ o → bring rows groupings i o known ≡ Some nodes → ((is_data_at rows i ≡ true) × (nodes ≡ i ∷ [])) ⊎ (nodes ≡ concat known)
  made_of i known nodes None is e = absurd (cc)
  made_of i known nodes (Some r) is e = by (is_data r.word) (is_astray groupings i r) refl e
    where
      by : (d a : Bool) → is_data r.word ≡ d → cond d (Some (i ∷ [])) (cond a None (gathered (length rows) (Some known))) ≡ Some nodes → ((is_data_at rows i ≡ true) × (nodes ≡ i ∷ [])) ⊎ (nodes ≡ concat known)
      by true a d f = inl (data_in i r is d, sym (same_Some (i ∷ []) nodes f))
      by false true d f = absurd (cc)
      by false false d f = inr (few (length rows) (concat known) nodes (nat_le (length (concat known)) (length rows)) f)

  pub made_by : (i : ℕ) (known : List (List ℕ)) (nodes : List ℕ) → bring_step rows groupings i known ≡ Some nodes → ((is_data_at rows i ≡ true) × (nodes ≡ i ∷ [])) ⊎ (nodes ≡ concat known)
  unfolding bring_step
  made_by i known nodes e = made_of i known nodes (slice_get rows i) refl e

  module _ (next : ℕ → List ℕ) (along : (i : ℕ) → AreSome (next i) (bringing rows groupings i)) where
    abbrev pub value : ℕ → ℕ → Option (List ℕ)
    value steps i = worth_within (strict (bring_step rows groupings)) next steps i

    pub value_brings : (steps i : ℕ) (nodes : List ℕ) (n : ℕ) → value steps i ≡ Some nodes → Contains nodes n → Brings rows groupings i n
    value_brings zero i nodes n e c = absurd (cc)
    value_brings (suc steps) i nodes n e c =
        let u = unfold_one (bring_step rows groupings) next steps i nodes e in
        elim (made_by i u.known nodes u.made) [
          | inl m ↦ elim (first_or_later i n [] (subst (λ (l : List ℕ). Contains l n) m.1 c)) [
            | inl same ↦ subst (λ (x : ℕ). Brings rows groupings i x) same (alone m.0)
            | inr d ↦ absurd (nothing n d)
          ]
          | inr all ↦
              let r = of_concat (value steps) (next i) u.known n u.there (subst (λ (l : List ℕ). Contains l n) all c) in
              through r.row ((along i).among r.row r.among) (value_brings steps r.row r.nodes n r.known r.there)
        ]

  abbrev pub BringBy : (ℕ → Option (List ℕ)) → Type 0
  BringBy f = (k : ℕ) (nodes : List ℕ) (n : ℕ) → f k ≡ Some nodes → Contains nodes n → Brings rows groupings k n

  gathered_stand : (f : ℕ → Option (List ℕ)) → BringBy f → (i : ℕ) (ks : List ℕ) → AreSome ks (holding rows groupings i) → (nodes : List ℕ) → gathered (length rows) (all_there (map f ks)) ≡ Some nodes → (n : ℕ) → Contains nodes n → Stands rows groupings i n
  gathered_stand f brings i ks are nodes e n c =
      let g = gathers (length rows) (all_there (map f ks)) nodes e in
      let r = of_concat f ks g.0 n g.1 (subst (λ (l : List ℕ). Contains l n) g.2 c) in
      record { part = r.row; among = are.among r.row r.among; brings = brings r.row r.nodes n r.known r.there }

  pub brought_brings : BringBy (brought rows groupings)
  unfolding brought worth_of
  brought_brings k nodes n e c = value_brings (bringing rows groupings) (λ i. all_some (bringing rows groupings i) (bringing_ascends i)) (length rows) k nodes n e c

  pub along_brings : (next : ℕ → List ℕ) → ((i : ℕ) → AreSome (next i) (bringing rows groupings i)) → BringBy (brought_along rows groupings next)
  unfolding brought_along worth_of
  along_brings next along k nodes n e c = value_brings next along (length rows) k nodes n e c

  pub kept_along : (i : ℕ) → AreSome (kept_of (bringing rows groupings) rows i) (bringing rows groupings i)
  unfolding kept_of
  kept_along i = some_kept (is_kept rows) (bringing rows groupings i) (bringing_ascends i)

  pub plain_along : (i : ℕ) → AreSome (plain_of (bringing rows groupings) rows i) (bringing rows groupings i)
  unfolding plain_of
  plain_along i = some_kept (is_plain rows) (bringing rows groupings i) (bringing_ascends i)

  pub kept_parts : (i : ℕ) → AreSome (configuring rows groupings i) (holding rows groupings i)
  unfolding kept_of
  kept_parts i = some_kept (is_kept rows) (holding rows groupings i) (holding_ascends i)

  pub plain_parts : (i : ℕ) → AreSome (plain_of (holding rows groupings) rows i) (holding rows groupings i)
  unfolding plain_of
  plain_parts i = some_kept (is_plain rows) (holding rows groupings i) (holding_ascends i)

  -- the members of a row stand in it
  pub member_stands : (i : ℕ) (nodes : List ℕ) → members rows groupings i ≡ Some nodes → (n : ℕ) → Contains nodes n → Stands rows groupings i n
  unfolding members
  member_stands i nodes e n c = gathered_stand (brought rows groupings) brought_brings i (holding rows groupings i) (all_some (holding rows groupings i) (holding_ascends i)) nodes e n c

  -- and so do those that stand in no choice
  pub plain_stands : (i : ℕ) (nodes : List ℕ) → plain_members rows groupings i ≡ Some nodes → (n : ℕ) → Contains nodes n → Stands rows groupings i n
  unfolding plain_members
  plain_stands i nodes e n c =
      gathered_stand (brought_along rows groupings (plain_of (bringing rows groupings) rows)) (along_brings (plain_of (bringing rows groupings) rows) plain_along) i (plain_of (holding rows groupings) rows i) (plain_parts i) nodes e n c

  kept_stand : (i : ℕ) (nodes : List ℕ) → kept_members rows groupings i ≡ Some nodes → (n : ℕ) → Contains nodes n → Stands rows groupings i n
  unfolding kept_members
  kept_stand i nodes e n c =
      gathered_stand (brought_along rows groupings (kept_of (bringing rows groupings) rows)) (along_brings (kept_of (bringing rows groupings) rows) kept_along) i (configuring rows groupings i) (kept_parts i) nodes e n c

  -- and those that are kept
  pub kept_stands : (i n : ℕ) → Contains (kept_below rows groupings i) n → Stands rows groupings i n
  unfolding kept_below
  kept_stands i n c = by (kept_members rows groupings i) refl c
    where
      by : (o : Option (List ℕ)) → kept_members rows groupings i ≡ o → Contains (unwrap_or o []) n → Stands rows groupings i n
      by None e d = absurd (nothing n d)
      by (Some nodes) e d = kept_stand i nodes e n d

  -- ---- names

  module _ (are : AreOrderly rows groupings) where
    abbrev Claim : ℕ → ℕ → Type 0
    Claim i n = Claims rows groupings are i (argument_at rows n)

    -- what row p claims of row h, it claims by a row that stands in h and is p or under it
    record IsClaimedIn (h p n : ℕ) : Type 0 where
      row : ℕ
      under : Under rows p row
      held_in : holder_of rows row ≡ Some h
      claims : Claim row n

    -- the name of what a row brings is claimed: by itself, or by what stands in it, where it is a choice or a case
    abbrev IsClaimed : ℕ → ℕ → Type 0
    IsClaimed i n = (is_fork_at rows i ≡ false → IsClaimer rows i → Claim i n) × ((h : ℕ) → is_part_at rows i ≡ true → holder_of rows i ≡ Some h → IsClaimedIn h i n)

    claimed_both : (i n : ℕ) → (is_fork_at rows i ≡ false → IsClaimer rows i → Claim i n) → (is_fork_at rows i ≡ true → (h : ℕ) → holder_of rows i ≡ Some h → IsClaimedIn h i n) → IsClaimed i n
    claimed_both i n own inner_ones = (own, λ h part e. by h part e (is_fork_at rows i) refl)
      where
        by : (h : ℕ) → is_part_at rows i ≡ true → holder_of rows i ≡ Some h → (b : Bool) → is_fork_at rows i ≡ b → IsClaimedIn h i n
        by h part e true fork = inner_ones fork h e
        by h part e false plain = record { row = i; under = itself; held_in = e; claims = own plain (part_claimer rows i part) }

    fork_here : (i : ℕ) (r : Row) → slice_get rows i ≡ Some r → is_fork_at rows i ≡ is_fork r.word
    unfolding is_fork_at
    fork_here i r is = ap is_fork_row is

    data_here : (i : ℕ) (r : Row) → slice_get rows i ≡ Some r → is_data_at rows i ≡ is_data r.word
    data_here i r is = ap is_data_row is

    data_plain : (i : ℕ) (o : Option Row) → slice_get rows i ≡ o → is_data_row o ≡ true → is_fork_at rows i ≡ true → ⊥
    data_plain i None is d f = absurd (cc)
    data_plain i (Some r) is d f = data_fork r.word d (sym (fork_here i r is) ∙ f)

    own_claim : (i : ℕ) → is_data_at rows i ≡ true → IsClaimer rows i → Claim i i
    own_claim i d c = claims_own rows groupings are i c (data_node c.row.word (sym (data_here i c.row c.there) ∙ d))

    through_step : (i n k : ℕ) → is_data_at rows i ≡ false → IsStep rows groupings i k → IsClaimed k n → IsClaimed i n
    through_step i n k data_not (inside r is holder part in_i) below = claimed_both i n
        (λ plain c. (
        let same : r ≡ c.row = same_Some r c.row (sym is ∙ c.there) in
        let holds : is_holder c.row.word ≡ true = ap (λ (x : Row). is_holder x.word) (sym same) ∙ holder in
        let node = no_node c.row.word (sym (fork_here i c.row c.there) ∙ plain) (sym (data_here i c.row c.there) ∙ data_not) in
        let b = below.1 i part (held_directly rows are.before k i part in_i plain) in
        claims_up rows groupings are i b.row c (argument_at rows n) node (rests_on_held rows groupings are i b.row c node (no_uses c.row.word holds) b.held_in) b.claims
        ))
        (λ fork h e. (
        let b = below.1 h part (held_inner rows are.before k i h part in_i fork e) in
        record { row = b.row; under = under_up rows i k b.row in_i b.under; held_in = b.held_in; claims = b.claims }
        ))
    through_step i n k data_not (used r is uses e) below = claimed_both i n
        (λ plain c. (
        let same : r ≡ c.row = same_Some r c.row (sym is ∙ c.there) in
        let u : is_uses c.row.word ≡ true = ap (λ (x : Row). is_uses x.word) (sym same) ∙ uses in
        let node : is_node c.row.word ≡ false = ap is_node (uses_word c.row.word u) in
        let g = are.named i k r is uses e in
        let flat : is_fork_at rows k ≡ false = fork_here k g.0 g.1 ∙ ap is_fork g.2 in
        let b = below.0 flat (record { row = g.0; there = g.1; sort = inr g.2 }) in
        claims_up rows groupings are i k c (argument_at rows n) node (rests_on_used rows groupings are i k c u e) b
        ))
        (λ fork h f. absurd (uses_fork r.word uses (sym (fork_here i r is) ∙ fork)))

    is_claimed : (i n : ℕ) → Brings rows groupings i n → IsClaimed i n
    is_claimed i n (alone d) = claimed_both i i (λ plain c. own_claim i d c) (λ fork h e. absurd (data_plain i (slice_get rows i) refl d fork))
    is_claimed i n (through k c b) = let o = of_bringing i k c in through_step i n k o.0 (step_of i k o.1) (is_claimed k n b)

    -- the parts of one row stand in one, choices and cases left aside
    together : (i k j : ℕ) → is_part_at rows k ≡ true → around rows k ≡ Some i → is_part_at rows j ≡ true → around rows j ≡ Some i → (h : ℕ) × (holder_of rows k ≡ Some h) × (holder_of rows j ≡ Some h)
    together i k j part_k in_k part_j in_j = by (is_fork_at rows i) refl
      where
        by : (b : Bool) → is_fork_at rows i ≡ b → (h : ℕ) × (holder_of rows k ≡ Some h) × (holder_of rows j ≡ Some h)
        by false plain = (i, held_directly rows are.before k i part_k in_k plain, held_directly rows are.before j i part_j in_j plain)
        by true fork =
            let g = held rows are.before are.outer i (fork_part rows i fork) in
            (g.0, held_inner rows are.before k i g.0 part_k in_k fork g.1, held_inner rows are.before j i g.0 part_j in_j fork g.1)

    one_step : (i k j a b : ℕ) → IsStep rows groupings i k → IsStep rows groupings i j → Brings rows groupings k a → Brings rows groupings j b → argument_at rows a ≡ argument_at rows b → k ≡ j
    one_step i k j a b (inside r is holder part_k in_k) (inside s at holds part_j in_j) c d same =
        let t = together i k j part_k in_k part_j in_j in
        let x = (is_claimed k a c).1 t.0 part_k t.1 in
        let y = (is_claimed j b d).1 t.0 part_j t.2 in
        let rows_same = one_claims rows groupings are t.0 x.row y.row a b x.held_in y.held_in x.claims y.claims same in
        under_one rows are.before k j i y.row in_k in_j (subst (λ (z : ℕ). Under rows k z) rows_same x.under) y.under
    one_step i k j a b (used r is uses e) (used s at used_too f) c d same = same_Some k j (sym e ∙ f)
    one_step i k j a b (inside r is holder part_k in_k) (used s at uses f) c d same =
        let rows_same : r ≡ s = same_Some r s (sym is ∙ at) in
        absurd (uses_holder s.word uses (ap (λ (x : Row). is_holder x.word) (sym rows_same) ∙ holder))
    one_step i k j a b (used r is uses e) (inside s at holder part_j in_j) c d same =
        let rows_same : r ≡ s = same_Some r s (sym is ∙ at) in
        absurd (uses_holder s.word (ap (λ (x : Row). is_uses x.word) (sym rows_same) ∙ uses) holder)

    one_part : (i k j a b : ℕ) → Contains (holding rows groupings i) k → Contains (holding rows groupings i) j → Brings rows groupings k a → Brings rows groupings j b → argument_at rows a ≡ argument_at rows b → k ≡ j
    one_part i k j a b c d x y same = one_step i k j a b (step_of i k c) (step_of i j d) x y same

    no_more : (i k : ℕ) → is_data_at rows i ≡ true → Contains (bringing rows groupings i) k → ⊥
    no_more i k d c = let no : true ≡ false = sym d ∙ (of_bringing i k c).0 in absurd (cc)

    one_brought : (i a b : ℕ) → Brings rows groupings i a → Brings rows groupings i b → argument_at rows a ≡ argument_at rows b → a ≡ b
    one_brought i a b (alone d) (alone e) same = refl
    one_brought i a b (alone d) (through j e y) same = absurd (no_more i j d e)
    one_brought i a b (through k c x) (alone d) same = absurd (no_more i k d c)
    one_brought i a b (through k c x) (through j d y) same =
        let parts = one_part i k j a b (of_bringing i k c).1 (of_bringing i j d).1 x y same in
        one_brought k a b x (subst (λ (z : ℕ). Brings rows groupings z b) (sym parts) y) same

    -- of the nodes that stand in one row, one has a name
    pub one_stands : (i a b : ℕ) → Stands rows groupings i a → Stands rows groupings i b → argument_at rows a ≡ argument_at rows b → a ≡ b
    one_stands i a b x y same =
        let parts = one_part i x.part y.part a b x.among y.among x.brings y.brings same in
        one_brought x.part a b x.brings (subst (λ (z : ℕ). Brings rows groupings z b) (sym parts) y.brings) same

    pub some_separate : (f : ℕ → Option (List ℕ)) → BringBy f → (i : ℕ) (ks : List ℕ) → AreSome ks (holding rows groupings i) → AreSeparate rows f ks
    some_separate f brings i ks these =
        separate rows f 0 ks these.order (λ k j c d lt these_nodes those_nodes a b is_k is_j x y same. (
        let e = one_part i k j a b (these.among k c) (these.among j d) (brings k these_nodes a is_k x) (brings j those_nodes b is_j y) same in
        absurd (omega (arith, lt, e))
        ))

    once_alone : (i : ℕ) (nodes : List ℕ) → nodes ≡ i ∷ [] → IsOnce (map (argument_at rows) nodes)
    once_alone i nodes is = subst (λ (l : List ℕ). IsOnce (map (argument_at rows) l)) (sym is) ((λ c. nothing (argument_at rows i) c), tt)

    pub some_of_holding : (i : ℕ) (ks : List ℕ) → AreSome ks (bringing rows groupings i) → AreSome ks (holding rows groupings i)
    some_of_holding i ks these = record { order = these.order; among = λ k c. (of_bringing i k (these.among k c)).1 }

    module _ (next : ℕ → List ℕ) (along : (i : ℕ) → AreSome (next i) (bringing rows groupings i)) where
      pub value_once : (steps i : ℕ) (nodes : List ℕ) → value next along steps i ≡ Some nodes → IsOnce (map (argument_at rows) nodes)
      value_once zero i nodes e = absurd (cc)
      value_once (suc steps) i nodes e =
          let u = unfold_one (bring_step rows groupings) next steps i nodes e in
          let parts = some_separate (value next along steps) (value_brings next along steps) i (next i) (some_of_holding i (next i) (along i)) in
          let once = concat_once rows (value next along steps) (value_once steps) (next i) u.known parts u.there in
          elim (made_by i u.known nodes u.made) [
            | inl m ↦ once_alone i nodes m.1
            | inr all ↦ subst (λ (l : List ℕ). IsOnce (map (argument_at rows) l)) (sym all) once
          ]

    abbrev pub OnceBy : (ℕ → Option (List ℕ)) → Type 0
    OnceBy f = (k : ℕ) (nodes : List ℕ) → f k ≡ Some nodes → IsOnce (map (argument_at rows) nodes)

    gathered_once : (f : ℕ → Option (List ℕ)) → BringBy f → OnceBy f → (i : ℕ) (ks : List ℕ) → AreSome ks (holding rows groupings i) → (nodes : List ℕ) → gathered (length rows) (all_there (map f ks)) ≡ Some nodes → IsOnce (map (argument_at rows) nodes)
    gathered_once f brings once i ks these nodes e =
        let g = gathers (length rows) (all_there (map f ks)) nodes e in
        subst (λ (l : List ℕ). IsOnce (map (argument_at rows) l)) (sym g.2) (concat_once rows f once ks g.0 (some_separate f brings i ks these) g.1)

    pub brought_once : OnceBy (brought rows groupings)
    unfolding brought worth_of
    brought_once k nodes e = value_once (bringing rows groupings) (λ i. all_some (bringing rows groupings i) (bringing_ascends i)) (length rows) k nodes e

    pub along_once : (next : ℕ → List ℕ) → ((i : ℕ) → AreSome (next i) (bringing rows groupings i)) → OnceBy (brought_along rows groupings next)
    unfolding brought_along worth_of
    along_once next along k nodes e = value_once next along (length rows) k nodes e

    -- the members of a row have names of their own
    pub members_once : (i : ℕ) (nodes : List ℕ) → members rows groupings i ≡ Some nodes → IsOnce (map (argument_at rows) nodes)
    unfolding members
    members_once i nodes e = gathered_once (brought rows groupings) brought_brings brought_once i (holding rows groupings i) (all_some (holding rows groupings i) (holding_ascends i)) nodes e

    kept_members_once : (i : ℕ) (nodes : List ℕ) → kept_members rows groupings i ≡ Some nodes → IsOnce (map (argument_at rows) nodes)
    unfolding kept_members
    kept_members_once i nodes e =
        let next = kept_of (bringing rows groupings) rows in
        gathered_once (brought_along rows groupings next) (along_brings next kept_along) (along_once next kept_along) i (configuring rows groupings i) (kept_parts i) nodes e

    -- and so have those that are kept
    pub kept_once : (i : ℕ) → IsOnce (map (argument_at rows) (kept_below rows groupings i))
    unfolding kept_below
    kept_once i = by (kept_members rows groupings i) refl
      where
        by : (o : Option (List ℕ)) → kept_members rows groupings i ≡ o → IsOnce (map (argument_at rows) (unwrap_or o []))
        by None e = tt
        by (Some nodes) e = kept_members_once i nodes e
