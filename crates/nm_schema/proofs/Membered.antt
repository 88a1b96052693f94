-- The nodes that rows bring are known where no fault is found, and so are how many there are (RFC 7950 sections 7.9, 7.13 and 7.21.1).
use Rattle.std.proofs.Common.{◌≡◌, ◌∙◌, ◌<◌, ◌+◌, ℕ, List, [], ◌∷◌, length, map, Bool, true, false, ◌&&◌, Option, Some, None, slice_get, refl, ap}
use Rattle.std.specs.Prelude.{Contains, is_some, not}
use Rattle.std.specs.Option.{option_and_then}
use Rattle.std.specs.List.{concat}
use Rattle.nm_schema_statements.specs.declared.row.Row.{Row}
use Rattle.nm_schema_statements.specs.Flaw.{is_data}
use Rattle.nm_graph.specs.Value.{strict, all_there}
use Rattle.nm_schema_uses.specs.Arguments.{argument_at}
use Rattle.nm_schema_uses.specs.Holding.{is_uses, is_part_row, is_part_at, is_data_row, grouping_at, holding, bringing}
use Rattle.nm_schema_uses.specs.Config.{LeadsBy, one, further, kept_of, configuring}
use Rattle.nm_schema_uses.specs.Worth.{worth_within, worth_of}
use Rattle.nm_schema_uses.specs.Members.{gathered, is_astray, bring, bring_step, brought, members}
use Rattle.nm_schema_uses.specs.Passing.{plain_of, brought_along, kept_members, plain_members}
use Rattle.nm_schema_uses.specs.Sizes.{unit_at, total_of, count_step, count_of}
use Rattle.nm_schema.proofs.Faultless.{within}
use Rattle.nm_schema.proofs.Valued.{all_known, few_distinct, distinct, IsFounded, is_known}
use Rattle.nm_schema.proofs.Claims.{AreOrderly, of_concat, concat_once, gathered_few}
use Rattle.nm_schema.proofs.Orderly.{row_there}
use Rattle.nm_schema.proofs.Siblings.{Brings, alone, through, AreSome, step_of, of_bringing, value, value_brings, value_once, BringBy, OnceBy, some_separate, some_of_holding, brought_brings, brought_once, along_brings, along_once, kept_along, plain_along, kept_parts, plain_parts, all_some, holding_ascends, bringing_ascends, IsStep, inside, used}

module _ (rows : List Row) (groupings : List (Option ℕ)) (are : AreOrderly rows groupings) where
  -- what a row leads to is a row
  leads_within : (i k : ℕ) → IsStep rows groupings i k → k < length rows
  unfolding is_part_at
  leads_within i k (used r is uses e) = let g = are.named i k r is uses e in within rows k g.0 g.1
  leads_within i k (inside r is holder part in_i) = part_within k (slice_get rows k) refl part
    where
      part_within : (k : ℕ) (o : Option Row) → slice_get rows k ≡ o → is_part_row o ≡ true → k < length rows
      part_within k None at e = absurd (cc)
      part_within k (Some s) at e = within rows k s at

  pub held_within : (i k : ℕ) → Contains (holding rows groupings i) k → k < length rows
  held_within i k c = leads_within i k (step_of rows groupings i k c)

  -- what is brought is a row
  brought_within : (i n : ℕ) → Brings rows groupings i n → n < length rows
  brought_within i n (alone d) = data_within i (slice_get rows i) refl d
    where
      data_within : (k : ℕ) (o : Option Row) → slice_get rows k ≡ o → is_data_row o ≡ true → k < length rows
      data_within k None at e = absurd (cc)
      data_within k (Some s) at e = within rows k s at
  brought_within i n (through k c b) = brought_within k n b

  leads_more : (next : ℕ → List ℕ) → ((i k : ℕ) → Contains (next i) k → Contains (bringing rows groupings i) k) → (i j : ℕ) → LeadsBy next i j → LeadsBy (bringing rows groupings) i j
  leads_more next more i j (one c) = one (more i j c)
  leads_more next more i j (further k c l) = further k (more i k c) (leads_more next more k j l)

  -- what some rows bring is no more than there are rows
  few_brought : (f : ℕ → Option (List ℕ)) → BringBy rows groupings f → OnceBy rows groupings are f → (i : ℕ) (ks : List ℕ) → AreSome rows groupings ks (holding rows groupings i) → (known : List (List ℕ)) → all_there (map f ks) ≡ Some known
      → gathered (length rows) (Some known) ≡ Some (concat known)
  few_brought f brings once i ks these known e =
      let named = concat_once rows f once ks known (some_separate rows groupings are f brings i ks these) e in
      let inside : (q : ℕ) → Contains (concat known) q → q < length rows = λ q c. (let r = of_concat f ks known q e c in brought_within r.row q (brings r.row r.nodes q r.known r.there)) in
      gathered_few (length rows) known (few_distinct (concat known) (length rows) (distinct (argument_at rows) (concat known) named) inside)

  not_astray : (i : ℕ) (r : Row) → slice_get rows i ≡ Some r → is_astray groupings i r ≡ false
  not_astray i r is = by (is_uses r.word) refl
    where
      by : (b : Bool) → is_uses r.word ≡ b → (b && not (is_some (grouping_at groupings i))) ≡ false
      by true u = ap not (are.used i r is u)
      by false u = refl

  module _ (next : ℕ → List ℕ) (along : (i : ℕ) → AreSome rows groupings (next i) (bringing rows groupings i)) where
    makes : (steps i : ℕ) (known : List (List ℕ)) → i < length rows → all_there (map (value rows groupings next along steps) (next i)) ≡ Some known → (nodes : List ℕ) × (bring_step rows groupings i known ≡ Some nodes)
    unfolding bring_step
    makes steps i known lt e = by_row (row_there rows i lt)
      where
        few : gathered (length rows) (Some known) ≡ Some (concat known)
        few = few_brought (value rows groupings next along steps) (value_brings rows groupings next along steps) (value_once rows groupings are next along steps) i (next i) (some_of_holding rows groupings are i (next i) (along i)) known e

        by : (r : Row) → slice_get rows i ≡ Some r → (d : Bool) → is_data r.word ≡ d → (nodes : List ℕ) × (bring rows groupings i (Some r) known ≡ Some nodes)
        by r is true d = (i ∷ [], rw d refl)
        by r is false d = (concat known, rw (d, not_astray i r is) few)

        by_row : (r : Row) × (slice_get rows i ≡ Some r) → (nodes : List ℕ) × (bring rows groupings i (slice_get rows i) known ≡ Some nodes)
        by_row (r, is) = let b = by r is (is_data r.word) refl in (b.0, ap (λ (o : Option Row). bring rows groupings i o known) is ∙ b.1)

    founded : IsFounded (value rows groupings next along) next (length rows) (λ i. i < length rows)
    founded = record {
      on = λ i k lt c. held_within i k (of_bringing rows groupings i k ((along i).among k c)).1;
      within = λ i lt. lt;
      acyclic = λ i lt l. are.acyclic i (leads_more next (λ j k c. (along j).among k c) i i l);
      makes = λ steps i known less lt e. (let m = makes steps i known lt e in (m.0, ap (λ (o : Option (List (List ℕ))). option_and_then (bring_step rows groupings i) o) e ∙ m.1));
    }

    pub value_known : (i : ℕ) → i < length rows → (nodes : List ℕ) × (value rows groupings next along (length rows) i ≡ Some nodes)
    value_known i lt = is_known (value rows groupings next along) next (length rows) (λ i. i < length rows) founded i lt

  gathered_known : (f : ℕ → Option (List ℕ)) → BringBy rows groupings f → OnceBy rows groupings are f → ((k : ℕ) → k < length rows → (nodes : List ℕ) × (f k ≡ Some nodes)) → (i : ℕ) (ks : List ℕ) → AreSome rows groupings ks (holding rows groupings i)
      → (nodes : List ℕ) × (gathered (length rows) (all_there (map f ks)) ≡ Some nodes)
  gathered_known f brings once known i ks these =
      let a = all_known f ks (λ k c. known k (held_within i k (these.among k c))) in
      (concat a.0, ap (gathered (length rows)) a.1 ∙ few_brought f brings once i ks these a.0 a.1)

  brought_known : (k : ℕ) → k < length rows → (nodes : List ℕ) × (brought rows groupings k ≡ Some nodes)
  unfolding brought worth_of
  brought_known k lt = value_known (bringing rows groupings) (λ i. all_some rows groupings (bringing rows groupings i) (bringing_ascends rows groupings i)) k lt

  -- the members of each row are known
  pub members_known : (i : ℕ) → (nodes : List ℕ) × (members rows groupings i ≡ Some nodes)
  unfolding members
  members_known i =
      gathered_known (brought rows groupings) (brought_brings rows groupings) (brought_once rows groupings are) brought_known i (holding rows groupings i) (all_some rows groupings (holding rows groupings i) (holding_ascends rows groupings i))

  pub along_known : (next : ℕ → List ℕ) → ((i : ℕ) → AreSome rows groupings (next i) (bringing rows groupings i)) → (k : ℕ) → k < length rows → (nodes : List ℕ) × (brought_along rows groupings next k ≡ Some nodes)
  unfolding brought_along worth_of
  along_known next along k lt = value_known next along k lt

  -- and so are those that are kept
  pub kept_known : (i : ℕ) → (nodes : List ℕ) × (kept_members rows groupings i ≡ Some nodes)
  unfolding kept_members
  kept_known i =
      let next = kept_of (bringing rows groupings) rows in
      gathered_known (brought_along rows groupings next) (along_brings rows groupings next (kept_along rows groupings)) (along_once rows groupings are next (kept_along rows groupings)) (along_known next (kept_along rows groupings)) i
      (configuring rows groupings i) (kept_parts rows groupings i)

  -- and those that stand in no choice
  pub plain_known : (i : ℕ) → (nodes : List ℕ) × (plain_members rows groupings i ≡ Some nodes)
  unfolding plain_members
  plain_known i =
      let next = plain_of (bringing rows groupings) rows in
      gathered_known (brought_along rows groupings next) (along_brings rows groupings next (plain_along rows groupings)) (along_once rows groupings are next (plain_along rows groupings)) (along_known next (plain_along rows groupings)) i
      (plain_of (holding rows groupings) rows i) (plain_parts rows groupings i)

  -- how many nodes stand at and below a row is known, where no row leads to itself
  module _ (acyclic : (i : ℕ) → LeadsBy (holding rows groupings) i i → ⊥) where
    kept_lead : (i j : ℕ) → LeadsBy (configuring rows groupings) i j → LeadsBy (holding rows groupings) i j
    kept_lead i j (one c) = one ((kept_parts rows groupings i).among j c)
    kept_lead i j (further k c l) = further k ((kept_parts rows groupings i).among k c) (kept_lead k j l)

    counts : IsFounded (worth_within (strict (count_step rows)) (configuring rows groupings)) (configuring rows groupings) (length rows) (λ i. i < length rows)
    unfolding count_step
    counts = record {
      on = λ i k lt c. held_within i k ((kept_parts rows groupings i).among k c);
      within = λ i lt. lt;
      acyclic = λ i lt l. acyclic i (kept_lead i i l);
      makes = λ steps i known less lt e. (unit_at rows i + total_of known, ap (λ (o : Option (List ℕ)). option_and_then (count_step rows i) o) e);
    }

    pub count_known : (i : ℕ) → i < length rows → is_some (count_of rows groupings i) ≡ true
    unfolding count_of worth_of
    count_known i lt =
        let k = is_known (worth_within (strict (count_step rows)) (configuring rows groupings)) (configuring rows groupings) (length rows) (λ i. i < length rows) counts i lt in
        ap (λ (o : Option ℕ). is_some o) k.1
