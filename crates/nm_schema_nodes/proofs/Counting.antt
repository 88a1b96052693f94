-- What stands in a row in the end is counted at the row.
use Rattle.std.proofs.Common.{◌≡◌, ◌<◌, ◌≤◌, ◌+◌, ◌⊎◌, inl, inr, ℕ, zero, suc, List, [], ◌∷◌, ◌++◌, length, map, All, Bool, true, false, nat_le, if◌then◌else◌, ◌-◌, Option, None, Some, unwrap_or, is_some, slice_get, refl, subst, arith}
use Rattle.std.specs.List.{concat}
use Rattle.std.proofs.lemmas.List.{map-append}
use Rattle.std.proofs.lemmas.List.Elements.{All-nil, All-cons, All-append}
use Rattle.nm_schema_statements.specs.declared.row.Row.{Row}
use Rattle.nm_schema_statements.specs.Flaw.{is_data}
use Rattle.nm_graph.specs.Value.{strict, all_there}
use Rattle.nm_schema_uses.specs.Holding.{is_data_row, is_data_at, bringing}
use Rattle.nm_schema_uses.specs.Worth.{worth_within, worth_of}
use Rattle.nm_schema_uses.specs.Members.{gathered, is_astray, bring, bring_step}
use Rattle.nm_schema_uses.specs.Config.{kept_of, configuring}
use Rattle.nm_schema_uses.specs.Passing.{brought_along, kept_members}
use Rattle.nm_schema_uses.specs.Sizes.{unit_in, unit_at, total_of, count_step, count_of}
use Rattle.nm_schema_nodes.specs.Expansion.{count_at, kept_below}
use Rattle.nm_schema_nodes.specs.Growing.{IsCounted}
use Rattle.nm_schema_nodes.proofs.Unfolding.{split, unfold_one, unfold_within}

pub total-append : (xs ys : List ℕ) → total_of (xs ++ ys) ≡ total_of xs + total_of ys
total-append [] ys = omega arith
total-append (x ∷ xs) ys = omega (arith, total-append xs ys)

-- ---- what a row brings

-- a row brings itself as a node of data, and else what the rows that it leads to bring
abbrev pub Brings : List Row → ℕ → List (List ℕ) → List ℕ → Type 0
Brings rows i known nodes = ((nodes ≡ i ∷ []) × (unit_at rows i ≡ 1)) ⊎ ((is_data_at rows i ≡ false) × (nodes ≡ concat known))

pub limited-is : (fits : Bool) (all nodes : List ℕ) → (if fits then Some all else None) ≡ Some nodes → nodes ≡ all
limited-is true all nodes h = cc
limited-is false all nodes h = absurd (cc)

bring-cases : (node astray : Bool) (unit limit i : ℕ) (known : List (List ℕ)) (nodes : List ℕ) → unit ≡ (if node then 1 else 0) → (if node then Some (i ∷ []) else (if astray then None else gathered limit (Some known))) ≡ Some nodes → ((nodes ≡ i ∷ []) × (unit ≡ 1)) ⊎ ((node ≡ false) × (nodes ≡ concat known))
bring-cases true astray unit limit i known nodes is h = inl (cc, is)
bring-cases false true unit limit i known nodes is h = absurd (cc)
bring-cases false false unit limit i known nodes is h = inr (refl, limited-is (nat_le (length (concat known)) limit) (concat known) nodes h)

bring-is : (rows : List Row) (groupings : List (Option ℕ)) (i : ℕ) (row : Option Row) (known : List (List ℕ)) (nodes : List ℕ) → bring rows groupings i row known ≡ Some nodes → ((nodes ≡ i ∷ []) × (unit_in row ≡ 1)) ⊎ ((is_data_row row ≡ false) × (nodes ≡ concat known))
bring-is rows groupings i None known nodes h = absurd (cc)
bring-is rows groupings i (Some r) known nodes h = bring-cases (is_data r.word) (is_astray groupings i r) (unit_in (Some r)) (length rows) i known nodes refl h

pub brings : (rows : List Row) (groupings : List (Option ℕ)) (i : ℕ) (known : List (List ℕ)) (nodes : List ℕ) → bring_step rows groupings i known ≡ Some nodes → Brings rows i known nodes
unfolding bring_step unit_at
brings rows groupings i known nodes h = bring-is rows groupings i (slice_get rows i) known nodes h

-- what a row brings along kept rows rests on what it leads to as configuration, but for a node of data
pub kept-bringing : (rows : List Row) (groupings : List (Option ℕ)) (i : ℕ) → is_data_at rows i ≡ false → kept_of (bringing rows groupings) rows i ≡ configuring rows groupings i
unfolding bringing kept_of
kept-bringing rows groupings i is = rw is refl

-- ---- counts

-- these nodes have counts, and together no more than n
pub record AreCovered (rows : List Row) (groupings : List (Option ℕ)) (nodes : List ℕ) (n : ℕ) : Type 0 where
  pub each : All (IsCounted rows groupings) nodes
  pub most : total_of (map (count_at rows groupings) nodes) ≤ n

unwrap-is : (count : Option ℕ) (n : ℕ) → count ≡ Some n → unwrap_or count 0 ≡ n
unwrap-is None n e = absurd (cc)
unwrap-is (Some m) n e = cc

module _ (rows : List Row) (groupings : List (Option ℕ)) where
  pub count_at-is : (i n : ℕ) → count_of rows groupings i ≡ Some n → count_at rows groupings i ≡ n
  unfolding count_at
  count_at-is i n e = unwrap-is (count_of rows groupings i) n e

  -- a count is that of what the row leads to, and one more for a node
  abbrev pub IsSum : ℕ → ℕ → Type 0
  IsSum i n = (known : List ℕ) × (all_there (map (count_of rows groupings) (configuring rows groupings i)) ≡ Some known) × (n ≡ unit_at rows i + total_of known)

  pub count-sum : (i n : ℕ) → count_of rows groupings i ≡ Some n → IsSum i n
  unfolding count_of worth_of count_step
  count-sum i n h =
      let u = unfold_within (count_step rows) (configuring rows groupings) (length rows) i n h in
      (u.known, u.there, some-is (unit_at rows i + total_of u.known) n u.made)
    where
      some-is : (a b : ℕ) → Some a ≡ Some b → b ≡ a
      some-is a b e = cc

  none_covered : (n : ℕ) → AreCovered rows groupings [] n
  none_covered n = record { each = All-nil (IsCounted rows groupings); most = omega arith }

  both_covered : (xs ys : List ℕ) (m n : ℕ) → AreCovered rows groupings xs m → AreCovered rows groupings ys n → AreCovered rows groupings (xs ++ ys) (m + n)
  both_covered xs ys m n f g = record {
    each = All-append (IsCounted rows groupings) xs ys f.each g.each;
    most = rw (map-append (count_at rows groupings) xs ys, total-append (map (count_at rows groupings) xs) (map (count_at rows groupings) ys)) (omega (arith, f.most, g.most));
  }

  more_covered : (xs : List ℕ) (m n : ℕ) → m ≤ n → AreCovered rows groupings xs m → AreCovered rows groupings xs n
  more_covered xs m n le f = record { each = f.each; most = omega (arith, f.most, le) }

  one_case : (i n : ℕ) → count_of rows groupings i ≡ Some n → unit_at rows i ≡ 1 → AreCovered rows groupings (i ∷ []) n
  one_case i n count unit =
      let s = count-sum i n count in
      let is : count_at rows groupings i ≡ n = count_at-is i n count in
      let sum : n ≡ unit_at rows i + total_of s.0 = s.2 in
      let one : IsCounted rows groupings i = record { unit = unit; count = omega (arith, is, sum, unit) } in
      record { each = All-cons (IsCounted rows groupings) i [] one (All-nil (IsCounted rows groupings)); most = omega (arith, is) }

  abbrev pub brought_within : ℕ → ℕ → Option (List ℕ)
  brought_within steps i = worth_within (strict (bring_step rows groupings)) (kept_of (bringing rows groupings) rows) steps i

  abbrev IsCovering : ℕ → Type 0
  IsCovering steps = (j : ℕ) (nodes : List ℕ) (n : ℕ) → brought_within steps j ≡ Some nodes → count_of rows groupings j ≡ Some n → AreCovered rows groupings nodes n

  -- what some rows bring is counted at them
  parts-covered : (steps : ℕ) → IsCovering steps → (js : List ℕ) (known : List (List ℕ)) (counts : List ℕ) → all_there (map (brought_within steps) js) ≡ Some known → all_there (map (count_of rows groupings) js) ≡ Some counts
      → AreCovered rows groupings (concat known) (total_of counts)
  parts-covered steps covering [] known counts h there =
      let none : known ≡ [] = cc in
      rw none (none_covered (total_of counts))
  parts-covered steps covering (j ∷ js) known counts h there =
      let s = split (brought_within steps) j js known h in
      let c = split (count_of rows groupings) j js counts there in
      rw (s.known_is, c.known_is) (both_covered s.first (concat s.others) c.first (total_of c.others) (covering j s.first c.first s.first_is c.first_is) (parts-covered steps covering js s.others c.others s.others_are c.others_are))

  brings_case : (steps i : ℕ) (known : List (List ℕ)) (nodes : List ℕ) (n : ℕ) → IsCovering steps → all_there (map (brought_within steps) (kept_of (bringing rows groupings) rows i)) ≡ Some known → count_of rows groupings i ≡ Some n
      → Brings rows i known nodes → AreCovered rows groupings nodes n
  brings_case steps i known nodes n covering there count (inl one) = rw (one.0) (one_case i n count (one.1))
  brings_case steps i known nodes n covering there count (inr all) =
      let s = count-sum i n count in
      let sum : n ≡ unit_at rows i + total_of s.0 = s.2 in
      let held : all_there (map (brought_within steps) (configuring rows groupings i)) ≡ Some known = subst (λ (js : List ℕ). all_there (map (brought_within steps) js) ≡ Some known) (kept-bringing rows groupings i (all.0)) there in
      rw (all.1) (more_covered (concat known) (total_of s.0) n (omega (arith, sum)) (parts-covered steps covering (configuring rows groupings i) known (s.0) held (s.1)))

  covering : (steps : ℕ) → IsCovering steps
  covering zero i nodes n h count = absurd (cc)
  covering (suc steps) i nodes n h count =
      let u = unfold_one (bring_step rows groupings) (kept_of (bringing rows groupings) rows) steps i nodes h in
      brings_case steps i u.known nodes n (covering steps) u.there count (brings rows groupings i u.known nodes u.made)

  -- ---- what is kept of a row's members is counted at the row

  kept-covered : (i n : ℕ) (known : Option (List (List ℕ))) → count_of rows groupings i ≡ Some n → all_there (map (brought_within (length rows)) (configuring rows groupings i)) ≡ known
      → (nodes : Option (List ℕ)) → gathered (length rows) known ≡ nodes → unit_at rows i ≤ n × AreCovered rows groupings (unwrap_or nodes []) (n - unit_at rows i)
  kept-covered i n known count there None is =
      let s = count-sum i n count in
      let sum : n ≡ unit_at rows i + total_of s.0 = s.2 in
      (omega (arith, sum), none_covered (n - unit_at rows i))
  kept-covered i n None count there (Some nodes) is = absurd (cc)
  kept-covered i n (Some known) count there (Some nodes) is =
      let s = count-sum i n count in
      let sum : n ≡ unit_at rows i + total_of s.0 = s.2 in
      let all : nodes ≡ concat known = limited-is (nat_le (length (concat known)) (length rows)) (concat known) nodes is in
      (omega (arith, sum), rw all (more_covered (concat known) (total_of s.0) (n - unit_at rows i) (omega (arith, sum)) (parts-covered (length rows) (covering (length rows)) (configuring rows groupings i) known (s.0) there (s.1))))

  pub kept_below-covered : (i n : ℕ) → count_of rows groupings i ≡ Some n → unit_at rows i ≤ n × AreCovered rows groupings (kept_below rows groupings i) (n - unit_at rows i)
  unfolding kept_below kept_members brought_along worth_of
  kept_below-covered i n count =
      let known : Option (List (List ℕ)) = all_there (map (brought_within (length rows)) (configuring rows groupings i)) in
      kept-covered i n known count refl (gathered (length rows) known) refl

  counted-some : (i : ℕ) (count : Option ℕ) → count_of rows groupings i ≡ count → 0 < unwrap_or count 0 → (n : ℕ) × (count_of rows groupings i ≡ Some n)
  counted-some i None is lt = absurd (omega (arith, lt))
  counted-some i (Some n) is lt = (n, is)

  counted-is : (i : ℕ) → 0 < count_at rows groupings i → (n : ℕ) × (count_of rows groupings i ≡ Some n)
  unfolding count_at
  counted-is i lt = counted-some i (count_of rows groupings i) refl lt

  -- a node that has a count counts once, and what stands in it
  pub node-covered : (i : ℕ) → IsCounted rows groupings i → (0 < count_at rows groupings i) × AreCovered rows groupings (kept_below rows groupings i) (count_at rows groupings i - 1)
  node-covered i h =
      let s = counted-is i h.count in
      let is : count_at rows groupings i ≡ s.0 = count_at-is i (s.0) (s.1) in
      let below = kept_below-covered i (s.0) (s.1) in
      (h.count, more_covered (kept_below rows groupings i) (s.0 - unit_at rows i) (count_at rows groupings i - 1) (omega (arith, is, h.unit)) (below.1))

  has-some : (i : ℕ) (count : Option ℕ) → count_of rows groupings i ≡ count → is_some count ≡ true → AreCovered rows groupings (kept_below rows groupings i) (unwrap_or count 0)
  has-some i None is has = absurd (cc)
  has-some i (Some n) is has = more_covered (kept_below rows groupings i) (n - unit_at rows i) n (omega arith) ((kept_below-covered i n is).1)

  -- a row that has a count counts what stands in it
  pub row-covered : (i : ℕ) → is_some (count_of rows groupings i) ≡ true → AreCovered rows groupings (kept_below rows groupings i) (count_at rows groupings i)
  unfolding count_at
  row-covered i has = has-some i (count_of rows groupings i) refl has
