-- What stands in a row stands less high than the row.
use Rattle.std.proofs.Common.{◌≡◌, ◌<◌, ◌≤◌, ◌+◌, ◌-◌, inl, inr, ℕ, zero, suc, List, [], ◌∷◌, length, map, All, true, nat_le, Option, None, Some, unwrap_or, is_some, refl, ap, subst, arith}
use Rattle.std.specs.List.{concat}
use Rattle.std.specs.Option.{option_and_then}
use Rattle.std.proofs.lemmas.List.Elements.{All-nil, All-cons, All-append, All-weaker}
use Rattle.nm_schema_statements.specs.declared.row.Row.{Row}
use Rattle.nm_graph.specs.Value.{strict, all_there}
use Rattle.nm_schema_uses.specs.Holding.{bringing}
use Rattle.nm_schema_uses.specs.Worth.{worth_within, worth_of}
use Rattle.nm_schema_uses.specs.Members.{gathered, bring_step}
use Rattle.nm_schema_uses.specs.Config.{kept_of, configuring}
use Rattle.nm_schema_uses.specs.Passing.{brought_along, kept_members}
use Rattle.nm_schema_uses.specs.Sizes.{unit_at, greatest, count_step, height_step, count_of, height_of}
use Rattle.nm_schema_nodes.specs.Expansion.{height_at, kept_below}
use Rattle.nm_schema_nodes.proofs.Unfolding.{split, unfold_one, unfold_within}
use Rattle.nm_schema_nodes.proofs.Counting.{Brings, brings, limited-is, kept-bringing, brought_within}

unwrap-is : (height : Option ℕ) (h : ℕ) → height ≡ Some h → unwrap_or height 0 ≡ h
unwrap-is None h e = absurd (cc)
unwrap-is (Some m) h e = cc

-- a row has a height, and no more than h
pub record IsLow (rows : List Row) (groupings : List (Option ℕ)) (h i : ℕ) : Type 0 where
  pub some : 0 < height_at rows groupings i
  pub most : height_at rows groupings i ≤ h

module _ (rows : List Row) (groupings : List (Option ℕ)) where
  height_at-is : (i h : ℕ) → height_of rows groupings i ≡ Some h → height_at rows groupings i ≡ h
  unfolding height_at
  height_at-is i h e = unwrap-is (height_of rows groupings i) h e

  abbrev IsHigh : ℕ → ℕ → Type 0
  IsHigh i h = (known : List ℕ) × (all_there (map (height_of rows groupings) (configuring rows groupings i)) ≡ Some known) × (h ≡ unit_at rows i + greatest known)

  height-high : (i h : ℕ) → height_of rows groupings i ≡ Some h → IsHigh i h
  unfolding height_of worth_of height_step
  height-high i h is =
      let u = unfold_within (height_step rows) (configuring rows groupings) (length rows) i h is in
      (u.known, u.there, some-is (unit_at rows i + greatest u.known) h u.made)
    where
      some-is : (a b : ℕ) → Some a ≡ Some b → b ≡ a
      some-is a b e = cc

  pub lower : (g h : ℕ) → g ≤ h → (nodes : List ℕ) → All (IsLow rows groupings g) nodes → All (IsLow rows groupings h) nodes
  lower g h le nodes each = All-weaker (IsLow rows groupings g) (IsLow rows groupings h) (λ i low. record { some = low.some; most = omega (arith, low.most, le) }) nodes each

  one_case : (i h : ℕ) → height_of rows groupings i ≡ Some h → unit_at rows i ≡ 1 → All (IsLow rows groupings h) (i ∷ [])
  one_case i h height unit =
      let s = height-high i h height in
      let is : height_at rows groupings i ≡ h = height_at-is i h height in
      let sum : h ≡ unit_at rows i + greatest s.0 = s.2 in
      All-cons (IsLow rows groupings h) i [] (record { some = omega (arith, is, sum, unit); most = omega (arith, is) }) (All-nil (IsLow rows groupings h))

  abbrev IsLowering : ℕ → Type 0
  IsLowering steps = (j : ℕ) (nodes : List ℕ) (h : ℕ) → brought_within rows groupings steps j ≡ Some nodes → height_of rows groupings j ≡ Some h → All (IsLow rows groupings h) nodes

  parts-low : (steps : ℕ) → IsLowering steps → (js : List ℕ) (known : List (List ℕ)) (heights : List ℕ) → all_there (map (brought_within rows groupings steps) js) ≡ Some known → all_there (map (height_of rows groupings) js) ≡ Some heights
      → All (IsLow rows groupings (greatest heights)) (concat known)
  parts-low steps lowering [] known heights h there =
      let none : known ≡ [] = cc in
      rw none (All-nil (IsLow rows groupings (greatest heights)))
  parts-low steps lowering (j ∷ js) known heights h there =
      let s = split (brought_within rows groupings steps) j js known h in
      let c = split (height_of rows groupings) j js heights there in
      rw (s.known_is, c.known_is)
      (All-append (IsLow rows groupings (greatest (c.first ∷ c.others))) s.first (concat s.others)
      (lower c.first (greatest (c.first ∷ c.others)) (omega arith) s.first (lowering j s.first c.first s.first_is c.first_is))
      (lower (greatest c.others) (greatest (c.first ∷ c.others)) (omega arith) (concat s.others) (parts-low steps lowering js s.others c.others s.others_are c.others_are)))

  brings_case : (steps i : ℕ) (known : List (List ℕ)) (nodes : List ℕ) (h : ℕ) → IsLowering steps → all_there (map (brought_within rows groupings steps) (kept_of (bringing rows groupings) rows i)) ≡ Some known → height_of rows groupings i ≡ Some h
      → Brings rows i known nodes → All (IsLow rows groupings h) nodes
  brings_case steps i known nodes h lowering there height (inl one) = rw (one.0) (one_case i h height (one.1))
  brings_case steps i known nodes h lowering there height (inr all) =
      let s = height-high i h height in
      let sum : h ≡ unit_at rows i + greatest s.0 = s.2 in
      let held : all_there (map (brought_within rows groupings steps) (configuring rows groupings i)) ≡ Some known = subst (λ (js : List ℕ). all_there (map (brought_within rows groupings steps) js) ≡ Some known) (kept-bringing rows groupings i (all.0)) there in
      rw (all.1) (lower (greatest s.0) h (omega (arith, sum)) (concat known) (parts-low steps lowering (configuring rows groupings i) known (s.0) held (s.1)))

  lowering : (steps : ℕ) → IsLowering steps
  lowering zero i nodes h is height = absurd (cc)
  lowering (suc steps) i nodes h is height =
      let u = unfold_one (bring_step rows groupings) (kept_of (bringing rows groupings) rows) steps i nodes is in
      brings_case steps i u.known nodes h (lowering steps) u.there height (brings rows groupings i u.known nodes u.made)

  kept-low : (i h : ℕ) (known : Option (List (List ℕ))) → height_of rows groupings i ≡ Some h → all_there (map (brought_within rows groupings (length rows)) (configuring rows groupings i)) ≡ known
      → (nodes : Option (List ℕ)) → gathered (length rows) known ≡ nodes → All (IsLow rows groupings (h - unit_at rows i)) (unwrap_or nodes [])
  kept-low i h known height there None is = All-nil (IsLow rows groupings (h - unit_at rows i))
  kept-low i h None height there (Some nodes) is = absurd (cc)
  kept-low i h (Some known) height there (Some nodes) is =
      let s = height-high i h height in
      let sum : h ≡ unit_at rows i + greatest s.0 = s.2 in
      let all : nodes ≡ concat known = limited-is (nat_le (length (concat known)) (length rows)) (concat known) nodes is in
      rw all (lower (greatest s.0) (h - unit_at rows i) (omega (arith, sum)) (concat known) (parts-low (length rows) (lowering (length rows)) (configuring rows groupings i) known (s.0) there (s.1)))

  pub kept_below-low : (i h : ℕ) → height_of rows groupings i ≡ Some h → All (IsLow rows groupings (h - unit_at rows i)) (kept_below rows groupings i)
  unfolding kept_below kept_members brought_along worth_of
  kept_below-low i h height =
      let known : Option (List (List ℕ)) = all_there (map (brought_within rows groupings (length rows)) (configuring rows groupings i)) in
      kept-low i h known height refl (gathered (length rows) known) refl

  high-some : (i : ℕ) (height : Option ℕ) → height_of rows groupings i ≡ height → 0 < unwrap_or height 0 → (h : ℕ) × (height_of rows groupings i ≡ Some h)
  high-some i None is lt = absurd (omega (arith, lt))
  high-some i (Some h) is lt = (h, is)

  high-is : (i : ℕ) → 0 < height_at rows groupings i → (h : ℕ) × (height_of rows groupings i ≡ Some h)
  unfolding height_at
  high-is i lt = high-some i (height_of rows groupings i) refl lt

  -- what stands in a node is less high
  pub node-low : (i : ℕ) → 0 < height_at rows groupings i → unit_at rows i ≡ 1 → All (IsLow rows groupings (height_at rows groupings i - 1)) (kept_below rows groupings i)
  node-low i lt unit =
      let s = high-is i lt in
      let is : height_at rows groupings i ≡ s.0 = height_at-is i (s.0) (s.1) in
      lower (s.0 - unit_at rows i) (height_at rows groupings i - 1) (omega (arith, is, unit)) (kept_below rows groupings i) (kept_below-low i (s.0) (s.1))

  -- a row that has a count has a height
  heights-there : (steps : ℕ) → ((i n : ℕ) → worth_within (strict (count_step rows)) (configuring rows groupings) steps i ≡ Some n → (h : ℕ) × (worth_within (strict (height_step rows)) (configuring rows groupings) steps i ≡ Some h))
      → (js counts : List ℕ) → all_there (map (worth_within (strict (count_step rows)) (configuring rows groupings) steps) js) ≡ Some counts → (heights : List ℕ) × (all_there (map (worth_within (strict (height_step rows)) (configuring rows groupings) steps) js) ≡ Some heights)
  heights-there steps each [] counts there = ([], refl)
  heights-there steps each (j ∷ js) counts there =
      let s = split (worth_within (strict (count_step rows)) (configuring rows groupings) steps) j js counts there in
      let first = each j s.first s.first_is in
      let others = heights-there steps each js s.others s.others_are in
      (first.0 ∷ others.0, rw (first.1, others.1) refl)

  height-there : (steps i n : ℕ) → worth_within (strict (count_step rows)) (configuring rows groupings) steps i ≡ Some n → (h : ℕ) × (worth_within (strict (height_step rows)) (configuring rows groupings) steps i ≡ Some h)
  unfolding height_step
  height-there zero i n is = absurd (cc)
  height-there (suc steps) i n is =
      let u = unfold_one (count_step rows) (configuring rows groupings) steps i n is in
      let heights = heights-there steps (height-there steps) (configuring rows groupings i) u.known u.there in
      (unit_at rows i + greatest heights.0, ap (λ (known : Option (List ℕ)). option_and_then (height_step rows i) known) (heights.1))

  pub height-from_count : (i n : ℕ) → count_of rows groupings i ≡ Some n → (h : ℕ) × (height_of rows groupings i ≡ Some h)
  unfolding count_of height_of worth_of
  height-from_count i n is = height-there (length rows) i n is

  row-some : (i : ℕ) (count : Option ℕ) → count_of rows groupings i ≡ count → is_some count ≡ true → All (IsLow rows groupings (height_at rows groupings i)) (kept_below rows groupings i)
  row-some i None is has = absurd (cc)
  row-some i (Some n) is has =
      let s = height-from_count i n is in
      let same : height_at rows groupings i ≡ s.0 = height_at-is i (s.0) (s.1) in
      lower (s.0 - unit_at rows i) (height_at rows groupings i) (omega (arith, same)) (kept_below rows groupings i) (kept_below-low i (s.0) (s.1))

  -- what stands in a row that has a count is no higher
  pub row-low : (i : ℕ) → is_some (count_of rows groupings i) ≡ true → All (IsLow rows groupings (height_at rows groupings i)) (kept_below rows groupings i)
  row-low i has = row-some i (count_of rows groupings i) refl has
