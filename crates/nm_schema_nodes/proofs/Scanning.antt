-- The modules one after another, and the first that is too large.
use Rattle.std.proofs.Common.{◌≡◌, ◌<◌, ◌≤◌, ◌+◌, ◌∙◌, ℕ, List, Option, length, get_or, min, true, false, Some, slice_get, sym, ap, subst, arith}
use Rattle.std.proofs.lemmas.Option.{get_or_from_slice_get, slice_get_within}
use Rattle.std.proofs.lemmas.Bool.Decides.{nat_tests}
use Rattle.nm_schema_statements.specs.declared.row.Row.{Row}
use Rattle.nm_schema_statements.specs.Rows.{roots, AreRows}
use Rattle.nm_schema_nodes.specs.Expansion.{count_at, height_at, counts_before, height_in, module_row, is_large}
use Rattle.nm_schema_nodes.proofs.Growth.{counts_before-more, module_row-is}

-- the row of a module is a row
pub root-within : (rows : List Row) (m root : ℕ) → AreRows rows → slice_get (roots rows) m ≡ Some root → root < length rows
root-within rows m root h at = subst (λ r. r < length rows) (get_or_from_slice_get (roots rows) m root 0 at) (h.tops m (slice_get_within (roots rows) m root at))

module _ (rows : List Row) (groupings : List (Option ℕ)) (m : ℕ) (all : List ℕ) (total count : ℕ) where
  pub large-many : all ≡ roots rows → m < length all → total ≡ counts_before rows groupings m → count ≡ min 20001 (count_at rows groupings (get_or all m 0)) → 20000 < total + count → is_large rows groupings m ≡ true
  unfolding is_large
  large-many is lt before here many =
      let within : m < length (roots rows) = omega (arith, lt, ap (λ (l : List ℕ). length l) is) in
      let more = counts_before-more rows groupings m within in
      let same : count ≡ min 20001 (count_at rows groupings (get_or (roots rows) m 0)) = here ∙ ap (λ (l : List ℕ). min 20001 (count_at rows groupings (get_or l m 0))) is in
      let over : 20000 < counts_before rows groupings (m + 1) = omega (arith, more, same, before, many) in
      grind (arith, nat_tests, over)

  pub counted-more : all ≡ roots rows → m < length all → total ≡ counts_before rows groupings m → count ≡ min 20001 (count_at rows groupings (get_or all m 0)) → total + count ≤ 20000 → total + count ≡ counts_before rows groupings (m + 1)
  counted-more is lt before here few =
      let within : m < length (roots rows) = omega (arith, lt, ap (λ (l : List ℕ). length l) is) in
      let more = counts_before-more rows groupings m within in
      let same : count ≡ min 20001 (count_at rows groupings (get_or (roots rows) m 0)) = here ∙ ap (λ (l : List ℕ). min 20001 (count_at rows groupings (get_or l m 0))) is in
      omega (arith, more, same, before, few)

  height-is : (height : ℕ) → all ≡ roots rows → m < length all → height ≡ min 66 (height_at rows groupings (get_or all m 0)) → height ≡ min 66 (height_in rows groupings (module_row rows m))
  height-is height is lt here =
      let within : m < length (roots rows) = omega (arith, lt, ap (λ (l : List ℕ). length l) is) in
      here ∙ ap (λ (l : List ℕ). min 66 (height_at rows groupings (get_or l m 0))) is ∙ ap (λ (o : Option ℕ). min 66 (height_in rows groupings o)) (sym (module_row-is rows groupings m within))

  pub large-deep : (height : ℕ) → all ≡ roots rows → m < length all → height ≡ min 66 (height_at rows groupings (get_or all m 0)) → 65 < height → is_large rows groupings m ≡ true
  unfolding is_large
  large-deep height is lt here deep =
      let h = height-is height is lt here in
      let over : 65 < height_in rows groupings (module_row rows m) = omega (arith, h, deep) in
      grind (arith, nat_tests, over)

  pub not-large : (height : ℕ) → all ≡ roots rows → m < length all → total + count ≡ counts_before rows groupings (m + 1) → total + count ≤ 20000 → height ≡ min 66 (height_at rows groupings (get_or all m 0)) → height ≤ 65 → is_large rows groupings m ≡ false
  unfolding is_large
  not-large height is lt sum few here low =
      let h = height-is height is lt here in
      let under : height_in rows groupings (module_row rows m) ≤ 65 = omega (arith, h, low) in
      let less : counts_before rows groupings (m + 1) ≤ 20000 = omega (arith, sum, few) in
      grind (arith, nat_tests, under, less)
