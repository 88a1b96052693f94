-- Rows are counted up to the greatest number that is told.
use Rattle.std.proofs.Common.{◌≡◌, ℕ, ◌+◌, ◌-◌, ◌^◌, ◌≤◌, List, [], subst, arith}
use Rattle.std.specs.List.{count_by}
use Rattle.nm_types.specs.Path.{PathStep}
use Rattle.nm_types.specs.declared.value.Value.{Value}
use Rattle.nm_proto.specs.Content.{counted_rows}
use Rattle.nm_content.specs.Mark.{is_counted}

-- where no row is left, the count is whole
pub all_counted : (count rows : ℕ) (rest : List (List PathStep × Value)) → rest ≡ [] → count ≤ 2 ^ 32 - 1 → counted_rows (count + count_by is_counted rest) ≡ counted_rows rows → count ≡ counted_rows rows
all_counted count rows rest none small is =
    let whole : counted_rows (count + 0) ≡ counted_rows rows = subst (λ r. counted_rows (count + count_by is_counted r) ≡ counted_rows rows) none is in
    omega (arith, whole, small)
