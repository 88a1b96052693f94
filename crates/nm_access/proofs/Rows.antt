-- What is decided of rows, one after another.
use Rattle.std.proofs.Common.{◌≡◌, ◌≤◌, ◌<◌, ◌-◌, ℕ, List, [], ◌∷◌, length, take, drop, get_or, Some, None, sym, ap, subst, ◌∙◌, arith}
use Rattle.std.proofs.lemmas.Grind.{common_steps}
use Rattle.nm_types.specs.Path.{PathStep}
use Rattle.nm_proto.specs.declared.message.RowAccess.{RowAccess}
use Rattle.nm_access.specs.declared.rule.AccessRules.{AccessRules}
use Rattle.nm_access.specs.declared.access.Judgement.{Judgement}
use Rattle.nm_access.specs.declared.access.Judgement.TheVariants.{Permit, Deny}
use Rattle.nm_access.specs.Judged.{row_denial, row_judged, judged_rows}

abbrev Row : Type 0
Row = List PathStep × RowAccess

module _ (access : AccessRules) (user : List ℕ) where
  -- the first of those that are left is permitted
  pub rows_on : (rest : List Row) (row : Row) (total : Judgement) → 1 ≤ length rest → row ≡ get_or rest 0 row
      → row_denial access user row ≡ None → judged_rows access user rest ≡ total
      → judged_rows access user (take (length rest - 1) (drop 1 rest)) ≡ total
  unfolding judged_rows
  rows_on [] row total some is none so_far = absurd (omega arith)
  rows_on (first ∷ rest) row total some is none so_far =
      let e : row_denial access user first ≡ None = subst (λ (r : Row). row_denial access user r ≡ None) is none in
      let all : take (length (first ∷ rest) - 1) rest ≡ rest = grind (arith, common_steps) in
      rw all (sym (ap (λ o. row_judged o first.0 (judged_rows access user rest)) e) ∙ so_far)

  -- it is denied
  pub rows_denied : (rest : List Row) (row : Row) (by : List ℕ) (total : Judgement) → 1 ≤ length rest → row ≡ get_or rest 0 row
      → row_denial access user row ≡ Some by → judged_rows access user rest ≡ total → total ≡ Deny by (Some row.0)
  unfolding judged_rows
  rows_denied [] row by total some is denied so_far = absurd (omega arith)
  rows_denied (first ∷ rest) row by total some is denied so_far =
      let e : row_denial access user first ≡ Some by = subst (λ (r : Row). row_denial access user r ≡ Some by) is denied in
      sym so_far ∙ ap (λ o. row_judged o first.0 (judged_rows access user rest)) e ∙ ap (λ (r : Row). Deny by (Some r.0)) (sym is)

  -- none is left
  pub rows_end : (rest : List Row) (total : Judgement) → length rest < 1 → judged_rows access user rest ≡ total → total ≡ Permit
  unfolding judged_rows
  rows_end [] total short so_far = sym so_far
  rows_end (first ∷ rest) total short so_far = absurd (omega arith)
