-- Sets of change sets, with one more.
use Rattle.std.proofs.Common.{◌≡◌, ℕ, Bool, true, false, ◌||◌, ◌&&◌, nat_eq, refl, sym, ap, ◌∙◌}

with_true : (b : Bool) → b ≡ (b && true)
with_true true = refl
with_true false = refl

-- a change set came
pub came : (old : Bool) (other one change : ℕ) (comes : Bool) → one ≡ change → comes ≡ true → (old || nat_eq other one) ≡ (old || (nat_eq other change && comes))
came old other one change comes e is = ap (λ n. old || nat_eq other n) e ∙ ap (λ b. old || b) (with_true (nat_eq other change) ∙ ap (λ b. nat_eq other change && b) (sym is))
