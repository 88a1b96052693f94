-- What ascending numbers write.
use Rattle.std.proofs.Common.{◌≡◌, ◌≤◌, ℕ, zero, suc, ◌+◌, ◌-◌, List, [], ◌++◌, sym, ap, ◌∙◌, arith, refl, append-nil, append_assoc}
use Rattle.nm_report.specs.Journal.{up_to}

-- before the first
pub up_to-none : (text : ℕ → List ℕ) (old : List ℕ) → old ≡ old ++ up_to text 0
unfolding up_to
up_to-none text old = sym (append-nil old)

-- and one more
pub up_to-next : (text : ℕ → List ℕ) (old : List ℕ) (n : ℕ) → 1 ≤ n → (old ++ up_to text (n - 1)) ++ text n ≡ old ++ up_to text (n + 1 - 1)
unfolding up_to
up_to-next text old zero le = absurd (omega (arith, le))
up_to-next text old (suc n) le =
    let now : suc n + 1 - 1 ≡ suc n = omega arith in
    let before : suc n - 1 ≡ n = omega arith in
    ap (λ k. (old ++ up_to text k) ++ text (suc n)) before ∙ append_assoc old (up_to text n) (text (suc n)) ∙ ap (λ k. old ++ up_to text k) (sym now)
