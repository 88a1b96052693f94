use Rattle.std.proofs.Common.{◌≡◌, ℕ, List, [], ◌∷◌, length, get_or, refl, arith, rules}
use Rattle.nm_journal.proofs.record.block.Goals as goal

four : (l : List ℕ) → length l ≡ 4 → l ≡ get_or l 0 0 ∷ get_or l 1 0 ∷ get_or l 2 0 ∷ get_or l 3 0 ∷ []
four [] size = absurd (omega arith)
four (a ∷ []) size = absurd (omega arith)
four (a ∷ b ∷ []) size = absurd (omega arith)
four (a ∷ b ∷ c ∷ []) size = absurd (omega arith)
four (a ∷ b ∷ c ∷ d ∷ []) size = refl
four (a ∷ b ∷ c ∷ d ∷ e ∷ l) size = absurd (omega arith)

pub returns : goal.returns
returns c =
    let size : length c.args.rest ≡ 4 = search rules in
    rw (c.to_be_bytes.ensures, c.get.ensures.value, c.to_be_bytes-2.ensures, four c.args.rest size) refl
