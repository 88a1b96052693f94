use Rattle.std.proofs.Common.{◌≡◌, ◌≤◌, ◌-◌, ℕ, List, [], ◌∷◌, false, length, take, drop, refl, arith}
use Rattle.std.proofs.lemmas.List.{take_rest}
use Rattle.nm_yang.specs.Page.{Page}
use Rattle.nm_yang.specs.Blank.{skip, star, block}
use Rattle.nm_yang.proofs.blank.after_star.Goals as goal

star_is : (page : Page) (opener : ℕ) (bytes : List ℕ) → 1 ≤ length bytes → skip page (star opener) bytes ≡ skip page (block opener false) (take (length bytes - 1) (drop 1 bytes))
unfolding skip
star_is page opener [] le = absurd (omega arith)
star_is page opener (b ∷ rest) le = rw (take_rest (b ∷ rest) 1) refl

pub returns-in-len1-up-clause-rest : goal.returns-in-len1-up-clause-rest
returns-in-len1-up-clause-rest c = λ page opener. rw (star_is page opener c.args.bytes.now c.in-len1-up.len_at_least) (c.after_block.ensures.rest page opener)
