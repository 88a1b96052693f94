-- Blanks and words without quotes, byte by byte, of texts that are slices.
use Rattle.std.proofs.Common.{◌≡◌, ◌∙◌, ◌≤◌, ◌<◌, ◌-◌, ℕ, List, [], ◌∷◌, Bool, false, cond, length, take, drop, get_or, eqb, Ok, Err, refl, sym, ap, arith}
use Rattle.std.specs.Prelude.{◌&&◌, ◌||◌}
use Rattle.std.proofs.lemmas.List.{take_rest}
use Rattle.nm_yang.specs.declared.fault.YangKind.TheVariants.{UnclosedComment}
use Rattle.nm_yang.specs.Page.{Page, place_of, bad, at_end}
use Rattle.nm_yang.specs.Byte.{is_white, is_ending, begins, opens_comment, closes_comment}
use Rattle.nm_yang.specs.Blank.{skip, plain, line, star, block}
use Rattle.nm_yang.specs.Word.{bare_end}

-- all bytes but the first
abbrev pub after : List ℕ → List ℕ
after bytes = take (length bytes - 1) (drop 1 bytes)

pub after_short : (bytes : List ℕ) → length (take (length bytes - 1) (drop 1 bytes)) ≤ length bytes
after_short [] = omega arith
after_short (b ∷ rest) = rw (take_rest (b ∷ rest) 1) (omega arith)

plain_step : (page : Page) (bytes : List ℕ) → 1 ≤ length bytes
    → skip page plain bytes ≡ cond (is_white (get_or bytes 0 0)) (skip page plain (after bytes)) (
    cond (eqb (get_or bytes 0 0) 47 && begins (after bytes) 47) (skip page line (after bytes)) (
    cond (eqb (get_or bytes 0 0) 47 && begins (after bytes) 42) (skip page (star (place_of page bytes)) (after bytes)) (Ok bytes)))
unfolding skip
plain_step page [] le = absurd (omega arith)
plain_step page (b ∷ rest) le = rw (take_rest (b ∷ rest) 1) refl

pub plain_told : (page : Page) (bytes : List ℕ) (w l b : Bool) → 1 ≤ length bytes → is_white (get_or bytes 0 0) ≡ w → (eqb (get_or bytes 0 0) 47 && begins (after bytes) 47) ≡ l → (eqb (get_or bytes 0 0) 47 && begins (after bytes) 42) ≡ b
    → skip page plain bytes ≡ cond w (skip page plain (after bytes)) (cond l (skip page line (after bytes)) (cond b (skip page (star (place_of page bytes)) (after bytes)) (Ok bytes)))
plain_told page bytes w l b le white lines blocks =
    plain_step page bytes le ∙ (λ k. cond (white k) (skip page plain (after bytes)) (cond (lines k) (skip page line (after bytes)) (cond (blocks k) (skip page (star (place_of page bytes)) (after bytes)) (Ok bytes))))

pub plain_end : (page : Page) (bytes : List ℕ) → length bytes < 1 → skip page plain bytes ≡ Ok bytes
unfolding skip
plain_end page [] lt = refl
plain_end page (b ∷ rest) lt = absurd (omega (arith, lt))

pub line_on : (page : Page) (bytes : List ℕ) → 1 ≤ length bytes → eqb (get_or bytes 0 0) 10 ≡ false → skip page line bytes ≡ skip page line (after bytes)
unfolding skip
line_on page [] le is = absurd (omega arith)
line_on page (b ∷ rest) le is = rw (take_rest (b ∷ rest) 1, is) refl

pub line_end : (page : Page) (bytes : List ℕ) → length bytes < 1 → skip page line bytes ≡ skip page plain bytes
unfolding skip
line_end page [] lt = refl
line_end page (b ∷ rest) lt = absurd (omega (arith, lt))

pub block_on : (page : Page) (opener : ℕ) (starred : Bool) (bytes : List ℕ) → 1 ≤ length bytes → (starred && eqb (get_or bytes 0 0) 47) ≡ false
    → skip page (block opener starred) bytes ≡ skip page (block opener (eqb (get_or bytes 0 0) 42)) (after bytes)
unfolding skip
block_on page opener starred [] le is = absurd (omega arith)
block_on page opener starred (b ∷ rest) le is = rw (take_rest (b ∷ rest) 1, is) refl

pub block_end : (page : Page) (opener : ℕ) (starred : Bool) (bytes : List ℕ) → length bytes < 1 → skip page (block opener starred) bytes ≡ Err (at_end page (bad opener UnclosedComment))
unfolding skip
block_end page opener starred [] lt = refl
block_end page opener starred (b ∷ rest) lt = absurd (omega (arith, lt))

or_off : (a b c : Bool) → a ≡ false → b ≡ false → c ≡ false → (a || b || c) ≡ false
or_off a b c x y z = λ k. x k || y k || z k

pub bare_on : (bytes : List ℕ) → 1 ≤ length bytes → is_ending (get_or bytes 0 0) ≡ false → opens_comment (get_or bytes 0 0) (after bytes) ≡ false → closes_comment (get_or bytes 0 0) (after bytes) ≡ false
    → bare_end bytes ≡ bare_end (after bytes)
bare_on [] le x y z = absurd (omega arith)
bare_on (b ∷ rest) le x y z =
    let t : after (b ∷ rest) ≡ rest = take_rest (b ∷ rest) 1 in
    ap (λ (l : List ℕ). cond (is_ending b || opens_comment b l || closes_comment b l) (b ∷ rest) (bare_end l)) (sym t)
    ∙ (λ k. cond (or_off _ _ _ x y z k) (b ∷ rest) (bare_end (after (b ∷ rest))))
