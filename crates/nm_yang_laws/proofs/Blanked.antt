-- White space and comments: what is left behind them, or the comment that is never closed.
use Rattle.std.proofs.Common.{◌≡◌, ℕ, Bool, true, false, eqb, List, [], ◌∷◌, drop, None, Result, refl}
use Rattle.std.specs.Prelude.{◌&&◌}
use Rattle.nm_yang.specs.declared.fault.Fault.{Fault}
use Rattle.nm_yang.specs.declared.fault.YangKind.TheVariants.{UnclosedComment}
use Rattle.nm_yang.specs.Page.{bad, place_of}
use Rattle.nm_yang.specs.Byte.{is_white, begins}
use Rattle.nm_yang.specs.Grammar.{has_close}
use Rattle.nm_yang.specs.Blank.{Mode, plain, line, star, block, skip}
use Rattle.nm_yang_laws.proofs.Tails.{IsTail, tail-self, tail-cons, tail-trans}
use Rattle.nm_yang_laws.proofs.Goods.{Known, Fails, stands, Good, itself, by-cond, fails-at_end}

-- the bytes behind those of a comment that were read, with the `*` before them
abbrev pub starred_bytes : Bool → List ℕ → List ℕ
starred_bytes true rest = 42 ∷ rest
starred_bytes false rest = rest

-- a comment that opened before fails so where it isn't closed in the rest
abbrev pub Opened : Known → Fault → List ℕ → Mode → List ℕ → Type 0
Opened m ending bytes plain rest = Unit {0}
Opened m ending bytes line rest = Unit {0}
Opened m ending bytes (star opener) rest = m.page.stop ≡ None → has_close (drop 1 rest) ≡ false → Fails m ending bytes (bad opener UnclosedComment)
Opened m ending bytes (block opener starred) rest = m.page.stop ≡ None → has_close (starred_bytes starred rest) ≡ false → Fails m ending bytes (bad opener UnclosedComment)

still-open : (starred : Bool) (b : ℕ) (rest : List ℕ) (now : Bool) → eqb b 42 ≡ now → (starred && eqb b 47) ≡ false → has_close (starred_bytes now rest) ≡ false → has_close (starred_bytes starred (b ∷ rest)) ≡ false
still-open true b rest true is off h = rw (is, off) h
still-open true b rest false is off h = rw (is, off) h
still-open false b rest true is off h = rw is h
still-open false b rest false is off h = rw is h

none-closes : (starred : Bool) → has_close (starred_bytes starred []) ≡ false
none-closes true = refl
none-closes false = refl

behind : (b : ℕ) (rest bytes : List ℕ) → IsTail (b ∷ rest) bytes → IsTail rest bytes
behind b rest bytes t = tail-trans rest (b ∷ rest) bytes (tail-cons b rest rest (tail-self rest)) t

pub good-mode : (m : Known) (ending : Fault) (bytes : List ℕ) (mode : Mode) (rest : List ℕ) → IsTail rest bytes → Opened m ending bytes mode rest → Good m ending itself bytes (skip m.page mode rest)
unfolding skip
good-mode m ending bytes plain [] t o = t
good-mode m ending bytes plain (b ∷ rest) t o =
    let P : Result (List ℕ) Fault → Type 0 = λ r. Good m ending itself bytes r in
    let u = behind b rest bytes t in
    by-cond P (is_white b) _ _ (λ w. good-mode m ending bytes plain rest u tt) (λ w.
    by-cond P (eqb b 47 && begins rest 47) _ _ (λ l. good-mode m ending bytes line rest u tt) (λ l.
    by-cond P (eqb b 47 && begins rest 42) _ _ (λ s. good-mode m ending bytes (star (place_of m.page (b ∷ rest))) rest u (λ stop c. stands (b ∷ rest) t refl (stop, s, c))) (λ s. t)))
good-mode m ending bytes line [] t o = t
good-mode m ending bytes line (b ∷ rest) t o =
    let u = behind b rest bytes t in
    by-cond (λ (r : Result (List ℕ) Fault). Good m ending itself bytes r) (eqb b 10) _ _ (λ w. good-mode m ending bytes plain rest u tt) (λ w. good-mode m ending bytes line rest u tt)
good-mode m ending bytes (star opener) [] t o = fails-at_end m ending bytes (bad opener UnclosedComment) (λ stop. o stop refl)
good-mode m ending bytes (star opener) (b ∷ rest) t o = good-mode m ending bytes (block opener false) rest (behind b rest bytes t) o
good-mode m ending bytes (block opener starred) [] t o = fails-at_end m ending bytes (bad opener UnclosedComment) (λ stop. o stop (none-closes starred))
good-mode m ending bytes (block opener starred) (b ∷ rest) t o =
    let u = behind b rest bytes t in
    by-cond (λ (r : Result (List ℕ) Fault). Good m ending itself bytes r) (starred && eqb b 47) _ _ (λ w. good-mode m ending bytes plain rest u tt) (λ w. good-mode m ending bytes (block opener (eqb b 42)) rest u (λ stop c. o stop (still-open starred b rest (eqb b 42) refl w c)))

pub good-skip : (m : Known) (ending : Fault) (bytes : List ℕ) → Good m ending itself bytes (skip m.page plain bytes)
good-skip m ending bytes = good-mode m ending bytes plain bytes (tail-self bytes) tt
