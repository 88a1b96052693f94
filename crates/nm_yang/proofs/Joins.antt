-- Strings that `+` joins, one after the other as a loop reads them.
use Rattle.std.proofs.Common.{◌≡◌, ℕ, zero, suc, ◌-◌, ◌≤◌, ◌<◌, true, false, List, [], ◌∷◌, ◌++◌, length, Result, Ok, Err, refl, sym, ap, ◌∙◌, append_assoc, arith}
use Rattle.std.proofs.lemmas.List.{append-nil}
use Rattle.nm_yang.specs.declared.fault.Fault.{Fault}
use Rattle.nm_yang.specs.declared.fault.YangFault.{YangFault}
use Rattle.nm_yang.specs.declared.fault.YangFault.TheVariants as errors
use Rattle.nm_yang.specs.Page.{Page, ◌>>=◌, with_front, Fails}
use Rattle.nm_yang.specs.Byte.{begins}
use Rattle.nm_yang.specs.Argument.{piece_at, added_at, more_at, quoted_at}

abbrev Read : Type 0
Read = Result (List ℕ × List ℕ) Fault

with_front-with_front : (f g : List ℕ) (read : Read) → with_front f (with_front g read) ≡ with_front (f ++ g) read
with_front-with_front f g (Ok x) = ap (λ (l : List ℕ). Ok (l, x.1)) (sym (append_assoc f g x.0))
with_front-with_front f g (Err e) = refl

fold_front : (f : List ℕ) (read : Read) (go : List ℕ → Read) → with_front f (read >>= λ s. with_front s.0 (go s.1)) ≡ (with_front f read >>= λ s. with_front s.0 (go s.1))
fold_front f (Ok x) go = with_front-with_front f x.0 (go x.1)
fold_front f (Err e) go = refl

begins-length : (bytes : List ℕ) (k : ℕ) → begins bytes k ≡ true → 0 < length bytes
begins-length [] k e = absurd cc
begins-length (b ∷ bytes) k e = omega arith

pub first_piece : (page : Page) (ending : Fault) (old bytes out rest : List ℕ) → with_front old (piece_at page bytes) ≡ Ok (out, rest)
    → with_front out (more_at page ending (length rest) rest) ≡ with_front old (quoted_at page ending bytes)
unfolding quoted_at
first_piece page ending old bytes out rest h =
    sym (fold_front old (piece_at page bytes) (λ r. more_at page ending (length r) r) ∙ rw h refl)

pub first_fails : (page : Page) (ending : Fault) (old bytes : List ℕ) (e : YangFault) → Fails e (with_front old (piece_at page bytes)) → Fails e (with_front old (quoted_at page ending bytes))
unfolding quoted_at
first_fails page ending old bytes errors.NoMemory h = tt
first_fails page ending old bytes (errors.Bad place kind) h = fold_front old (piece_at page bytes) (λ r. more_at page ending (length r) r) ∙ rw h refl

more-suc : (page : Page) (ending : Fault) (n : ℕ) (out bytes : List ℕ) → begins bytes 43 ≡ true → length bytes ≤ n
    → with_front out (more_at page ending n bytes) ≡ (with_front out (added_at page ending bytes) >>= λ s. with_front s.0 (more_at page ending (n - 1) s.1))
unfolding more_at
more-suc page ending n out bytes plus le =
    let lt = begins-length bytes 43 plus in
    let k : n ≡ suc (n - 1) = omega arith in
    let one : with_front out (more_at page ending (suc (n - 1)) bytes) ≡ (with_front out (added_at page ending bytes) >>= λ s. with_front s.0 (more_at page ending (n - 1) s.1)) =
    rw plus (fold_front out (added_at page ending bytes) (λ r. more_at page ending (n - 1) r)) in
    ap (λ (m : ℕ). with_front out (more_at page ending m bytes)) k ∙ one

pub next_piece : (page : Page) (ending : Fault) (n : ℕ) (out bytes now rest : List ℕ) (total : Read) → begins bytes 43 ≡ true → length bytes ≤ n → with_front out (added_at page ending bytes) ≡ Ok (now, rest)
    → with_front out (more_at page ending n bytes) ≡ total → with_front now (more_at page ending (n - 1) rest) ≡ total
next_piece page ending n out bytes now rest total plus le h so_far = sym (more-suc page ending n out bytes plus le ∙ rw h refl) ∙ so_far

pub next_fails : (page : Page) (ending : Fault) (n : ℕ) (out bytes : List ℕ) (e : YangFault) (total : Read) → begins bytes 43 ≡ true → length bytes ≤ n → Fails e (with_front out (added_at page ending bytes))
    → with_front out (more_at page ending n bytes) ≡ total → Fails e total
next_fails page ending n out bytes errors.NoMemory total plus le h so_far = tt
next_fails page ending n out bytes (errors.Bad place kind) total plus le h so_far = sym so_far ∙ more-suc page ending n out bytes plus le ∙ rw h refl

pub no_more : (page : Page) (ending : Fault) (n : ℕ) (out bytes : List ℕ) (total : Read) → begins bytes 43 ≡ false → with_front out (more_at page ending n bytes) ≡ total → total ≡ Ok (out, bytes)
unfolding more_at
no_more page ending zero out bytes total plus so_far = sym so_far ∙ ap (λ (l : List ℕ). Ok (l, bytes)) (append-nil out)
no_more page ending (suc n) out bytes total plus so_far =
    let one : with_front out (more_at page ending (suc n) bytes) ≡ Ok (out, bytes) = rw plus (ap (λ (l : List ℕ). Ok (l, bytes)) (append-nil out)) in
    sym so_far ∙ one
