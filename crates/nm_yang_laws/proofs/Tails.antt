-- What is left of bytes.
use Rattle.std.proofs.Common.{◌≡◌, ℕ, ◌≤◌, List, [], ◌∷◌, ◌++◌, length, drop, refl, sym, ap, ◌∙◌, append_assoc, arith, length-append}
use Rattle.std.proofs.lemmas.List.{append-nil}
use Rattle.nm_yang.specs.Grammar as g
use Rattle.nm_yang.specs.Grammar.{Blanks, IsString, Joined, IsArgument}

-- the rest is what is left of the bytes
pub record IsTail (rest bytes : List ℕ) : Type 0 where
  pub before : List ℕ
  pub parts : bytes ≡ before ++ rest

pub tail-self : (bytes : List ℕ) → IsTail bytes bytes
tail-self bytes = record { before = []; parts = refl }

pub tail-cons : (b : ℕ) (rest bytes : List ℕ) → IsTail rest bytes → IsTail rest (b ∷ bytes)
tail-cons b rest bytes t = record { before = b ∷ t.before; parts = ap (λ (l : List ℕ). b ∷ l) t.parts }

pub tail-over : (before rest bytes : List ℕ) → IsTail rest bytes → IsTail rest (before ++ bytes)
tail-over before rest bytes t = record { before = before ++ t.before; parts = ap (λ (l : List ℕ). before ++ l) t.parts ∙ sym (append_assoc before t.before rest) }

pub tail-behind : (before rest : List ℕ) → IsTail rest (before ++ rest)
tail-behind before rest = record { before = before; parts = refl }

pub tail-of : (before rest bytes : List ℕ) → bytes ≡ before ++ rest → IsTail rest bytes
tail-of before rest bytes e = record { before = before; parts = e }

pub tail-trans : (rest middle bytes : List ℕ) → IsTail rest middle → IsTail middle bytes → IsTail rest bytes
tail-trans rest middle bytes t u = rw u.parts (tail-over u.before rest middle t)

pub tail-one : (bytes : List ℕ) → IsTail (drop 1 bytes) bytes
tail-one [] = tail-self []
tail-one (b ∷ bytes) = tail-cons b bytes bytes (tail-self bytes)

pub tail-nil : (bytes : List ℕ) → IsTail [] bytes
tail-nil bytes = record { before = bytes; parts = sym (append-nil bytes) }

pub tail-length : (rest bytes : List ℕ) → IsTail rest bytes → length rest ≤ length bytes
tail-length rest bytes t = let e = ap length t.parts in omega (arith, e, length-append t.before rest)

pub tail-same : (rest other bytes : List ℕ) → rest ≡ other → IsTail rest bytes → IsTail other bytes
tail-same rest other bytes e t = rw (← e) t

pub tail-blanks : (rest text : List ℕ) → Blanks rest text → IsTail rest text
tail-blanks rest _ g.ended = tail-self rest
tail-blanks rest _ (g.white b text w h) = tail-cons b rest text (tail-blanks rest text h)
tail-blanks rest _ (g.line comment text n h) = tail-over (47 ∷ 47 ∷ comment) rest (10 ∷ text) (tail-cons 10 rest text (tail-blanks rest text h))
tail-blanks rest _ (g.last_line comment n e) = tail-same [] rest (47 ∷ 47 ∷ comment) (sym e) (tail-nil (47 ∷ 47 ∷ comment))
tail-blanks rest _ (g.block comment text n h) = tail-over (47 ∷ 42 ∷ comment) rest (42 ∷ 47 ∷ text) (tail-cons 42 rest (47 ∷ text) (tail-cons 47 rest text (tail-blanks rest text h)))
