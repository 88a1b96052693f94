-- What is written is UTF-8.
use Rattle.std.proofs.Common.{◌≡◌, ℕ, zero, suc, ◌≤◌, ◌<◌, ◌+◌, ◌/◌, cond, Bool, true, false, ltb, List, [], ◌∷◌, ◌++◌, get_or, Option, Some, None, refl, subst, arith}
use Rattle.std.specs.Prelude.{IsUtf8, IfSome}
use Rattle.std.specs.List.{flat_map}
use Rattle.std.proofs.lemmas.List.{append-nil}
use Rattle.std.proofs.lemmas.Grind.{flat_map-append}
use Rattle.std.proofs.lemmas.Bool.{ltb-true}
use Rattle.std.proofs.lemmas.Bool.Decides.{nat_tests}
use Rattle.std.proofs.lemmas.Str.{IsUtf8-append, IsUtf8-nil, IsUtf8-encode, IsUtf8-from_ascii, encode_ascii}
use lib.Utf8.{encode, encodes, scalar, scalars, next}
use Rattle.nm_yang.specs.Tree.{Tree, Trees, statement, none, more}
use Rattle.nm_yang.specs.Written.{escape_of, written, written_argument, written_end, written_each, CanHave, CanHold, CanHoldEach}
use Rattle.nm_yang.proofs.Again.{and_true}
use Rattle.nm_yang.proofs.Quoted.{line, tab, quote, backslash, other, form, escape_of-other}

below : (b i : ℕ) → b < 128 → get_or (b ∷ []) i 0 < 128
below b zero h = h
below b (suc i) h = omega arith

one : (b : ℕ) → b < 128 → IsUtf8 (b ∷ [])
one b h = IsUtf8-from_ascii (b ∷ []) (λ i. below b i h)

-- two ASCII bytes
pair : (b c : ℕ) → b < 128 → c < 128 → IsUtf8 (b ∷ c ∷ [])
pair b c h i = IsUtf8-append (b ∷ []) (c ∷ []) (one b h) (one c i)

big : (b : ℕ) → 128 ≤ b → escape_of b ≡ b ∷ []
big b h = escape_of-other b (grind (arith, nat_tests)) (grind (arith, nat_tests)) (grind (arith, nat_tests)) (grind (arith, nat_tests))

escape_of-utf8 : (b : ℕ) → b < 128 → IsUtf8 (escape_of b)
escape_of-utf8 b h =
    elim (form b) [
      | line e ↦ rw e (pair 92 110 (omega arith) (omega arith))
      | tab e ↦ rw e (pair 92 116 (omega arith) (omega arith))
      | quote e ↦ rw e (pair 92 34 (omega arith) (omega arith))
      | backslash e ↦ rw e (pair 92 92 (omega arith) (omega arith))
      | other e f g s ↦ rw (escape_of-other b e f g s) (one b h)
    ]

shapes : (c : ℕ) (p q : Bool) → flat_map escape_of (cond p ((192 + c / 64) ∷ next c ∷ []) (cond q ((224 + c / 4096) ∷ next (c / 64) ∷ next c ∷ []) ((240 + c / 262144) ∷ next (c / 4096) ∷ next (c / 64) ∷ next c ∷ [])))
    ≡ cond p ((192 + c / 64) ∷ next c ∷ []) (cond q ((224 + c / 4096) ∷ next (c / 64) ∷ next c ∷ []) ((240 + c / 262144) ∷ next (c / 4096) ∷ next (c / 64) ∷ next c ∷ []))
shapes c true q = rw (big (192 + c / 64) (omega arith), big (next c) (omega arith)) refl
shapes c false true = rw (big (224 + c / 4096) (omega arith), big (next (c / 64)) (omega arith), big (next c) (omega arith)) refl
shapes c false false = rw (big (240 + c / 262144) (omega arith), big (next (c / 4096)) (omega arith), big (next (c / 64)) (omega arith), big (next c) (omega arith)) refl

encode-big : (c : ℕ) → ltb c 128 ≡ false → flat_map escape_of (encode c) ≡ encode c
unfolding encode
encode-big c h = rw h (shapes c (ltb c 2048) (ltb c 65536))

character : (c : ℕ) → scalar c ≡ true → (small : Bool) → ltb c 128 ≡ small → IsUtf8 (flat_map escape_of (encode c))
character c h true is =
    let lt = ltb-true c 128 is in
    rw (encode_ascii c lt, append-nil) (escape_of-utf8 c lt)
character c h false is = rw (encode-big c is) (IsUtf8-encode c h)

characters : (cs : List ℕ) → scalars cs ≡ true → IsUtf8 (flat_map escape_of (encodes cs))
characters [] h = IsUtf8-nil
characters (c ∷ cs) h =
    let p = and_true (scalar c) (scalars cs) h in
    rw flat_map-append (IsUtf8-append (flat_map escape_of (encode c)) (flat_map escape_of (encodes cs)) (character c p.0 (ltb c 128) refl) (characters cs p.1))

escapes-utf8 : (a : List ℕ) → IsUtf8 a → IsUtf8 (flat_map escape_of a)
escapes-utf8 a h = subst (λ (l : List ℕ). IsUtf8 (flat_map escape_of l)) h.1.1 (characters h.0 h.1.0)

argument-utf8 : (argument : Option (List ℕ)) → IfSome argument IsUtf8 → IsUtf8 (written_argument argument)
argument-utf8 None h = IsUtf8-nil
argument-utf8 (Some a) h = IsUtf8-append (32 ∷ 34 ∷ []) (flat_map escape_of a ++ 34 ∷ []) (pair 32 34 (omega arith) (omega arith)) (IsUtf8-append (flat_map escape_of a) (34 ∷ []) (escapes-utf8 a h) (one 34 (omega arith)))

mutual
  unfolding written written_end written_each

  pub written-utf8 : (t : Tree) (d : ℕ) → CanHave d t → IsUtf8 (written t)
  written-utf8 (statement k argument place ts) d h = IsUtf8-append k (written_argument argument ++ written_end ts) h.1 (IsUtf8-append (written_argument argument) (written_end ts) (argument-utf8 argument h.2) (written_end-utf8 ts d h.3))

  written_end-utf8 : (ts : Trees) (d : ℕ) → CanHold d ts → IsUtf8 (written_end ts)
  written_end-utf8 none d h = one 59 (omega arith)
  written_end-utf8 (more t ts) zero h = absurd h
  written_end-utf8 (more t ts) (suc d) h =
      let rest = IsUtf8-append (written_each ts) (125 ∷ []) (written_each-utf8 ts d h.1) (one 125 (omega arith)) in
      let each = IsUtf8-append (written t) (32 ∷ (written_each ts ++ 125 ∷ [])) (written-utf8 t d h.0) (IsUtf8-append (32 ∷ []) (written_each ts ++ 125 ∷ []) (one 32 (omega arith)) rest) in
      IsUtf8-append (32 ∷ 123 ∷ []) (32 ∷ (written t ++ 32 ∷ (written_each ts ++ 125 ∷ []))) (pair 32 123 (omega arith) (omega arith)) (IsUtf8-append (32 ∷ []) (written t ++ 32 ∷ (written_each ts ++ 125 ∷ [])) (one 32 (omega arith)) each)

  written_each-utf8 : (ts : Trees) (d : ℕ) → CanHoldEach d ts → IsUtf8 (written_each ts)
  written_each-utf8 none d h = IsUtf8-nil
  written_each-utf8 (more t ts) d h = IsUtf8-append (written t) (32 ∷ written_each ts) (written-utf8 t d h.0) (IsUtf8-append (32 ∷ []) (written_each ts) (one 32 (omega arith)) (written_each-utf8 ts d h.1))
