-- What stands between quotes.
use Rattle.std.proofs.Common.{◌≡◌, ℕ, ◌≤◌, ◌<◌, ◌-◌, Bool, true, false, eqb, ltb, List, [], ◌∷◌, ◌++◌, take, drop, length, get_or, refl, ap, sym, subst, ◌∙◌, append_assoc, arith}
use Rattle.std.specs.Prelude.{◌&&◌, ◌||◌}
use Rattle.std.proofs.lemmas.List.{take-append-drop, take-append-le, drop-append-le, take_rest, append-nil}
use Rattle.std.proofs.Math.Seq.{take-append_seam, drop-append_seam}
use Rattle.nm_yang.specs.Quote.{meaning, begins_escape, escaped, is_loose}

-- a list that was cut, and what follows it
pub rejoined : (s : ℕ) (xs x : List ℕ) → take s xs ++ (drop s xs ++ x) ≡ xs ++ x
rejoined s xs x = sym (append_assoc (take s xs) (drop s xs) x) ∙ ap (λ (l : List ℕ). l ++ x) (take-append-drop s xs)

-- a list that is all kept
whole : (xs : List ℕ) (f : List ℕ → List ℕ) → take (length xs) xs ++ f (drop (length xs) xs) ≡ xs ++ f []
whole xs f =
    let t : take (length xs) xs ≡ xs = ap (take (length xs)) (sym (append-nil xs)) ∙ take-append_seam xs [] in
    let d : drop (length xs) xs ≡ [] = ap (drop (length xs)) (sym (append-nil xs)) ∙ drop-append_seam xs [] in
    rw (t, d) refl

pub or_false : (a b : Bool) → (a || b) ≡ false → (a ≡ false) × (b ≡ false)
or_false true b e = absurd cc
or_false false b e = (refl, e)

pub and_false : (a b : Bool) → b ≡ false → (a && b) ≡ false
and_false true b e = e
and_false false b e = refl

pub meaning-escape : (room left : ℕ) (loose tail : List ℕ) → begins_escape tail ≡ true → meaning room left false loose (92 ∷ tail) ≡ loose ++ meaning room 0 true [] tail
unfolding meaning
meaning-escape room left loose tail h = rw (and_false (ltb 0 left) false refl, h) refl

pub meaning-other : (room left b : ℕ) (loose tail : List ℕ) → eqb b 10 ≡ false → is_loose b ≡ false → (eqb b 92 && begins_escape tail) ≡ false → meaning room left false loose (b ∷ tail) ≡ loose ++ b ∷ meaning room 0 false [] tail
unfolding meaning
meaning-other room left b loose tail line blank escape =
    let p = or_false (eqb b 32 || eqb b 9) (eqb b 13) blank in
    let q = or_false (eqb b 32) (eqb b 9) p.0 in
    rw (line, and_false (ltb 0 left) (eqb b 32) q.0, and_false (ltb 0 left) (eqb b 9) q.1, blank, escape) refl

pub kept_escape : (room left solid : ℕ) (backslash : Bool) (out rest total : List ℕ) → 1 ≤ length rest → backslash ≡ false → get_or rest 0 0 ≡ 92 → begins_escape (take (length rest - 1) (drop 1 rest)) ≡ true
    → take solid out ++ meaning room left backslash (drop solid out) rest ≡ total → take (length out) out ++ meaning room 0 true (drop (length out) out) (take (length rest - 1) (drop 1 rest)) ≡ total
kept_escape room left solid backslash out [] total le off is escape so_far = absurd (omega arith)
kept_escape room left solid backslash out (b ∷ tail) total le off is escape so_far =
    let t : take (length (b ∷ tail) - 1) tail ≡ tail = take_rest (b ∷ tail) 1 in
    let e : begins_escape tail ≡ true = subst (λ (l : List ℕ). begins_escape l ≡ true) t escape in
    let one : take solid out ++ meaning room left backslash (drop solid out) (b ∷ tail) ≡ out ++ meaning room 0 true [] tail =
    rw (off, is, meaning-escape room left (drop solid out) tail e) (rejoined solid out (meaning room 0 true [] tail)) in
    rw t (whole out (λ l. meaning room 0 true l tail) ∙ sym one ∙ so_far)

pub kept_other : (room left solid : ℕ) (backslash : Bool) (out rest total : List ℕ) → 1 ≤ length rest → backslash ≡ false → eqb (get_or rest 0 0) 10 ≡ false → is_loose (get_or rest 0 0) ≡ false → (eqb (get_or rest 0 0) 92 && begins_escape (take (length rest - 1) (drop 1 rest))) ≡ false
    → take solid out ++ meaning room left backslash (drop solid out) rest ≡ total
    → take (length (out ++ get_or rest 0 0 ∷ [])) (out ++ get_or rest 0 0 ∷ []) ++ meaning room 0 backslash (drop (length (out ++ get_or rest 0 0 ∷ [])) (out ++ get_or rest 0 0 ∷ [])) (take (length rest - 1) (drop 1 rest)) ≡ total
kept_other room left solid backslash out [] total le off line blank escape so_far = absurd (omega arith)
kept_other room left solid backslash out (b ∷ tail) total le off line blank escape so_far =
    let t : take (length (b ∷ tail) - 1) tail ≡ tail = take_rest (b ∷ tail) 1 in
    let e : (eqb b 92 && begins_escape tail) ≡ false = subst (λ (l : List ℕ). (eqb b 92 && begins_escape l) ≡ false) t escape in
    let one : take solid out ++ meaning room left backslash (drop solid out) (b ∷ tail) ≡ out ++ b ∷ meaning room 0 false [] tail =
    rw (off, meaning-other room left b (drop solid out) tail line blank e) (rejoined solid out (b ∷ meaning room 0 false [] tail)) in
    rw (t, off) (whole (out ++ b ∷ []) (λ l. meaning room 0 false l tail) ∙ append_assoc out (b ∷ []) (meaning room 0 false [] tail) ∙ sym one ∙ so_far)

-- after a backslash, and at a line break
pub kept_after : (room left solid : ℕ) (backslash : Bool) (out rest total : List ℕ) → 1 ≤ length rest → backslash ≡ true → solid ≡ length out
    → take solid out ++ meaning room left backslash (drop solid out) rest ≡ total
    → take (length (out ++ escaped (get_or rest 0 0) ∷ [])) (out ++ escaped (get_or rest 0 0) ∷ []) ++ meaning room 0 false (drop (length (out ++ escaped (get_or rest 0 0) ∷ [])) (out ++ escaped (get_or rest 0 0) ∷ [])) (take (length rest - 1) (drop 1 rest)) ≡ total
unfolding meaning
kept_after room left solid backslash out [] total le on end so_far = absurd (omega arith)
kept_after room left solid backslash out (b ∷ tail) total le on end so_far =
    let t : take (length (b ∷ tail) - 1) tail ≡ tail = take_rest (b ∷ tail) 1 in
    let one : take solid out ++ meaning room left backslash (drop solid out) (b ∷ tail) ≡ out ++ escaped b ∷ meaning room 0 false [] tail =
    rw (on, end) (whole out (λ _. escaped b ∷ meaning room 0 false [] tail)) in
    rw t (whole (out ++ escaped b ∷ []) (λ l. meaning room 0 false l tail) ∙ append_assoc out (escaped b ∷ []) (meaning room 0 false [] tail) ∙ sym one ∙ so_far)

pub kept_line : (room left solid : ℕ) (backslash : Bool) (out rest total : List ℕ) → 1 ≤ length rest → backslash ≡ false → get_or rest 0 0 ≡ 10
    → take solid out ++ meaning room left backslash (drop solid out) rest ≡ total
    → take (length (take solid out ++ get_or rest 0 0 ∷ [])) (take solid out ++ get_or rest 0 0 ∷ []) ++ meaning room room backslash (drop (length (take solid out ++ get_or rest 0 0 ∷ [])) (take solid out ++ get_or rest 0 0 ∷ [])) (take (length rest - 1) (drop 1 rest)) ≡ total
unfolding meaning
kept_line room left solid backslash out [] total le off is so_far = absurd (omega arith)
kept_line room left solid backslash out (b ∷ tail) total le off is so_far =
    let t : take (length (b ∷ tail) - 1) tail ≡ tail = take_rest (b ∷ tail) 1 in
    let one : take solid out ++ meaning room left backslash (drop solid out) (b ∷ tail) ≡ take solid out ++ b ∷ meaning room room false [] tail = rw (off, is) refl in
    rw (t, off) (whole (take solid out ++ b ∷ []) (λ l. meaning room room false l tail) ∙ append_assoc (take solid out) (b ∷ []) (meaning room room false [] tail) ∙ sym one ∙ so_far)

-- at a blank that may go, and at the end
pub kept_loose : (room left solid : ℕ) (backslash : Bool) (out rest total : List ℕ) → 1 ≤ length rest → solid ≤ length out → backslash ≡ false → eqb (get_or rest 0 0) 10 ≡ false
    → (ltb 0 left && eqb (get_or rest 0 0) 32) ≡ false → (ltb 0 left && eqb (get_or rest 0 0) 9) ≡ false → is_loose (get_or rest 0 0) ≡ true
    → take solid out ++ meaning room left backslash (drop solid out) rest ≡ total
    → take solid (out ++ get_or rest 0 0 ∷ []) ++ meaning room 0 backslash (drop solid (out ++ get_or rest 0 0 ∷ [])) (take (length rest - 1) (drop 1 rest)) ≡ total
unfolding meaning
kept_loose room left solid backslash out [] total le within off line space tab blank so_far = absurd (omega arith)
kept_loose room left solid backslash out (b ∷ tail) total le within off line space tab blank so_far =
    let t : take (length (b ∷ tail) - 1) tail ≡ tail = take_rest (b ∷ tail) 1 in
    let kept : take solid (out ++ b ∷ []) ≡ take solid out = take-append-le solid out (b ∷ []) within in
    let loose : drop solid (out ++ b ∷ []) ≡ drop solid out ++ b ∷ [] = drop-append-le solid out (b ∷ []) within in
    let one : take solid out ++ meaning room left backslash (drop solid out) (b ∷ tail) ≡ take solid out ++ meaning room 0 false (drop solid out ++ b ∷ []) tail = rw (off, line, space, tab, blank) refl in
    rw (t, off, kept, loose) (sym one ∙ so_far)

pub kept_end : (room left solid : ℕ) (backslash : Bool) (out rest total : List ℕ) → length rest < 1 → take solid out ++ meaning room left backslash (drop solid out) rest ≡ total → out ≡ total
unfolding meaning
kept_end room left solid true out [] total lt so_far = sym (take-append-drop solid out) ∙ so_far
kept_end room left solid false out [] total lt so_far = sym (take-append-drop solid out) ∙ so_far
kept_end room left solid backslash out (b ∷ tail) total lt so_far = absurd (omega (arith, lt))
