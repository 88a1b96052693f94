-- Words and strings of a text hold whole characters.
use Rattle.std.proofs.Common.{◌≡◌, ℕ, zero, suc, ◌+◌, ◌-◌, ◌/◌, ◌≤◌, ◌<◌, Bool, true, false, cond, eqb, ltb, List, [], ◌∷◌, ◌++◌, length, drop, get_or, refl, sym, ap, subst, ◌∙◌, append_assoc, arith, length-append}
use Rattle.std.specs.Prelude.{◌&&◌, IsUtf8}
use Rattle.std.proofs.lemmas.Bool.{ltb-true}
use Rattle.std.proofs.lemmas.Bool.Decides.{nat_tests}
use Rattle.std.proofs.lemmas.List.{take_at, drop_at, get_or_at}
use Rattle.std.proofs.lemmas.Str.{IsUtf8-append, IsUtf8-nil, IsUtf8-encode, IsUtf8-from_ascii, IsUtf8-take, IsUtf8-drop, IsCharBoundary-before_ascii, IsCharBoundary-after_ascii, encode_ascii}
use lib.Utf8.{encode, encodes, scalar, scalars, next}
use Rattle.nm_yang.specs.Page.{Page, column_of}
use Rattle.nm_yang.specs.Quote.{escaped, is_loose, begins_escape}
use Rattle.nm_yang.specs.Grammar as g
use Rattle.nm_yang.specs.Grammar.{breaks, spoken, IsString}
use Rattle.nm_yang.proofs.Quotes.{and_false}
use Rattle.nm_yang.proofs.Again.{and_true}
use Rattle.nm_yang_laws.proofs.Goods.{by-cond}

below : (b i : ℕ) → b < 128 → get_or (b ∷ []) i 0 < 128
below b zero h = h
below b (suc i) h = omega arith

pub one-utf8 : (b : ℕ) → b < 128 → IsUtf8 (b ∷ [])
one-utf8 b h = IsUtf8-from_ascii (b ∷ []) (λ i. below b i h)

-- ---- a text is cut at an ASCII byte

pub before-ascii : (before rest : List ℕ) (b : ℕ) → b < 128 → IsUtf8 (before ++ b ∷ rest) → IsUtf8 before
before-ascii before rest b h u =
    let whole : List ℕ = before ++ b ∷ rest in
    let n : ℕ = length before in
    let l : n < length whole = omega (arith, length-append before (b ∷ rest)) in
    let g : get_or whole n 0 ≡ b = get_or_at before b rest 0 n refl in
    subst IsUtf8 (take_at before (b ∷ rest) n refl) (IsUtf8-take whole n u (IsCharBoundary-before_ascii whole n l (omega (arith, g, h))))

pub after-ascii : (before rest : List ℕ) (b : ℕ) → b < 128 → IsUtf8 (before ++ b ∷ rest) → IsUtf8 rest
after-ascii before rest b h u =
    let whole : List ℕ = before ++ b ∷ rest in
    let n : ℕ = length before in
    let l : n < length whole = omega (arith, length-append before (b ∷ rest)) in
    let g : get_or whole n 0 ≡ b = get_or_at before b rest 0 n refl in
    let parts : whole ≡ (before ++ b ∷ []) ++ rest = sym (append_assoc before (b ∷ []) rest) in
    let d : drop (n + 1) whole ≡ rest = ap (drop (n + 1)) parts ∙ drop_at (before ++ b ∷ []) rest (n + 1) (length-append before (b ∷ [])) in
    subst IsUtf8 d (IsUtf8-drop whole (n + 1) u (IsCharBoundary-after_ascii whole n u l (omega (arith, g, h))))

-- ---- what stands between double quotes

-- what a byte means, before what those behind it mean
record Says (room : ℕ) (raw means : List ℕ) : Type 0 where
  pub piece : List ℕ
  pub left : ℕ
  pub behind : Bool
  pub is : means ≡ piece ++ spoken room left behind raw
  pub valid : IsUtf8 piece

says-one : (room left : ℕ) (behind : Bool) (b : ℕ) (raw : List ℕ) → b < 128 → Says room raw (b ∷ spoken room left behind raw)
says-one room left behind b raw h = record { piece = b ∷ []; left = left; behind = behind; is = refl; valid = one-utf8 b h }

says-none : (room left : ℕ) (behind : Bool) (raw : List ℕ) → Says room raw (spoken room left behind raw)
says-none room left behind raw = record { piece = []; left = left; behind = behind; is = refl; valid = IsUtf8-nil }

escaped-ascii : (b : ℕ) → b < 128 → escaped b < 128
escaped-ascii b h = by-cond (λ (n : ℕ). n < 128) (eqb b 110) 10 _ (λ e. omega arith) (λ e. by-cond (λ (n : ℕ). n < 128) (eqb b 116) 9 b (λ f. omega arith) (λ f. h))

low : (room left : ℕ) (behind : Bool) (b : ℕ) (raw : List ℕ) → b < 128 → Says room raw (spoken room left behind (b ∷ raw))
unfolding spoken
low room left true b raw h = says-one room 0 false (escaped b) raw (escaped-ascii b h)
low room left false b raw h =
    let P : List ℕ → Type 0 = λ r. Says room raw r in
    by-cond P (eqb b 10) _ _ (λ e. says-one room room false b raw h) (λ e.
    by-cond P (is_loose b && breaks raw) _ _ (λ e. says-none room 0 false raw) (λ e.
    by-cond P (ltb 0 left && eqb b 32) _ _ (λ e. says-none room (left - 1) false raw) (λ e.
    by-cond P (ltb 0 left && eqb b 9) _ _ (λ e. says-none room (left - 8) false raw) (λ e.
    by-cond P (eqb b 92 && begins_escape raw) _ _ (λ e. says-none room 0 true raw) (λ e. says-one room 0 false b raw h)))))

-- a byte that is not ASCII means itself
high : (room left : ℕ) (behind : Bool) (b : ℕ) (raw : List ℕ) → 128 ≤ b → spoken room left behind (b ∷ raw) ≡ b ∷ spoken room 0 false raw
unfolding spoken
high room left true b raw h =
    let n : eqb b 110 ≡ false = grind (arith, nat_tests) in
    let t : eqb b 116 ≡ false = grind (arith, nat_tests) in
    rw (n, t) refl
high room left false b raw h =
    let lf : eqb b 10 ≡ false = grind (arith, nat_tests) in
    let loose : is_loose b ≡ false = grind (arith, nat_tests) in
    let space : eqb b 32 ≡ false = grind (arith, nat_tests) in
    let tab : eqb b 9 ≡ false = grind (arith, nat_tests) in
    let slash : eqb b 92 ≡ false = grind (arith, nat_tests) in
    rw (lf, loose, and_false (ltb 0 left) (eqb b 32) space, and_false (ltb 0 left) (eqb b 9) tab, slash) refl

shapes : (room left : ℕ) (behind : Bool) (c : ℕ) (raw : List ℕ) (p q : Bool)
    → spoken room left behind (cond p ((192 + c / 64) ∷ next c ∷ []) (cond q ((224 + c / 4096) ∷ next (c / 64) ∷ next c ∷ []) ((240 + c / 262144) ∷ next (c / 4096) ∷ next (c / 64) ∷ next c ∷ [])) ++ raw)
    ≡ cond p ((192 + c / 64) ∷ next c ∷ []) (cond q ((224 + c / 4096) ∷ next (c / 64) ∷ next c ∷ []) ((240 + c / 262144) ∷ next (c / 4096) ∷ next (c / 64) ∷ next c ∷ [])) ++ spoken room 0 false raw
shapes room left behind c raw true q = rw (high room left behind (192 + c / 64) (next c ∷ raw) (omega arith), high room 0 false (next c) raw (omega arith)) refl
shapes room left behind c raw false true = rw (high room left behind (224 + c / 4096) (next (c / 64) ∷ next c ∷ raw) (omega arith), high room 0 false (next (c / 64)) (next c ∷ raw) (omega arith), high room 0 false (next c) raw (omega arith)) refl
shapes room left behind c raw false false =
    rw (high room left behind (240 + c / 262144) (next (c / 4096) ∷ next (c / 64) ∷ next c ∷ raw) (omega arith), high room 0 false (next (c / 4096)) (next (c / 64) ∷ next c ∷ raw) (omega arith), high room 0 false (next (c / 64)) (next c ∷ raw) (omega arith), high room 0 false (next c) raw (omega arith)) refl

high-char : (room left : ℕ) (behind : Bool) (c : ℕ) (raw : List ℕ) → ltb c 128 ≡ false → spoken room left behind (encode c ++ raw) ≡ encode c ++ spoken room 0 false raw
unfolding encode
high-char room left behind c raw h = rw h (shapes room left behind c raw (ltb c 2048) (ltb c 65536))

spoken-char : (room left : ℕ) (behind : Bool) (c : ℕ) (raw : List ℕ) (small : Bool) → ltb c 128 ≡ small → scalar c ≡ true → ((l : ℕ) (b : Bool) → IsUtf8 (spoken room l b raw)) → IsUtf8 (spoken room left behind (encode c ++ raw))
spoken-char room left behind c raw true is s h =
    let lt = ltb-true c 128 is in
    let l = low room left behind c raw lt in
    rw (encode_ascii c lt, l.is) (IsUtf8-append l.piece (spoken room l.left l.behind raw) l.valid (h l.left l.behind))
spoken-char room left behind c raw false is s h = rw (high-char room left behind c raw is) (IsUtf8-append (encode c) (spoken room 0 false raw) (IsUtf8-encode c s) (h 0 false))

spoken-nil : (room left : ℕ) (behind : Bool) → IsUtf8 (spoken room left behind [])
unfolding spoken
spoken-nil room left true = IsUtf8-nil
spoken-nil room left false = IsUtf8-nil

spoken-chars : (cs : List ℕ) → scalars cs ≡ true → (room left : ℕ) (behind : Bool) → IsUtf8 (spoken room left behind (encodes cs))
spoken-chars [] h room left behind = spoken-nil room left behind
spoken-chars (c ∷ cs) h room left behind =
    let p = and_true (scalar c) (scalars cs) h in
    spoken-char room left behind c (encodes cs) (ltb c 128) refl p.0 (λ l b. spoken-chars cs p.1 room l b)

spoken-utf8 : (raw : List ℕ) (room : ℕ) → IsUtf8 raw → IsUtf8 (spoken room 0 false raw)
spoken-utf8 raw room u = subst (λ (l : List ℕ). IsUtf8 (spoken room 0 false l)) u.1.1 (spoken-chars u.0 u.1.0 room 0 false)

-- ---- strings

pub record TextAt (value rest : List ℕ) : Type 0 where
  pub value_is : IsUtf8 value
  pub rest_is : IsUtf8 rest

between : (q : ℕ) (value rest : List ℕ) → q < 128 → IsUtf8 (q ∷ (value ++ q ∷ rest)) → TextAt value rest
between q value rest h u =
    let v : IsUtf8 (value ++ q ∷ rest) = after-ascii [] (value ++ q ∷ rest) q h u in
    record { value_is = before-ascii value rest q h v; rest_is = after-ascii value rest q h v }

pub string-utf8 : (page : Page) (text value rest : List ℕ) → IsString page text value rest → IsUtf8 text → TextAt value rest
string-utf8 page text value rest (g.single e h) u = between 39 value rest (omega arith) (subst IsUtf8 e u)
string-utf8 page text value rest (g.double raw e h v) u =
    let t = between 34 raw rest (omega arith) (subst IsUtf8 e u) in
    record { value_is = subst IsUtf8 (sym v) (spoken-utf8 raw (column_of page text + 1) t.value_is); rest_is = t.rest_is }
