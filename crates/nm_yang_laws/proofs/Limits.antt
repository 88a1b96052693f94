-- The arguments of a text that is UTF-8 are UTF-8.
use Rattle.std.proofs.Common.{◌≡◌, ℕ, zero, suc, ◌<◌, Bool, true, false, eqb, List, [], ◌∷◌, ◌++◌, length, drop, Result, Ok, Err, refl, sym, ap, subst, ◌∙◌, append_assoc, inl, inr, arith, codes}
use Rattle.std.specs.Prelude.{◌⊎◌, ◌||◌, IsUtf8}
use Rattle.std.proofs.lemmas.List.{append-nil}
use Rattle.std.proofs.lemmas.Bool.{eqb-true}
use Rattle.std.proofs.lemmas.Bool.Decides.{nat_tests}
use Rattle.std.proofs.lemmas.Str.{IsUtf8-append, IsUtf8-nil}
use Rattle.nm_yang.specs.declared.fault.Fault.{Fault}
use Rattle.nm_yang.specs.Tree.{Tree}
use Rattle.nm_yang.specs.Module.{most_deep}
use Rattle.nm_yang.specs.Page.{Page, with_front, ◌>>=◌}
use Rattle.nm_yang.specs.Byte.{begins, begins_quote, is_white, is_start, is_name, is_ending, opens_comment, closes_comment}
use Rattle.nm_yang.specs.Blank.{skip, plain}
use Rattle.nm_yang.specs.Quote.{string_at}
use Rattle.nm_yang.specs.Argument.{quote_at, piece_at, added_at, more_at, quoted_at}
use Rattle.nm_yang.specs.Grammar as g
use Rattle.nm_yang.specs.Grammar.{Blanks, Spells, keyword_of, names, IsIdentifier, IsKeyword, IsKeywordAt, IsWord, ends_word}
use Rattle.nm_yang.proofs.Again.{and_true}
use Rattle.nm_yang.proofs.Blanked.{blanks-takes}
use Rattle.nm_yang.proofs.Strings.{string-takes}
use Rattle.nm_yang.proofs.Arguments.{begins-is}
use Rattle.nm_yang_laws.proofs.Tails.{IsTail, tail-trans}
use Rattle.nm_yang_laws.proofs.Goods.{Known, NotText, word, quoted, by-cond}
use Rattle.nm_yang_laws.proofs.Quoted.{piece_end, added_quote, quoted_more, quote-begins, quote-same}
use Rattle.nm_yang_laws.proofs.Characters.{before-ascii, after-ascii, string-utf8}

-- ---- keywords and blanks

-- the last byte of a keyword
record Last (k : List ℕ) : Type 0 where
  pub before : List ℕ
  pub byte : ℕ
  pub parts : k ≡ before ++ byte ∷ []
  pub ascii : byte < 128

last-cons : (b : ℕ) (k : List ℕ) → Last k → Last (b ∷ k)
last-cons b k l = record { before = b ∷ l.before; byte = l.byte; parts = ap (λ (x : List ℕ). b ∷ x) l.parts; ascii = l.ascii }

names-last : (b : ℕ) (k : List ℕ) → b < 128 → names k ≡ true → Last (b ∷ k)
names-last b [] lt h = record { before = []; byte = b; parts = refl; ascii = lt }
names-last b (c ∷ k) lt h =
    let p = and_true (is_name c) (names k) h in
    let small : c < 128 = (let n = p.0 in grind (arith, nat_tests, n)) in
    last-cons b (c ∷ k) (names-last c k small p.1)

start-ascii : (b : ℕ) → is_start b ≡ true → b < 128
start-ascii b h = grind (arith, nat_tests)

identifier-last : (k : List ℕ) → IsIdentifier k → Last k
identifier-last [] h = absurd h
identifier-last (b ∷ k) h = names-last b k (start-ascii b h.0) h.1

keyword-last : (k : List ℕ) → IsKeyword k → Last k
keyword-last k h =
    elim h [
      | inl i ↦ identifier-last k i
      | inr i ↦
          let l = identifier-last i.1 i.4 in
          record { before = i.0 ++ 58 ∷ l.before; byte = l.byte; parts = i.2 ∙ ap (λ (x : List ℕ). i.0 ++ 58 ∷ x) l.parts ∙ sym (append_assoc i.0 (58 ∷ l.before) (l.byte ∷ [])); ascii = l.ascii }
    ]

-- what follows a keyword
keyword-utf8 : (page : Page) (text keyword start : List ℕ) → IsUtf8 page.text → IsTail text page.text → IsKeywordAt text keyword start → IsUtf8 start
keyword-utf8 page text keyword start u t k =
    let l = keyword-last keyword k.keyword_is in
    let a : text ≡ l.before ++ l.byte ∷ start = k.parts ∙ ap (λ (x : List ℕ). x ++ start) l.parts ∙ append_assoc l.before (l.byte ∷ []) start in
    let b : page.text ≡ (t.before ++ l.before) ++ l.byte ∷ start = t.parts ∙ ap (λ (x : List ℕ). t.before ++ x) a ∙ sym (append_assoc t.before l.before (l.byte ∷ start)) in
    after-ascii (t.before ++ l.before) start l.byte l.ascii (subst IsUtf8 b u)

white-ascii : (b : ℕ) → is_white b ≡ true → b < 128
white-ascii b h = grind (arith, nat_tests)

blanks-utf8 : (rest text : List ℕ) → Blanks rest text → IsUtf8 text → IsUtf8 rest
blanks-utf8 rest _ g.ended u = u
blanks-utf8 rest _ (g.white b text w h) u = blanks-utf8 rest text h (after-ascii [] text b (white-ascii b w) u)
blanks-utf8 rest _ (g.line comment text n h) u = blanks-utf8 rest text h (after-ascii (47 ∷ 47 ∷ comment) text 10 (omega arith) u)
blanks-utf8 rest _ (g.last_line comment n e) u = subst IsUtf8 (sym e) IsUtf8-nil
blanks-utf8 rest _ (g.block comment text n h) u = blanks-utf8 rest text h (after-ascii [] text 47 (omega arith) (after-ascii (47 ∷ 42 ∷ comment) (47 ∷ text) 42 (omega arith) u))

-- ---- strings that are joined

abbrev AllOk : {A : Type 0} → (A → Type 0) → Result A Fault → Type 0
AllOk P (Ok a) = P a
AllOk P (Err f) = Unit {0}

ok-bind : {A B : Type 0} (P : A → Type 0) (Q : B → Type 0) (r : Result A Fault) (next : A → Result B Fault) → AllOk P r → ((a : A) → r ≡ Ok a → P a → AllOk Q (next a)) → AllOk Q (r >>= next)
ok-bind P Q (Ok a) next h k = k a refl h
ok-bind P Q (Err f) next h k = tt

-- a value that is UTF-8, and what is left
abbrev IsRead : List ℕ × List ℕ → Type 0
IsRead s = IsUtf8 s.0 × IsUtf8 s.1

skip-utf8 : (page : Page) (bytes : List ℕ) → IsUtf8 bytes → AllOk IsUtf8 (skip page plain bytes)
skip-utf8 page bytes u = by-result (skip page plain bytes) refl
  where
    by-result : (r : Result (List ℕ) Fault) → skip page plain bytes ≡ r → AllOk IsUtf8 r
    by-result (Ok rest) e = blanks-utf8 rest bytes (blanks-takes page bytes rest e) u
    by-result (Err f) e = tt

piece_end-read : (page : Page) (s : List ℕ × List ℕ) → IsUtf8 s.0 → IsUtf8 s.1 → AllOk IsRead (piece_end page s)
piece_end-read page s v u = ok-bind IsUtf8 IsRead (skip page plain s.1) (λ rest. Ok (s.0, rest)) (skip-utf8 page s.1 u) (λ rest e w. (v, w))

piece-read : (page : Page) (bytes : List ℕ) → begins_quote bytes ≡ true → IsUtf8 bytes → AllOk IsRead (piece_at page bytes)
unfolding piece_at
piece-read page bytes q u = by-result (string_at page bytes) refl
  where
    by-result : (r : Result (List ℕ × List ℕ) Fault) → string_at page bytes ≡ r → AllOk IsRead (r >>= piece_end page)
    by-result (Ok s) e =
        let pair : string_at page bytes ≡ Ok (s.0, s.1) = e in
        let t = string-utf8 page bytes s.0 s.1 (string-takes page bytes s.0 s.1 q pair) u in
        piece_end-read page s t.value_is t.rest_is
    by-result (Err f) e = tt

plus-utf8 : (bytes : List ℕ) → begins bytes 43 ≡ true → IsUtf8 bytes → IsUtf8 (drop 1 bytes)
plus-utf8 bytes o u = after-ascii [] (drop 1 bytes) 43 (omega arith) (subst IsUtf8 (begins-is bytes 43 o) u)

added_quote-read : (page : Page) (ending : Fault) (next : List ℕ) → IsUtf8 next → AllOk IsRead (added_quote page ending next)
added_quote-read page ending next u = by-result (quote_at page ending next) refl
  where
    by-result : (r : Result (List ℕ) Fault) → quote_at page ending next ≡ r → AllOk IsRead (r >>= λ quote. piece_at page quote)
    by-result (Ok quote) e = piece-read page quote (quote-begins page ending next quote e) (subst IsUtf8 (quote-same page ending next quote e) u)
    by-result (Err f) e = tt

added-read : (page : Page) (ending : Fault) (bytes : List ℕ) → begins bytes 43 ≡ true → IsUtf8 bytes → AllOk IsRead (added_at page ending bytes)
unfolding added_at
added-read page ending bytes o u =
    ok-bind IsUtf8 IsRead (skip page plain (drop 1 bytes)) (added_quote page ending) (skip-utf8 page (drop 1 bytes) (plus-utf8 bytes o u)) (λ next e h. added_quote-read page ending next h)

front-read : (front : List ℕ) (r : Result (List ℕ × List ℕ) Fault) → IsUtf8 front → AllOk IsRead r → AllOk IsRead (with_front front r)
front-read front (Ok s) u h = (IsUtf8-append front s.0 u h.0, h.1)
front-read front (Err f) u h = tt

more-read : (page : Page) (ending : Fault) (n : ℕ) (bytes : List ℕ) → IsUtf8 bytes → AllOk IsRead (more_at page ending n bytes)
unfolding more_at
more-read page ending zero bytes u = (IsUtf8-nil, u)
more-read page ending (suc n) bytes u =
    by-cond (λ (r : Result (List ℕ × List ℕ) Fault). AllOk IsRead r) (begins bytes 43) _ _
    (λ o. ok-bind IsRead IsRead (added_at page ending bytes) (λ s. with_front s.0 (more_at page ending n s.1)) (added-read page ending bytes o u) (λ s e h. front-read s.0 (more_at page ending n s.1) h.0 (more-read page ending n s.1 h.1)))
    (λ o. (IsUtf8-nil, u))

quoted-read : (page : Page) (ending : Fault) (bytes : List ℕ) → begins_quote bytes ≡ true → IsUtf8 bytes → AllOk IsRead (quoted_at page ending bytes)
unfolding quoted_at
quoted-read page ending bytes q u =
    ok-bind IsRead IsRead (piece_at page bytes) (quoted_more page ending) (piece-read page bytes q u) (λ s e h. front-read s.0 (more_at page ending (length s.1) s.1) h.0 (more-read page ending (length s.1) s.1 h.1))

-- ---- words

ends-ascii : (b : ℕ) (rest : List ℕ) → ends_word (b ∷ rest) ≡ true → b < 128
ends-ascii b rest h =
    elim (either (is_ending b || opens_comment b rest) (closes_comment b rest) h) [
      | inl e ↦
          elim (either (is_ending b) (opens_comment b rest) e) [
            | inl a ↦ ending-ascii b a
            | inr o ↦ (let x = eqb-true b 47 (and_true (eqb b 47) (begins rest 47 || begins rest 42) o).0 in omega (arith, x))
          ]
      | inr c ↦ (let x = eqb-true b 42 (and_true (eqb b 42) (begins rest 47) c).0 in omega (arith, x))
    ]
  where
    either : (p q : Bool) → (p || q) ≡ true → (p ≡ true) ⊎ (q ≡ true)
    either true q e = inl refl
    either false q e = inr e

    ending-ascii : (b : ℕ) → is_ending b ≡ true → b < 128
    ending-ascii b h = grind (arith, nat_tests)

word-ends : (w after : List ℕ) → IsWord w after → ends_word after ≡ true
word-ends [] after h = h.0
word-ends (b ∷ w) after h = word-ends w after h.1

word-utf8 : (rest w after : List ℕ) → rest ≡ w ++ after → IsWord w after → IsUtf8 rest → IsUtf8 w
word-utf8 rest w [] e h u = subst IsUtf8 (e ∙ append-nil w) u
word-utf8 rest w (a ∷ after) e h u = before-ascii w after a (ends-ascii a after (word-ends w (a ∷ after) h)) (subst IsUtf8 e u)

ok-value : (r : Result (List ℕ × List ℕ) Fault) (value after : List ℕ) → r ≡ Ok (value, after) → AllOk IsRead r → IsUtf8 value
ok-value r value after e h = (subst (λ (x : Result (List ℕ × List ℕ) Fault). AllOk IsRead x) e h).0

no-text : (page : Page) (rest : List ℕ) → NotText page rest → IsUtf8 rest → ⊥
no-text page rest (word w after e h n) u = n (word-utf8 rest w after e h u)
no-text page rest (quoted ending value after q e n) u = n (ok-value (quoted_at page ending rest) value after e (quoted-read page ending rest q u))

pub argument-utf8 : (page : Page) → IsUtf8 page.text → (text keyword start rest : List ℕ) → IsTail text page.text → IsKeywordAt text keyword start → Blanks rest start → NotText page rest → ⊥
argument-utf8 page u text keyword start rest t k b n = no-text page rest n (blanks-utf8 rest start b (keyword-utf8 page text keyword start u t k))

-- another statement than a module stands first
pub record OtherKeyword (page : Page) : Type 0 where
  pub start : List ℕ
  pub keyword : List ℕ
  pub after : List ℕ
  pub blanks : Blanks start page.text
  pub keyword_is : IsKeywordAt start keyword after
  pub other : keyword ≡ codes "module" → ⊥

pub other-keyword : (page : Page) (start keyword after : List ℕ) → Blanks start page.text → IsKeywordAt start keyword after → (keyword ≡ codes "module" → ⊥) → OtherKeyword page
other-keyword page start keyword after b k n = record { start = start; keyword = keyword; after = after; blanks = b; keyword_is = k; other = n }

-- a module stands before the rest
pub record AfterModule (page : Page) (rest : List ℕ) : Type 0 where
  pub start : List ℕ
  pub after : List ℕ
  pub tree : Tree
  pub before : Blanks start page.text
  pub spells : Spells page most_deep start after tree
  pub named : keyword_of tree ≡ codes "module"
  pub behind : Blanks rest after

pub after-module : (page : Page) (start after rest : List ℕ) (t : Tree) → Blanks start page.text → Spells page most_deep start after t → keyword_of t ≡ codes "module" → Blanks rest after → AfterModule page rest
after-module page start after rest t b s k e = record { start = start; after = after; tree = t; before = b; spells = s; named = k; behind = e }

-- what is known of a page whose text is UTF-8
abbrev pub whole_page : (page : Page) → IsUtf8 page.text → Known
whole_page page u = record { page = page; At = λ bytes. IsTail bytes page.text; NoText = λ rest. ⊥; Other = OtherKeyword page; Trail = AfterModule page; behind = λ rest bytes t a. tail-trans rest bytes page.text t a; argument = argument-utf8 page u; other = other-keyword page; trail = after-module page }
