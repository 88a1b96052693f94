-- White space and comments: what is skipped are blanks, and blanks are skipped.
use Rattle.std.proofs.Common.{◌≡◌, ℕ, Bool, true, false, cond, eqb, List, [], ◌∷◌, ◌++◌, Result, Ok, refl, sym, ap, subst, ◌∙◌, inl, inr}
use Rattle.std.specs.Prelude.{◌&&◌, ◌||◌, ◌⊎◌}
use Rattle.std.proofs.lemmas.Bool.{eqb-true}
use Rattle.nm_yang.specs.declared.fault.Fault.{Fault}
use Rattle.nm_yang.specs.Page.{Page, place_of}
use Rattle.nm_yang.specs.Byte.{is_white, begins, opens_comment}
use Rattle.nm_yang.specs.Blank.{Mode, plain, line, star, block, skip}
use Rattle.nm_yang.specs.Grammar as g
use Rattle.nm_yang.specs.Grammar.{Blanks, has, has_close}
use Rattle.nm_yang.proofs.Quotes.{or_false, and_false}
use Rattle.nm_yang.proofs.Again.{and_true}

-- what does not begin with a blank
abbrev pub Firm : List ℕ → Type 0
Firm [] = Unit {0}
Firm (b ∷ rest) = (is_white b ≡ false) × (opens_comment b rest ≡ false)

and_off : (a b : Bool) → (a && b) ≡ false → a ≡ true → b ≡ false
and_off true b e h = e
and_off false b e h = absurd cc

or_left : (a b c : Bool) → (a && (b || c)) ≡ false → ((a && b) ≡ false) × ((a && c) ≡ false)
or_left true b c e = or_false b c e
or_left false b c e = (refl, refl)

firm-skip : (page : Page) (rest : List ℕ) → Firm rest → skip page plain rest ≡ Ok rest
unfolding skip
firm-skip page [] h = refl
firm-skip page (b ∷ rest) h =
    let o = or_left (eqb b 47) (begins rest 47) (begins rest 42) h.1 in
    rw (h.0, o.0, o.1) refl

line-skip : (page : Page) (comment text : List ℕ) → has 10 comment ≡ false → skip page line (comment ++ 10 ∷ text) ≡ skip page plain text
unfolding skip
line-skip page [] text h = refl
line-skip page (b ∷ comment) text h =
    let o = or_false (eqb b 10) (has 10 comment) h in
    rw o.0 (line-skip page comment text o.1)

last-skip : (page : Page) (comment : List ℕ) → has 10 comment ≡ false → skip page line comment ≡ Ok []
unfolding skip
last-skip page [] h = refl
last-skip page (b ∷ comment) h =
    let o = or_false (eqb b 10) (has 10 comment) h in
    rw o.0 (last-skip page comment o.1)

begins-before : (comment text : List ℕ) → begins comment 47 ≡ false → begins (comment ++ 42 ∷ text) 47 ≡ false
begins-before [] text h = refl
begins-before (b ∷ comment) text h = h

block-skip : (page : Page) (opener : ℕ) (starred : Bool) (comment text : List ℕ) → has_close comment ≡ false → (starred ≡ true → begins (comment ++ 42 ∷ 47 ∷ text) 47 ≡ false) → skip page (block opener starred) (comment ++ 42 ∷ 47 ∷ text) ≡ skip page plain text
unfolding skip
block-skip page opener starred [] text h s = rw (and_false starred false refl) refl
block-skip page opener true (b ∷ comment) text h s =
    let o = or_false (eqb b 42 && begins comment 47) (has_close comment) h in
    rw (s refl) (block-skip page opener (eqb b 42) comment text o.1 (λ e. begins-before comment (47 ∷ text) (and_off (eqb b 42) (begins comment 47) o.0 e)))
block-skip page opener false (b ∷ comment) text h s =
    let o = or_false (eqb b 42 && begins comment 47) (has_close comment) h in
    block-skip page opener (eqb b 42) comment text o.1 (λ e. begins-before comment (47 ∷ text) (and_off (eqb b 42) (begins comment 47) o.0 e))

-- blanks are skipped
pub blanks-again : (page : Page) (rest text : List ℕ) → Blanks rest text → Firm rest → skip page plain text ≡ Ok rest
unfolding skip
blanks-again page rest _ g.ended f = firm-skip page rest f
blanks-again page rest _ (g.white b text w h) f = rw w (blanks-again page rest text h f)
blanks-again page rest _ (g.line comment text n h) f = line-skip page comment text n ∙ blanks-again page rest text h f
blanks-again page rest _ (g.last_line comment n e) f = last-skip page comment n ∙ ap (λ (r : List ℕ). Ok r) (sym e)
blanks-again page rest _ (g.block comment text n h) f = block-skip page _ false comment text n (λ e. absurd cc) ∙ blanks-again page rest text h f

-- ---- what is skipped

abbrev starred_bytes : Bool → List ℕ → List ℕ
starred_bytes true text = 42 ∷ text
starred_bytes false text = text

record BlockRest (starred : Bool) (rest text : List ℕ) : Type 0 where
  pub comment : List ℕ
  pub after : List ℕ
  pub parts : starred_bytes starred text ≡ comment ++ 42 ∷ 47 ∷ after
  pub open_ : has_close comment ≡ false
  pub blanks : Blanks rest after

record LineRest (rest text : List ℕ) : Type 0 where
  pub comment : List ℕ
  pub after : List ℕ
  pub parts : text ≡ comment ++ 10 ∷ after
  pub one : has 10 comment ≡ false
  pub blanks : Blanks rest after

record LastRest (rest text : List ℕ) : Type 0 where
  pub one : has 10 text ≡ false
  pub rest_is : rest ≡ []

abbrev InMode : Mode → List ℕ → List ℕ → Type 0
InMode plain rest text = Blanks rest text
InMode line rest text = LineRest rest text ⊎ LastRest rest text
InMode (star opener) rest text = (b : ℕ) × (within : List ℕ) × (text ≡ b ∷ within) × BlockRest false rest within
InMode (block opener starred) rest text = BlockRest starred rest text

abbrev done : List ℕ → Result (List ℕ) Fault
done x = Ok x

ok_is : (x y : List ℕ) → done x ≡ done y → x ≡ y
ok_is x y e = cc

-- the next mode's rest, with the byte before it
with_line : (b : ℕ) (rest text : List ℕ) → eqb b 10 ≡ false → InMode line rest text → InMode line rest (b ∷ text)
with_line b rest text off h =
    elim h [
      | inl l ↦ inl (record { comment = b ∷ l.comment; after = l.after; parts = ap (λ (t : List ℕ). b ∷ t) l.parts; one = rw (off, l.one) refl; blanks = l.blanks })
      | inr l ↦ inr (record { one = rw (off, l.one) refl; rest_is = l.rest_is })
    ]

-- a `*` before a comment's text that does not begin with `/`
star-open : (b : ℕ) (text comment after : List ℕ) → eqb b 47 ≡ false → b ∷ text ≡ comment ++ 42 ∷ 47 ∷ after → has_close comment ≡ false → has_close (42 ∷ comment) ≡ false
star-open b text [] after off e h = refl
star-open b text (c ∷ comment) after off e h =
    let x : b ≡ c = cc in
    let y : eqb c 47 ≡ false = rw x at off in
    rw (y, h) refl

-- within a comment, a byte that does not end it
with_block : (starred : Bool) (b : ℕ) (rest text : List ℕ) → (starred && eqb b 47) ≡ false → (now : Bool) → eqb b 42 ≡ now → BlockRest now rest text → BlockRest starred rest (b ∷ text)
with_block false b rest text off true is l =
    record { comment = l.comment; after = l.after; parts = ap (λ (x : ℕ). x ∷ text) (eqb-true b 42 is) ∙ l.parts; open_ = l.open_; blanks = l.blanks }
with_block false b rest text off false is l =
    record { comment = b ∷ l.comment; after = l.after; parts = ap (λ (t : List ℕ). b ∷ t) l.parts; open_ = rw (is, l.open_) refl; blanks = l.blanks }
with_block true b rest text off true is l =
    let p : b ∷ text ≡ l.comment ++ 42 ∷ 47 ∷ l.after = ap (λ (x : ℕ). x ∷ text) (eqb-true b 42 is) ∙ l.parts in
    record { comment = 42 ∷ l.comment; after = l.after; parts = ap (λ (t : List ℕ). 42 ∷ t) p; open_ = star-open b text l.comment l.after off p l.open_; blanks = l.blanks }
with_block true b rest text off false is l =
    record { comment = 42 ∷ b ∷ l.comment; after = l.after; parts = ap (λ (t : List ℕ). 42 ∷ b ∷ t) l.parts; open_ = rw (off, is, l.open_) refl; blanks = l.blanks }

block-by : (page : Page) (opener : ℕ) (starred : Bool) (b : ℕ) (rest text : List ℕ) (ends : Bool) → (starred && eqb b 47) ≡ ends → cond ends (skip page plain text) (skip page (block opener (eqb b 42)) text) ≡ Ok rest
    → (skip page plain text ≡ Ok rest → Blanks rest text) → (skip page (block opener (eqb b 42)) text ≡ Ok rest → BlockRest (eqb b 42) rest text) → BlockRest starred rest (b ∷ text)
block-by page opener starred b rest text true is h f k =
    let p = and_true starred (eqb b 47) is in
    record { comment = []; after = text; parts = rw p.0 (ap (λ (x : ℕ). 42 ∷ x ∷ text) (eqb-true b 47 p.1)); open_ = refl; blanks = f h }
block-by page opener starred b rest text false is h f k = with_block starred b rest text is (eqb b 42) refl (k h)

begins-cons : (text : List ℕ) (k : ℕ) → begins text k ≡ true → (after : List ℕ) × (text ≡ k ∷ after)
begins-cons [] k e = absurd cc
begins-cons (b ∷ text) k e = (text, ap (λ (x : ℕ). x ∷ text) (eqb-true b k e))

line-of : (b : ℕ) (rest text second comment after : List ℕ) → b ∷ text ≡ 47 ∷ 47 ∷ second → text ≡ comment ++ 10 ∷ after → has 10 comment ≡ false → Blanks rest after → Blanks rest (b ∷ text)
line-of b rest text second [] after e p n h = absurd cc
line-of b rest text second (c ∷ comment) after e p n h =
    let o = or_false (eqb c 10) (has 10 comment) n in
    let s : second ≡ comment ++ 10 ∷ after = cc in
    rw (e, s) (g.line comment after o.1 h)

inl-line : (b : ℕ) (rest text second : List ℕ) → b ∷ text ≡ 47 ∷ 47 ∷ second → LineRest rest text → Blanks rest (b ∷ text)
inl-line b rest text second e l = line-of b rest text second l.comment l.after e l.parts l.one l.blanks

line-blanks : (b : ℕ) (rest text : List ℕ) → eqb b 47 ≡ true → begins text 47 ≡ true → InMode line rest text → Blanks rest (b ∷ text)
line-blanks b rest text is second h =
    let s = begins-cons text 47 second in
    let e : b ∷ text ≡ 47 ∷ 47 ∷ s.0 = ap (λ (x : ℕ). x ∷ text) (eqb-true b 47 is) ∙ ap (λ (t : List ℕ). 47 ∷ t) s.1 in
    elim h [
      | inl l ↦ inl-line b rest text s.0 e l
      | inr l ↦
          let n : has 10 (47 ∷ s.0) ≡ false = rw s.1 at l.one in
          rw e (g.last_line s.0 n l.rest_is)
    ]

line-by : (page : Page) (b : ℕ) (rest text : List ℕ) (ends : Bool) → eqb b 10 ≡ ends → cond ends (skip page plain text) (skip page line text) ≡ Ok rest
    → (skip page plain text ≡ Ok rest → Blanks rest text) → (skip page line text ≡ Ok rest → InMode line rest text) → InMode line rest (b ∷ text)
line-by page b rest text true is h f k = inl (record { comment = []; after = text; parts = ap (λ (x : ℕ). x ∷ text) (eqb-true b 10 is); one = refl; blanks = f h })
line-by page b rest text false is h f k = with_line b rest text is (k h)

plain-by : (page : Page) (b : ℕ) (rest text : List ℕ) (w s t : Bool) → is_white b ≡ w → (eqb b 47 && begins text 47) ≡ s → (eqb b 47 && begins text 42) ≡ t
    → cond w (skip page plain text) (cond s (skip page line text) (cond t (skip page (star (place_of page (b ∷ text))) text) (Ok (b ∷ text)))) ≡ Ok rest
    → (skip page plain text ≡ Ok rest → Blanks rest text) → (skip page line text ≡ Ok rest → InMode line rest text) → (skip page (star (place_of page (b ∷ text))) text ≡ Ok rest → InMode (star (place_of page (b ∷ text))) rest text)
    → Blanks rest (b ∷ text)
plain-by page b rest text true s t is second third h f k m = g.white b text is (f h)
plain-by page b rest text false true t is second third h f k m =
    let p = and_true (eqb b 47) (begins text 47) second in
    line-blanks b rest text p.0 p.1 (k h)
plain-by page b rest text false false true is second third h f k m =
    let p = and_true (eqb b 47) (begins text 42) third in
    let s = begins-cons text 42 p.1 in
    let l = m h in
    let e : b ∷ text ≡ 47 ∷ 42 ∷ s.0 = ap (λ (x : ℕ). x ∷ text) (eqb-true b 47 p.0) ∙ ap (λ (t : List ℕ). 47 ∷ t) s.1 in
    let w : l.1 ≡ s.0 = cc in
    let c : s.0 ≡ l.3.comment ++ 42 ∷ 47 ∷ l.3.after = sym w ∙ l.3.parts in
    rw (e, c) (g.block l.3.comment l.3.after l.3.open_ l.3.blanks)
plain-by page b rest text false false false is second third h f k m = subst (λ (r : List ℕ). Blanks r (b ∷ text)) (ok_is (b ∷ text) rest h) g.ended

-- what is skipped are blanks
takes : (page : Page) (mode : Mode) (text rest : List ℕ) → skip page mode text ≡ Ok rest → InMode mode rest text
unfolding skip
takes page plain [] rest h = subst (λ (r : List ℕ). Blanks r []) (ok_is [] rest h) g.ended
takes page plain (b ∷ text) rest h = plain-by page b rest text (is_white b) (eqb b 47 && begins text 47) (eqb b 47 && begins text 42) refl refl refl h (takes page plain text rest) (takes page line text rest) (takes page (star (place_of page (b ∷ text))) text rest)
takes page line [] rest h = inr (record { one = refl; rest_is = sym (ok_is [] rest h) })
takes page line (b ∷ text) rest h = line-by page b rest text (eqb b 10) refl h (takes page plain text rest) (takes page line text rest)
takes page (star opener) [] rest h = absurd cc
takes page (star opener) (b ∷ text) rest h = (b, text, refl, takes page (block opener false) text rest h)
takes page (block opener starred) [] rest h = absurd cc
takes page (block opener starred) (b ∷ text) rest h = block-by page opener starred b rest text (starred && eqb b 47) refl h (takes page plain text rest) (takes page (block opener (eqb b 42)) text rest)

pub blanks-takes : (page : Page) (text rest : List ℕ) → skip page plain text ≡ Ok rest → Blanks rest text
blanks-takes page text rest h = takes page plain text rest h

-- ---- what is left does not begin with a blank

or_and : (a b c : Bool) → (a && b) ≡ false → (a && c) ≡ false → (a && (b || c)) ≡ false
or_and true true c e f = absurd cc
or_and true false c e f = f
or_and false b c e f = refl

firm-by : (page : Page) (b : ℕ) (rest text : List ℕ) (w s t : Bool) → is_white b ≡ w → (eqb b 47 && begins text 47) ≡ s → (eqb b 47 && begins text 42) ≡ t
    → cond w (skip page plain text) (cond s (skip page line text) (cond t (skip page (star (place_of page (b ∷ text))) text) (Ok (b ∷ text)))) ≡ Ok rest
    → (skip page plain text ≡ Ok rest → Firm rest) → (skip page line text ≡ Ok rest → Firm rest) → (skip page (star (place_of page (b ∷ text))) text ≡ Ok rest → Firm rest) → Firm rest
firm-by page b rest text true s t is second third h f k m = f h
firm-by page b rest text false true t is second third h f k m = k h
firm-by page b rest text false false true is second third h f k m = m h
firm-by page b rest text false false false is second third h f k m = subst Firm (ok_is (b ∷ text) rest h) (is, or_and (eqb b 47) (begins text 47) (begins text 42) second third)

firm-two : (x : Bool) (page : Page) (m : Mode) (text rest : List ℕ) → cond x (skip page plain text) (skip page m text) ≡ Ok rest → (skip page plain text ≡ Ok rest → Firm rest) → (skip page m text ≡ Ok rest → Firm rest) → Firm rest
firm-two true page m text rest h f k = f h
firm-two false page m text rest h f k = k h

skip-firm : (page : Page) (mode : Mode) (text rest : List ℕ) → skip page mode text ≡ Ok rest → Firm rest
unfolding skip
skip-firm page plain [] rest h = subst Firm (ok_is [] rest h) tt
skip-firm page plain (b ∷ text) rest h = firm-by page b rest text (is_white b) (eqb b 47 && begins text 47) (eqb b 47 && begins text 42) refl refl refl h (skip-firm page plain text rest) (skip-firm page line text rest) (skip-firm page (star (place_of page (b ∷ text))) text rest)
skip-firm page line [] rest h = subst Firm (ok_is [] rest h) tt
skip-firm page line (b ∷ text) rest h = firm-two (eqb b 10) page line text rest h (skip-firm page plain text rest) (skip-firm page line text rest)
skip-firm page (star opener) [] rest h = absurd cc
skip-firm page (star opener) (b ∷ text) rest h = skip-firm page (block opener false) text rest h
skip-firm page (block opener starred) [] rest h = absurd cc
skip-firm page (block opener starred) (b ∷ text) rest h = firm-two (starred && eqb b 47) page (block opener (eqb b 42)) text rest h (skip-firm page plain text rest) (skip-firm page (block opener (eqb b 42)) text rest)

pub blanks-firm : (page : Page) (text rest : List ℕ) → skip page plain text ≡ Ok rest → Firm rest
blanks-firm page text rest h = skip-firm page plain text rest h
