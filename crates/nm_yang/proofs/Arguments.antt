-- Arguments: what is read is one, and one is read.
use Rattle.std.proofs.Common.{◌≡◌, ℕ, zero, suc, ◌≤◌, ◌<◌, Bool, true, false, cond, eqb, List, [], ◌∷◌, ◌++◌, length, drop, Option, Some, None, Result, Ok, Err, refl, sym, ap, subst, ◌∙◌, inl, inr, arith, length-append}
use Rattle.std.specs.Prelude.{◌||◌, IsUtf8}
use Rattle.std.specs.Str.{is_utf8}
use Rattle.std.proofs.lemmas.Bool.{eqb-true}
use Rattle.std.proofs.lemmas.List.{append-nil}
use Rattle.std.proofs.lemmas.Str.{is_utf8-from_IsUtf8, IsUtf8-from_is_utf8}
use Rattle.nm_yang.specs.declared.fault.Fault.{Fault}
use Rattle.nm_yang.specs.Page.{Page, ◌>>=◌, with_front, place_of, bad}
use Rattle.nm_yang.specs.Byte.{begins, is_quote, begins_quote, is_ending, is_mark, is_white, opens_comment}
use Rattle.nm_yang.specs.Blank.{skip, plain}
use Rattle.nm_yang.specs.Word.{bare_at, text_at, begins_close}
use Rattle.nm_yang.specs.Quote.{string_at}
use Rattle.nm_yang.specs.Argument.{quote_at, piece_at, added_at, more_at, quoted_at, quoted_label, bare_label, argument_at}
use Rattle.nm_yang.specs.Grammar as g
use Rattle.nm_yang.specs.Grammar.{Blanks, IsString, Joined, IsArgument, IsWord, ends_word}
use Rattle.nm_yang.proofs.Quotes.{or_false}
use Rattle.nm_yang.proofs.Blanked.{Firm, blanks-takes, blanks-again}
use Rattle.nm_yang.proofs.Worded.{bind_ok, ok_same, chosen, guard_true, guard_false, bare-takes, bare-read}
use Rattle.nm_yang.proofs.Strings.{string-takes, string-read}

pub text_at-takes : (fault : Fault) (bytes text : List ℕ) → text_at fault bytes ≡ Ok text → (bytes ≡ text) × IsUtf8 text
text_at-takes fault bytes text e =
    let p = guard_true (is_utf8 bytes) fault (Ok bytes) text e in
    let q = ok_same bytes text p.1 in
    (q, subst IsUtf8 q (IsUtf8-from_is_utf8 bytes p.0))

-- ---- joined strings

record Piece (page : Page) (text value rest : List ℕ) : Type 0 where
  pub after : List ℕ
  pub string : IsString page text value after
  pub blanks : Blanks rest after

piece-takes : (page : Page) (text value rest : List ℕ) → begins_quote text ≡ true → piece_at page text ≡ Ok (value, rest) → Piece page text value rest
unfolding piece_at
piece-takes page text value rest q e =
    let a = bind_ok (string_at page text) (λ s. skip page plain s.1 >>= λ r. Ok (s.0, r)) (value, rest) e in
    let b = bind_ok (skip page plain a.0.1) (λ r. Ok (a.0.0, r)) (value, rest) a.2 in
    let last = ok_same (a.0.0, b.0) (value, rest) b.2 in
    let v = ap (λ (x : List ℕ × List ℕ). x.0) last in
    let r = ap (λ (x : List ℕ × List ℕ). x.1) last in
    record { after = a.0.1; string = subst (λ (x : List ℕ). IsString page text x a.0.1) v (string-takes page text a.0.0 a.0.1 q a.1); blanks = subst (λ (x : List ℕ). Blanks x a.0.1) r (blanks-takes page a.0.1 b.0 b.1) }

quote-takes : (page : Page) (ending : Fault) (bytes rest : List ℕ) → quote_at page ending bytes ≡ Ok rest → (bytes ≡ rest) × (begins_quote bytes ≡ true)
unfolding quote_at
quote-takes page ending [] rest e = absurd cc
quote-takes page ending (b ∷ bytes) rest e =
    let p = guard_true (is_quote b) _ (Ok (b ∷ bytes)) rest e in
    (ok_same (b ∷ bytes) rest p.1, p.0)

record Added (page : Page) (text value rest : List ℕ) : Type 0 where
  pub next : List ℕ
  pub before : Blanks next (drop 1 text)
  pub piece : Piece page next value rest

added-takes : (page : Page) (ending : Fault) (text value rest : List ℕ) → added_at page ending text ≡ Ok (value, rest) → Added page text value rest
unfolding added_at
added-takes page ending text value rest e =
    let a = bind_ok (skip page plain (drop 1 text)) (λ n. quote_at page ending n >>= λ q. piece_at page q) (value, rest) e in
    let b = bind_ok (quote_at page ending a.0) (λ q. piece_at page q) (value, rest) a.2 in
    let q = quote-takes page ending a.0 b.0 b.1 in
    let p = piece-takes page b.0 value rest (rw (← q.0) q.1) b.2 in
    record { next = a.0; before = blanks-takes page (drop 1 text) a.0 a.1; piece = rw q.0 p }

pub begins-is : (text : List ℕ) (k : ℕ) → begins text k ≡ true → text ≡ k ∷ drop 1 text
begins-is [] k e = absurd cc
begins-is (b ∷ text) k e = ap (λ (x : ℕ). x ∷ text) (eqb-true b k e)

with_front-ok : (front : List ℕ) (r : Result (List ℕ × List ℕ) Fault) (value rest : List ℕ) → with_front front r ≡ Ok (value, rest) → (others : List ℕ) × (r ≡ Ok (others, rest)) × (value ≡ front ++ others)
with_front-ok front (Ok x) value rest e =
    let last = ok_same (front ++ x.0, x.1) (value, rest) e in
    (x.0, ap (λ (r : List ℕ). Ok (x.0, r)) (ap (λ (y : List ℕ × List ℕ). y.1) last), sym (ap (λ (y : List ℕ × List ℕ). y.0) last))
with_front-ok front (Err f) value rest e = absurd cc

-- what follows a string: nothing more, or `+` and more
more-takes : (page : Page) (ending : Fault) (n : ℕ) (text after value first bytes rest : List ℕ) → IsString page text first after → Blanks bytes after → more_at page ending n bytes ≡ Ok (value, rest) → Joined page rest text (first ++ value)
unfolding more_at
more-takes page ending zero text after value first bytes rest s b e =
    let last = ok_same ([], bytes) (value, rest) e in
    let v : [] ≡ value = ap (λ (x : List ℕ × List ℕ). x.0) last in
    let r : bytes ≡ rest = ap (λ (x : List ℕ × List ℕ). x.1) last in
    subst (λ (x : List ℕ). Joined page rest text x) (sym (append-nil first) ∙ ap (λ (x : List ℕ). first ++ x) v) (g.one text first after s (subst (λ (x : List ℕ). Blanks x after) r b))
more-takes page ending (suc n) text after value first bytes rest s b e =
    elim (chosen (begins bytes 43) (added_at page ending bytes >>= λ t. with_front t.0 (more_at page ending n t.1)) (Ok ([], bytes)) (Ok (value, rest)) e) [
      | inl c ↦
          let a = bind_ok (added_at page ending bytes) (λ t. with_front t.0 (more_at page ending n t.1)) (value, rest) c.1 in
          let d = added-takes page ending bytes a.0.0 a.0.1 a.1 in
          let f = with_front-ok a.0.0 (more_at page ending n a.0.1) value rest a.2 in
          let m = more-takes page ending n d.next d.piece.after f.0 a.0.0 a.0.1 rest d.piece.string d.piece.blanks f.1 in
          let p = begins-is bytes 43 c.0 in
          let j = g.plus text first after (drop 1 bytes) d.next (a.0.0 ++ f.0) s (subst (λ (x : List ℕ). Blanks x after) p b) d.before m in
          subst (λ (x : List ℕ). Joined page rest text (first ++ x)) (sym f.2) j
      | inr c ↦
          let last = ok_same ([], bytes) (value, rest) c.1 in
          let v : [] ≡ value = ap (λ (x : List ℕ × List ℕ). x.0) last in
          let r : bytes ≡ rest = ap (λ (x : List ℕ × List ℕ). x.1) last in
          subst (λ (x : List ℕ). Joined page rest text x) (sym (append-nil first) ∙ ap (λ (x : List ℕ). first ++ x) v) (g.one text first after s (subst (λ (x : List ℕ). Blanks x after) r b))
    ]

quoted-takes : (page : Page) (ending : Fault) (text value rest : List ℕ) → begins_quote text ≡ true → quoted_at page ending text ≡ Ok (value, rest) → Joined page rest text value
unfolding quoted_at
quoted-takes page ending text value rest q e =
    let a = bind_ok (piece_at page text) (λ s. with_front s.0 (more_at page ending (length s.1) s.1)) (value, rest) e in
    let p = piece-takes page text a.0.0 a.0.1 q a.1 in
    let f = with_front-ok a.0.0 (more_at page ending (length a.0.1) a.0.1) value rest a.2 in
    subst (λ (x : List ℕ). Joined page rest text x) (sym f.2) (more-takes page ending (length a.0.1) text p.after f.0 a.0.0 a.0.1 rest p.string p.blanks f.1)

bare_label-takes : (page : Page) (text value rest : List ℕ) → bare_label page text ≡ Ok (value, rest) → (after : List ℕ) × (text ≡ value ++ after) × IsWord value after × Blanks rest after × IsUtf8 value
unfolding bare_label
bare_label-takes page text value rest e =
    let a = bind_ok (bare_at page text) (λ s. text_at (bad (place_of page text) _) s.0 >>= λ t. skip page plain s.1 >>= λ r. Ok (t, r)) (value, rest) e in
    let b = bind_ok (text_at (bad (place_of page text) _) a.0.0) (λ t. skip page plain a.0.1 >>= λ r. Ok (t, r)) (value, rest) a.2 in
    let c = bind_ok (skip page plain a.0.1) (λ r. Ok (b.0, r)) (value, rest) b.2 in
    let last = ok_same (b.0, c.0) (value, rest) c.2 in
    let t = text_at-takes (bad (place_of page text) _) a.0.0 b.0 b.1 in
    let v : a.0.0 ≡ value = t.0 ∙ ap (λ (x : List ℕ × List ℕ). x.0) last in
    let r : c.0 ≡ rest = ap (λ (x : List ℕ × List ℕ). x.1) last in
    let w = bare-takes page text a.0.0 a.0.1 a.1 in
    (a.0.1, w.0 ∙ ap (λ (x : List ℕ). x ++ a.0.1) v, subst (λ (x : List ℕ). IsWord x a.0.1) v w.1, subst (λ (x : List ℕ). Blanks x a.0.1) r (blanks-takes page a.0.1 c.0 c.1), subst IsUtf8 (ap (λ (x : List ℕ × List ℕ). x.0) last) t.1)

quoted_label-takes : (page : Page) (ending : Fault) (text value rest : List ℕ) → begins_quote text ≡ true → quoted_label page ending text ≡ Ok (value, rest) → Joined page rest text value × IsUtf8 value
unfolding quoted_label
quoted_label-takes page ending text value rest q e =
    let a = bind_ok (quoted_at page ending text) (λ s. text_at (bad (place_of page text) _) s.0 >>= λ t. Ok (t, s.1)) (value, rest) e in
    let b = bind_ok (text_at (bad (place_of page text) _) a.0.0) (λ t. Ok (t, a.0.1)) (value, rest) a.2 in
    let last = ok_same (b.0, a.0.1) (value, rest) b.2 in
    let t = text_at-takes (bad (place_of page text) _) a.0.0 b.0 b.1 in
    let v : a.0.0 ≡ value = t.0 ∙ ap (λ (x : List ℕ × List ℕ). x.0) last in
    let r : a.0.1 ≡ rest = ap (λ (x : List ℕ × List ℕ). x.1) last in
    (subst (λ (x : List ℕ × List ℕ). Joined page x.1 text x.0) (ap (λ (x : List ℕ). (x, a.0.1)) v ∙ ap (λ (x : List ℕ). (value, x)) r) (quoted-takes page ending text a.0.0 a.0.1 q a.1), subst IsUtf8 (ap (λ (x : List ℕ × List ℕ). x.0) last) t.1)

no_word : (b : ℕ) (bytes : List ℕ) → (eqb b 59 || eqb b 123) ≡ false → eqb b 125 ≡ false → is_quote b ≡ false → is_white b ≡ false → opens_comment b bytes ≡ false → (is_ending b || opens_comment b bytes) ≡ false
no_word b bytes m n q w o =
    let mark : is_mark b ≡ false = rw (m, n) refl in
    let e : is_ending b ≡ false = rw (w, q, mark) refl in
    rw (e, o) refl

ends-absurd : (b : ℕ) (bytes : List ℕ) → (is_ending b || opens_comment b bytes) ≡ false → ends_word (b ∷ bytes) ≡ true → begins_close (b ∷ bytes) ≡ false → ⊥
ends-absurd b bytes off e c = let x : ends_word (b ∷ bytes) ≡ false = rw (off, c) refl in cc

word-of : (page : Page) (b : ℕ) (bytes value after rest : List ℕ) → (is_ending b || opens_comment b bytes) ≡ false → b ∷ bytes ≡ value ++ after → IsWord value after → Blanks rest after → IsUtf8 value → IsArgument page (b ∷ bytes) (Some value) rest
word-of page b bytes [] after rest off e w l u =
    absurd (let f : ends_word after ≡ true = w.0 in let c : begins_close after ≡ false = w.1 in let x = rw (← e) at f in let y = rw (← e) at c in ends-absurd b bytes off x y)
word-of page b bytes (c ∷ w) after rest off e i l u = g.word c w after refl u e i l

abbrev some_of : List ℕ × List ℕ → Result (Option (List ℕ) × List ℕ) Fault
some_of s = Ok (Some s.0, s.1)

argument-ok : (r : Result (List ℕ × List ℕ) Fault) (argument : Option (List ℕ)) (rest : List ℕ) → (r >>= some_of) ≡ Ok (argument, rest) → (value : List ℕ) × (r ≡ Ok (value, rest)) × (argument ≡ Some value)
argument-ok r argument rest e =
    let a = bind_ok r some_of (argument, rest) e in
    let last = ok_same (Some a.0.0, a.0.1) (argument, rest) a.2 in
    (a.0.0, a.1 ∙ ap (λ (x : List ℕ). Ok (a.0.0, x)) (ap (λ (x : Option (List ℕ) × List ℕ). x.1) last), sym (ap (λ (x : Option (List ℕ) × List ℕ). x.0) last))

argument-by : (page : Page) (ending : Fault) (b : ℕ) (bytes : List ℕ) (argument : Option (List ℕ)) (rest : List ℕ) (q : Bool) → is_quote b ≡ q → (eqb b 59 || eqb b 123) ≡ false → eqb b 125 ≡ false → Firm (b ∷ bytes)
    → (cond q (quoted_label page ending (b ∷ bytes)) (bare_label page (b ∷ bytes)) >>= some_of) ≡ Ok (argument, rest) → IsArgument page (b ∷ bytes) argument rest
argument-by page ending b bytes argument rest true is m n f e =
    let a = argument-ok (quoted_label page ending (b ∷ bytes)) argument rest e in
    let t = quoted_label-takes page ending (b ∷ bytes) a.0 rest is a.1 in
    g.quoted a.0 a.2 t.1 t.0
argument-by page ending b bytes argument rest false is m n f e =
    let a = argument-ok (bare_label page (b ∷ bytes)) argument rest e in
    let t = bare_label-takes page (b ∷ bytes) a.0 rest a.1 in
    let w = word-of page b bytes a.0 t.0 rest (no_word b bytes m n is f.0 f.1) t.1 t.2 t.3 t.4 in
    subst (λ (x : Option (List ℕ)). IsArgument page (b ∷ bytes) x rest) (sym a.2) w

pub argument-takes : (page : Page) (ending : Fault) (text : List ℕ) (argument : Option (List ℕ)) (rest : List ℕ) → Firm text → argument_at page ending text ≡ Ok (argument, rest) → IsArgument page text argument rest
unfolding argument_at
argument-takes page ending [] argument rest f e = absurd cc
argument-takes page ending (b ∷ bytes) argument rest f e =
    elim (chosen (eqb b 59 || eqb b 123) (Ok (None, b ∷ bytes)) _ (Ok (argument, rest)) e) [
      | inl c ↦
          let last = ok_same (None, b ∷ bytes) (argument, rest) c.1 in
          g.absent (sym (ap (λ (x : Option (List ℕ) × List ℕ). x.0) last)) (ap (λ (x : Option (List ℕ) × List ℕ). x.1) last)
      | inr c ↦
          let d = guard_false (eqb b 125) _ (cond (is_quote b) (quoted_label page ending (b ∷ bytes)) (bare_label page (b ∷ bytes)) >>= some_of) (argument, rest) c.1 in
          argument-by page ending b bytes argument rest (is_quote b) refl c.0 d.0 f d.1
    ]

-- ---- and back

-- where an argument may end: before `;` and `{`
pub data IsClosing : List ℕ → Type 0 where
  semicolon : (rest : List ℕ) → IsClosing (59 ∷ rest)
  brace : (rest : List ℕ) → IsClosing (123 ∷ rest)

pub closing-firm : (rest : List ℕ) → IsClosing rest → Firm rest × (begins rest 43 ≡ false)
closing-firm _ (semicolon rest) = ((refl, refl), refl)
closing-firm _ (brace rest) = ((refl, refl), refl)

or-second : (a b : Bool) → a ≡ false → (a || b) ≡ true → b ≡ true
or-second true b e h = absurd cc
or-second false b e h = h

quote-tests : (b : ℕ) (first : Bool) → eqb b 34 ≡ first → is_quote b ≡ true → ((eqb b 59 || eqb b 123) ≡ false) × (eqb b 125 ≡ false) × (is_white b ≡ false) × (eqb b 47 ≡ false)
quote-tests b true e q = let is : b ≡ 34 = eqb-true b 34 e in (rw is refl, rw is refl, rw is refl, rw is refl)
quote-tests b false e q = let is : b ≡ 39 = eqb-true b 39 (or-second (eqb b 34) (eqb b 39) e q) in (rw is refl, rw is refl, rw is refl, rw is refl)

quote-plain : (b : ℕ) (text : List ℕ) (first : Bool) → eqb b 34 ≡ first → is_quote b ≡ true → Firm (b ∷ text)
quote-plain b text first e q = let p = quote-tests b first e q in (p.2, rw p.3 refl)

quote-firm : (text : List ℕ) → begins_quote text ≡ true → Firm text
quote-firm [] q = tt
quote-firm (b ∷ text) q = quote-plain b text (eqb b 34) refl q

pub length-blanks : (rest text : List ℕ) → Blanks rest text → length rest ≤ length text
length-blanks rest _ g.ended = omega arith
length-blanks rest _ (g.white b text w h) = omega (arith, length-blanks rest text h)
length-blanks rest _ (g.line comment text n h) = omega (arith, length-blanks rest text h, length-append comment (10 ∷ text))
length-blanks rest _ (g.last_line comment n e) = rw e (omega arith)
length-blanks rest _ (g.block comment text n h) = omega (arith, length-blanks rest text h, length-append comment (42 ∷ 47 ∷ text))

pub length-string : (page : Page) (text value rest : List ℕ) → IsString page text value rest → length rest < length text
length-string page text value rest (g.single e h) = let l = ap length e in omega (arith, l, length-append value (39 ∷ rest))
length-string page text value rest (g.double raw e h v) = let l = ap length e in omega (arith, l, length-append raw (34 ∷ rest))

-- the first string, and what `+` joins to it
record First (page : Page) (ending : Fault) (text value rest : List ℕ) : Type 0 where
  pub first : List ℕ
  pub after : List ℕ
  pub bytes : List ℕ
  pub others : List ℕ
  pub string : IsString page text first after
  pub blanks : skip page plain after ≡ Ok bytes
  pub whole : value ≡ first ++ others
  pub short : length bytes < length text
  pub more : (n : ℕ) → length bytes ≤ n → more_at page ending n bytes ≡ Ok (others, rest)

pub length-joined : (page : Page) (rest text value : List ℕ) → Joined page rest text value → length rest ≤ length text
length-joined page rest text value (g.one _ _ after s b) = omega (arith, length-blanks rest after b, length-string page text value after s)
length-joined page rest text _ (g.plus _ first after more_text next others s b d j) = omega (arith, length-joined page rest next others j, length-blanks next more_text d, length-blanks (43 ∷ more_text) after b, length-string page text first after s)

pub length-argument : (page : Page) (text : List ℕ) (argument : Option (List ℕ)) (rest : List ℕ) → IsArgument page text argument rest → length rest ≤ length text
length-argument page text argument rest (g.absent a e) = rw e (omega arith)
length-argument page text argument rest (g.word b w after a u e i l) = let n = ap length e in omega (arith, n, length-append (b ∷ w) after, length-blanks rest after l)
length-argument page text argument rest (g.quoted value a u j) = length-joined page rest text value j

none-more : (page : Page) (ending : Fault) (n : ℕ) (rest : List ℕ) → begins rest 43 ≡ false → more_at page ending n rest ≡ Ok ([], rest)
unfolding more_at
none-more page ending zero rest h = refl
none-more page ending (suc n) rest h = rw h refl

quote-read : (page : Page) (ending : Fault) (text : List ℕ) → begins_quote text ≡ true → quote_at page ending text ≡ Ok text
unfolding quote_at
quote-read page ending [] q = absurd cc
quote-read page ending (b ∷ text) q = rw q refl

plus-more : (page : Page) (ending : Fault) (n : ℕ) (text next value rest : List ℕ) (f : First page ending next value rest) → skip page plain text ≡ Ok next → length next ≤ length text → length (43 ∷ text) ≤ n → more_at page ending n (43 ∷ text) ≡ Ok (value, rest)
unfolding more_at added_at piece_at
plus-more page ending zero text next value rest f s l le = absurd (omega arith)
plus-more page ending (suc n) text next value rest f s l le =
    let r = string-read page next f.first f.after f.string in
    let m = f.more n (omega (arith, f.short)) in
    rw (s, quote-read page ending next r.1, r.0, f.blanks, m) (ap (λ (x : List ℕ). Ok (x, rest)) (sym f.whole))

first-of : (page : Page) (ending : Fault) (rest text value : List ℕ) → IsClosing rest → Joined page rest text value → First page ending text value rest
first-of page ending rest text value c (g.one _ _ after s b) =
    let k = closing-firm rest c in
    record { first = value; after = after; bytes = rest; others = []; string = s; blanks = blanks-again page rest after b k.0; whole = sym (append-nil value); short = omega (arith, length-blanks rest after b, length-string page text value after s); more = λ n le. none-more page ending n rest k.1 }
first-of page ending rest text _ c (g.plus _ first after more_text next others s b d j) =
    let f = first-of page ending rest next others c j in
    let q = (string-read page next f.first f.after f.string).1 in
    let n = blanks-again page next more_text d (quote-firm next q) in
    record {
      first = first;
      after = after;
      bytes = 43 ∷ more_text;
      others = others;
      string = s;
      blanks = blanks-again page (43 ∷ more_text) after b (refl, refl);
      whole = refl;
      short = omega (arith, length-blanks (43 ∷ more_text) after b, length-string page text first after s);
      more = λ k le. plus-more page ending k more_text next others rest f n (length-blanks next more_text d) le;
    }

quoted-read : (page : Page) (ending : Fault) (text value rest : List ℕ) → IsClosing rest → Joined page rest text value → (quoted_at page ending text ≡ Ok (value, rest)) × (begins_quote text ≡ true)
unfolding quoted_at piece_at
quoted-read page ending text value rest c j =
    let f = first-of page ending rest text value c j in
    let r = string-read page text f.first f.after f.string in
    let m = f.more (length f.bytes) (omega arith) in
    (rw (r.0, f.blanks, m) (ap (λ (x : List ℕ). Ok (x, rest)) (sym f.whole)), r.1)

quoted_label-read : (page : Page) (ending : Fault) (text value rest : List ℕ) → IsClosing rest → IsUtf8 value → Joined page rest text value → (quoted_label page ending text ≡ Ok (value, rest)) × (begins_quote text ≡ true)
unfolding quoted_label
quoted_label-read page ending text value rest c u j =
    let r = quoted-read page ending text value rest c j in
    (rw (r.0, is_utf8-from_IsUtf8 value u) refl, r.1)

bare_label-read : (page : Page) (value after rest : List ℕ) → IsClosing rest → IsUtf8 value → IsWord value after → Blanks rest after → bare_label page (value ++ after) ≡ Ok (value, rest)
unfolding bare_label
bare_label-read page value after rest c u w b =
    let k = closing-firm rest c in
    rw (bare-read page value after w, is_utf8-from_IsUtf8 value u, blanks-again page rest after b k.0) refl

closing-read : (page : Page) (ending : Fault) (rest : List ℕ) → IsClosing rest → argument_at page ending rest ≡ Ok (None, rest)
unfolding argument_at
closing-read page ending _ (semicolon rest) = refl
closing-read page ending _ (brace rest) = refl

quoted-argument : (page : Page) (ending : Fault) (text value rest : List ℕ) → begins_quote text ≡ true → quoted_label page ending text ≡ Ok (value, rest) → argument_at page ending text ≡ Ok (Some value, rest)
unfolding argument_at
quoted-argument page ending [] value rest q e = absurd cc
quoted-argument page ending (b ∷ text) value rest q e =
    let p = quote-tests b (eqb b 34) refl q in
    rw (p.0, p.1, q, e) refl

bare-argument : (page : Page) (ending : Fault) (b : ℕ) (text value rest : List ℕ) → is_ending b ≡ false → bare_label page (b ∷ text) ≡ Ok (value, rest) → argument_at page ending (b ∷ text) ≡ Ok (Some value, rest)
unfolding argument_at
bare-argument page ending b text value rest off e =
    let p = or_false (is_white b || is_quote b) (is_mark b) off in
    let q = or_false (is_white b) (is_quote b) p.0 in
    let m = or_false (eqb b 59 || eqb b 123) (eqb b 125) p.1 in
    rw (m.0, m.1, q.1, e) refl

pub argument-read : (page : Page) (ending : Fault) (text : List ℕ) (argument : Option (List ℕ)) (rest : List ℕ) → IsClosing rest → IsArgument page text argument rest → (argument_at page ending text ≡ Ok (argument, rest)) × Firm text
argument-read page ending text argument rest c (g.absent a e) =
    let k = closing-firm rest c in
    (rw (a, e) (closing-read page ending rest c), rw e k.0)
argument-read page ending text argument rest c (g.word b w after a u e i l) =
    let off = or_false (is_ending b || opens_comment b (w ++ after)) _ i.0 in
    let p = or_false (is_ending b) (opens_comment b (w ++ after)) off.0 in
    let q = or_false (is_white b || is_quote b) (is_mark b) p.0 in
    let v = or_false (is_white b) (is_quote b) q.0 in
    (rw (a, e) (bare-argument page ending b (w ++ after) (b ∷ w) rest p.0 (bare_label-read page (b ∷ w) after rest c u i l)), rw e (v.0, p.1))
argument-read page ending text argument rest c (g.quoted value a u j) =
    let r = quoted_label-read page ending text value rest c u j in
    (rw a (quoted-argument page ending text value rest r.1 r.0), quote-firm text r.1)
