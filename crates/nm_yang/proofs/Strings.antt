-- Strings in quotes: what is read is one, and one is read.
use Rattle.std.proofs.Common.{◌≡◌, ℕ, ◌+◌, ◌-◌, Bool, true, false, not, cond, eqb, ltb, List, [], ◌∷◌, ◌++◌, drop, Ok, refl, sym, ap, subst, ◌∙◌, append_assoc, inl, inr}
use Rattle.std.specs.Prelude.{◌&&◌, ◌||◌}
use Rattle.std.proofs.lemmas.Bool.{eqb-true}
use Rattle.std.proofs.lemmas.List.{append-nil}
use Rattle.nm_yang.specs.Page.{Page, ◌>>=◌, front, column_of, place_of}
use Rattle.nm_yang.specs.Byte.{begins_quote}
use Rattle.nm_yang.specs.Quote.{is_escape, escaped, is_loose, begins_escape, begins_other, single_end, double_end, meaning, string_at}
use Rattle.nm_yang.specs.Grammar.{has, is_raw, breaks, spoken, IsString, single, double}
use Rattle.nm_yang.proofs.Quotes.{or_false}
use Rattle.nm_yang.proofs.Again.{and_true, front-append}
use Rattle.nm_yang.proofs.Worded.{bind_ok, ok_same, chosen, guard_false}

-- ---- the meaning of what stands between double quotes

or-off : (a b : Bool) → a ≡ false → (a || b) ≡ true → b ≡ true
or-off true b e h = absurd cc
or-off false b e h = h

breaks-by : (room left b : ℕ) (raw : List ℕ) (lf : Bool) → eqb b 10 ≡ lf → breaks (b ∷ raw) ≡ true → spoken room left false (b ∷ raw) ≡ spoken room 0 false (b ∷ raw)
unfolding spoken
breaks-by room left b raw true is h = rw is refl
breaks-by room left b raw false is h =
    let l = or-off (eqb b 10) (is_loose b && breaks raw) is h in
    rw (is, l) refl

-- where a line break comes next, it does not matter how many columns are still to go
breaks-left : (room left : ℕ) (raw : List ℕ) → breaks raw ≡ true → spoken room left false raw ≡ spoken room 0 false raw
breaks-left room left [] h = absurd cc
breaks-left room left (b ∷ raw) h = breaks-by room left b raw (eqb b 10) refl h

-- what is kept, where `loose` are the blanks before
abbrev kept : Bool → List ℕ → List ℕ → List ℕ
kept next loose said = cond next said (loose ++ said)

kept-none : (next : Bool) (said : List ℕ) → kept next [] said ≡ said
kept-none true said = refl
kept-none false said = refl

-- a blank within the columns that go
indent : (room left less b : ℕ) (loose raw : List ℕ) (next : Bool) → eqb b 10 ≡ false → is_loose b ≡ true → breaks raw ≡ next
    → meaning room less false loose raw ≡ kept next loose (spoken room less false raw) → (next ≡ false → spoken room left false (b ∷ raw) ≡ spoken room less false raw)
    → meaning room less false loose raw ≡ kept (breaks (b ∷ raw)) loose (spoken room left false (b ∷ raw))
unfolding spoken
indent room left less b loose raw true lf blank is h k = h ∙ breaks-left room less raw is ∙ rw (lf, blank, is) refl
indent room left less b loose raw false lf blank is h k =
    let br : breaks (b ∷ raw) ≡ false = rw (lf, blank, is) refl in
    let kb : kept (breaks (b ∷ raw)) loose (spoken room less false raw) ≡ loose ++ spoken room less false raw = ap (λ (n : Bool). kept n loose (spoken room less false raw)) br in
    h ∙ sym kb ∙ ap (kept (breaks (b ∷ raw)) loose) (sym (k refl))

space-loose : (left b k : ℕ) → (ltb 0 left && eqb b k) ≡ true → b ≡ k
space-loose left b k h = eqb-true b k (and_true (ltb 0 left) (eqb b k) h).1

abbrev Says : ℕ → List ℕ → Type 0
Says room raw = (left : ℕ) (loose : List ℕ) → meaning room left false loose raw ≡ kept (breaks raw) loose (spoken room left false raw)

-- a byte that is no line break and no blank within the columns that go
other-by : (room left b : ℕ) (loose raw : List ℕ) (blank next slash : Bool) → eqb b 10 ≡ false → (ltb 0 left && eqb b 32) ≡ false → (ltb 0 left && eqb b 9) ≡ false → is_loose b ≡ blank → breaks raw ≡ next → (eqb b 92 && begins_escape raw) ≡ slash
    → Says room raw → meaning room 0 true [] raw ≡ spoken room 0 true raw → meaning room left false loose (b ∷ raw) ≡ kept (breaks (b ∷ raw)) loose (spoken room left false (b ∷ raw))
unfolding meaning spoken
other-by room left b loose raw true true slash lf space tab is br es h k =
    let m = h 0 (loose ++ b ∷ []) in
    let n : meaning room 0 false (loose ++ b ∷ []) raw ≡ spoken room 0 false raw = rw br at m in
    rw (lf, space, tab, is, br) n
other-by room left b loose raw true false true lf space tab is br es h k =
    absurd (let e : b ≡ 92 = eqb-true b 92 (and_true (eqb b 92) (begins_escape raw) es).0 in let x : is_loose b ≡ false = rw e refl in cc)
other-by room left b loose raw true false false lf space tab is br es h k =
    let m = h 0 (loose ++ b ∷ []) in
    let n : meaning room 0 false (loose ++ b ∷ []) raw ≡ (loose ++ b ∷ []) ++ spoken room 0 false raw = rw br at m in
    rw (lf, space, tab, is, br, es) (n ∙ append_assoc loose (b ∷ []) (spoken room 0 false raw))
other-by room left b loose raw false next true lf space tab is br es h k = rw (lf, space, tab, is, es) (ap (λ (l : List ℕ). loose ++ l) k)
other-by room left b loose raw false next false lf space tab is br es h k =
    rw (lf, space, tab, is, es) (ap (λ (l : List ℕ). loose ++ b ∷ l) (h 0 [] ∙ kept-none (breaks raw) (spoken room 0 false raw)))

byte-by : (room left b : ℕ) (loose raw : List ℕ) (lf space tab : Bool) → eqb b 10 ≡ lf → (ltb 0 left && eqb b 32) ≡ space → (ltb 0 left && eqb b 9) ≡ tab → Says room raw → meaning room 0 true [] raw ≡ spoken room 0 true raw
    → meaning room left false loose (b ∷ raw) ≡ kept (breaks (b ∷ raw)) loose (spoken room left false (b ∷ raw))
unfolding meaning spoken
byte-by room left b loose raw true space tab is s t h k = rw is (ap (λ (l : List ℕ). b ∷ l) (h room [] ∙ kept-none (breaks raw) (spoken room room false raw)))
byte-by room left b loose raw false true tab is s t h k =
    let e = space-loose left b 32 s in
    let blank : is_loose b ≡ true = rw e refl in
    let one : meaning room left false loose (b ∷ raw) ≡ meaning room (left - 1) false loose raw = rw (is, s) refl in
    one ∙ indent room left (left - 1) b loose raw (breaks raw) is blank refl (h (left - 1) loose) (λ n. rw (is, blank, n, s) refl)
byte-by room left b loose raw false false true is s t h k =
    let e = space-loose left b 9 t in
    let blank : is_loose b ≡ true = rw e refl in
    let one : meaning room left false loose (b ∷ raw) ≡ meaning room (left - 8) false loose raw = rw (is, s, t) refl in
    one ∙ indent room left (left - 8) b loose raw (breaks raw) is blank refl (h (left - 8) loose) (λ n. rw (is, blank, n, s, t) refl)
byte-by room left b loose raw false false false is s t h k = other-by room left b loose raw (is_loose b) (breaks raw) (eqb b 92 && begins_escape raw) is s t refl refl refl h k

says-escape : (room : ℕ) (raw : List ℕ) → ((tail : List ℕ) (b : ℕ) → raw ≡ b ∷ tail → Says room tail) → meaning room 0 true [] raw ≡ spoken room 0 true raw
unfolding meaning spoken
says-escape room [] h = refl
says-escape room (b ∷ raw) h = ap (λ (l : List ℕ). escaped b ∷ l) (h raw b refl 0 [] ∙ kept-none (breaks raw) (spoken room 0 false raw))

mutual
  unfolding meaning spoken

  says : (room : ℕ) (raw : List ℕ) (left : ℕ) (loose : List ℕ) → meaning room left false loose raw ≡ kept (breaks raw) loose (spoken room left false raw)
  says room [] left loose = sym (append-nil loose)
  says room (b ∷ raw) left loose = byte-by room left b loose raw (eqb b 10) (ltb 0 left && eqb b 32) (ltb 0 left && eqb b 9) refl refl refl (λ l m. says room raw l m) (says-true room raw)

  says-true : (room : ℕ) (raw : List ℕ) → meaning room 0 true [] raw ≡ spoken room 0 true raw
  says-true room [] = refl
  says-true room (b ∷ raw) = ap (λ (l : List ℕ). escaped b ∷ l) (says room raw 0 [] ∙ kept-none (breaks raw) (spoken room 0 false raw))

meaning-spoken : (room : ℕ) (raw : List ℕ) → meaning room 0 false [] raw ≡ spoken room 0 false raw
meaning-spoken room raw = says room raw 0 [] ∙ kept-none (breaks raw) (spoken room 0 false raw)

-- ---- where a string ends

record SingleEnd (bytes rest : List ℕ) : Type 0 where
  pub value : List ℕ
  pub after : List ℕ
  pub parts : bytes ≡ value ++ rest
  pub quote : rest ≡ 39 ∷ after
  pub none : has 39 value ≡ false

single-takes : (page : Page) (opener : ℕ) (bytes rest : List ℕ) → single_end page opener bytes ≡ Ok rest → SingleEnd bytes rest
unfolding single_end
single-takes page opener [] rest e = absurd cc
single-takes page opener (b ∷ bytes) rest e =
    elim (chosen (eqb b 39) (Ok (b ∷ bytes)) (single_end page opener bytes) (Ok rest) e) [
      | inl c ↦
          let r = ok_same (b ∷ bytes) rest c.1 in
          record { value = []; after = bytes; parts = r; quote = sym r ∙ ap (λ (x : ℕ). x ∷ bytes) (eqb-true b 39 c.0); none = refl }
      | inr c ↦
          let t = single-takes page opener bytes rest c.1 in
          record { value = b ∷ t.value; after = t.after; parts = ap (λ (l : List ℕ). b ∷ l) t.parts; quote = t.quote; none = rw (c.0, t.none) refl }
    ]

single-again : (page : Page) (opener : ℕ) (value rest : List ℕ) → has 39 value ≡ false → single_end page opener (value ++ 39 ∷ rest) ≡ Ok (39 ∷ rest)
unfolding single_end
single-again page opener [] rest h = refl
single-again page opener (b ∷ value) rest h =
    let o = or_false (eqb b 39) (has 39 value) h in
    rw o.0 (single-again page opener value rest o.1)

record DoubleEnd (strict behind : Bool) (bytes rest : List ℕ) : Type 0 where
  pub raw : List ℕ
  pub after : List ℕ
  pub parts : bytes ≡ raw ++ rest
  pub quote : rest ≡ 34 ∷ after
  pub raw_is : is_raw strict behind raw ≡ true

lenient : (strict escape : Bool) → (strict && not escape) ≡ false → (not strict || escape) ≡ true
lenient true true h = refl
lenient true false h = absurd cc
lenient false escape h = refl

lenient-back : (strict escape : Bool) → (not strict || escape) ≡ true → (strict && not escape) ≡ false
lenient-back true true h = refl
lenient-back true false h = absurd cc
lenient-back false escape h = refl

three : (a b c : Bool) → ((a && b) && c) ≡ false → a ≡ true → (b && c) ≡ false
three true b c h e = h
three false b c h e = absurd cc

double-takes : (page : Page) (opener : ℕ) (behind : Bool) (bytes rest : List ℕ) → double_end page opener behind bytes ≡ Ok rest → (behind ≡ true → (page.strict && begins_other bytes) ≡ false) → DoubleEnd page.strict behind bytes rest
unfolding double_end
double-takes page opener true [] rest e h = absurd cc
double-takes page opener false [] rest e h = absurd cc
double-takes page opener true (b ∷ bytes) rest e h =
    let t = double-takes page opener false bytes rest e (λ x. absurd cc) in
    record { raw = b ∷ t.raw; after = t.after; parts = ap (λ (l : List ℕ). b ∷ l) t.parts; quote = t.quote; raw_is = rw (lenient page.strict (is_escape b) (h refl), t.raw_is) refl }
double-takes page opener false (b ∷ bytes) rest e h =
    elim (chosen (eqb b 34) (Ok (b ∷ bytes)) _ (Ok rest) e) [
      | inl c ↦
          let r = ok_same (b ∷ bytes) rest c.1 in
          record { raw = []; after = bytes; parts = r; quote = sym r ∙ ap (λ (x : ℕ). x ∷ bytes) (eqb-true b 34 c.0); raw_is = refl }
      | inr c ↦
          let g = guard_false ((eqb b 92 && page.strict) && begins_other bytes) _ (double_end page opener (eqb b 92) bytes) rest c.1 in
          let t = double-takes page opener (eqb b 92) bytes rest g.1 (λ x. three (eqb b 92) page.strict (begins_other bytes) g.0 x) in
          record { raw = b ∷ t.raw; after = t.after; parts = ap (λ (l : List ℕ). b ∷ l) t.parts; quote = t.quote; raw_is = rw (c.0, t.raw_is) refl }
    ]

not-true : (a : Bool) → not a ≡ true → a ≡ false
not-true true h = absurd cc
not-true false h = refl

letter : (strict behind : Bool) (raw rest : List ℕ) → is_raw strict behind raw ≡ true → ((behind && strict) && begins_other (raw ++ 34 ∷ rest)) ≡ false
letter strict false raw rest h = refl
letter strict true [] rest h = absurd cc
letter strict true (c ∷ raw) rest h = lenient-back strict (is_escape c) (and_true (not strict || is_escape c) (is_raw strict false raw) h).0

double-again : (page : Page) (opener : ℕ) (behind : Bool) (raw rest : List ℕ) → is_raw page.strict behind raw ≡ true → double_end page opener behind (raw ++ 34 ∷ rest) ≡ Ok (34 ∷ rest)
unfolding double_end
double-again page opener true [] rest h = absurd cc
double-again page opener false [] rest h = refl
double-again page opener true (b ∷ raw) rest h =
    let p = and_true (not page.strict || is_escape b) (is_raw page.strict false raw) h in
    double-again page opener false raw rest p.1
double-again page opener false (b ∷ raw) rest h =
    let p = and_true (not (eqb b 34)) (is_raw page.strict (eqb b 92) raw) h in
    rw (not-true (eqb b 34) p.0, letter page.strict (eqb b 92) raw rest p.1) (double-again page opener (eqb b 92) raw rest p.1)

-- ---- strings

single-of : (page : Page) (bytes value rest end : List ℕ) → SingleEnd bytes end → front bytes end ≡ value → drop 1 end ≡ rest → IsString page (39 ∷ bytes) value rest
single-of page bytes value rest end t is then =
    let e : bytes ≡ t.value ++ 39 ∷ t.after = t.parts ∙ ap (λ (l : List ℕ). t.value ++ l) t.quote in
    let f : front bytes end ≡ t.value = ap (λ (l : List ℕ). front l end) t.parts ∙ front-append t.value end in
    let d : drop 1 end ≡ t.after = ap (drop 1) t.quote in
    let v : value ≡ t.value = sym is ∙ f in
    let r : rest ≡ t.after = sym then ∙ d in
    single (ap (λ (l : List ℕ). 39 ∷ l) e ∙ ap (λ (x : List ℕ). 39 ∷ (x ++ 39 ∷ t.after)) (sym v) ∙ ap (λ (x : List ℕ). 39 ∷ (value ++ 39 ∷ x)) (sym r)) (ap (has 39) v ∙ t.none)

double-of : (page : Page) (bytes value rest end : List ℕ) → DoubleEnd page.strict false bytes end → meaning (column_of page (34 ∷ bytes) + 1) 0 false [] (front bytes end) ≡ value → drop 1 end ≡ rest → IsString page (34 ∷ bytes) value rest
double-of page bytes value rest end t is then =
    let e : bytes ≡ t.raw ++ 34 ∷ t.after = t.parts ∙ ap (λ (l : List ℕ). t.raw ++ l) t.quote in
    let f : front bytes end ≡ t.raw = ap (λ (l : List ℕ). front l end) t.parts ∙ front-append t.raw end in
    let d : drop 1 end ≡ t.after = ap (drop 1) t.quote in
    let room : ℕ = column_of page (34 ∷ bytes) + 1 in
    let v : value ≡ spoken room 0 false t.raw = sym is ∙ ap (meaning room 0 false []) f ∙ meaning-spoken room t.raw in
    let r : rest ≡ t.after = sym then ∙ d in
    double t.raw (ap (λ (l : List ℕ). 34 ∷ l) e ∙ ap (λ (x : List ℕ). 34 ∷ (t.raw ++ 34 ∷ x)) (sym r)) t.raw_is v

other-quote : (a b : Bool) → (a || b) ≡ true → b ≡ false → a ≡ true
other-quote true b h e = refl
other-quote false b h e = absurd cc

pub string-takes : (page : Page) (text value rest : List ℕ) → begins_quote text ≡ true → string_at page text ≡ Ok (value, rest) → IsString page text value rest
unfolding string_at
string-takes page [] value rest q e = absurd cc
string-takes page (quote ∷ bytes) value rest q e =
    elim (chosen (eqb quote 39) (single_end page (place_of page (quote ∷ bytes)) bytes >>= λ r. Ok (front bytes r, drop 1 r)) _ (Ok (value, rest)) e) [
      | inl c ↦
          let b = bind_ok (single_end page (place_of page (quote ∷ bytes)) bytes) (λ r. Ok (front bytes r, drop 1 r)) (value, rest) c.1 in
          let last = ok_same (front bytes b.0, drop 1 b.0) (value, rest) b.2 in
          let s = single-of page bytes value rest b.0 (single-takes page (place_of page (quote ∷ bytes)) bytes b.0 b.1) (ap (λ (x : List ℕ × List ℕ). x.0) last) (ap (λ (x : List ℕ × List ℕ). x.1) last) in
          subst (λ (x : ℕ). IsString page (x ∷ bytes) value rest) (sym (eqb-true quote 39 c.0)) s
      | inr c ↦
          let is : quote ≡ 34 = eqb-true quote 34 (other-quote (eqb quote 34) (eqb quote 39) q c.0) in
          let b = bind_ok (double_end page (place_of page (quote ∷ bytes)) false bytes) (λ r. Ok (meaning (column_of page (quote ∷ bytes) + 1) 0 false [] (front bytes r), drop 1 r)) (value, rest) c.1 in
          let last = ok_same (meaning (column_of page (quote ∷ bytes) + 1) 0 false [] (front bytes b.0), drop 1 b.0) (value, rest) b.2 in
          let m = subst (λ (x : ℕ). meaning (column_of page (x ∷ bytes) + 1) 0 false [] (front bytes b.0) ≡ value) is (ap (λ (x : List ℕ × List ℕ). x.0) last) in
          let s = double-of page bytes value rest b.0 (double-takes page (place_of page (quote ∷ bytes)) false bytes b.0 b.1 (λ x. absurd cc)) m (ap (λ (x : List ℕ × List ℕ). x.1) last) in
          subst (λ (x : ℕ). IsString page (x ∷ bytes) value rest) (sym is) s
    ]

pub string-read : (page : Page) (text value rest : List ℕ) → IsString page text value rest → (string_at page text ≡ Ok (value, rest)) × (begins_quote text ≡ true)
unfolding string_at
string-read page text value rest (single e h) = (ap (string_at page) e ∙ rw (single-again page _ value rest h, front-append value (39 ∷ rest)) refl, ap begins_quote e)
string-read page text value rest (double raw e h v) =
    let room : column_of page text ≡ column_of page (34 ∷ (raw ++ 34 ∷ rest)) = ap (column_of page) e in
    let one : string_at page (34 ∷ (raw ++ 34 ∷ rest)) ≡ Ok (meaning (column_of page (34 ∷ (raw ++ 34 ∷ rest)) + 1) 0 false [] raw, rest) = rw (double-again page _ false raw rest h, front-append raw (34 ∷ rest)) refl in
    let same : meaning (column_of page (34 ∷ (raw ++ 34 ∷ rest)) + 1) 0 false [] raw ≡ value = meaning-spoken _ raw ∙ ap (λ (c : ℕ). spoken (c + 1) 0 false raw) (sym room) ∙ sym v in
    (ap (string_at page) e ∙ one ∙ ap (λ (x : List ℕ). Ok (x, rest)) same, ap begins_quote e)
