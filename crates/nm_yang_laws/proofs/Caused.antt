-- The first fault of a text has its cause there.
use Rattle.std.proofs.Common.{◌≡◌, ℕ, ◌-◌, ◌≤◌, ◌<◌, Bool, true, false, eqb, ltb, List, length, drop, take, get_or, slice_index, Some, Result, Ok, Err, refl, sym, ap, subst, ◌∙◌, arith, length-append, ◌∷◌, Option, None}
use Rattle.std.specs.Prelude.{IsUtf8}
use Rattle.nm_yang.specs.Grammar.{Blanks}
use Rattle.std.specs.Str.Lossy.{utf8_valid_len}
use Rattle.std.proofs.lemmas.List.{drop_at, length-take, take-take, get_or-take}
use Rattle.std.specs.Option.{unwrap_or}
use Rattle.std.proofs.lemmas.Bool.{eqb-true, ltb-true, ltb-false}
use Rattle.std.proofs.lemmas.Bool.Decides.{nat_tests}
use Rattle.std.proofs.lemmas.Str.{utf8_valid_len_le, IsUtf8-take, IsCharBoundary-before_ascii}
use Rattle.nm_yang.specs.declared.fault.Fault.{Fault}
use Rattle.nm_yang.specs.declared.fault.YangKind.TheVariants.{BadKeyword, NotUtf8, NotModule, Trailing, TooLong}
use Rattle.nm_yang.specs.Tree.{Tree}
use Rattle.nm_yang.specs.Page.{Page, bad, place_of}
use Rattle.nm_yang.specs.Module.{front_len, stop_of, page_of, module_at, reading, reading_within, not_module, most_long}
use Rattle.nm_yang_laws.specs.Faults.{IsCause, shown, behind_colon, no_module, other_keyword, trailing, not_utf8, too_long, begins_no_identifier, begins_token, Shows, is_1_1, read_page}
use Rattle.nm_yang.proofs.Again.{and_true}
use Rattle.nm_yang_laws.proofs.Tails.{IsTail, tail-self, tail-cons, tail-trans, tail-length}
use Rattle.nm_yang_laws.proofs.Goods.{Known, Fails, ends, stops, nothing, trails, colon, no_text, stands, Good, by-cond, fails-at_end, fails-end}
use Rattle.nm_yang_laws.proofs.Limits.{AfterModule, whole_page}
use Rattle.nm_yang_laws.proofs.Fronts.{valid-front, valid-within}
use Rattle.nm_yang_laws.proofs.Stated.{good-module, no_rest}

reading-by : (text : List ℕ) (version : Bool) → is_1_1 text ≡ version → reading_within most_long text ≡ (module_at (page_of most_long version text)).1
reading-by text true e = rw e refl
reading-by text false e = rw e refl

-- what is read of the page that a text is read as
pub reading-page : (text : List ℕ) → reading text ≡ (module_at (read_page text)).1
unfolding reading
reading-page text = reading-by text (is_1_1 text) refl

-- a `/` begins behind a whole character
before-slash : (limit : ℕ) (text : List ℕ) → 0 < limit → limit ≤ utf8_valid_len text → slice_index text (limit - 1) ≡ 47 → IsUtf8 (take (limit - 1) text)
before-slash limit text some le is =
    let v : ℕ = utf8_valid_len text in
    let i : ℕ = limit - 1 in
    let lt : i < v = omega (arith, some, le) in
    let l : i < length (take v text) = omega (arith, lt, length-take v text, utf8_valid_len_le text) in
    let g : get_or (take v text) i 0 ≡ 47 = get_or-take v text i 0 lt ∙ is in
    subst IsUtf8 (take-take i v text (omega (arith, lt))) (IsUtf8-take (take v text) i (valid-front text) (IsCharBoundary-before_ascii (take v text) i l (omega (arith, g))))

front-utf8 : (limit : ℕ) (text : List ℕ) → 0 < limit → IsUtf8 (take (front_len limit text) text)
front-utf8 limit text some =
    let P : ℕ → Type 0 = λ k. IsUtf8 (take k text) in
    by-cond P (ltb (utf8_valid_len text) limit) _ _ (λ h. valid-front text) (λ h.
    by-cond P _ (limit - 1) _
    (λ c. before-slash limit text some (ltb-false (utf8_valid_len text) limit h) (eqb-true (slice_index text (limit - 1)) 47 (and_true (ltb limit (length text)) (eqb (slice_index text (limit - 1)) 47) c).1))
    (λ c. subst IsUtf8 (take-take (utf8_valid_len (take limit text)) limit text (valid-within limit text)) (valid-front (take limit text))))

-- what is known of a text that is read
abbrev known : List ℕ → Known
known text = whole_page (read_page text) (front-utf8 most_long text (omega arith))

good-fault : (m : Known) (ending : Fault) (bytes : List ℕ) (r : Result Tree Fault) (fault : Fault) → r ≡ Err fault → Good m ending no_rest bytes r → Fails m ending bytes fault
good-fault m ending bytes (Ok t) fault e h = absurd cc
good-fault m ending bytes (Err f) fault e h = let s : f ≡ fault = cc in subst (λ (x : Fault). Fails m ending bytes x) s h

fails-text : (text : List ℕ) (fault : Fault) → reading text ≡ Err fault → Fails (known text) (not_module (read_page text)) (read_page text).text fault
fails-text text fault e =
    let page : Page = read_page text in
    good-fault (known text) (not_module page) page.text (module_at page).1 fault (sym (reading-page text) ∙ e) (good-module (known text) (tail-self page.text))

-- what cuts a text off
pub data CutsOff (text : List ℕ) (fault : Fault) : Type 0 where
  invalid : fault ≡ bad (utf8_valid_len text) NotUtf8 → utf8_valid_len text < length text → utf8_valid_len text < most_long → CutsOff text fault
  long : fault ≡ bad most_long TooLong → most_long ≤ utf8_valid_len text → most_long < length text → CutsOff text fault

stop-cause : (text : List ℕ) (fault : Fault) (p q r : Bool) → ltb (utf8_valid_len text) most_long ≡ p → eqb (utf8_valid_len text) (length text) ≡ q → eqb most_long (length text) ≡ r → stop_of most_long text ≡ Some fault → CutsOff text fault
stop-cause text fault true true r a b c e = absurd (let x = rw (a, b) at e in cc)
stop-cause text fault true false r a b c e =
    let x : Some (bad (utf8_valid_len text) NotUtf8) ≡ Some fault = rw (a, b) at e in
    let is : bad (utf8_valid_len text) NotUtf8 ≡ fault = cc in
    let l : utf8_valid_len text ≤ length text = utf8_valid_len_le text in
    invalid (sym is) (grind (arith, nat_tests, b, l)) (ltb-true (utf8_valid_len text) most_long a)
stop-cause text fault false q true a b c e = absurd (let x = rw (a, c) at e in cc)
stop-cause text fault false q false a b c e =
    let x : Some (bad most_long TooLong) ≡ Some fault = rw (a, c) at e in
    let is : bad most_long TooLong ≡ fault = cc in
    let l : utf8_valid_len text ≤ length text = utf8_valid_len_le text in
    let m = ltb-false (utf8_valid_len text) most_long a in
    long (sym is) (omega (arith, m)) (grind (arith, nat_tests, c, l, m))

pub cut_off : (text : List ℕ) (fault : Fault) → stop_of most_long text ≡ Some fault → CutsOff text fault
cut_off text fault e = stop-cause text fault (ltb (utf8_valid_len text) most_long) (eqb (utf8_valid_len text) (length text)) (eqb most_long (length text)) refl refl refl e

stopped : (text : List ℕ) (fault : Fault) → CutsOff text fault → IsCause text fault
stopped text fault (invalid e l m) = not_utf8 e l m
stopped text fault (long e v l) = too_long e v l

-- where the rest stands
pub drop-place : (page : Page) (rest : List ℕ) → IsTail rest page.text → drop (place_of page rest) page.text ≡ rest
drop-place page rest t =
    let e = ap length t.parts in
    let n : place_of page rest ≡ length t.before = omega (arith, e, length-append t.before rest) in
    ap (λ (k : ℕ). drop k page.text) n ∙ ap (drop (length t.before)) t.parts ∙ drop_at t.before rest (length t.before) refl

-- where the text ends before the module does
end-cause : (text : List ℕ) (fault : Fault) (stop : Option Fault) → (read_page text).stop ≡ stop → fault ≡ unwrap_or stop (bad 0 NotModule) → IsCause text fault
end-cause text fault (Some f) s e = stopped text fault (cut_off text fault (s ∙ ap (λ (x : Fault). Some x) (sym e)))
end-cause text fault None s e = no_module e s

trail-cause : (text rest : List ℕ) (fault : Fault) → IsTail rest (read_page text).text → fault ≡ bad (place_of (read_page text) rest) Trailing → begins_token rest ≡ true → AfterModule (read_page text) rest → IsCause text fault
trail-cause text rest fault t e n b =
    let page : Page = read_page text in
    let p : fault.place ≡ place_of page rest = ap (λ (f : Fault). f.place) e in
    let d : rest ≡ drop fault.place page.text = sym (ap (λ (k : ℕ). drop k page.text) p ∙ drop-place page rest t) in
    trailing (ap (λ (f : Fault). f.kind) e) b.start b.after b.tree b.before b.spells b.named (subst (λ (x : List ℕ). Blanks x b.after) d b.behind) (subst (λ (x : List ℕ). begins_token x ≡ true) d n)

colon-cause : (text rest : List ℕ) (fault : Fault) → IsTail (58 ∷ rest) (read_page text).text → fault ≡ bad (place_of (read_page text) rest) BadKeyword → begins_no_identifier rest ≡ true → IsCause text fault
colon-cause text rest fault t e n =
    let page : Page = read_page text in
    let l = tail-length (58 ∷ rest) page.text t in
    let p : fault.place ≡ place_of page rest = ap (λ (f : Fault). f.place) e in
    let q : fault.place - 1 ≡ place_of page (58 ∷ rest) = omega (arith, p, l) in
    let u : IsTail rest page.text = tail-trans rest (58 ∷ rest) page.text (tail-cons 58 rest rest (tail-self rest)) t in
    let c : drop (fault.place - 1) page.text ≡ 58 ∷ rest = ap (λ (k : ℕ). drop k page.text) q ∙ drop-place page (58 ∷ rest) t in
    let d : drop fault.place page.text ≡ rest = ap (λ (k : ℕ). drop k page.text) p ∙ drop-place page rest u in
    behind_colon (ap (λ (f : Fault). f.kind) e) (omega (arith, p, l)) (c ∙ ap (λ (x : List ℕ). 58 ∷ x) (sym d)) (subst (λ (x : List ℕ). begins_no_identifier x ≡ true) (sym d) n)

causes : (text : List ℕ) (fault : Fault) → Fails (known text) (not_module (read_page text)) (read_page text).text fault → IsCause text fault
causes text fault (ends e) = end-cause text fault (read_page text).stop refl e
causes text fault (stops e) = stopped text fault (cut_off text fault e)
causes text fault (nothing e o) = other_keyword e o.start o.keyword o.after o.blanks o.keyword_is o.other
causes text fault (trails rest t e n b) = trail-cause text rest fault t e n b
causes text fault (colon rest t e n) = colon-cause text rest fault t e n
causes text fault (no_text rest t e c) = absurd c
causes text fault (stands rest t p s) =
    let page : Page = read_page text in
    let d : drop fault.place page.text ≡ rest = ap (λ (k : ℕ). drop k page.text) p ∙ drop-place page rest t in
    shown (subst (λ (l : List ℕ). Shows page l fault.kind) (sym d) s)

-- the fault where the text ends before the module does
ended : (m : Known) (fault : Fault) → Fails m (not_module m.page) m.page.text fault → Fails m (bad 0 NotModule) m.page.text fault
ended m fault h = fails-end m (not_module m.page) (bad 0 NotModule) m.page.text fault (fails-at_end m (bad 0 NotModule) m.page.text (bad 0 NotModule) (λ stop. ends refl)) h

pub fault-causes : (text : List ℕ) (fault : Fault) → reading text ≡ Err fault → IsCause text fault
fault-causes text fault e = causes text fault (fails-text text fault e)

-- ---- places

front-length : (n : ℕ) (text : List ℕ) → length (take n text) ≤ length text
front-length n text = omega (arith, length-take n text)

cut-place : (text : List ℕ) (fault : Fault) → CutsOff text fault → fault.place ≤ length text
cut-place text fault (invalid e l m) = let p = ap (λ (f : Fault). f.place) e in omega (arith, p, l)
cut-place text fault (long e v l) = let p = ap (λ (f : Fault). f.place) e in omega (arith, p, l)

placed : (text : List ℕ) (fault : Fault) → Fails (known text) (bad 0 NotModule) (read_page text).text fault → fault.place ≤ length text
placed text fault (ends e) = let p = ap (λ (f : Fault). f.place) e in omega (arith, p)
placed text fault (stops e) = cut-place text fault (cut_off text fault e)
placed text fault (trails rest t e n b) = let p = ap (λ (f : Fault). f.place) e in let l = front-length (front_len most_long text) text in omega (arith, p, l)
placed text fault (colon rest t e n) = let p = ap (λ (f : Fault). f.place) e in let l = front-length (front_len most_long text) text in omega (arith, p, l)
placed text fault (nothing e o) = let p = ap (λ (f : Fault). f.place) e in omega (arith, p)
placed text fault (no_text rest t e c) = absurd c
placed text fault (stands rest t p s) = let l = front-length (front_len most_long text) text in omega (arith, p, l)

pub fault-place : (text : List ℕ) (fault : Fault) → reading text ≡ Err fault → fault.place ≤ length text
fault-place text fault e = placed text fault (ended (known text) fault (fails-text text fault e))
