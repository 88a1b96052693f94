-- Texts that agree up to a fault at which reading stops, and a little on, have the same fault.
use Rattle.std.proofs.Common.{◌≡◌, ℕ, ◌+◌, ◌-◌, ◌≤◌, ◌<◌, Bool, true, false, cond, eqb, ltb, List, ◌++◌, length, take, drop, get_or, slice_index, Some, Result, Err, refl, sym, ap, subst, ◌∙◌, arith}
use Rattle.std.specs.Prelude.{IsUtf8}
use Rattle.std.specs.Str.Lossy.{utf8_valid_len}
use Rattle.std.proofs.lemmas.Bool.{ltb-true, ltb-false}
use Rattle.std.proofs.lemmas.Bool.Decides.{nat_tests}
use Rattle.std.proofs.lemmas.List.{take-take, take_all, length-take, take-append-drop, get_or-take}
use Rattle.std.proofs.lemmas.Str.{utf8_valid_len_le}
use Rattle.nm_yang.specs.declared.fault.Fault.{Fault}
use Rattle.nm_yang.specs.declared.fault.YangKind.{YangKind}
use Rattle.nm_yang.specs.declared.fault.YangKind.TheVariants.{UnclosedQuote, UnclosedComment, UnclosedBrace, BadEscape, BadKeyword, BadToken, NotModule, Trailing, NotUtf8, TooLong, TooDeep}
use Rattle.nm_yang.specs.Tree.{Tree}
use Rattle.nm_yang.specs.Page.{Page, bad}
use Rattle.nm_yang.specs.Module.{Found, any_says_1_1, front_len, page_of, module_at, reading, most_long}
use Rattle.nm_yang_laws.specs.Faults.{IsCause, shown, behind_colon, no_module, other_keyword, trailing, not_utf8, too_long, Shows, halts, is_1_1, read_page}
use Rattle.nm_yang_laws.proofs.Goods.{by-cond}
use Rattle.nm_yang_laws.proofs.Caused.{CutsOff, invalid, long, cut_off, reading-page, fault-causes}
use Rattle.nm_yang_laws.proofs.Fronts.{take-less, valid-longest, valid-within, valid-cut, near-valid, valid-shared, valid-same}
use Rattle.nm_yang_laws.proofs.Alike.{Alike}
use Rattle.nm_yang_laws.proofs.Modules.{same-found}

-- ---- what is read of texts that begin alike

abbrev invalid_page : ℕ → List ℕ → Bool → Page
invalid_page valid front strict = record { text = front; stop = Some (bad valid NotUtf8); strict = strict }

page-invalid : (limit : ℕ) (text : List ℕ) (strict : Bool) → utf8_valid_len text < limit → utf8_valid_len text < length text → page_of limit strict text ≡ invalid_page (utf8_valid_len text) (take (utf8_valid_len text) text) strict
page-invalid limit text strict lt less =
    let a : ltb (utf8_valid_len text) limit ≡ true = grind (arith, nat_tests, lt) in
    let b : eqb (utf8_valid_len text) (length text) ≡ false = grind (arith, nat_tests, less) in
    rw (a, b) refl

same-invalid : (limit : ℕ) (one other : List ℕ) (n : ℕ) (strict : Bool) → take n one ≡ take n other → n ≤ length one → n ≤ length other → utf8_valid_len one ≡ utf8_valid_len other → utf8_valid_len one < n → utf8_valid_len one < limit → page_of limit strict one ≡ page_of limit strict other
same-invalid limit one other n strict e lo lp v lt lim =
    let t : take (utf8_valid_len one) one ≡ take (utf8_valid_len one) other = take-less one other (utf8_valid_len one) n (omega (arith, lt)) e in
    page-invalid limit one strict lim (omega (arith, lt, lo)) ∙ ap (λ (l : List ℕ). invalid_page (utf8_valid_len one) l strict) t ∙ ap (λ (k : ℕ). invalid_page k (take k other) strict) v ∙ sym (page-invalid limit other strict (omega (arith, v, lim)) (omega (arith, v, lt, lp)))

-- the byte before the limit where that is `/`, and else the end of the last whole character
abbrev limit_len : ℕ → ℕ → ℕ → ℕ
limit_len limit last valid = cond (eqb last 47) (limit - 1) valid

abbrev long_page : ℕ → List ℕ → Bool → Page
long_page limit front strict = record { text = front; stop = Some (bad limit TooLong); strict = strict }

page-long : (limit : ℕ) (text : List ℕ) (strict : Bool) → limit ≤ utf8_valid_len text → limit < length text → page_of limit strict text ≡ long_page limit (take (limit_len limit (slice_index text (limit - 1)) (utf8_valid_len (take limit text))) text) strict
page-long limit text strict le less =
    let a : ltb (utf8_valid_len text) limit ≡ false = grind (arith, nat_tests, le) in
    let b : eqb limit (length text) ≡ false = grind (arith, nat_tests, less) in
    let c : ltb limit (length text) ≡ true = grind (arith, nat_tests, less) in
    rw (a, b, c) refl

limit_len-le : (limit last valid : ℕ) → valid ≤ limit → limit_len limit last valid ≤ limit
limit_len-le limit last valid le = by-cond (λ (k : ℕ). k ≤ limit) (eqb last 47) (limit - 1) valid (λ h. omega arith) (λ h. le)

same-long : (limit : ℕ) (one other : List ℕ) (n : ℕ) (strict : Bool) → take n one ≡ take n other → n ≤ length one → n ≤ length other → limit < n → limit ≤ utf8_valid_len one → limit ≤ utf8_valid_len other → page_of limit strict one ≡ page_of limit strict other
same-long limit one other n strict e lo lp lt vo vp =
    let i : ℕ = limit - 1 in
    let b : slice_index one i ≡ slice_index other i = sym (get_or-take n one i 0 (omega (arith, lt))) ∙ ap (λ (l : List ℕ). get_or l i 0) e ∙ get_or-take n other i 0 (omega (arith, lt)) in
    let v : ℕ = utf8_valid_len (take limit one) in
    let k : ℕ = limit_len limit (slice_index one i) v in
    let t : take k one ≡ take k other = take-less one other k n (let h = limit_len-le limit (slice_index one i) v (valid-within limit one) in omega (arith, h, lt)) e in
    let c : v ≡ utf8_valid_len (take limit other) = ap utf8_valid_len (take-less one other limit n (omega (arith, lt)) e) in
    page-long limit one strict vo (omega (arith, lt, lo)) ∙ ap (λ (l : List ℕ). long_page limit l strict) t ∙ ap (λ (x : ℕ). long_page limit (take (limit_len limit x v) other) strict) b
    ∙ ap (λ (x : ℕ). long_page limit (take (limit_len limit (slice_index other i) x) other) strict) c ∙ sym (page-long limit other strict vp (omega (arith, lt, lp)))

-- the same is read of both, or both are read up to a place at least
data Sides (limit m : ℕ) (one other : List ℕ) : Type 0 where
  equal : ((strict : Bool) → page_of limit strict one ≡ page_of limit strict other) → Sides limit m one other
  share : m ≤ front_len limit one → m ≤ front_len limit other → Sides limit m one other

front-enough : (limit m : ℕ) (text : List ℕ) → m ≤ utf8_valid_len text → m < limit → m ≤ utf8_valid_len (take limit text) → m ≤ front_len limit text
front-enough limit m text v lt w =
    by-cond (λ (k : ℕ). m ≤ k) (ltb (utf8_valid_len text) limit) _ _ (λ h. v) (λ h. by-cond (λ (k : ℕ). m ≤ k) _ (limit - 1) _ (λ c. omega (arith, lt)) (λ c. w))

sides-invalid : (limit m : ℕ) (one other : List ℕ) (short : Bool) → ltb (utf8_valid_len one) limit ≡ short → take (m + 3) one ≡ take (m + 3) other → m + 3 ≤ length one → m + 3 ≤ length other → utf8_valid_len one < m → utf8_valid_len one ≡ utf8_valid_len other → Sides limit m one other
sides-invalid limit m one other true is e lo lp lt v = let l = ltb-true (utf8_valid_len one) limit is in equal (λ strict. same-invalid limit one other (m + 3) strict e lo lp v (omega (arith, lt)) l)
sides-invalid limit m one other false is e lo lp lt v = let l = ltb-false (utf8_valid_len one) limit is in equal (λ strict. same-long limit one other (m + 3) strict e lo lp (omega (arith, lt, l)) (omega (arith, l)) (omega (arith, l, v)))

-- a character ends at a place up to which both are read, or it ends behind the limit
sides-near : (limit m : ℕ) (one other : List ℕ) (j : ℕ) (beyond : Bool) → ltb limit j ≡ beyond → m < limit → m ≤ j → j ≤ m + 3 → IsUtf8 (take j one) → take (m + 3) one ≡ take (m + 3) other → m + 3 ≤ length one → m + 3 ≤ length other → m ≤ utf8_valid_len one → m ≤ utf8_valid_len other
    → Sides limit m one other
sides-near limit m one other j true is lt ge le u e lo lp vo vp =
    let l = ltb-true limit j is in
    let a = valid-longest one j u (omega (arith, le, lo)) in
    let b = valid-longest other j (subst IsUtf8 (take-less one other j (m + 3) le e) u) (omega (arith, le, lp)) in
    equal (λ strict. same-long limit one other (m + 3) strict e lo lp (omega (arith, l, le)) (omega (arith, l, a)) (omega (arith, l, b)))
sides-near limit m one other j false is lt ge le u e lo lp vo vp =
    let l = ltb-false limit j is in
    let a = valid-cut limit j one u (omega (arith, l)) (omega (arith, le, lo)) in
    let b = valid-cut limit j other (subst IsUtf8 (take-less one other j (m + 3) le e) u) (omega (arith, l)) (omega (arith, le, lp)) in
    share (front-enough limit m one vo lt (omega (arith, ge, a))) (front-enough limit m other vp lt (omega (arith, ge, b)))

sides-valid : (limit m : ℕ) (one other : List ℕ) (near : Bool) → ltb m limit ≡ near → take (m + 3) one ≡ take (m + 3) other → m + 3 ≤ length one → m + 3 ≤ length other → m ≤ utf8_valid_len one → m ≤ utf8_valid_len other → Sides limit m one other
sides-valid limit m one other true is e lo lp vo vp =
    let f = near-valid one m vo in
    sides-near limit m one other f.size (ltb limit f.size) refl (ltb-true m limit is) f.enough f.near f.front e lo lp vo vp
sides-valid limit m one other false is e lo lp vo vp = let l = ltb-false m limit is in equal (λ strict. same-long limit one other (m + 3) strict e lo lp (omega (arith, l)) (omega (arith, l, vo)) (omega (arith, l, vp)))

sides-by : (limit m : ℕ) (one other : List ℕ) (p q : Bool) → ltb (utf8_valid_len one) m ≡ p → ltb (utf8_valid_len other) m ≡ q → take (m + 3) one ≡ take (m + 3) other → m + 3 ≤ length one → m + 3 ≤ length other → Sides limit m one other
sides-by limit m one other true true a b e lo lp =
    let l = ltb-true (utf8_valid_len one) m a in
    let k = ltb-true (utf8_valid_len other) m b in
    let v = valid-same one other (m + 3) e lo lp (omega (arith, l)) (omega (arith, k)) in
    sides-invalid limit m one other (ltb (utf8_valid_len one) limit) refl e lo lp l v
sides-by limit m one other true false a b e lo lp =
    let l = ltb-true (utf8_valid_len one) m a in
    let k = ltb-false (utf8_valid_len other) m b in
    absurd (let v = valid-shared other one m (sym e) lo (omega (arith, k)) in omega (arith, l, v))
sides-by limit m one other false true a b e lo lp =
    let l = ltb-false (utf8_valid_len one) m a in
    let k = ltb-true (utf8_valid_len other) m b in
    absurd (let v = valid-shared one other m e lp (omega (arith, l)) in omega (arith, k, v))
sides-by limit m one other false false a b e lo lp =
    let l = ltb-false (utf8_valid_len one) m a in
    let k = ltb-false (utf8_valid_len other) m b in
    sides-valid limit m one other (ltb m limit) refl e lo lp (omega (arith, l)) (omega (arith, k))

-- texts that agree beyond the end of one are one text
short-same : (one other : List ℕ) (n : ℕ) → take n one ≡ take n other → length one < n → one ≡ other
short-same one other n e lt =
    let l = ap length e in
    let k : length other < n = omega (arith, l, lt, length-take n one, length-take n other) in
    sym (take_all n one (omega (arith, lt))) ∙ e ∙ take_all n other (omega (arith, k))

sides-long : (limit m : ℕ) (one other : List ℕ) (p q : Bool) → ltb (length one) (m + 3) ≡ p → ltb (length other) (m + 3) ≡ q → take (m + 3) one ≡ take (m + 3) other → Sides limit m one other
sides-long limit m one other true q a b e = let same = short-same one other (m + 3) e (ltb-true (length one) (m + 3) a) in equal (λ strict. ap (λ (l : List ℕ). page_of limit strict l) same)
sides-long limit m one other false true a b e = let same = short-same other one (m + 3) (sym e) (ltb-true (length other) (m + 3) b) in equal (λ strict. ap (λ (l : List ℕ). page_of limit strict l) (sym same))
sides-long limit m one other false false a b e =
    let l = ltb-false (length one) (m + 3) a in
    let k = ltb-false (length other) (m + 3) b in
    sides-by limit m one other (ltb (utf8_valid_len one) m) (ltb (utf8_valid_len other) m) refl refl e (omega (arith, l)) (omega (arith, k))

sides : (limit m : ℕ) (one other : List ℕ) → take (m + 3) one ≡ take (m + 3) other → Sides limit m one other
sides limit m one other e = sides-long limit m one other (ltb (length one) (m + 3)) (ltb (length other) (m + 3)) refl refl e

-- ---- what is read of both

quiet-cut : (text : List ℕ) (strict : Bool) (fault : Fault) → CutsOff text fault → halts strict fault.kind ≡ false
quiet-cut text strict fault (invalid e l m) = rw e refl
quiet-cut text strict fault (long e v l) = rw e refl

front-parts : (text : List ℕ) (m n : ℕ) → m ≤ n → take n text ≡ take m text ++ drop m (take n text)
front-parts text m n le = sym (take-append-drop m (take n text)) ∙ ap (λ (l : List ℕ). l ++ drop m (take n text)) (take-take m n text le)

-- the same statements and the same fault, where each backslash must begin an escape in the one if it must in the other
same-read : (one other : List ℕ) (m : ℕ) (s t : Bool) → (t ≡ true → s ≡ true) → take m one ≡ take m other → m ≤ length one → m ≤ front_len most_long one → m ≤ front_len most_long other
    → (found : List Tree) (fault : Fault) → module_at (page_of most_long s one) ≡ (found, Err fault) → halts t fault.kind ≡ true → fault.place + 2 ≤ m → module_at (page_of most_long t other) ≡ (found, Err fault)
same-read one other m s t stricter e long_ fo fp found fault is h le =
    let w : Alike = record {
      one = page_of most_long s one;
      other = page_of most_long t other;
      common = take m one;
      more = drop m (take (front_len most_long one) one);
      others = drop m (take (front_len most_long other) other);
      one_is = front-parts one m (front_len most_long one) fo;
      other_is = front-parts other m (front_len most_long other) fp ∙ ap (λ (l : List ℕ). l ++ drop m (take (front_len most_long other) other)) (sym e);
      stricter = stricter;
      quiet_stop = λ f stop. quiet-cut one t f (cut_off one f stop);
    } in
    same-found w found fault is h (omega (arith, le, long_, length-take m one))

-- a backslash is a fault only where each must begin an escape
escape-strict : (text : List ℕ) (fault : Fault) → IsCause text fault → fault.kind ≡ BadEscape → is_1_1 text ≡ true
escape-strict text fault (shown s) k = (subst (λ (x : YangKind). Shows (read_page text) (drop fault.place (read_page text).text) x) k s).0
escape-strict text fault (trailing e start after t b i n c h) k = absurd cc
escape-strict text fault (behind_colon e p c n) k = absurd cc
escape-strict text fault (other_keyword e s w a b i n) k = absurd (let x = ap (λ (f : Fault). f.kind) e in cc)
escape-strict text fault (no_module e s) k = absurd (let x = ap (λ (f : Fault). f.kind) e in cc)
escape-strict text fault (not_utf8 e l m) k = absurd (let x = ap (λ (f : Fault). f.kind) e in cc)
escape-strict text fault (too_long e v l) k = absurd (let x = ap (λ (f : Fault). f.kind) e in cc)

lenient-halts : (kind : YangKind) → (kind ≡ BadEscape → ⊥) → halts true kind ≡ true → halts false kind ≡ true
lenient-halts BadEscape off h = absurd (off refl)
lenient-halts BadKeyword off h = refl
lenient-halts BadToken off h = refl
lenient-halts Trailing off h = refl
lenient-halts TooDeep off h = refl
lenient-halts UnclosedQuote off h = absurd cc
lenient-halts UnclosedComment off h = absurd cc
lenient-halts UnclosedBrace off h = absurd cc
lenient-halts NotModule off h = absurd cc
lenient-halts NotUtf8 off h = absurd cc
lenient-halts TooLong off h = absurd cc

ends-so : (r : Found) (fault : Fault) → r.1 ≡ Err fault → r ≡ (r.0, Err fault)
ends-so r fault e = ap (λ (x : Result Tree Fault). (r.0, x)) e

-- what the texts are read as where both say or don't say that they are of version 1.1
shared-by : (one other : List ℕ) (fault : Fault) (v u : Bool) → is_1_1 one ≡ v → is_1_1 other ≡ u → take (fault.place + 2) one ≡ take (fault.place + 2) other → fault.place + 2 ≤ length one → fault.place + 2 ≤ length other
    → fault.place + 2 ≤ front_len most_long one → fault.place + 2 ≤ front_len most_long other → IsCause one fault → (module_at (page_of most_long v one)).1 ≡ Err fault → halts u fault.kind ≡ true → (module_at (page_of most_long u other)).1 ≡ Err fault
shared-by one other fault false false a b e lo lp fo fp c is h =
    let r : Found = module_at (page_of most_long false one) in
    ap (λ (x : Found). x.1) (same-read one other (fault.place + 2) false false (λ x. x) e lo fo fp r.0 fault (ends-so r fault is) h (omega arith))
shared-by one other fault true true a b e lo lp fo fp c is h =
    let r : Found = module_at (page_of most_long true one) in
    ap (λ (x : Found). x.1) (same-read one other (fault.place + 2) true true (λ x. x) e lo fo fp r.0 fault (ends-so r fault is) h (omega arith))
shared-by one other fault false true a b e lo lp fo fp c is h =
    let r : Found = module_at (page_of most_long false one) in
    let k = lenient-halts fault.kind (λ x. let y = escape-strict one fault c x in cc) h in
    let s = same-read one other (fault.place + 2) false false (λ x. x) e lo fo fp r.0 fault (ends-so r fault is) k (omega arith) in
    absurd (let x : is_1_1 other ≡ is_1_1 one = ap (λ (z : Found). any_says_1_1 z.0) s in cc)
shared-by one other fault true false a b e lo lp fo fp c is h =
    let r : Found = module_at (page_of most_long true one) in
    let s = same-read one one (fault.place + 2) true false (λ x. refl) refl lo fo fo r.0 fault (ends-so r fault is) h (omega arith) in
    let t = same-read one other (fault.place + 2) true false (λ x. refl) e lo fo fp r.0 fault (ends-so r fault is) h (omega arith) in
    absurd (let x : is_1_1 other ≡ is_1_1 one = ap (λ (z : Found). any_says_1_1 z.0) t ∙ sym (ap (λ (z : Found). any_says_1_1 z.0) s) in cc)

equal-reading : (one other : List ℕ) → ((strict : Bool) → page_of most_long strict one ≡ page_of most_long strict other) → reading one ≡ reading other
equal-reading one other h =
    let v : is_1_1 one ≡ is_1_1 other = ap (λ (p : Page). any_says_1_1 (module_at p).0) (h false) in
    reading-page one ∙ ap (λ (p : Page). (module_at p).1) (h (is_1_1 one)) ∙ ap (λ (b : Bool). (module_at (page_of most_long b other)).1) v ∙ sym (reading-page other)

front-by : (limit : ℕ) (text : List ℕ) (b : Bool) → ltb (utf8_valid_len text) limit ≡ b → front_len limit text ≤ length text
front-by limit text true is = rw is (utf8_valid_len_le text)
front-by limit text false is =
    let l = ltb-false (utf8_valid_len text) limit is in
    let v = utf8_valid_len_le text in
    let w = utf8_valid_len_le (take limit text) in
    rw is (by-cond (λ (k : ℕ). k ≤ length text) _ (limit - 1) (utf8_valid_len (take limit text)) (λ c. omega (arith, l, v)) (λ c. omega (arith, w, length-take limit text)))

-- no more is read than there is
front-within : (m : ℕ) (text : List ℕ) → m ≤ front_len most_long text → m ≤ length text
front-within m text le = let l = front-by most_long text (ltb (utf8_valid_len text) most_long) refl in omega (arith, le, l)

same-by : (one other : List ℕ) (fault : Fault) → Sides most_long (fault.place + 2) one other → take (fault.place + 2) one ≡ take (fault.place + 2) other → reading one ≡ Err fault → halts (is_1_1 other) fault.kind ≡ true → reading other ≡ Err fault
same-by one other fault (equal h) t e k = sym (equal-reading one other h) ∙ e
same-by one other fault (share fo fp) t e k =
    reading-page other
    ∙ shared-by one other fault (is_1_1 one) (is_1_1 other) refl refl t (front-within (fault.place + 2) one fo) (front-within (fault.place + 2) other fp) fo fp (fault-causes one fault e) (sym (reading-page one) ∙ e) k

pub same-fault : (one other : List ℕ) (fault : Fault) → reading one ≡ Err fault → halts (is_1_1 other) fault.kind ≡ true → take (fault.place + 5) one ≡ take (fault.place + 5) other → reading other ≡ Err fault
same-fault one other fault e h t =
    let n : fault.place + 5 ≡ (fault.place + 2) + 3 = omega arith in
    let s : take ((fault.place + 2) + 3) one ≡ take ((fault.place + 2) + 3) other = ap (λ (k : ℕ). take k one) (sym n) ∙ t ∙ ap (λ (k : ℕ). take k other) n in
    same-by one other fault (sides most_long (fault.place + 2) one other s) (take-less one other (fault.place + 2) ((fault.place + 2) + 3) (omega arith) s) e h
