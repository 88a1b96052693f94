-- Whole texts: a module is read just where the text spells one.
use Rattle.std.proofs.Common.{◌≡◌, ℕ, zero, suc, ◌≤◌, Bool, true, false, not, cond, eqb, ltb, List, [], ◌∷◌, length, take, Option, Some, None, Result, Ok, Err, refl, sym, ap, subst, ◌∙◌, arith}
use Rattle.std.specs.Prelude.{◌||◌, IsUtf8, IfOk, is_ok, codes}
use Rattle.std.specs.Str.{bytes_eq, is_utf8}
use Rattle.std.specs.Str.Lossy.{utf8_valid_len, valid_len_up_to}
use Rattle.std.proofs.lemmas.List.{take_all}
use Rattle.std.proofs.lemmas.Bool.{eqb-true, ltb-true, ltb-false}
use Rattle.std.proofs.lemmas.Slice.Eq.{bytes_eq-Decides}
use Rattle.std.proofs.lemmas.Str.{IsUtf8-from_is_utf8, IsUtf8-nil, utf8_valid_len_le}
use Rattle.nm_yang.specs.declared.fault.Fault.{Fault}
use Rattle.nm_yang.specs.declared.fault.YangFault.{YangFault}
use Rattle.nm_yang.specs.declared.module.Heading.{Heading as Written}
use Rattle.nm_yang.specs.Tree.{Tree, Trees, statement, trees_of}
use Rattle.nm_yang.specs.Page.{Page, ◌>>=◌, place_of, column_of, bad, Gives}
use Rattle.nm_yang.specs.Blank.{skip, plain}
use Rattle.nm_yang.specs.Quote.{is_escape}
use Rattle.nm_yang.specs.Module.{Run, Found, outcome, Heading, says_1_1, any_says_1_1, begin_at, heading_at, body_at, closed_at, finish_at, done_at, module_at, not_module, stop_of, page_of, reading, reading_within, most_deep, most_long, inside, label_at, after_keyword, end_at, with_heading, open_brace}
use Rattle.nm_yang.specs.Grammar as g
use Rattle.nm_yang.specs.Grammar.{Blanks, IsString, Joined, IsArgument, IsKeywordAt, Spells, Each, SpellsWith, SpellsModule, is_raw, keyword_of, below_of, any_of_says_1_1}
use Rattle.nm_yang.proofs.Again.{and_true}
use Rattle.nm_yang.proofs.Blanked.{blanks-takes, blanks-again}
use Rattle.nm_yang.proofs.Worded.{bind_ok, ok_same, guard_true}
use Rattle.nm_yang.proofs.Spelt.{label-takes, after-takes, end-takes, inside-takes, spells-by, each-read, label-read, after-read, inside-read, spells-begun, each-firm}
use Rattle.nm_yang.proofs.Arguments.{semicolon, brace}
use Rattle.nm_yang.proofs.Whole.{whole, page-whole}

-- ---- what is read is spelt

done-takes : (page : Page) (stop : Option Fault) (bytes rest : List ℕ) → done_at page stop bytes ≡ Ok rest → (bytes ≡ []) × (stop ≡ None)
unfolding done_at
done-takes page None [] rest e = (refl, refl)
done-takes page (Some f) [] rest e = absurd cc
done-takes page None (b ∷ bytes) rest e = absurd cc
done-takes page (Some f) (b ∷ bytes) rest e = absurd cc

finish-takes : (page : Page) (bytes rest : List ℕ) → finish_at page bytes ≡ Ok rest → Blanks [] bytes × (page.stop ≡ None)
unfolding finish_at
finish-takes page bytes rest e =
    let a = bind_ok (skip page plain bytes) (λ after. done_at page page.stop after) rest e in
    let d = done-takes page page.stop a.0 rest a.2 in
    (subst (λ (l : List ℕ). Blanks l bytes) d.0 (blanks-takes page bytes a.0 a.1), d.1)

same-bytes : (a b : List ℕ) → bytes_eq a b ≡ true → a ≡ b
same-bytes a b e = (bytes_eq-Decides a b).0 e

with-takes : (r : Result Heading Fault) (go : Heading → Found) (t : Tree) → (with_heading r go).1 ≡ Ok t → (h : Heading) × (r ≡ Ok h) × ((go h).1 ≡ Ok t) × (with_heading r go ≡ go h)
with-takes (Ok h) go t e = (h, refl, e, refl)
with-takes (Err f) go t e = absurd cc

record IsRead (page : Page) (t : Tree) (found : List Tree) : Type 0 where
  pub start : List ℕ
  pub after : List ℕ
  pub before : Blanks start page.text
  pub spells : Spells page most_deep start after t
  pub behind : Blanks [] after
  pub keyword : keyword_of t ≡ codes "module"
  pub below : trees_of found ≡ below_of t
  pub stop : page.stop ≡ None

heading-takes : (page : Page) (start : List ℕ) (h : Heading) → heading_at page start ≡ Ok h → (after : List ℕ) × IsKeywordAt start h.keyword after × (h.keyword ≡ codes "module") × (after_keyword page (not_module page) after ≡ Ok (h.argument, h.rest)) × (h.place ≡ place_of page start)
unfolding heading_at
heading-takes page start h e =
    let made : List ℕ → Option (List ℕ) × List ℕ → Result Heading Fault = λ k a. Ok (record { keyword = k; argument = a.0; place = place_of page start; rest = a.1 }) in
    let a = bind_ok (label_at page (not_module page) start) (λ k. cond (bytes_eq k.0 (codes "module")) (after_keyword page (not_module page) k.1 >>= λ x. made k.0 x) (Err (bad 0 _))) h e in
    let b = guard_true (bytes_eq a.0.0 (codes "module")) _ (after_keyword page (not_module page) a.0.1 >>= λ x. made a.0.0 x) h a.2 in
    let c = bind_ok (after_keyword page (not_module page) a.0.1) (λ x. made a.0.0 x) h b.1 in
    let made_of : Heading = record { keyword = a.0.0; argument = c.0.0; place = place_of page start; rest = c.0.1 } in
    let last : made_of ≡ h = ok_same made_of h c.2 in
    let P : Heading → Type 0 = λ x. (after : List ℕ) × IsKeywordAt start x.keyword after × (x.keyword ≡ codes "module") × (after_keyword page (not_module page) after ≡ Ok (x.argument, x.rest)) × (x.place ≡ place_of page start) in
    subst P last (a.0.1, label-takes page (not_module page) start a.0.0 a.0.1 a.1, same-bytes a.0.0 (codes "module") b.0, c.1, refl)

closed-takes : (page : Page) (h : Heading) (body : Run) (t : Tree) → closed_at page h body ≡ Ok t → (rest : List ℕ) × (body.1 ≡ Ok rest) × Blanks [] rest × (page.stop ≡ None) × (statement h.keyword h.argument h.place (trees_of body.0) ≡ t)
unfolding closed_at
closed-takes page h body t e =
    let a = bind_ok body.1 (λ rest. finish_at page rest >>= λ end. Ok (statement h.keyword h.argument h.place (trees_of body.0))) t e in
    let b = bind_ok (finish_at page a.0) (λ end. Ok (statement h.keyword h.argument h.place (trees_of body.0))) t a.2 in
    let f = finish-takes page a.0 b.0 b.1 in
    (a.0, a.1, f.0, f.1, ok_same (statement h.keyword h.argument h.place (trees_of body.0)) t b.2)

module-takes : (page : Page) (t : Tree) → (module_at page).1 ≡ Ok t → IsRead page t (module_at page).0
unfolding module_at begin_at body_at
module-takes page t e =
    let w = with-takes (begin_at page) (λ h. ((body_at page h).0, closed_at page h (body_at page h))) t e in
    let h : Heading = w.0 in
    let s = bind_ok (skip page plain page.text) (λ start. heading_at page start) h w.1 in
    let k = heading-takes page s.0 h s.2 in
    let c = closed-takes page h (body_at page h) t w.2 in
    let ends = end-takes most_deep page (not_module page) h.rest c.0 (inside-takes most_deep page) c.1 in
    let one = spells-by most_deep page s.0 h.keyword k.0 c.0 h.argument h.rest (body_at page h).0 k.1 (after-takes page (not_module page) k.0 h.argument h.rest k.3) ends in
    let place : statement h.keyword h.argument (place_of page s.0) (trees_of (body_at page h).0) ≡ t = ap (λ (p : ℕ). statement h.keyword h.argument p (trees_of (body_at page h).0)) (sym k.4) ∙ c.4 in
    record {
      start = s.0;
      after = c.0;
      before = blanks-takes page page.text s.0 s.1;
      spells = subst (λ (x : Tree). Spells page most_deep s.0 c.0 x) place one;
      behind = c.2;
      keyword = sym (ap keyword_of place) ∙ k.2;
      below = ap (λ (f : Found). trees_of f.0) w.3 ∙ ap below_of place;
      stop = c.3;
    }

-- ---- what is spelt is read

-- a statement's heading and how it ends
record Body (d : ℕ) (page : Page) (text rest : List ℕ) (t : Tree) : Type 0 where
  pub keyword : List ℕ
  pub after : List ℕ
  pub argument : Option (List ℕ)
  pub bytes : List ℕ
  pub found : List Tree
  pub key : IsKeywordAt text keyword after
  pub argued : (ending : Fault) → after_keyword page ending after ≡ Ok (argument, bytes)
  pub ends : (ending : Fault) → end_at (inside d page) page ending bytes ≡ (found, Ok rest)
  pub is : statement keyword argument (place_of page text) (trees_of found) ≡ t

alone-ends : (d : ℕ) (page : Page) (ending : Fault) (rest : List ℕ) → end_at (inside d page) page ending (59 ∷ rest) ≡ ([], Ok rest)
unfolding end_at
alone-ends d page ending rest = refl

brace-ends : (d : ℕ) (page : Page) (ending : Fault) (within : List ℕ) → end_at (inside d page) page ending (123 ∷ within) ≡ inside d page (123 ∷ within)
unfolding end_at
brace-ends d page ending within = refl

body-of : (d : ℕ) (page : Page) (text rest : List ℕ) (t : Tree) → Spells page d text rest t → Body d page text rest t
body-of _ page text rest _ (g.alone depth _ k after start _ argument key b a) =
    record { keyword = k; after = after; argument = argument; bytes = 59 ∷ rest; found = []; key = key; argued = λ ending. after-read page ending after start argument (59 ∷ rest) (semicolon rest) b a; ends = λ ending. alone-ends depth page ending rest; is = refl }
body-of _ page text rest _ (g.holding depth _ k after start within first _ argument below_ key b a c e) =
    let fault : Fault = open_brace page (123 ∷ within) in
    let r = each-read page depth first rest below_ e fault (length first) (omega arith) in
    let s = blanks-again page first within c (each-firm page depth first rest below_ e) in
    record {
      keyword = k;
      after = after;
      argument = argument;
      bytes = 123 ∷ within;
      found = r.found;
      key = key;
      argued = λ ending. after-read page ending after start argument (123 ∷ within) (brace within) b a;
      ends = λ ending. brace-ends (suc depth) page ending within ∙ inside-read depth page within first rest r.found s r.is;
      is = ap (λ (ts : Trees). statement k argument (place_of page text) ts) r.same;
    }

heading-read : (page : Page) (start after : List ℕ) (k : List ℕ) (argument : Option (List ℕ)) (rest : List ℕ) → IsKeywordAt start k after → k ≡ codes "module" → after_keyword page (not_module page) after ≡ Ok (argument, rest)
    → heading_at page start ≡ Ok (record { keyword = k; argument = argument; place = place_of page start; rest = rest })
unfolding heading_at
heading-read page start after k argument rest key name e =
    let m : bytes_eq k (codes "module") ≡ true = ap (λ (l : List ℕ). bytes_eq l (codes "module")) name in
    rw (label-read page (not_module page) start k after key, m, e) refl

finish-read : (text : List ℕ) (strict : Bool) (rest : List ℕ) → Blanks [] rest → finish_at (whole text strict) rest ≡ Ok []
unfolding finish_at done_at
finish-read text strict rest b = rw (blanks-again (whole text strict) [] rest b tt) refl

module-by : (text : List ℕ) (strict : Bool) (h : Heading) (found : List Tree) (rest : List ℕ) → begin_at (whole text strict) ≡ Ok h → body_at (whole text strict) h ≡ (found, Ok rest) → Blanks [] rest
    → module_at (whole text strict) ≡ (found, Ok (statement h.keyword h.argument h.place (trees_of found)))
unfolding module_at closed_at
module-by text strict h found rest b e l = rw (b, e, finish-read text strict rest l) refl

record IsFound (page : Page) (t : Tree) : Type 0 where
  pub found : List Tree
  pub is : module_at page ≡ (found, Ok t)
  pub below : trees_of found ≡ below_of t

module-read : (text : List ℕ) (strict : Bool) (t : Tree) → SpellsWith strict text t → IsFound (whole text strict) t
unfolding begin_at body_at
module-read text strict t h =
    let page : Page = whole text strict in
    let b = body-of most_deep page h.start h.after t h.spells in
    let begun = spells-begun page most_deep h.start h.after t h.spells in
    let s = blanks-again page h.start text h.before begun.firm in
    let name : b.keyword ≡ codes "module" = ap keyword_of b.is ∙ h.keyword in
    let head : Heading = record { keyword = b.keyword; argument = b.argument; place = place_of page h.start; rest = b.bytes } in
    let first : begin_at page ≡ Ok head = rw s (heading-read page h.start b.after b.keyword b.argument b.bytes b.key name (b.argued (not_module page))) in
    let m = module-by text strict head b.found h.after first (b.ends (not_module page)) h.behind in
    record { found = b.found; is = m ∙ ap (λ (x : Tree). (b.found, Ok x)) b.is; below = ap below_of b.is }

-- ---- a text that is a module where each backslash must begin an escape is one elsewhere

abbrev relaxed : Page → Page
relaxed page = record { text = page.text; stop = page.stop; strict = false }

lenient-raw : (strict behind : Bool) (raw : List ℕ) → is_raw strict behind raw ≡ true → is_raw false behind raw ≡ true
lenient-raw strict true [] h = absurd cc
lenient-raw strict true (b ∷ raw) h = lenient-raw strict false raw (and_true (not strict || is_escape b) (is_raw strict false raw) h).1
lenient-raw strict false [] h = refl
lenient-raw strict false (b ∷ raw) h =
    let p = and_true (not (eqb b 34)) (is_raw strict (eqb b 92) raw) h in
    rw (p.0, lenient-raw strict (eqb b 92) raw p.1) refl

lenient-string : (page : Page) (text value rest : List ℕ) → IsString page text value rest → IsString (relaxed page) text value rest
unfolding column_of
lenient-string page text value rest (g.single e h) = g.single e h
lenient-string page text value rest (g.double raw e h v) = g.double raw e (lenient-raw page.strict false raw h) v

lenient-joined : (page : Page) (rest text value : List ℕ) → Joined page rest text value → Joined (relaxed page) rest text value
lenient-joined page rest text value (g.one _ _ after s b) = g.one text value after (lenient-string page text value after s) b
lenient-joined page rest text _ (g.plus _ first after more_text next others s b d j) = g.plus text first after more_text next others (lenient-string page text first after s) b d (lenient-joined page rest next others j)

lenient-argument : (page : Page) (text : List ℕ) (argument : Option (List ℕ)) (rest : List ℕ) → IsArgument page text argument rest → IsArgument (relaxed page) text argument rest
lenient-argument page text argument rest (g.absent a e) = g.absent a e
lenient-argument page text argument rest (g.word b w after a u e i l) = g.word b w after a u e i l
lenient-argument page text argument rest (g.quoted value a u j) = g.quoted value a u (lenient-joined page rest text value j)

mutual
  lenient-spells : (page : Page) (depth : ℕ) (text rest : List ℕ) (t : Tree) → Spells page depth text rest t → Spells (relaxed page) depth text rest t
  lenient-spells page _ text rest _ (g.alone depth _ k after start _ argument key b a) = g.alone depth text k after start rest argument key b (lenient-argument page start argument (59 ∷ rest) a)
  lenient-spells page _ text rest _ (g.holding depth _ k after start within first _ argument below_ key b a c e) =
      g.holding depth text k after start within first rest argument below_ key b (lenient-argument page start argument (123 ∷ within) a) c (lenient-each page depth first rest below_ e)

  lenient-each : (page : Page) (depth : ℕ) (text rest : List ℕ) (ts : Trees) → Each page depth text rest ts → Each (relaxed page) depth text rest ts
  lenient-each page _ _ rest _ (g.closed depth _) = g.closed depth rest
  lenient-each page _ text rest _ (g.another depth _ after next _ t ts s b e) = g.another depth text after next rest t ts (lenient-spells page depth text after t s) b (lenient-each page depth next rest ts e)

lenient-with : (text : List ℕ) (t : Tree) (strict : Bool) → SpellsWith strict text t → SpellsWith false text t
lenient-with text t strict h = record { start = h.start; after = h.after; before = h.before; spells = lenient-spells (whole text strict) most_deep h.start h.after t h.spells; behind = h.behind; keyword = h.keyword }

-- ---- texts that nothing cuts off

valid_len-le : (bs : List ℕ) (n : ℕ) (b : Bool) → is_utf8 (take (suc n) bs) ≡ b → valid_len_up_to bs (suc n) ≡ suc n → valid_len_up_to bs n ≤ n → b ≡ true
valid_len-le bs n true e h le = refl
valid_len-le bs n false e h le = absurd (let x : valid_len_up_to bs (suc n) ≡ valid_len_up_to bs n = rw e refl in omega arith)

up_to-by : (bs : List ℕ) (n : ℕ) (b : Bool) → is_utf8 (take (suc n) bs) ≡ b → valid_len_up_to bs n ≤ n → valid_len_up_to bs (suc n) ≤ suc n
up_to-by bs n true e le = rw e (omega arith)
up_to-by bs n false e le = rw e (omega arith)

up_to-le : (bs : List ℕ) (n : ℕ) → valid_len_up_to bs n ≤ n
up_to-le bs zero = omega arith
up_to-le bs (suc n) = up_to-by bs n (is_utf8 (take (suc n) bs)) refl (up_to-le bs n)

nil-valid : (bs : List ℕ) → length bs ≡ 0 → IsUtf8 bs
nil-valid [] l = IsUtf8-nil
nil-valid (b ∷ bs) l = absurd (omega arith)

all-valid : (bs : List ℕ) (n : ℕ) → length bs ≡ n → valid_len_up_to bs n ≡ n → IsUtf8 bs
all-valid bs zero l h = nil-valid bs l
all-valid bs (suc n) l h =
    let e = valid_len-le bs n (is_utf8 (take (suc n) bs)) refl h (up_to-le bs n) in
    subst IsUtf8 (take_all (suc n) bs (omega arith)) (IsUtf8-from_is_utf8 (take (suc n) bs) e)

valid-utf8 : (bs : List ℕ) → utf8_valid_len bs ≡ length bs → IsUtf8 bs
unfolding utf8_valid_len
valid-utf8 bs h = all-valid bs (length bs) refl h

stop-none : (limit : ℕ) (text : List ℕ) (p q r : Bool) → ltb (utf8_valid_len text) limit ≡ p → eqb (utf8_valid_len text) (length text) ≡ q → eqb limit (length text) ≡ r → utf8_valid_len text ≤ length text → stop_of limit text ≡ None → (utf8_valid_len text ≡ length text) × (length text ≤ limit)
stop-none limit text true true r a b c le e =
    let v = eqb-true (utf8_valid_len text) (length text) b in
    let l = ltb-true (utf8_valid_len text) limit a in
    (v, omega (arith, v, l))
stop-none limit text true false r a b c le e = absurd (let x = rw (a, b) at e in cc)
stop-none limit text false q true a b c le e =
    let v = eqb-true limit (length text) c in
    let l = ltb-false (utf8_valid_len text) limit a in
    (omega (arith, v, l), omega (arith, v))
stop-none limit text false q false a b c le e = absurd (let x = rw (a, c) at e in cc)

-- ---- the laws

any-trees : (ts : List Tree) → any_of_says_1_1 (trees_of ts) ≡ any_says_1_1 ts
any-trees [] = refl
any-trees (t ∷ ts) = ap (λ (b : Bool). says_1_1 t || b) (any-trees ts)

spelt-of : (text : List ℕ) (strict : Bool) (t : Tree) (found : List Tree) → IsRead (whole text strict) t found → SpellsWith strict text t
spelt-of text strict t found r = record { start = r.start; after = r.after; before = r.before; spells = r.spells; behind = r.behind; keyword = r.keyword }

-- a text that is read is whole
record IsWhole (limit : ℕ) (text : List ℕ) : Type 0 where
  pub utf8 : IsUtf8 text
  pub short : length text ≤ limit

whole-of : (limit : ℕ) (text : List ℕ) → stop_of limit text ≡ None → IsWhole limit text
whole-of limit text e =
    let s = stop-none limit text (ltb (utf8_valid_len text) limit) (eqb (utf8_valid_len text) (length text)) (eqb limit (length text)) refl refl refl (utf8_valid_len_le text) e in
    record { utf8 = valid-utf8 text s.0; short = s.1 }

record IsSpelt (limit : ℕ) (text : List ℕ) (t : Tree) : Type 0 where
  pub utf8 : IsUtf8 text
  pub short : length text ≤ limit
  pub spelt : SpellsWith (any_of_says_1_1 (below_of t)) text t

read-by : (limit : ℕ) (text : List ℕ) (t : Tree) (version : Bool) → any_says_1_1 (module_at (page_of limit false text)).0 ≡ version
    → cond version (module_at (page_of limit true text)).1 (module_at (page_of limit false text)).1 ≡ Ok t → IsSpelt limit text t
read-by limit text t true v e =
    let w = whole-of limit text (module-takes (page_of limit true text) t e).stop in
    let p = page-whole limit text true w.utf8 w.short in
    let q = page-whole limit text false w.utf8 w.short in
    let s = spelt-of text true t (module_at (whole text true)).0 (module-takes (whole text true) t (ap (λ (x : Page). (module_at x).1) (sym p) ∙ e)) in
    let l = module-read text false t (lenient-with text t true s) in
    let is : any_of_says_1_1 (below_of t) ≡ true = ap any_of_says_1_1 (sym l.below) ∙ any-trees l.found ∙ ap (λ (x : Found). any_says_1_1 x.0) (sym l.is) ∙ ap (λ (x : Page). any_says_1_1 (module_at x).0) (sym q) ∙ v in
    record { utf8 = w.utf8; short = w.short; spelt = subst (λ (b : Bool). SpellsWith b text t) (sym is) s }
read-by limit text t false v e =
    let w = whole-of limit text (module-takes (page_of limit false text) t e).stop in
    let q = page-whole limit text false w.utf8 w.short in
    let r = module-takes (whole text false) t (ap (λ (x : Page). (module_at x).1) (sym q) ∙ e) in
    let s = spelt-of text false t (module_at (whole text false)).0 r in
    let is : any_of_says_1_1 (below_of t) ≡ false = ap any_of_says_1_1 (sym r.below) ∙ any-trees (module_at (whole text false)).0 ∙ ap (λ (x : Page). any_says_1_1 (module_at x).0) (sym q) ∙ v in
    record { utf8 = w.utf8; short = w.short; spelt = subst (λ (b : Bool). SpellsWith b text t) (sym is) s }

choose : (limit : ℕ) (text : List ℕ) (t : Tree) (version : Bool) → any_says_1_1 (module_at (page_of limit false text)).0 ≡ version → (module_at (page_of limit false text)).1 ≡ Ok t → (version ≡ true → (module_at (page_of limit true text)).1 ≡ Ok t) → reading_within limit text ≡ Ok t
choose limit text t true v l s = rw v (s refl)
choose limit text t false v l s = rw v l

spelt-by : (limit : ℕ) (text : List ℕ) (t : Tree) (version : Bool) → any_of_says_1_1 (below_of t) ≡ version → IsUtf8 text → length text ≤ limit → SpellsWith version text t → reading_within limit text ≡ Ok t
spelt-by limit text t version is u le s =
    let p = page-whole limit text true u le in
    let q = page-whole limit text false u le in
    let l = module-read text false t (lenient-with text t version s) in
    let lenient : module_at (page_of limit false text) ≡ (l.found, Ok t) = ap module_at q ∙ l.is in
    let v : any_says_1_1 (module_at (page_of limit false text)).0 ≡ version = ap (λ (x : Found). any_says_1_1 x.0) lenient ∙ sym (any-trees l.found) ∙ ap any_of_says_1_1 l.below ∙ is in
    choose limit text t version v (ap (λ (x : Found). x.1) lenient) (λ e. ap (λ (x : Page). (module_at x).1) p ∙ ap (λ (x : Found). x.1) (module-read text true t (subst (λ (b : Bool). SpellsWith b text t) e s)).is)

strict-by : (limit : ℕ) (text : List ℕ) (t : Tree) (version : Bool) → any_of_says_1_1 (below_of t) ≡ version → IsUtf8 text → length text ≤ limit → SpellsWith true text t → reading_within limit text ≡ Ok t
strict-by limit text t true is u le s = spelt-by limit text t true is u le s
strict-by limit text t false is u le s = spelt-by limit text t false is u le (lenient-with text t true s)

-- a module that is read where each backslash must begin an escape is what the text is read as
pub strict-first : (limit : ℕ) (text : List ℕ) (t : Tree) → (module_at (page_of limit true text)).1 ≡ Ok t → reading_within limit text ≡ Ok t
strict-first limit text t e =
    let w = whole-of limit text (module-takes (page_of limit true text) t e).stop in
    let p = page-whole limit text true w.utf8 w.short in
    let s = spelt-of text true t (module_at (whole text true)).0 (module-takes (whole text true) t (ap (λ (x : Page). (module_at x).1) (sym p) ∙ e)) in
    strict-by limit text t (any_of_says_1_1 (below_of t)) refl w.utf8 w.short s

-- what is read is spelt
pub reading-spelt : (text : List ℕ) (t : Tree) → reading text ≡ Ok t → SpellsModule text t
unfolding reading
reading-spelt text t e =
    let r = read-by most_long text t (any_says_1_1 (module_at (page_of most_long false text)).0) refl e in
    record { utf8 = r.utf8; short = r.short; spelt = r.spelt }

-- what is spelt is read
pub spelt-reading : (text : List ℕ) (t : Tree) → SpellsModule text t → reading text ≡ Ok t
unfolding reading
spelt-reading text t h = spelt-by most_long text t (any_of_says_1_1 (below_of t)) refl h.utf8 h.short h.spelt

-- a text spells at most one statement
pub one-statement : (text : List ℕ) (t u : Tree) → SpellsModule text t → SpellsModule text u → t ≡ u
one-statement text t u h k = ok_same t u (sym (spelt-reading text t h) ∙ spelt-reading text u k)

-- what a reader answers, as the grammar has it
pub answers-spelt : (text : List ℕ) (r : Result Tree YangFault) → Gives (λ t. t) r (reading text) → IfOk r (λ t. SpellsModule text t)
answers-spelt text (Ok t) h = reading-spelt text t h
answers-spelt text (Err e) h = tt

pub answers-all : (text : List ℕ) (t : Tree) (r : Result Tree YangFault) → SpellsModule text t → Gives (λ u. u) r (reading text) → Gives (λ u. u) r (Ok t)
answers-all text t r s h = subst (λ (x : Result Tree Fault). Gives (λ u. u) r x) (spelt-reading text t s) h

-- an attempt with each backslash beginning an escape that succeeded is the answer
pub attempt-answers : (limit : ℕ) (text : List ℕ) (end : Result Written Fault) (below : List Tree) (r : Result Tree YangFault) → is_ok end ≡ true → (module_at (page_of limit true text)).1 ≡ outcome end below → Gives (λ t. t) r (outcome end below) → Gives (λ t. t) r (reading_within limit text)
attempt-answers limit text (Ok h) below r ok e g_ = subst (λ (x : Result Tree Fault). Gives (λ t. t) r x) (sym (strict-first limit text (statement h.keyword h.argument h.place (trees_of below)) e)) g_
attempt-answers limit text (Err f) below r ok e g_ = absurd cc
