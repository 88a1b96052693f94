-- Statements: what is read is spelt, and what is spelt is read.
use Rattle.std.proofs.Common.{◌≡◌, ℕ, zero, suc, ◌-◌, ◌≤◌, ◌<◌, Bool, true, false, cond, eqb, List, [], ◌∷◌, ◌++◌, length, drop, get_or, Option, Result, Ok, Err, refl, sym, ap, subst, ◌∙◌, append_assoc, inl, inr, arith, length-append}
use Rattle.std.specs.Prelude.{IsUtf8}
use Rattle.std.proofs.lemmas.Bool.{eqb-true}
use Rattle.std.proofs.lemmas.Bool.Decides.{nat_tests}
use Rattle.std.proofs.lemmas.Str.{is_utf8-from_IsUtf8, IsUtf8-from_ascii, IsUtf8-append, IsUtf8-nil}
use Rattle.nm_yang.specs.declared.fault.Fault.{Fault}
use Rattle.nm_yang.specs.Tree.{Tree, Trees, statement, none, more, trees_of}
use Rattle.nm_yang.specs.Page.{Page, ◌>>=◌, place_of, bad}
use Rattle.nm_yang.specs.Byte.{begins, is_start, is_name, is_white}
use Rattle.nm_yang.specs.Blank.{skip, plain}
use Rattle.nm_yang.specs.Word.{keyword_at, text_at}
use Rattle.nm_yang.specs.Argument.{argument_at}
use Rattle.nm_yang.specs.Module.{Run, failed, label_at, after_keyword, end_at, statement_at, each_at, inside, open_brace, cons_run, then_run}
use Rattle.nm_yang.specs.Grammar.{names, IsIdentifier, IsKeyword}
use Rattle.nm_yang.specs.Grammar as g
use Rattle.nm_yang.specs.Grammar.{Blanks, IsString, Joined, IsArgument, IsKeywordAt, Spells, Each}
use Rattle.nm_yang.proofs.Again.{and_true}
use Rattle.nm_yang.proofs.Blanked.{Firm, blanks-takes, blanks-again, blanks-firm}
use Rattle.nm_yang.proofs.Worded.{bind_ok, ok_same, keyword-takes, keyword-read}
use Rattle.nm_yang.proofs.Arguments.{text_at-takes, argument-takes, argument-read, IsClosing, semicolon, brace, length-blanks, length-argument, begins-is}

pub label-takes : (page : Page) (ending : Fault) (text k after : List ℕ) → label_at page ending text ≡ Ok (k, after) → IsKeywordAt text k after
unfolding label_at
label-takes page ending text k after e =
    let a = bind_ok (keyword_at page ending text) (λ x. text_at (bad (place_of page text) _) x.0 >>= λ t. Ok (t, x.1)) (k, after) e in
    let b = bind_ok (text_at (bad (place_of page text) _) a.0.0) (λ t. Ok (t, a.0.1)) (k, after) a.2 in
    let last = ok_same (b.0, a.0.1) (k, after) b.2 in
    let t = text_at-takes (bad (place_of page text) _) a.0.0 b.0 b.1 in
    let v : a.0.0 ≡ k = t.0 ∙ ap (λ (x : List ℕ × List ℕ). x.0) last in
    let r : a.0.1 ≡ after = ap (λ (x : List ℕ × List ℕ). x.1) last in
    keyword-takes page ending text k after (a.1 ∙ ap (λ (x : List ℕ). Ok (x, a.0.1)) v ∙ ap (λ (x : List ℕ). Ok (k, x)) r)

pub record Argued (page : Page) (after : List ℕ) (argument : Option (List ℕ)) (rest : List ℕ) : Type 0 where
  pub start : List ℕ
  pub blanks : Blanks start after
  pub is : IsArgument page start argument rest

pub after-takes : (page : Page) (ending : Fault) (after : List ℕ) (argument : Option (List ℕ)) (rest : List ℕ) → after_keyword page ending after ≡ Ok (argument, rest) → Argued page after argument rest
unfolding after_keyword
after-takes page ending after argument rest e =
    let a = bind_ok (skip page plain after) (λ r. argument_at page ending r) (argument, rest) e in
    record { start = a.0; blanks = blanks-takes page after a.0 a.1; is = argument-takes page ending a.0 argument rest (blanks-firm page after a.0 a.1) a.2 }

-- ---- statements within braces

abbrev EachLaw : (List ℕ → Result (Tree × List ℕ) Fault) → Page → ℕ → Type 0
EachLaw read page depth = (text : List ℕ) (t : Tree) (rest : List ℕ) → read text ≡ Ok (t, rest) → Spells page depth text rest t

abbrev pub run_ok : Run → List ℕ → Type 0
run_ok run rest = run.1 ≡ Ok rest

then-takes : (r : Result (List ℕ) Fault) (go : List ℕ → Run) (rest : List ℕ) → run_ok (then_run r go) rest → (next : List ℕ) × (r ≡ Ok next) × run_ok (go next) rest × (then_run r go ≡ go next)
then-takes (Ok next) go rest e = (next, refl, e, refl)
then-takes (Err f) go rest e = absurd cc

cons-takes : (r : Result (Tree × List ℕ) Fault) (go : List ℕ → Run) (rest : List ℕ) → run_ok (cons_run r go) rest → (x : Tree × List ℕ) × (r ≡ Ok x) × run_ok (go x.1) rest × (cons_run r go ≡ (x.0 ∷ (go x.1).0, (go x.1).1))
cons-takes (Ok x) go rest e = (x, refl, e, refl)
cons-takes (Err f) go rest e = absurd cc

each-by : (read : List ℕ → Result (Tree × List ℕ) Fault) (page : Page) (ending : Fault) (depth n : ℕ) (bytes rest : List ℕ) (closes : Bool) → EachLaw read page depth → begins bytes 125 ≡ closes
    → ((next : List ℕ) → run_ok (each_at read page ending n next) rest → Each page depth next rest (trees_of (each_at read page ending n next).0))
    → run_ok (cond closes ([], Ok (drop 1 bytes)) (cons_run (read bytes) (λ after. then_run (skip page plain after) (λ r. each_at read page ending n r)))) rest
    → Each page depth bytes rest (trees_of (cond closes ([], Ok (drop 1 bytes)) (cons_run (read bytes) (λ after. then_run (skip page plain after) (λ r. each_at read page ending n r)))).0)
each-by read page ending depth n bytes rest true law is h e =
    let d : drop 1 bytes ≡ rest = ok_same (drop 1 bytes) rest e in
    let b : bytes ≡ 125 ∷ rest = begins-is bytes 125 is ∙ ap (λ (l : List ℕ). 125 ∷ l) d in
    rw b (g.closed depth rest)
each-by read page ending depth n bytes rest false law is h e =
    let c = cons-takes (read bytes) (λ after. then_run (skip page plain after) (λ r. each_at read page ending n r)) rest e in
    let t = then-takes (skip page plain c.0.1) (λ r. each_at read page ending n r) rest c.2 in
    let s : Spells page depth bytes c.0.1 c.0.0 = law bytes c.0.0 c.0.1 c.1 in
    let x : Each page depth bytes rest (more c.0.0 (trees_of (each_at read page ending n t.0).0)) = g.another depth bytes c.0.1 t.0 rest c.0.0 (trees_of (each_at read page ending n t.0).0) s (blanks-takes page c.0.1 t.0 t.1) (h t.0 t.2) in
    let same : (cons_run (read bytes) (λ after. then_run (skip page plain after) (λ r. each_at read page ending n r))).0 ≡ c.0.0 ∷ (each_at read page ending n t.0).0 = ap (λ (r : Run). r.0) c.3 ∙ ap (λ (r : Run). c.0.0 ∷ r.0) t.3 in
    subst (λ (l : List Tree). Each page depth bytes rest (trees_of l)) (sym same) x

each-takes : (read : List ℕ → Result (Tree × List ℕ) Fault) (page : Page) (ending : Fault) (depth n : ℕ) (bytes rest : List ℕ) → EachLaw read page depth → run_ok (each_at read page ending n bytes) rest → Each page depth bytes rest (trees_of (each_at read page ending n bytes).0)
unfolding each_at
each-takes read page ending depth zero bytes rest law e = absurd cc
each-takes read page ending depth (suc n) bytes rest law e = each-by read page ending depth n bytes rest (begins bytes 125) law refl (λ next h. each-takes read page ending depth n next rest law h) e

pub record Within (depth : ℕ) (page : Page) (bytes rest : List ℕ) (found : List Tree) : Type 0 where
  pub less : ℕ
  pub deeper : depth ≡ suc less
  pub first : List ℕ
  pub blanks : Blanks first (drop 1 bytes)
  pub each : Each page less first rest (trees_of found)

abbrev pub InsideLaw : ℕ → Page → Type 0
InsideLaw depth page = (bytes rest : List ℕ) → run_ok (inside depth page bytes) rest → Within depth page bytes rest (inside depth page bytes).0

-- what ends a statement
pub data Ends (depth : ℕ) (page : Page) (bytes rest : List ℕ) (found : List Tree) : Type 0 where
  alone : bytes ≡ 59 ∷ rest → found ≡ [] → Ends depth page bytes rest found
  held : bytes ≡ 123 ∷ drop 1 bytes → Within depth page bytes rest found → Ends depth page bytes rest found

end-by : (depth : ℕ) (page : Page) (ending : Fault) (b : ℕ) (bytes rest : List ℕ) (p q : Bool) → InsideLaw depth page → eqb b 59 ≡ p → eqb b 123 ≡ q → (fault : Fault)
    → run_ok (cond p ([], Ok bytes) (cond q (inside depth page (b ∷ bytes)) (failed fault))) rest → Ends depth page (b ∷ bytes) rest (cond p ([], Ok bytes) (cond q (inside depth page (b ∷ bytes)) (failed fault))).0
end-by depth page ending b bytes rest true q law e f fault h = alone (ap (λ (x : ℕ). x ∷ bytes) (eqb-true b 59 e) ∙ ap (λ (l : List ℕ). 59 ∷ l) (ok_same bytes rest h)) refl
end-by depth page ending b bytes rest false true law e f fault h = held (ap (λ (x : ℕ). x ∷ bytes) (eqb-true b 123 f)) (law (b ∷ bytes) rest h)
end-by depth page ending b bytes rest false false law e f fault h = absurd cc

pub end-takes : (depth : ℕ) (page : Page) (ending : Fault) (bytes rest : List ℕ) → InsideLaw depth page → run_ok (end_at (inside depth page) page ending bytes) rest → Ends depth page bytes rest (end_at (inside depth page) page ending bytes).0
unfolding end_at
end-takes depth page ending [] rest law h = absurd cc
end-takes depth page ending (b ∷ bytes) rest law h = end-by depth page ending b bytes rest (eqb b 59) (eqb b 123) law refl refl _ h

pub spells-by : (depth : ℕ) (page : Page) (text k after rest : List ℕ) (argument : Option (List ℕ)) (bytes : List ℕ) (found : List Tree) → IsKeywordAt text k after → Argued page after argument bytes → Ends depth page bytes rest found → Spells page depth text rest (statement k argument (place_of page text) (trees_of found))
spells-by depth page text k after rest argument bytes found key a (alone e n) =
    rw n (g.alone depth text k after a.start rest argument key a.blanks (subst (λ (l : List ℕ). IsArgument page a.start argument l) e a.is))
spells-by depth page text k after rest argument bytes found key a (held e w) =
    subst (λ (d : ℕ). Spells page d text rest (statement k argument (place_of page text) (trees_of found))) (sym w.deeper)
    (g.holding w.less text k after a.start (drop 1 bytes) w.first rest argument (trees_of found) key a.blanks (subst (λ (l : List ℕ). IsArgument page a.start argument l) e a.is) w.blanks w.each)

statement-of : (depth : ℕ) (page : Page) (ending : Fault) → InsideLaw depth page → EachLaw (statement_at (inside depth page) page ending) page depth
unfolding statement_at
statement-of depth page ending law text t rest e =
    let made : List ℕ × List ℕ → Option (List ℕ) × List ℕ → List ℕ → Result (Tree × List ℕ) Fault = λ k a r. Ok (statement k.0 a.0 (place_of page text) (trees_of (end_at (inside depth page) page ending a.1).0), r) in
    let a = bind_ok (label_at page ending text) (λ k. after_keyword page ending k.1 >>= λ x. (end_at (inside depth page) page ending x.1).1 >>= λ r. made k x r) (t, rest) e in
    let b = bind_ok (after_keyword page ending a.0.1) (λ x. (end_at (inside depth page) page ending x.1).1 >>= λ r. made a.0 x r) (t, rest) a.2 in
    let c = bind_ok ((end_at (inside depth page) page ending b.0.1).1) (λ r. made a.0 b.0 r) (t, rest) b.2 in
    let found : List Tree = (end_at (inside depth page) page ending b.0.1).0 in
    let last = ok_same (statement a.0.0 b.0.0 (place_of page text) (trees_of found), c.0) (t, rest) c.2 in
    let s = spells-by depth page text a.0.0 a.0.1 c.0 b.0.0 b.0.1 found (label-takes page ending text a.0.0 a.0.1 a.1) (after-takes page ending a.0.1 b.0.0 b.0.1 b.1) (end-takes depth page ending b.0.1 c.0 law c.1) in
    subst (λ (x : Tree × List ℕ). Spells page depth text x.1 x.0) last s

pub inside-takes : (depth : ℕ) (page : Page) → InsideLaw depth page
unfolding inside
inside-takes zero page bytes rest e = absurd cc
inside-takes (suc depth) page bytes rest e =
    let fault : Fault = open_brace page bytes in
    let read : List ℕ → Result (Tree × List ℕ) Fault = statement_at (inside depth page) page fault in
    let t = then-takes (skip page plain (drop 1 bytes)) (λ start. each_at read page fault (length start) start) rest e in
    let x = each-takes read page fault depth (length t.0) t.0 rest (statement-of depth page fault (inside-takes depth page)) t.2 in
    record { less = depth; deeper = refl; first = t.0; blanks = blanks-takes page (drop 1 bytes) t.0 t.1; each = subst (λ (l : List Tree). Each page depth t.0 rest (trees_of l)) (sym (ap (λ (r : Run). r.0) t.3)) x }

-- ---- and back

name-ascii : (b : ℕ) → is_name b ≡ true → b < 128
name-ascii b h = grind (arith, nat_tests)

start-ascii : (b : ℕ) → is_start b ≡ true → b < 128
start-ascii b h = grind (arith, nat_tests)

below : (b i : ℕ) → b < 128 → get_or (b ∷ []) i 0 < 128
below b zero h = h
below b (suc i) h = omega arith

names-utf8 : (k : List ℕ) → names k ≡ true → IsUtf8 k
names-utf8 [] h = IsUtf8-nil
names-utf8 (b ∷ k) h =
    let p = and_true (is_name b) (names k) h in
    IsUtf8-append (b ∷ []) k (IsUtf8-from_ascii (b ∷ []) (λ i. below b i (name-ascii b p.0))) (names-utf8 k p.1)

identifier-utf8 : (k : List ℕ) → IsIdentifier k → IsUtf8 k
identifier-utf8 [] h = absurd h
identifier-utf8 (b ∷ k) h = IsUtf8-append (b ∷ []) k (IsUtf8-from_ascii (b ∷ []) (λ i. below b i (start-ascii b h.0))) (names-utf8 k h.1)

keyword-utf8 : (k : List ℕ) → IsKeyword k → IsUtf8 k
keyword-utf8 k h =
    elim h [
      | inl i ↦ identifier-utf8 k i
      | inr i ↦ rw i.2 (IsUtf8-append i.0 (58 ∷ i.1) (identifier-utf8 i.0 i.3) (IsUtf8-append (58 ∷ []) i.1 (IsUtf8-from_ascii (58 ∷ []) (λ j. below 58 j (omega arith))) (identifier-utf8 i.1 i.4)))
    ]

start-plain : (b : ℕ) → is_start b ≡ true → (is_white b ≡ false) × (eqb b 47 ≡ false) × (eqb b 125 ≡ false)
start-plain b h = (grind (arith, nat_tests), grind (arith, nat_tests), grind (arith, nat_tests))

pub record Begun (text after : List ℕ) : Type 0 where
  pub firm : Firm text
  pub open_ : begins text 125 ≡ false
  pub shorter : length after < length text

identifier-begun : (k after : List ℕ) → IsIdentifier k → Begun (k ++ after) after
identifier-begun [] after h = absurd h
identifier-begun (b ∷ k) after h =
    let p = start-plain b h.0 in
    record { firm = (p.0, rw p.1 refl); open_ = p.2; shorter = omega (arith, length-append (b ∷ k) after) }

keyword-begun : (text k after : List ℕ) → IsKeywordAt text k after → Begun text after
keyword-begun text k after h =
    elim h.keyword_is [
      | inl i ↦ rw h.parts (identifier-begun k after i)
      | inr i ↦
          let e : text ≡ i.0 ++ 58 ∷ (i.1 ++ after) = h.parts ∙ ap (λ (l : List ℕ). l ++ after) i.2 ∙ append_assoc i.0 (58 ∷ i.1) after in
          let b = identifier-begun i.0 (58 ∷ (i.1 ++ after)) i.3 in
          rw e (record { firm = b.firm; open_ = b.open_; shorter = omega (arith, b.shorter, length-append i.1 after) })
    ]

pub label-read : (page : Page) (ending : Fault) (text k after : List ℕ) → IsKeywordAt text k after → label_at page ending text ≡ Ok (k, after)
unfolding label_at
label-read page ending text k after h = rw (keyword-read page ending text k after h, is_utf8-from_IsUtf8 k (keyword-utf8 k h.keyword_is)) refl

pub after-read : (page : Page) (ending : Fault) (after start : List ℕ) (argument : Option (List ℕ)) (rest : List ℕ) → IsClosing rest → Blanks start after → IsArgument page start argument rest → after_keyword page ending after ≡ Ok (argument, rest)
unfolding after_keyword
after-read page ending after start argument rest c b a =
    let r = argument-read page ending start argument rest c a in
    rw (blanks-again page start after b r.1, r.0) refl

pub record ReadsEach (page : Page) (depth : ℕ) (ending : Fault) (n : ℕ) (text rest : List ℕ) (ts : Trees) : Type 0 where
  pub found : List Tree
  pub is : each_at (statement_at (inside depth page) page ending) page ending n text ≡ (found, Ok rest)
  pub same : trees_of found ≡ ts

close-read : (read : List ℕ → Result (Tree × List ℕ) Fault) (page : Page) (ending : Fault) (n : ℕ) (rest : List ℕ) → 0 < n → each_at read page ending n (125 ∷ rest) ≡ ([], Ok rest)
unfolding each_at
close-read read page ending zero rest lt = absurd (omega arith)
close-read read page ending (suc n) rest lt = refl

another-read : (read : List ℕ → Result (Tree × List ℕ) Fault) (page : Page) (ending : Fault) (n : ℕ) (text after next rest : List ℕ) (t : Tree) (found : List Tree) → begins text 125 ≡ false → 0 < n → read text ≡ Ok (t, after) → skip page plain after ≡ Ok next
    → each_at read page ending (n - 1) next ≡ (found, Ok rest) → each_at read page ending n text ≡ (t ∷ found, Ok rest)
unfolding each_at
another-read read page ending zero text after next rest t found off lt r s h = absurd (omega arith)
another-read read page ending (suc n) text after next rest t found off lt r s h =
    let k : suc n - 1 ≡ n = omega arith in
    let m : each_at read page ending n next ≡ (found, Ok rest) = rw k at h in
    rw (off, r, s, m) refl

alone-read : (depth : ℕ) (page : Page) (ending : Fault) (text k after start rest : List ℕ) (argument : Option (List ℕ)) → IsKeywordAt text k after → Blanks start after → IsArgument page start argument (59 ∷ rest)
    → statement_at (inside depth page) page ending text ≡ Ok (statement k argument (place_of page text) none, rest)
unfolding statement_at end_at
alone-read depth page ending text k after start rest argument key b a = rw (label-read page ending text k after key, after-read page ending after start argument (59 ∷ rest) (semicolon rest) b a) refl

pub inside-read : (depth : ℕ) (page : Page) (within first rest : List ℕ) (found : List Tree) → skip page plain within ≡ Ok first → each_at (statement_at (inside depth page) page (open_brace page (123 ∷ within))) page (open_brace page (123 ∷ within)) (length first) first ≡ (found, Ok rest)
    → inside (suc depth) page (123 ∷ within) ≡ (found, Ok rest)
unfolding inside
inside-read depth page within first rest found s e = rw s e

holding-read : (depth : ℕ) (page : Page) (ending : Fault) (text k after start within rest : List ℕ) (argument : Option (List ℕ)) (found : List Tree) → IsKeywordAt text k after → Blanks start after → IsArgument page start argument (123 ∷ within)
    → inside depth page (123 ∷ within) ≡ (found, Ok rest) → statement_at (inside depth page) page ending text ≡ Ok (statement k argument (place_of page text) (trees_of found), rest)
unfolding statement_at end_at
holding-read depth page ending text k after start within rest argument found key b a e = rw (label-read page ending text k after key, after-read page ending after start argument (123 ∷ within) (brace within) b a, e) refl

mutual
  -- what begins so, and that it takes bytes
  pub spells-begun : (page : Page) (depth : ℕ) (text rest : List ℕ) (t : Tree) → Spells page depth text rest t → Begun text rest
  spells-begun page _ text rest _ (g.alone depth _ k after start _ argument key b a) =
      let w = keyword-begun text k after key in
      record { firm = w.firm; open_ = w.open_; shorter = omega (arith, w.shorter, length-blanks start after b, length-argument page start argument (59 ∷ rest) a) }
  spells-begun page _ text rest _ (g.holding depth _ k after start within first _ argument below_ key b a c e) =
      let w = keyword-begun text k after key in
      record { firm = w.firm; open_ = w.open_; shorter = omega (arith, w.shorter, length-blanks start after b, length-argument page start argument (123 ∷ within) a, length-blanks first within c, each-length page depth first rest below_ e) }

  each-length : (page : Page) (depth : ℕ) (text rest : List ℕ) (ts : Trees) → Each page depth text rest ts → length rest < length text
  each-length page _ _ rest _ (g.closed depth _) = omega arith
  each-length page _ text rest _ (g.another depth _ after next _ t ts s b e) = omega (arith, (spells-begun page depth text after t s).shorter, length-blanks next after b, each-length page depth next rest ts e)

pub each-firm : (page : Page) (depth : ℕ) (text rest : List ℕ) (ts : Trees) → Each page depth text rest ts → Firm text
each-firm page _ _ rest _ (g.closed depth _) = (refl, refl)
each-firm page _ text rest _ (g.another depth _ after next _ t ts s b e) = (spells-begun page depth text after t s).firm

mutual
  pub spells-read : (page : Page) (depth : ℕ) (text rest : List ℕ) (t : Tree) → Spells page depth text rest t → (ending : Fault) → statement_at (inside depth page) page ending text ≡ Ok (t, rest)
  spells-read page _ text rest _ (g.alone depth _ k after start _ argument key b a) ending = alone-read depth page ending text k after start rest argument key b a
  spells-read page _ text rest _ (g.holding depth _ k after start within first _ argument below_ key b a c e) ending =
      let fault : Fault = open_brace page (123 ∷ within) in
      let r = each-read page depth first rest below_ e fault (length first) (omega arith) in
      let s = blanks-again page first within c (each-firm page depth first rest below_ e) in
      holding-read (suc depth) page ending text k after start within rest argument r.found key b a (inside-read depth page within first rest r.found s r.is) ∙ ap (λ (ts : Trees). Ok (statement k argument (place_of page text) ts, rest)) r.same

  pub each-read : (page : Page) (depth : ℕ) (text rest : List ℕ) (ts : Trees) → Each page depth text rest ts → (ending : Fault) (n : ℕ) → length text ≤ n → ReadsEach page depth ending n text rest ts
  each-read page _ _ rest _ (g.closed depth _) ending n le = record { found = []; is = close-read (statement_at (inside depth page) page ending) page ending n rest (omega arith); same = refl }
  each-read page _ text rest _ (g.another depth _ after next _ t ts s b e) ending n le =
      let w = spells-begun page depth text after t s in
      let r = each-read page depth next rest ts e ending (n - 1) (omega (arith, w.shorter, length-blanks next after b)) in
      let k = blanks-again page next after b (each-firm page depth next rest ts e) in
      record { found = t ∷ r.found; is = another-read (statement_at (inside depth page) page ending) page ending n text after next rest t r.found w.open_ (omega (arith, w.shorter)) (spells-read page depth text after t s ending) k r.is; same = ap (λ (us : Trees). more t us) r.same }
