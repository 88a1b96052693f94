-- A statement that is written is read again, with the same keywords and arguments.
use Rattle.std.proofs.Common.{◌≡◌, ℕ, zero, suc, ◌-◌, ◌≤◌, ◌<◌, true, false, eqb, List, [], ◌∷◌, ◌++◌, length, Option, Some, None, Result, Ok, refl, sym, ap, ◌∙◌, append_assoc, inl, inr, arith, length-append}
use Rattle.std.specs.Prelude.{IsUtf8, IfSome}
use Rattle.std.specs.List.{flat_map}
use Rattle.std.proofs.lemmas.Str.{is_utf8-from_IsUtf8}
use Rattle.std.proofs.lemmas.Bool.Decides.{nat_tests}
use Rattle.nm_yang.specs.declared.fault.Fault.{Fault}
use Rattle.nm_yang.specs.Tree.{Tree, Trees, statement, none, more, trees_of}
use Rattle.nm_yang.specs.Page.{Page, ◌>>=◌, place_of}
use Rattle.nm_yang.specs.Byte.{begins, is_start, is_white}
use Rattle.nm_yang.specs.Blank.{skip, plain}
use Rattle.nm_yang.specs.Word.{keyword_at}
use Rattle.nm_yang.specs.Argument.{argument_at}
use Rattle.nm_yang.specs.Module.{Run, label_at, after_keyword, end_at, statement_at, each_at, inside, open_brace}
use Rattle.nm_yang.specs.Written.{escape_of, written, written_argument, written_end, written_each, CanHave, CanHold, CanHoldEach, SameWords, SameWordsEach}
use Rattle.nm_yang.specs.Grammar.{IsIdentifier, IsKeyword}
use Rattle.nm_yang.proofs.Again.{Parts, keyword-again}
use Rattle.nm_yang.proofs.Quoted.{argument-again}

-- what follows the argument, without the space before a brace
abbrev pub opened : Trees → List ℕ → List ℕ
opened none rest = 59 ∷ rest
opened (more t ts) rest = 123 ∷ 32 ∷ ((written t ++ 32 ∷ (written_each ts ++ 125 ∷ [])) ++ rest)

skip-end : (page : Page) (ts : Trees) (rest : List ℕ) → skip page plain (written_end ts ++ rest) ≡ Ok (opened ts rest)
unfolding skip written_end
skip-end page none rest = refl
skip-end page (more t ts) rest = refl

skip-opened : (page : Page) (ts : Trees) (rest : List ℕ) → skip page plain (opened ts rest) ≡ Ok (opened ts rest)
unfolding skip
skip-opened page none rest = refl
skip-opened page (more t ts) rest = refl

opened-plus : (ts : Trees) (rest : List ℕ) → begins (opened ts rest) 43 ≡ false
opened-plus none rest = refl
opened-plus (more t ts) rest = refl

argument-none : (page : Page) (ending : Fault) (ts : Trees) (rest : List ℕ) → argument_at page ending (opened ts rest) ≡ Ok (None, opened ts rest)
unfolding argument_at
argument-none page ending none rest = refl
argument-none page ending (more t ts) rest = refl

skip-quote : (page : Page) (rest : List ℕ) → skip page plain (32 ∷ 34 ∷ rest) ≡ Ok (34 ∷ rest)
unfolding skip
skip-quote page rest = refl

pub after-again : (page : Page) (ending : Fault) (argument : Option (List ℕ)) (ts : Trees) (rest : List ℕ) → IfSome argument IsUtf8 → after_keyword page ending (written_argument argument ++ (written_end ts ++ rest)) ≡ Ok (argument, opened ts rest)
unfolding after_keyword
after-again page ending None ts rest h = rw (skip-end page ts rest, argument-none page ending ts rest) refl
after-again page ending (Some a) ts rest h =
    let e : written_argument (Some a) ++ (written_end ts ++ rest) ≡ 32 ∷ 34 ∷ (flat_map escape_of a ++ 34 ∷ (written_end ts ++ rest)) = ap (λ (l : List ℕ). 32 ∷ 34 ∷ l) (append_assoc (flat_map escape_of a) (34 ∷ []) (written_end ts ++ rest)) in
    let go : List ℕ → Result (Option (List ℕ) × List ℕ) Fault = λ l. skip page plain l >>= λ r. argument_at page ending r in
    ap go e ∙ rw (skip-quote page (flat_map escape_of a ++ 34 ∷ (written_end ts ++ rest)), argument-again page ending a (written_end ts ++ rest) (opened ts rest) (skip-end page ts rest) (opened-plus ts rest) h) refl

-- the byte after a keyword
space : (rest : List ℕ) → Parts 32 rest
space rest = record { name = refl; colon = refl; ending = refl }

semicolon : (rest : List ℕ) → Parts 59 rest
semicolon rest = record { name = refl; colon = refl; ending = refl }

label-at : (page : Page) (ending : Fault) (k : List ℕ) (argument : Option (List ℕ)) (ts : Trees) (rest : List ℕ) → IsKeyword k → keyword_at page ending (k ++ (written_argument argument ++ (written_end ts ++ rest))) ≡ Ok (k, written_argument argument ++ (written_end ts ++ rest))
unfolding written_end
label-at page ending k None none rest h = keyword-again page ending k 59 rest h (semicolon rest)
label-at page ending k None (more t ts) rest h = keyword-again page ending k 32 _ h (space _)
label-at page ending k (Some a) ts rest h = keyword-again page ending k 32 _ h (space _)

pub label-again : (page : Page) (ending : Fault) (k : List ℕ) (argument : Option (List ℕ)) (ts : Trees) (rest : List ℕ) → IsKeyword k → IsUtf8 k → label_at page ending (k ++ (written_argument argument ++ (written_end ts ++ rest))) ≡ Ok (k, written_argument argument ++ (written_end ts ++ rest))
unfolding label_at
label-again page ending k argument ts rest h text = rw (label-at page ending k argument ts rest h, is_utf8-from_IsUtf8 k text) refl

start-plain : (b : ℕ) → is_start b ≡ true → (is_white b ≡ false) × (eqb b 47 ≡ false) × (eqb b 125 ≡ false)
start-plain b h = (grind (arith, nat_tests), grind (arith, nat_tests), grind (arith, nat_tests))

skip-identifier : (page : Page) (k rest : List ℕ) → IsIdentifier k → (skip page plain (k ++ rest) ≡ Ok (k ++ rest)) × (begins (k ++ rest) 125 ≡ false) × (0 < length k)
unfolding skip
skip-identifier page [] rest h = absurd h
skip-identifier page (b ∷ k) rest h =
    let p = start-plain b h.0 in
    (rw (p.0, p.1) refl, p.2, omega arith)

skip-keyword : (page : Page) (k rest : List ℕ) → IsKeyword k → (skip page plain (k ++ rest) ≡ Ok (k ++ rest)) × (begins (k ++ rest) 125 ≡ false) × (0 < length k)
skip-keyword page k rest h =
    elim h [
      | inl i ↦ skip-identifier page k rest i
      | inr i ↦
          let e : k ++ rest ≡ i.0 ++ 58 ∷ (i.1 ++ rest) = ap (λ (l : List ℕ). l ++ rest) i.2 ∙ append_assoc i.0 (58 ∷ i.1) rest in
          let s = skip-identifier page i.0 (58 ∷ (i.1 ++ rest)) i.3 in
          let l : 0 < length k = rw i.2 (omega (arith, length-append i.0 (58 ∷ i.1), s.2)) in
          (rw e s.0, rw e s.1, l)
    ]

pub written-parts : (k : List ℕ) (argument : Option (List ℕ)) (place : ℕ) (ts : Trees) (rest : List ℕ) → written (statement k argument place ts) ++ rest ≡ k ++ (written_argument argument ++ (written_end ts ++ rest))
unfolding written
written-parts k argument place ts rest = append_assoc k (written_argument argument ++ written_end ts) rest ∙ ap (λ (l : List ℕ). k ++ l) (append_assoc (written_argument argument) (written_end ts) rest)

pub skip-written : (page : Page) (d : ℕ) (t : Tree) (rest : List ℕ) → CanHave d t → (skip page plain (written t ++ rest) ≡ Ok (written t ++ rest)) × (begins (written t ++ rest) 125 ≡ false) × (0 < length (written t ++ rest))
skip-written page d (statement k argument place ts) rest h =
    let e = written-parts k argument place ts rest in
    let tail : List ℕ = written_argument argument ++ (written_end ts ++ rest) in
    let s = skip-keyword page k tail h.0 in
    (rw e s.0, rw e s.1, rw e (omega (arith, length-append k tail, s.2)))

-- the statements that were read, and what they are
pub record Reads (d : ℕ) (page : Page) (run : Run) (ts : Trees) (rest : List ℕ) : Type 0 where
  pub found : List Tree
  pub is : run ≡ (found, Ok rest)
  pub same : SameWordsEach (trees_of found) ts

pub record ReadsOne (read : Result (Tree × List ℕ) Fault) (t : Tree) (rest : List ℕ) : Type 0 where
  pub found : Tree
  pub is : read ≡ Ok (found, rest)
  pub same : SameWords found t

skip-each : (page : Page) (d : ℕ) (ts : Trees) (rest : List ℕ) → CanHoldEach d ts → skip page plain (32 ∷ (written_each ts ++ 125 ∷ rest)) ≡ Ok (written_each ts ++ 125 ∷ rest)
unfolding skip written_each
skip-each page d none rest h = refl
skip-each page d (more t ts) rest h =
    let e : (written t ++ 32 ∷ written_each ts) ++ 125 ∷ rest ≡ written t ++ (32 ∷ (written_each ts ++ 125 ∷ rest)) = append_assoc (written t) (32 ∷ written_each ts) (125 ∷ rest) in
    rw e (skip-written page d t (32 ∷ (written_each ts ++ 125 ∷ rest)) h.0).0

each-one : (read : List ℕ → Result (Tree × List ℕ) Fault) (page : Page) (ending : Fault) (n : ℕ) (bytes after next rest : List ℕ) (t : Tree) (found : List Tree) → begins bytes 125 ≡ false → 0 < n → read bytes ≡ Ok (t, after) → skip page plain after ≡ Ok next
    → each_at read page ending (n - 1) next ≡ (found, Ok rest) → each_at read page ending n bytes ≡ (t ∷ found, Ok rest)
unfolding each_at
each-one read page ending zero bytes after next rest t found off lt r s h = absurd (omega arith)
each-one read page ending (suc n) bytes after next rest t found off lt r s h =
    let k : suc n - 1 ≡ n = omega arith in
    let g : each_at read page ending n next ≡ (found, Ok rest) = rw k at h in
    rw (off, r, s, g) refl

each-none : (read : List ℕ → Result (Tree × List ℕ) Fault) (page : Page) (ending : Fault) (n : ℕ) (rest : List ℕ) → 0 < n → each_at read page ending n (125 ∷ rest) ≡ ([], Ok rest)
unfolding each_at
each-none read page ending zero rest lt = absurd (omega arith)
each-none read page ending (suc n) rest lt = refl

-- what is within a statement, given how its statements are read
pub within-again : (ts : Trees) (d : ℕ) (page : Page) (ending : Fault) (rest : List ℕ) → CanHold d ts
    → ((e : ℕ) (fault : Fault) (n : ℕ) → CanHoldEach e ts → length (written_each ts ++ 125 ∷ rest) ≤ n → Reads e page (each_at (statement_at (inside e page) page fault) page fault n (written_each ts ++ 125 ∷ rest)) ts rest)
    → Reads d page (end_at (inside d page) page ending (opened ts rest)) ts rest
unfolding end_at inside written_each
within-again none d page ending rest h each = record { found = []; is = refl; same = tt }
within-again (more t ts) zero page ending rest h each = absurd h
within-again (more t ts) (suc d) page ending rest h each =
    let start : List ℕ = (written t ++ 32 ∷ written_each ts) ++ 125 ∷ rest in
    let e : (written t ++ 32 ∷ (written_each ts ++ 125 ∷ [])) ++ rest ≡ start =
    append_assoc (written t) (32 ∷ (written_each ts ++ 125 ∷ [])) rest ∙ ap (λ (l : List ℕ). written t ++ 32 ∷ l) (append_assoc (written_each ts) (125 ∷ []) rest) ∙ sym (append_assoc (written t) (32 ∷ written_each ts) (125 ∷ rest)) in
    let s : skip page plain (32 ∷ ((written t ++ 32 ∷ (written_each ts ++ 125 ∷ [])) ++ rest)) ≡ Ok start = ap (λ (l : List ℕ). skip page plain (32 ∷ l)) e ∙ skip-each page d (more t ts) rest h in
    let fault : Fault = open_brace page (123 ∷ 32 ∷ ((written t ++ 32 ∷ (written_each ts ++ 125 ∷ [])) ++ rest)) in
    let r = each d fault (length start) h (omega arith) in
    record { found = r.found; is = rw s r.is; same = r.same }

mutual
  unfolding statement_at label_at written_each

  pub statement-again : (t : Tree) (d : ℕ) (page : Page) (ending : Fault) (rest : List ℕ) → CanHave d t → ReadsOne (statement_at (inside d page) page ending (written t ++ rest)) t rest
  statement-again (statement k argument place ts) d page ending rest h =
      let w = within-again ts d page ending rest h.3 (λ e fault n g le. each-again ts e page fault n rest g le) in
      let bytes : List ℕ = k ++ (written_argument argument ++ (written_end ts ++ rest)) in
      let one : statement_at (inside d page) page ending bytes ≡ Ok (statement k argument (place_of page bytes) (trees_of w.found), rest) =
      rw (label-at page ending k argument ts rest h.0, is_utf8-from_IsUtf8 k h.1, after-again page ending argument ts rest h.2, w.is) refl in
      record { found = statement k argument (place_of page bytes) (trees_of w.found); is = ap (statement_at (inside d page) page ending) (written-parts k argument place ts rest) ∙ one; same = (refl, refl, w.same) }

  pub each-again : (ts : Trees) (d : ℕ) (page : Page) (ending : Fault) (n : ℕ) (rest : List ℕ) → CanHoldEach d ts → length (written_each ts ++ 125 ∷ rest) ≤ n → Reads d page (each_at (statement_at (inside d page) page ending) page ending n (written_each ts ++ 125 ∷ rest)) ts rest
  each-again none d page ending n rest h le = record { found = []; is = each-none (statement_at (inside d page) page ending) page ending n rest (omega arith); same = tt }
  each-again (more t ts) d page ending n rest h le =
      let after : List ℕ = 32 ∷ (written_each ts ++ 125 ∷ rest) in
      let e : (written t ++ 32 ∷ written_each ts) ++ 125 ∷ rest ≡ written t ++ after = append_assoc (written t) (32 ∷ written_each ts) (125 ∷ rest) in
      let s = skip-written page d t after h.0 in
      let one = statement-again t d page ending after h.0 in
      let len = ap length e in
      let lens = length-append (written t) after in
      let many = each-again ts d page ending (n - 1) rest h.1 (omega (arith, len, lens, s.2, le)) in
      record { found = one.found ∷ many.found; is = ap (each_at (statement_at (inside d page) page ending) page ending n) e ∙ each-one (statement_at (inside d page) page ending) page ending n (written t ++ after) after (written_each ts ++ 125 ∷ rest) rest one.found many.found s.1 (omega (arith, s.2, len, le)) one.is (skip-each page d ts rest h.1) many.is; same = (one.same, many.same) }
