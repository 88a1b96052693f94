-- Statements and modules on two pages that begin alike.
use Rattle.std.proofs.Common.{◌≡◌, ℕ, zero, suc, ◌+◌, ◌≤◌, ◌<◌, true, eqb, List, [], ◌∷◌, ◌++◌, length, codes, Option, Some, None, Result, Ok, Err, refl, sym, ap, subst, ◌∙◌, arith, length-append, inl, inr}
use Rattle.std.specs.Str.{bytes_eq}
use Rattle.nm_yang.specs.declared.fault.Fault.{Fault}
use Rattle.nm_yang.specs.declared.fault.YangKind.{YangKind}
use Rattle.nm_yang.specs.declared.fault.YangKind.TheVariants.{UnclosedQuote, UnclosedBrace, BadToken, NotModule, Trailing, TooDeep}
use Rattle.nm_yang.specs.Tree.{Tree, statement, trees_of}
use Rattle.nm_yang.specs.Page.{Page, bad, place_of, ◌>>=◌}
use Rattle.nm_yang.specs.Byte.{begins}
use Rattle.nm_yang.specs.Blank.{skip, plain}
use Rattle.nm_yang.specs.Grammar.{IsIdentifier, IsKeyword}
use Rattle.nm_yang.specs.Module.{Run, Found, Heading, failed, label_at, after_keyword, end_at, statement_at, each_at, inside, open_brace, not_module, heading_at, done_at, finish_at, closed_at, begin_at, body_at, module_at, with_heading, most_deep}
use Rattle.nm_yang.proofs.Blanked.{Firm, blanks-firm}
use Rattle.nm_yang.proofs.Worded.{bind_ok}
use Rattle.nm_yang.proofs.Spelt.{label-takes}
use Rattle.nm_yang_laws.specs.Faults.{halts}
use Rattle.nm_yang_laws.proofs.Tails.{IsTail, tail-length}
use Rattle.nm_yang_laws.proofs.Goods.{by-cond-two, Known, free, Good, itself, second}
use Rattle.nm_yang_laws.proofs.Quoted.{firm-after_keyword, firm-of}
use Rattle.nm_yang_laws.proofs.Stated.{InsideGood, ReadGood, stated, argued, good-end_at, good-stated, good-argued, good-statement, each_next, good-each, good-next, held, good-held, good-inside, rest_of, headed, good-headed, good-heading, good-done, no_rest, finished, good-finished, good-closed, good-body, firm-begin}
use Rattle.nm_yang_laws.proofs.Alike.{Alike, Quiet, Late, Like, reads, fails, late, LikeRun, run_reads, run_fails, run_late, alone, with_rest, place-same, late-good, late-bind, quiet-end, like-ok, like-bad, like-bind, run-up, run-then, run-cons}
use Rattle.nm_yang_laws.proofs.Begun.{LikeRest, LikePair, like-skip, like-label}
use Rattle.nm_yang_laws.proofs.Arguments.{like-after}

-- ---- a statement is longer than nothing

identifier-long : (k : List ℕ) → IsIdentifier k → 0 < length k
identifier-long [] h = absurd h
identifier-long (b ∷ k) h = omega arith

keyword-long : (k : List ℕ) → IsKeyword k → 0 < length k
keyword-long k h =
    elim h [
      | inl i ↦ identifier-long k i
      | inr i ↦ let l = ap length i.2 in omega (arith, l, length-append i.0 (58 ∷ i.1))
    ]

label-shrinks : (page : Page) (ending : Fault) (bytes : List ℕ) (k : List ℕ × List ℕ) → label_at page ending bytes ≡ Ok k → length k.1 < length bytes
label-shrinks page ending bytes k e =
    let pair : label_at page ending bytes ≡ Ok (k.0, k.1) = e in
    let h = label-takes page ending bytes k.0 k.1 pair in
    let l = ap length h.parts in
    omega (arith, l, keyword-long k.0 h.keyword_is, length-append k.0 k.1)

good-of : {A : Type 0} (m : Known) (ending : Fault) (rest : A → List ℕ) (bytes : List ℕ) (r : Result A Fault) (a : A) → r ≡ Ok a → Good m ending rest bytes r → IsTail (rest a) bytes
good-of {A = A} m ending rest bytes r a e g = subst (λ (x : Result A Fault). Good m ending rest bytes x) e g

-- what a reader leaves is less than what it reads
abbrev ReadShrinks : (List ℕ → Result (Tree × List ℕ) Fault) → Type 0
ReadShrinks read = (bytes : List ℕ) (x : Tree × List ℕ) → read bytes ≡ Ok x → length x.1 < length bytes

statement-shrinks : (page : Page) (go : List ℕ → Run) (ending : Fault) → InsideGood (free page) go → ReadShrinks (statement_at go page ending)
unfolding statement_at
statement-shrinks page go ending law bytes x e =
    let k = bind_ok (label_at page ending bytes) (argued go page ending (place_of page bytes)) x e in
    let t = good-of (free page) ending second k.0.1 (argued go page ending (place_of page bytes) k.0) x k.2 (good-argued (free page) go ending (place_of page bytes) k.0 law tt (λ rest b n. tt)) in
    omega (arith, label-shrinks page ending bytes k.0 k.1, tail-length x.1 k.0.1 t)

-- ---- statements

run-here : (w : Alike) (found : List Tree) (bytes : List ℕ) → LikeRun w bytes (found, Ok (bytes ++ w.more)) (found, Ok (bytes ++ w.others))
run-here w found [] = run_late (omega arith)
run-here w found (b ∷ []) = run_late (omega arith)
run-here w found (b ∷ c ∷ bytes) = run_reads found [] (b ∷ c ∷ bytes) refl (omega arith) refl refl

run-bad : (w : Alike) (all bytes : List ℕ) (kind : YangKind) → LikeRun w all (failed (bad (place_of w.one (bytes ++ w.more)) kind)) (failed (bad (place_of w.other (bytes ++ w.others)) kind))
run-bad w all bytes kind = run_fails [] (bad (place_of w.one (bytes ++ w.more)) kind) refl (ap (λ (n : ℕ). failed (bad n kind)) (sym (place-same w bytes)))

-- what braces hold that open first
abbrev InsideLike : Alike → (List ℕ → Run) → (List ℕ → Run) → Type 0
InsideLike w go then = (bytes : List ℕ) → begins (bytes ++ w.more) 123 ≡ true → LikeRun w bytes (go (bytes ++ w.more)) (then (bytes ++ w.others))

like-end_at : (w : Alike) (go then : List ℕ → Run) (ep eq : Fault) (bytes : List ℕ) → InsideGood (free w.one) go → InsideLike w go then → Firm (bytes ++ w.more) → Quiet w ep → LikeRun w bytes (end_at go w.one ep (bytes ++ w.more)) (end_at then w.other eq (bytes ++ w.others))
unfolding end_at
like-end_at w go then ep eq [] good law f q = run_late (late-good w ep itself w.more (end_at go w.one ep w.more).1 q (omega arith) (good-end_at (free w.one) go ep w.more good tt f))
like-end_at w go then ep eq (b ∷ rest) good law f q =
    let all : List ℕ = b ∷ rest in
    let P : Run → Run → Type 0 = λ r s. LikeRun w all r s in
    by-cond-two P (eqb b 59) _ _ _ _ (λ h. run-up w (b ∷ []) rest all _ _ refl (run-here w [] rest)) (λ h.
    by-cond-two P (eqb b 123) _ _ _ _ (λ o. law all o) (λ o. run-bad w all all BadToken))

-- a statement of a run
abbrev ended : List ℕ → Option (List ℕ) → ℕ → Run → Result (Tree × List ℕ) Fault
ended keyword argument place r = r.1 >>= λ rest. Ok (statement keyword argument place (trees_of r.0), rest)

like-ended : (w : Alike) (keyword : List ℕ) (argument : Option (List ℕ)) (place : ℕ) (bytes : List ℕ) (r s : Run) → LikeRun w bytes r s → LikePair w bytes (ended keyword argument place r) (ended keyword argument place s)
like-ended w keyword argument place bytes r s (run_reads found b a e l rr ss) = reads (statement keyword argument place (trees_of found)) b a e l (rw rr refl) (rw ss refl)
like-ended w keyword argument place bytes r s (run_fails found f rr ss) = fails f (rw rr refl) (rw ss refl)
like-ended w keyword argument place bytes r s (run_late h) = late (late-bind w itself second r.1 (λ rest. Ok (statement keyword argument place (trees_of r.0), rest)) h (λ a e short. short))

like-stated : (w : Alike) (go then : List ℕ → Run) (ep eq : Fault) (place : ℕ) (keyword : List ℕ) (argument : Option (List ℕ)) (after : List ℕ) → InsideGood (free w.one) go → InsideLike w go then → Firm (after ++ w.more) → Quiet w ep
    → LikePair w after (stated go w.one ep place keyword (argument, after ++ w.more)) (stated then w.other eq place keyword (argument, after ++ w.others))
like-stated w go then ep eq place keyword argument after good law f q = like-ended w keyword argument place after (end_at go w.one ep (after ++ w.more)) (end_at then w.other eq (after ++ w.others)) (like-end_at w go then ep eq after good law f q)

like-argued : (w : Alike) (go then : List ℕ → Run) (ep eq : Fault) (place : ℕ) (keyword after : List ℕ) → InsideGood (free w.one) go → InsideLike w go then → Quiet w ep
    → LikePair w after (argued go w.one ep place (keyword, after ++ w.more)) (argued then w.other eq place (keyword, after ++ w.others))
like-argued w go then ep eq place keyword after good law q =
    like-bind w second second with_rest with_rest after (after_keyword w.one ep (after ++ w.more)) (after_keyword w.other eq (after ++ w.others)) (stated go w.one ep place keyword) (stated then w.other eq place keyword) (like-after w ep eq after q)
    (λ v b a e l rr. like-stated w go then ep eq place keyword v a good law (firm-of second (after_keyword w.one ep (after ++ w.more)) (v, a ++ w.more) rr (firm-after_keyword w.one ep (after ++ w.more))) q)
    (λ x e short. late-good w ep second x.1 (stated go w.one ep place keyword x) q short (good-stated (free w.one) go ep place keyword x good tt (firm-of second (after_keyword w.one ep (after ++ w.more)) x e (firm-after_keyword w.one ep (after ++ w.more)))))

abbrev ReadLike : Alike → (List ℕ → Result (Tree × List ℕ) Fault) → (List ℕ → Result (Tree × List ℕ) Fault) → Type 0
ReadLike w read then = (bytes : List ℕ) → Firm (bytes ++ w.more) → LikePair w bytes (read (bytes ++ w.more)) (then (bytes ++ w.others))

like-statement : (w : Alike) (go then : List ℕ → Run) (ep eq : Fault) → InsideGood (free w.one) go → InsideLike w go then → Quiet w ep → ReadLike w (statement_at go w.one ep) (statement_at then w.other eq)
unfolding statement_at
like-statement w go then ep eq good law q bytes f =
    let place : ℕ = place_of w.one (bytes ++ w.more) in
    rw (← place-same w bytes)
    (like-bind w second second with_rest with_rest bytes (label_at w.one ep (bytes ++ w.more)) (label_at w.other eq (bytes ++ w.others)) (argued go w.one ep place) (argued then w.other eq place) (like-label w ep eq bytes f q)
    (λ v b a e l rr. like-argued w go then ep eq place v a good law q) (λ k e short. late-good w ep second k.1 (argued go w.one ep place k) q short (good-argued (free w.one) go ep place k good tt (λ rest b n. tt))))

-- ---- statements within braces

like-each : (w : Alike) (read then : List ℕ → Result (Tree × List ℕ) Fault) (ep eq : Fault) (n m : ℕ) (bytes : List ℕ) → ReadGood (free w.one) ep read → ReadShrinks read → ReadLike w read then → Quiet w ep → Firm (bytes ++ w.more) → length (bytes ++ w.more) ≤ n → length (bytes ++ w.others) ≤ m
    → LikeRun w bytes (each_at read w.one ep n (bytes ++ w.more)) (each_at then w.other eq m (bytes ++ w.others))
unfolding each_at
like-each w read then ep eq n m [] good shrinks law q f le lo = run_late (late-good w ep itself w.more (each_at read w.one ep n w.more).1 q (omega arith) (good-each (free w.one) read ep n w.more good tt f))
like-each w read then ep eq zero m (b ∷ bytes) good shrinks law q f le lo = absurd (omega arith)
like-each w read then ep eq (suc n) zero (b ∷ bytes) good shrinks law q f le lo = absurd (omega arith)
like-each w read then ep eq (suc n) (suc m) (b ∷ bytes) good shrinks law q f le lo =
    let all : List ℕ = b ∷ bytes in
    by-cond-two (λ (r s : Run). LikeRun w all r s) (eqb b 125) _ _ _ _ (λ h. run-up w (b ∷ []) bytes all _ _ refl (run-here w [] bytes)) (λ h.
    run-cons w all (read (all ++ w.more)) (then (all ++ w.others)) (each_next read w.one ep n) (each_next then w.other eq m) (law all f)
    (λ t c a e rr.
    run-then w a (skip w.one plain (a ++ w.more)) (skip w.other plain (a ++ w.others)) (λ rest. each_at read w.one ep n rest) (λ rest. each_at then w.other eq m rest) (like-skip w a)
    (λ d i g ss.
    let s = shrinks (all ++ w.more) (t, a ++ w.more) rr in
    let l = ap length g in
    like-each w read then ep eq n m i good shrinks law q (blanks-firm w.one (a ++ w.more) (i ++ w.more) ss)
    (omega (arith, s, l, le, length-append all w.more, length-append a w.more, length-append i w.more, length-append d i))
    (omega (arith, s, l, lo, length-append all w.more, length-append a w.more, length-append all w.others, length-append i w.others, length-append d i)))
    (λ rest g short. late-good w ep itself rest (each_at read w.one ep n rest).1 q short (good-each (free w.one) read ep n rest good tt (blanks-firm w.one (a ++ w.more) rest g))))
    (λ x e short. late-good w ep itself x.1 (each_next read w.one ep n x.1).1 q short (good-next (free w.one) read ep n x.1 good tt)))

like-held : (w : Alike) (depth : ℕ) (fp fq : Fault) (start : List ℕ) → InsideLike w (inside depth w.one) (inside depth w.other) → Quiet w fp → Firm (start ++ w.more) → LikeRun w start (held depth w.one fp (start ++ w.more)) (held depth w.other fq (start ++ w.others))
like-held w depth fp fq start law q f =
    let good = good-inside depth (free w.one) in
    like-each w (statement_at (inside depth w.one) w.one fp) (statement_at (inside depth w.other) w.other fq) fp fq (length (start ++ w.more)) (length (start ++ w.others)) start (good-statement (free w.one) (inside depth w.one) fp good) (statement-shrinks w.one (inside depth w.one) fp good)
    (like-statement w (inside depth w.one) (inside depth w.other) fp fq good law q) q f (omega arith) (omega arith)

like-inside : (w : Alike) (depth : ℕ) → InsideLike w (inside depth w.one) (inside depth w.other)
unfolding inside
like-inside w zero bytes o = run-bad w bytes bytes TooDeep
like-inside w (suc depth) [] o = run_late (late-good w (bad 0 UnclosedQuote) itself w.more (inside (suc depth) w.one w.more).1 refl (omega arith) (good-inside (suc depth) (free w.one) (bad 0 UnclosedQuote) w.more tt o))
like-inside w (suc depth) (b ∷ rest) o =
    let fp : Fault = open_brace w.one ((b ∷ rest) ++ w.more) in
    let fq : Fault = open_brace w.other ((b ∷ rest) ++ w.others) in
    let q : Quiet w fp = quiet-end w (bad (place_of w.one ((b ∷ rest) ++ w.more)) UnclosedBrace) refl in
    let deeper = like-inside w depth in
    run-up w (b ∷ []) rest (b ∷ rest) _ _ refl
    (run-then w rest (skip w.one plain (rest ++ w.more)) (skip w.other plain (rest ++ w.others)) (held depth w.one fp) (held depth w.other fq) (like-skip w rest)
    (λ d a e rr. like-held w depth fp fq a deeper q (blanks-firm w.one (rest ++ w.more) (a ++ w.more) rr))
    (λ start e short. late-good w fp itself start (held depth w.one fp start).1 q short (good-held depth (free w.one) fp start (good-inside depth (free w.one)) tt (blanks-firm w.one (rest ++ w.more) start e))))

-- ---- modules

-- a heading before a rest
abbrev heading_with : List ℕ × Option (List ℕ) × ℕ → List ℕ → Heading
heading_with v rest = record { keyword = v.0; argument = v.1; place = v.2; rest = rest }

abbrev LikeHeading : Alike → List ℕ → Result Heading Fault → Result Heading Fault → Type 0
LikeHeading w bytes r s = Like w rest_of heading_with bytes r s

quiet-module : (w : Alike) → Quiet w (not_module w.one)
quiet-module w = quiet-end w (bad 0 NotModule) refl

like-headed : (w : Alike) (place : ℕ) (keyword after : List ℕ) → LikeHeading w after (headed w.one place (keyword, after ++ w.more)) (headed w.other place (keyword, after ++ w.others))
like-headed w place keyword after =
    by-cond-two (λ (r s : Result Heading Fault). LikeHeading w after r s) (bytes_eq keyword (codes "module")) _ _ _ _
    (λ h. like-bind w second rest_of with_rest heading_with after (after_keyword w.one (not_module w.one) (after ++ w.more)) (after_keyword w.other (not_module w.other) (after ++ w.others))
    (λ a. Ok (record { keyword = keyword; argument = a.0; place = place; rest = a.1 })) (λ a. Ok (record { keyword = keyword; argument = a.0; place = place; rest = a.1 })) (like-after w (not_module w.one) (not_module w.other) after (quiet-module w))
    (λ v b a e l rr. like-ok w rest_of heading_with (keyword, v, place) a refl) (λ a e short. short))
    (λ h. fails (bad 0 NotModule) refl refl)

like-heading : (w : Alike) (start : List ℕ) → Firm (start ++ w.more) → LikeHeading w start (heading_at w.one (start ++ w.more)) (heading_at w.other (start ++ w.others))
unfolding heading_at
like-heading w start f =
    let place : ℕ = place_of w.one (start ++ w.more) in
    rw (← place-same w start)
    (like-bind w second rest_of with_rest heading_with start (label_at w.one (not_module w.one) (start ++ w.more)) (label_at w.other (not_module w.other) (start ++ w.others)) (headed w.one place) (headed w.other place) (like-label w (not_module w.one) (not_module w.other) start f (quiet-module w))
    (λ v b a e l rr. like-headed w place v a) (λ k e short. late-good w (not_module w.one) rest_of k.1 (headed w.one place k) (quiet-module w) short (good-headed (free w.one) place k (λ rest b n. tt) (λ h. tt))))

-- the heading of a text
abbrev begun : Page → List ℕ → Result Heading Fault
begun page text = skip page plain text >>= λ start. heading_at page start

like-begun : (w : Alike) (bytes : List ℕ) → LikeHeading w bytes (begun w.one (bytes ++ w.more)) (begun w.other (bytes ++ w.others))
like-begun w bytes =
    like-bind w itself rest_of alone heading_with bytes (skip w.one plain (bytes ++ w.more)) (skip w.other plain (bytes ++ w.others)) (heading_at w.one) (heading_at w.other) (like-skip w bytes)
    (λ v b a e l rr. like-heading w a (blanks-firm w.one (bytes ++ w.more) (a ++ w.more) rr)) (λ start e short. late-good w (not_module w.one) rest_of start (heading_at w.one start) (quiet-module w) short (good-heading (free w.one) start tt (λ k a i n. tt) (blanks-firm w.one (bytes ++ w.more) start e)))

like-begin : (w : Alike) → LikeHeading w w.common (begin_at w.one) (begin_at w.other)
unfolding begin_at
like-begin w =
    let a : LikeHeading w w.common (begun w.one w.one.text) (begun w.other (w.common ++ w.others)) = subst (λ (l : List ℕ). LikeHeading w w.common (begun w.one l) (begun w.other (w.common ++ w.others))) (sym w.one_is) (like-begun w w.common) in
    subst (λ (l : List ℕ). LikeHeading w w.common (begun w.one w.one.text) (begun w.other l)) (sym w.other_is) a

done-trailing : (page : Page) (stop : Option Fault) (b : ℕ) (rest : List ℕ) → done_at page stop (b ∷ rest) ≡ Err (bad (place_of page (b ∷ rest)) Trailing)
unfolding done_at
done-trailing page None b rest = refl
done-trailing page (Some stop) b rest = refl

like-done : (w : Alike) (bytes : List ℕ) → 2 ≤ length bytes → LikeRest w bytes (done_at w.one w.one.stop (bytes ++ w.more)) (done_at w.other w.other.stop (bytes ++ w.others))
like-done w [] l = absurd (omega arith)
like-done w (b ∷ bytes) l = rw (done-trailing w.one w.one.stop b (bytes ++ w.more), done-trailing w.other w.other.stop b (bytes ++ w.others)) (like-bad w itself alone (b ∷ bytes) (b ∷ bytes) Trailing)

like-finish : (w : Alike) (bytes : List ℕ) → LikeRest w bytes (finish_at w.one (bytes ++ w.more)) (finish_at w.other (bytes ++ w.others))
unfolding finish_at
like-finish w bytes =
    like-bind w itself itself alone alone bytes (skip w.one plain (bytes ++ w.more)) (skip w.other plain (bytes ++ w.others)) (done_at w.one w.one.stop) (done_at w.other w.other.stop) (like-skip w bytes) (λ v b a e l rr. like-done w a l)
    (λ rest e short. late-good w (bad 0 UnclosedQuote) itself rest (done_at w.one w.one.stop rest) refl short (good-done (free w.one) (bad 0 UnclosedQuote) w.one.stop rest refl (blanks-firm w.one (bytes ++ w.more) rest e) tt))

-- both pages end with the same statements and the same fault, or reading came near to where they part
pub data LikeFound (w : Alike) (r s : Found) : Type 0 where
  ends_same : (found : List Tree) (fault : Fault) → r ≡ (found, Err fault) → s ≡ (found, Err fault) → LikeFound w r s
  ends_late : Late w no_rest r.1 → LikeFound w r s

like-finished : (w : Alike) (h k : Heading) (found : List Tree) (bytes : List ℕ) (r s : Result (List ℕ) Fault) → LikeRest w bytes r s
    → LikeFound w (found, r >>= λ end. Ok (statement h.keyword h.argument h.place (trees_of found))) (found, s >>= λ end. Ok (statement k.keyword k.argument k.place (trees_of found)))
like-finished w h k found bytes r s (reads v b a e l rr ss) = ends_late (rw rr (omega arith))
like-finished w h k found bytes r s (fails f rr ss) = ends_same found f (rw rr refl) (rw ss refl)
like-finished w h k found bytes r s (late z) = ends_late (late-bind w itself no_rest r (λ end. Ok (statement h.keyword h.argument h.place (trees_of found))) z (λ a e short. omega arith))

like-closed : (w : Alike) (h k : Heading) (bytes : List ℕ) (r s : Run) → LikeRun w bytes r s → LikeFound w (r.0, closed_at w.one h r) (s.0, closed_at w.other k s)
unfolding closed_at
like-closed w h k bytes r s (run_reads found b a e l rr ss) = rw (rr, ss) (like-finished w h k found a (finish_at w.one (a ++ w.more)) (finish_at w.other (a ++ w.others)) (like-finish w a))
like-closed w h k bytes r s (run_fails found f rr ss) = rw (rr, ss) (ends_same found f refl refl)
like-closed w h k bytes r s (run_late z) = ends_late (late-bind w itself no_rest r.1 (finished w.one h r.0) z (λ rest e short. late-good w (bad 0 UnclosedQuote) no_rest rest (finished w.one h r.0 rest) refl short (good-finished (free w.one) (bad 0 UnclosedQuote) h r.0 rest (λ r b. tt))))

-- the statements of a module and how it ends
abbrev closing : Page → Heading → Found
closing page h = ((body_at page h).0, closed_at page h (body_at page h))

like-body : (w : Alike) (v : List ℕ × Option (List ℕ) × ℕ) (bytes : List ℕ) → Firm (bytes ++ w.more) → LikeFound w (closing w.one (heading_with v (bytes ++ w.more))) (closing w.other (heading_with v (bytes ++ w.others)))
unfolding body_at
like-body w v bytes f =
    like-closed w (heading_with v (bytes ++ w.more)) (heading_with v (bytes ++ w.others)) bytes (end_at (inside most_deep w.one) w.one (not_module w.one) (bytes ++ w.more)) (end_at (inside most_deep w.other) w.other (not_module w.other) (bytes ++ w.others))
    (like-end_at w (inside most_deep w.one) (inside most_deep w.other) (not_module w.one) (not_module w.other) bytes (good-inside most_deep (free w.one)) (like-inside w most_deep) f (quiet-module w))

late-heading : (w : Alike) (r : Result Heading Fault) → begin_at w.one ≡ r → Late w rest_of r → Late w no_rest (with_heading r (closing w.one)).1
late-heading w (Ok h) e short =
    late-good w (not_module w.one) no_rest h.rest (closed_at w.one h (body_at w.one h)) (quiet-module w) short (good-closed (free w.one) (not_module w.one) h h.rest (body_at w.one h) (good-body (free w.one) h tt (firm-of rest_of (begin_at w.one) h e (firm-begin w.one))) (λ rest e r b. tt))
late-heading w (Err f) e h = h

module-by : (w : Alike) → LikeHeading w w.common (begin_at w.one) (begin_at w.other) → LikeFound w (with_heading (begin_at w.one) (closing w.one)) (with_heading (begin_at w.other) (closing w.other))
module-by w (reads v b a e l rr ss) = rw (rr, ss) (like-body w v a (firm-of rest_of (begin_at w.one) (heading_with v (a ++ w.more)) rr (firm-begin w.one)))
module-by w (fails f rr ss) = ends_same [] f (rw rr refl) (rw ss refl)
module-by w (late h) = ends_late (late-heading w (begin_at w.one) refl h)

pub like-module : (w : Alike) → LikeFound w (module_at w.one) (module_at w.other)
unfolding module_at
like-module w = module-by w (like-begin w)

found-by : (w : Alike) (r s : Found) (found : List Tree) (fault : Fault) → LikeFound w r s → r ≡ (found, Err fault) → halts w.other.strict fault.kind ≡ true → fault.place + 2 ≤ length w.common → s ≡ (found, Err fault)
found-by w r s found fault (ends_same g f rr ss) e h le = ss ∙ sym rr ∙ e
found-by w r s found fault (ends_late z) e h le = absurd (let l : length w.common < fault.place + 2 = (rw e at z) h in omega (arith, l, le))

-- the same statements and the same fault
pub same-found : (w : Alike) (found : List Tree) (fault : Fault) → module_at w.one ≡ (found, Err fault) → halts w.other.strict fault.kind ≡ true → fault.place + 2 ≤ length w.common → module_at w.other ≡ (found, Err fault)
same-found w found fault e h le = found-by w (module_at w.one) (module_at w.other) found fault (like-module w) e h le
