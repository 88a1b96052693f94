-- Two pages that begin alike, and what readers answer on both: the same, until reading comes near to where they part.
use Rattle.std.proofs.Common.{◌≡◌, ℕ, ◌+◌, ◌-◌, ◌≤◌, ◌<◌, true, false, List, [], ◌∷◌, ◌++◌, length, take, Option, Some, None, Result, Ok, Err, refl, sym, ap, ◌∙◌, append_assoc, arith, length-append}
use Rattle.std.specs.Option.{unwrap_or}
use Rattle.std.proofs.lemmas.List.{take-append-le}
use Rattle.nm_yang.specs.declared.fault.Fault.{Fault}
use Rattle.nm_yang.specs.declared.fault.YangKind.{YangKind}
use Rattle.nm_yang.specs.Tree.{Tree}
use Rattle.nm_yang.specs.Page.{Page, bad, place_of, at_end, front, column_of, column_from, with_front, ◌>>=◌}
use Rattle.nm_yang.specs.Module.{Run, cons_run, then_run}
use Rattle.nm_yang.proofs.Again.{front-append}
use Rattle.nm_yang_laws.specs.Faults.{halts}
use Rattle.nm_yang_laws.proofs.Tails.{tail-length}
use Rattle.nm_yang_laws.proofs.Goods.{free, Fails, ends, stops, nothing, trails, colon, no_text, stands, Good, itself, second}

-- the pages share their first bytes, each backslash must begin an escape in the one if it must in the other, and the one isn't cut off by
-- a fault at which reading stops
pub record Alike : Type 0 where
  pub one : Page
  pub other : Page
  pub common : List ℕ
  pub more : List ℕ
  pub others : List ℕ
  pub one_is : one.text ≡ common ++ more
  pub other_is : other.text ≡ common ++ others
  pub stricter : other.strict ≡ true → one.strict ≡ true
  pub quiet_stop : (fault : Fault) → one.stop ≡ Some fault → halts other.strict fault.kind ≡ false

-- reading doesn't stop at it
abbrev pub Quiet : Alike → Fault → Type 0
Quiet w fault = halts w.other.strict fault.kind ≡ false

-- what is left is less than two bytes more than what the pages don't share, or reading stops there
abbrev pub Late : {A : Type 0} → Alike → (A → List ℕ) → Result A Fault → Type 0
Late w rest_of (Ok a) = length (rest_of a) < length w.more + 2
Late w rest_of (Err fault) = halts w.other.strict fault.kind ≡ true → length w.common < fault.place + 2

-- the same is read of both pages, or the same fault, or reading came near to where they part
pub data Like {V A : Type 0} (w : Alike) (rest_of : A → List ℕ) (make : V → List ℕ → A) (bytes : List ℕ) (r s : Result A Fault) : Type 0 where
  reads : (v : V) (before after : List ℕ) → bytes ≡ before ++ after → 2 ≤ length after → r ≡ Ok (make v (after ++ w.more)) → s ≡ Ok (make v (after ++ w.others)) → Like w rest_of make bytes r s
  fails : (fault : Fault) → r ≡ Err fault → s ≡ Err fault → Like w rest_of make bytes r s
  late : Late w rest_of r → Like w rest_of make bytes r s

-- what is read alone, and what is read before a rest
abbrev pub alone : Unit {0} → List ℕ → List ℕ
alone _ rest = rest

abbrev pub with_rest : {V : Type 0} → V → List ℕ → V × List ℕ
with_rest v rest = (v, rest)

-- ---- places and columns

pub place-same : (w : Alike) (bytes : List ℕ) → place_of w.one (bytes ++ w.more) ≡ place_of w.other (bytes ++ w.others)
place-same w bytes =
    let a = ap length w.one_is in
    let b = ap length w.other_is in
    omega (arith, a, b, length-append w.common w.more, length-append w.common w.others, length-append bytes w.more, length-append bytes w.others)

place-common : (w : Alike) (bytes : List ℕ) → place_of w.one (bytes ++ w.more) ≡ length w.common - length bytes
place-common w bytes =
    let a = ap length w.one_is in
    omega (arith, a, length-append w.common w.more, length-append bytes w.more)

take-common : (w : Alike) (n : ℕ) → n ≤ length w.common → take n w.one.text ≡ take n w.other.text
take-common w n le = ap (take n) w.one_is ∙ take-append-le n w.common w.more le ∙ sym (take-append-le n w.common w.others le) ∙ ap (take n) (sym w.other_is)

pub column-same : (w : Alike) (bytes : List ℕ) → column_of w.one (bytes ++ w.more) ≡ column_of w.other (bytes ++ w.others)
unfolding column_of
column-same w bytes =
    let p = place-common w bytes in
    let t = take-common w (place_of w.one (bytes ++ w.more)) (omega (arith, p)) in
    ap (column_from 0) (t ∙ ap (λ (n : ℕ). take n w.other.text) (place-same w bytes))

pub front-same : (w : Alike) (bytes before after more : List ℕ) → bytes ≡ before ++ after → front (bytes ++ more) (after ++ more) ≡ before
front-same w bytes before after more e = ap (λ (l : List ℕ). front l (after ++ more)) (ap (λ (l : List ℕ). l ++ more) e ∙ append_assoc before after more) ∙ front-append before (after ++ more)

-- ---- what is late

pub late-bad : {A : Type 0} (w : Alike) (rest_of : A → List ℕ) (bytes : List ℕ) (kind : YangKind) → length bytes < length w.more + 2 → Late w rest_of (Err (bad (place_of w.one bytes) kind))
late-bad w rest_of bytes kind short h = let e = ap length w.one_is in omega (arith, e, short, length-append w.common w.more)

late-fails : (w : Alike) (ending : Fault) (bytes : List ℕ) (fault : Fault) → Quiet w ending → length bytes < length w.more + 2 → Fails (free w.one) ending bytes fault → halts w.other.strict fault.kind ≡ true → length w.common < fault.place + 2
late-fails w ending bytes fault q short (ends e) h = absurd (let x = rw e at h in cc)
late-fails w ending bytes fault q short (stops e) h = absurd (let x = w.quiet_stop fault e in cc)
late-fails w ending bytes fault q short (nothing e o) h = absurd (let x = rw e at h in cc)
late-fails w ending bytes fault q short (trails rest t e n b) h =
    let p : fault.place ≡ place_of w.one rest = ap (λ (f : Fault). f.place) e in
    let l = tail-length rest bytes t in
    let o = ap length w.one_is in
    omega (arith, p, l, o, short, length-append w.common w.more)
late-fails w ending bytes fault q short (colon rest t e n) h =
    let p : fault.place ≡ place_of w.one rest = ap (λ (f : Fault). f.place) e in
    let l = tail-length (58 ∷ rest) bytes t in
    let o = ap length w.one_is in
    omega (arith, p, l, o, short, length-append w.common w.more)
late-fails w ending bytes fault q short (no_text rest t e n) h = absurd (let x = rw e at h in cc)
late-fails w ending bytes fault q short (stands rest t p s) h =
    let e = ap length w.one_is in
    let l = tail-length rest bytes t in
    omega (arith, e, short, l, p, length-append w.common w.more)

-- a reader of so few bytes
pub late-good : {A : Type 0} (w : Alike) (ending : Fault) (rest_of : A → List ℕ) (bytes : List ℕ) (r : Result A Fault) → Quiet w ending → length bytes < length w.more + 2 → Good (free w.one) ending rest_of bytes r → Late w rest_of r
late-good w ending rest_of bytes (Ok a) q short t = let l = tail-length (rest_of a) bytes t in omega (arith, l, short)
late-good w ending rest_of bytes (Err f) q short h = late-fails w ending bytes f q short h

pub late-bind : {A B : Type 0} (w : Alike) (ra : A → List ℕ) (rb : B → List ℕ) (r : Result A Fault) (next : A → Result B Fault) → Late w ra r → ((a : A) → r ≡ Ok a → length (ra a) < length w.more + 2 → Late w rb (next a)) → Late w rb (r >>= next)
late-bind w ra rb (Ok a) next h k = k a refl h
late-bind w ra rb (Err f) next h k = h

-- the fault where the text ends is none at which reading stops
pub quiet-end : (w : Alike) (fault : Fault) → Quiet w fault → Quiet w (at_end w.one fault)
quiet-end w fault q = by-stop w.one.stop refl
  where
    by-stop : (stop : Option Fault) → w.one.stop ≡ stop → Quiet w (unwrap_or stop fault)
    by-stop (Some f) e = w.quiet_stop f e
    by-stop None e = q

-- ---- readers in turn

pub like-up : {V A : Type 0} (w : Alike) (rest_of : A → List ℕ) (make : V → List ℕ → A) (before bytes all : List ℕ) (r s : Result A Fault) → all ≡ before ++ bytes → Like w rest_of make bytes r s → Like w rest_of make all r s
like-up w rest_of make before bytes all r s e (reads v b a d l rr ss) = reads v (before ++ b) a (e ∙ ap (λ (x : List ℕ). before ++ x) d ∙ sym (append_assoc before b a)) l rr ss
like-up w rest_of make before bytes all r s e (fails f rr ss) = fails f rr ss
like-up w rest_of make before bytes all r s e (late h) = late h

pub like-cons : {V A : Type 0} (w : Alike) (rest_of : A → List ℕ) (make : V → List ℕ → A) (b : ℕ) (bytes : List ℕ) (r s : Result A Fault) → Like w rest_of make bytes r s → Like w rest_of make (b ∷ bytes) r s
like-cons w rest_of make b bytes r s h = like-up w rest_of make (b ∷ []) bytes (b ∷ bytes) r s refl h

pub like-ok : {V A : Type 0} (w : Alike) (rest_of : A → List ℕ) (make : V → List ℕ → A) (v : V) (bytes : List ℕ) → (rest_of (make v (bytes ++ w.more)) ≡ bytes ++ w.more) → Like w rest_of make bytes (Ok (make v (bytes ++ w.more))) (Ok (make v (bytes ++ w.others)))
like-ok w rest_of make v [] e = late (let l = ap length e in omega (arith, l))
like-ok w rest_of make v (b ∷ []) e = late (let l = ap length e in omega (arith, l))
like-ok w rest_of make v (b ∷ c ∷ bytes) e = reads v [] (b ∷ c ∷ bytes) refl (omega arith) refl refl

pub like-bad : {V A : Type 0} (w : Alike) (rest_of : A → List ℕ) (make : V → List ℕ → A) (all bytes : List ℕ) (kind : YangKind) → Like w rest_of make all (Err (bad (place_of w.one (bytes ++ w.more)) kind)) (Err (bad (place_of w.other (bytes ++ w.others)) kind))
like-bad w rest_of make all bytes kind = fails (bad (place_of w.one (bytes ++ w.more)) kind) refl (ap (λ (n : ℕ). Err (bad n kind)) (sym (place-same w bytes)))

pub like-bind : {V W A B : Type 0} (w : Alike) (ra : A → List ℕ) (rb : B → List ℕ) (ma : V → List ℕ → A) (mb : W → List ℕ → B) (bytes : List ℕ) (r s : Result A Fault) (next then : A → Result B Fault) → Like w ra ma bytes r s
    → ((v : V) (before after : List ℕ) → bytes ≡ before ++ after → 2 ≤ length after → r ≡ Ok (ma v (after ++ w.more)) → Like w rb mb after (next (ma v (after ++ w.more))) (then (ma v (after ++ w.others))))
    → ((a : A) → r ≡ Ok a → length (ra a) < length w.more + 2 → Late w rb (next a)) → Like w rb mb bytes (r >>= next) (s >>= then)
like-bind w ra rb ma mb bytes r s next then (reads v b a e l rr ss) k z = rw (rr, ss) (like-up w rb mb b a bytes (next (ma v (a ++ w.more))) (then (ma v (a ++ w.others))) e (k v b a e l rr))
like-bind w ra rb ma mb bytes r s next then (fails f rr ss) k z = fails f (rw rr refl) (rw ss refl)
like-bind w ra rb ma mb bytes r s next then (late h) k z = late (late-bind w ra rb r next h z)

pub like-front : (w : Alike) (bytes front : List ℕ) (r s : Result (List ℕ × List ℕ) Fault) → Like w second with_rest bytes r s → Like w second with_rest bytes (with_front front r) (with_front front s)
like-front w bytes front r s (reads v b a e l rr ss) = reads (front ++ v) b a e l (rw rr refl) (rw ss refl)
like-front w bytes front r s (fails f rr ss) = fails f (rw rr refl) (rw ss refl)
like-front w bytes front r s (late h) = late (late-bind w second second r (λ x. Ok (front ++ x.0, x.1)) h (λ a e short. short))

-- ---- runs

pub data LikeRun (w : Alike) (bytes : List ℕ) (r s : Run) : Type 0 where
  run_reads : (found : List Tree) (before after : List ℕ) → bytes ≡ before ++ after → 2 ≤ length after → r ≡ (found, Ok (after ++ w.more)) → s ≡ (found, Ok (after ++ w.others)) → LikeRun w bytes r s
  run_fails : (found : List Tree) (fault : Fault) → r ≡ (found, Err fault) → s ≡ (found, Err fault) → LikeRun w bytes r s
  run_late : Late w itself r.1 → LikeRun w bytes r s

pub run-up : (w : Alike) (before bytes all : List ℕ) (r s : Run) → all ≡ before ++ bytes → LikeRun w bytes r s → LikeRun w all r s
run-up w before bytes all r s e (run_reads found b a d l rr ss) = run_reads found (before ++ b) a (e ∙ ap (λ (x : List ℕ). before ++ x) d ∙ sym (append_assoc before b a)) l rr ss
run-up w before bytes all r s e (run_fails found f rr ss) = run_fails found f rr ss
run-up w before bytes all r s e (run_late h) = run_late h

late-then : (w : Alike) (r : Result (List ℕ) Fault) (next : List ℕ → Run) → Late w itself r → ((rest : List ℕ) → r ≡ Ok rest → length rest < length w.more + 2 → Late w itself (next rest).1) → Late w itself (then_run r next).1
late-then w (Ok a) next h k = k a refl h
late-then w (Err f) next h k = h

pub run-then : (w : Alike) (bytes : List ℕ) (r s : Result (List ℕ) Fault) (next then : List ℕ → Run) → Like w itself alone bytes r s
    → ((before after : List ℕ) → bytes ≡ before ++ after → r ≡ Ok (after ++ w.more) → LikeRun w after (next (after ++ w.more)) (then (after ++ w.others)))
    → ((rest : List ℕ) → r ≡ Ok rest → length rest < length w.more + 2 → Late w itself (next rest).1) → LikeRun w bytes (then_run r next) (then_run s then)
run-then w bytes r s next then (reads v b a e l rr ss) k z = rw (rr, ss) (run-up w b a bytes (next (a ++ w.more)) (then (a ++ w.others)) e (k b a e rr))
run-then w bytes r s next then (fails f rr ss) k z = run_fails [] f (rw rr refl) (rw ss refl)
run-then w bytes r s next then (late h) k z = run_late (late-then w r next h z)

late-cons : (w : Alike) (r : Result (Tree × List ℕ) Fault) (next : List ℕ → Run) → Late w second r → ((x : Tree × List ℕ) → r ≡ Ok x → length x.1 < length w.more + 2 → Late w itself (next x.1).1) → Late w itself (cons_run r next).1
late-cons w (Ok a) next h k = k a refl h
late-cons w (Err f) next h k = h

cons-up : (w : Alike) (t : Tree) (bytes : List ℕ) (r s : Run) → LikeRun w bytes r s → LikeRun w bytes (t ∷ r.0, r.1) (t ∷ s.0, s.1)
cons-up w t bytes r s (run_reads found b a d l rr ss) = run_reads (t ∷ found) b a d l (rw rr refl) (rw ss refl)
cons-up w t bytes r s (run_fails found f rr ss) = run_fails (t ∷ found) f (rw rr refl) (rw ss refl)
cons-up w t bytes r s (run_late h) = run_late h

pub run-cons : (w : Alike) (bytes : List ℕ) (r s : Result (Tree × List ℕ) Fault) (next then : List ℕ → Run) → Like w second with_rest bytes r s
    → ((t : Tree) (before after : List ℕ) → bytes ≡ before ++ after → r ≡ Ok (t, after ++ w.more) → LikeRun w after (next (after ++ w.more)) (then (after ++ w.others)))
    → ((x : Tree × List ℕ) → r ≡ Ok x → length x.1 < length w.more + 2 → Late w itself (next x.1).1) → LikeRun w bytes (cons_run r next) (cons_run s then)
run-cons w bytes r s next then (reads t b a e l rr ss) k z = rw (rr, ss) (run-up w b a bytes _ _ e (cons-up w t a (next (a ++ w.more)) (then (a ++ w.others)) (k t b a e rr)))
run-cons w bytes r s next then (fails f rr ss) k z = run_fails [] f (rw rr refl) (rw ss refl)
run-cons w bytes r s next then (late h) k z = run_late (late-cons w r next h z)
