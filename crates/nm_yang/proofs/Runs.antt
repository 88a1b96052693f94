-- Statements within braces, one after the other as a loop reads them.
use Rattle.std.proofs.Common.{◌≡◌, ℕ, zero, suc, ◌-◌, ◌≤◌, ◌<◌, true, false, List, [], ◌∷◌, ◌++◌, length, drop, Result, Ok, Err, refl, sym, ap, ◌∙◌, append_assoc, arith}
use Rattle.std.proofs.lemmas.List.{append-nil}
use Rattle.nm_yang.specs.declared.fault.Fault.{Fault}
use Rattle.nm_yang.specs.declared.fault.YangFault.{YangFault}
use Rattle.nm_yang.specs.declared.fault.YangFault.TheVariants as errors
use Rattle.nm_yang.specs.declared.fault.YangKind.{YangKind}
use Rattle.nm_yang.specs.declared.fault.YangKind.TheVariants.{TooDeep}
use Rattle.nm_yang.specs.Tree.{Tree}
use Rattle.nm_yang.specs.Page.{Page, bad, place_of, Fails}
use Rattle.nm_yang.specs.Byte.{begins}
use Rattle.nm_yang.specs.Blank.{skip, plain}
use Rattle.nm_yang.specs.Word.{keyword_at, name_at}
use Rattle.nm_yang.specs.Module.{Run, Stops, failed, cons_run, then_run, label_at, statement_at, each_at, inside, open_brace}

-- a run behind statements that were read before
abbrev pub behind : List Tree → Run → Run
behind ts run = (ts ++ run.0, run.1)

abbrev pub reader_at : ℕ → Page → Fault → List ℕ → Result (Tree × List ℕ) Fault
reader_at depth page ending = statement_at (inside (depth - 1) page) page ending

-- what is still read of the statements within braces
abbrev pub left_at : ℕ → Page → Fault → ℕ → List ℕ → Run
left_at depth page ending n rest = each_at (reader_at depth page ending) page ending n rest

inside-suc : (depth : ℕ) (page : Page) (bytes start : List ℕ) → 0 < depth → skip page plain (drop 1 bytes) ≡ Ok start → inside depth page bytes ≡ left_at depth page (open_brace page bytes) (length start) start
unfolding inside
inside-suc zero page bytes start lt h = absurd (omega arith)
inside-suc (suc d) page bytes start lt h =
    let k : suc d - 1 ≡ d = omega arith in
    rw (h, k) refl

pub starts : (depth : ℕ) (page : Page) (ending : Fault) (old : List Tree) (bytes start : List ℕ) → 0 < depth → ending ≡ open_brace page bytes → skip page plain (drop 1 bytes) ≡ Ok start
    → behind old (left_at depth page ending (length start) start) ≡ behind old (inside depth page bytes)
starts depth page ending old bytes start lt is h = rw is (ap (behind old) (sym (inside-suc depth page bytes start lt h)))

stops_at : (e : YangFault) (old new : List Tree) (run : Run) (place : ℕ) (kind : YangKind) → e ≡ errors.Bad place kind → behind new (failed (bad place kind)) ≡ behind old run → Stops e old new run
stops_at e old new run place kind is h = rw is (sym (ap (λ (r : Run). r.1) h), sym (append-nil new) ∙ ap (λ (r : Run). r.0) h)

-- no brace more may be open
pub too_deep : (e : YangFault) (depth : ℕ) (page : Page) (old : List Tree) (bytes : List ℕ) → depth ≡ 0 → e ≡ errors.Bad (place_of page bytes) TooDeep → Stops e old old (inside depth page bytes)
unfolding inside
too_deep e depth page old bytes none_left is = rw (none_left, is) (refl, sym (append-nil old))

-- what is within begins with a fault
pub start_fails : (e : YangFault) (depth : ℕ) (page : Page) (old : List Tree) (bytes : List ℕ) → 0 < depth → Fails e (skip page plain (drop 1 bytes)) → Stops e old old (inside depth page bytes)
unfolding inside
start_fails errors.NoMemory depth page old bytes lt h = tt
start_fails (errors.Bad place kind) zero page old bytes lt h = absurd (omega arith)
start_fails (errors.Bad place kind) (suc d) page old bytes lt h = rw h (refl, sym (append-nil old))

-- nothing is read where nothing stands
nothing : (go : List ℕ → Run) (page : Page) (ending : Fault) → statement_at go page ending [] ≡ Err ending
unfolding statement_at label_at keyword_at name_at
nothing go page ending = refl

-- the loop's statement is the first of what is left
left-suc : (depth : ℕ) (page : Page) (ending : Fault) (n : ℕ) (rest : List ℕ) → begins rest 125 ≡ false → 0 < n
    → left_at depth page ending n rest ≡ cons_run (reader_at depth page ending rest) (λ after. then_run (skip page plain after) (λ r. left_at depth page ending (n - 1) r))
unfolding each_at
left-suc depth page ending zero rest off lt = absurd (omega arith)
left-suc depth page ending (suc n) rest off lt =
    let k : suc n - 1 ≡ n = omega arith in
    rw (off, k) refl

left-fails : (depth : ℕ) (page : Page) (ending : Fault) (n : ℕ) (rest : List ℕ) (fault : Fault) → begins rest 125 ≡ false → length rest ≤ n → reader_at depth page ending rest ≡ Err fault → left_at depth page ending n rest ≡ failed fault
unfolding each_at
left-fails depth page ending zero [] fault off le h =
    let e : ending ≡ fault = (let two : reader_at depth page ending [] ≡ Err ending = nothing (inside (depth - 1) page) page ending in cc) in
    rw e refl
left-fails depth page ending zero (b ∷ rest) fault off le h = absurd (omega arith)
left-fails depth page ending (suc n) rest fault off le h = rw (off, h) refl

pub statement_fails : (e : YangFault) (depth : ℕ) (page now : Page) (ending : Fault) (n : ℕ) (old below : List Tree) (rest : List ℕ) (run : Run) → now ≡ page → begins rest 125 ≡ false → length rest ≤ n → Fails e (statement_at (inside (depth - 1) now) now ending rest)
    → behind below (left_at depth page ending n rest) ≡ behind old run → Stops e old below run
statement_fails errors.NoMemory depth page now ending n old below rest run same off le h so_far = tt
statement_fails (errors.Bad place kind) depth page now ending n old below rest run same off le h so_far =
    let f = rw same at h in
    let l = left-fails depth page ending n rest (bad place kind) off le f in
    stops_at (errors.Bad place kind) old below run place kind refl (ap (behind below) (sym l) ∙ so_far)

pub blanks_fail : (e : YangFault) (depth : ℕ) (page now later : Page) (ending : Fault) (n : ℕ) (old below pushed : List Tree) (rest after : List ℕ) (t : Tree) (run : Run) → now ≡ page → later ≡ page → begins rest 125 ≡ false → 0 < n → statement_at (inside (depth - 1) now) now ending rest ≡ Ok (t, after)
    → pushed ≡ below ++ t ∷ [] → Fails e (skip later plain after) → behind below (left_at depth page ending n rest) ≡ behind old run → Stops e old pushed run
blanks_fail errors.NoMemory depth page now later ending n old below pushed rest after t run same still off lt read push h so_far = tt
blanks_fail (errors.Bad place kind) depth page now later ending n old below pushed rest after t run same still off lt read push h so_far =
    let r : reader_at depth page ending rest ≡ Ok (t, after) = rw same at read in
    let f : skip page plain after ≡ Err (bad place kind) = rw still at h in
    let l : left_at depth page ending n rest ≡ (t ∷ [], Err (bad place kind)) = left-suc depth page ending n rest off lt ∙ rw (r, f) refl in
    let g : behind pushed (failed (bad place kind)) ≡ behind old run = rw push (ap (λ (ts : List Tree). (ts, Err (bad place kind))) (append-nil (below ++ t ∷ [])) ∙ ap (behind below) (sym l) ∙ so_far) in
    stops_at (errors.Bad place kind) old pushed run place kind refl g

pub goes_on : (depth : ℕ) (page now later : Page) (ending : Fault) (n : ℕ) (old below pushed : List Tree) (rest after next : List ℕ) (t : Tree) (run : Run) → now ≡ page → later ≡ page → begins rest 125 ≡ false → 0 < n → statement_at (inside (depth - 1) now) now ending rest ≡ Ok (t, after)
    → pushed ≡ below ++ t ∷ [] → skip later plain after ≡ Ok next → behind below (left_at depth page ending n rest) ≡ behind old run → behind pushed (left_at depth page ending (n - 1) next) ≡ behind old run
goes_on depth page now later ending n old below pushed rest after next t run same still off lt read push h so_far =
    let r : reader_at depth page ending rest ≡ Ok (t, after) = rw same at read in
    let f : skip page plain after ≡ Ok next = rw still at h in
    let later_run : Run = left_at depth page ending (n - 1) next in
    let l : left_at depth page ending n rest ≡ (t ∷ later_run.0, later_run.1) = left-suc depth page ending n rest off lt ∙ rw (r, f) refl in
    rw push (ap (λ (ts : List Tree). (ts, later_run.1)) (append_assoc below (t ∷ []) later_run.0) ∙ ap (behind below) (sym l) ∙ so_far)

pub closes : (depth : ℕ) (page : Page) (ending : Fault) (n : ℕ) (old below : List Tree) (rest : List ℕ) (run : Run) → begins rest 125 ≡ true → length rest ≤ n → behind below (left_at depth page ending n rest) ≡ behind old run
    → (run.1 ≡ Ok (drop 1 rest)) × (below ≡ old ++ run.0)
unfolding each_at
closes depth page ending n old below [] run on le so_far = absurd cc
closes depth page ending zero old below (b ∷ rest) run on le so_far = absurd (omega arith)
closes depth page ending (suc n) old below (b ∷ rest) run on le so_far =
    let l : left_at depth page ending (suc n) (b ∷ rest) ≡ ([], Ok (drop 1 (b ∷ rest))) = rw on refl in
    let h = ap (behind below) (sym l) ∙ so_far in
    (sym (ap (λ (r : Run). r.1) h), sym (append-nil below) ∙ ap (λ (r : Run). r.0) h)
