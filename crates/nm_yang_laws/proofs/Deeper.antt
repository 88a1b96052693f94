-- Where more braces may be open the same is read, but where too many were. So no statements and a `}` stand behind a brace that is never closed.
use Rattle.std.proofs.Common.{◌≡◌, ℕ, zero, suc, ◌≤◌, Bool, true, false, eqb, ltb, List, [], ◌∷◌, length, drop, Option, None, Result, Ok, Err, refl, sym, ap, ◌∙◌, arith}
use Rattle.std.proofs.lemmas.Bool.{ltb-true, ltb-false}
use Rattle.nm_yang.specs.declared.fault.Fault.{Fault}
use Rattle.nm_yang.specs.declared.fault.YangKind.TheVariants.{UnclosedBrace, TooDeep}
use Rattle.nm_yang.specs.Tree.{Tree, Trees, statement, trees_of}
use Rattle.nm_yang.specs.Page.{Page, bad, place_of, ◌>>=◌}
use Rattle.nm_yang.specs.Byte.{begins}
use Rattle.nm_yang.specs.Blank.{skip, plain}
use Rattle.nm_yang.specs.Grammar.{Blanks, Each}
use Rattle.nm_yang.specs.Module.{Run, cons_run, then_run, label_at, after_keyword, end_at, statement_at, each_at, inside, open_brace}
use Rattle.nm_yang.proofs.Blanked.{blanks-again}
use Rattle.nm_yang.proofs.Spelt.{each-read, each-firm, inside-read}
use Rattle.nm_yang.proofs.Arguments.{begins-is}
use Rattle.nm_yang_laws.proofs.Goods.{by-cond-two}

-- the same is read, or too many braces are open
data Deeper (r s : Run) : Type 0 where
  same : r ≡ s → Deeper r s
  deep : (fault : Fault) → r.1 ≡ Err fault → fault.kind ≡ TooDeep → Deeper r s

data DeeperOne (r s : Result (Tree × List ℕ) Fault) : Type 0 where
  same_one : r ≡ s → DeeperOne r s
  deep_one : (fault : Fault) → r ≡ Err fault → fault.kind ≡ TooDeep → DeeperOne r s

-- what braces hold
abbrev Holds : (List ℕ → Run) → (List ℕ → Run) → Type 0
Holds go then = (bytes : List ℕ) → Deeper (go bytes) (then bytes)

deeper-end : (go then : List ℕ → Run) (page : Page) (ending : Fault) (bytes : List ℕ) → Holds go then → Deeper (end_at go page ending bytes) (end_at then page ending bytes)
unfolding end_at
deeper-end go then page ending [] law = same refl
deeper-end go then page ending (b ∷ rest) law = by-cond-two Deeper (eqb b 59) _ _ _ _ (λ h. same refl) (λ h. by-cond-two Deeper (eqb b 123) _ _ _ _ (λ o. law (b ∷ rest)) (λ o. same refl))

-- a statement of a run
abbrev ended : List ℕ → Option (List ℕ) → ℕ → Run → Result (Tree × List ℕ) Fault
ended keyword argument place r = r.1 >>= λ rest. Ok (statement keyword argument place (trees_of r.0), rest)

deeper-ended : (keyword : List ℕ) (argument : Option (List ℕ)) (place : ℕ) (r s : Run) → Deeper r s → DeeperOne (ended keyword argument place r) (ended keyword argument place s)
deeper-ended keyword argument place r s (same e) = same_one (ap (ended keyword argument place) e)
deeper-ended keyword argument place r s (deep f e k) = deep_one f (rw e refl) k

deeper-bind : {A : Type 0} (r : Result A Fault) (next then : A → Result (Tree × List ℕ) Fault) → ((a : A) → DeeperOne (next a) (then a)) → DeeperOne (r >>= next) (r >>= then)
deeper-bind (Ok a) next then h = h a
deeper-bind (Err f) next then h = same_one refl

deeper-statement : (go then : List ℕ → Run) (page : Page) (ending : Fault) (bytes : List ℕ) → Holds go then → DeeperOne (statement_at go page ending bytes) (statement_at then page ending bytes)
unfolding statement_at
deeper-statement go then page ending bytes law =
    deeper-bind (label_at page ending bytes) _ _ (λ k. deeper-bind (after_keyword page ending k.1) _ _ (λ a. deeper-ended k.0 a.0 (place_of page bytes) (end_at go page ending a.1) (end_at then page ending a.1) (deeper-end go then page ending a.1 law)))

deeper-then : (r : Result (List ℕ) Fault) (next then : List ℕ → Run) → ((rest : List ℕ) → Deeper (next rest) (then rest)) → Deeper (then_run r next) (then_run r then)
deeper-then (Ok a) next then h = h a
deeper-then (Err f) next then h = same refl

after-one : (t : Tree) (r s : Run) → Deeper r s → Deeper (t ∷ r.0, r.1) (t ∷ s.0, s.1)
after-one t r s (same e) = same (ap (λ (x : Run). (t ∷ x.0, x.1)) e)
after-one t r s (deep f e k) = deep f e k

deeper-next : (r : Result (Tree × List ℕ) Fault) (next then : List ℕ → Run) → ((rest : List ℕ) → Deeper (next rest) (then rest)) → Deeper (cons_run r next) (cons_run r then)
deeper-next (Ok x) next then h = after-one x.0 (next x.1) (then x.1) (h x.1)
deeper-next (Err f) next then h = same refl

deeper-cons : (r s : Result (Tree × List ℕ) Fault) (next then : List ℕ → Run) → DeeperOne r s → ((rest : List ℕ) → Deeper (next rest) (then rest)) → Deeper (cons_run r next) (cons_run s then)
deeper-cons r s next then (same_one e) h = rw (← e) (deeper-next r next then h)
deeper-cons r s next then (deep_one f e k) h = deep f (rw e refl) k

deeper-each : (go then : List ℕ → Run) (page : Page) (ending : Fault) (n : ℕ) (bytes : List ℕ) → Holds go then → Deeper (each_at (statement_at go page ending) page ending n bytes) (each_at (statement_at then page ending) page ending n bytes)
unfolding each_at
deeper-each go then page ending zero bytes law = same refl
deeper-each go then page ending (suc n) bytes law =
    by-cond-two Deeper (begins bytes 125) _ _ _ _ (λ h. same refl)
    (λ h. deeper-cons (statement_at go page ending bytes) (statement_at then page ending bytes) _ _ (deeper-statement go then page ending bytes law) (λ after. deeper-then (skip page plain after) _ _ (λ rest. deeper-each go then page ending n rest law)))

deeper-inside : (page : Page) (depth more : ℕ) → depth ≤ more → Holds (inside depth page) (inside more page)
unfolding inside
deeper-inside page zero more le bytes = deep (bad (place_of page bytes) TooDeep) refl refl
deeper-inside page (suc depth) zero le bytes = absurd (omega arith)
deeper-inside page (suc depth) (suc more) le bytes =
    deeper-then (skip page plain (drop 1 bytes)) _ _ (λ start. deeper-each (inside depth page) (inside more page) page (open_brace page bytes) (length start) start (deeper-inside page depth more (omega arith)))

-- ---- a brace that is never closed

-- the statements within braces are read
each-inside : (page : Page) (bytes first after : List ℕ) (depth : ℕ) (below : Trees) → begins bytes 123 ≡ true → Blanks first (drop 1 bytes) → Each page depth first after below → (found : List Tree) × (inside (suc depth) page bytes ≡ (found, Ok after))
each-inside page bytes first after depth below o b e =
    let within : List ℕ = drop 1 bytes in
    let is : bytes ≡ 123 ∷ within = begins-is bytes 123 o in
    let r = each-read page depth first after below e (open_brace page (123 ∷ within)) (length first) (omega arith) in
    let s = blanks-again page first within b (each-firm page depth first after below e) in
    (r.found, ap (inside (suc depth) page) is ∙ inside-read depth page within first after r.found s r.is)

ok-err : (r s : Run) (found : List Tree) (after : List ℕ) (fault : Fault) → r ≡ (found, Ok after) → s.1 ≡ Err fault → r ≡ s → ⊥
ok-err r s found after fault e f h = let x : r.1 ≡ Ok after = ap (λ (x : Run). x.1) e in let y : r.1 ≡ Err fault = ap (λ (x : Run). x.1) h ∙ f in cc

less-open : (r s : Run) (found : List Tree) (after : List ℕ) (fault : Fault) → r ≡ (found, Ok after) → s.1 ≡ Err fault → Deeper r s → ⊥
less-open r s found after fault e f (same h) = ok-err r s found after fault e f h
less-open r s found after fault e f (deep g h k) = let x : r.1 ≡ Ok after = ap (λ (x : Run). x.1) e in cc

more-open : (r s : Run) (found : List Tree) (after : List ℕ) (place : ℕ) → r ≡ (found, Ok after) → s.1 ≡ Err (bad place UnclosedBrace) → Deeper s r → ⊥
more-open r s found after place e f (same h) = ok-err r s found after (bad place UnclosedBrace) e f (sym h)
more-open r s found after place e f (deep g h k) =
    let x : bad place UnclosedBrace ≡ g = (let y : Err (bad place UnclosedBrace) ≡ Err g = sym f ∙ h in cc) in
    let z = ap (λ (w : Fault). w.kind) x ∙ k in
    cc

unmatched-by : (page : Page) (bytes : List ℕ) (depth other place : ℕ) (found : List Tree) (after : List ℕ) (less : Bool) → ltb other depth ≡ less → inside (suc other) page bytes ≡ (found, Ok after) → (inside (suc depth) page bytes).1 ≡ Err (bad place UnclosedBrace) → ⊥
unmatched-by page bytes depth other place found after true is e f =
    less-open (inside (suc other) page bytes) (inside (suc depth) page bytes) found after (bad place UnclosedBrace) e f (deeper-inside page (suc other) (suc depth) (let l = ltb-true other depth is in omega (arith, l)) bytes)
unmatched-by page bytes depth other place found after false is e f =
    more-open (inside (suc other) page bytes) (inside (suc depth) page bytes) found after place e f (deeper-inside page (suc depth) (suc other) (let l = ltb-false other depth is in omega (arith, l)) bytes)

pub unmatched : (page : Page) (bytes : List ℕ) (depth : ℕ) → page.stop ≡ None → begins bytes 123 ≡ true → (inside (suc depth) page bytes).1 ≡ Err (open_brace page bytes)
    → (other : ℕ) (first after : List ℕ) (below : Trees) → Blanks first (drop 1 bytes) → Each page other first after below → ⊥
unmatched page bytes depth stop o f other first after below b e =
    let r = each-inside page bytes first after other below o b e in
    let fault : open_brace page bytes ≡ bad (place_of page bytes) UnclosedBrace = rw stop refl in
    unmatched-by page bytes depth other (place_of page bytes) r.0 after (ltb other depth) refl r.1 (f ∙ ap (λ (x : Fault). Err x) fault)
