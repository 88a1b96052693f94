-- Statements and modules: what is left behind them, or what is wrong with them.
use Rattle.std.proofs.Common.{◌≡◌, ℕ, zero, suc, true, false, cond, eqb, List, [], ◌∷◌, length, drop, codes, Option, Some, None, Result, Ok, Err, refl, subst}
use Rattle.std.specs.Str.{bytes_eq}
use Rattle.nm_yang.specs.declared.fault.Fault.{Fault}
use Rattle.nm_yang.specs.declared.fault.YangKind.TheVariants.{UnclosedBrace, NotModule}
use Rattle.nm_yang.specs.Tree.{Tree, statement, trees_of}
use Rattle.nm_yang.specs.Page.{Page, bad, place_of, ◌>>=◌}
use Rattle.nm_yang.specs.Byte.{begins}
use Rattle.nm_yang.specs.Blank.{skip, plain}
use Rattle.nm_yang.specs.Module.{Run, Heading, then_run, label_at, after_keyword, end_at, statement_at, each_at, inside, open_brace, not_module, heading_at, done_at, finish_at, closed_at, begin_at, body_at, module_at, with_heading, most_deep}
use Rattle.nm_yang.proofs.Blanked.{Firm, blanks-firm, blanks-takes}
use Rattle.std.proofs.lemmas.Slice.Eq.{bytes_eq-Decides}
use Rattle.nm_yang.specs.Grammar.{Blanks, IsKeywordAt, Spells}
use Rattle.nm_yang.proofs.Worded.{bind_ok, ok_same, guard_true}
use Rattle.nm_yang.proofs.Spelt.{label-takes, after-takes, end-takes, inside-takes, spells-by}
use Rattle.nm_yang_laws.proofs.Tails.{tail-self, tail-cons, tail-one, tail-nil, tail-trans}
use Rattle.nm_yang_laws.proofs.Goods.{trails, Known, ends, stops, nothing, stands, Good, GoodRun, itself, second, by-cond, good-bind, good-up, good-ended, good-then, good-cons, fails-at_end}
use Rattle.nm_yang_laws.proofs.Blanked.{good-skip}
use Rattle.nm_yang_laws.proofs.Worded.{fails-here, firm-token, good-label}
use Rattle.nm_yang_laws.proofs.Deeper.{unmatched}
use Rattle.nm_yang_laws.proofs.Quoted.{Behind, FirmOk, good-after, firm-after_keyword, firm-bind, firm-of}

-- what braces hold that open first
abbrev pub InsideGood : Known → (List ℕ → Run) → Type 0
InsideGood m go = (ending : Fault) (bytes : List ℕ) → m.At bytes → begins bytes 123 ≡ true → GoodRun m ending bytes (go bytes)

pub good-end_at : (m : Known) (go : List ℕ → Run) (ending : Fault) (bytes : List ℕ) → InsideGood m go → m.At bytes → Firm bytes → GoodRun m ending bytes (end_at go m.page ending bytes)
unfolding end_at
good-end_at m go ending [] law at f = ends refl
good-end_at m go ending (b ∷ rest) law at f =
    let all : List ℕ = b ∷ rest in
    let P : Run → Type 0 = λ r. GoodRun m ending all r in
    by-cond P (eqb b 59) _ _ (λ h. tail-cons b rest rest (tail-self rest)) (λ h.
    by-cond P (eqb b 123) _ _ (λ c. law ending all at c) (λ c. fails-here m ending all f (firm-token b rest f)))

-- a statement, made of its parts and what ends it
abbrev pub stated : (List ℕ → Run) → Page → Fault → ℕ → List ℕ → Option (List ℕ) × List ℕ → Result (Tree × List ℕ) Fault
stated go page ending place keyword a = (end_at go page ending a.1).1 >>= λ rest. Ok (statement keyword a.0 place (trees_of (end_at go page ending a.1).0), rest)

-- the same, where the argument is still to come
abbrev pub argued : (List ℕ → Run) → Page → Fault → ℕ → List ℕ × List ℕ → Result (Tree × List ℕ) Fault
argued go page ending place k = after_keyword page ending k.1 >>= stated go page ending place k.0

pub good-stated : (m : Known) (go : List ℕ → Run) (ending : Fault) (place : ℕ) (keyword : List ℕ) (a : Option (List ℕ) × List ℕ) → InsideGood m go → m.At a.1 → Firm a.1 → Good m ending second a.1 (stated go m.page ending place keyword a)
good-stated m go ending place keyword a law at f =
    good-bind m ending itself second a.1 (end_at go m.page ending a.1).1 (λ rest. Ok (statement keyword a.0 place (trees_of (end_at go m.page ending a.1).0), rest)) (good-end_at m go ending a.1 law at f) (λ rest e t. tail-self rest)

pub good-argued : (m : Known) (go : List ℕ → Run) (ending : Fault) (place : ℕ) (k : List ℕ × List ℕ) → InsideGood m go → m.At k.1 → Behind m k.1 → Good m ending second k.1 (argued go m.page ending place k)
good-argued m go ending place k law at n =
    good-bind m ending second second k.1 (after_keyword m.page ending k.1) (stated go m.page ending place k.0) (good-after m ending k.1 n) (λ a e t. good-stated m go ending place k.0 a law (m.behind a.1 k.1 t at) (firm-of second (after_keyword m.page ending k.1) a e (firm-after_keyword m.page ending k.1)))

-- statements that begin with no blank
abbrev pub ReadGood : Known → Fault → (List ℕ → Result (Tree × List ℕ) Fault) → Type 0
ReadGood m ending read = (bytes : List ℕ) → m.At bytes → Firm bytes → Good m ending second bytes (read bytes)

-- what follows a keyword that was read
behind-label : (m : Known) (ending : Fault) (bytes : List ℕ) (k : List ℕ × List ℕ) → m.At bytes → label_at m.page ending bytes ≡ Ok k → Behind m k.1
behind-label m ending bytes k at e rest b n =
    let pair : label_at m.page ending bytes ≡ Ok (k.0, k.1) = e in
    m.argument bytes k.0 k.1 rest at (label-takes m.page ending bytes k.0 k.1 pair) b n

pub good-statement : (m : Known) (go : List ℕ → Run) (ending : Fault) → InsideGood m go → ReadGood m ending (statement_at go m.page ending)
unfolding statement_at
good-statement m go ending law bytes at f = good-bind m ending second second bytes (label_at m.page ending bytes) (argued go m.page ending (place_of m.page bytes)) (good-label m ending bytes f) (λ k e t. good-argued m go ending (place_of m.page bytes) k law (m.behind k.1 bytes t at) (behind-label m ending bytes k at e))

-- the statements that follow one
abbrev pub each_next : (List ℕ → Result (Tree × List ℕ) Fault) → Page → Fault → ℕ → List ℕ → Run
each_next read page ending n after = then_run (skip page plain after) (λ rest. each_at read page ending n rest)

pub good-each : (m : Known) (read : List ℕ → Result (Tree × List ℕ) Fault) (ending : Fault) (n : ℕ) (bytes : List ℕ) → ReadGood m ending read → m.At bytes → Firm bytes → GoodRun m ending bytes (each_at read m.page ending n bytes)
unfolding each_at
good-each m read ending zero bytes law at f = ends refl
good-each m read ending (suc n) bytes law at f =
    by-cond (λ (r : Run). GoodRun m ending bytes r) (begins bytes 125) _ _ (λ h. tail-one bytes) (λ h.
    good-cons m ending bytes (read bytes) (each_next read m.page ending n) (law bytes at f) (λ x e t.
    good-then m ending x.1 (skip m.page plain x.1) (λ rest. each_at read m.page ending n rest) (good-skip m ending x.1) (λ rest d u. good-each m read ending n rest law (m.behind rest x.1 u (m.behind x.1 bytes t at)) (blanks-firm m.page x.1 rest d))))

pub good-next : (m : Known) (read : List ℕ → Result (Tree × List ℕ) Fault) (ending : Fault) (n : ℕ) (after : List ℕ) → ReadGood m ending read → m.At after → GoodRun m ending after (each_next read m.page ending n after)
good-next m read ending n after law at =
    good-then m ending after (skip m.page plain after) (λ rest. each_at read m.page ending n rest) (good-skip m ending after) (λ rest e t. good-each m read ending n rest law (m.behind rest after t at) (blanks-firm m.page after rest e))

-- what stands within braces that open here
abbrev pub held : ℕ → Page → Fault → List ℕ → Run
held depth page fault start = each_at (statement_at (inside depth page) page fault) page fault (length start) start

pub good-held : (depth : ℕ) (m : Known) (fault : Fault) (start : List ℕ) → InsideGood m (inside depth m.page) → m.At start → Firm start → GoodRun m fault start (held depth m.page fault start)
good-held depth m fault start law at f = good-each m (statement_at (inside depth m.page) m.page fault) fault (length start) start (good-statement m (inside depth m.page) fault law) at f

pub good-inside : (depth : ℕ) (m : Known) → InsideGood m (inside depth m.page)
unfolding inside
good-inside zero m ending bytes at o = stands bytes (tail-self bytes) refl o
good-inside (suc depth) m ending bytes at o =
    let fault : Fault = open_brace m.page bytes in
    let deeper = good-inside depth m in
    good-ended m fault ending itself bytes (inside (suc depth) m.page bytes).1
    (λ e. fails-at_end m ending bytes (bad (place_of m.page bytes) UnclosedBrace) (λ stop. stands bytes (tail-self bytes) refl (stop, o, unmatched m.page bytes depth stop o e)))
    (good-up m fault itself (drop 1 bytes) bytes (then_run (skip m.page plain (drop 1 bytes)) (held depth m.page fault)).1 (tail-one bytes)
    (good-then m fault (drop 1 bytes) (skip m.page plain (drop 1 bytes)) (held depth m.page fault) (good-skip m fault (drop 1 bytes)) (λ start e t. good-held depth m fault start deeper (m.behind start bytes (tail-trans start (drop 1 bytes) bytes t (tail-one bytes)) at) (blanks-firm m.page (drop 1 bytes) start e))))

-- ---- modules

abbrev pub rest_of : Heading → List ℕ
rest_of h = h.rest

-- the heading, where the argument is still to come
abbrev pub headed : Page → ℕ → List ℕ × List ℕ → Result Heading Fault
headed page place k = cond (bytes_eq k.0 (codes "module")) (after_keyword page (not_module page) k.1 >>= λ a. Ok (record { keyword = k.0; argument = a.0; place = place; rest = a.1 })) (Err (bad 0 NotModule))

pub good-headed : (m : Known) (place : ℕ) (k : List ℕ × List ℕ) → Behind m k.1 → (bytes_eq k.0 (codes "module") ≡ false → m.Other) → Good m (not_module m.page) rest_of k.1 (headed m.page place k)
good-headed m place k n o =
    by-cond (λ (r : Result Heading Fault). Good m (not_module m.page) rest_of k.1 r) (bytes_eq k.0 (codes "module")) _ _
    (λ h. good-bind m (not_module m.page) second rest_of k.1 (after_keyword m.page (not_module m.page) k.1) (λ a. Ok (record { keyword = k.0; argument = a.0; place = place; rest = a.1 })) (good-after m (not_module m.page) k.1 n) (λ a e t. tail-self a.1))
    (λ h. nothing refl (o h))

-- what is known of a text that begins with another keyword than a module's
abbrev pub Instead : Known → List ℕ → Type 0
Instead m start = (keyword after : List ℕ) → IsKeywordAt start keyword after → (keyword ≡ codes "module" → ⊥) → m.Other

no-module : (keyword : List ℕ) → bytes_eq keyword (codes "module") ≡ false → keyword ≡ codes "module" → ⊥
no-module keyword off e = let t = (bytes_eq-Decides keyword (codes "module")).1 e in cc

instead : (m : Known) (start : List ℕ) (k : List ℕ × List ℕ) → Instead m start → label_at m.page (not_module m.page) start ≡ Ok k → bytes_eq k.0 (codes "module") ≡ false → m.Other
instead m start k o e off =
    let pair : label_at m.page (not_module m.page) start ≡ Ok (k.0, k.1) = e in
    o k.0 k.1 (label-takes m.page (not_module m.page) start k.0 k.1 pair) (no-module k.0 off)

pub good-heading : (m : Known) (start : List ℕ) → m.At start → Instead m start → Firm start → Good m (not_module m.page) rest_of start (heading_at m.page start)
unfolding heading_at
good-heading m start at o f = good-bind m (not_module m.page) second rest_of start (label_at m.page (not_module m.page) start) (headed m.page (place_of m.page start)) (good-label m (not_module m.page) start f) (λ k e t. good-headed m (place_of m.page start) k (behind-label m (not_module m.page) start k at e) (λ off. instead m start k o e off))

pub good-begin : (m : Known) → m.At m.page.text → Good m (not_module m.page) rest_of m.page.text (begin_at m.page)
unfolding begin_at
good-begin m at = good-bind m (not_module m.page) itself rest_of m.page.text (skip m.page plain m.page.text) (heading_at m.page) (good-skip m (not_module m.page) m.page.text) (λ start e t. good-heading m start (m.behind start m.page.text t at) (λ k a i n. m.other start k a (blanks-takes m.page m.page.text start e) i n) (blanks-firm m.page m.page.text start e))

pub good-done : (m : Known) (ending : Fault) (stop : Option Fault) (bytes : List ℕ) → m.page.stop ≡ stop → Firm bytes → m.Trail bytes → Good m ending itself bytes (done_at m.page stop bytes)
unfolding done_at
good-done m ending None [] e f h = tail-self []
good-done m ending (Some stop) [] e f h = stops e
good-done m ending None (b ∷ rest) e f h = trails (b ∷ rest) (tail-self (b ∷ rest)) refl (firm-token b rest f) h
good-done m ending (Some stop) (b ∷ rest) e f h = trails (b ∷ rest) (tail-self (b ∷ rest)) refl (firm-token b rest f) h

-- what is known of what stands behind a module and blanks
abbrev pub BehindModule : Known → List ℕ → Type 0
BehindModule m bytes = (rest : List ℕ) → Blanks rest bytes → m.Trail rest

pub good-finish : (m : Known) (ending : Fault) (bytes : List ℕ) → BehindModule m bytes → Good m ending itself bytes (finish_at m.page bytes)
unfolding finish_at
good-finish m ending bytes h = good-bind m ending itself itself bytes (skip m.page plain bytes) (done_at m.page m.page.stop) (good-skip m ending bytes) (λ rest e t. good-done m ending m.page.stop rest refl (blanks-firm m.page bytes rest e) (h rest (blanks-takes m.page bytes rest e)))

-- no bytes are left of a whole module
abbrev pub no_rest : Tree → List ℕ
no_rest t = []

-- the module whose body was read
abbrev pub finished : Page → Heading → List Tree → List ℕ → Result Tree Fault
finished page h below rest = finish_at page rest >>= λ end. Ok (statement h.keyword h.argument h.place (trees_of below))

pub good-finished : (m : Known) (ending : Fault) (h : Heading) (below : List Tree) (rest : List ℕ) → BehindModule m rest → Good m ending no_rest rest (finished m.page h below rest)
good-finished m ending h below rest b = good-bind m ending itself no_rest rest (finish_at m.page rest) (λ end. Ok (statement h.keyword h.argument h.place (trees_of below))) (good-finish m ending rest b) (λ end e t. tail-nil end)

pub good-closed : (m : Known) (ending : Fault) (h : Heading) (bytes : List ℕ) (body : Run) → GoodRun m ending bytes body → ((rest : List ℕ) → body.1 ≡ Ok rest → BehindModule m rest) → Good m ending no_rest bytes (closed_at m.page h body)
unfolding closed_at
good-closed m ending h bytes body g b = good-bind m ending itself no_rest bytes body.1 (finished m.page h body.0) g (λ rest e t. good-finished m ending h body.0 rest (b rest e))

firm-heading : (page : Page) (start : List ℕ) → FirmOk rest_of (heading_at page start)
unfolding heading_at
firm-heading page start =
    firm-bind rest_of (label_at page (not_module page) start) (headed page (place_of page start)) (λ k e.
    by-cond (λ (r : Result Heading Fault). FirmOk rest_of r) (bytes_eq k.0 (codes "module")) _ _
    (λ h. firm-bind rest_of (after_keyword page (not_module page) k.1) (λ a. Ok (record { keyword = k.0; argument = a.0; place = place_of page start; rest = a.1 })) (λ a d. firm-of second (after_keyword page (not_module page) k.1) a d (firm-after_keyword page (not_module page) k.1)))
    (λ h. tt))

pub firm-begin : (page : Page) → FirmOk rest_of (begin_at page)
unfolding begin_at
firm-begin page = firm-bind rest_of (skip page plain page.text) (heading_at page) (λ start e. firm-heading page start)

pub good-body : (m : Known) (h : Heading) → m.At h.rest → Firm h.rest → GoodRun m (not_module m.page) h.rest (body_at m.page h)
unfolding body_at
good-body m h at f = good-end_at m (inside most_deep m.page) (not_module m.page) h.rest (good-inside most_deep m) at f

-- a heading, and where it stands
record HeadingAt (page : Page) (start : List ℕ) (h : Heading) : Type 0 where
  pub after : List ℕ
  pub keyword_is : IsKeywordAt start h.keyword after
  pub named : h.keyword ≡ codes "module"
  pub argued : after_keyword page (not_module page) after ≡ Ok (h.argument, h.rest)

heading-moved : (page : Page) (start : List ℕ) (g h : Heading) → g ≡ h → HeadingAt page start g → HeadingAt page start h
heading-moved page start g h e k = subst (λ (x : Heading). HeadingAt page start x) e k

heading-takes : (page : Page) (start : List ℕ) (h : Heading) → heading_at page start ≡ Ok h → HeadingAt page start h
unfolding heading_at
heading-takes page start h e =
    let made : List ℕ → Option (List ℕ) × List ℕ → Result Heading Fault = λ k a. Ok (record { keyword = k; argument = a.0; place = place_of page start; rest = a.1 }) in
    let a = bind_ok (label_at page (not_module page) start) (headed page (place_of page start)) h e in
    let b = guard_true (bytes_eq a.0.0 (codes "module")) _ (after_keyword page (not_module page) a.0.1 >>= λ x. made a.0.0 x) h a.2 in
    let c = bind_ok (after_keyword page (not_module page) a.0.1) (λ x. made a.0.0 x) h b.1 in
    let made_of : Heading = record { keyword = a.0.0; argument = c.0.0; place = place_of page start; rest = c.0.1 } in
    let last : made_of ≡ h = ok_same made_of h c.2 in
    let pair : label_at page (not_module page) start ≡ Ok (a.0.0, a.0.1) = a.1 in
    let read : after_keyword page (not_module page) a.0.1 ≡ Ok (c.0.0, c.0.1) = c.1 in
    heading-moved page start made_of h last (record { after = a.0.1; keyword_is = label-takes page (not_module page) start a.0.0 a.0.1 pair; named = (bytes_eq-Decides a.0.0 (codes "module")).0 b.0; argued = read })

-- what was read up to there is a module
module-spells : (page : Page) (start : List ℕ) (h : Heading) (rest : List ℕ) → HeadingAt page start h → (body_at page h).1 ≡ Ok rest → Spells page most_deep start rest (statement h.keyword h.argument (place_of page start) (trees_of (body_at page h).0))
unfolding body_at
module-spells page start h rest k e =
    spells-by most_deep page start h.keyword k.after rest h.argument h.rest (body_at page h).0 k.keyword_is (after-takes page (not_module page) k.after h.argument h.rest k.argued) (end-takes most_deep page (not_module page) h.rest rest (inside-takes most_deep page) e)

behind-module : (m : Known) (h : Heading) → begin_at m.page ≡ Ok h → (rest : List ℕ) → (body_at m.page h).1 ≡ Ok rest → BehindModule m rest
unfolding begin_at
behind-module m h e rest body r b =
    let s = bind_ok (skip m.page plain m.page.text) (λ start. heading_at m.page start) h e in
    let k = heading-takes m.page s.0 h s.2 in
    m.trail s.0 rest r (statement h.keyword h.argument (place_of m.page s.0) (trees_of (body_at m.page h).0)) (blanks-takes m.page m.page.text s.0 s.1) (module-spells m.page s.0 h rest k body) k.named b

module-by : (m : Known) (r : Result Heading Fault) → begin_at m.page ≡ r → m.At m.page.text → Good m (not_module m.page) rest_of m.page.text r → FirmOk rest_of r → Good m (not_module m.page) no_rest m.page.text (with_heading r (λ h. ((body_at m.page h).0, closed_at m.page h (body_at m.page h)))).1
module-by m (Ok h) e at t f = good-up m (not_module m.page) no_rest h.rest m.page.text (closed_at m.page h (body_at m.page h)) t (good-closed m (not_module m.page) h h.rest (body_at m.page h) (good-body m h (m.behind h.rest m.page.text t at) f) (behind-module m h e))
module-by m (Err fault) e at h f = h

pub good-module : (m : Known) → m.At m.page.text → Good m (not_module m.page) no_rest m.page.text (module_at m.page).1
unfolding module_at
good-module m at = module-by m (begin_at m.page) refl at (good-begin m at) (firm-begin m.page)
