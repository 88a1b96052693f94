-- What a reader answers: what is left of the bytes that it reads, or a fault that stands in them.
use Rattle.std.proofs.Common.{◌≡◌, ℕ, Bool, true, false, cond, List, ◌++◌, Option, Some, None, Result, Ok, Err, refl, ap, ◌∷◌, codes}
use Rattle.std.specs.Prelude.{IsUtf8}
use Rattle.std.specs.Option.{unwrap_or}
use Rattle.nm_yang.specs.declared.fault.Fault.{Fault}
use Rattle.nm_yang.specs.declared.fault.YangKind.TheVariants.{BadKeyword, NotModule, Trailing, NotUtf8}
use Rattle.nm_yang.specs.Tree.{Tree}
use Rattle.nm_yang.specs.Page.{Page, bad, place_of, at_end, with_front, ◌>>=◌}
use Rattle.nm_yang.specs.Byte.{begins_quote}
use Rattle.nm_yang.specs.Argument.{quoted_at}
use Rattle.nm_yang.specs.Grammar.{Blanks, IsKeywordAt, IsWord, Spells, keyword_of}
use Rattle.nm_yang.specs.Module.{most_deep, Run, cons_run, then_run}
use Rattle.nm_yang_laws.specs.Faults.{Shows, begins_no_identifier, begins_token}
use Rattle.nm_yang_laws.proofs.Tails.{IsTail, tail-trans}

-- a word stands first that isn't UTF-8, or strings are joined to such bytes
pub data NotText (page : Page) (rest : List ℕ) : Type 0 where
  word : (w after : List ℕ) → rest ≡ w ++ after → IsWord w after → (IsUtf8 w → ⊥) → NotText page rest
  quoted : (ending : Fault) (value after : List ℕ) → begins_quote rest ≡ true → quoted_at page ending rest ≡ Ok (value, after) → (IsUtf8 value → ⊥) → NotText page rest

-- a page that is read, what is known of the bytes at which a statement is read, and what then of an argument that isn't UTF-8, of another
-- statement than a module, and of what stands behind a module
pub record Known : Type 1 where
  pub page : Page
  pub At : List ℕ → Type 0
  pub NoText : List ℕ → Type 0
  pub Other : Type 0
  pub Trail : List ℕ → Type 0
  pub behind : (rest bytes : List ℕ) → IsTail rest bytes → At bytes → At rest
  pub argument : (text keyword start rest : List ℕ) → At text → IsKeywordAt text keyword start → Blanks rest start → NotText page rest → NoText rest
  pub other : (start keyword after : List ℕ) → Blanks start page.text → IsKeywordAt start keyword after → (keyword ≡ codes "module" → ⊥) → Other
  pub trail : (start after rest : List ℕ) (t : Tree) → Blanks start page.text → Spells page most_deep start after t → keyword_of t ≡ codes "module" → Blanks rest after → Trail rest

-- nothing is known
abbrev pub free : Page → Known
free page = record { page = page; At = λ bytes. Unit {0}; NoText = λ rest. Unit {0}; Other = Unit {0}; Trail = λ rest. Unit {0}; behind = λ rest bytes t a. tt; argument = λ text keyword start rest a k b n. tt; other = λ start keyword after b k n. tt; trail = λ start after rest t b s k e. tt }

-- a reader of the bytes, to which the text ends with a fault, fails so
pub data Fails (m : Known) (ending : Fault) (bytes : List ℕ) (fault : Fault) : Type 0 where
  ends : fault ≡ ending → Fails m ending bytes fault
  stops : m.page.stop ≡ Some fault → Fails m ending bytes fault
  nothing : fault ≡ bad 0 NotModule → m.Other → Fails m ending bytes fault
  trails : (rest : List ℕ) → IsTail rest bytes → fault ≡ bad (place_of m.page rest) Trailing → begins_token rest ≡ true → m.Trail rest → Fails m ending bytes fault
  colon : (rest : List ℕ) → IsTail (58 ∷ rest) bytes → fault ≡ bad (place_of m.page rest) BadKeyword → begins_no_identifier rest ≡ true → Fails m ending bytes fault
  no_text : (rest : List ℕ) → IsTail rest bytes → fault ≡ bad (place_of m.page rest) NotUtf8 → m.NoText rest → Fails m ending bytes fault
  stands : (rest : List ℕ) → IsTail rest bytes → fault.place ≡ place_of m.page rest → Shows m.page rest fault.kind → Fails m ending bytes fault

-- a reader of the bytes answers a rest of them, or fails
abbrev pub Good : {A : Type 0} → Known → Fault → (A → List ℕ) → List ℕ → Result A Fault → Type 0
Good m ending rest_of bytes (Ok a) = IsTail (rest_of a) bytes
Good m ending rest_of bytes (Err fault) = Fails m ending bytes fault

abbrev pub itself : List ℕ → List ℕ
itself rest = rest

abbrev pub second : {V : Type 0} → V × List ℕ → List ℕ
second x = x.1

pub fails-up : (m : Known) (ending : Fault) (bytes more : List ℕ) (fault : Fault) → IsTail bytes more → Fails m ending bytes fault → Fails m ending more fault
fails-up m ending bytes more fault t (ends e) = ends e
fails-up m ending bytes more fault t (stops e) = stops e
fails-up m ending bytes more fault t (nothing e o) = nothing e o
fails-up m ending bytes more fault t (trails rest u p s h) = trails rest (tail-trans rest bytes more u t) p s h
fails-up m ending bytes more fault t (colon rest u p s) = colon rest (tail-trans (58 ∷ rest) bytes more u t) p s
fails-up m ending bytes more fault t (no_text rest u p s) = no_text rest (tail-trans rest bytes more u t) p s
fails-up m ending bytes more fault t (stands rest u p s) = stands rest (tail-trans rest bytes more u t) p s

pub good-up : {A : Type 0} (m : Known) (ending : Fault) (rest_of : A → List ℕ) (bytes more : List ℕ) (r : Result A Fault) → IsTail bytes more → Good m ending rest_of bytes r → Good m ending rest_of more r
good-up m ending rest_of bytes more (Ok a) t h = tail-trans (rest_of a) bytes more h t
good-up m ending rest_of bytes more (Err f) t h = fails-up m ending bytes more f t h

-- another fault where the text ends
pub fails-end : (m : Known) (ending other : Fault) (bytes : List ℕ) (fault : Fault) → Fails m other bytes ending → Fails m ending bytes fault → Fails m other bytes fault
fails-end m ending other bytes fault o (ends e) = rw e o
fails-end m ending other bytes fault o (stops e) = stops e
fails-end m ending other bytes fault o (nothing e n) = nothing e n
fails-end m ending other bytes fault o (trails rest u p s h) = trails rest u p s h
fails-end m ending other bytes fault o (colon rest u p s) = colon rest u p s
fails-end m ending other bytes fault o (no_text rest u p s) = no_text rest u p s
fails-end m ending other bytes fault o (stands rest u p s) = stands rest u p s

-- the same, where it's known that a reader fails at the end of the text
pub good-ended : {A : Type 0} (m : Known) (ending other : Fault) (rest_of : A → List ℕ) (bytes : List ℕ) (r : Result A Fault) → (r ≡ Err ending → Fails m other bytes ending) → Good m ending rest_of bytes r → Good m other rest_of bytes r
good-ended m ending other rest_of bytes (Ok a) o h = h
good-ended m ending other rest_of bytes (Err f) o (ends e) = rw e (o (ap (λ (x : Fault). Err x) e))
good-ended m ending other rest_of bytes (Err f) o (stops e) = stops e
good-ended m ending other rest_of bytes (Err f) o (nothing e n) = nothing e n
good-ended m ending other rest_of bytes (Err f) o (trails rest u p s h) = trails rest u p s h
good-ended m ending other rest_of bytes (Err f) o (colon rest u p s) = colon rest u p s
good-ended m ending other rest_of bytes (Err f) o (no_text rest u p s) = no_text rest u p s
good-ended m ending other rest_of bytes (Err f) o (stands rest u p s) = stands rest u p s

end-by : (m : Known) (ending : Fault) (bytes : List ℕ) (fault : Fault) (stop : Option Fault) → m.page.stop ≡ stop → (m.page.stop ≡ None → Fails m ending bytes fault) → Fails m ending bytes (unwrap_or stop fault)
end-by m ending bytes fault (Some f) e h = stops e
end-by m ending bytes fault None e h = h e

-- where the text ends, a fault gives way to what cuts the text off
pub fails-at_end : (m : Known) (ending : Fault) (bytes : List ℕ) (fault : Fault) → (m.page.stop ≡ None → Fails m ending bytes fault) → Fails m ending bytes (at_end m.page fault)
fails-at_end m ending bytes fault h = end-by m ending bytes fault m.page.stop refl h

-- ---- readers in turn

pub by-cond : {A : Type 0} (P : A → Type 0) (b : Bool) (x y : A) → (b ≡ true → P x) → (b ≡ false → P y) → P (cond b x y)
by-cond P true x y f h = f refl
by-cond P false x y f h = h refl

pub by-cond-two : {A : Type 0} (P : A → A → Type 0) (b : Bool) (x y z v : A) → (b ≡ true → P x z) → (b ≡ false → P y v) → P (cond b x y) (cond b z v)
by-cond-two P true x y z v f g = f refl
by-cond-two P false x y z v f g = g refl

pub good-bind : {A B : Type 0} (m : Known) (ending : Fault) (ra : A → List ℕ) (rb : B → List ℕ) (bytes : List ℕ) (r : Result A Fault) (next : A → Result B Fault) → Good m ending ra bytes r
    → ((a : A) → r ≡ Ok a → IsTail (ra a) bytes → Good m ending rb (ra a) (next a)) → Good m ending rb bytes (r >>= next)
good-bind m ending ra rb bytes (Ok a) next t k = good-up m ending rb (ra a) bytes (next a) t (k a refl t)
good-bind m ending ra rb bytes (Err f) next h k = h

pub good-front : (m : Known) (ending : Fault) (bytes front : List ℕ) (r : Result (List ℕ × List ℕ) Fault) → Good m ending second bytes r → Good m ending second bytes (with_front front r)
good-front m ending bytes front (Ok x) t = t
good-front m ending bytes front (Err f) h = h

-- a run answers a rest of the bytes, or fails
abbrev pub GoodRun : Known → Fault → List ℕ → Run → Type 0
GoodRun m ending bytes run = Good m ending itself bytes run.1

pub good-then : (m : Known) (ending : Fault) (bytes : List ℕ) (r : Result (List ℕ) Fault) (next : List ℕ → Run) → Good m ending itself bytes r → ((rest : List ℕ) → r ≡ Ok rest → IsTail rest bytes → GoodRun m ending rest (next rest))
    → GoodRun m ending bytes (then_run r next)
good-then m ending bytes (Ok a) next t k = good-up m ending itself a bytes (next a).1 t (k a refl t)
good-then m ending bytes (Err f) next h k = h

pub good-cons : (m : Known) (ending : Fault) (bytes : List ℕ) (r : Result (Tree × List ℕ) Fault) (next : List ℕ → Run) → Good m ending second bytes r → ((x : Tree × List ℕ) → r ≡ Ok x → IsTail x.1 bytes → GoodRun m ending x.1 (next x.1))
    → GoodRun m ending bytes (cons_run r next)
good-cons m ending bytes (Ok a) next t k = good-up m ending itself a.1 bytes (next a.1).1 t (k a refl t)
good-cons m ending bytes (Err f) next h k = h
