-- Arguments: what is left behind them, or what is wrong with them.
use Rattle.std.proofs.Common.{◌≡◌, ℕ, ◌+◌, zero, suc, Bool, true, false, cond, eqb, List, [], ◌∷◌, length, drop, Option, Some, None, Result, Ok, Err, refl, subst}
use Rattle.std.specs.Prelude.{◌&&◌, ◌||◌, IsUtf8}
use Rattle.std.specs.Str.{is_utf8}
use Rattle.std.proofs.lemmas.Str.{is_utf8-from_IsUtf8}
use Rattle.nm_yang.specs.declared.fault.Fault.{Fault}
use Rattle.nm_yang.specs.declared.fault.YangKind.TheVariants.{UnclosedQuote, NotUtf8}
use Rattle.nm_yang.specs.Page.{Page, bad, place_of, front, column_of, with_front, ◌>>=◌}
use Rattle.nm_yang.specs.Byte.{begins, begins_quote, is_quote}
use Rattle.nm_yang.specs.Blank.{skip, plain}
use Rattle.nm_yang.specs.Word.{bare_at, text_at}
use Rattle.nm_yang.specs.Quote.{begins_other, meaning, single_end, double_end, string_at}
use Rattle.nm_yang.specs.Grammar.{Blanks, IsString}
use Rattle.nm_yang.proofs.Strings.{string-read}
use Rattle.nm_yang.specs.Argument.{quote_at, piece_at, added_at, more_at, quoted_at, quoted_label, bare_label, argument_at}
use Rattle.nm_yang.specs.Module.{after_keyword}
use Rattle.nm_yang.proofs.Again.{and_true}
use Rattle.nm_yang.proofs.Blanked.{Firm, blanks-firm, blanks-takes}
use Rattle.nm_yang.proofs.Worded.{ok_same, guard_true, bare-takes}
use Rattle.nm_yang_laws.proofs.Tails.{IsTail, tail-self, tail-cons, tail-one, tail-trans}
use Rattle.nm_yang_laws.proofs.Goods.{Known, NotText, word, quoted, Fails, ends, no_text, stands, Good, itself, second, by-cond, good-bind, good-up, good-front, fails-at_end}
use Rattle.nm_yang_laws.proofs.Blanked.{good-skip}
use Rattle.nm_yang_laws.proofs.Worded.{fails-here, firm-token, good-bare}

-- ---- where a string ends

behind : (b : ℕ) (rest bytes : List ℕ) → IsTail (b ∷ rest) bytes → IsTail rest bytes
behind b rest bytes t = tail-trans rest (b ∷ rest) bytes (tail-cons b rest rest (tail-self rest)) t

pub good-single : (m : Known) (ending : Fault) (bytes : List ℕ) (opener : ℕ) (rest : List ℕ) → IsTail rest bytes → (m.page.stop ≡ None → single_end m.page opener rest ≡ Err (bad opener UnclosedQuote) → Fails m ending bytes (bad opener UnclosedQuote)) → Good m ending itself bytes (single_end m.page opener rest)
unfolding single_end
good-single m ending bytes opener [] t o = fails-at_end m ending bytes (bad opener UnclosedQuote) (λ stop. o stop (rw stop refl))
good-single m ending bytes opener (b ∷ rest) t o =
    by-cond (λ (r : Result (List ℕ) Fault). Good m ending itself bytes r) (eqb b 39) _ _ (λ h. t) (λ h. good-single m ending bytes opener rest (behind b rest bytes t) (λ stop e. o stop (rw h e)))

no-escape : (b : ℕ) (rest : List ℕ) (strict : Bool) → ((eqb b 92 && strict) && begins_other rest) ≡ true → (strict ≡ true) × ((eqb b 92 && begins_other rest) ≡ true)
no-escape b rest strict h =
    let p = and_true (eqb b 92 && strict) (begins_other rest) h in
    let q = and_true (eqb b 92) strict p.0 in
    (q.1, rw (q.0, p.1) refl)

pub good-double : (m : Known) (ending : Fault) (bytes : List ℕ) (opener : ℕ) (behind_slash : Bool) (rest : List ℕ) → IsTail rest bytes → (m.page.stop ≡ None → double_end m.page opener behind_slash rest ≡ Err (bad opener UnclosedQuote) → Fails m ending bytes (bad opener UnclosedQuote)) → Good m ending itself bytes (double_end m.page opener behind_slash rest)
unfolding double_end
good-double m ending bytes opener true [] t o = fails-at_end m ending bytes (bad opener UnclosedQuote) (λ stop. o stop (rw stop refl))
good-double m ending bytes opener false [] t o = fails-at_end m ending bytes (bad opener UnclosedQuote) (λ stop. o stop (rw stop refl))
good-double m ending bytes opener true (b ∷ rest) t o = good-double m ending bytes opener false rest (behind b rest bytes t) o
good-double m ending bytes opener false (b ∷ rest) t o =
    let P : Result (List ℕ) Fault → Type 0 = λ r. Good m ending itself bytes r in
    by-cond P (eqb b 34) _ _ (λ h. t) (λ h.
    by-cond P ((eqb b 92 && m.page.strict) && begins_other rest) _ _ (λ e. stands (b ∷ rest) t refl (no-escape b rest m.page.strict e)) (λ e. good-double m ending bytes opener (eqb b 92) rest (behind b rest bytes t) (λ stop d. o stop (rw (h, e) d))))

no-string : (page : Page) (text : List ℕ) (fault : Fault) → string_at page text ≡ Err fault → (value after : List ℕ) → IsString page text value after → ⊥
no-string page text fault e value after h = let r = (string-read page text value after h).0 in cc

pub good-string : (m : Known) (ending : Fault) (bytes : List ℕ) → begins_quote bytes ≡ true → Good m ending second bytes (string_at m.page bytes)
unfolding string_at
good-string m ending [] q = absurd cc
good-string m ending (quote ∷ bytes) q =
    let all : List ℕ = quote ∷ bytes in
    let P : ℕ → Type 0 = λ place. Fails m ending all (bad place UnclosedQuote) in
    let o : m.page.stop ≡ None → string_at m.page all ≡ Err (bad (place_of m.page all) UnclosedQuote) → P (place_of m.page all) = λ stop e. stands all (tail-self all) refl (stop, q, no-string m.page all (bad (place_of m.page all) UnclosedQuote) e) in
    let t : IsTail bytes all = tail-cons quote bytes bytes (tail-self bytes) in
    by-cond (λ (r : Result (List ℕ × List ℕ) Fault). Good m ending second all r) (eqb quote 39) _ _
    (λ h. good-bind m ending itself second all (single_end m.page (place_of m.page all) bytes) (λ rest. Ok (front bytes rest, drop 1 rest)) (good-single m ending all (place_of m.page all) bytes t (λ stop e. o stop (rw (h, e) refl))) (λ rest e u. tail-one rest))
    (λ h. good-bind m ending itself second all (double_end m.page (place_of m.page all) false bytes) (λ rest. Ok (meaning (column_of m.page all + 1) 0 false [] (front bytes rest), drop 1 rest)) (good-double m ending all (place_of m.page all) false bytes t (λ stop e. o stop (rw (h, e) refl))) (λ rest e u. tail-one rest))

-- ---- joined strings

-- a string's bytes with the rest behind the blanks that follow
abbrev pub piece_end : Page → List ℕ × List ℕ → Result (List ℕ × List ℕ) Fault
piece_end page s = skip page plain s.1 >>= λ rest. Ok (s.0, rest)

pub good-piece_end : (m : Known) (ending : Fault) (s : List ℕ × List ℕ) → Good m ending second s.1 (piece_end m.page s)
good-piece_end m ending s = good-bind m ending itself second s.1 (skip m.page plain s.1) (λ rest. Ok (s.0, rest)) (good-skip m ending s.1) (λ rest e t. tail-self rest)

pub good-piece : (m : Known) (ending : Fault) (bytes : List ℕ) → begins_quote bytes ≡ true → Good m ending second bytes (piece_at m.page bytes)
unfolding piece_at
good-piece m ending bytes q = good-bind m ending second second bytes (string_at m.page bytes) (piece_end m.page) (good-string m ending bytes q) (λ s e t. good-piece_end m ending s)

pub good-quote : (m : Known) (ending : Fault) (bytes : List ℕ) → Firm bytes → Good m ending itself bytes (quote_at m.page ending bytes)
unfolding quote_at
good-quote m ending [] f = ends refl
good-quote m ending (b ∷ bytes) f =
    by-cond (λ (r : Result (List ℕ) Fault). Good m ending itself (b ∷ bytes) r) (is_quote b) _ _ (λ h. tail-self (b ∷ bytes)) (λ h. fails-here m ending (b ∷ bytes) f (firm-token b bytes f))

pub quote-begins : (page : Page) (ending : Fault) (bytes rest : List ℕ) → quote_at page ending bytes ≡ Ok rest → begins_quote rest ≡ true
unfolding quote_at
quote-begins page ending [] rest e = absurd cc
quote-begins page ending (b ∷ bytes) rest e =
    let p = guard_true (is_quote b) _ (Ok (b ∷ bytes)) rest e in
    subst (λ (l : List ℕ). begins_quote l ≡ true) (ok_same (b ∷ bytes) rest p.1) p.0

pub quote-same : (page : Page) (ending : Fault) (bytes rest : List ℕ) → quote_at page ending bytes ≡ Ok rest → bytes ≡ rest
unfolding quote_at
quote-same page ending [] rest e = absurd cc
quote-same page ending (b ∷ bytes) rest e = ok_same (b ∷ bytes) rest (guard_true (is_quote b) _ (Ok (b ∷ bytes)) rest e).1

abbrev pub added_quote : Page → Fault → List ℕ → Result (List ℕ × List ℕ) Fault
added_quote page ending next = quote_at page ending next >>= λ quote. piece_at page quote

pub good-added_quote : (m : Known) (ending : Fault) (next : List ℕ) → Firm next → Good m ending second next (added_quote m.page ending next)
good-added_quote m ending next f = good-bind m ending itself second next (quote_at m.page ending next) (λ quote. piece_at m.page quote) (good-quote m ending next f) (λ quote e t. good-piece m ending quote (quote-begins m.page ending next quote e))

pub good-added_behind : (m : Known) (ending : Fault) (bytes : List ℕ) → Good m ending second (drop 1 bytes) (added_at m.page ending bytes)
unfolding added_at
good-added_behind m ending bytes =
    good-bind m ending itself second (drop 1 bytes) (skip m.page plain (drop 1 bytes)) (added_quote m.page ending) (good-skip m ending (drop 1 bytes)) (λ next e t. good-added_quote m ending next (blanks-firm m.page (drop 1 bytes) next e))

pub good-added : (m : Known) (ending : Fault) (bytes : List ℕ) → Good m ending second bytes (added_at m.page ending bytes)
good-added m ending bytes = good-up m ending second (drop 1 bytes) bytes (added_at m.page ending bytes) (tail-one bytes) (good-added_behind m ending bytes)

pub good-more : (m : Known) (ending : Fault) (n : ℕ) (bytes : List ℕ) → Good m ending second bytes (more_at m.page ending n bytes)
unfolding more_at
good-more m ending zero bytes = tail-self bytes
good-more m ending (suc n) bytes =
    by-cond (λ (r : Result (List ℕ × List ℕ) Fault). Good m ending second bytes r) (begins bytes 43) _ _
    (λ h. good-bind m ending second second bytes (added_at m.page ending bytes) (λ s. with_front s.0 (more_at m.page ending n s.1)) (good-added m ending bytes) (λ s e t. good-front m ending s.1 s.0 (more_at m.page ending n s.1) (good-more m ending n s.1)))
    (λ h. tail-self bytes)

abbrev pub quoted_more : Page → Fault → List ℕ × List ℕ → Result (List ℕ × List ℕ) Fault
quoted_more page ending s = with_front s.0 (more_at page ending (length s.1) s.1)

pub good-quoted_more : (m : Known) (ending : Fault) (s : List ℕ × List ℕ) → Good m ending second s.1 (quoted_more m.page ending s)
good-quoted_more m ending s = good-front m ending s.1 s.0 (more_at m.page ending (length s.1) s.1) (good-more m ending (length s.1) s.1)

pub good-quoted : (m : Known) (ending : Fault) (bytes : List ℕ) → begins_quote bytes ≡ true → Good m ending second bytes (quoted_at m.page ending bytes)
unfolding quoted_at
good-quoted m ending bytes q = good-bind m ending second second bytes (piece_at m.page bytes) (quoted_more m.page ending) (good-piece m ending bytes q) (λ s e t. good-quoted_more m ending s)

-- ---- arguments

-- the bytes where they are text
abbrev pub as_text : Page → List ℕ → List ℕ × List ℕ → Result (List ℕ × List ℕ) Fault
as_text page bytes s = text_at (bad (place_of page bytes) NotUtf8) s.0 >>= λ text. Ok (text, s.1)

no-text : (bytes : List ℕ) → is_utf8 bytes ≡ false → IsUtf8 bytes → ⊥
no-text bytes off h = let e = is_utf8-from_IsUtf8 bytes h in cc

text-by : (m : Known) (ending : Fault) (bytes : List ℕ) (s : List ℕ × List ℕ) (ok : Bool) → is_utf8 s.0 ≡ ok → IsTail s.1 bytes → ((IsUtf8 s.0 → ⊥) → m.NoText bytes) → Good m ending second bytes (as_text m.page bytes s)
text-by m ending bytes s true e t h = rw e t
text-by m ending bytes s false e t h = rw e (no_text bytes (tail-self bytes) refl (h (no-text s.0 e)))

label-by : (m : Known) (ending : Fault) (bytes : List ℕ) (r : Result (List ℕ × List ℕ) Fault) → begins_quote bytes ≡ true → (NotText m.page bytes → m.NoText bytes) → quoted_at m.page ending bytes ≡ r → Good m ending second bytes r → Good m ending second bytes (quoted_label m.page ending bytes)
unfolding quoted_label
label-by m ending bytes (Ok s) q n e t = rw e (text-by m ending bytes s (is_utf8 s.0) refl t (λ h. n (quoted ending s.0 s.1 q e h)))
label-by m ending bytes (Err f) q n e h = rw e h

pub good-quoted_label : (m : Known) (ending : Fault) (bytes : List ℕ) → begins_quote bytes ≡ true → (NotText m.page bytes → m.NoText bytes) → Good m ending second bytes (quoted_label m.page ending bytes)
good-quoted_label m ending bytes q n = label-by m ending bytes (quoted_at m.page ending bytes) q n refl (good-quoted m ending bytes q)

-- a word's bytes with the rest behind the blanks that follow
abbrev pub bare_rest : Page → List ℕ → List ℕ → Result (List ℕ × List ℕ) Fault
bare_rest page after text = skip page plain after >>= λ rest. Ok (text, rest)

pub good-bare_rest : (m : Known) (ending : Fault) (after text : List ℕ) → Good m ending second after (bare_rest m.page after text)
good-bare_rest m ending after text = good-bind m ending itself second after (skip m.page plain after) (λ rest. Ok (text, rest)) (good-skip m ending after) (λ rest e t. tail-self rest)

abbrev pub bare_more : Page → List ℕ → List ℕ × List ℕ → Result (List ℕ × List ℕ) Fault
bare_more page bytes s = text_at (bad (place_of page bytes) NotUtf8) s.0 >>= bare_rest page s.1

bare-by : (m : Known) (ending : Fault) (bytes : List ℕ) (s : List ℕ × List ℕ) (ok : Bool) → is_utf8 s.0 ≡ ok → IsTail s.1 bytes → ((IsUtf8 s.0 → ⊥) → m.NoText bytes) → Good m ending second bytes (bare_more m.page bytes s)
bare-by m ending bytes s true e t h = rw e (good-up m ending second s.1 bytes (bare_rest m.page s.1 s.0) t (good-bare_rest m ending s.1 s.0))
bare-by m ending bytes s false e t h = rw e (no_text bytes (tail-self bytes) refl (h (no-text s.0 e)))

bare_label-by : (m : Known) (ending : Fault) (bytes : List ℕ) (r : Result (List ℕ × List ℕ) Fault) → (NotText m.page bytes → m.NoText bytes) → bare_at m.page bytes ≡ r → Good m ending second bytes r → Good m ending second bytes (bare_label m.page bytes)
unfolding bare_label
bare_label-by m ending bytes (Ok s) n e t =
    let k : bare_at m.page bytes ≡ Ok (s.0, s.1) = e in
    let w = bare-takes m.page bytes s.0 s.1 k in
    rw e (bare-by m ending bytes s (is_utf8 s.0) refl t (λ h. n (word s.0 s.1 w.0 w.1 h)))
bare_label-by m ending bytes (Err f) n e h = rw e h

pub good-bare_label : (m : Known) (ending : Fault) (bytes : List ℕ) → (NotText m.page bytes → m.NoText bytes) → Good m ending second bytes (bare_label m.page bytes)
good-bare_label m ending bytes n = bare_label-by m ending bytes (bare_at m.page bytes) n refl (good-bare m ending bytes)

abbrev pub some_of : List ℕ × List ℕ → Result (Option (List ℕ) × List ℕ) Fault
some_of s = Ok (Some s.0, s.1)

pub good-argument : (m : Known) (ending : Fault) (bytes : List ℕ) → Firm bytes → (NotText m.page bytes → m.NoText bytes) → Good m ending second bytes (argument_at m.page ending bytes)
unfolding argument_at
good-argument m ending [] f n = ends refl
good-argument m ending (b ∷ bytes) f n =
    let all : List ℕ = b ∷ bytes in
    let P : Result (Option (List ℕ) × List ℕ) Fault → Type 0 = λ r. Good m ending second all r in
    by-cond P (eqb b 59 || eqb b 123) _ _ (λ h. tail-self all) (λ h.
    by-cond P (eqb b 125) _ _ (λ c. fails-here m ending all f (firm-token b bytes f)) (λ c.
    good-bind m ending second second all (cond (is_quote b) (quoted_label m.page ending all) (bare_label m.page all)) some_of
    (by-cond (λ (r : Result (List ℕ × List ℕ) Fault). Good m ending second all r) (is_quote b) _ _ (λ q. good-quoted_label m ending all q n) (λ q. good-bare_label m ending all n))
    (λ s e t. tail-self s.1)))

-- what is known of an argument behind blanks that isn't UTF-8
abbrev pub Behind : Known → List ℕ → Type 0
Behind m bytes = (rest : List ℕ) → Blanks rest bytes → NotText m.page rest → m.NoText rest

pub good-after : (m : Known) (ending : Fault) (bytes : List ℕ) → Behind m bytes → Good m ending second bytes (after_keyword m.page ending bytes)
unfolding after_keyword
good-after m ending bytes n = good-bind m ending itself second bytes (skip m.page plain bytes) (λ rest. argument_at m.page ending rest) (good-skip m ending bytes) (λ rest e t. good-argument m ending rest (blanks-firm m.page bytes rest e) (n rest (blanks-takes m.page bytes rest e)))

-- ---- what is left behind an argument begins with no blank

-- the rest of an answer begins with no blank
abbrev pub FirmOk : {A : Type 0} → (A → List ℕ) → Result A Fault → Type 0
FirmOk rest_of (Ok a) = Firm (rest_of a)
FirmOk rest_of (Err f) = Unit {0}

pub firm-bind : {A B : Type 0} (rb : B → List ℕ) (r : Result A Fault) (next : A → Result B Fault) → ((a : A) → r ≡ Ok a → FirmOk rb (next a)) → FirmOk rb (r >>= next)
firm-bind rb (Ok a) next k = k a refl
firm-bind rb (Err f) next k = tt

firm-after : {A B : Type 0} (ra : A → List ℕ) (rb : B → List ℕ) (r : Result A Fault) (next : A → Result B Fault) → FirmOk ra r → ((a : A) → Firm (ra a) → FirmOk rb (next a)) → FirmOk rb (r >>= next)
firm-after ra rb (Ok a) next h k = k a h
firm-after ra rb (Err f) next h k = tt

firm-skip_end : (page : Page) (bytes text : List ℕ) → FirmOk second (skip page plain bytes >>= λ rest. Ok (text, rest))
firm-skip_end page bytes text = firm-bind second (skip page plain bytes) (λ rest. Ok (text, rest)) (λ rest e. blanks-firm page bytes rest e)

firm-piece : (page : Page) (bytes : List ℕ) → FirmOk second (piece_at page bytes)
unfolding piece_at
firm-piece page bytes = firm-bind second (string_at page bytes) (piece_end page) (λ s e. firm-skip_end page s.1 s.0)

firm-added : (page : Page) (ending : Fault) (bytes : List ℕ) → FirmOk second (added_at page ending bytes)
unfolding added_at
firm-added page ending bytes =
    firm-bind second (skip page plain (drop 1 bytes)) (added_quote page ending) (λ next e. firm-bind second (quote_at page ending next) (λ quote. piece_at page quote) (λ quote d. firm-piece page quote))

firm-front : (front : List ℕ) (r : Result (List ℕ × List ℕ) Fault) → FirmOk second r → FirmOk second (with_front front r)
firm-front front (Ok x) h = h
firm-front front (Err f) h = tt

firm-more : (page : Page) (ending : Fault) (n : ℕ) (bytes : List ℕ) → Firm bytes → FirmOk second (more_at page ending n bytes)
unfolding more_at
firm-more page ending zero bytes f = f
firm-more page ending (suc n) bytes f =
    by-cond (λ (r : Result (List ℕ × List ℕ) Fault). FirmOk second r) (begins bytes 43) _ _
    (λ h. firm-after second second (added_at page ending bytes) (λ s. with_front s.0 (more_at page ending n s.1)) (firm-added page ending bytes) (λ s g. firm-front s.0 (more_at page ending n s.1) (firm-more page ending n s.1 g)))
    (λ h. f)

firm-quoted : (page : Page) (ending : Fault) (bytes : List ℕ) → FirmOk second (quoted_at page ending bytes)
unfolding quoted_at
firm-quoted page ending bytes = firm-after second second (piece_at page bytes) (quoted_more page ending) (firm-piece page bytes) (λ s f. firm-front s.0 (more_at page ending (length s.1) s.1) (firm-more page ending (length s.1) s.1 f))

firm-label : (page : Page) (ending : Fault) (bytes : List ℕ) → FirmOk second (quoted_label page ending bytes)
unfolding quoted_label
firm-label page ending bytes = firm-after second second (quoted_at page ending bytes) (as_text page bytes) (firm-quoted page ending bytes) (λ s f. firm-bind second (text_at (bad (place_of page bytes) NotUtf8) s.0) (λ text. Ok (text, s.1)) (λ text e. f))

firm-bare : (page : Page) (bytes : List ℕ) → FirmOk second (bare_label page bytes)
unfolding bare_label
firm-bare page bytes = firm-bind second (bare_at page bytes) (bare_more page bytes) (λ s e. firm-bind second (text_at (bad (place_of page bytes) NotUtf8) s.0) (bare_rest page s.1) (λ text d. firm-skip_end page s.1 text))

firm-argument : (page : Page) (ending : Fault) (bytes : List ℕ) → Firm bytes → FirmOk second (argument_at page ending bytes)
unfolding argument_at
firm-argument page ending [] f = tt
firm-argument page ending (b ∷ bytes) f =
    let all : List ℕ = b ∷ bytes in
    let P : Result (Option (List ℕ) × List ℕ) Fault → Type 0 = λ r. FirmOk second r in
    by-cond P (eqb b 59 || eqb b 123) _ _ (λ h. f) (λ h.
    by-cond P (eqb b 125) _ _ (λ c. tt) (λ c.
    firm-after second second (cond (is_quote b) (quoted_label page ending all) (bare_label page all)) some_of
    (by-cond (λ (r : Result (List ℕ × List ℕ) Fault). FirmOk second r) (is_quote b) _ _ (λ q. firm-label page ending all) (λ q. firm-bare page all))
    (λ s g. g)))

pub firm-after_keyword : (page : Page) (ending : Fault) (bytes : List ℕ) → FirmOk second (after_keyword page ending bytes)
unfolding after_keyword
firm-after_keyword page ending bytes = firm-bind second (skip page plain bytes) (λ rest. argument_at page ending rest) (λ rest e. firm-argument page ending rest (blanks-firm page bytes rest e))

pub firm-of : {A : Type 0} (rest_of : A → List ℕ) (r : Result A Fault) (a : A) → r ≡ Ok a → FirmOk rest_of r → Firm (rest_of a)
firm-of {A = A} rest_of r a e h = subst (λ (x : Result A Fault). FirmOk rest_of x) e h
