-- Keywords and words: what is left behind them, or the byte that can't stand there.
use Rattle.std.proofs.Common.{◌≡◌, ℕ, Bool, true, false, not, eqb, List, [], ◌∷◌, Result, Ok, Err, refl, ap, subst, inl, inr, arith}
use Rattle.std.specs.Prelude.{◌||◌}
use Rattle.std.proofs.lemmas.Bool.{eqb-true}
use Rattle.std.proofs.lemmas.Bool.Decides.{nat_tests}
use Rattle.nm_yang.specs.declared.fault.Fault.{Fault}
use Rattle.nm_yang.specs.declared.fault.YangKind.TheVariants.{BadKeyword, BadToken}
use Rattle.nm_yang.specs.Page.{Page, bad, place_of, front, ◌>>=◌}
use Rattle.nm_yang.specs.Byte.{is_white, is_quote, is_mark, is_start, is_name, is_ending, begins, begins_mark, opens_comment, closes_comment}
use Rattle.nm_yang.specs.Word.{name_end, name_at, colon_at, parted, keyword_at, bare_end, begins_close, bare_at}
use Rattle.nm_yang.specs.Module.{label_at}
use Rattle.nm_yang.proofs.Quotes.{or_false}
use Rattle.nm_yang.proofs.Again.{and_true}
use Rattle.nm_yang.proofs.Blanked.{Firm}
use Rattle.nm_yang.proofs.Worded.{ok_same, guard_true, chosen, keyword-takes}
use Rattle.nm_yang.proofs.Spelt.{label-read}
use Rattle.nm_yang_laws.specs.Faults.{begins_token, begins_no_identifier}
use Rattle.nm_yang_laws.proofs.Tails.{IsTail, tail-self, tail-cons, tail-same, tail-trans}
use Rattle.nm_yang_laws.proofs.Goods.{Known, Fails, ends, colon, stands, Good, itself, second, by-cond, good-bind}

pub fails-here : (m : Known) (ending : Fault) (bytes : List ℕ) → Firm bytes → begins_token bytes ≡ true → Fails m ending bytes (bad (place_of m.page bytes) BadToken)
fails-here m ending bytes f h = stands bytes (tail-self bytes) refl h

pub firm-token : (b : ℕ) (rest : List ℕ) → Firm (b ∷ rest) → begins_token (b ∷ rest) ≡ true
firm-token b rest f = rw (f.0, f.1) refl

pub tail-name : (bytes : List ℕ) → IsTail (name_end bytes) bytes
tail-name [] = tail-self []
tail-name (b ∷ rest) = by-cond (λ (r : List ℕ). IsTail r (b ∷ rest)) (is_name b) (name_end rest) (b ∷ rest) (λ h. tail-cons b (name_end rest) rest (tail-name rest)) (λ h. tail-self (b ∷ rest))

-- whether a byte stands first that an identifier goes on with
abbrev begins_name : List ℕ → Bool
begins_name [] = false
begins_name (b ∷ rest) = is_name b

name_end-stops : (bytes : List ℕ) → begins_name (name_end bytes) ≡ false
name_end-stops [] = refl
name_end-stops (b ∷ rest) = by-cond (λ (r : List ℕ). begins_name r ≡ false) (is_name b) (name_end rest) (b ∷ rest) (λ h. name_end-stops rest) (λ h. h)

name_at-stops : (page : Page) (ending : Fault) (bytes rest : List ℕ) → name_at page ending bytes ≡ Ok rest → begins_name rest ≡ false
unfolding name_at
name_at-stops page ending [] rest e = absurd cc
name_at-stops page ending (b ∷ bytes) rest e =
    let p = guard_true (is_start b) _ (Ok (name_end bytes)) rest e in
    subst (λ (r : List ℕ). begins_name r ≡ false) (ok_same (name_end bytes) rest p.1) (name_end-stops bytes)

colon_at-stops : (page : Page) (ending : Fault) (bytes rest : List ℕ) → begins_name bytes ≡ false → colon_at page ending bytes ≡ Ok rest → begins_name rest ≡ false
unfolding colon_at
colon_at-stops page ending [] rest n e = subst (λ (r : List ℕ). begins_name r ≡ false) (ok_same [] rest e) refl
colon_at-stops page ending (b ∷ bytes) rest n e =
    elim (chosen (eqb b 58) (name_at page ending bytes) (Ok (b ∷ bytes)) (Ok rest) e) [
      | inl c ↦ name_at-stops page ending bytes rest c.1
      | inr c ↦ subst (λ (r : List ℕ). begins_name r ≡ false) (ok_same (b ∷ bytes) rest c.1) n
    ]

-- an identifier at the end of bytes, where no identifier there is a fault
good-name : (m : Known) (ending : Fault) (all bytes : List ℕ) → IsTail bytes all → (begins_no_identifier bytes ≡ true → Fails m ending all (bad (place_of m.page bytes) BadKeyword)) → Good m ending itself all (name_at m.page ending bytes)
unfolding name_at
good-name m ending all [] t n = ends refl
good-name m ending all (b ∷ rest) t n =
    by-cond (λ (r : Result (List ℕ) Fault). Good m ending itself all r) (is_start b) _ _ (λ h. tail-trans (name_end rest) (b ∷ rest) all (tail-cons b (name_end rest) rest (tail-name rest)) t) (λ h. n (ap not h))

pub good-colon : (m : Known) (ending : Fault) (bytes : List ℕ) → Good m ending itself bytes (colon_at m.page ending bytes)
unfolding colon_at
good-colon m ending [] = tail-self []
good-colon m ending (b ∷ rest) =
    by-cond (λ (r : Result (List ℕ) Fault). Good m ending itself (b ∷ rest) r) (eqb b 58) _ _ (λ h. good-name m ending (b ∷ rest) rest (tail-cons b rest rest (tail-self rest)) (λ n. colon rest (tail-same (b ∷ rest) (58 ∷ rest) (b ∷ rest) (ap (λ (x : ℕ). x ∷ rest) (eqb-true b 58 h)) (tail-self (b ∷ rest))) refl n)) (λ h. tail-self (b ∷ rest))

no-start : (b : ℕ) → is_name b ≡ false → not (is_start b) ≡ true
no-start b h = grind (arith, nat_tests)

parted-token : (b : ℕ) (rest : List ℕ) → (is_ending b || opens_comment b rest) ≡ false → begins_token (b ∷ rest) ≡ true
parted-token b rest h =
    let p = or_false (is_ending b) (opens_comment b rest) h in
    let q = or_false (is_white b || is_quote b) (is_mark b) p.0 in
    let w = or_false (is_white b) (is_quote b) q.0 in
    rw (w.0, p.1) refl

good-parted : (m : Known) (ending : Fault) (bytes : List ℕ) → begins_name bytes ≡ false → Good m ending itself bytes (parted m.page ending bytes)
unfolding parted
good-parted m ending [] n = ends refl
good-parted m ending (b ∷ rest) n =
    by-cond (λ (r : Result (List ℕ) Fault). Good m ending itself (b ∷ rest) r) (is_ending b || opens_comment b rest) _ _ (λ h. tail-self (b ∷ rest)) (λ h. stands (b ∷ rest) (tail-self (b ∷ rest)) refl (no-start b n, parted-token b rest h))

-- what follows the whole of a keyword
abbrev pub keyword_end : Page → Fault → List ℕ → List ℕ → Result (List ℕ × List ℕ) Fault
keyword_end page ending bytes whole = parted page ending whole >>= λ rest. Ok (front bytes rest, rest)

-- what follows its first identifier
abbrev pub keyword_more : Page → Fault → List ℕ → List ℕ → Result (List ℕ × List ℕ) Fault
keyword_more page ending bytes name = colon_at page ending name >>= keyword_end page ending bytes

pub good-keyword_end : (m : Known) (ending : Fault) (bytes whole : List ℕ) → begins_name whole ≡ false → Good m ending second whole (keyword_end m.page ending bytes whole)
good-keyword_end m ending bytes whole n = good-bind m ending itself second whole (parted m.page ending whole) (λ rest. Ok (front bytes rest, rest)) (good-parted m ending whole n) (λ rest e t. tail-self rest)

pub good-keyword_more : (m : Known) (ending : Fault) (bytes name : List ℕ) → begins_name name ≡ false → Good m ending second name (keyword_more m.page ending bytes name)
good-keyword_more m ending bytes name n =
    good-bind m ending itself second name (colon_at m.page ending name) (keyword_end m.page ending bytes) (good-colon m ending name) (λ whole e t. good-keyword_end m ending bytes whole (colon_at-stops m.page ending name whole n e))

no-token : (bytes : List ℕ) → begins_no_identifier bytes ≡ true → Firm bytes → begins_token bytes ≡ true
no-token [] n f = absurd cc
no-token (b ∷ rest) n f = firm-token b rest f

mark-token : (bytes : List ℕ) → begins_mark bytes ≡ true → Firm bytes → begins_token bytes ≡ true
mark-token [] m f = absurd cc
mark-token (b ∷ rest) m f = firm-token b rest f

pub good-keyword : (m : Known) (ending : Fault) (bytes : List ℕ) → Firm bytes → Good m ending second bytes (keyword_at m.page ending bytes)
unfolding keyword_at
good-keyword m ending bytes f =
    by-cond (λ (r : Result (List ℕ × List ℕ) Fault). Good m ending second bytes r) (begins_mark bytes) _ _ (λ h. fails-here m ending bytes f (mark-token bytes h f)) (λ h.
    good-bind m ending itself second bytes (name_at m.page ending bytes) (keyword_more m.page ending bytes) (good-name m ending bytes bytes (tail-self bytes) (λ n. stands bytes (tail-self bytes) refl (n, no-token bytes n f))) (λ name e t. good-keyword_more m ending bytes name (name_at-stops m.page ending bytes name e)))

label-by : (m : Known) (ending : Fault) (bytes : List ℕ) (r : Result (List ℕ × List ℕ) Fault) → keyword_at m.page ending bytes ≡ r → Good m ending second bytes r → Good m ending second bytes (label_at m.page ending bytes)
unfolding label_at
label-by m ending bytes (Ok x) e t =
    let k : keyword_at m.page ending bytes ≡ Ok (x.0, x.1) = e in
    rw (label-read m.page ending bytes x.0 x.1 (keyword-takes m.page ending bytes x.0 x.1 k)) t
label-by m ending bytes (Err f) e h = rw e h

-- a keyword is text
pub good-label : (m : Known) (ending : Fault) (bytes : List ℕ) → Firm bytes → Good m ending second bytes (label_at m.page ending bytes)
good-label m ending bytes f = label-by m ending bytes (keyword_at m.page ending bytes) refl (good-keyword m ending bytes f)

-- ---- words without quotes

pub tail-bare : (bytes : List ℕ) → IsTail (bare_end bytes) bytes
tail-bare [] = tail-self []
tail-bare (b ∷ rest) =
    by-cond (λ (r : List ℕ). IsTail r (b ∷ rest)) (is_ending b || opens_comment b rest || closes_comment b rest) (b ∷ rest) (bare_end rest) (λ h. tail-self (b ∷ rest)) (λ h. tail-cons b (bare_end rest) rest (tail-bare rest))

close-token : (bytes : List ℕ) → begins_close bytes ≡ true → begins_token bytes ≡ true
close-token [] h = absurd cc
close-token (b ∷ rest) h =
    let is : b ≡ 42 = eqb-true b 42 (and_true (eqb b 42) (begins rest 47) h).0 in
    rw is refl

pub good-bare : (m : Known) (ending : Fault) (bytes : List ℕ) → Good m ending second bytes (bare_at m.page bytes)
unfolding bare_at
good-bare m ending bytes =
    by-cond (λ (r : Result (List ℕ × List ℕ) Fault). Good m ending second bytes r) (begins_close (bare_end bytes)) _ _ (λ h. stands (bare_end bytes) (tail-bare bytes) refl (close-token (bare_end bytes) h)) (λ h. tail-bare bytes)
