-- Arguments on two pages that begin alike.
use Rattle.std.proofs.Common.{◌≡◌, ℕ, zero, suc, ◌+◌, ◌≤◌, ◌<◌, Bool, true, false, cond, eqb, List, [], ◌∷◌, ◌++◌, length, drop, Option, Some, None, Result, Ok, Err, refl, ap, arith, length-append}
use Rattle.std.specs.Prelude.{◌&&◌, ◌||◌}
use Rattle.std.specs.Str.{is_utf8}
use Rattle.nm_yang.specs.declared.fault.Fault.{Fault}
use Rattle.nm_yang.specs.declared.fault.YangKind.TheVariants.{UnclosedQuote, BadEscape, BadToken, NotUtf8}
use Rattle.nm_yang.specs.Page.{bad, place_of, front, column_of, with_front, ◌>>=◌}
use Rattle.nm_yang.specs.Byte.{begins_quote, is_quote}
use Rattle.nm_yang.specs.Blank.{skip, plain}
use Rattle.nm_yang.specs.Word.{bare_at}
use Rattle.nm_yang.specs.Quote.{begins_other, meaning, single_end, double_end, string_at}
use Rattle.nm_yang.specs.Argument.{quote_at, piece_at, added_at, more_at, quoted_at, quoted_label, bare_label, argument_at}
use Rattle.nm_yang.specs.Module.{after_keyword}
use Rattle.nm_yang.proofs.Blanked.{Firm, blanks-firm}
use Rattle.nm_yang_laws.proofs.Tails.{tail-self, tail-one, tail-length}
use Rattle.nm_yang_laws.proofs.Goods.{by-cond-two, free, ends, itself, second}
use Rattle.nm_yang_laws.proofs.Quoted.{good-single, good-double, good-string, good-piece_end, good-piece, good-quote, good-added_quote, good-more, good-bare_rest, good-argument, piece_end, added_quote, quoted_more, bare_rest, bare_more, some_of, quote-begins}
use Rattle.nm_yang_laws.proofs.Alike.{Alike, Quiet, Late, late, alone, with_rest, place-same, column-same, front-same, late-good, late-bind, like-cons, like-ok, like-bad, like-bind, like-front}
use Rattle.nm_yang_laws.proofs.Begun.{LikeRest, LikePair, like-skip, as_text, late-text, like-text, like-bare}

-- ---- strings

late-single : (w : Alike) (opener : ℕ) (bytes : List ℕ) → length bytes < length w.more + 2 → Late w itself (single_end w.one opener bytes)
late-single w o bytes short = late-good w (bad o UnclosedQuote) itself bytes (single_end w.one o bytes) refl short (good-single (free w.one) (bad o UnclosedQuote) bytes o bytes (tail-self bytes) (λ stop e. ends refl))

like-single : (w : Alike) (opener : ℕ) (bytes : List ℕ) → LikeRest w bytes (single_end w.one opener (bytes ++ w.more)) (single_end w.other opener (bytes ++ w.others))
unfolding single_end
like-single w o [] = late (late-single w o w.more (omega arith))
like-single w o (b ∷ bytes) =
    by-cond-two (λ (r s : Result (List ℕ) Fault). LikeRest w (b ∷ bytes) r s) (eqb b 39) _ _ _ _ (λ h. like-ok w itself alone tt (b ∷ bytes) refl) (λ h. like-cons w itself alone b bytes _ _ (like-single w o bytes))

late-double : (w : Alike) (opener : ℕ) (behind : Bool) (bytes : List ℕ) → length bytes < length w.more + 2 → Late w itself (double_end w.one opener behind bytes)
late-double w o behind bytes short = late-good w (bad o UnclosedQuote) itself bytes (double_end w.one o behind bytes) refl short (good-double (free w.one) (bad o UnclosedQuote) bytes o behind bytes (tail-self bytes) (λ stop e. ends refl))

-- a backslash that begins no escape, where each must on the other page or not
like-slash : (w : Alike) (c : Bool) (p q : Bool) (bytes : List ℕ) (r s : Result (List ℕ) Fault) → w.one.strict ≡ p → w.other.strict ≡ q → LikeRest w bytes r s
    → LikeRest w bytes (cond (c && p) (Err (bad (place_of w.one (bytes ++ w.more)) BadEscape)) r) (cond (c && q) (Err (bad (place_of w.other (bytes ++ w.others)) BadEscape)) s)
like-slash w false p q bytes r s e f h = h
like-slash w true true true bytes r s e f h = like-bad w itself alone bytes bytes BadEscape
like-slash w true true false bytes r s e f h = late (λ x. absurd (let y : w.other.strict ≡ true = x in cc))
like-slash w true false true bytes r s e f h = absurd (let x = w.stricter f in cc)
like-slash w true false false bytes r s e f h = h

swap : (a b c : Bool) → ((a && b) && c) ≡ ((a && c) && b)
swap true true true = refl
swap true true false = refl
swap true false true = refl
swap true false false = refl
swap false b c = refl

like-double : (w : Alike) (opener : ℕ) (behind : Bool) (bytes : List ℕ) → LikeRest w bytes (double_end w.one opener behind (bytes ++ w.more)) (double_end w.other opener behind (bytes ++ w.others))
unfolding double_end
like-double w o behind [] = late (late-double w o behind w.more (omega arith))
like-double w o behind (b ∷ []) = late (late-double w o behind (b ∷ w.more) (omega arith))
like-double w o true (b ∷ c ∷ bytes) = like-cons w itself alone b (c ∷ bytes) _ _ (like-double w o false (c ∷ bytes))
like-double w o false (b ∷ c ∷ bytes) =
    let all : List ℕ = b ∷ c ∷ bytes in
    by-cond-two (λ (r s : Result (List ℕ) Fault). LikeRest w all r s) (eqb b 34) _ _ _ _ (λ h. like-ok w itself alone tt all refl) (λ h.
    rw (swap (eqb b 92) w.one.strict (begins_other (c ∷ bytes)), swap (eqb b 92) w.other.strict (begins_other (c ∷ bytes)))
    (like-slash w (eqb b 92 && begins_other (c ∷ bytes)) w.one.strict w.other.strict all _ _ refl refl (like-cons w itself alone b (c ∷ bytes) _ _ (like-double w o (eqb b 92) (c ∷ bytes)))))

-- what is left behind the quote that closes
like-closed : (w : Alike) (value after : List ℕ) → 2 ≤ length after → LikePair w after (Ok (value, drop 1 (after ++ w.more))) (Ok (value, drop 1 (after ++ w.others)))
like-closed w value [] l = absurd (omega arith)
like-closed w value (b ∷ after) l = like-cons w second with_rest b after _ _ (like-ok w second with_rest value after refl)

late-closed : (w : Alike) (value rest : List ℕ) → length rest < length w.more + 2 → length (drop 1 rest) < length w.more + 2
late-closed w value rest short = let l = tail-length (drop 1 rest) rest (tail-one rest) in omega (arith, l, short)

-- a string without its quotes
abbrev single_of : List ℕ → List ℕ → Result (List ℕ × List ℕ) Fault
single_of bytes rest = Ok (front bytes rest, drop 1 rest)

abbrev double_of : ℕ → List ℕ → List ℕ → Result (List ℕ × List ℕ) Fault
double_of room bytes rest = Ok (meaning room 0 false [] (front bytes rest), drop 1 rest)

like-single_of : (w : Alike) (bytes before after : List ℕ) → bytes ≡ before ++ after → 2 ≤ length after → LikePair w after (single_of (bytes ++ w.more) (after ++ w.more)) (single_of (bytes ++ w.others) (after ++ w.others))
like-single_of w bytes before after e l = rw (front-same w bytes before after w.more e, front-same w bytes before after w.others e) (like-closed w before after l)

like-double_of : (w : Alike) (room : ℕ) (bytes before after : List ℕ) → bytes ≡ before ++ after → 2 ≤ length after → LikePair w after (double_of room (bytes ++ w.more) (after ++ w.more)) (double_of room (bytes ++ w.others) (after ++ w.others))
like-double_of w room bytes before after e l = rw (front-same w bytes before after w.more e, front-same w bytes before after w.others e) (like-closed w (meaning room 0 false [] before) after l)

like-string-single : (w : Alike) (opener : ℕ) (bytes : List ℕ) → LikePair w bytes (single_end w.one opener (bytes ++ w.more) >>= single_of (bytes ++ w.more)) (single_end w.other opener (bytes ++ w.others) >>= single_of (bytes ++ w.others))
like-string-single w o bytes =
    like-bind w itself second alone with_rest bytes (single_end w.one o (bytes ++ w.more)) (single_end w.other o (bytes ++ w.others)) (single_of (bytes ++ w.more)) (single_of (bytes ++ w.others)) (like-single w o bytes)
    (λ v b a e l rr. like-single_of w bytes b a e l) (λ rest e short. late-closed w [] rest short)

like-string-double : (w : Alike) (opener room : ℕ) (bytes : List ℕ) → LikePair w bytes (double_end w.one opener false (bytes ++ w.more) >>= double_of room (bytes ++ w.more)) (double_end w.other opener false (bytes ++ w.others) >>= double_of room (bytes ++ w.others))
like-string-double w o room bytes =
    like-bind w itself second alone with_rest bytes (double_end w.one o false (bytes ++ w.more)) (double_end w.other o false (bytes ++ w.others)) (double_of room (bytes ++ w.more)) (double_of room (bytes ++ w.others)) (like-double w o false bytes)
    (λ v b a e l rr. like-double_of w room bytes b a e l) (λ rest e short. late-closed w [] rest short)

like-string : (w : Alike) (bytes : List ℕ) → begins_quote (bytes ++ w.more) ≡ true → LikePair w bytes (string_at w.one (bytes ++ w.more)) (string_at w.other (bytes ++ w.others))
unfolding string_at
like-string w [] q = late (late-good w (bad 0 UnclosedQuote) second w.more (string_at w.one w.more) refl (omega arith) (good-string (free w.one) (bad 0 UnclosedQuote) w.more q))
like-string w (b ∷ bytes) q =
    let all : List ℕ = b ∷ bytes in
    rw (← place-same w all, ← column-same w all)
    (by-cond-two (λ (r s : Result (List ℕ × List ℕ) Fault). LikePair w all r s) (eqb b 39) _ _ _ _ (λ h. like-cons w second with_rest b bytes _ _ (like-string-single w (place_of w.one (all ++ w.more)) bytes))
    (λ h. like-cons w second with_rest b bytes _ _ (like-string-double w (place_of w.one (all ++ w.more)) (column_of w.one (all ++ w.more) + 1) bytes)))

-- ---- joined strings

like-piece_end : (w : Alike) (v after : List ℕ) → LikePair w after (piece_end w.one (v, after ++ w.more)) (piece_end w.other (v, after ++ w.others))
like-piece_end w v after =
    like-bind w itself second alone with_rest after (skip w.one plain (after ++ w.more)) (skip w.other plain (after ++ w.others)) (λ rest. Ok (v, rest)) (λ rest. Ok (v, rest)) (like-skip w after) (λ x b a e l rr. like-ok w second with_rest v a refl) (λ rest e short. short)

-- any fault at which reading doesn't stop
abbrev idle : Fault
idle = bad 0 UnclosedQuote

pub like-piece : (w : Alike) (bytes : List ℕ) → begins_quote (bytes ++ w.more) ≡ true → LikePair w bytes (piece_at w.one (bytes ++ w.more)) (piece_at w.other (bytes ++ w.others))
unfolding piece_at
like-piece w bytes q =
    like-bind w second second with_rest with_rest bytes (string_at w.one (bytes ++ w.more)) (string_at w.other (bytes ++ w.others)) (piece_end w.one) (piece_end w.other) (like-string w bytes q) (λ v b a e l rr. like-piece_end w v a)
    (λ s e short. late-good w idle second s.1 (piece_end w.one s) refl short (good-piece_end (free w.one) idle s))

like-quote : (w : Alike) (ep eq : Fault) (bytes : List ℕ) → Firm (bytes ++ w.more) → Quiet w ep → LikeRest w bytes (quote_at w.one ep (bytes ++ w.more)) (quote_at w.other eq (bytes ++ w.others))
unfolding quote_at
like-quote w ep eq [] f q = late (late-good w ep itself w.more (quote_at w.one ep w.more) q (omega arith) (good-quote (free w.one) ep w.more f))
like-quote w ep eq (b ∷ bytes) f q =
    by-cond-two (λ (r s : Result (List ℕ) Fault). LikeRest w (b ∷ bytes) r s) (is_quote b) _ _ _ _ (λ h. like-ok w itself alone tt (b ∷ bytes) refl) (λ h. like-bad w itself alone (b ∷ bytes) (b ∷ bytes) BadToken)

like-added_quote : (w : Alike) (ep eq : Fault) (next : List ℕ) → Firm (next ++ w.more) → Quiet w ep → LikePair w next (added_quote w.one ep (next ++ w.more)) (added_quote w.other eq (next ++ w.others))
like-added_quote w ep eq next f q =
    like-bind w itself second alone with_rest next (quote_at w.one ep (next ++ w.more)) (quote_at w.other eq (next ++ w.others)) (λ quote. piece_at w.one quote) (λ quote. piece_at w.other quote) (like-quote w ep eq next f q)
    (λ v b a e l rr. like-piece w a (quote-begins w.one ep (next ++ w.more) (a ++ w.more) rr)) (λ quote e short. late-good w ep second quote (piece_at w.one quote) q short (good-piece (free w.one) ep quote (quote-begins w.one ep (next ++ w.more) quote e)))

like-added : (w : Alike) (ep eq : Fault) (b : ℕ) (bytes : List ℕ) → Quiet w ep → LikePair w bytes (added_at w.one ep (b ∷ (bytes ++ w.more))) (added_at w.other eq (b ∷ (bytes ++ w.others)))
unfolding added_at
like-added w ep eq b bytes q =
    like-bind w itself second alone with_rest bytes (skip w.one plain (bytes ++ w.more)) (skip w.other plain (bytes ++ w.others)) (added_quote w.one ep) (added_quote w.other eq) (like-skip w bytes)
    (λ v c a e l rr. like-added_quote w ep eq a (blanks-firm w.one (bytes ++ w.more) (a ++ w.more) rr) q) (λ next e short. late-good w ep second next (added_quote w.one ep next) q short (good-added_quote (free w.one) ep next (blanks-firm w.one (bytes ++ w.more) next e)))

late-more : (w : Alike) (ep : Fault) (n : ℕ) (bytes : List ℕ) → Quiet w ep → length bytes < length w.more + 2 → Late w second (more_at w.one ep n bytes)
late-more w ep n bytes q short = late-good w ep second bytes (more_at w.one ep n bytes) q short (good-more (free w.one) ep n bytes)

late-fronted : (w : Alike) (ep : Fault) (n : ℕ) (v bytes : List ℕ) → Quiet w ep → length bytes < length w.more + 2 → Late w second (with_front v (more_at w.one ep n bytes))
late-fronted w ep n v bytes q short = late-bind w second second (more_at w.one ep n bytes) (λ x. Ok (v ++ x.0, x.1)) (late-more w ep n bytes q short) (λ a e s. s)

-- what is left is shorter
shorter : (bytes before after more : List ℕ) (n : ℕ) → bytes ≡ before ++ after → length bytes + length more ≤ n → length (after ++ more) ≤ n
shorter bytes before after more n e le = let l = ap length e in omega (arith, l, le, length-append before after, length-append after more)

like-more : (w : Alike) (ep eq : Fault) (n m : ℕ) (bytes : List ℕ) → Quiet w ep → length (bytes ++ w.more) ≤ n → length (bytes ++ w.others) ≤ m → LikePair w bytes (more_at w.one ep n (bytes ++ w.more)) (more_at w.other eq m (bytes ++ w.others))
unfolding more_at
like-more w ep eq n m [] q le lo = late (late-more w ep n w.more q (omega arith))
like-more w ep eq zero m (b ∷ bytes) q le lo = absurd (omega arith)
like-more w ep eq (suc n) zero (b ∷ bytes) q le lo = absurd (omega arith)
like-more w ep eq (suc n) (suc m) (b ∷ bytes) q le lo =
    by-cond-two (λ (r s : Result (List ℕ × List ℕ) Fault). LikePair w (b ∷ bytes) r s) (eqb b 43) _ _ _ _
    (λ h. like-cons w second with_rest b bytes _ _
    (like-bind w second second with_rest with_rest bytes (added_at w.one ep (b ∷ (bytes ++ w.more))) (added_at w.other eq (b ∷ (bytes ++ w.others))) (λ s. with_front s.0 (more_at w.one ep n s.1)) (λ s. with_front s.0 (more_at w.other eq m s.1)) (like-added w ep eq b bytes q)
    (λ v c a e l rr. like-front w a v _ _ (like-more w ep eq n m a q (shorter bytes c a w.more n e (omega (arith, le, length-append bytes w.more))) (shorter bytes c a w.others m e (omega (arith, lo, length-append bytes w.others)))))
    (λ s e short. late-fronted w ep n s.0 s.1 q short)))
    (λ h. like-ok w second with_rest [] (b ∷ bytes) refl)

like-quoted : (w : Alike) (ep eq : Fault) (bytes : List ℕ) → Quiet w ep → begins_quote (bytes ++ w.more) ≡ true → LikePair w bytes (quoted_at w.one ep (bytes ++ w.more)) (quoted_at w.other eq (bytes ++ w.others))
unfolding quoted_at
like-quoted w ep eq bytes q o =
    like-bind w second second with_rest with_rest bytes (piece_at w.one (bytes ++ w.more)) (piece_at w.other (bytes ++ w.others)) (quoted_more w.one ep) (quoted_more w.other eq) (like-piece w bytes o)
    (λ v b a e l rr. like-front w a v _ _ (like-more w ep eq (length (a ++ w.more)) (length (a ++ w.others)) a q (omega arith) (omega arith))) (λ s e short. late-fronted w ep (length s.1) s.0 s.1 q short)

-- ---- arguments

like-quoted_label : (w : Alike) (ep eq : Fault) (bytes : List ℕ) → Quiet w ep → begins_quote (bytes ++ w.more) ≡ true → LikePair w bytes (quoted_label w.one ep (bytes ++ w.more)) (quoted_label w.other eq (bytes ++ w.others))
unfolding quoted_label
like-quoted_label w ep eq bytes q o =
    like-bind w second second with_rest with_rest bytes (quoted_at w.one ep (bytes ++ w.more)) (quoted_at w.other eq (bytes ++ w.others)) (as_text (bad (place_of w.one (bytes ++ w.more)) NotUtf8)) (as_text (bad (place_of w.other (bytes ++ w.others)) NotUtf8)) (like-quoted w ep eq bytes q o)
    (λ v b a e l rr. like-text w bytes v a) (λ s e short. late-text w (place_of w.one (bytes ++ w.more)) s short)

late-bare_by : (w : Alike) (bytes : List ℕ) (s : List ℕ × List ℕ) (ok : Bool) → is_utf8 s.0 ≡ ok → length s.1 < length w.more + 2 → Late w second (bare_more w.one bytes s)
late-bare_by w bytes s true e short = rw e (late-good w idle second s.1 (bare_rest w.one s.1 s.0) refl short (good-bare_rest (free w.one) idle s.1 s.0))
late-bare_by w bytes s false e short = rw e (λ h. absurd cc)

like-bare_by : (w : Alike) (bytes v after : List ℕ) (ok : Bool) → is_utf8 v ≡ ok → LikePair w after (bare_more w.one (bytes ++ w.more) (v, after ++ w.more)) (bare_more w.other (bytes ++ w.others) (v, after ++ w.others))
like-bare_by w bytes v after true e = rw e (like-piece_end w v after)
like-bare_by w bytes v after false e = rw e (like-bad w second with_rest after bytes NotUtf8)

like-bare_label : (w : Alike) (bytes : List ℕ) → LikePair w bytes (bare_label w.one (bytes ++ w.more)) (bare_label w.other (bytes ++ w.others))
unfolding bare_label
like-bare_label w bytes =
    like-bind w second second with_rest with_rest bytes (bare_at w.one (bytes ++ w.more)) (bare_at w.other (bytes ++ w.others)) (bare_more w.one (bytes ++ w.more)) (bare_more w.other (bytes ++ w.others)) (like-bare w bytes)
    (λ v b a e l rr. like-bare_by w bytes v a (is_utf8 v) refl) (λ s e short. late-bare_by w (bytes ++ w.more) s (is_utf8 s.0) refl short)

like-some : (w : Alike) (bytes : List ℕ) (r s : Result (List ℕ × List ℕ) Fault) → LikePair w bytes r s → LikePair w bytes (r >>= some_of) (s >>= some_of)
like-some w bytes r s h = like-bind w second second with_rest with_rest bytes r s some_of some_of h (λ v b a e l rr. like-ok w second with_rest (Some v) a refl) (λ x e short. short)

like-argument : (w : Alike) (ep eq : Fault) (bytes : List ℕ) → Firm (bytes ++ w.more) → Quiet w ep → LikePair w bytes (argument_at w.one ep (bytes ++ w.more)) (argument_at w.other eq (bytes ++ w.others))
unfolding argument_at
like-argument w ep eq [] f q = late (late-good w ep second w.more (argument_at w.one ep w.more) q (omega arith) (good-argument (free w.one) ep w.more f (λ n. tt)))
like-argument w ep eq (b ∷ bytes) f q =
    let all : List ℕ = b ∷ bytes in
    let P : Result (Option (List ℕ) × List ℕ) Fault → Result (Option (List ℕ) × List ℕ) Fault → Type 0 = λ r s. LikePair w all r s in
    by-cond-two P (eqb b 59 || eqb b 123) _ _ _ _ (λ h. like-ok w second with_rest None all refl) (λ h.
    by-cond-two P (eqb b 125) _ _ _ _ (λ h. like-bad w second with_rest all all BadToken) (λ h.
    like-some w all (cond (is_quote b) (quoted_label w.one ep (all ++ w.more)) (bare_label w.one (all ++ w.more))) (cond (is_quote b) (quoted_label w.other eq (all ++ w.others)) (bare_label w.other (all ++ w.others)))
    (by-cond-two (λ (r s : Result (List ℕ × List ℕ) Fault). LikePair w all r s) (is_quote b) _ _ _ _ (λ o. like-quoted_label w ep eq all q o) (λ o. like-bare_label w all))))

pub like-after : (w : Alike) (ep eq : Fault) (bytes : List ℕ) → Quiet w ep → LikePair w bytes (after_keyword w.one ep (bytes ++ w.more)) (after_keyword w.other eq (bytes ++ w.others))
unfolding after_keyword
like-after w ep eq bytes q =
    like-bind w itself second alone with_rest bytes (skip w.one plain (bytes ++ w.more)) (skip w.other plain (bytes ++ w.others)) (λ rest. argument_at w.one ep rest) (λ rest. argument_at w.other eq rest) (like-skip w bytes)
    (λ v b a e l rr. like-argument w ep eq a (blanks-firm w.one (bytes ++ w.more) (a ++ w.more) rr) q) (λ rest e short. late-good w ep second rest (argument_at w.one ep rest) q short (good-argument (free w.one) ep rest (blanks-firm w.one (bytes ++ w.more) rest e) (λ n. tt)))
