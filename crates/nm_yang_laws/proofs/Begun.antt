-- Blanks, keywords and words on two pages that begin alike.
use Rattle.std.proofs.Common.{◌≡◌, ℕ, ◌+◌, ◌≤◌, ◌<◌, Bool, true, false, cond, eqb, List, [], ◌∷◌, ◌++◌, length, Result, Ok, Err, refl, sym, ap, subst, ◌∙◌, arith, append_assoc}
use Rattle.std.specs.Prelude.{◌&&◌, ◌||◌}
use Rattle.std.specs.Str.{is_utf8}
use Rattle.nm_yang.specs.declared.fault.Fault.{Fault}
use Rattle.nm_yang.specs.declared.fault.YangKind.TheVariants.{UnclosedComment, BadKeyword, BadToken, NotUtf8}
use Rattle.nm_yang.specs.Page.{Page, bad, place_of, front, ◌>>=◌}
use Rattle.nm_yang.specs.Byte.{is_white, is_start, is_name, is_ending, is_mark, opens_comment, closes_comment}
use Rattle.nm_yang.specs.Blank.{Mode, plain, line, star, block, skip}
use Rattle.nm_yang.specs.Word.{name_end, name_at, colon_at, parted, keyword_at, bare_end, begins_close, bare_at, text_at}
use Rattle.nm_yang.specs.Module.{label_at}
use Rattle.nm_yang.proofs.Blanked.{Firm}
use Rattle.nm_yang_laws.proofs.Tails.{tail-self, tail-length}
use Rattle.nm_yang_laws.proofs.Goods.{by-cond-two, free, ends, itself, second, by-cond}
use Rattle.nm_yang_laws.proofs.Blanked.{good-mode}
use Rattle.nm_yang_laws.proofs.Worded.{good-colon, good-label, tail-name, tail-bare, keyword_end, keyword_more}
use Rattle.nm_yang_laws.proofs.Alike.{Alike, Quiet, Late, Like, late, alone, with_rest, place-same, front-same, late-bad, late-good, late-bind, like-cons, like-ok, like-bad, like-bind}

-- ---- blanks

late-mode : (w : Alike) (mode : Mode) (bytes : List ℕ) → length bytes < length w.more + 2 → Late w itself (skip w.one mode bytes)
late-mode w plain bytes short = late-good w (bad 0 UnclosedComment) itself bytes (skip w.one plain bytes) refl short (good-mode (free w.one) (bad 0 UnclosedComment) bytes plain bytes (tail-self bytes) tt)
late-mode w line bytes short = late-good w (bad 0 UnclosedComment) itself bytes (skip w.one line bytes) refl short (good-mode (free w.one) (bad 0 UnclosedComment) bytes line bytes (tail-self bytes) tt)
late-mode w (star o) bytes short = late-good w (bad o UnclosedComment) itself bytes (skip w.one (star o) bytes) refl short (good-mode (free w.one) (bad o UnclosedComment) bytes (star o) bytes (tail-self bytes) (λ stop c. ends refl))
late-mode w (block o s) bytes short = late-good w (bad o UnclosedComment) itself bytes (skip w.one (block o s) bytes) refl short (good-mode (free w.one) (bad o UnclosedComment) bytes (block o s) bytes (tail-self bytes) (λ stop c. ends refl))

-- a blank is read of both pages
abbrev pub LikeRest : Alike → List ℕ → Result (List ℕ) Fault → Result (List ℕ) Fault → Type 0
LikeRest w bytes r s = Like w itself alone bytes r s

pub like-mode : (w : Alike) (mode : Mode) (bytes : List ℕ) → LikeRest w bytes (skip w.one mode (bytes ++ w.more)) (skip w.other mode (bytes ++ w.others))
unfolding skip
like-mode w mode [] = late (late-mode w mode w.more (omega arith))
like-mode w mode (b ∷ []) = late (late-mode w mode (b ∷ w.more) (omega arith))
like-mode w plain (b ∷ c ∷ bytes) =
    let P : Result (List ℕ) Fault → Result (List ℕ) Fault → Type 0 = λ r s. LikeRest w (b ∷ c ∷ bytes) r s in
    let all : List ℕ = b ∷ c ∷ bytes in
    by-cond-two P (is_white b) _ _ _ _ (λ h. like-cons w itself alone b (c ∷ bytes) _ _ (like-mode w plain (c ∷ bytes))) (λ h.
    by-cond-two P (eqb b 47 && eqb c 47) _ _ _ _ (λ h. like-cons w itself alone b (c ∷ bytes) _ _ (like-mode w line (c ∷ bytes))) (λ h.
    by-cond-two P (eqb b 47 && eqb c 42) _ _ _ _
    (λ h. like-cons w itself alone b (c ∷ bytes) _ _ (subst (λ (o : ℕ). LikeRest w (c ∷ bytes) (skip w.one (star (place_of w.one (all ++ w.more))) ((c ∷ bytes) ++ w.more)) (skip w.other (star o) ((c ∷ bytes) ++ w.others))) (place-same w all) (like-mode w (star (place_of w.one (all ++ w.more))) (c ∷ bytes))))
    (λ h. like-ok w itself alone tt all refl)))
like-mode w line (b ∷ c ∷ bytes) =
    by-cond-two (λ (r s : Result (List ℕ) Fault). LikeRest w (b ∷ c ∷ bytes) r s) (eqb b 10) _ _ _ _ (λ h. like-cons w itself alone b (c ∷ bytes) _ _ (like-mode w plain (c ∷ bytes))) (λ h. like-cons w itself alone b (c ∷ bytes) _ _ (like-mode w line (c ∷ bytes)))
like-mode w (star o) (b ∷ c ∷ bytes) = like-cons w itself alone b (c ∷ bytes) _ _ (like-mode w (block o false) (c ∷ bytes))
like-mode w (block o starred) (b ∷ c ∷ bytes) =
    by-cond-two (λ (r s : Result (List ℕ) Fault). LikeRest w (b ∷ c ∷ bytes) r s) (starred && eqb b 47) _ _ _ _ (λ h. like-cons w itself alone b (c ∷ bytes) _ _ (like-mode w plain (c ∷ bytes))) (λ h. like-cons w itself alone b (c ∷ bytes) _ _ (like-mode w (block o (eqb b 42)) (c ∷ bytes)))

pub like-skip : (w : Alike) (bytes : List ℕ) → LikeRest w bytes (skip w.one plain (bytes ++ w.more)) (skip w.other plain (bytes ++ w.others))
like-skip w bytes = like-mode w plain bytes

-- ---- keywords

abbrev done : List ℕ → Result (List ℕ) Fault
done l = Ok l

like-name_end : (w : Alike) (bytes : List ℕ) → LikeRest w bytes (Ok (name_end (bytes ++ w.more))) (Ok (name_end (bytes ++ w.others)))
like-name_end w [] = late (let l = tail-length (name_end w.more) w.more (tail-name w.more) in omega (arith, l))
like-name_end w (b ∷ bytes) =
    by-cond-two (λ (l m : List ℕ). LikeRest w (b ∷ bytes) (Ok l) (Ok m)) (is_name b) _ _ _ _ (λ h. like-cons w itself alone b bytes _ _ (like-name_end w bytes)) (λ h. like-ok w itself alone tt (b ∷ bytes) refl)

late-name : (w : Alike) (ep : Fault) (bytes : List ℕ) → Quiet w ep → length bytes < length w.more + 2 → Late w itself (name_at w.one ep bytes)
unfolding name_at
late-name w ep [] q short = λ h. absurd cc
late-name w ep (b ∷ bytes) q short =
    by-cond (λ (r : Result (List ℕ) Fault). Late w itself r) (is_start b) _ _ (λ h. let l = tail-length (name_end bytes) bytes (tail-name bytes) in omega (arith, l, short)) (λ h. late-bad w itself (b ∷ bytes) BadKeyword short)

pub like-name : (w : Alike) (ep eq : Fault) (bytes : List ℕ) → Quiet w ep → LikeRest w bytes (name_at w.one ep (bytes ++ w.more)) (name_at w.other eq (bytes ++ w.others))
unfolding name_at
like-name w ep eq [] q = late (late-name w ep w.more q (omega arith))
like-name w ep eq (b ∷ bytes) q =
    by-cond-two (λ (r s : Result (List ℕ) Fault). LikeRest w (b ∷ bytes) r s) (is_start b) _ _ _ _ (λ h. like-cons w itself alone b bytes _ _ (like-name_end w bytes)) (λ h. like-bad w itself alone (b ∷ bytes) (b ∷ bytes) BadKeyword)

pub like-colon : (w : Alike) (ep eq : Fault) (bytes : List ℕ) → Quiet w ep → LikeRest w bytes (colon_at w.one ep (bytes ++ w.more)) (colon_at w.other eq (bytes ++ w.others))
unfolding colon_at
like-colon w ep eq [] q = late (late-good w ep itself w.more (colon_at w.one ep w.more) q (omega arith) (good-colon (free w.one) ep w.more))
like-colon w ep eq (b ∷ bytes) q =
    by-cond-two (λ (r s : Result (List ℕ) Fault). LikeRest w (b ∷ bytes) r s) (eqb b 58) _ _ _ _ (λ h. like-cons w itself alone b bytes _ _ (like-name w ep eq bytes q)) (λ h. like-ok w itself alone tt (b ∷ bytes) refl)

late-parted : (w : Alike) (ep : Fault) (bytes : List ℕ) → Quiet w ep → length bytes < length w.more + 2 → Late w itself (parted w.one ep bytes)
unfolding parted
late-parted w ep [] q short = λ h. absurd cc
late-parted w ep (b ∷ bytes) q short = by-cond (λ (r : Result (List ℕ) Fault). Late w itself r) (is_ending b || opens_comment b bytes) _ _ (λ h. short) (λ h. late-bad w itself (b ∷ bytes) BadKeyword short)

like-parted : (w : Alike) (ep eq : Fault) (bytes : List ℕ) → Quiet w ep → LikeRest w bytes (parted w.one ep (bytes ++ w.more)) (parted w.other eq (bytes ++ w.others))
unfolding parted
like-parted w ep eq [] q = late (late-parted w ep w.more q (omega arith))
like-parted w ep eq (b ∷ []) q = late (late-parted w ep (b ∷ w.more) q (omega arith))
like-parted w ep eq (b ∷ c ∷ bytes) q =
    by-cond-two (λ (r s : Result (List ℕ) Fault). LikeRest w (b ∷ c ∷ bytes) r s) (is_ending b || opens_comment b (c ∷ bytes)) _ _ _ _ (λ h. like-ok w itself alone tt (b ∷ c ∷ bytes) refl) (λ h. like-bad w itself alone (b ∷ c ∷ bytes) (b ∷ c ∷ bytes) BadKeyword)

-- what is read before a rest
abbrev pub LikePair : {V : Type 0} → Alike → List ℕ → Result (V × List ℕ) Fault → Result (V × List ℕ) Fault → Type 0
LikePair w bytes r s = Like w second with_rest bytes r s

late-front : (w : Alike) (bytes : List ℕ) (r : Result (List ℕ) Fault) → Late w itself r → Late w second (r >>= λ rest. Ok (front bytes rest, rest))
late-front w bytes r h = late-bind w itself second r (λ rest. Ok (front bytes rest, rest)) h (λ a e short. short)

like-fronted : (w : Alike) (bytes : List ℕ) (before after : List ℕ) → bytes ≡ before ++ after → LikePair w after (Ok (front (bytes ++ w.more) (after ++ w.more), after ++ w.more)) (Ok (front (bytes ++ w.others) (after ++ w.others), after ++ w.others))
like-fronted w bytes before after e =
    rw (front-same w bytes before after w.more e, front-same w bytes before after w.others e) (like-ok w second with_rest before after refl)

late-keyword_end : (w : Alike) (ep : Fault) (bytes whole : List ℕ) → Quiet w ep → length whole < length w.more + 2 → Late w second (keyword_end w.one ep bytes whole)
late-keyword_end w ep bytes whole q short = late-front w bytes (parted w.one ep whole) (late-parted w ep whole q short)

late-keyword_more : (w : Alike) (ep : Fault) (bytes name : List ℕ) → Quiet w ep → length name < length w.more + 2 → Late w second (keyword_more w.one ep bytes name)
late-keyword_more w ep bytes name q short =
    late-bind w itself second (colon_at w.one ep name) (keyword_end w.one ep bytes) (late-good w ep itself name (colon_at w.one ep name) q short (good-colon (free w.one) ep name)) (λ whole e s. late-keyword_end w ep bytes whole q s)

split-two : (bytes a b c d : List ℕ) → bytes ≡ a ++ b → b ≡ c ++ d → bytes ≡ (a ++ c) ++ d
split-two bytes a b c d e f = e ∙ ap (λ (l : List ℕ). a ++ l) f ∙ sym (append_assoc a c d)

like-keyword_end : (w : Alike) (ep eq : Fault) (bytes before whole : List ℕ) → bytes ≡ before ++ whole → Quiet w ep → LikePair w whole (keyword_end w.one ep (bytes ++ w.more) (whole ++ w.more)) (keyword_end w.other eq (bytes ++ w.others) (whole ++ w.others))
like-keyword_end w ep eq bytes before whole e q =
    like-bind w itself second alone with_rest whole (parted w.one ep (whole ++ w.more)) (parted w.other eq (whole ++ w.others)) (λ rest. Ok (front (bytes ++ w.more) rest, rest)) (λ rest. Ok (front (bytes ++ w.others) rest, rest)) (like-parted w ep eq whole q)
    (λ v b a d l rr. like-fronted w bytes (before ++ b) a (split-two bytes before whole b a e d)) (λ a d short. short)

like-keyword_more : (w : Alike) (ep eq : Fault) (bytes before name : List ℕ) → bytes ≡ before ++ name → Quiet w ep → LikePair w name (keyword_more w.one ep (bytes ++ w.more) (name ++ w.more)) (keyword_more w.other eq (bytes ++ w.others) (name ++ w.others))
like-keyword_more w ep eq bytes before name e q =
    like-bind w itself second alone with_rest name (colon_at w.one ep (name ++ w.more)) (colon_at w.other eq (name ++ w.others)) (keyword_end w.one ep (bytes ++ w.more)) (keyword_end w.other eq (bytes ++ w.others)) (like-colon w ep eq name q)
    (λ v b a d l rr. like-keyword_end w ep eq bytes (before ++ b) a (split-two bytes before name b a e d) q) (λ whole d short. late-keyword_end w ep (bytes ++ w.more) whole q short)

like-keyword : (w : Alike) (ep eq : Fault) (b : ℕ) (rest : List ℕ) → Quiet w ep → LikePair w (b ∷ rest) (keyword_at w.one ep ((b ∷ rest) ++ w.more)) (keyword_at w.other eq ((b ∷ rest) ++ w.others))
unfolding keyword_at
like-keyword w ep eq b rest q =
    let bytes : List ℕ = b ∷ rest in
    by-cond-two (λ (r s : Result (List ℕ × List ℕ) Fault). LikePair w bytes r s) (is_mark b) _ _ _ _ (λ h. like-bad w second with_rest bytes bytes BadToken) (λ h.
    like-bind w itself second alone with_rest bytes (name_at w.one ep (bytes ++ w.more)) (name_at w.other eq (bytes ++ w.others)) (keyword_more w.one ep (bytes ++ w.more)) (keyword_more w.other eq (bytes ++ w.others)) (like-name w ep eq bytes q)
    (λ v d a e l rr. like-keyword_more w ep eq bytes d a e q) (λ name e short. late-keyword_more w ep (bytes ++ w.more) name q short))

-- ---- text

-- the bytes where they are text, and the rest
abbrev pub as_text : Fault → List ℕ × List ℕ → Result (List ℕ × List ℕ) Fault
as_text fault s = text_at fault s.0 >>= λ text. Ok (text, s.1)

late-text-by : (w : Alike) (place : ℕ) (s : List ℕ × List ℕ) (ok : Bool) → is_utf8 s.0 ≡ ok → length s.1 < length w.more + 2 → Late w second (as_text (bad place NotUtf8) s)
late-text-by w place s true e short = rw e short
late-text-by w place s false e short = rw e (λ h. absurd cc)

pub late-text : (w : Alike) (place : ℕ) (s : List ℕ × List ℕ) → length s.1 < length w.more + 2 → Late w second (as_text (bad place NotUtf8) s)
late-text w place s short = late-text-by w place s (is_utf8 s.0) refl short

like-text-by : (w : Alike) (at text after : List ℕ) (ok : Bool) → is_utf8 text ≡ ok → LikePair w after (as_text (bad (place_of w.one (at ++ w.more)) NotUtf8) (text, after ++ w.more)) (as_text (bad (place_of w.other (at ++ w.others)) NotUtf8) (text, after ++ w.others))
like-text-by w at text after true e = rw e (like-ok w second with_rest text after refl)
like-text-by w at text after false e = rw e (like-bad w second with_rest after at NotUtf8)

pub like-text : (w : Alike) (at text after : List ℕ) → LikePair w after (as_text (bad (place_of w.one (at ++ w.more)) NotUtf8) (text, after ++ w.more)) (as_text (bad (place_of w.other (at ++ w.others)) NotUtf8) (text, after ++ w.others))
like-text w at text after = like-text-by w at text after (is_utf8 text) refl

pub like-label : (w : Alike) (ep eq : Fault) (bytes : List ℕ) → Firm (bytes ++ w.more) → Quiet w ep → LikePair w bytes (label_at w.one ep (bytes ++ w.more)) (label_at w.other eq (bytes ++ w.others))
unfolding label_at
like-label w ep eq [] f q = late (late-good w ep second w.more (label_at w.one ep w.more) q (omega arith) (good-label (free w.one) ep w.more f))
like-label w ep eq (b ∷ rest) f q =
    let bytes : List ℕ = b ∷ rest in
    like-bind w second second with_rest with_rest bytes (keyword_at w.one ep (bytes ++ w.more)) (keyword_at w.other eq (bytes ++ w.others)) (as_text (bad (place_of w.one (bytes ++ w.more)) NotUtf8)) (as_text (bad (place_of w.other (bytes ++ w.others)) NotUtf8)) (like-keyword w ep eq b rest q)
    (λ v d a e l rr. like-text w bytes v a) (λ s e short. late-text w (place_of w.one (bytes ++ w.more)) s short)

-- ---- words

like-bare_end : (w : Alike) (bytes : List ℕ) → LikeRest w bytes (Ok (bare_end (bytes ++ w.more))) (Ok (bare_end (bytes ++ w.others)))
like-bare_end w [] = late (let l = tail-length (bare_end w.more) w.more (tail-bare w.more) in omega (arith, l))
like-bare_end w (b ∷ []) = late (let l = tail-length (bare_end (b ∷ w.more)) (b ∷ w.more) (tail-bare (b ∷ w.more)) in omega (arith, l))
like-bare_end w (b ∷ c ∷ bytes) =
    by-cond-two (λ (l m : List ℕ). LikeRest w (b ∷ c ∷ bytes) (Ok l) (Ok m)) (is_ending b || opens_comment b (c ∷ bytes) || closes_comment b (c ∷ bytes)) _ _ _ _ (λ h. like-ok w itself alone tt (b ∷ c ∷ bytes) refl) (λ h. like-cons w itself alone b (c ∷ bytes) _ _ (like-bare_end w (c ∷ bytes)))

-- where a word ends, it is taken, unless `*/` stands there
abbrev taken : Page → List ℕ → List ℕ → Result (List ℕ × List ℕ) Fault
taken page bytes end = cond (begins_close end) (Err (bad (place_of page end) BadToken)) (Ok (front bytes end, end))

late-taken : (w : Alike) (bytes end : List ℕ) → length end < length w.more + 2 → Late w second (taken w.one bytes end)
late-taken w bytes end short = by-cond (λ (r : Result (List ℕ × List ℕ) Fault). Late w second r) (begins_close end) _ _ (λ h. late-bad w (second {V = List ℕ}) end BadToken short) (λ h. short)

like-taken : (w : Alike) (bytes before after : List ℕ) → bytes ≡ before ++ after → 2 ≤ length after → LikePair w after (taken w.one (bytes ++ w.more) (after ++ w.more)) (taken w.other (bytes ++ w.others) (after ++ w.others))
like-taken w bytes before [] e l = absurd (omega arith)
like-taken w bytes before (b ∷ []) e l = absurd (omega arith)
like-taken w bytes before (b ∷ c ∷ after) e l =
    by-cond-two (λ (r s : Result (List ℕ × List ℕ) Fault). LikePair w (b ∷ c ∷ after) r s) (closes_comment b (c ∷ after)) _ _ _ _ (λ h. like-bad w second with_rest (b ∷ c ∷ after) (b ∷ c ∷ after) BadToken) (λ h. like-fronted w bytes before (b ∷ c ∷ after) e)

pub like-bare : (w : Alike) (bytes : List ℕ) → LikePair w bytes (bare_at w.one (bytes ++ w.more)) (bare_at w.other (bytes ++ w.others))
unfolding bare_at
like-bare w bytes =
    like-bind w itself second alone with_rest bytes (Ok (bare_end (bytes ++ w.more))) (Ok (bare_end (bytes ++ w.others))) (taken w.one (bytes ++ w.more)) (taken w.other (bytes ++ w.others)) (like-bare_end w bytes)
    (λ v b a e l rr. like-taken w bytes b a e l) (λ end e short. late-taken w (bytes ++ w.more) end short)
