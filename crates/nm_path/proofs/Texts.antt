-- Bytes, names and quotes at the front of a text.
use Rattle.std.proofs.Common.{◌≡◌, ℕ, zero, suc, ◌+◌, ◌<◌, ◌≤◌, ◌==◌, Bool, true, false, not, List, [], ◌∷◌, ◌++◌, length, drop, get_or, Option, Some, None, refl, sym, ap, ◌∙◌, append_assoc, arith}
use Rattle.std.specs.Prelude.{IsUtf8}
use Rattle.std.specs.Option.{unwrap_or}
use Rattle.std.specs.List.{list_any, position, position_or_len, before_first, after_first}
use Rattle.std.specs.Str.{IsCharBoundary}
use Rattle.std.proofs.lemmas.Bool.{eqb-true}
use Rattle.std.proofs.lemmas.Bool.Decides.{nat_tests}
use Rattle.std.proofs.lemmas.Grind.{common_steps}
use Rattle.std.proofs.lemmas.Str.{IsCharBoundary-after_ascii, IsCharBoundary-start}
use Rattle.std.proofs.lemmas.List.Sums.{fails_before_first, prefix_len-le-length}
use Rattle.nm_path.specs.Form.{is_start, is_name, doubled}
use Rattle.nm_path.specs.Reading.{with_front, begins, after, is_end, name_len, single_at}

pub begins-after : (text : List ℕ) (k : ℕ) → begins text k ≡ true → after text k ≡ Some (drop 1 text)
unfolding after
begins-after [] k e = absurd cc
begins-after (b ∷ text) k e = rw e refl

pub begins-none : (text : List ℕ) (k : ℕ) → begins text k ≡ false → after text k ≡ None
unfolding after
begins-none [] k e = refl
begins-none (b ∷ text) k e = rw e refl

pub begins-boundary : (text : List ℕ) (k : ℕ) → IsUtf8 text → k < 128 → begins text k ≡ true → IsCharBoundary text 1
begins-boundary [] k u lt e = absurd cc
begins-boundary (b ∷ text) k u lt e =
    let same = eqb-true b k e in
    IsCharBoundary-after_ascii (b ∷ text) 0 u (omega arith) (rw same lt)

pub start-ascii : (b : ℕ) → is_start b ≡ true → b < 128
unfolding is_start
start-ascii b e = grind (arith, nat_tests)

pub name-ascii : (b : ℕ) → is_name b ≡ true → b < 128
unfolding is_name is_start
name-ascii b e = grind (arith, nat_tests)

-- where a list is cut, if the first that passes a test is where it is
pub end_or_len : (p : ℕ → Bool) (xs : List ℕ) → unwrap_or (position p xs) (length xs) ≡ position_or_len p xs
end_or_len p xs =
    let le : position_or_len p xs ≤ length xs = prefix_len-le-length (λ x. not (p x)) xs in
    grind (arith, nat_tests, common_steps)

not-false : (b : Bool) → not b ≡ false → b ≡ true
not-false true e = refl
not-false false e = absurd cc

boundary_at : (text : List ℕ) (n : ℕ) → n ≤ position_or_len is_end text → n ≤ length text → IsUtf8 text → IsCharBoundary text n
boundary_at text zero h le u = IsCharBoundary-start text u
boundary_at text (suc n) h le u =
    let last : is_end (get_or text n 0) ≡ false = fails_before_first is_end text n 0 (omega arith) in
    let lt : n < length text = omega arith in
    let one : n + 1 ≡ suc n = omega arith in
    rw (← one) (IsCharBoundary-after_ascii text n u lt (name-ascii (get_or text n 0) (not-false (is_name (get_or text n 0)) last)))

pub name-boundary : (text : List ℕ) → IsUtf8 text → IsCharBoundary text (name_len text)
unfolding name_len
name-boundary text u = boundary_at text (position_or_len is_end text) (omega arith) (prefix_len-le-length (λ b. not (is_end b)) text) u

-- ---- whether a text has a byte, and where it first is

pub any-past : (p : ℕ → Bool) (xs : List ℕ) → position_or_len p xs ≡ length xs → list_any p xs ≡ false
any-past p [] e = refl
any-past p (x ∷ xs) e = grind (arith, common_steps, any-past p xs)

pub any-within : (p : ℕ → Bool) (xs : List ℕ) → position_or_len p xs < length xs → list_any p xs ≡ true
any-within p [] h = absurd (omega arith)
any-within p (x ∷ xs) h = grind (arith, common_steps, any-within p xs)

-- ---- single quotes

pub with_front-nil : {X : Type 0} (r : Option (List X × List ℕ)) → with_front [] r ≡ r
with_front-nil None = refl
with_front-nil (Some x) = refl

pub with_front-both : {X : Type 0} (f g : List X) (r : Option (List X × List ℕ)) → with_front f (with_front g r) ≡ with_front (f ++ g) r
with_front-both f g None = refl
with_front-both f g (Some x) = grind (arith, common_steps)

abbrev pub is_single : ℕ → Bool
is_single b = b == 39

single-cons : (b : ℕ) (text : List ℕ) (q : Bool) → is_single b ≡ q → (position_or_len is_single text < length text → single_at false text ≡ with_front (before_first is_single text) (single_at true (after_first is_single text)))
    → position_or_len is_single (b ∷ text) < length (b ∷ text) → single_at false (b ∷ text) ≡ with_front (before_first is_single (b ∷ text)) (single_at true (after_first is_single (b ∷ text)))
unfolding single_at
single-cons b text true e later h = rw e (sym (with_front-nil (single_at true text)))
single-cons b text false e later h =
    let place : position_or_len is_single (b ∷ text) ≡ suc (position_or_len is_single text) = grind (arith, common_steps) in
    let lt : position_or_len is_single text < length text = omega arith in
    let front : before_first is_single (b ∷ text) ≡ b ∷ before_first is_single text = rw place refl in
    let next : suc (position_or_len is_single text) + 1 ≡ suc (position_or_len is_single text + 1) = omega arith in
    let behind : after_first is_single (b ∷ text) ≡ after_first is_single text = rw (place, next) refl in
    let here : single_at false (b ∷ text) ≡ with_front (b ∷ []) (single_at false text) = rw e refl in
    here ∙ ap (with_front (b ∷ [])) (later lt) ∙ with_front-both (b ∷ []) (before_first is_single text) (single_at true (after_first is_single text))
    ∙ rw (front, behind) refl

pub single-split : (text : List ℕ) → position_or_len is_single text < length text → single_at false text ≡ with_front (before_first is_single text) (single_at true (after_first is_single text))
single-split [] h = absurd (omega arith)
single-split (b ∷ text) h = single-cons b text (is_single b) refl (single-split text) h

pub single-none : (text : List ℕ) → position_or_len is_single text ≡ length text → single_at false text ≡ None
unfolding single_at
single-none [] h = refl
single-none (b ∷ text) h = grind (arith, common_steps, single-none text)

pub single-more : (text more : List ℕ) → after text 39 ≡ Some more → single_at true text ≡ with_front (39 ∷ []) (single_at false more)
unfolding after single_at
single-more [] more e = absurd cc
single-more (b ∷ text) more e = grind (arith, common_steps)

pub single-end : (text : List ℕ) → after text 39 ≡ None → single_at true text ≡ Some ([], text)
unfolding after single_at
single-end [] e = refl
single-end (b ∷ text) e = grind (arith, common_steps)

pub doubled-split : (text : List ℕ) → position_or_len is_single text < length text → doubled text ≡ before_first is_single text ++ 39 ∷ 39 ∷ doubled (after_first is_single text)
doubled-split [] h = absurd (omega arith)
doubled-split (b ∷ text) h = grind (arith, common_steps, doubled-split text)

pub doubled-none : (text : List ℕ) → position_or_len is_single text ≡ length text → doubled text ≡ text
doubled-none [] h = refl
doubled-none (b ∷ text) h = grind (arith, common_steps, doubled-none text)

-- ---- what a loop over the single quotes of a text keeps

module _ (value front rest behind : List ℕ) (total : Option (List ℕ × List ℕ)) (lt : position_or_len is_single rest < length rest) (f : front ≡ before_first is_single rest) (b : behind ≡ after_first is_single rest)
    (so_far : with_front value (single_at false rest) ≡ total) where
  parted : total ≡ with_front (value ++ front) (single_at true behind)
  parted = sym so_far ∙ ap (with_front value) (single-split rest lt) ∙ with_front-both value (before_first is_single rest) (single_at true (after_first is_single rest)) ∙ rw (f, b) refl

  pub single_last : (label : List ℕ) → after behind 39 ≡ None → label ≡ value ++ front → total ≡ Some (label, behind)
  single_last label e l = parted ∙ ap (with_front (value ++ front)) (single-end behind e) ∙ rw l (grind (arith, common_steps))

  pub single_next : (more now : List ℕ) → after behind 39 ≡ Some more → now ≡ (value ++ front) ++ 39 ∷ [] → with_front now (single_at false more) ≡ total
  single_next more now e n = rw n (sym (parted ∙ ap (with_front (value ++ front)) (single-more behind more e) ∙ with_front-both (value ++ front) (39 ∷ []) (single_at false more)))

pub single_over : (value rest : List ℕ) (total : Option (List ℕ × List ℕ)) → position_or_len is_single rest ≡ length rest → with_front value (single_at false rest) ≡ total → total ≡ None
single_over value rest total e so_far = sym so_far ∙ rw (single-none rest e) refl

pub after-shorter : (p : ℕ → Bool) (xs : List ℕ) → position_or_len p xs < length xs → length (after_first p xs) < length xs
after-shorter p xs h = grind (arith, common_steps)

-- ---- what a loop that doubles the single quotes of a text keeps

pub doubled_next : (out front rest behind now total : List ℕ) → position_or_len is_single rest < length rest → front ≡ before_first is_single rest → behind ≡ after_first is_single rest
    → now ≡ out ++ front ++ 39 ∷ 39 ∷ [] → out ++ doubled rest ≡ total → now ++ doubled behind ≡ total
doubled_next out front rest behind now total lt f b n so_far =
    let parts : doubled rest ≡ front ++ 39 ∷ 39 ∷ doubled behind = rw (f, b) (doubled-split rest lt) in
    rw n (append_assoc (out ++ front) (39 ∷ 39 ∷ []) (doubled behind) ∙ append_assoc out front (39 ∷ 39 ∷ doubled behind) ∙ ap (λ (l : List ℕ). out ++ l) (sym parts) ∙ so_far)

pub doubled_over : (out rest now total : List ℕ) → position_or_len is_single rest ≡ length rest → now ≡ out ++ rest → out ++ doubled rest ≡ total → now ≡ total
doubled_over out rest now total past n so_far = n ∙ ap (λ (l : List ℕ). out ++ l) (sym (doubled-none rest past)) ∙ so_far
