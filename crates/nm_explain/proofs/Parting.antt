-- Texts that are parted at quotes.
use Rattle.std.proofs.Common.{◌≡◌, ◌<◌, ℕ, List, [], ◌∷◌, ◌++◌, length, Bool, refl, sym, ap, ◌∙◌, append_assoc, arith}
use Rattle.std.proofs.lemmas.Grind.{common_steps}
use Rattle.std.proofs.lemmas.List.Splits.{slice_split_first}
use Rattle.std.specs.List.{position_or_len, before_first, after_first, slice_split}
use Rattle.nm_explain.specs.Place.{every_other, outside, is_quote}

pub split_none : (p : ℕ → Bool) (xs : List ℕ) → position_or_len p xs ≡ length xs → slice_split p xs ≡ xs ∷ []
split_none p [] e = refl
split_none p (x ∷ xs) e = grind (arith, common_steps, split_none p xs)

append_none : (xs : List ℕ) → xs ++ [] ≡ xs
append_none [] = refl
append_none (x ∷ xs) = ap (λ (l : List ℕ). x ∷ l) (append_none xs)

-- ---- what a loop over the quotes of a text keeps

module _ (out rest front behind total : List ℕ) (lt : position_or_len is_quote rest < length rest) (f : front ≡ before_first is_quote rest) (b : behind ≡ after_first is_quote rest)
    (so_far : out ++ outside rest ≡ total) where
  parts : slice_split is_quote rest ≡ front ∷ slice_split is_quote behind
  parts = rw (f, b) (slice_split_first is_quote rest 0 lt)

  -- the last quote isn't closed
  open_ended : position_or_len is_quote behind ≡ length behind → outside rest ≡ front
  unfolding every_other
  open_ended past = rw (parts, split_none is_quote behind past) (append_none front)

  pub outside_open : (now : List ℕ) → position_or_len is_quote behind ≡ length behind → now ≡ out ++ front → now ≡ total
  outside_open now past n = n ∙ ap (λ (l : List ℕ). out ++ l) (sym (open_ended past)) ∙ so_far

  closed : (more : List ℕ) → position_or_len is_quote behind < length behind → more ≡ after_first is_quote behind → outside rest ≡ front ++ outside more
  unfolding every_other
  closed more within m = rw (parts, slice_split_first is_quote behind 0 within, m) refl

  pub outside_next : (now more : List ℕ) → position_or_len is_quote behind < length behind → more ≡ after_first is_quote behind → now ≡ out ++ front → now ++ outside more ≡ total
  outside_next now more within m n = rw n (append_assoc out front (outside more) ∙ ap (λ (l : List ℕ). out ++ l) (sym (closed more within m)) ∙ so_far)

outside_none : (rest : List ℕ) → position_or_len is_quote rest ≡ length rest → outside rest ≡ rest
unfolding every_other
outside_none rest past = rw (split_none is_quote rest past) refl

pub outside_over : (out rest now total : List ℕ) → position_or_len is_quote rest ≡ length rest → now ≡ out ++ rest → out ++ outside rest ≡ total → now ≡ total
outside_over out rest now total past n so_far = n ∙ ap (λ (l : List ℕ). out ++ l) (sym (outside_none rest past)) ∙ so_far
