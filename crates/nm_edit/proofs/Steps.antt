-- Lists that are gone through, one item after another.
use Rattle.std.proofs.Common.{◌≡◌, ℕ, ◌+◌, ◌<◌, ◌≤◌, List, ◌∷◌, ◌++◌, length, drop, get_or, fold, sym, ap, ◌∙◌, append-nil, append_assoc}
use Rattle.std.specs.List.{flat_map}
use Rattle.std.proofs.lemmas.List.{drop_all, drop_more}

-- what is left begins with the item that is taken
pub one_taken : {X : Type 0} (xs : List X) (i : ℕ) (x : X) → i < length xs → x ≡ get_or xs i x → drop i xs ≡ x ∷ drop (i + 1) xs
one_taken xs i x lt is = drop_more xs i x lt ∙ ap (λ y. y ∷ drop (i + 1) xs) (sym is)

-- what an item makes goes behind what was made
pub put_one : {X Y : Type 0} (f : X → List Y) (xs : List X) (i : ℕ) (x : X) (before after whole : List Y) → i < length xs → x ≡ get_or xs i x → after ≡ before ++ f x
    → before ++ flat_map f (drop i xs) ≡ whole → after ++ flat_map f (drop (i + 1) xs) ≡ whole
put_one f xs i x before after whole lt is made so_far =
    let rest = flat_map f (drop (i + 1) xs) in
    ap (λ ys. ys ++ rest) made ∙ append_assoc before (f x) rest ∙ ap (λ us. before ++ flat_map f us) (sym (one_taken xs i x lt is)) ∙ so_far

pub put_all : {X Y : Type 0} (f : X → List Y) (xs : List X) (i : ℕ) (before whole : List Y) → length xs ≤ i → before ++ flat_map f (drop i xs) ≡ whole → before ≡ whole
put_all f xs i before whole past so_far = sym (append-nil before) ∙ ap (λ us. before ++ flat_map f us) (sym (drop_all i xs past)) ∙ so_far

-- an item changes what the items before it made
pub fold_one : {X S : Type 0} (f : S → X → S) (xs : List X) (i : ℕ) (x : X) (before after whole : S) → i < length xs → x ≡ get_or xs i x → after ≡ f before x
    → fold f before (drop i xs) ≡ whole → fold f after (drop (i + 1) xs) ≡ whole
fold_one f xs i x before after whole lt is made so_far =
    ap (λ s. fold f s (drop (i + 1) xs)) made ∙ ap (fold f before) (sym (one_taken xs i x lt is)) ∙ so_far

pub fold_all : {X S : Type 0} (f : S → X → S) (xs : List X) (i : ℕ) (before whole : S) → length xs ≤ i → fold f before (drop i xs) ≡ whole → before ≡ whole
fold_all f xs i before whole past so_far = ap (fold f before) (sym (drop_all i xs past)) ∙ so_far
