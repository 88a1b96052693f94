-- Lists that are copied, one item after another.
use Rattle.std.proofs.Common.{◌≡◌, ℕ, ◌+◌, ◌<◌, ◌≤◌, List, [], ◌∷◌, ◌++◌, length, map, drop, get_or, sym, ap, ◌∙◌, append-nil, append_assoc}
use Rattle.std.proofs.lemmas.List.{drop_all, drop_more}

-- what is left begins with the item that is taken
taken_next : {X : Type 0} (xs : List X) (i : ℕ) (x : X) → i < length xs → x ≡ get_or xs i x → drop i xs ≡ x ∷ drop (i + 1) xs
taken_next xs i x lt is = drop_more xs i x lt ∙ ap (λ y. y ∷ drop (i + 1) xs) (sym is)

-- an item more, as it is seen
pub seen_one : {X Y : Type 0} (f : X → Y) (xs : List X) (i : ℕ) (x : X) (before after whole : List Y) → i < length xs → x ≡ get_or xs i x → after ≡ before ++ f x ∷ []
    → before ++ map f (drop i xs) ≡ whole → after ++ map f (drop (i + 1) xs) ≡ whole
seen_one f xs i x before after whole lt is made so_far =
    let rest = map f (drop (i + 1) xs) in
    ap (λ ys. ys ++ rest) made ∙ append_assoc before (f x ∷ []) rest ∙ ap (λ us. before ++ map f us) (sym (taken_next xs i x lt is)) ∙ so_far

-- no item is left
pub seen_all : {X Y : Type 0} (f : X → Y) (xs : List X) (i : ℕ) (before whole : List Y) → length xs ≤ i → before ++ map f (drop i xs) ≡ whole → before ≡ whole
seen_all f xs i before whole past so_far = sym (append-nil before) ∙ ap (λ us. before ++ map f us) (sym (drop_all i xs past)) ∙ so_far

-- an item more
pub copied_one : {X : Type 0} (xs : List X) (i : ℕ) (x : X) (before after whole : List X) → i < length xs → x ≡ get_or xs i x → after ≡ before ++ x ∷ []
    → before ++ drop i xs ≡ whole → after ++ drop (i + 1) xs ≡ whole
copied_one xs i x before after whole lt is made so_far =
    let rest = drop (i + 1) xs in
    ap (λ ys. ys ++ rest) made ∙ append_assoc before (x ∷ []) rest ∙ ap (λ us. before ++ us) (sym (taken_next xs i x lt is)) ∙ so_far

pub copied_all : {X : Type 0} (xs : List X) (i : ℕ) (before whole : List X) → length xs ≤ i → before ++ drop i xs ≡ whole → before ≡ whole
copied_all xs i before whole past so_far = sym (append-nil before) ∙ ap (λ us. before ++ us) (sym (drop_all i xs past)) ∙ so_far
