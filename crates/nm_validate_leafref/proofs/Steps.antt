-- Lists that are gone through, one item after another.
use Rattle.std.proofs.Common.{◌≡◌, ℕ, ◌+◌, ◌<◌, ◌≤◌, List, [], ◌∷◌, length, drop, get_or, sym, ap, ◌∙◌}
use Rattle.std.proofs.lemmas.List.{drop_all, drop_more}

-- what is left begins with the item that is taken
pub one_taken : {X : Type 0} (xs : List X) (i : ℕ) (x : X) → i < length xs → x ≡ get_or xs i x → drop i xs ≡ x ∷ drop (i + 1) xs
one_taken xs i x lt is = drop_more xs i x lt ∙ ap (λ y. y ∷ drop (i + 1) xs) (sym is)

-- what is told of all that is left is told of what is left once an item is taken
pub step_on : {X S Y : Type 0} (f : S → List X → Y) (xs : List X) (i : ℕ) (x : X) (before after : S) (whole : Y) → i < length xs → x ≡ get_or xs i x
    → f after (drop (i + 1) xs) ≡ f before (x ∷ drop (i + 1) xs) → f before (drop i xs) ≡ whole → f after (drop (i + 1) xs) ≡ whole
step_on f xs i x before after whole lt is same so_far = same ∙ ap (f before) (sym (one_taken xs i x lt is)) ∙ so_far

-- nothing is left
pub end_on : {X Y : Type 0} (f : List X → Y) (xs : List X) (i : ℕ) (whole : Y) → length xs ≤ i → f (drop i xs) ≡ whole → f [] ≡ whole
end_on f xs i whole past so_far = ap f (sym (drop_all i xs past)) ∙ so_far
