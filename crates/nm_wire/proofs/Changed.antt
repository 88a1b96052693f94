-- A loop that closes links in their order, of which those at the front were closed.
use Rattle.std.proofs.Common.{◌≡◌, ℕ, zero, suc, ◌<◌, List, [], ◌∷◌, ◌++◌, length, map, take, drop, set, get_or, refl, sym, ap, ◌∙◌, ◌+◌, add-one, arith, false}
use Rattle.std.proofs.lemmas.List.Elements.{All-nil, All-cons, All-head, All-tail}
use Rattle.nm_wire.specs.Link.{LinkState, closed_link}
use Rattle.nm_wire.specs.Wire.{AreClosed}

-- one more element is changed
changed_more : {A : Type 0} (change : A → A) (xs : List A) (i : ℕ) (d : A) → i < length xs
    → set (map change (take i xs) ++ drop i xs) i (change (get_or (map change (take i xs) ++ drop i xs) i d)) ≡ map change (take (suc i) xs) ++ drop (suc i) xs
changed_more change [] i d h = absurd (omega arith)
changed_more change (x ∷ xs) zero d h = refl
changed_more change (x ∷ xs) (suc i) d h = ap (λ rest. change x ∷ rest) (changed_more change xs i d (omega arith))

-- what the loop writes at its place
pub changed_at : {A : Type 0} (change : A → A) (xs ys : List A) (i : ℕ) (d new : A) → ys ≡ map change (take i xs) ++ drop i xs → i < length xs → new ≡ change (get_or ys i d)
    → set ys i new ≡ map change (take (i + 1) xs) ++ drop (i + 1) xs
changed_at change xs ys i d new so_far h by =
    let new_is : new ≡ change (get_or (map change (take i xs) ++ drop i xs) i d) = by ∙ ap (λ l. change (get_or l i d)) so_far in
    rw add-one (ap (λ l. set l i new) so_far ∙ ap (λ x. set (map change (take i xs) ++ drop i xs) i x) new_is ∙ changed_more change xs i d h)

closed_same : (link : LinkState) → link.is_open ≡ false → closed_link link ≡ link
closed_same link h = ap (λ open_now. record link { is_open = open_now }) (sym h)

-- what is closed at the front is as the loop leaves it
pub closed_before : (links : List LinkState) (n : ℕ) → AreClosed (take n links) → links ≡ map closed_link (take n links) ++ drop n links
closed_before [] zero h = refl
closed_before [] (suc n) h = refl
closed_before (link ∷ links) zero h = refl
closed_before (link ∷ links) (suc n) h =
    let P : LinkState → Type 0 = λ x. x.is_open ≡ false in
    ap (λ rest. link ∷ rest) (closed_before links n (All-tail P link (take n links) h))
    ∙ ap (λ first. first ∷ map closed_link (take n links) ++ drop n links) (sym (closed_same link (All-head P link (take n links) h)))

-- closed links are closed, as many of them as are taken
pub closed_now : (n : ℕ) (links : List LinkState) → AreClosed (take n (map closed_link links))
closed_now zero links = All-nil (λ link. link.is_open ≡ false)
closed_now (suc n) [] = All-nil (λ link. link.is_open ≡ false)
closed_now (suc n) (link ∷ links) = All-cons (λ x. x.is_open ≡ false) (closed_link link) (take n (map closed_link links)) refl (closed_now n links)

-- one more closed link
closed_suc : (links : List LinkState) (i : ℕ) (d : LinkState) → AreClosed (take i links) → i < length links → (get_or links i d).is_open ≡ false → AreClosed (take (suc i) links)
closed_suc [] i d h within now = absurd (omega arith)
closed_suc (link ∷ links) zero d h within now = All-cons (λ x. x.is_open ≡ false) link [] now (All-nil (λ x. x.is_open ≡ false))
closed_suc (link ∷ links) (suc i) d h within now =
    let P : LinkState → Type 0 = λ x. x.is_open ≡ false in
    All-cons P link (take (suc i) links) (All-head P link (take i links) h) (closed_suc links i d (All-tail P link (take i links) h) (omega arith) now)

pub closed_more : (links : List LinkState) (i : ℕ) (d : LinkState) → AreClosed (take i links) → i < length links → (get_or links i d).is_open ≡ false → AreClosed (take (i + 1) links)
closed_more links i d h within now = rw add-one (closed_suc links i d h within now)
