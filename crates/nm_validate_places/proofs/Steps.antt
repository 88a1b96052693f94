-- Lists that are gone through, one item after another.
use Rattle.std.proofs.Common.{◌≡◌, ℕ, ◌+◌, ◌<◌, ◌≤◌, List, [], ◌∷◌, ◌++◌, length, drop, get_or, map, Bool, false, cond, Option, Some, option_map, sym, ap, ◌∙◌, append-nil, append_assoc}
use Rattle.std.specs.Prelude.{filter}
use Rattle.std.specs.List.{flat_map, find}
use Rattle.std.proofs.lemmas.List.{drop_all, drop_more}
use Rattle.nm_types.specs.Path.{PathStep}
use Rattle.nm_validate_places.specs.declared.areas.NodeRow.{NodeRow}
use Rattle.nm_validate_places.specs.Least.{least_with}
use Rattle.nm_validate_places.proofs.Leasts.{least_append, filter_append}

-- what is left begins with the item that is taken
pub one_taken : {X : Type 0} (xs : List X) (i : ℕ) (x : X) → i < length xs → x ≡ get_or xs i x → drop i xs ≡ x ∷ drop (i + 1) xs
one_taken xs i x lt is = drop_more xs i x lt ∙ ap (λ y. y ∷ drop (i + 1) xs) (sym is)

-- what an item makes goes behind what was made
pub put_one : {X Y : Type 0} (f : X → List Y) (xs : List X) (i : ℕ) (x : X) (before after whole : List Y) → i < length xs → x ≡ get_or xs i x → after ≡ before ++ f x
    → before ++ flat_map f (drop i xs) ≡ whole → after ++ flat_map f (drop (i + 1) xs) ≡ whole
put_one f xs i x before after whole lt is made so_far =
    let rest = flat_map f (drop (i + 1) xs) in
    ap (λ ys. ys ++ rest) made ∙ append_assoc before (f x) rest ∙ ap (λ us. before ++ flat_map f us) (sym (one_taken xs i x lt is)) ∙ so_far

pub put_all : {X Y : Type 0} (f : X → List Y) (xs : List X) (i : ℕ) (before whole : List Y) → length xs ≤ i → before ++ flat_map f (drop i xs) ≡ whole → before ≡ whole
put_all f xs i before whole past so_far = sym (append-nil before) ∙ ap (λ us. before ++ flat_map f us) (sym (drop_all i xs past)) ∙ so_far

-- one item for each item
pub map_one : {X Y : Type 0} (f : X → Y) (xs : List X) (i : ℕ) (x : X) (before after whole : List Y) → i < length xs → x ≡ get_or xs i x → after ≡ before ++ f x ∷ []
    → before ++ map f (drop i xs) ≡ whole → after ++ map f (drop (i + 1) xs) ≡ whole
map_one f xs i x before after whole lt is made so_far =
    let rest = map f (drop (i + 1) xs) in
    ap (λ ys. ys ++ rest) made ∙ append_assoc before (f x ∷ []) rest ∙ ap (λ us. before ++ map f us) (sym (one_taken xs i x lt is)) ∙ so_far

pub map_all : {X Y : Type 0} (f : X → Y) (xs : List X) (i : ℕ) (before whole : List Y) → length xs ≤ i → before ++ map f (drop i xs) ≡ whole → before ≡ whole
map_all f xs i before whole past so_far = sym (append-nil before) ∙ ap (λ us. before ++ map f us) (sym (drop_all i xs past)) ∙ so_far

-- of what an item gives and what was found so far the least is found
pub least_one : {X : Type 0} (f : X → List (List PathStep)) (xs : List X) (i : ℕ) (x : X) (before after whole : Option (List PathStep)) → i < length xs → x ≡ get_or xs i x → after ≡ least_with before (f x)
    → least_with before (flat_map f (drop i xs)) ≡ whole → least_with after (flat_map f (drop (i + 1) xs)) ≡ whole
least_one f xs i x before after whole lt is found so_far =
    let rest = flat_map f (drop (i + 1) xs) in
    ap (λ o. least_with o rest) found ∙ sym (least_append before (f x) rest) ∙ ap (λ us. least_with before (flat_map f us)) (sym (one_taken xs i x lt is)) ∙ so_far

pub least_all : {X : Type 0} (f : X → List (List PathStep)) (xs : List X) (i : ℕ) (before whole : Option (List PathStep)) → length xs ≤ i → least_with before (flat_map f (drop i xs)) ≡ whole → before ≡ whole
least_all f xs i before whole past so_far = ap (λ us. least_with before (flat_map f us)) (sym (drop_all i xs past)) ∙ so_far

-- a path is looked at, and then those that are left
pub path_one : (test : List PathStep → Bool) (path : List PathStep) (all left : List (List PathStep)) (before after whole : Option (List PathStep)) → all ≡ path ∷ left → after ≡ least_with before (filter test (path ∷ []))
    → least_with before (filter test all) ≡ whole → least_with after (filter test left) ≡ whole
path_one test path all left before after whole is found so_far =
    ap (λ o. least_with o (filter test left)) found ∙ sym (least_append before (filter test (path ∷ [])) (filter test left))
    ∙ ap (least_with before) (sym (filter_append test (path ∷ []) left)) ∙ ap (λ ps. least_with before (filter test ps)) (sym is) ∙ so_far

-- a row that doesn't pass a test isn't the first that does
pub passed_on : (test : NodeRow → Bool) (row : NodeRow) (rows left : List NodeRow) → rows ≡ row ∷ left → test row ≡ false
    → option_map (λ r. r.path.now) (find test rows) ≡ option_map (λ r. r.path.now) (find test left)
passed_on test row rows left is fails =
    ap (λ (rs : List NodeRow). option_map (λ (r : NodeRow). r.path.now) (find test rs)) is ∙ ap (λ b. option_map (λ (r : NodeRow). r.path.now) (cond b (Some row) (find test left))) fails
