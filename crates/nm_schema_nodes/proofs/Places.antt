-- The places of items that pass a test.
use Rattle.std.proofs.Common.{◌≡◌, ◌<◌, ◌≤◌, ◌+◌, ◌∙◌, ℕ, zero, suc, List, [], ◌∷◌, ◌++◌, length, map, filter, Bool, true, false, Option, Some, slice_get, if◌then◌else◌, refl, ap, arith}
use Rattle.nm_schema_nodes.specs.declared.instance.Instance.{Instance}
use Rattle.nm_schema_nodes.specs.Expansion.{places_of, row_in, row_of}
use Rattle.nm_schema_nodes.specs.Growing.{its_row}

pub slice_get-left : {X : Type 0} (xs ys : List X) (i : ℕ) → i < length xs → slice_get (xs ++ ys) i ≡ slice_get xs i
slice_get-left [] ys i lt = absurd (omega (arith, lt))
slice_get-left (x ∷ xs) ys zero lt = refl
slice_get-left (x ∷ xs) ys (suc i) lt = slice_get-left xs ys i (omega (arith, lt))

pub slice_get-right : {X : Type 0} (xs ys : List X) (i : ℕ) → length xs ≤ i → (k : ℕ) × (slice_get (xs ++ ys) i ≡ slice_get ys k)
slice_get-right [] ys i le = (i, refl)
slice_get-right (x ∷ xs) ys zero le = absurd (omega (arith, le))
slice_get-right (x ∷ xs) ys (suc i) le = slice_get-right xs ys i (omega (arith, le))

cons-rows : (passes : Bool) (f : ℕ → Option ℕ) (n : ℕ) (numbers : List ℕ) (node : Instance) (nodes : List Instance) → f n ≡ Some node.row → map f numbers ≡ map (λ row. Some row) (map its_row nodes)
    → map f (if passes then n ∷ numbers else numbers) ≡ map (λ row. Some row) (map its_row (if passes then node ∷ nodes else nodes))
unfolding its_row
cons-rows true f n numbers node nodes first others = rw (first, others) refl
cons-rows false f n numbers node nodes first others = others

places-from : (f : ℕ → Option ℕ) (test : Instance → Bool) (n : ℕ) (nodes : List Instance) → ((k : ℕ) → f (n + k) ≡ row_in (slice_get nodes k)) → map f (places_of test n nodes) ≡ map (λ row. Some row) (map its_row (filter test nodes))
unfolding places_of
places-from f test n [] each = refl
places-from f test n (node ∷ nodes) each =
    cons-rows (test node) f n (places_of test (suc n) nodes) node (filter test nodes) (ap f (omega arith) ∙ each 0) (places-from f test (suc n) nodes (λ k. ap f (omega arith) ∙ each (suc k)))

-- the rows of the nodes at these places are those of the nodes that pass the test
pub places-rows : (test : Instance → Bool) (nodes : List Instance) → map (row_of nodes) (places_of test 0 nodes) ≡ map (λ row. Some row) (map its_row (filter test nodes))
unfolding row_of
places-rows test nodes = places-from (row_of nodes) test 0 nodes (λ k. ap (λ i. row_in (slice_get nodes i)) (omega arith))

push-cases : (passes : Bool) (n : ℕ) (numbers others more : List ℕ) → others ≡ numbers ++ more → (if passes then n ∷ others else others) ≡ (if passes then n ∷ numbers else numbers) ++ more
push-cases true n numbers others more is = rw is refl
push-cases false n numbers others more is = is

-- one item more
pub places-push : {X : Type 0} (test : X → Bool) (n m : ℕ) (xs : List X) (x : X) → m ≡ n + length xs → places_of test n (xs ++ x ∷ []) ≡ places_of test n xs ++ (if test x then m ∷ [] else [])
unfolding places_of
places-push test n m [] x is = let e : m ≡ n = omega arith in rw e refl
places-push test n m (y ∷ xs) x is =
    push-cases (test y) n (places_of test (suc n) xs) (places_of test (suc n) (xs ++ x ∷ [])) (if test x then m ∷ [] else []) (places-push test (suc n) m xs x (omega (arith, is)))

-- none passes past the end
pub places-nil : {X : Type 0} (test : X → Bool) (n : ℕ) → places_of test n [] ≡ []
unfolding places_of
places-nil test n = refl
