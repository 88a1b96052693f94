-- Values that are all there, one more at a time.
use Rattle.std.proofs.Common.{◌≡◌, List, [], ◌∷◌, ◌++◌, Option, Some, None, option_map, refl, sym, ap, ◌∙◌, append_assoc}
use Rattle.nm_validate_rules.specs.Values.{all_there}

all_on : {X : Type 0} (o : Option (List X)) (xs : List X) (x : X) → option_map (λ more. (xs ++ x ∷ []) ++ more) o ≡ option_map (λ more. xs ++ more) (option_map (λ more. x ∷ more) o)
all_on None xs x = refl
all_on (Some ys) xs x = ap Some (append_assoc xs (x ∷ []) ys)

-- one value more is there
pub all_more : {X : Type 0} (o : Option X) (os : List (Option X)) (x : X) (xs after : List X) → o ≡ Some x → after ≡ xs ++ x ∷ []
    → option_map (λ more. after ++ more) (all_there os) ≡ option_map (λ more. xs ++ more) (all_there (o ∷ os))
all_more o os x xs after is e =
    ap (λ l. option_map (λ more. l ++ more) (all_there os)) e ∙ all_on (all_there os) xs x ∙ ap (λ p. option_map (λ more. xs ++ more) (all_there (p ∷ os))) (sym is)

-- one isn't
pub all_less : {X : Type 0} (o : Option X) (os : List (Option X)) (xs : List X) → o ≡ None → option_map (λ more. xs ++ more) (all_there (o ∷ os)) ≡ None
all_less o os xs is = ap (λ p. option_map (λ more. xs ++ more) (all_there (p ∷ os))) is
