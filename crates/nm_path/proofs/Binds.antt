-- Readers one after the other: what their parts gave where the whole gave something.
use Rattle.std.proofs.Common.{◌≡◌, ℕ, Bool, true, false, cond, List, ◌++◌, Option, Some, None, refl, sym, ap}
use Rattle.std.proofs.lemmas.Option.{same_Some, none-some}
use Rattle.nm_path.specs.Reading.{◌>>=◌, with_front, all_with_front}

pub bind_some : {A B : Type 0} (o : Option A) (f : A → Option B) (y : B) → (o >>= f) ≡ Some y → (x : A) × (o ≡ Some x) × (f x ≡ Some y)
bind_some None f y e = absurd (none-some y e)
bind_some (Some x) f y e = (x, refl, e)

pub guard_some : {A : Type 0} (b : Bool) (x y : A) → cond b (Some x) None ≡ Some y → (b ≡ true) × (x ≡ y)
guard_some true x y e = (refl, same_Some x y e)
guard_some false x y e = absurd (none-some y e)

pub guard_bind : {A : Type 0} (b : Bool) (o : Option A) (y : A) → cond b o None ≡ Some y → (b ≡ true) × (o ≡ Some y)
guard_bind true o y e = (refl, e)
guard_bind false o y e = absurd (none-some y e)

pub else_bind : {A : Type 0} (b : Bool) (o : Option A) (y : A) → cond b None o ≡ Some y → (b ≡ false) × (o ≡ Some y)
else_bind true o y e = absurd (none-some y e)
else_bind false o y e = (refl, e)

pub with_front-some : {X : Type 0} (f : List X) (o : Option (List X × List ℕ)) (y : List X × List ℕ) → with_front f o ≡ Some y → (w : List X) × (o ≡ Some (w, y.1)) × (y.0 ≡ f ++ w)
with_front-some {X = X} f None y e = absurd (none-some y e)
with_front-some {X = X} f (Some x) y e =
    let same = same_Some (f ++ x.0, x.1) y e in
    (x.0, ap (λ (r : List ℕ). Some (x.0, r)) (ap (λ (p : List X × List ℕ). p.1) same), sym (ap (λ (p : List X × List ℕ). p.0) same))

pub all_front-some : {X : Type 0} (f : List X) (o : Option (List X)) (y : List X) → all_with_front f o ≡ Some y → (w : List X) × (o ≡ Some w) × (y ≡ f ++ w)
all_front-some f None y e = absurd (none-some y e)
all_front-some f (Some x) y e = (x, refl, sym (same_Some (f ++ x) y e))
