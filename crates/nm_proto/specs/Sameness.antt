-- What it is that a test says of two values that they are the same in some way (this project's own).
use Rattle.std.specs.Prelude.{◌≡◌, Bool, true}

-- what a test of sameness has to be: an equivalence
pub record IsSameness {A : Type 0} (same : A → A → Bool) : Type 0 where
  pub itself : (x : A) → same x x ≡ true
  pub turned : (x y : A) → same x y ≡ true → same y x ≡ true
  pub over : (x y z : A) → same x y ≡ true → same y z ≡ true → same x z ≡ true
