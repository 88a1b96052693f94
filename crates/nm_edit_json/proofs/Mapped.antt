-- Whether there is something, whatever is made of it.
use Rattle.std.proofs.Common.{◌≡◌, Option, Some, None, is_some, option_map, refl}

pub some_mapped : {A B : Type 0} (f : A → B) (o : Option A) → is_some o ≡ is_some (option_map f o)
some_mapped f None = refl
some_mapped f (Some x) = refl
