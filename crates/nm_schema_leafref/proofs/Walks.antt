-- Walks along paths.
use Rattle.std.proofs.Common.{◌≡◌, ◌<◌, ◌-◌, ℕ, zero, suc, List, [], ◌∷◌, refl, sym, ap, arith}
use Rattle.nm_schema_typing.specs.declared.leafref.NodeName.{NodeName}
use Rattle.nm_schema_nodes.specs.Expansion.{Expanded}
use Rattle.nm_schema_leafref.specs.declared.led.Spot.{Spot}
use Rattle.nm_schema_leafref.specs.declared.led.Spot.TheVariants as spot
use Rattle.nm_schema_leafref.specs.Walk.{above, raised, stepped, walked}

pub raised-next : (t : Expanded) (n : ℕ) (s : Spot) → 0 < n → raised t n s ≡ raised t (n - 1) (above t s)
raised-next t zero s lt = absurd (omega arith)
raised-next t (suc n) s lt = let e : suc n - 1 ≡ n = omega arith in ap (λ k. raised t k (above t s)) (sym e)

pub raised-missing : (t : Expanded) (n : ℕ) → raised t n spot.Missing ≡ spot.Missing
unfolding above
raised-missing t zero = refl
raised-missing t (suc n) = raised-missing t n

pub walked-missing : (t : Expanded) (w m : ℕ) (names : List NodeName) → walked t w m spot.Missing names ≡ spot.Missing
unfolding stepped
walked-missing t w m [] = refl
walked-missing t w m (n ∷ names) = walked-missing t w m names

pub walked-unknown : (t : Expanded) (w m : ℕ) (names : List NodeName) → walked t w m spot.Unknown names ≡ spot.Unknown
unfolding stepped
walked-unknown t w m [] = refl
walked-unknown t w m (n ∷ names) = walked-unknown t w m names
