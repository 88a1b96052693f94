use Rattle.std.proofs.Common.{ap, refl, ◌-◌, ◌==◌}
use Rattle.std.proofs.lemmas.Nat.Bits.{bit_at-zero}
use Rattle.nm_base.specs.Mask.{mask_contains}
use Rattle.nm_recovery.proofs.words.started_on.Goals as goal

pub loop-entry-init : goal.loop-entry-init
unfolding mask_contains
loop-entry-init c = record { value = refl; contains = λ change h. ap (λ b. b == 1) (bit_at-zero (change - 1)) }
