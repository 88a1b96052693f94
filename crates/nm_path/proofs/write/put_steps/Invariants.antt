use Rattle.std.proofs.Common.{◌≡◌, ◌++◌, length}
use Rattle.std.specs.Prelude.{string_bytes}
use Rattle.nm_path.specs.declared.place.Place.TheVariants.{Top}
use Rattle.nm_path.specs.Form.{steps_text}
use Rattle.nm_path.specs.Written.{written, IsHeldPath}
use Rattle.nm_path.proofs.write.put_steps.Given as goal

abbrev pub invariant-steps : goal.invariant-steps
invariant-steps l = (string_bytes l.out ++ steps_text (written l.schema.nodes l.place l.rest) ≡ string_bytes l.fn.out ++ steps_text (written l.schema.nodes Top l.steps))
    × (IsHeldPath l.schema.nodes l.place l.rest → IsHeldPath l.schema.nodes Top l.steps)

abbrev pub decreases-steps : goal.decreases-steps
decreases-steps l = length l.rest
