use Rattle.std.proofs.Common.{◌≡◌, None, length}
use denote.Text.{Utf8}
use denote.Shadow.{shadow}
use Rattle.std.specs.List.{slice_split}
use Rattle.nm_explain.specs.Place as spec
use Rattle.nm_explain.proofs.led.led.Given as goal

abbrev pub invariant-steps : goal.invariant-steps
invariant-steps l = shadow (Utf8 l.rest) × (spec.led l.schema l.within (slice_split spec.is_slash l.rest) ≡ spec.led l.schema None (slice_split spec.is_slash l.steps))

abbrev pub decreases-steps : goal.decreases-steps
decreases-steps l = length l.rest
