use Rattle.std.proofs.Common.{◌≡◌, ◌++◌, string_bytes, length}
use denote.Text.{Utf8}
use denote.Shadow.{shadow}
use Rattle.nm_explain.specs.Place as spec
use Rattle.nm_explain.proofs.led.outside.Given as goal

abbrev pub invariant-parts : goal.invariant-parts
invariant-parts l = shadow (Utf8 l.rest) × (string_bytes l.out ++ spec.outside l.rest ≡ spec.outside l.text)

abbrev pub decreases-parts : goal.decreases-parts
decreases-parts l = length l.rest
