use Rattle.std.proofs.Common.{◌≡◌, ◌-◌}
use Rattle.nm_schema_derive.specs.Form.{moved}
use Rattle.nm_schema_derive.proofs.form.moved.Given as goal

-- what is left goes on from the value so far
abbrev pub invariant-loop-place : goal.invariant-loop-place
invariant-loop-place l = moved (l.places - l._place) l.value ≡ moved l.places l.number
