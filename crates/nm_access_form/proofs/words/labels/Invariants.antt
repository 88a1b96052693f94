use Rattle.std.proofs.Common.{◌≡◌, map, take}
use Rattle.nm_access_form.proofs.words.labels.Given as goal

-- the parts so far
abbrev pub invariant-loop-part : goal.invariant-loop-part
invariant-loop-part l = l.words.items ≡ map (λ part. part.now) (take l.part-index l.parts)
