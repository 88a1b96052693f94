use Rattle.std.proofs.Common.{◌≡◌, take, map, fold, get_or, []}
use Rattle.std.specs.String.{string_bytes}
use Rattle.nm_types.specs.Reading.{spaced}
use Rattle.nm_types.proofs.bits.text_at.Given as goal

abbrev pub invariant-loop-place : goal.invariant-loop-place
invariant-loop-place l = string_bytes l.text ≡ fold spaced [] (map (λ place. get_or l.names place []) (take l.place-index l.places))
