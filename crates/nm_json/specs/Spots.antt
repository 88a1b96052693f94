-- Spots as values.
use Rattle.nm_json.specs.declared.spot.Spot.{Spot as Held}
use Rattle.nm_json.specs.Findings.{Spot}

-- the spot, without where its parts lie
abbrev pub spot_of : Held → Spot
spot_of s = record { above = s.above.now; number = s.number; node = s.node.now }
