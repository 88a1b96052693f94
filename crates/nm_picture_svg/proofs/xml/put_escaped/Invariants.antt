use Rattle.std.proofs.Common.{◌≡◌, ◌++◌, drop}
use Rattle.std.specs.List.{flat_map}
use Rattle.nm_picture_svg.specs.Xml.{escaped_byte}
use Rattle.nm_picture_svg.proofs.xml.put_escaped.Given as goal

-- what is written so far and what is left make all
abbrev pub invariant-loop-byte : goal.invariant-loop-byte
invariant-loop-byte l = l.out.items ++ flat_map escaped_byte (drop l.byte-index l.text) ≡ l.initial.out.items ++ flat_map escaped_byte l.initial.text
