use Rattle.std.proofs.Common.{◌≡◌, ◌++◌, length}
use Rattle.std.specs.Prelude.{IsUtf8, string_bytes}
use Rattle.nm_path.specs.Form.{doubled}
use Rattle.nm_path.proofs.write.put_doubled.Given as goal

abbrev pub invariant-parts : goal.invariant-parts
invariant-parts l = (string_bytes l.out ++ doubled l.rest ≡ string_bytes l.fn.out ++ doubled l.text) × IsUtf8 l.rest

abbrev pub decreases-parts : goal.decreases-parts
decreases-parts l = length l.rest
