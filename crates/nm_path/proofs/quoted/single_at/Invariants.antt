use Rattle.std.proofs.Common.{◌≡◌, ◌≤◌, false, length}
use Rattle.std.specs.Prelude.{IsUtf8, string_bytes}
use Rattle.nm_path.specs.Reading.{with_front, single_at}
use Rattle.nm_path.proofs.quoted.single_at.Given as goal

abbrev pub invariant-parts : goal.invariant-parts
invariant-parts l = (with_front (string_bytes l.value) (single_at false l.rest) ≡ single_at false l.text) × (length l.rest ≤ length l.text) × IsUtf8 l.rest

abbrev pub decreases-parts : goal.decreases-parts
decreases-parts l = length l.rest
