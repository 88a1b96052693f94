use Rattle.std.proofs.Common.{◌≡◌, ◌++◌, length}
use Rattle.std.specs.Prelude.{string_bytes}
use Rattle.nm_path.specs.Form.{predicates_text}
use Rattle.nm_path.specs.Written.{written_keys, AreHeld}
use Rattle.nm_path.proofs.write.put_keys.Given as goal

abbrev pub invariant-keys : goal.invariant-keys
invariant-keys l = (string_bytes l.out ++ predicates_text (written_keys l.schema.nodes l.keys_left l.values_left) ≡ string_bytes l.fn.out ++ predicates_text (written_keys l.schema.nodes l.keys l.values))
    × (AreHeld l.keys_left l.values_left → AreHeld l.keys l.values)

abbrev pub decreases-keys : goal.decreases-keys
decreases-keys l = length l.keys_left
