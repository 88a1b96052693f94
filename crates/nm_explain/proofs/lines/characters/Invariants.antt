use Rattle.std.proofs.Common.{◌≡◌, ◌≤◌, ◌+◌, length}
use Rattle.nm_explain.specs.Lines.{characters_from}
use Rattle.nm_explain.proofs.lines.characters.Given as goal

abbrev pub invariant-loop-rest : goal.invariant-loop-rest
invariant-loop-rest l = (characters_from l.count l.rest ≡ characters_from 0 l.fn.text) × (l.count + length l.rest ≤ length l.fn.text)

abbrev pub decreases-loop-rest : goal.decreases-loop-rest
decreases-loop-rest l = length l.rest
