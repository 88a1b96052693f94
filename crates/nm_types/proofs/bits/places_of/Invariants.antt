use Rattle.std.proofs.Common.{◌≡◌, true, map, take, nat_cmp}
use Rattle.std.specs.BTreeSet.{IsOrdered}
use Rattle.nm_types.specs.Names.{Chooses}
use Rattle.nm_types.specs.Reading.{are_bits}
use Rattle.nm_types.proofs.bits.places_of.Given as goal

-- the words so far are names, each once, and the places are theirs
abbrev pub invariant-loop-word : goal.invariant-loop-word
invariant-loop-word l = record {
  bits : are_bits l.names (map (λ word. word.now) (take l.word-index l.words)) ≡ true;
  places : Chooses l.names (map (λ word. word.now) (take l.word-index l.words)) l.places;
  ordered : IsOrdered nat_cmp l.places;
}
