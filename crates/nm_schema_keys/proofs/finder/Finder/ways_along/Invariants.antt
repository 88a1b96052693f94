use Rattle.std.proofs.Common.{◌≡◌, List, ℕ, Bor, map, drop}
use Rattle.nm_graph.specs.Value.{all_there}
use Rattle.nm_schema_keys.specs.Uniques as spec
use Rattle.nm_schema_keys.proofs.Ways.{in_front}
use Rattle.nm_schema_keys.proofs.finder.Finder.ways_along.Given as goal

-- the ways so far, before those of the words that are left
abbrev pub invariant-loop-word : goal.invariant-loop-word
invariant-loop-word l = record {
  same : l.self ≡ l.initial.self;
  ways : in_front l.ways.items (all_there (map (spec.way_of l.initial.self.rows l.initial.self.groupings l.start.loses l.start.owner l.start.list) (map (λ (t : Bor (List ℕ)). t.now) (drop l.word-index l.words)))) ≡ all_there (map (spec.way_of l.initial.self.rows l.initial.self.groupings l.start.loses l.start.owner l.start.list) (map (λ (t : Bor (List ℕ)). t.now) l.words));
}
