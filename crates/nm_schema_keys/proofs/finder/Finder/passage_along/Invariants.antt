use Rattle.std.proofs.Common.{◌≡◌, List, ℕ, Bor, map, length}
use Rattle.nm_schema_keys.specs.Uniques as spec
use Rattle.nm_schema_keys.proofs.finder.Finder.passage_along.Given as goal

-- the rows so far, before those that the pieces that are left lead through
abbrev pub invariant-loop-pieces : goal.invariant-loop-pieces
invariant-loop-pieces l = record {
  same : l.self ≡ l.initial.self;
  passage : spec.behind l.way (spec.passage_along l.initial.self.rows l.initial.self.groupings l.start.loses l.start.owner l.at (map (λ (t : Bor (List ℕ)). t.now) l.pieces)) ≡ spec.passage_along l.initial.self.rows l.initial.self.groupings l.start.loses l.start.owner l.start.list (map (λ (t : Bor (List ℕ)). t.now) l.fn.pieces);
}

abbrev pub decreases-loop-pieces : goal.decreases-loop-pieces
decreases-loop-pieces l = length l.pieces
