use Rattle.std.proofs.Common.{◌≡◌, List, ℕ, Bor, map, drop}
use Rattle.std.specs.List.{find}
use Rattle.nm_schema_keys.specs.Uniques as spec
use Rattle.nm_schema_keys.proofs.finder.Finder.first_astray.Given as goal

-- the words so far lead somewhere
abbrev pub invariant-loop-word : goal.invariant-loop-word
invariant-loop-word l = record {
  same : l.self ≡ l.initial.self;
  word : find (spec.leads_nowhere l.initial.self.rows l.initial.self.groupings l.start.loses l.start.owner l.start.list) (map (λ (t : Bor (List ℕ)). t.now) (drop l.word-index l.words)) ≡ find (spec.leads_nowhere l.initial.self.rows l.initial.self.groupings l.start.loses l.start.owner l.start.list) (map (λ (t : Bor (List ℕ)). t.now) l.words);
}
