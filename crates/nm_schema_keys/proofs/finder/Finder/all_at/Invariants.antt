use Rattle.std.proofs.Common.{◌≡◌, map, drop}
use Rattle.nm_graph.specs.Value.{all_there}
use Rattle.nm_schema_keys.specs.ConfigUse.{ConfigUse, IsConfigUse}
use Rattle.nm_schema_keys.specs.Uniques.{unique_at}
use Rattle.nm_schema_keys.proofs.Ways.{in_front}
use Rattle.nm_schema_keys.proofs.finder.Finder.all_at.Given as goal

-- what the statements so far say, before what those that are left say
abbrev pub invariant-loop-at : goal.invariant-loop-at
invariant-loop-at l = record {
  same : l.self ≡ l.initial.self;
  uniques : (standing : ConfigUse) → IsConfigUse l.initial.self.rows l.initial.self.groupings standing
      → in_front l.all.items (all_there (map (unique_at l.initial.self.rows l.initial.self.groupings standing) (drop l.at-index l.numbers))) ≡ all_there (map (unique_at l.initial.self.rows l.initial.self.groupings standing) l.numbers);
}
