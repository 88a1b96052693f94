use Rattle.std.proofs.Common.{◌≡◌, ℕ, is_some, length}
use Rattle.nm_schema_keys.specs.ConfigUse.{ConfigUse, IsConfigUse}
use Rattle.nm_schema_keys.specs.Uniques.{unique_flaw}
use Rattle.nm_schema_keys.proofs.Flawing.{AreMarked}
use Rattle.nm_schema_keys.proofs.finder.Finder.marks.Given as goal

-- the rows so far are marked
abbrev pub invariant-loop-at : goal.invariant-loop-at
invariant-loop-at l = record {
  same : l.self ≡ l.initial.self;
  size : length l.marks.items ≡ l.at;
  marks : (standing : ConfigUse) → IsConfigUse l.initial.self.rows l.initial.self.groupings standing → AreMarked (λ (i : ℕ). is_some (unique_flaw l.initial.self.rows l.initial.self.groupings standing i)) l.at l.marks.items;
}
