use Rattle.std.proofs.Common.{◌≡◌, map}
use Rattle.std.specs.List.{list_all}
use Rattle.std.specs.FinMap.{contains_key, keys}
use Rattle.nm_flat.proofs.flat.has_marks_of.Given as goal

-- the marks that are left decide, as all do
abbrev pub invariant-loop-mark : goal.invariant-loop-mark
invariant-loop-mark l = record {
  can : (goal.iterator-loop-mark).can_next l.mark-iterator;
  finite : (goal.iterator-loop-mark).is_finite l.mark-iterator;
  left : list_all (contains_key l.other) (map (λ e. e.0) l.mark-iterator) ≡ list_all (contains_key l.other) (keys l.one);
}
