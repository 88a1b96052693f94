use Rattle.std.proofs.Common.{◌≡◌, ◌+◌, ◌++◌, ◌∷◌, [], drop}
use Rattle.nm_notify.specs.Notices.{is_standing, notices_from, notices_in}
use Rattle.nm_notify.proofs.history.notices_of.Given as goal

-- the one subscriber has nothing left; the notices so far and those of the entries that are left are those of all
abbrev pub invariant-loop-entry : goal.invariant-loop-entry
invariant-loop-entry l = record {
  seen : l.stream.entries ≡ l.entry-index;
  alone : l.stream.left ≡ (l.subscriber, []) ∷ [];
  told : l.notices ++ notices_from (l.entry-index + 1) (is_standing l.before) (drop l.entry-index l.history) ≡ notices_in l.fn.history;
}
