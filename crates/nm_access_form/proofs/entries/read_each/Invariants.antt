use Rattle.std.proofs.Common.{◌≡◌, []}
use Rattle.serde_json.specs.View.{view, members_view}
use Rattle.nm_scenario_form.specs.Read.{read}
use Rattle.nm_access_form.specs.Entries.{entries_read}
use Rattle.nm_access_form.proofs.entries.read_each.Given as goal

-- what is left goes on from what was found
abbrev pub invariant-loop-name : goal.invariant-loop-name
invariant-loop-name g l =
    (goal.iterator-loop-name g).can_next l.name-iterator ×
    (goal.iterator-loop-name g).is_finite l.name-iterator ×
    (entries_read (λ name part. read (g.R.EntryReader.form l.reader name) part) (view l.whole) l.found (members_view l.name-iterator)
    ≡ entries_read (λ name part. read (g.R.EntryReader.form l.fn.reader name) part) (view l.fn.whole) [] (members_view l.fn.members.entries))
