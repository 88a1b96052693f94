use Rattle.std.proofs.Common.{◌≡◌, [], drop}
use Rattle.serde_json.specs.View.{view, items_view}
use Rattle.nm_scenario_form.specs.Read.{read, items_after}
use Rattle.nm_scenario_form.proofs.items.read_items.Given as goal

-- what is left goes on from what was found
abbrev pub invariant-loop-place : goal.invariant-loop-place
invariant-loop-place g l =
    items_after (λ n part. read (g.R.ItemReader.form l.reader (view l.whole) n) part) l.found l.place (items_view (drop l.place l.items))
    ≡ items_after (λ n part. read (g.R.ItemReader.form l.fn.reader (view l.fn.whole) n) part) [] 0 (items_view l.fn.items)
