use Rattle.std.proofs.Common.{◌+◌, ◌∷◌, List, map, drop, Bor, ap, sym, ◌∙◌}
use Rattle.std.proofs.lemmas.List.{drop_more}
use Rattle.nm_types.specs.Path.{PathStep}
use Rattle.nm_validate_places.specs.Least.{least_with}
use Rattle.nm_validate_unique.specs.Repeated.{repeated}
use Rattle.nm_validate_unique.proofs.Repeated.{seen_on}
use Rattle.nm_validate_unique.proofs.unique.least_repeated.Goals as goal

pub returns-then-apart : goal.returns-then-apart
returns-then-apart g c = ap (least_with c.args.found) (sym (c.in_ok-apart.ensures c.if-apart.true))

pub see-requires-clause-rows : goal.see-requires-clause-rows
see-requires-clause-rows g c = c.from_first-near.ensures (g.M.RowMap.rows c.args.config.now) c.loop-entry.invariant.0

pub loop-entry-preserved : goal.loop-entry-preserved
loop-entry-preserved g c =
    let t = c.args.schema.now in
    let rows = g.M.RowMap.rows c.args.config.now in
    let leafs = c.args.leafs.now in
    let entries = c.args.entries.now in
    let more = drop (c.loop-entry.entry-index + 1) entries in
    let next = drop_more entries c.loop-entry.entry-index c.entry-item.result c.loop-entry-test.true ∙ ap (λ (x : Bor (List PathStep)). x ∷ more) (sym c.entry-item.is) in (
      c.behind_first-rest.ensures rows (c.from_first-near.ensures rows c.loop-entry.invariant.0),
      seen_on t rows leafs c.loop-entry.seen c.see.new.seen c.entry-item.result.now (map (λ entry. entry.now) more) c.loop-entry.least c.in_ok-least.least c.in_ok-repeats.repeats
          c.in_ok-repeats.ensures.told c.in_ok-repeats.ensures.seen c.in_ok-least.ensures
          ∙ ap (λ es. least_with c.loop-entry.least (repeated t rows leafs c.loop-entry.seen (map (λ (entry : Bor (List PathStep)). entry.now) es))) (sym next) ∙ c.loop-entry.invariant.1,
    )
