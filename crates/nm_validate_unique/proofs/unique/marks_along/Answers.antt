use Rattle.std.proofs.Common.{◌+◌, ◌∷◌, ◌++◌, List, map, drop, Bor, ap, sym, ◌∙◌}
use Rattle.std.proofs.lemmas.List.{drop_more}
use Rattle.nm_types.specs.Path.{PathStep}
use Rattle.nm_validate_unique.specs.Marks.{marks_in}
use Rattle.nm_validate_unique.proofs.Apart.{marks_on}
use Rattle.nm_validate_unique.proofs.unique.marks_along.Goals as goal

pub put_mark-requires-clause-rows : goal.put_mark-requires-clause-rows
put_mark-requires-clause-rows g c = c.from_first-near.ensures (g.M.RowMap.rows c.args.config.now) c.loop-entry.invariant.0

pub loop-entry-preserved : goal.loop-entry-preserved
loop-entry-preserved g c =
    let t = c.args.schema.now in
    let rows = g.M.RowMap.rows c.args.config.now in
    let leafs = map (λ way. way.leaf) c.args.ways.now in
    let entries = c.args.entries.now in
    let more = drop (c.loop-entry.entry-index + 1) entries in
    let next = drop_more entries c.loop-entry.entry-index c.entry-item.result c.loop-entry-test.true ∙ ap (λ (x : Bor (List PathStep)). x ∷ more) (sym c.entry-item.is) in (
      c.behind_first-rest.ensures rows (c.from_first-near.ensures rows c.loop-entry.invariant.0),
      marks_on t rows leafs c.entry-item.result.now (map (λ entry. entry.now) more) c.loop-entry.marks.items c.put_mark.new.marks.items _ c.in_ok-put_mark.ensures
          (ap (λ es. c.loop-entry.marks.items ++ marks_in t rows leafs (map (λ (entry : Bor (List PathStep)). entry.now) es)) (sym next) ∙ c.loop-entry.invariant.1),
    )
