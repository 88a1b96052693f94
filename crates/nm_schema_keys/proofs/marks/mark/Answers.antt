use Rattle.std.proofs.Common.{◌∙◌, ◌<◌, ℕ, get_or, length, arith}
use Rattle.std.proofs.lemmas.List.{length-set}
use Rattle.std.proofs.lemmas.List.Elements.{All-contains, Contains-get_or}
use Rattle.nm_schema_keys.proofs.Marking.{marked_more}
use Rattle.nm_schema_keys.proofs.marks.mark.Goals as goal

pub loop-row-preserved : goal.loop-row-preserved
loop-row-preserved c =
    let test : c.loop-row.row-index < length c.args.rows.now = omega arith in
    let here : get_or c.args.rows.now c.loop-row.row-index 0 < length c.args.marks.now.items = All-contains (λ (row : ℕ). row < length c.args.marks.now.items) c.args.rows.now (get_or c.args.rows.now c.loop-row.row-index 0) c.requires (Contains-get_or c.args.rows.now c.loop-row.row-index 0 test) in
    let size = c.loop-row.invariant.size in
    let within : get_or c.args.rows.now c.loop-row.row-index 0 < length c.loop-row.marks.items = omega arith in
    record {
      size = length-set c.loop-row.marks.items _ _ ∙ size;
      marked = λ i. marked_more c.loop-row.marks.items c.args.marks.now.items c.args.rows.now c.loop-row.row-index i test within (c.loop-row.invariant.marked i);
    }
