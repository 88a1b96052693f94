use Rattle.std.proofs.Common.{length, ap, sym, ◌∙◌, arith}
use Rattle.std.proofs.lemmas.List.{length-map}
use Rattle.std.specs.FinMap.{len-entries}
use Rattle.std.specs.Map.Iter.{deref_pair}
use Rattle.nm_edit.proofs.limit.count.Goals as goal

pub returns : goal.returns
returns g c =
    let rows = g.M.RowMap.rows c.args.rows.now in
    let e = sym (length-map c.in_ok-listed.listed.items deref_pair) ∙ ap length c.in_ok-listed.ensures ∙ sym (len-entries rows) in
    grind (arith, c.len.ensures, c.in_ok-listed.listed.ok, e)
