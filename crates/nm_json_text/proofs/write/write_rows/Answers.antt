use Rattle.std.proofs.Common.{◌≡◌, ◌∙◌, IfOk, ap, subst}
use Rattle.std.proofs.Common.{map as each}
use Rattle.std.specs.Map.Iter.{deref_pair}
use Rattle.nm_json_text.proofs.Whole.{listed_text, again_text}
use Rattle.nm_json_text.proofs.write.write_rows.Goals as goal

pub returns-in-Ok : goal.returns-in-Ok
returns-in-Ok g c =
    listed_text c.args.schema.now (g.M.RowMap.rows c.args.rows.now) (each deref_pair c.deref.result.now) c.in-Ok.text.items
    (ap (each deref_pair) c.deref.ensures.value ∙ c.in_ok-listed.ensures) c.in-Ok.ensures

pub returns-in-Err-OutOfOrder : goal.returns-in-Err-OutOfOrder
returns-in-Err-OutOfOrder g c =
    subst (λ u. IfOk c.text_of_value.result (λ text. text.items ≡ u))
    (again_text c.args.schema.now (g.M.RowMap.rows c.args.rows.now) (each deref_pair c.deref-in-Err-OutOfOrder.result.now)
    (ap (each deref_pair) c.deref-in-Err-OutOfOrder.ensures.value ∙ c.in_ok-listed.ensures)) c.text_of_value.ensures
