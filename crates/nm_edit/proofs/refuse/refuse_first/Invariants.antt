use Rattle.std.proofs.Common.{◌≡◌, drop}
use Rattle.nm_edit.specs.Refusals.{first_refusal}
use Rattle.nm_edit.proofs.refuse.refuse_first.Given as goal

abbrev pub invariant-loop-act : goal.invariant-loop-act
invariant-loop-act g l = first_refusal l.schema (g.M.RowMap.rows l.config) (drop l.act-index l.acts) ≡ first_refusal l.schema (g.M.RowMap.rows l.config) l.acts
