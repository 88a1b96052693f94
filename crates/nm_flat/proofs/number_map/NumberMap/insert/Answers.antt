use Rattle.std.proofs.Common.{Result, Ok, Err, OnErr, ap, sym, ◌∙◌}
use Rattle.std.specs.FinMap as map
use Rattle.nm_flat.proofs.Maps.{get_number, one_inserted}
use Rattle.nm_flat.proofs.number_map.NumberMap.insert.Goals as goal

-- what holds, holds at an error
at_err : {A E : Type 0} (r : Result A E) (P : Type 0) → P → OnErr r P
at_err (Ok x) P p = tt
at_err (Err e) P p = p

pub returns-clause-before : goal.returns-clause-before
returns-clause-before g c = c.in_ok-insert.ensures.old ∙ sym (get_number c.self.inside.tree.entries c.args.number) ∙ ap (λ m. map.get m c.args.number) c.self.view_is

pub returns-clause-ok : goal.returns-clause-ok
returns-clause-ok g c = one_inserted c.self.inside.tree.entries c.insert.new.self.entries c.args.number c.args.value c.in_ok-insert.ensures.updates.0 ∙ ap (λ m. map.insert m c.args.number c.args.value) c.self.view_is

pub returns-in_err-insert-clause-only_new : goal.returns-in_err-insert-clause-only_new
returns-in_err-insert-clause-only_new g c = at_err _ _ (
    sym (ap (λ m. map.get m c.args.number) c.self.view_is) ∙ get_number c.self.inside.tree.entries c.args.number ∙ c.in_err-insert.ensures.absent)
