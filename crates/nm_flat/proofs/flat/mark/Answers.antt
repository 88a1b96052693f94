use Rattle.std.proofs.Common.{not, ap, subst, sym, ◌∙◌}
use Rattle.std.specs.FinMap as map
use Rattle.nm_proto.specs.Content.{is_taken}
use Rattle.nm_flat.specs.Flat.{MarksInRange, marked}
use Rattle.nm_flat.proofs.MarkLemmas.{kept_in_range, insert_in_range}
use Rattle.nm_flat.proofs.flat.mark.Goals as goal

pub returns-clause-value : goal.returns-clause-value
returns-clause-value c =
    c.in_ok-insert.ensures.ok
    ∙ ap (λ m. map.insert m c.get-add.result tt) (c.take_marks.ensures ∙ ap (λ m. map.retain_keys m (λ n. not (is_taken c.in-Some.marks n))) c.in_ok-new.ensures)
    ∙ ap (λ k. map.insert (map.retain_keys c.args.old.now (λ n. not (is_taken c.in-Some.marks n))) k tt) c.get-add.ensures.value
    ∙ ap (marked c.args.old.now) (sym c.in-Some.is)

pub returns-clause-in_range : goal.returns-clause-in_range
returns-clause-in_range c =
    insert_in_range c.take_marks.new.all c.insert.new.self c.get-add.result
    (kept_in_range c.in-Some.marks c.in_ok-new.new c.take_marks.new.all (subst MarksInRange (sym c.in_ok-new.ensures) c.requires) c.take_marks.ensures)
    (c.get-add.ensures.low, c.get-add.ensures.high) c.in_ok-insert.ensures.ok
