use Rattle.std.proofs.Common.{ap, sym, ◌∙◌}
use Rattle.std.specs.Prelude.{◌||◌}
use Rattle.std.specs.Ordering.{eq_by_cmp}
use Rattle.nm_types.specs.Chosen.{choice_of}
use Rattle.nm_types.specs.Path.{choice_cmp}
use Rattle.nm_config.specs.Under.{is_whole}
use Rattle.nm_access.proofs.Choices.{same_is}
use Rattle.nm_access.proofs.covers.takes_in.Goals as goal

pub returns-in-Keys : goal.returns-in-Keys
returns-in-Keys c =
    same_is (choice_of c.args.chosen.now) (choice_of c.args.other.now) c.same.result c.same.ensures
    ∙ ap (λ w. w || eq_by_cmp choice_cmp (choice_of c.args.chosen.now) (choice_of c.args.other.now))
    (ap (λ k. is_whole (choice_of k)) (sym c.in-Keys.is))

pub returns-in-Entry : goal.returns-in-Entry
returns-in-Entry c =
    same_is (choice_of c.args.chosen.now) (choice_of c.args.other.now) c.same-in-Entry.result c.same-in-Entry.ensures
    ∙ ap (λ w. w || eq_by_cmp choice_cmp (choice_of c.args.chosen.now) (choice_of c.args.other.now))
    (ap (λ k. is_whole (choice_of k)) (sym c.in-Entry.is))
