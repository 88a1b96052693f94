use Rattle.std.proofs.Common.{sym, subst, ◌∙◌}
use Rattle.nm_validate.proofs.Told.{rightly}
use Rattle.nm_validate_rules.specs.Reaches.{Covers}
use Rattle.nm_content.proofs.Covering.{differences_cover}
use Rattle.nm_content.proofs.touched.checked.Goals as goal

pub counted-requires-clause-valid : goal.counted-requires-clause-valid
counted-requires-clause-valid c = (rightly c.args.schema.now c.args.config.now.base c.requires.sound.tree).none.0 c.requires.base_valid

pub counted-requires-clause-covers : goal.counted-requires-clause-covers
counted-requires-clause-covers c =
    subst (λ touched. Covers touched c.args.config.now.base c.args.config.now.rows) (sym (c.deref.ensures.value ∙ c.in_ok-touched.ensures))
    (differences_cover c.args.config.now.base c.args.config.now.rows)
