use Rattle.nm_schema_derive.proofs.Texts.{moved-step}
use Rattle.std.proofs.Common.{◌∙◌, ap, ◌-◌, ◌+◌}
use Rattle.nm_schema_derive.specs.Form.{moved}
use Rattle.nm_schema_derive.proofs.form.moved.Goals as goal

pub loop-place-preserved : goal.loop-place-preserved
loop-place-preserved c =
    let fits = c.in_ok-value.ensures in
    ap (moved (c.args.places - (c.loop-place._place + 1))) fits.1 ∙ moved-step c.args.places c.loop-place._place c.loop-place.value c.loop-place-test.true fits.0 ∙ c.loop-place.invariant
