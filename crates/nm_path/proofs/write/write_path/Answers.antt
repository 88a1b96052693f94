use Rattle.std.proofs.Common.{◌∙◌, sym}
use Rattle.std.specs.Prelude.{string_bytes}
use Rattle.nm_path.proofs.Writing.{text_law, spells_law}
use Rattle.nm_path.proofs.write.write_path.Goals as goal

pub returns : goal.returns
returns c =
    let same = sym c.path.view_is ∙ sym c.deref.ensures.value in
    let text = text_law c.new.result c.args.schema.now c.args.path.now c.deref.result.now c.as_str.result.now (string_bytes c.put_steps.new.out) (string_bytes c.new-out.result) c.new.ensures c.as_str.ensures.value c.in_ok-put_steps.ensures.text c.new-out.ensures.bytes same in
    record { text = text; spells = spells_law c.new.result c.args.schema.now c.args.path.now c.deref.result.now text c.in_ok-put_steps.ensures.held same }
