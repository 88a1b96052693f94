use Rattle.std.proofs.Common.{◌∙◌, eqb, arith}
use Rattle.nm_schema_keys.proofs.Parting.{texts_same, split_more}
use Rattle.nm_schema_keys.proofs.words.pieces_each.Goals as goal

pub loop-text-preserved : goal.loop-text-preserved
loop-text-preserved c =
    texts_same c.in_ok-extend_from_slice.ensures.items
    ∙ split_more (λ b. eqb b c.args.mark) c.args.texts.now c.loop-text.text-index _ c.loop-text.all.items c.deref.result.now (omega arith) c.loop-text.invariant (texts_same c.deref.ensures.value ∙ c.in_ok-pieces.ensures)
