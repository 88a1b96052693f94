use Rattle.nm_types.proofs.Written.{written}
use Rattle.nm_types.proofs.write.write_value.Goals as goal

pub returns : goal.returns
returns c = record {
  text = c.canonical_text.ensures.text;
  spells = written c.canonical_text.result c.args._leaf_type.now.kind c.args.value.now c.canonical_text.ensures.held c.canonical_text.ensures.text;
}
