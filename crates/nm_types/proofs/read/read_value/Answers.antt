use Rattle.nm_types.proofs.Answers.{found_law, read_law, bad_text_law, not_spelled_law, out_of_range_law, beyond_law}
use Rattle.nm_types.proofs.read.read_value.Goals as goal

pub returns : goal.returns
returns c = record {
  found = found_law c.args.leaf_type.now c.args.text.now c.reading.result c.reading.ensures;
  read = read_law c.args.leaf_type.now c.args.text.now c.reading.result c.reading.ensures;
  bad_text = bad_text_law c.args.leaf_type.now c.args.text.now c.reading.result c.reading.ensures;
  not_spelled = not_spelled_law c.args.leaf_type.now c.args.text.now c.reading.result c.reading.ensures;
  out_of_range = out_of_range_law c.args.leaf_type.now c.args.text.now c.reading.result c.reading.ensures;
  beyond = beyond_law c.args.leaf_type.now c.args.text.now c.reading.result c.reading.ensures;
  exact = c.reading.ensures;
}
