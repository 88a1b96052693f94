use Rattle.nm_path.proofs.Answering.{found_law, full_law, read_law, unknown_law, not_known_law, bad_text_law, neither_law}
use Rattle.nm_path.proofs.read.read_path.Goals as goal

pub returns : goal.returns
returns c = record {
  found = found_law c.args.schema.now c.args.text.now c.path_of.result c.path_of.ensures;
  read = read_law c.args.schema.now c.args.text.now c.path_of.result c.path_of.ensures;
  unknown = unknown_law c.args.schema.now c.args.text.now c.path_of.result c.path_of.ensures;
  not_known = not_known_law c.args.schema.now c.args.text.now c.path_of.result c.path_of.ensures;
  bad_text = bad_text_law c.args.schema.now c.args.text.now c.path_of.result c.path_of.ensures;
  neither = neither_law c.args.schema.now c.args.text.now c.path_of.result c.path_of.ensures;
  full = full_law c.args.schema.now c.args.text.now c.path_of.result c.path_of.ensures;
  exact = c.path_of.ensures;
}
