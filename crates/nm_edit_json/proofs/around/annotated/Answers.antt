use Rattle.std.proofs.Common.{lit<}
use Rattle.std.proofs.lemmas.Str.Pattern.{strip_prefix_char}
use Rattle.nm_edit_json.proofs.Marks.{marked_or}
use Rattle.nm_edit_json.proofs.around.annotated.Goals as goal

pub returns : goal.returns
returns c = marked_or c.args.name.now c.strip_prefix.result (strip_prefix_char 64 c.args.name.now c.strip_prefix.result c.strip_prefix.ensures.cases (lit< tt))
