use Rattle.std.proofs.Common.{◌∙◌, ap}
use Rattle.nm_path.specs.Reading.{name_len}
use Rattle.nm_path.proofs.Texts.{name-boundary}
use Rattle.nm_path.proofs.text.identifier_at.Goals as goal

pub split_at-requires : goal.split_at-requires
split_at-requires c = rw (c.name_len.ensures ∙ ap name_len c.as_bytes.ensures.value) (name-boundary c.args.text.now c.utf8.text)
