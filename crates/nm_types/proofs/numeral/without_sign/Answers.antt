use Rattle.std.proofs.Common.{lit<}
use Rattle.std.proofs.lemmas.Str.Pattern.{strip_prefix_char}
use Rattle.nm_types.proofs.Integers.{no_sign}
use Rattle.nm_types.proofs.numeral.without_sign.Goals as goal

pub returns : goal.returns
returns c =
    let minus = strip_prefix_char 45 c.args.text.now c.strip_prefix.result c.strip_prefix.ensures.cases (lit< tt) in
    let plus = strip_prefix_char 43 c.args.text.now c.strip_prefix-2.result c.strip_prefix-2.ensures.cases (lit< tt) in
    no_sign c.args.text.now (rw c.in_default.is at minus) (rw c.in_default-strip_prefix.is at plus)
