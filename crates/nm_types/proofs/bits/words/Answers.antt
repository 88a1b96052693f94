use Rattle.std.proofs.Common.{rules, length, lit<}
use borrow.Author.Tests.{tests}
use Rattle.std.specs.Prelude.{not, ◌==◌}
use Rattle.std.proofs.lemmas.Iterator.Splits.{YieldsList-from_str_split}
use Rattle.std.proofs.lemmas.Iterator.Consumers.{YieldsList-from_filter, YieldsList-at, map_from_collect}
use Rattle.nm_types.specs.Reading.{words}
use Rattle.nm_types.proofs.bits.words.Goals as goal

pub returns : goal.returns
unfolding words
returns c = map_from_collect _ c.collect.ensures.ran (YieldsList-from_filter _ (λ w. not (length w == 0)) (YieldsList-at c.filter.ensures.source (YieldsList-from_str_split 32 c.args.text.now (lit< tt) c.split.ensures.text c.split.ensures.has_more c.split.ensures.pattern)) c.filter.ensures.closure (λ x r q k. search (rules, tests)))
