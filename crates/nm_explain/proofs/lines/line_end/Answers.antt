use Rattle.std.proofs.Common.{rules}
use borrow.Author.Tests.{tests}
use Rattle.std.proofs.lemmas.Iterator.{YieldsList-from_slice}
use Rattle.std.proofs.lemmas.Iterator.Search.{position_from_yields_List}
use Rattle.nm_explain.specs.Lines.{is_break}
use Rattle.nm_explain.proofs.Places.{first_break}
use Rattle.nm_explain.proofs.lines.line_end.Goals as goal

pub returns-clause-value : goal.returns-clause-value
returns-clause-value c =
    let place = position_from_yields_List is_break _ _ _ c.position.ensures.ran (YieldsList-from_slice c.args.bytes.now c.iter.ensures.rest) (λ x b q k. search (rules, tests)) in
    first_break c.args.bytes.now c.unwrap_or.result c.position.result place c.unwrap_or.ensures
