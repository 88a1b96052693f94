use Rattle.std.proofs.Common.{rules}
use borrow.Author.Tests.{tests}
use Rattle.std.proofs.lemmas.Iterator.{YieldsList-from_slice}
use Rattle.std.proofs.lemmas.Iterator.Search.{position_from_yields_List}
use Rattle.nm_schema_derive.specs.Blank.{is_solid}
use Rattle.nm_schema_derive.proofs.Texts.{first_solid}
use Rattle.nm_schema_derive.proofs.blank.leading.Goals as goal

pub returns-clause-count : goal.returns-clause-count
returns-clause-count c =
    let place = position_from_yields_List is_solid _ _ _ c.position.ensures.ran (YieldsList-from_slice c.args.text.now c.iter.ensures.rest) (λ x b q k. search (rules, tests)) in
    first_solid c.args.text.now c.unwrap_or.result c.position.result place c.unwrap_or.ensures
