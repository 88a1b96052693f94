use Rattle.std.proofs.Common.{rules, reverse, ap, ◌∙◌, sym}
use Rattle.std.specs.Option.{unwrap_or}
use borrow.Author.Tests.{tests}
use Rattle.std.proofs.lemmas.Iterator.Adapters.{YieldsList-from_rev_slice}
use Rattle.std.proofs.lemmas.Iterator.Search.{position_from_yields_List}
use Rattle.std.proofs.lemmas.List.{length-reverse}
use Rattle.nm_schema_derive.specs.Blank.{is_solid}
use Rattle.nm_schema_derive.proofs.Texts.{first_solid}
use Rattle.nm_schema_derive.proofs.blank.trailing.Goals as goal

pub returns-clause-count : goal.returns-clause-count
returns-clause-count c =
    let place = position_from_yields_List is_solid _ _ _ c.position.ensures.ran (YieldsList-from_rev_slice c.args.text.now (search (rules, c.rev.ensures.source, c.iter.ensures.rest))) (λ x b q k. search (rules, tests)) in
    first_solid (reverse c.args.text.now) c.unwrap_or.result c.position.result place (c.unwrap_or.ensures ∙ ap (unwrap_or c.position.result) (sym (length-reverse c.args.text.now)))
