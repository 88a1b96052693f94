use Rattle.std.proofs.Common.{rules, ◌∙◌}
use borrow.Author.Tests.{tests}
use Rattle.std.specs.Char.{is_ascii_digit}
use Rattle.std.proofs.lemmas.Iterator.{YieldsList-from_slice}
use Rattle.std.proofs.lemmas.Iterator.Search.{all_from_yields_List}
use Rattle.nm_types.proofs.Integers.{list_all-digits, numeral_test}
use Rattle.nm_types.proofs.numeral.is_numeral.Goals as goal

pub returns-then-not-is_empty : goal.returns-then-not-is_empty
returns-then-not-is_empty c =
    let all = all_from_yields_List is_ascii_digit _ _ _ c.all.ensures.ran (YieldsList-from_slice c.args.text.now (c.iter.ensures.rest ∙ c.as_bytes.ensures.value)) (λ x b q k. search (rules, tests)) ∙ list_all-digits c.args.text.now in
    all ∙ numeral_test c.args.text.now c.if-not-is_empty.ensures
