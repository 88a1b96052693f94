use Rattle.std.proofs.Common.{rules, sym, ◌∙◌, arith}
use borrow.Author.Tests.{tests}
use Rattle.std.specs.Prelude.{nat_lt, ◌≡◌, false}
use Rattle.std.proofs.lemmas.Bool.Decides.{nat_tests}
use Rattle.std.proofs.lemmas.Iterator.{YieldsList-from_slice}
use Rattle.std.proofs.lemmas.Iterator.Search.{position_from_yields_List}
use Rattle.nm_schema_derive.specs.Form.{is_point}
use Rattle.nm_schema_derive.proofs.Texts.{at_point, without_point}
use Rattle.nm_schema_derive.proofs.form.scaled.Goals as goal

pub returns-in-Some : goal.returns-in-Some
returns-in-Some c =
    let place = position_from_yields_List is_point _ _ _ c.position.ensures.ran (YieldsList-from_slice c.args.text.now c.iter.ensures.rest) (λ x b q k. search (rules, tests)) in
    let few : nat_lt 18 c.args.digits ≡ false = grind (arith, nat_tests) in
    c.pointed.ensures ∙ at_point c.args.digits c.from-digits.result c.in-Some.place c.args.text.now c.from-digits.ensures few (sym c.in-Some.is ∙ place)

pub returns-in-None : goal.returns-in-None
returns-in-None c =
    let place = position_from_yields_List is_point _ _ _ c.position.ensures.ran (YieldsList-from_slice c.args.text.now c.iter.ensures.rest) (λ x b q k. search (rules, tests)) in
    let few : nat_lt 18 c.args.digits ≡ false = grind (arith, nat_tests) in
    c.whole.ensures ∙ without_point c.args.digits c.from-digits.result c.args.text.now c.from-digits.ensures few (sym c.in-None.is ∙ place)
