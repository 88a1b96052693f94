use Rattle.std.proofs.Common.{rules, ◌-◌, ◌*◌, ◌^◌, min, length, ℕ, ap, sym, ◌∙◌, arith}
use Rattle.std.specs.Str.Parse.{digits_value_after}
use borrow.Author.Tests.{tests}
use Rattle.std.specs.Prelude.{◌==◌}
use Rattle.std.specs.Str.{all_ascii_digits}
use Rattle.std.proofs.lemmas.Iterator.{YieldsList-from_slice}
use Rattle.std.proofs.lemmas.Iterator.Search.{all_from_yields_List}
use Rattle.nm_types.proofs.Decimals.{all-take, scaled_some}
use Rattle.nm_types.proofs.decimal.scaled.Goals as goal

pub number_after-number-requires-clause-digits : goal.number_after-number-requires-clause-digits
number_after-number-requires-clause-digits c = ap all_ascii_digits c.split_at.ensures.front ∙ all-take c.min.result c.args.part.now c.requires.part

pub returns : goal.returns
returns c =
    let all = all_from_yields_List (λ b. b == 48) _ _ _ c.all.ensures.ran (YieldsList-from_slice c.split_at.result.1.now c.iter.ensures.rest) (λ x b q k. search (rules, tests)) in
    scaled_some c.args.digits c.min.result c.number_after-number.result c.moved_left.result c.args.whole.now c.args.part.now c.split_at.result.0.now c.split_at.result.1.now
    (omega (arith, c.min.ensures, c.from-digits.ensures)) c.split_at.ensures.front c.split_at.ensures.back (sym all ∙ c.if-not-all.false)
    (c.number_after-number.ensures ∙ ap (λ (n : ℕ). min (digits_value_after 10 n c.split_at.result.0.now) (2 ^ 64)) c.number_after.ensures)
    (c.moved_left.ensures ∙ ap (λ (d : ℕ). min (c.number_after-number.result * 10 ^ (d - length c.split_at.result.0.now)) (2 ^ 64)) c.from-digits.ensures)
