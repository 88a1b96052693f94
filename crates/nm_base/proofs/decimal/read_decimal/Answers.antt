use Rattle.std.proofs.Common.{ap, sym, ◌∙◌}
use Rattle.nm_base.specs.Decimal.{number_of}
use Rattle.nm_base.proofs.Decimals.{spells_if, decimal_is_read}
use Rattle.nm_base.proofs.decimal.read_decimal.Goals as goal

pub returns-clause-spelling : goal.returns-clause-spelling
returns-clause-spelling c = spells_if c.args.text.now c.number.result c.number.ensures

pub returns-clause-read_back : goal.returns-clause-read_back
returns-clause-read_back c n fits spelt = c.number.ensures ∙ ap number_of spelt ∙ decimal_is_read n fits
