use Rattle.std.proofs.Common.{sym, ◌∙◌}
use Rattle.texts.proofs.Numerals.{numeral_decimal}
use Rattle.texts.proofs.numbers.decimal.Goals as goal

pub value-requires-clause-digits : goal.value-requires-clause-digits
value-requires-clause-digits c = numeral_decimal c.args.text.now (sym c.is_decimal.ensures ∙ c.if-is_decimal.true)
