use Rattle.std.proofs.Common.{sym, ◌∙◌}
use Rattle.texts.proofs.Numerals.{numeral_hexadecimal}
use Rattle.texts.proofs.numbers.hexadecimal.Goals as goal

pub value-requires-clause-digits : goal.value-requires-clause-digits
value-requires-clause-digits c = numeral_hexadecimal c.args.text.now (sym c.is_hexadecimal.ensures ∙ c.if-is_hexadecimal.true)
