use Rattle.texts.proofs.Numerals.{numeral_decimal}
use Rattle.std.proofs.Common.{sym, ◌∙◌}
use Rattle.engines.proofs.kernels.number_of.Goals as goal

pub value-requires : goal.value-requires
value-requires c = numeral_decimal c.args.text.now (sym c.is_decimal.ensures ∙ c.if-is_decimal.true)
