use Rattle.std.proofs.Common.{◌∙◌, sym, rules, tests}
use Rattle.texts.specs.Digits.{is_hexadecimal_digit}
use Rattle.std.proofs.lemmas.Iterator.Adapters.{YieldsList-from_bytes}
use Rattle.std.proofs.lemmas.Iterator.Search.{all_from_yields_List}
use Rattle.texts.proofs.Numerals.{are_digits-some}
use Rattle.texts.proofs.numbers.is_hexadecimal.Goals as goal

pub returns-then-not-is_empty : goal.returns-then-not-is_empty
returns-then-not-is_empty c =
    all_from_yields_List is_hexadecimal_digit _ _ _ c.all.ensures.ran (YieldsList-from_bytes c.args.text.now c.bytes.ensures.rest)
    (λ x b q k. search (rules, tests))
    ∙ are_digits-some is_hexadecimal_digit c.args.text.now (sym c.is_empty.ensures ∙ c.if-not-is_empty.true)
