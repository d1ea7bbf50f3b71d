use Rattle.std.proofs.Common.{◌≡◌, ◌+◌, arith, sym, ◌∙◌}
use Rattle.rule_compile.proofs.HalvesLaws.{argument_outcome}
use Rattle.rule_compile.proofs.question.Question.of_argument.Goals as goal

pub returns-clause-met : goal.returns-clause-met
returns-clause-met c = λ r rec.
    let next : c.saturating_add.result ≡ c.args.low + 4 = grind (arith, c.saturating_add.ensures, c.requires.low) in
    let same = argument_outcome c.args.low c.saturating_add.result c.args.number c.halves-number.result.0 c.halves-number.result.1
    c.requires.low.0 next c.halves-number.ensures.low c.halves-number.ensures.high r rec c.args.comparison c.args.wanted in
    (λ met. sym same ∙ met, λ is. same ∙ is)
