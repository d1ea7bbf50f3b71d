use Rattle.std.proofs.Common.{◌/◌, ap, sym, ◌∙◌}
use Rattle.std.specs.Prelude.{slice_index}
use Rattle.rule_compile.specs.Questions.{compares}
use Rattle.rule_compile.proofs.HalvesLaws.{whole_question, whole_word}
use Rattle.rule_compile.proofs.question.Question.of_word.Goals as goal

pub returns-clause-met : goal.returns-clause-met
returns-clause-met c = λ r rec.
    let same = ap (compares c.args.comparison c.args.number)
    (whole_word (slice_index r (c.args.word / 4)) (rec.words (c.args.word / 4))) in
    (λ met. sym same ∙ met, λ is. same ∙ is)

pub returns-clause-is : goal.returns-clause-is
returns-clause-is c = whole_question c.args.word c.args.number c.args.comparison c.args.wanted c.requires
