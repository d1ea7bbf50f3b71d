use Rattle.std.proofs.Common.{◌/◌}
use Rattle.std.specs.Prelude.{⊤, bit_and, slice_index}
use Rattle.std.proofs.lemmas.Bool.{eq-eqb, eqb-true}
use Rattle.rule_compile.proofs.AskedLaws.{asks_like, on_ok}
use Rattle.rule_compile.proofs.HalvesLaws.{word_question}
use Rattle.rule_compile.proofs.asked.Questions.ask_word.Goals as goal

pub returns : goal.returns
returns c = on_ok c.ask.result _ _
    (asks_like c.args.self.now c.ask.new.self c.args.answer (λ r. ⊤) (λ r. ⊤) _ _ (λ r seen. seen) (λ r seen. (
      λ met. eqb-true (bit_and (slice_index r (c.args.word / 4)) c.args.mask) c.args.number met,
      λ is. eq-eqb (bit_and (slice_index r (c.args.word / 4)) c.args.mask) c.args.number is,
    )))
    (c.ask.ensures.asks c.requires.last (word_question c.args.word c.args.mask c.args.number c.requires.offset c.requires.number))
