use Rattle.std.specs.Prelude.{⊤}
use Rattle.call_record.specs.Words.{IsRecord}
use Rattle.rule_compile.proofs.AskedLaws.{asks_like, asks_then, on_ok}
use Rattle.rule_compile.proofs.HalvesLaws.{bits_of_argument, no_stray_halves}
use Rattle.rule_compile.proofs.asked.Questions.ask_bits.Goals as goal

pub ask_high-requires-clause-number : goal.ask_high-requires-clause-number
ask_high-requires-clause-number c =
    rw (c.halves-datum.ensures.high, c.halves-mask.ensures.high)
    ((no_stray_halves c.args.cond.now.value c.args.cond.now.datum c.requires.no_stray).0)

pub ask_word-requires-clause-number : goal.ask_word-requires-clause-number
ask_word-requires-clause-number c =
    rw (c.halves-datum.ensures.low, c.halves-mask.ensures.low)
    ((no_stray_halves c.args.cond.now.value c.args.cond.now.datum c.requires.no_stray).1)

pub returns : goal.returns
returns c =
    on_ok c.ask_word.result _ _
    (λ then. asks_like c.args.self.now c.ask_word.new.self c.args.answer IsRecord IsRecord _ _ (λ r rec. rec)
    (λ r rec. bits_of_argument c.args.of.narrow c.args.of.low c.args.cond.now.value c.args.cond.now.datum c.halves-mask.result.0
    c.halves-mask.result.1 c.halves-datum.result.0 c.halves-datum.result.1 c.halves-mask.ensures.low c.halves-mask.ensures.high
    c.halves-datum.ensures.low c.halves-datum.ensures.high r rec)
    (asks_then c.args.answer IsRecord c.args.self.now c.ask_high.new.self c.ask_word.new.self _ _ c.in_ok-ask_high.ensures
    (asks_like c.ask_high.new.self c.ask_word.new.self c.args.answer (λ r. ⊤) IsRecord _ _ (λ r rec. tt) (λ r rec. (λ h. h, λ h. h)) then)))
    c.ask_word.ensures
