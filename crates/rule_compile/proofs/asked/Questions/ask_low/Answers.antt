use Rattle.std.proofs.Common.{◌≡◌, ◌/◌, ap, arith, sym, ◌∙◌}
use Rattle.std.specs.Prelude.{⊤, slice_index}
use Rattle.call_record.specs.Words.{IsRecord}
use Rattle.rule_compile.specs.Questions.{compares}
use Rattle.rule_compile.proofs.AskedLaws.{asks_like, on_ok}
use Rattle.rule_compile.proofs.asked.Questions.ask_low.Goals as goal

pub returns-then-above-eq0 : goal.returns-then-above-eq0
returns-then-above-eq0 c =
    let small : c.halves-number.result.0 ≡ c.args.number = omega (arith, c.halves-number.ensures.low, c.halves-number.ensures.high, c.if-above-eq0.true) in
    on_ok c.ask.result _ _
    (asks_like c.args.self.now c.ask.new.self c.args.answer (λ r. ⊤) IsRecord _ _ (λ r rec. tt) (λ r rec.
    let met = c.of_word-question.ensures.met r rec in
    let same = ap (λ n. compares c.args.comparison n (slice_index r (c.args.low / 4))) small in
    (λ h. sym same ∙ met.0 h, λ h. met.1 (same ∙ h))))
    (c.ask.ensures.asks c.requires.last c.of_word-question.ensures.is)
