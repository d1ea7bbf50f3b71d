use Rattle.std.proofs.Common.{◌≡◌, ◌+◌, false, ap, arith, rules, sym, ◌∙◌}
use Rattle.std.specs.Prelude.{⊤, bit_and}
use Rattle.call_record.specs.Words.{IsRecord}
use Rattle.rule_compile.proofs.AskedLaws.{asks_like, on_ok}
use Rattle.rule_compile.proofs.HalvesLaws.{high_of_wide}
use Rattle.rule_compile.proofs.asked.Questions.ask_high.Goals as goal

pub returns-then-not-of : goal.returns-then-not-of
returns-then-not-of c =
    let next : c.saturating_add-high.result ≡ c.args.of.low + 4 = grind (arith, c.saturating_add-high.ensures, c.args.of.within) in
    let wide : c.args.of.narrow ≡ false = search rules in
    on_ok c.ask_word.result _ _
    (asks_like c.args.self.now c.ask_word.new.self c.args.answer (λ r. ⊤) IsRecord _ _ (λ r rec. tt) (λ r rec.
    let same = ap (λ u. bit_and u c.args.mask)
    (high_of_wide c.args.of.narrow c.args.of.low r c.saturating_add-high.result wide next rec) in
    (λ h. same ∙ h, λ h. sym same ∙ h)))
    c.ask_word.ensures
