-- A filter and a record have one answer.
use Rattle.std.proofs.Common.{◌≡◌, refl, ap, sym, ◌∙◌}
use Rattle.std.specs.Prelude.{Some, None}
use Rattle.kernel_check.specs.Accepted.{OneRefusal}
use Rattle.maker.specs.declared.verdict.Answer.TheVariants.{Verdict, NoRecord, NoProgram, Refusal}
use Rattle.maker.specs.Answer.{OneAnswer}

pub one_answer : OneRefusal → OneAnswer
one_answer law filter rec NoRecord NoRecord h g = refl
one_answer law filter rec NoRecord (NoProgram f) h g = absurd (h g.0)
one_answer law filter rec NoRecord (Refusal f) h g = absurd (h g.0)
one_answer law filter rec NoRecord (Verdict w) h g = absurd (h g.0)
one_answer law filter rec (NoProgram e) NoRecord h g = absurd (g h.0)
one_answer law filter rec (NoProgram e) (NoProgram f) h g = let s : Some e ≡ Some f = sym h.1 ∙ g.1 in cc
one_answer law filter rec (NoProgram e) (Refusal f) h g = let s : Some e ≡ None = sym h.1 ∙ g.1 in cc
one_answer law filter rec (NoProgram e) (Verdict w) h g = let s : Some e ≡ None = sym h.1 ∙ g.1 in cc
one_answer law filter rec (Refusal e) NoRecord h g = absurd (g h.0)
one_answer law filter rec (Refusal e) (NoProgram f) h g = let s : Some f ≡ None = sym g.1 ∙ h.1 in cc
one_answer law filter rec (Refusal e) (Refusal f) h g = ap Refusal (law.one _ e f h.2 g.2)
one_answer law filter rec (Refusal e) (Verdict w) h g = absurd (law.none _ e g.2 h.2)
one_answer law filter rec (Verdict v) NoRecord h g = absurd (g h.0)
one_answer law filter rec (Verdict v) (NoProgram f) h g = let s : Some f ≡ None = sym g.1 ∙ h.1 in cc
one_answer law filter rec (Verdict v) (Refusal f) h g = absurd (law.none _ f h.2 g.2)
one_answer law filter rec (Verdict v) (Verdict w) h g = let s : Some v ≡ Some w = sym h.3 ∙ g.3 in cc
