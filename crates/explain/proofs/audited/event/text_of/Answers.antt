use Rattle.std.proofs.Common.{List, ℕ, ap, sym, ◌∙◌}
use Rattle.std.specs.Prelude.{Some}
use Rattle.explain.proofs.FieldLaws.{in_no_text, in_text}
use Rattle.explain.proofs.audited.event.text_of.Goals as goal

pub returns-in-Ok : goal.returns-in-Ok
returns-in-Ok c = ap (λ (t : List ℕ). Some t) c.in-Ok.ensures.cases.0 ∙ sym (in_text c.args.value.now c.in-Ok.ensures.cases.1)

pub returns-in-Err : goal.returns-in-Err
returns-in-Err c = sym (in_no_text c.args.value.now c.in-Err.ensures.cases.0)
