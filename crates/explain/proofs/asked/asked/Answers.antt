use Rattle.std.proofs.Common.{ℕ, List, ◌∙◌, subst, sym}
use Rattle.explain.specs.Asked.{IsOnLine}
use Rattle.explain.proofs.asked.asked.Goals as goal

pub returns-clause-none : goal.returns-clause-none
returns-clause-none c = λ none r is.
    c.call_on.ensures.none none r
    (subst (λ (line : List ℕ). IsOnLine c.args.native line r) (sym (c.as_str.ensures.value ∙ c.in_ok-line.ensures)) is.on_line)
