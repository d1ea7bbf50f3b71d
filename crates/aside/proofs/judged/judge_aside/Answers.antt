use Rattle.std.proofs.Common.{List, ℕ, subst}
use Rattle.maker.specs.Certified.{IsJudgement}
use Rattle.aside.proofs.judged.judge_aside.Goals as goal

pub returns : goal.returns
returns c = λ native bundle means taken.
    c.of_same.ensures native bundle c.in-Ok-giving.same.items c.args.filter.now taken c.in-Ok-giving.ensures
    (subst (λ (same : List ℕ). IsJudgement native bundle same c.judge_filter-judged.result) c.deref-2.ensures.value
    (c.judge_filter-judged.ensures.found native bundle means))
