use Rattle.std.proofs.Common.{Option, IfSome, Ok, inl, subst}
use Rattle.maker.specs.Certified.{IsJudgement}
use Rattle.maker.specs.declared.evidence.evidence.Counterexample.{Counterexample}
use Rattle.maker.specs.declared.evidence.evidence.Evidence.TheVariants.{Refuting}
use Rattle.compare.proofs.behind_runc.judged.judge_found.Goals as goal

pub returns-in-Some : goal.returns-in-Some
returns-in-Some c = λ native bundle means.
    let filter = c.args.filter.now in
    inl (
      subst (λ (o : Option Counterexample). IfSome o (λ whole. IsJudgement native bundle filter (Ok (Refuting whole)))) c.in-Some.is
          (c.of_whole.ensures native bundle filter c.requires.behind (c.requires.found native bundle means)),
      λ h. h,
    )
