use Rattle.aside.specs.Judged.{IsJudged}
use Rattle.aside.proofs.judged.judge_but.Given as goal

abbrev pub invariant-loop : goal.invariant-loop
invariant-loop l =
    IsJudged l.document.native l.document.bytes l.filter l.behind.rest.now l.behind.answered.items l.leave l.but.aside.items
    l.but.judged.whole l.but.judged.evidence
