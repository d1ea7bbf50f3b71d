use Rattle.aside.proofs.FrontLaws.{if_ok}
use Rattle.aside.proofs.judged.judge_left.Goals as goal

pub returns-in-Ok : goal.returns-in-Ok
returns-in-Ok c =
    if_ok c.judge_beside.result _ _ (λ judged is. is c.args.document.now.native c.args.document.now.bytes c.in-Ok.ensures.ok c.requires.taken) c.judge_beside.ensures
