use Rattle.compare.proofs.behind_runc.judged.judge_whole.Goals as goal

pub returns : goal.returns
returns c = λ native bundle rest answered means. c.judge_filter.ensures.found native bundle means
