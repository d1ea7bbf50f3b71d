use Rattle.std.proofs.Common.{inl, inr}
use Rattle.cli.proofs.all.judge.Goals as goal

pub returns-clause-written : goal.returns-clause-written
returns-clause-written g c =
    inl (c.write_judged.ensures.found c.args.document.now.native c.args.document.now.bytes c.args.filter.now c.judge_bundle-judged.ensures.found)

pub returns-in-Ok-Refuting-clause-written : goal.returns-in-Ok-Refuting-clause-written
returns-in-Ok-Refuting-clause-written g c = inr c.write_each.ensures.told
