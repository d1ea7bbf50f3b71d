use Rattle.maker.proofs.certifying.certify_bundle.Goals as goal

pub returns-clause-found : goal.returns-clause-found
returns-clause-found g c =
    c.write_judged.ensures.found c.args.document.now.native c.args.document.now.bytes c.args.filter.now c.judge_bundle-judged.ensures.found

pub returns-clause-own : goal.returns-clause-own
returns-clause-own g c = λ policy own.
    c.write_judged.ensures.own c.args.document.now.native c.args.document.now.bytes c.args.filter.now c.judge_bundle-judged.ensures.found
    (c.judge_bundle-judged.ensures.own policy own)
